-- Which stage of a document follows a line from the number of edges to the floor: by its last line, a text doesn't lead to the others.
use Rattle.std.proofs.Common.{◌≡◌, ℕ, ◌+◌, ◌-◌, ◌<◌, ◌⊎◌, inl, inr, true, false, List, [], ◌∷◌, ◌++◌, length, get_or, map, Bool, Option, None, Some, refl, sym, ◌∙◌, ap, subst, arith, append_assoc, length-append}
use Rattle.std.specs.Prelude.{codes, decimal, nat_lt, if◌then◌else◌}
use Rattle.std.proofs.lemmas.Bool.{cases_order}
use Rattle.std.proofs.lemmas.List.{append-nil, get_or_at, get_or_append_left, get_or-append-add}
use Rattle.bp_base.specs.Tree.{leaf_count}
use Rattle.bp_tree.specs.declared.edge.Edge.{Edge}
use Rattle.bp_document.specs.declared.head.Head.{Head}
use Rattle.bp_document.specs.declared.node_line.NodeLine.{NodeLine}
use Rattle.bp_document.specs.declared.stage.Stage.{Stage}
use Rattle.bp_document.specs.Lines.{line}
use Rattle.bp_document.specs.Forms.{IsLine, IsProofCount, end_line, proof_line, version_line}
use Rattle.bp_document.specs.Places.{Place, AtPoint, AtFloor, AtProof, AtEnd, LeadsTo, floor_part, next_leaf, nodes_part}
use Rattle.bp_document.specs.Faults.{HasForm}
use Rattle.bp_document.specs.Stages.{GivesNode, Stands, head_of, place_of}
use Rattle.bp_document.proofs.Leads.{leads}
use Rattle.bp_document.proofs.OneAnswer.{reaches_place}
use Rattle.bp_document.proofs.Runs.{bare, bare_line, unlines}
use Rattle.bp_document.proofs.Spelling.{NoEnd, end_spelled, form_short, proof_spelled, version_spelled}
use Rattle.bp_certificate.specs.Stages.{IsBodyStage}

-- the stage behind a line of the body: that of another one, or of the proof line
abbrev pub IsBehindBody : Stage → Type 0
IsBehindBody (Stage.Proof p m side) = Unit {0}
IsBehindBody s = IsBodyStage s

abbrev at : ℕ → List ℕ → ℕ
at k l = get_or l k 0

-- A text that is empty or ends with LF.
abbrev EndsLine : List ℕ → Type 0
EndsLine a = (a ≡ []) ⊎ ((c : List ℕ) × (a ≡ c ++ 10 ∷ []))

unlines_end : (bs : List (List ℕ)) → EndsLine (unlines bs)
unlines_end [] = inl refl
unlines_end (b ∷ bs) = elim (unlines_end bs) [
  | inl none ↦ inr (b, ap (λ (t : List ℕ). (b ++ 10 ∷ []) ++ t) none ∙ append-nil (b ++ 10 ∷ []))
  | inr more ↦ inr ((b ++ 10 ∷ []) ++ more.0, ap (λ (t : List ℕ). (b ++ 10 ∷ []) ++ t) more.1 ∙ sym (append_assoc (b ++ 10 ∷ []) more.0 (10 ∷ [])))
]

ends_there : (text : List ℕ) (place : Place) → LeadsTo text place → EndsLine text
ends_there text place leads = let r = reaches_place text place leads in subst EndsLine (sym r.1.is) (unlines_end r.1.lines)

-- the last line of a text is no longer than another reading of it
no_shorter : (a b c d : List ℕ) → EndsLine a → NoEnd d → a ++ (b ++ 10 ∷ []) ≡ c ++ (d ++ 10 ∷ []) → length b < length d → ⊥
no_shorter a b c d ends free same less = elim ends [
  | inl none ↦ omega (arith, less, total, ap length none)
  | inr more ↦
      let e = more.0 in
      let long : length a ≡ length e + 1 = ap length more.1 ∙ length-append e (10 ∷ []) in
      let there : length e ≡ length c + (length e - length c) = omega (arith, less, total, long) in
      let near : length e - length c < length d = omega (arith, less, total, long) in
      let mine : at (length e) (a ++ (b ++ 10 ∷ [])) ≡ 10 =
      ap (λ (t : List ℕ). at (length e) (t ++ (b ++ 10 ∷ []))) more.1 ∙ ap (at (length e)) (append_assoc e (10 ∷ []) (b ++ 10 ∷ [])) ∙ get_or_at e 10 (b ++ 10 ∷ []) 0 (length e) refl in
      let other : at (length e) (c ++ (d ++ 10 ∷ [])) ≡ at (length e - length c) d =
      ap (λ (n : ℕ). at n (c ++ (d ++ 10 ∷ []))) there ∙ get_or-append-add c (d ++ 10 ∷ []) (length e - length c) 0
      ∙ get_or_append_left d (10 ∷ []) 0 (length e - length c) near in
      free (length e - length c) 0 near (sym other ∙ ap (at (length e)) (sym same) ∙ mine)
]
  where
    total : length a + (length b + 1) ≡ length c + (length d + 1)
    total = omega (arith, length-append a (b ++ 10 ∷ []), length-append b (10 ∷ []), ap length same, length-append c (d ++ 10 ∷ []), length-append d (10 ∷ []))

-- so both readings have the same bytes
same_letters : (a b c d : List ℕ) → EndsLine a → EndsLine c → NoEnd b → NoEnd d → a ++ (b ++ 10 ∷ []) ≡ c ++ (d ++ 10 ∷ []) → (k : ℕ) → at k (b ++ 10 ∷ []) ≡ at k (d ++ 10 ∷ [])
same_letters a b c d ends ends' free free' same k = elim (cases_order (length b) (length d)) [
  | inr (inl less) ↦ absurd (no_shorter a b c d ends free' same less)
  | inr (inr more) ↦ absurd (no_shorter c d a b ends' free (sym same) more)
  | inl equal ↦
      let long : length a ≡ length c = omega (arith, equal, length-append a (b ++ 10 ∷ []), length-append b (10 ∷ []), ap length same, length-append c (d ++ 10 ∷ []), length-append d (10 ∷ [])) in
      sym (get_or-append-add a (b ++ 10 ∷ []) k 0) ∙ ap (at (length a + k)) same ∙ ap (λ (n : ℕ). at (n + k) (c ++ (d ++ 10 ∷ []))) long
      ∙ get_or-append-add c (d ++ 10 ∷ []) k 0
]

-- the first bytes of a line
letters : (a b c : ℕ) (more : List ℕ) (ws : List (List ℕ)) (l : List ℕ) → l ≡ line (a ∷ b ∷ c ∷ more) ws → (at 0 l ≡ a) × (at 1 l ≡ b) × (at 2 l ≡ c)
unfolding line
letters a b c more ws l same = (ap (at 0) same, ap (at 1) same, ap (at 2) same)

-- a line of the body is none of those that stand elsewhere
record IsBodyLine (l : List ℕ) : Type 0 where
  proof : at 0 l ≡ 112 → at 1 l ≡ 114 → ⊥
  last : at 0 l ≡ 101 → at 1 l ≡ 110 → ⊥
  version : at 2 l ≡ 120 → ⊥

module _ (l : List ℕ) (ws : List (List ℕ)) where
  edges_line : l ≡ line (codes "edges") ws → IsBodyLine l
  edges_line is = let h = letters 101 100 103 (codes "es") ws l is in record { proof = λ p q. omega (arith, h.0, p); last = λ p q. omega (arith, h.1, q); version = λ p. omega (arith, h.2, p) }

  edge_line : l ≡ line (codes "edge") ws → IsBodyLine l
  edge_line is = let h = letters 101 100 103 (codes "e") ws l is in record { proof = λ p q. omega (arith, h.0, p); last = λ p q. omega (arith, h.1, q); version = λ p. omega (arith, h.2, p) }

  side_line : l ≡ line (codes "side") ws → IsBodyLine l
  side_line is = let h = letters 115 105 100 (codes "e") ws l is in record { proof = λ p q. omega (arith, h.0, p); last = λ p q. omega (arith, h.0, p); version = λ p. omega (arith, h.2, p) }

  bound_line : l ≡ line (codes "bound") ws → IsBodyLine l
  bound_line is = let h = letters 98 111 117 (codes "nd") ws l is in record { proof = λ p q. omega (arith, h.0, p); last = λ p q. omega (arith, h.0, p); version = λ p. omega (arith, h.2, p) }

  point_line : l ≡ line (codes "point") ws → IsBodyLine l
  point_line is = let h = letters 112 111 105 (codes "nt") ws l is in record { proof = λ p q. omega (arith, h.1, q); last = λ p q. omega (arith, h.0, p); version = λ p. omega (arith, h.2, p) }

  floor_line : l ≡ line (codes "floor") ws → IsBodyLine l
  floor_line is = let h = letters 102 108 111 (codes "or") ws l is in record { proof = λ p q. omega (arith, h.0, p); last = λ p q. omega (arith, h.0, p); version = λ p. omega (arith, h.2, p) }

body_line : (s : Stage) (es : List Edge) (bytes : List ℕ) → IsBodyStage s → HasForm (place_of s es) bytes → IsBodyLine (bytes ++ 10 ∷ [])
body_line (Stage.Edges G m) es bytes body form = edges_line (bytes ++ 10 ∷ []) (decimal form.0 ∷ []) form.1.text
body_line (Stage.Edge G count left m) es bytes body form = edge_line (bytes ++ 10 ∷ []) (form.0.upper ∷ form.0.lower ∷ decimal form.0.length ∷ []) form.1.text
body_line (Stage.Side p) es bytes body form = side_line (bytes ++ 10 ∷ []) (decimal form.0 ∷ []) form.1.text
body_line (Stage.Bound p) es bytes body form = bound_line (bytes ++ 10 ∷ []) (decimal form.0 ∷ []) form.1.text
body_line (Stage.Points p) es bytes body form = go (nat_lt (length p.points) (leaf_count p.tree)) form
  where
    go : (b : Bool) → HasForm (if b then AtPoint (next_leaf (head_of p 0 0)) else AtFloor) bytes → IsBodyLine (bytes ++ 10 ∷ [])
    go true form = point_line (bytes ++ 10 ∷ []) (form.0 ∷ decimal form.1.x ∷ decimal form.1.y ∷ []) form.2.text
    go false form = floor_line (bytes ++ 10 ∷ []) (decimal form.0.m ∷ decimal form.0.side ∷ map decimal form.0.leaves) form.1.text
body_line (Stage.Proof p m side) es bytes body form = absurd body
body_line (Stage.Version m) es bytes body form = absurd body
body_line (Stage.Sheet m) es bytes body form = absurd body
body_line (Stage.Nodes H left most) es bytes body form = absurd body
body_line (Stage.Behind H) es bytes body form = absurd body
body_line (Stage.Broken told) es bytes body form = absurd body

-- the proof line, without its LF
proof_bare : (count : Option ℕ) → IsProofCount count → (b : List ℕ) × IsLine b (proof_line count) × NoEnd b × (at 0 (b ++ 10 ∷ []) ≡ 112) × (at 1 (b ++ 10 ∷ []) ≡ 114)
proof_bare None range =
    let here = bare_line (codes "proof") (codes "none" ∷ []) in
    let h = letters 112 114 111 (codes "of") (codes "none" ∷ []) (bare (codes "proof") (codes "none" ∷ []) ++ 10 ∷ []) here in
    (bare (codes "proof") (codes "none" ∷ []), here, (proof_spelled (bare (codes "proof") (codes "none" ∷ [])) None (record { text = here; range = range })).1.free, h.0, h.1)
proof_bare (Some n) range =
    let here = bare_line (codes "proof") (decimal n ∷ []) in
    let h = letters 112 114 111 (codes "of") (decimal n ∷ []) (bare (codes "proof") (decimal n ∷ []) ++ 10 ∷ []) here in
    (bare (codes "proof") (decimal n ∷ []), here, (proof_spelled (bare (codes "proof") (decimal n ∷ [])) (Some n) (record { text = here; range = range })).1.free, h.0, h.1)

-- A text with a line of the body behind it.
module _ (text bytes : List ℕ) (s : Stage) (es : List Edge) (body : IsBodyStage s) (stands : Stands text es [] s) (form : HasForm (place_of s es) bytes) where
  ends : EndsLine text
  ends = ends_there text (place_of s es) (leads text es [] s stands)

  free : NoEnd bytes
  free = (form_short (place_of s es) bytes form).0

  is_body : IsBodyLine (bytes ++ 10 ∷ [])
  is_body = body_line s es bytes body form

  not_empty : text ++ (bytes ++ 10 ∷ []) ≡ [] → ⊥
  not_empty none = omega (arith, ap length none, length-append text (bytes ++ 10 ∷ []), length-append bytes (10 ∷ []))

  not_version : text ++ (bytes ++ 10 ∷ []) ≡ version_line 2 → ⊥
  not_version is =
      let here = bare_line (codes "boxpleat") (decimal 2 ∷ []) in
      let h = letters 98 111 120 (codes "pleat") (decimal 2 ∷ []) (bare (codes "boxpleat") (decimal 2 ∷ []) ++ 10 ∷ []) here in
      let spelled = version_spelled (bare (codes "boxpleat") (decimal 2 ∷ [])) 2 (omega arith) here in
      is_body.version (same_letters text bytes [] (bare (codes "boxpleat") (decimal 2 ∷ [])) ends (inl refl) free spelled.free (is ∙ sym here) 2 ∙ h.2)

  not_nodes : (H : Head) (next : List Edge) (left : ℕ) (most : Option ℕ) → Stands (text ++ (bytes ++ 10 ∷ [])) next [] (Stage.Nodes H left most) → ⊥
  not_nodes H next left most there =
      let start = there.0 in
      let head = there.1 in
      let b = proof_bare H.proof head.proof in
      let ended : EndsLine (start.0 ++ floor_part H) = ends_there (start.0 ++ floor_part H) AtProof (H, (start.0, start.1, refl), head.points, head.each, head.floor) in
      let is : text ++ (bytes ++ 10 ∷ []) ≡ (start.0 ++ floor_part H) ++ (b.0 ++ 10 ∷ []) =
      start.2 ∙ ap (λ (t : List ℕ). start.0 ++ t) (append-nil (floor_part H ++ proof_line H.proof)) ∙ sym (append_assoc start.0 (floor_part H) (proof_line H.proof))
      ∙ ap (λ (t : List ℕ). (start.0 ++ floor_part H) ++ t) (sym b.1) in
      is_body.proof (same_letters text bytes (start.0 ++ floor_part H) b.0 ends ended free b.2 is 0 ∙ b.3) (same_letters text bytes (start.0 ++ floor_part H) b.0 ends ended free b.2 is 1 ∙ b.4)

  not_behind : (H : Head) (next : List Edge) → Stands (text ++ (bytes ++ 10 ∷ [])) next [] (Stage.Behind H) → ⊥
  not_behind H next there =
      let start = there.0 in
      let here = bare_line (codes "end") [] in
      let h = letters 101 110 100 [] [] (bare (codes "end") [] ++ 10 ∷ []) here in
      let spelled = end_spelled (bare (codes "end") []) here in
      let ended : EndsLine (start.0 ++ nodes_part H []) = ends_there (start.0 ++ nodes_part H []) AtEnd (H, [], (start.0, start.1, refl), there.1, tt, there.3) in
      let is : text ++ (bytes ++ 10 ∷ []) ≡ (start.0 ++ nodes_part H []) ++ (bare (codes "end") [] ++ 10 ∷ []) =
      start.2 ∙ sym (append_assoc start.0 (nodes_part H []) end_line) ∙ ap (λ (t : List ℕ). (start.0 ++ nodes_part H []) ++ t) (sym here) in
      is_body.last (same_letters text bytes (start.0 ++ nodes_part H []) (bare (codes "end") []) ends ended free spelled.free is 0 ∙ h.0)
      (same_letters text bytes (start.0 ++ nodes_part H []) (bare (codes "end") []) ends ended free spelled.free is 1 ∙ h.1)

-- only a line of the body, or the proof line, follows a line of the body
pub next_in_body : (text bytes : List ℕ) (s d : Stage) (es next : List Edge) → IsBodyStage s → Stands text es [] s → HasForm (place_of s es) bytes → Stands (text ++ (bytes ++ 10 ∷ [])) next [] d → IsBehindBody d
next_in_body text bytes s (Stage.Version m) es next body stands form there = not_empty text bytes s es body stands form there.0
next_in_body text bytes s (Stage.Sheet m) es next body stands form there = not_version text bytes s es body stands form there.0
next_in_body text bytes s (Stage.Edges G m) es next body stands form there = tt
next_in_body text bytes s (Stage.Edge G count left m) es next body stands form there = tt
next_in_body text bytes s (Stage.Side p) es next body stands form there = tt
next_in_body text bytes s (Stage.Bound p) es next body stands form there = tt
next_in_body text bytes s (Stage.Points p) es next body stands form there = tt
next_in_body text bytes s (Stage.Proof p m side) es next body stands form there = tt
next_in_body text bytes s (Stage.Nodes H left most) es next body stands form there = not_nodes text bytes s es body stands form H next left most there
next_in_body text bytes s (Stage.Behind H) es next body stands form there = not_behind text bytes s es body stands form H next there
next_in_body text bytes s (Stage.Broken told) es next body stands form there = there

-- a line of the body gives no node
pub no_node : (s : Stage) (es : List Edge) (bytes : List ℕ) (node : Option NodeLine) → IsBodyStage s → GivesNode (place_of s es) bytes node → node ≡ None
no_node s es bytes None body gives = refl
no_node (Stage.Edges G m) es bytes (Some l) body gives = absurd gives
no_node (Stage.Edge G count left m) es bytes (Some l) body gives = absurd gives
no_node (Stage.Side p) es bytes (Some l) body gives = absurd gives
no_node (Stage.Bound p) es bytes (Some l) body gives = absurd gives
no_node (Stage.Points p) es bytes (Some l) body gives = absurd (go (nat_lt (length p.points) (leaf_count p.tree)) gives)
  where
    go : (b : Bool) → GivesNode (if b then AtPoint (next_leaf (head_of p 0 0)) else AtFloor) bytes (Some l) → ⊥
    go true gives = gives
    go false gives = gives
no_node (Stage.Proof p m side) es bytes (Some l) body gives = absurd body
no_node (Stage.Version m) es bytes (Some l) body gives = absurd body
no_node (Stage.Sheet m) es bytes (Some l) body gives = absurd body
no_node (Stage.Nodes H left most) es bytes (Some l) body gives = absurd body
no_node (Stage.Behind H) es bytes (Some l) body gives = absurd body
no_node (Stage.Broken told) es bytes (Some l) body gives = absurd body
