-- Nodes that follow one another are those of a refutation, and a whole text is that of a document.
use Rattle.std.proofs.Common.{◌≡◌, ℕ, zero, suc, ◌+◌, ◌-◌, ◌≤◌, ◌⊎◌, inl, inr, List, [], ◌∷◌, ◌++◌, length, get_or, take, Option, None, Some, refl, sym, ◌∙◌, ap, subst, arith, append_assoc, length-append}
use Rattle.std.specs.Prelude.{codes, decimal}
use Rattle.std.specs.List.{flat_map, AllByRecursion}
use Rattle.std.proofs.lemmas.List.{append-nil, length-take-le}
use Rattle.bp_base.specs.declared.refutation.Refutation.{Refutation}
use Rattle.bp_base.specs.declared.refutation.Refutation.TheVariants.{Split, Closed, Open}
use Rattle.bp_base.specs.declared.point.Sheet.TheVariants.{Square}
use Rattle.bp_base.specs.Limits.{most_document_bytes, most_proof_lines}
use Rattle.bp_metric.specs.Metric.{IsSheet}
use Rattle.bp_metric.specs.Nodes.{node_count_of}
use Rattle.bp_document.specs.declared.builder.Branch.{Branch}
use Rattle.bp_document.specs.declared.head.Head.{Head}
use Rattle.bp_document.specs.declared.node_line.NodeKind.{NodeKind}
use Rattle.bp_document.specs.declared.node_line.NodeLine.{NodeLine}
use Rattle.bp_document.specs.Lines.{line, sheet_line}
use Rattle.bp_document.specs.Ranges.{IsProof, HasProof}
use Rattle.bp_document.specs.Text.{proof_lines, body_text, first_text, doc_text, node_lines}
use Rattle.bp_document.specs.Forms.{proof_line, end_line, IsProofCount}
use Rattle.bp_document.specs.Nodes.{node_text}
use Rattle.bp_document.specs.Places.{StartsThen, nodes_part, floor_part, IsHead, Follow, deepest, count_of}
use Rattle.bp_document.specs.Faults.{IsTextOf}
use Rattle.bp_document.specs.Told.{node_at, node_list, document_of, IsProofTold, IsToldBy}
use Rattle.bp_document.specs.Built.{told}
use Rattle.bp_document.proofs.NodeLists.{IsFine, list-closed, list-open, has_lines, keeps_ranges, follow_fine, with_child, new_branch, told_last, told_closed, told_new, told_one, parted}

abbrev no_branch : Branch
no_branch = new_branch (record { i = 0; j = 0 })

front_length : (bs : List Branch) → length (take (length bs - 1) bs) ≡ length bs - 1
front_length bs = length-take-le (length bs - 1) bs (omega arith)

-- a child more
child_of : (cs : List Branch) (r : Refutation) → 1 ≤ length cs → (es : List Branch) × (length es ≡ length cs) × (told 0 es ≡ told 0 cs ++ node_list r (length cs))
child_of cs r some =
    let front = take (length cs - 1) cs in
    let last = get_or cs (length cs - 1) no_branch in
    let is : cs ≡ front ++ last ∷ [] = parted cs no_branch some in
    let long : length front + 1 ≡ length cs = omega (arith, front_length cs, some) in (
      front ++ with_child last r ∷ [],
      omega (arith, length-append front (with_child last r ∷ []), long),
      told_last front last r ∙ ap (λ (t : List Branch). told 0 t ++ node_list r (length front + 1)) (sym is) ∙ ap (λ (d : ℕ). told 0 cs ++ node_list r d) long,
    )

-- closing the last
close_last : (bs : List Branch) → 2 ≤ length bs → (cs : List Branch) × (length cs + 1 ≡ length bs) × (told 0 cs ≡ told 0 bs)
close_last bs some =
    let front = take (length bs - 1) bs in
    let last = get_or bs (length bs - 1) no_branch in
    let is : bs ≡ front ++ last ∷ [] = parted bs no_branch (omega (arith, some)) in
    let child = child_of front (Split last.pair last.children) (omega (arith, front_length bs, some)) in
    (child.0, omega (arith, child.1, front_length bs, some), child.2 ∙ sym (told_closed front last) ∙ ap (told 0) (sym is))

close_by : (n : ℕ) (bs : List Branch) (d : ℕ) → 1 ≤ d → length bs ≡ d + n → (cs : List Branch) × (length cs ≡ d) × (told 0 cs ≡ told 0 bs)
close_by zero bs d some long = (bs, omega (arith, long), refl)
close_by (suc n) bs d some long =
    let one = close_last bs (omega (arith, some, long)) in
    let rest = close_by n one.0 d some (omega (arith, one.1, long)) in
    (rest.0, rest.1, rest.2 ∙ one.2)

-- a node more
add_node : (cs : List Branch) (d : ℕ) (kind : NodeKind) → 1 ≤ d → length cs ≡ d → (es : List Branch) × (length es ≡ deepest kind d) × (told 0 es ≡ told 0 cs ++ node_at d kind ∷ [])
add_node cs d (NodeKind.Split p) some long = (cs ++ new_branch p ∷ [], omega (arith, long, length-append cs (new_branch p ∷ [])), told_new cs p ∙ ap (λ (k : ℕ). told 0 cs ++ node_at k (NodeKind.Split p) ∷ []) long)
add_node cs d (NodeKind.Closed claim) some long =
    let child = child_of cs (Closed claim) (omega (arith, some, long)) in
    (child.0, omega (arith, child.1, long), child.2 ∙ ap (λ (t : List NodeLine). told 0 cs ++ t) (list-closed claim (length cs)) ∙ ap (λ (k : ℕ). told 0 cs ++ node_at k (NodeKind.Closed claim) ∷ []) long)
add_node cs d (NodeKind.Open claim) some long =
    let child = child_of cs (Open claim) (omega (arith, some, long)) in
    (child.0, omega (arith, child.1, long), child.2 ∙ ap (λ (t : List NodeLine). told 0 cs ++ t) (list-open claim (length cs)) ∙ ap (λ (k : ℕ). told 0 cs ++ node_at k (NodeKind.Open claim) ∷ []) long)

only_one : (cs : List Branch) → length cs ≡ 1 → (r : Refutation) × (node_list r 0 ≡ told 0 cs)
only_one [] one = absurd (omega (arith, one))
only_one (c ∷ []) one = (Split c.pair c.children, sym (told_one c 0))
only_one (c ∷ d ∷ cs) one = absurd (omega (arith, one))

grow : (bs : List Branch) (done rest : List NodeLine) → 1 ≤ length bs → told 0 bs ≡ done → Follow (Some (length bs)) rest → (r : Refutation) × (node_list r 0 ≡ done ++ rest)
grow bs done [] some is follow =
    let one = close_by (length bs - 1) bs 1 (omega arith) (omega (arith, some)) in
    let r = only_one one.0 one.1 in
    (r.0, r.1 ∙ one.2 ∙ is ∙ sym (append-nil done))
grow bs done (l ∷ rest) some is follow =
    let shut = close_by (length bs - l.depth) bs l.depth follow.1.0 (omega (arith, follow.1.1)) in
    let added = add_node shut.0 l.depth l.kind follow.1.0 shut.1 in
    let here : told 0 added.0 ≡ done ++ l ∷ [] = added.2 ∙ ap (λ (t : List NodeLine). t ++ l ∷ []) (shut.2 ∙ is) in
    let more : Follow (Some (length added.0)) rest = subst (λ (d : ℕ). Follow (Some d) rest) (sym added.1) follow.2 in
    let some' : 1 ≤ length added.0 = subst (λ (d : ℕ). 1 ≤ d) (sym added.1) (deep l.kind) in
    let r = grow added.0 (done ++ l ∷ []) rest some' here more in
    (r.0, r.1 ∙ append_assoc done (l ∷ []) rest)
  where
    deep : (kind : NodeKind) → 1 ≤ deepest kind l.depth
    deep (NodeKind.Split p) = omega arith
    deep (NodeKind.Closed claim) = follow.1.0
    deep (NodeKind.Open claim) = follow.1.0

no_more : (rest : List NodeLine) (depth : ℕ) → depth ≡ 0 → Follow (Some depth) rest → rest ≡ []
no_more [] depth none follow = refl
no_more (l ∷ rest) depth none follow = absurd (omega (arith, follow.1.0, follow.1.1, none))

grown : (depth : ℕ) (kind : NodeKind) (rest : List NodeLine) → Follow None (node_at depth kind ∷ rest) → (r : Refutation) × (node_list r 0 ≡ node_at depth kind ∷ rest)
grown depth (NodeKind.Split p) rest follow =
    let more : Follow (Some 1) rest = subst (λ (d : ℕ). Follow (Some (d + 1)) rest) follow.1 follow.2 in
    let r = grow (new_branch p ∷ []) (node_at 0 (NodeKind.Split p) ∷ []) rest (omega arith) refl more in
    (r.0, r.1 ∙ ap (λ (d : ℕ). node_at d (NodeKind.Split p) ∷ rest) (sym follow.1))
grown depth (NodeKind.Closed claim) rest follow =
    (Closed claim, list-closed claim 0 ∙ ap (λ (d : ℕ). node_at d (NodeKind.Closed claim) ∷ []) (sym follow.1) ∙ ap (λ (t : List NodeLine). node_at depth (NodeKind.Closed claim) ∷ t) (sym (no_more rest depth follow.1 follow.2)))
grown depth (NodeKind.Open claim) rest follow =
    (Open claim, list-open claim 0 ∙ ap (λ (d : ℕ). node_at d (NodeKind.Open claim) ∷ []) (sym follow.1) ∙ ap (λ (t : List NodeLine). node_at depth (NodeKind.Open claim) ∷ t) (sym (no_more rest depth follow.1 follow.2)))

-- the refutation of nodes
pub refutation_of : (ns : List NodeLine) → Follow None ns → 1 ≤ length ns → (r : Refutation) × (node_list r 0 ≡ ns)
refutation_of [] follow some = absurd (omega (arith, some))
refutation_of (l ∷ ls) follow some = grown l.depth l.kind ls follow

pub is_proof : (r : Refutation) (ns : List NodeLine) → node_list r 0 ≡ ns → Follow None ns → length ns ≤ most_proof_lines → IsProof r
is_proof r ns is follow few =
    let ranges = keeps_ranges r 0 (subst (λ (t : List NodeLine). AllByRecursion IsFine t) (sym is) (follow_fine None ns follow)) in
    record { lines = omega (arith, (has_lines r 0).1, ap length is, few); depth = omega (arith, ranges.0); parts = ranges.1 }

-- the lines of a proof are the line before its nodes and theirs
pub proof_text : (proof : Option Refutation) (count : Option ℕ) (ns : List NodeLine) → IsProofTold proof count ns → proof_lines proof ≡ proof_line count ++ flat_map node_text ns
unfolding proof_lines
proof_text None None ns is = sym (ap (λ (t : List NodeLine). proof_line None ++ flat_map node_text t) is ∙ append-nil (proof_line None))
proof_text None (Some count) ns is = absurd is
proof_text (Some r) None ns is = absurd is
proof_text (Some r) (Some count) ns is =
    let counted : node_count_of r ≡ count = (has_lines r 0).1 ∙ ap length is.0 ∙ sym is.1 in
    ap (λ (n : ℕ). line (codes "proof") (decimal n ∷ []) ++ node_lines r 0) counted
    ∙ ap (λ (t : List ℕ). line (codes "proof") (decimal count ∷ []) ++ t) ((has_lines r 0).0 ∙ ap (flat_map node_text) is.0)

module _ (H : Head) (ns : List NodeLine) (proof : Option Refutation) (told_proof : IsProofTold proof H.proof ns) where
  pub told_by : IsToldBy (document_of H proof) H ns
  told_by = record { tree = refl; side = refl; bound = refl; points = refl; floor = refl; sheet = refl; proof = told_proof }

  pub body_is : body_text (document_of H proof) ≡ nodes_part H ns ++ end_line
  unfolding body_text
  body_is =
      ap (λ (t : List ℕ). (floor_part H ++ t) ++ end_line) (proof_text proof H.proof ns told_proof)
      ∙ ap (λ (t : List ℕ). t ++ end_line) (sym (append_assoc (floor_part H) (proof_line H.proof) (flat_map node_text ns)))

  text_is : (text : List ℕ) → StartsThen text H.sheet (nodes_part H ns ++ end_line) → ((text ≡ first_text (document_of H proof)) × (H.sheet ≡ Square)) ⊎ (text ≡ doc_text (document_of H proof))
  unfolding first_text doc_text
  text_is text start = elim start.1 [
    | inl first ↦ inl (start.2 ∙ ap (λ (t : List ℕ). t ++ (nodes_part H ns ++ end_line)) first.0 ∙ ap (λ (t : List ℕ). line (codes "boxpleat") (decimal 1 ∷ []) ++ t) (sym body_is), first.1)
    | inr second ↦ inr (start.2 ∙ ap (λ (t : List ℕ). t ++ (nodes_part H ns ++ end_line)) second.0 ∙ ap (λ (t : List ℕ). (line (codes "boxpleat") (decimal 2 ∷ []) ++ sheet_line H.sheet) ++ t) (sym body_is))
  ]

  is_sheet : (text part : List ℕ) → StartsThen text H.sheet part → IsSheet H.sheet
  is_sheet text part start = elim start.1 [
    | inl first ↦ subst IsSheet (sym first.1) tt
    | inr second ↦ second.1
  ]

  has_proof : (p : Option Refutation) (count : Option ℕ) → H.proof ≡ count → IsProofTold p count ns → IsHead H → Follow None ns → HasProof p
  has_proof None count same is head follow = tt
  has_proof (Some r) None same is head follow = absurd is
  has_proof (Some r) (Some count) same is head follow =
      let range = subst IsProofCount same head.proof in
      is_proof r ns is.0 follow (omega (arith, is.1, range.1))

  pub is_text : (text : List ℕ) → StartsThen text H.sheet (nodes_part H ns ++ end_line) → IsHead H → Follow None ns → length text ≤ most_document_bytes → IsTextOf text (document_of H proof)
  is_text text start head follow short =
      record {
        short = short;
        document = record {
          tree = head.points.tree;
          side = head.points.side;
          bound = head.points.bound;
          each = head.each;
          points = head.points.points;
          floor = head.floor;
          proof = has_proof proof H.proof refl told_proof head follow;
          sheet = is_sheet text (nodes_part H ns ++ end_line) start;
        };
        text = text_is text start;
      }

no_nodes_left : (ns : List NodeLine) → length ns ≡ 0 → ns ≡ []
no_nodes_left [] none = refl
no_nodes_left (l ∷ ls) none = absurd (omega (arith, none))

-- nodes are those of a proof that the head tells of
pub proof_of : (H : Head) (ns : List NodeLine) → IsHead H → Follow None ns → length ns ≡ count_of H.proof → (proof : Option Refutation) × IsProofTold proof H.proof ns
proof_of H ns head follow count = go H.proof head.proof count
  where
    go : (told_count : Option ℕ) → IsProofCount told_count → length ns ≡ count_of told_count → (proof : Option Refutation) × IsProofTold proof told_count ns
    go None range same = (None, no_nodes_left ns same)
    go (Some n) range same =
        let r = refutation_of ns follow (omega (arith, range.0, same)) in
        (Some r.0, (r.1, sym same))
