-- Bytes have one answer: the text of one document, or one first fault.
use Rattle.std.proofs.Common.{◌≡◌, ℕ, suc, ◌+◌, ◌<◌, ◌≤◌, ◌==◌, ◌⊎◌, inl, inr, true, false, List, [], ◌∷◌, ◌++◌, length, get_or, drop, map, Bool, Option, None, Some, refl, sym, ◌∙◌, ap, subst, arith, append_assoc, length-append}
use Rattle.std.specs.Prelude.{codes, decimal, if◌then◌else◌}
use Rattle.std.specs.List.{flat_map, count_by}
use Rattle.std.proofs.lemmas.Bool.{cases_order, lt-ltb, le-ltb}
use Rattle.std.proofs.lemmas.List.{append-nil, get_or_at}
use Rattle.bp_base.specs.declared.refutation.Refutation.{Refutation}
use Rattle.bp_base.specs.Limits.{most_number}
use Rattle.bp_base.specs.Tree.{IsTree, leaf_count}
use Rattle.bp_metric.specs.Nodes.{node_count_of}
use Rattle.bp_tree.specs.Edges.{HasEdges}
use Rattle.bp_document.specs.declared.document.Document.{Document}
use Rattle.bp_document.specs.declared.fault.DocKind.{DocKind}
use Rattle.bp_document.specs.declared.fault.DocKind.TheVariants.{TooLong, Trailing, Cut, BadForm, BadTree, BadPoint, BadDepth}
use Rattle.bp_document.specs.declared.fault.DocFault.{DocFault}
use Rattle.bp_document.specs.declared.head.Head.{Head}
use Rattle.bp_document.specs.declared.node_line.NodeLine.{NodeLine}
use Rattle.bp_document.specs.Lines.{line, sheet_line, floor_line}
use Rattle.bp_document.specs.Ranges.{HasProof, IsFloorLine}
use Rattle.bp_document.specs.Text.{edge_lines, point_lines, first_text, doc_text}
use Rattle.bp_document.specs.Forms.{edge_text, proof_line, version_line, end_line, IsProofCount}
use Rattle.bp_document.specs.Nodes.{node_text}
use Rattle.bp_document.specs.Places.{Place, AtVersion, AtSheet, AtEdges, AtEdge, AtSide, AtBound, AtPoint, AtFloor, AtProof, AtNode, AtEnd, Behind, StartsThen, side_part, points_part, floor_part, nodes_part, HasPoints, IsHead, Follow, deepest_behind, next_leaf, count_of, LeadsTo}
use Rattle.bp_document.specs.Faults.{HasKind, IsFirstKind, order, HasLine, IsFaultAt, IsDocFault, IsTextOf, HasOneAnswer}
use Rattle.bp_document.specs.Told.{document_of, node_list, IsProofTold}
use Rattle.bp_document.proofs.BodySteps.{no_point_lines}
use Rattle.bp_document.proofs.Documents.{body_is}
use Rattle.bp_document.proofs.NodeLists.{has_lines}
use Rattle.bp_document.proofs.OneRefutation.{root_of, root_follows, one_refutation}
use Rattle.bp_document.proofs.Spelling.{NoEnd}
use Rattle.bp_document.proofs.Runs.{State, SVersion, SSheet, SEdges, SEdge, SSide, SBound, SPoints, SProof, SNodes, SBehind, tree_head, place_at, Goes, Run, unlines, Reaches, reach_more, one_next, fine, goes_short, moved, bare, bare_line}
use Rattle.bp_document.proofs.Reach.{reach_nothing, reach_version, reach_start, reach_count, reach_edges, reach_tree, reach_side, reach_bound, reach_points, reach_nodes, reach_end}

-- the text reaches a state of this place
abbrev ReachesPlace : List ℕ → Place → Type 0
ReachesPlace text place = (S : State) × Reaches text S × (place_at S ≡ place)

regroup : (start a b : List ℕ) → (start ++ a) ++ b ≡ start ++ (a ++ b)
regroup start a b = append_assoc start a b

module _ (H : Head) (text : List ℕ) where
  abbrev side_head : Head
  side_head = record (tree_head H.sheet H.tree) { side = H.side }

  abbrev bound_head : Head
  bound_head = record (tree_head H.sheet H.tree) { side = H.side; bound = H.bound }

  abbrev points_head : Head
  points_head = record (tree_head H.sheet H.tree) { side = H.side; bound = H.bound; points = H.points }

  to_tree : StartsThen text H.sheet (edge_lines H.tree) → IsTree H.tree → Reaches text (SSide (tree_head H.sheet H.tree))
  to_tree start tree =
      moved (start.0 ++ edge_lines H.tree) text (SSide (tree_head H.sheet H.tree)) (SSide (tree_head H.sheet H.tree)) (sym start.2) refl
      (reach_tree start.0 H.sheet H.tree tree (reach_start start.0 H.sheet start.1))

  to_side : StartsThen text H.sheet (side_part H) → IsTree H.tree → H.side ≤ most_number → Reaches text (SBound side_head)
  to_side start tree small =
      let one = reach_tree start.0 H.sheet H.tree tree (reach_start start.0 H.sheet start.1) in
      let l : List ℕ = line (codes "side") (decimal H.side ∷ []) in
      moved ((start.0 ++ edge_lines H.tree) ++ l) text (SBound side_head) (SBound side_head) (regroup start.0 (edge_lines H.tree) l ∙ sym start.2) refl
      (reach_side (start.0 ++ edge_lines H.tree) (tree_head H.sheet H.tree) H.side small one)

  to_points : StartsThen text H.sheet (points_part H) → HasPoints H → length H.points ≤ leaf_count H.tree → Reaches text (SPoints points_head)
  to_points start has few =
      let one = reach_tree start.0 H.sheet H.tree has.tree (reach_start start.0 H.sheet start.1) in
      let side : List ℕ = line (codes "side") (decimal H.side ∷ []) in
      let bound : List ℕ = line (codes "bound") (decimal H.bound ∷ []) in
      let before : List ℕ = ((start.0 ++ edge_lines H.tree) ++ side) ++ bound in
      let two = reach_side (start.0 ++ edge_lines H.tree) (tree_head H.sheet H.tree) H.side has.side one in
      let three = reach_bound ((start.0 ++ edge_lines H.tree) ++ side) side_head H.bound has.bound two in
      let none : before ≡ before ++ point_lines H.tree [] = sym (append-nil before) ∙ ap (λ (u : List ℕ). before ++ u) (sym (no_point_lines H.tree [] refl)) in
      let four = reach_points before bound_head has.tree [] H.points (omega (arith, few)) has.points (moved before (before ++ point_lines H.tree []) (SPoints bound_head) (SPoints bound_head) none refl three) in
      let text_is : before ++ point_lines H.tree H.points ≡ text =
      ap (λ (u : List ℕ). (u ++ bound) ++ point_lines H.tree H.points) (regroup start.0 (edge_lines H.tree) side)
      ∙ ap (λ (u : List ℕ). u ++ point_lines H.tree H.points) (regroup start.0 (side_part H) bound)
      ∙ regroup start.0 (side_part H ++ bound) (point_lines H.tree H.points) ∙ sym start.2 in
      moved (before ++ point_lines H.tree H.points) text (SPoints points_head) (SPoints points_head) text_is refl four

  abbrev floor_head : Head
  floor_head = record (tree_head H.sheet H.tree) { side = H.side; bound = H.bound; points = H.points; floor = H.floor }

module _ (H : Head) where
  to_floor : (text : List ℕ) → StartsThen text H.sheet (floor_part H) → HasPoints H → length H.points ≡ leaf_count H.tree → IsFloorLine H.floor → Reaches text (SProof (floor_head H text))
  to_floor text start has each small =
      let before : List ℕ = start.0 ++ points_part H in
      let one = to_points H before (start.0, start.1, refl) has (omega (arith, each)) in
      let ws : List (List ℕ) = decimal H.floor.m ∷ decimal H.floor.side ∷ map decimal H.floor.leaves in
      let here = bare_line (codes "floor") ws in
      moved (before ++ floor_line H.floor) text (SProof (floor_head H text)) (SProof (floor_head H text)) (regroup start.0 (points_part H) (floor_line H.floor) ∙ sym start.2) refl
      (reach_more before (SPoints (points_head H before)) (bare (codes "floor") ws) (SProof (floor_head H text)) (floor_line H.floor) one (inr (omega (arith, each), H.floor, record { text = here; small = small }, refl)) here)

  proof_bare : (count : Option ℕ) → (b : List ℕ) × (b ++ 10 ∷ [] ≡ proof_line count)
  proof_bare None = (bare (codes "proof") (codes "none" ∷ []), bare_line (codes "proof") (codes "none" ∷ []))
  proof_bare (Some n) = (bare (codes "proof") (decimal n ∷ []), bare_line (codes "proof") (decimal n ∷ []))

  to_nodes : (text : List ℕ) (ns : List NodeLine) → StartsThen text H.sheet (nodes_part H ns) → IsHead H → Follow None ns → length ns ≤ count_of H.proof → Reaches text (SNodes H ns)
  to_nodes text ns start head follow few =
      let before : List ℕ = start.0 ++ floor_part H in
      let one = to_floor before (start.0, start.1, refl) head.points head.each head.floor in
      let b = proof_bare H.proof in
      let two = reach_more before (SProof (floor_head H before)) b.0 (SNodes H []) (proof_line H.proof) one (H.proof, record { text = b.1; range = head.proof }, refl) b.1 in
      let three = reach_nodes H (before ++ proof_line H.proof) [] ns (omega (arith, few)) follow two in
      let text_is : (before ++ proof_line H.proof) ++ flat_map node_text ns ≡ text =
      ap (λ (u : List ℕ). u ++ flat_map node_text ns) (regroup start.0 (floor_part H) (proof_line H.proof))
      ∙ regroup start.0 (floor_part H ++ proof_line H.proof) (flat_map node_text ns) ∙ sym start.2 in
      moved ((before ++ proof_line H.proof) ++ flat_map node_text ns) text (SNodes H ns) (SNodes H ns) text_is refl three

  pub to_end : (text : List ℕ) (ns : List NodeLine) → StartsThen text H.sheet (nodes_part H ns ++ end_line) → IsHead H → Follow None ns → length ns ≡ count_of H.proof → Reaches text (SBehind H ns)
  to_end text ns start head follow all =
      let before : List ℕ = start.0 ++ nodes_part H ns in
      let one = to_nodes before ns (start.0, start.1, refl) head follow (omega (arith, all)) in
      moved (before ++ end_line) text (SBehind H ns) (SBehind H ns) (regroup start.0 (nodes_part H ns) end_line ∙ sym start.2) refl
      (reach_end H before ns all one)

-- whatever leads to a place reaches it
pub reaches_place : (text : List ℕ) (place : Place) → LeadsTo text place → ReachesPlace text place
reaches_place text AtVersion is = (SVersion, moved [] text SVersion SVersion (sym is) refl reach_nothing, refl)
reaches_place text AtSheet is = (SSheet, moved (version_line 2) text SSheet SSheet (sym is) refl reach_version, refl)
reaches_place text AtEdges is = (SEdges is.0, reach_start text is.0 is.1, refl)
reaches_place text (AtEdge E es) is =
    let G = is.0 in
    let start = is.1 in
    let first : List ℕ = line (codes "edges") (decimal E ∷ []) in
    let grown = is.4 in
    let has : HasEdges grown.0 ([] ++ (es ++ [])) = subst (HasEdges grown.0) (sym (append-nil es)) grown.1 in
    let one = reach_edges grown.0 grown.2 G E [] (start.0 ++ first) [] es has (omega (arith, is.3)) (reach_count start.0 G E (reach_start start.0 G start.1) is.2) in
    (SEdge G E es, moved ((start.0 ++ first) ++ flat_map edge_text es) text (SEdge G E es) (SEdge G E es) (regroup start.0 first (flat_map edge_text es) ∙ sym start.2) refl one, refl)
reaches_place text AtSide is = (SSide (tree_head is.0.sheet is.0.tree), to_tree is.0 text is.1 is.2, refl)
reaches_place text AtBound is = (SBound (side_head is.0 text), to_side is.0 text is.1 is.2 is.3, refl)
reaches_place text (AtPoint name) is =
    let H = is.0 in
    (SPoints (points_head H text), to_points H text is.1 is.2 (omega (arith, is.3)), ap (λ (b : Bool). if b then AtPoint (next_leaf H) else AtFloor) (lt-ltb (length H.points) (leaf_count H.tree) is.3) ∙ ap AtPoint (sym is.4))
reaches_place text AtFloor is =
    let H = is.0 in
    (SPoints (points_head H text), to_points H text is.1 is.2 (omega (arith, is.3)), ap (λ (b : Bool). if b then AtPoint (next_leaf H) else AtFloor) (le-ltb (length H.points) (leaf_count H.tree) (omega (arith, is.3))))
reaches_place text AtProof is = (SProof (floor_head is.0 text), to_floor is.0 text is.1 is.2 is.3 is.4, refl)
reaches_place text (AtNode most) is =
    let H = is.0 in
    let ns = is.1 in
    (SNodes H ns, to_nodes H text ns is.2 is.3 is.4 (omega (arith, is.5)), ap (λ (b : Bool). if b then AtNode (deepest_behind None ns) else AtEnd) (lt-ltb (length ns) (count_of H.proof) is.5) ∙ ap AtNode (sym is.6))
reaches_place text AtEnd is =
    let H = is.0 in
    let ns = is.1 in
    (SNodes H ns, to_nodes H text ns is.2 is.3 is.4 (omega (arith, is.5)), ap (λ (b : Bool). if b then AtNode (deepest_behind None ns) else AtEnd) (le-ltb (length ns) (count_of H.proof) (omega (arith, is.5))))
reaches_place text Behind is = (SBehind is.0 is.1, to_end is.0 text is.1 is.2 is.3 is.4 is.5, refl)

-- two ways to cut off a line
cut_one : (b c x y : List ℕ) → NoEnd b → NoEnd c → b ++ 10 ∷ x ≡ c ++ 10 ∷ y → (b ≡ c) × (x ≡ y)
cut_one [] [] x y free free' same = (refl, ap (drop 1) same)
cut_one [] (d ∷ c) x y free free' same = absurd (free' 0 0 (omega arith) (sym (ap (λ (l : List ℕ). get_or l 0 0) same)))
cut_one (a ∷ b) [] x y free free' same = absurd (free 0 0 (omega arith) (ap (λ (l : List ℕ). get_or l 0 0) same))
cut_one (a ∷ b) (d ∷ c) x y free free' same =
    let first : a ≡ d = ap (λ (l : List ℕ). get_or l 0 0) same in
    let rest = cut_one b c x y (λ k e less. free (suc k) e (omega (arith, less))) (λ k e less. free' (suc k) e (omega (arith, less))) (ap (drop 1) same) in
    (λ i. first i ∷ rest.0 i, rest.1)

-- One run goes on where the other ends, or both end together.
abbrev Meets : State → State → List ℕ → List ℕ → List (List ℕ) → List (List ℕ) → Type 0
Meets S U rest more bs cs =
    ((S ≡ U) × (rest ≡ more) × (bs ≡ cs))
    ⊎ ((b : List ℕ) × (M : State) × (tail : List ℕ) × Goes S b M × (rest ≡ b ++ 10 ∷ tail))
    ⊎ ((b : List ℕ) × (M : State) × (tail : List ℕ) × Goes U b M × (more ≡ b ++ 10 ∷ tail))

cut_first : (b : List ℕ) (bs : List (List ℕ)) (rest : List ℕ) → unlines (b ∷ bs) ++ rest ≡ b ++ 10 ∷ (unlines bs ++ rest)
cut_first b bs rest = append_assoc (b ++ 10 ∷ []) (unlines bs) rest ∙ append_assoc b (10 ∷ []) (unlines bs ++ rest)

meet : (bs cs : List (List ℕ)) (R S U : State) (rest more : List ℕ) → Run R bs S → Run R cs U → unlines bs ++ rest ≡ unlines cs ++ more → Meets S U rest more bs cs
meet [] [] R S U rest more run run' same = inl (sym run ∙ run', same, refl)
meet [] (c ∷ cs) R S U rest more run run' same =
    inr (inl (c, run'.0, unlines cs ++ more, subst (λ (X : State). Goes X c run'.0) run run'.1, same ∙ cut_first c cs more))
meet (b ∷ bs) [] R S U rest more run run' same =
    inr (inr (b, run.0, unlines bs ++ rest, subst (λ (X : State). Goes X b run.0) run' run.1, sym same ∙ cut_first b bs rest))
meet (b ∷ bs) (c ∷ cs) R S U rest more run run' same =
    let short = goes_short b run.0 R run.1 in
    let short' = goes_short c run'.0 R run'.1 in
    let cut = cut_one b c (unlines bs ++ rest) (unlines cs ++ more) short.0 short'.0 (sym (cut_first b bs rest) ∙ same ∙ cut_first c cs more) in
    let next : run'.0 ≡ run.0 = one_next c run'.0 run.0 R run'.1 (subst (λ (d : List ℕ). Goes R d run.0) cut.0 run.1) in
    let tail = meet bs cs run.0 S U rest more run.2 (subst (λ (X : State). Run X cs U) next run'.2) cut.1 in
    elim tail [
      | inl all ↦ inl (all.0, all.1, λ i. cut.0 i ∷ all.2 i)
      | inr (inl first) ↦ inr (inl first)
      | inr (inr second) ↦ inr (inr second)
    ]

-- what stands behind a text is this line, and more where it is ended
abbrev RestIs : List ℕ → List ℕ → Bool → Type 0
RestIs rest b true = (more : List ℕ) × (rest ≡ b ++ 10 ∷ more)
RestIs rest b false = rest ≡ b

rest_of : (bytes text b : List ℕ) (ended : Bool) → HasLine bytes text b ended → (rest : List ℕ) × (bytes ≡ text ++ rest) × RestIs rest b ended
rest_of bytes text b true has = (b ++ 10 ∷ has.0, has.1 ∙ append_assoc text b (10 ∷ has.0), (has.0, refl))
rest_of bytes text b false has = (b, has, refl)

-- the line that goes on has no fault
no_fault : (S M : State) (b tail rest l : List ℕ) (ended : Bool) (kind : DocKind) → Goes S b M → rest ≡ b ++ 10 ∷ tail → RestIs rest l ended → NoEnd l → IsFirstKind (place_at S) l ended kind → ⊥
no_fault S M b tail rest l true kind goes here is free first =
    let cut = cut_one b l tail is.0 (goes_short b M S goes).0 free (sym here ∙ is.1) in
    (fine b M S goes).1 kind (subst (λ (c : List ℕ). HasKind (place_at S) c true kind) (sym cut.0) first.has)
no_fault S M b tail rest l false kind goes here is free first =
    let e : l ≡ b ++ 10 ∷ tail = sym is ∙ here in
    let less : length b < length l = omega (arith, ap length e, length-append b (10 ∷ tail)) in
    free (length b) 0 less (ap (λ (x : List ℕ). get_or x (length b) 0) e ∙ get_or_at b 10 tail 0 (length b) refl)

same_line : (rest l m : List ℕ) (e f : Bool) → NoEnd l → NoEnd m → RestIs rest l e → RestIs rest m f → (l ≡ m) × (e ≡ f)
same_line rest l m true true free free' is is' = ((cut_one l m is.0 is'.0 free free' (sym is.1 ∙ is'.1)).0, refl)
same_line rest l m false false free free' is is' = (sym is ∙ is', refl)
same_line rest l m true false free free' is is' =
    let e : m ≡ l ++ 10 ∷ is.0 = sym is' ∙ is.1 in
    let less : length l < length m = omega (arith, ap length e, length-append l (10 ∷ is.0)) in
    absurd (free' (length l) 0 less (ap (λ (x : List ℕ). get_or x (length l) 0) e ∙ get_or_at l 10 is.0 0 (length l) refl))
same_line rest l m false true free free' is is' =
    let e : l ≡ m ++ 10 ∷ is'.0 = sym is ∙ is'.1 in
    let less : length m < length l = omega (arith, ap length e, length-append m (10 ∷ is'.0)) in
    absurd (free (length m) 0 less (ap (λ (x : List ℕ). get_or x (length m) 0) e ∙ get_or_at m 10 is'.0 0 (length m) refl))

abbrev kind_at : ℕ → DocKind
kind_at n = if n == 0 then TooLong else if n == 1 then Trailing else if n == 2 then Cut else if n == 3 then BadForm else if n == 4 then BadTree else if n == 5 then BadPoint else BadDepth

kind_back : (k : DocKind) → kind_at (order k) ≡ k
kind_back TooLong = refl
kind_back Trailing = refl
kind_back Cut = refl
kind_back BadForm = refl
kind_back BadTree = refl
kind_back BadPoint = refl
kind_back BadDepth = refl

one_kind : (place : Place) (b : List ℕ) (ended : Bool) (k j : DocKind) → IsFirstKind place b ended k → IsFirstKind place b ended j → k ≡ j
one_kind place b ended k j first first' = elim (cases_order (order k) (order j)) [
  | inl same ↦ sym (kind_back k) ∙ ap kind_at same ∙ kind_back j
  | inr (inl less) ↦ absurd (first'.first k less first.has)
  | inr (inr more) ↦ absurd (first.first j more first'.has)
]

-- A fault, with the lines before it.
module _ (bytes : List ℕ) (f : DocFault) (is : IsFaultAt bytes f) where
  pub before : ReachesPlace is.text is.place
  before = reaches_place is.text is.place is.leads

  pub rest : (rest : List ℕ) × (bytes ≡ is.text ++ rest) × RestIs rest is.line is.ended
  rest = rest_of bytes is.text is.line is.ended is.stands

  pub whole : bytes ≡ unlines before.1.lines ++ rest.0
  whole = rest.1 ∙ ap (λ (t : List ℕ). t ++ rest.0) before.1.is

  pub kind_there : IsFirstKind (place_at before.0) is.line is.ended f.kind
  kind_there = subst (λ (place : Place). IsFirstKind place is.line is.ended f.kind) (sym before.2) is.kind

pub one_fault_at : (bytes : List ℕ) (f g : DocFault) → IsFaultAt bytes f → IsFaultAt bytes g → f ≡ g
one_fault_at bytes f g is is' =
    let mine = before bytes f is in
    let other = before bytes g is' in
    let r = rest bytes f is in
    let r' = rest bytes g is' in
    elim (meet mine.1.lines other.1.lines SVersion mine.0 other.0 r.0 r'.0 mine.1.run other.1.run (sym (whole bytes f is) ∙ whole bytes g is')) [
      | inl all ↦
          let text : is.text ≡ is'.text = mine.1.is ∙ ap unlines all.2 ∙ sym other.1.is in
          let same = same_line r.0 is.line is'.line is.ended is'.ended is.free is'.free r.2 (subst (λ (x : List ℕ). RestIs x is'.line is'.ended) (sym all.1) r'.2) in
          let place : place_at mine.0 ≡ place_at other.0 = ap place_at all.0 in
          let moved_kind : IsFirstKind (place_at mine.0) is.line is.ended g.kind =
          subst (λ (p : Place). IsFirstKind p is.line is.ended g.kind) (sym place)
          (subst (λ (l : List ℕ). IsFirstKind (place_at other.0) l is.ended g.kind) (sym same.0)
          (subst (λ (e : Bool). IsFirstKind (place_at other.0) is'.line e g.kind) (sym same.1) (kind_there bytes g is'))) in
          let kind : f.kind ≡ g.kind = one_kind (place_at mine.0) is.line is.ended f.kind g.kind (kind_there bytes f is) moved_kind in
          let number : f.line ≡ g.line = is.number ∙ ap (λ (t : List ℕ). count_by (λ b. b == 10) t + 1) text ∙ sym is'.number in
          λ i. record { line = number i; kind = kind i }
      | inr (inl first) ↦ absurd (no_fault mine.0 first.1 first.0 first.2 r.0 is.line is.ended f.kind first.3 first.4 r.2 is.free (kind_there bytes f is))
      | inr (inr second) ↦ absurd (no_fault other.0 second.1 second.0 second.2 r'.0 is'.line is'.ended g.kind second.3 second.4 r'.2 is'.free (kind_there bytes g is'))
    ]

-- the head and the nodes of a document
abbrev count_in : Option Refutation → Option ℕ
count_in None = None
count_in (Some r) = Some (node_count_of r)

abbrev nodes_in : Option Refutation → List NodeLine
nodes_in None = []
nodes_in (Some r) = node_list r 0

abbrev head_in : Document → Head
head_in D = record { tree = D.tree; side = D.side; bound = D.bound; points = D.points; floor = D.floor; proof = count_in D.proof; sheet = D.sheet }

told_in : (proof : Option Refutation) → IsProofTold proof (count_in proof) (nodes_in proof)
told_in None = refl
told_in (Some r) = (refl, (has_lines r 0).1)

follow_in : (proof : Option Refutation) → HasProof proof → Follow None (nodes_in proof)
follow_in None has = tt
follow_in (Some r) has = root_follows r has.depth has.parts

count_is : (proof : Option Refutation) → length (nodes_in proof) ≡ count_of (count_in proof)
count_is None = refl
count_is (Some r) = sym (has_lines r 0).1

some_nodes_in : (r : Refutation) → 1 ≤ node_count_of r
some_nodes_in r = let root = root_of r 0 in omega (arith, (has_lines r 0).1, ap length root.2)

range_in : (proof : Option Refutation) → HasProof proof → IsProofCount (count_in proof)
range_in None has = tt
range_in (Some r) has = (some_nodes_in r, has.lines)

module _ (bytes : List ℕ) (D : Document) (is : IsTextOf bytes D) where
  abbrev mine : Document
  mine = document_of (head_in D) D.proof

  starts : StartsThen bytes D.sheet (nodes_part (head_in D) (nodes_in D.proof) ++ end_line)
  unfolding first_text doc_text
  starts =
      let body = body_is (head_in D) (nodes_in D.proof) D.proof (told_in D.proof) in
      elim is.text [
        | inl first ↦ (version_line 1, inl (refl, first.1), first.0 ∙ ap (λ (t : List ℕ). version_line 1 ++ t) body)
        | inr second ↦ (version_line 2 ++ sheet_line D.sheet, inr (refl, is.document.sheet), second ∙ ap (λ (t : List ℕ). (version_line 2 ++ sheet_line D.sheet) ++ t) body)
      ]

  heads : IsHead (head_in D)
  heads = record {
    points = record { tree = is.document.tree; side = is.document.side; bound = is.document.bound; points = is.document.points };
    each = is.document.each;
    floor = is.document.floor;
    proof = range_in D.proof is.document.proof;
  }

  pub whole_text : Reaches bytes (SBehind (head_in D) (nodes_in D.proof))
  whole_text = to_end (head_in D) bytes (nodes_in D.proof) starts heads (follow_in D.proof is.document.proof) (count_is D.proof)

abbrev head_of_state : Head → State → Head
head_of_state d SVersion = d
head_of_state d SSheet = d
head_of_state d (SEdges G) = d
head_of_state d (SEdge G E es) = d
head_of_state d (SSide H) = d
head_of_state d (SBound H) = d
head_of_state d (SPoints H) = d
head_of_state d (SProof H) = d
head_of_state d (SNodes H ns) = d
head_of_state d (SBehind H ns) = H

abbrev nodes_of_state : State → List NodeLine
nodes_of_state SVersion = []
nodes_of_state SSheet = []
nodes_of_state (SEdges G) = []
nodes_of_state (SEdge G E es) = []
nodes_of_state (SSide H) = []
nodes_of_state (SBound H) = []
nodes_of_state (SPoints H) = []
nodes_of_state (SProof H) = []
nodes_of_state (SNodes H ns) = []
nodes_of_state (SBehind H ns) = ns

abbrev count_or : Option ℕ → ℕ
count_or None = 0
count_or (Some n) = n + 1

one_proof : (p q : Option Refutation) → count_in p ≡ count_in q → nodes_in p ≡ nodes_in q → p ≡ q
one_proof None None counts nodes = refl
one_proof None (Some r) counts nodes = absurd (omega (arith, ap count_or counts))
one_proof (Some r) None counts nodes = absurd (omega (arith, ap count_or counts))
one_proof (Some r) (Some s) counts nodes = ap Some (one_refutation r s nodes)

unlines_whole : (bytes : List ℕ) (bs : List (List ℕ)) → bytes ≡ unlines bs → bytes ≡ unlines bs ++ []
unlines_whole bytes bs is = is ∙ sym (append-nil (unlines bs))

pub one_document : (bytes : List ℕ) (D E : Document) → IsTextOf bytes D → IsTextOf bytes E → D ≡ E
one_document bytes D E is is' =
    let a = whole_text bytes D is in
    let b = whole_text bytes E is' in
    elim (meet a.lines b.lines SVersion (SBehind (head_in D) (nodes_in D.proof)) (SBehind (head_in E) (nodes_in E.proof)) [] [] a.run b.run (sym (unlines_whole bytes a.lines a.is) ∙ unlines_whole bytes b.lines b.is)) [
      | inl all ↦
          let head : head_in D ≡ head_in E = ap (head_of_state (head_in D)) all.0 in
          let nodes : nodes_in D.proof ≡ nodes_in E.proof = ap nodes_of_state all.0 in
          let proof : D.proof ≡ E.proof = one_proof D.proof E.proof (ap (λ (H : Head). H.proof) head) nodes in
          λ i. record { tree = (head i).tree; side = (head i).side; bound = (head i).bound; points = (head i).points; floor = (head i).floor; proof = proof i; sheet = (head i).sheet }
      | inr (inl first) ↦ absurd first.3
      | inr (inr second) ↦ absurd second.3
    ]

empty_rest : (l : List ℕ) (ended : Bool) → RestIs [] l ended → (l ≡ []) × (ended ≡ false)
empty_rest l true is = absurd (omega (arith, ap length is.1, length-append l (10 ∷ is.0)))
empty_rest l false is = (sym is, refl)

pub no_fault_of_document : (bytes : List ℕ) (D : Document) (f : DocFault) → IsTextOf bytes D → IsFaultAt bytes f → ⊥
no_fault_of_document bytes D f is at =
    let a = whole_text bytes D is in
    let b = before bytes f at in
    let r = rest bytes f at in
    let S : State = SBehind (head_in D) (nodes_in D.proof) in
    elim (meet a.lines b.1.lines SVersion S b.0 [] r.0 a.run b.1.run (sym (unlines_whole bytes a.lines a.is) ∙ whole bytes f at)) [
      | inl all ↦
          let none = empty_rest at.line at.ended (subst (λ (x : List ℕ). RestIs x at.line at.ended) (sym all.1) r.2) in
          let place : at.place ≡ Behind = sym b.2 ∙ ap place_at (sym all.0) in
          at.wanted (place, none.0, none.1)
      | inr (inl first) ↦ first.3
      | inr (inr second) ↦ no_fault b.0 second.1 second.0 second.2 r.0 at.line at.ended f.kind second.3 second.4 r.2 at.free (kind_there bytes f at)
    ]

pub has_one_answer : (bytes : List ℕ) → HasOneAnswer bytes
has_one_answer bytes = record {
  document = one_document bytes;
  either = λ D f is fault. elim fault [
    | inl long ↦ omega (arith, long.0, is.short)
    | inr at ↦ no_fault_of_document bytes D f is at
  ];
  fault = one_fault;
}
  where
    one_fault : (f g : DocFault) → IsDocFault bytes f → IsDocFault bytes g → f ≡ g
    one_fault f g (inl long) (inl long') = long.1 ∙ sym long'.1
    one_fault f g (inl long) (inr at) = absurd (omega (arith, long.0, at.short))
    one_fault f g (inr at) (inl long) = absurd (omega (arith, long.0, at.short))
    one_fault f g (inr at) (inr at') = one_fault_at bytes f g at at'
