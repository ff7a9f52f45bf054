-- Steps of the walk of a refutation.
use Rattle.std.proofs.Common.{◌≡◌, ℕ, ◌+◌, ◌*◌, ◌<◌, List, [], ◌∷◌, ◌++◌, length, sym, ap, ◌∙◌, arith, length-append, append_assoc, Result, Ok, Err}
use Rattle.std.specs.List.{flat_map}
use Rattle.std.proofs.lemmas.List.{append-nil}
use Rattle.bp_base.specs.declared.path.Pair.{Pair}
use Rattle.bp_base.specs.declared.point.Sheet.{Sheet}
use Rattle.bp_base.specs.declared.chain.Claim.{Claim}
use Rattle.bp_base.specs.declared.refutation.Refutation.{Refutation}
use Rattle.bp_base.specs.declared.refutation.Refutation.TheVariants.{Split, Closed, Open}
use Rattle.bp_base.specs.Tree.{TreeValue}
use Rattle.bp_document.specs.declared.node_line.NodeKind.TheVariants as kind
use Rattle.bp_document.specs.declared.node_line.NodeLine.{NodeLine}
use Rattle.bp_check.specs.declared.stack.Stack.{Stack}
use Rattle.bp_check.specs.declared.visit.Level.{Level}
use Rattle.bp_document.specs.Told.{node_list}
use Rattle.bp_check.specs.Stack.{fed, run}
use Rattle.bp_check.specs.Levels.{lines_below, lines_to_come, size_to_come}
use Rattle.bp_check.proofs.Reading.{lines_from, lines-split, lines-closed, lines-open}

below_push : (levels : List Level) (level : Level) (depth : ℕ) → lines_below depth (levels ++ level ∷ []) ≡ flat_map (lines_from (depth + length levels)) level.children.now ++ lines_below depth levels
below_push [] level depth =
    let same : depth ≡ depth + 0 = omega arith in
    ap (λ (d : ℕ). flat_map (lines_from d) level.children.now) same ∙ sym (append-nil (flat_map (lines_from (depth + 0)) level.children.now))
below_push (l ∷ levels) level depth =
    let own = flat_map (lines_from depth) l.children.now in
    let deep : depth + 1 + length levels ≡ depth + length (l ∷ levels) = omega arith in
    ap (λ (ls : List NodeLine). ls ++ own) (below_push levels level (depth + 1))
    ∙ append_assoc (flat_map (lines_from (depth + 1 + length levels)) level.children.now) (lines_below (depth + 1) levels) own
    ∙ ap (λ (d : ℕ). flat_map (lines_from d) level.children.now ++ (lines_below (depth + 1) levels ++ own)) deep

pub left_push : (levels : List Level) (level : Level) → lines_to_come (levels ++ level ∷ []) ≡ flat_map (lines_from (length levels + 1)) level.children.now ++ lines_to_come levels
left_push levels level =
    let same : 1 + length levels ≡ length levels + 1 = omega arith in
    below_push levels level 1 ∙ ap (λ (d : ℕ). flat_map (lines_from d) level.children.now ++ lines_to_come levels) same

module _ (levels new : List Level) (level : Level) (node : Refutation) (p : Pair) (cs : List Refutation) (is : node ≡ Split p cs) (all : level.children.now ≡ cs) (pushed : new ≡ levels ++ level ∷ []) where
  split_left : node_list node (length levels) ++ lines_to_come levels ≡ (record { depth = length levels; kind = kind.Split p }) ∷ lines_to_come new
  split_left =
      ap (λ (r : Refutation). node_list r (length levels) ++ lines_to_come levels) is
      ∙ ap (λ (ls : List NodeLine). ls ++ lines_to_come levels) (lines-split p cs (length levels))
      ∙ ap (λ (ls : List NodeLine). (record { depth = length levels; kind = kind.Split p }) ∷ ls) (ap (λ (rs : List Refutation). flat_map (lines_from (length levels + 1)) rs ++ lines_to_come levels) (sym all) ∙ sym (left_push levels level) ∙ ap lines_to_come (sym pushed))

  pub split_less : size_to_come new < size_to_come levels + 2 * length (node_list node (length levels))
  split_less =
      omega (arith, ap length split_left, length-append (node_list node (length levels)) (lines_to_come levels), ap length pushed, length-append levels (level ∷ []))

  pub split_lines : (T : TreeValue) (G : Sheet) (S N : Stack) (depth : ℕ) → depth ≡ length levels → N ≡ fed T G S (record { depth = depth; kind = kind.Split p }) → run T G N (lines_to_come new) ≡ run T G S (node_list node (length levels) ++ lines_to_come levels)
  split_lines T G S N depth at now =
      ap (λ (M : Stack). run T G M (lines_to_come new)) now
      ∙ ap (λ (d : ℕ). run T G (fed T G S (record { depth = d; kind = kind.Split p })) (lines_to_come new)) at
      ∙ ap (run T G S) (sym split_left)

module _ (levels : List Level) (node : Refutation) (claim : Claim) where
  pub closed_less : node ≡ Closed claim → size_to_come levels < size_to_come levels + 2 * length (node_list node (length levels))
  closed_less is = omega (arith, ap (λ (r : Refutation). length (node_list r (length levels))) is, ap length (lines-closed claim (length levels)))

  pub open_less : node ≡ Open claim → size_to_come levels < size_to_come levels + 2 * length (node_list node (length levels))
  open_less is = omega (arith, ap (λ (r : Refutation). length (node_list r (length levels))) is, ap length (lines-open claim (length levels)))

  pub closed_lines : (T : TreeValue) (G : Sheet) (S N : Stack) (depth : ℕ) → node ≡ Closed claim → depth ≡ length levels → N ≡ fed T G S (record { depth = depth; kind = kind.Closed claim }) → run T G N (lines_to_come levels) ≡ run T G S (node_list node (length levels) ++ lines_to_come levels)
  closed_lines T G S N depth is at now =
      ap (λ (M : Stack). run T G M (lines_to_come levels)) now
      ∙ ap (λ (d : ℕ). run T G (fed T G S (record { depth = d; kind = kind.Closed claim })) (lines_to_come levels)) at
      ∙ ap (λ (ls : List NodeLine). run T G S (ls ++ lines_to_come levels)) (sym (lines-closed claim (length levels)))
      ∙ ap (λ (r : Refutation). run T G S (node_list r (length levels) ++ lines_to_come levels)) (sym is)

  pub open_lines : (T : TreeValue) (G : Sheet) (S N : Stack) (depth : ℕ) → node ≡ Open claim → depth ≡ length levels → N ≡ fed T G S (record { depth = depth; kind = kind.Closed claim }) → run T G N (lines_to_come levels) ≡ run T G S (node_list node (length levels) ++ lines_to_come levels)
  open_lines T G S N depth is at now =
      ap (λ (M : Stack). run T G M (lines_to_come levels)) now
      ∙ ap (λ (d : ℕ). run T G (fed T G S (record { depth = d; kind = kind.Open claim })) (lines_to_come levels)) at
      ∙ ap (λ (ls : List NodeLine). run T G S (ls ++ lines_to_come levels)) (sym (lines-open claim (length levels)))
      ∙ ap (λ (r : Refutation). run T G S (node_list r (length levels) ++ lines_to_come levels)) (sym is)

-- a level without children
pub no_child : (levels : List Level) (level : Level) → level.children.now ≡ [] → lines_to_come (levels ++ level ∷ []) ≡ lines_to_come levels
no_child levels level none = left_push levels level ∙ ap (λ (rs : List Refutation). flat_map (lines_from (length levels + 1)) rs ++ lines_to_come levels) none

pub no_child_less : (levels : List Level) (level : Level) → level.children.now ≡ [] → size_to_come levels < size_to_come (levels ++ level ∷ [])
no_child_less levels level none = omega (arith, ap length (no_child levels level none), length-append levels (level ∷ []))

-- a level's first child, and the level of the rest
module _ (levels new : List Level) (level rest : Level) (first : Refutation) (rs : List Refutation) (is : level.children.now ≡ first ∷ rs) (left : rest.children.now ≡ rs) (pushed : new ≡ levels ++ rest ∷ []) where
  pub first_child : node_list first (length new) ++ lines_to_come new ≡ lines_to_come (levels ++ level ∷ [])
  first_child =
      let deep : length new ≡ length levels + 1 = omega (arith, ap length pushed, length-append levels (rest ∷ [])) in
      let later = flat_map (lines_from (length levels + 1)) rs in
      ap (λ (d : ℕ). node_list first d ++ lines_to_come new) deep
      ∙ ap (λ (ls : List NodeLine). node_list first (length levels + 1) ++ ls) (ap lines_to_come pushed ∙ left_push levels rest ∙ ap (λ (cs : List Refutation). flat_map (lines_from (length levels + 1)) cs ++ lines_to_come levels) left)
      ∙ sym (append_assoc (node_list first (length levels + 1)) later (lines_to_come levels))
      ∙ ap (λ (cs : List Refutation). flat_map (lines_from (length levels + 1)) cs ++ lines_to_come levels) (sym is) ∙ sym (left_push levels level)

  pub first_child_less : (size : ℕ) → size < size_to_come new + 2 * length (node_list first (length new)) → size < size_to_come (levels ++ level ∷ [])
  first_child_less size less =
      omega (arith, less, ap length first_child, length-append (node_list first (length new)) (lines_to_come new), ap length pushed, length-append levels (rest ∷ []), length-append levels (level ∷ []))
