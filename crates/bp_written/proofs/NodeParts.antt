-- The nodes of a refutation at their paths: their parts, and how deep they lie.
use Rattle.std.proofs.Common.{◌≡◌, ℕ, ◌+◌, ◌≤◌, List, [], ◌∷◌, ◌++◌, length, map, All, refl, sym, ap, ◌∙◌, subst, arith, length-append}
use Rattle.std.specs.List.{flat_map, AllByRecursion}
use Rattle.std.proofs.lemmas.List.{map-append}
use Rattle.std.proofs.lemmas.List.Elements.{recursion_from_All}
use Rattle.bp_base.specs.declared.path.Choice.{Choice}
use Rattle.bp_base.specs.declared.path.Choice.TheVariants.{Left}
use Rattle.bp_base.specs.declared.path.Pair.{Pair}
use Rattle.bp_base.specs.declared.path.Step.{Step}
use Rattle.bp_base.specs.declared.point.Sheet.{Sheet}
use Rattle.bp_base.specs.declared.refutation.Refutation.{Refutation}
use Rattle.bp_base.specs.declared.refutation.Refutation.TheVariants.{Split}
use Rattle.bp_base.specs.Tree.{TreeValue}
use Rattle.bp_metric.specs.Choices.{allowed}
use Rattle.bp_metric.specs.Nodes.{Node, Part, SplitOf, child_nodes, nodes_of, parts_of}
use Rattle.bp_metric.specs.Refutation.{extended}
use Rattle.bp_metric.proofs.Refutations.{parts-split, parts-closed, parts-open}
use Rattle.bp_document.specs.Ranges.{depth_of, one_deeper}
use Rattle.bp_document.proofs.NodeLists.{by_nodes}
use Rattle.bp_document.proofs.Nodes.{depth-split, depth-closed, depth-open}
use Rattle.bp_check.proofs.Reading.{nodes_from, nodes-whole, nodes-split, nodes-closed, nodes-open}

pub each_left : {X : Type 0} (P : X → Type 0) (xs ys : List X) → AllByRecursion P (xs ++ ys) → AllByRecursion P xs
each_left P [] ys all = tt
each_left P (x ∷ xs) ys all = (all.0, each_left P xs ys all.1)

pub each_right : {X : Type 0} (P : X → Type 0) (xs ys : List X) → AllByRecursion P (xs ++ ys) → AllByRecursion P ys
each_right P [] ys all = all
each_right P (x ∷ xs) ys all = each_right P xs ys all.1

module _ (T : TreeValue) (G : Sheet) where
  abbrev pub parts : List Node → List Part
  parts nodes = map (λ (n : Node). n.part) nodes

  -- The parts.

  abbrev HasParts : Refutation → Type 0
  HasParts r = (path : List Step) → parts (nodes_from T G r path) ≡ parts_of r

  child_parts : (path : List Step) (p : Pair) (cs : List Choice) (rs : List Refutation) → AllByRecursion HasParts rs → parts (child_nodes path p cs (map (nodes_from T G) rs)) ≡ flat_map parts_of rs
  child_parts path p [] [] all = refl
  child_parts path p (c ∷ cs) [] all = refl
  child_parts path p [] (r ∷ rs) all =
      map-append (λ (n : Node). n.part) (nodes_from T G r (extended path p Left)) (child_nodes path p [] (map (nodes_from T G) rs))
      ∙ (λ i. all.0 (extended path p Left) i ++ child_parts path p [] rs all.1 i)
  child_parts path p (c ∷ cs) (r ∷ rs) all =
      map-append (λ (n : Node). n.part) (nodes_from T G r (extended path p c)) (child_nodes path p cs (map (nodes_from T G) rs))
      ∙ (λ i. all.0 (extended path p c) i ++ child_parts path p cs rs all.1 i)

  split_parts : (p : Pair) (rs : List Refutation) → AllByRecursion HasParts rs → HasParts (Split p rs)
  split_parts p rs all path =
      ap parts (nodes-split T G p rs path)
      ∙ ap (λ (ps : List Part). SplitOf p (length rs) ∷ ps) (child_parts path p (allowed T G p) rs all)
      ∙ sym (parts-split p rs)

  has_parts : (r : Refutation) → HasParts r
  has_parts = by_nodes HasParts split_parts
      (λ claim path. ap parts (nodes-closed T G claim path) ∙ sym (parts-closed claim))
      (λ claim path. ap parts (nodes-open T G claim path) ∙ sym (parts-open claim))

  pub parts_same : (r : Refutation) → parts (nodes_of T G r) ≡ parts_of r
  parts_same r = ap parts (nodes-whole T G r) ∙ has_parts r []

  -- How deep they lie, where no path is longer than N.

  module _ (N : ℕ) where
    abbrev pub IsShort : Node → Type 0
    IsShort n = length n.path ≤ N

    abbrev HasDepth : Refutation → Type 0
    HasDepth r = (path : List Step) → AllByRecursion IsShort (nodes_from T G r path) → length path + depth_of r ≤ N

    one_longer : (path : List Step) (p : Pair) (c : Choice) → length (extended path p c) ≡ length path + 1
    one_longer path p c = length-append path ((record { pair = p; choice = c }) ∷ [])

    child_depths : (path : List Step) (p : Pair) (cs : List Choice) (rs : List Refutation) → length path ≤ N → AllByRecursion HasDepth rs → AllByRecursion IsShort (child_nodes path p cs (map (nodes_from T G) rs)) → length path + one_deeper (map depth_of rs) ≤ N
    child_depths path p [] [] short all each = omega (arith, short)
    child_depths path p (c ∷ cs) [] short all each = omega (arith, short)
    child_depths path p [] (r ∷ rs) short all each =
        let ns = nodes_from T G r (extended path p Left) in
        let more = child_nodes path p [] (map (nodes_from T G) rs) in
        let one = all.0 (extended path p Left) (each_left IsShort ns more each) in
        let rest = child_depths path p [] rs short all.1 (each_right IsShort ns more each) in
        omega (arith, one, rest, one_longer path p Left)
    child_depths path p (c ∷ cs) (r ∷ rs) short all each =
        let ns = nodes_from T G r (extended path p c) in
        let more = child_nodes path p cs (map (nodes_from T G) rs) in
        let one = all.0 (extended path p c) (each_left IsShort ns more each) in
        let rest = child_depths path p cs rs short all.1 (each_right IsShort ns more each) in
        omega (arith, one, rest, one_longer path p c)

    split_depth : (p : Pair) (rs : List Refutation) → AllByRecursion HasDepth rs → HasDepth (Split p rs)
    split_depth p rs all path each =
        let own = subst (AllByRecursion IsShort) (nodes-split T G p rs path) each in
        omega (arith, depth-split p rs, child_depths path p (allowed T G p) rs own.0 all own.1)

    has_depth : (r : Refutation) → HasDepth r
    has_depth = by_nodes HasDepth split_depth
        (λ claim path each. let own = subst (AllByRecursion IsShort) (nodes-closed T G claim path) each in omega (arith, depth-closed claim, own.0))
        (λ claim path each. let own = subst (AllByRecursion IsShort) (nodes-open T G claim path) each in omega (arith, depth-open claim, own.0))

    pub depth_within : (r : Refutation) → All IsShort (nodes_of T G r) → depth_of r ≤ N
    depth_within r all =
        let each = subst (AllByRecursion IsShort) (nodes-whole T G r) (recursion_from_All IsShort (nodes_of T G r) all) in
        omega (arith, has_depth r [] each)
