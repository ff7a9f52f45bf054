-- A refutation fits where each of its nodes may stand at its path, and such nodes are within the ranges of a document.
use Rattle.std.proofs.Common.{◌≡◌, ◌≤◌, List, [], ◌∷◌, length, map, All, refl, sym, subst, arith}
use Rattle.std.specs.List.{AllByRecursion}
use Rattle.std.proofs.lemmas.List.Elements.{recursion_from_All}
use Rattle.bp_base.specs.declared.path.Choice.{Choice}
use Rattle.bp_base.specs.declared.path.Pair.{Pair}
use Rattle.bp_base.specs.declared.path.Step.{Step}
use Rattle.bp_base.specs.declared.point.Sheet.{Sheet}
use Rattle.bp_base.specs.declared.record.RecordKind.{RecordKind}
use Rattle.bp_base.specs.declared.record.RecordKind.TheVariants as sort
use Rattle.bp_base.specs.declared.record.Task.{Task}
use Rattle.bp_base.specs.declared.refutation.Refutation.{Refutation}
use Rattle.bp_base.specs.declared.refutation.Refutation.TheVariants.{Split}
use Rattle.bp_base.specs.Limits.{most_steps}
use Rattle.bp_base.specs.Tree.{TreeValue, IsTree, leaf_count}
use Rattle.bp_metric.specs.Chains.{ClaimHolds}
use Rattle.bp_metric.specs.Choices.{allowed}
use Rattle.bp_metric.specs.Nodes.{Node, Part, SplitOf, ClosedBy, OpenBy, child_nodes, nodes_of}
use Rattle.bp_metric.specs.Refutation.{CanSplit, EachFits, Fits, extended}
use Rattle.bp_metric.proofs.Refutations.{fits-split, fits-closed, fits-open}
use Rattle.bp_document.specs.Ranges.{IsSmallPart}
use Rattle.bp_document.proofs.NodeLists.{by_nodes}
use Rattle.bp_check.proofs.Reading.{nodes_from, nodes-whole, nodes-split, nodes-closed, nodes-open}
use Rattle.bp_join.specs.Joined.{HasPairOf, IsOpenNode, part_of}
use Rattle.bp_written.specs.Told.{IsOfPairs, MayStand}
use Rattle.bp_written.proofs.FoundNodes.{claim_small, open_at, open_holds}
use Rattle.bp_written.proofs.NodeParts.{each_left, each_right}
use Rattle.bp_written.proofs.PathPairs.{pairs_short}

module _ (T : TreeValue) (G : Sheet) where
  abbrev pub PartGood : List Step → Part → Type 0
  PartGood path (SplitOf p k) = CanSplit T path p × (k ≡ length (allowed T G p))
  PartGood path (ClosedBy claim) = ClaimHolds (leaf_count T) path claim
  PartGood path (OpenBy claim) = ClaimHolds (leaf_count T) path claim

  abbrev pub IsGood : Node → Type 0
  IsGood n = IsOfPairs T n.path × PartGood n.path n.part

  abbrev FitsIfGood : Refutation → Type 0
  FitsIfGood r = (path : List Step) → AllByRecursion IsGood (nodes_from T G r path) → Fits T G r path

  abbrev below : List Step → Pair → List Choice → List Refutation → List Node
  below path p cs rs = child_nodes path p cs (map (nodes_from T G) rs)

  children_fit : (path : List Step) (p : Pair) (cs : List Choice) (rs : List Refutation) → length rs ≡ length cs → AllByRecursion FitsIfGood rs → AllByRecursion IsGood (below path p cs rs) → EachFits (Fits T G) path p cs rs
  children_fit path p [] [] many all each = tt
  children_fit path p [] (r ∷ rs) many all each = absurd (omega (arith, many))
  children_fit path p (c ∷ cs) [] many all each = absurd (omega (arith, many))
  children_fit path p (c ∷ cs) (r ∷ rs) many all each =
      let ns = nodes_from T G r (extended path p c) in
      let more = below path p cs rs in (
        all.0 (extended path p c) (each_left IsGood ns more each),
        children_fit path p cs rs (omega (arith, many)) all.1 (each_right IsGood ns more each),
      )

  split_fit : (p : Pair) (rs : List Refutation) → AllByRecursion FitsIfGood rs → FitsIfGood (Split p rs)
  split_fit p rs all path each =
      let own = subst (AllByRecursion IsGood) (nodes-split T G p rs path) each in
      coe 0 1 (i. sym (fits-split T G p rs path) i) (own.0.1.0, children_fit path p (allowed T G p) rs own.0.1.1 all own.1)

  fits_if_good : (r : Refutation) → FitsIfGood r
  fits_if_good =
      by_nodes FitsIfGood split_fit
      (λ claim path each. let own = subst (AllByRecursion IsGood) (nodes-closed T G claim path) each in coe 0 1 (i. sym (fits-closed T G claim path) i) own.0.1)
      (λ claim path each. let own = subst (AllByRecursion IsGood) (nodes-open T G claim path) each in coe 0 1 (i. sym (fits-open T G claim path) i) own.0.1)

  pub good_fits : (r : Refutation) → All IsGood (nodes_of T G r) → Fits T G r []
  good_fits r all =
      fits_if_good r [] (subst (AllByRecursion IsGood) (nodes-whole T G r) (recursion_from_All IsGood (nodes_of T G r) all))

  -- Records and tasks as nodes.

  pub kind_good : (path : List Step) (kind : RecordKind) → MayStand T path kind → PartGood path (part_of T G kind)
  kind_good path (sort.Split p) may = (may, refl)
  kind_good path (sort.Closed claim) may = may

  module _ (t : IsTree T) where
    pub open_good : (x : Task) (n : Node) → IsOfPairs T x.path → IsOpenNode T G x n → IsGood n
    open_good x n of is = open_at T G (λ path part. IsOfPairs T path × PartGood path part) x n is (of, open_holds T t G x.path is.claim is.shown)

    part_range : (path : List Step) (part : Part) → PartGood path part → IsSmallPart part
    part_range path (SplitOf p k) is = let pair = is.0.pair in (omega (arith, pair.1, pair.2, t.leaves_few), omega (arith, pair.2, t.leaves_few))
    part_range path (ClosedBy claim) is = claim_small T t G path claim is
    part_range path (OpenBy claim) is = claim_small T t G path claim is

    pub good_range : (n : Node) → IsGood n → (length n.path ≤ most_steps) × IsSmallPart n.part
    good_range n is = (pairs_short T t n.path is.0, part_range n.path n.part is.1)

-- a split that may stand is for a pair of leaves
pub pair_there : (T : TreeValue) (path : List Step) (kind : RecordKind) → MayStand T path kind → HasPairOf T kind
pair_there T path (sort.Split p) may = may.pair
pair_there T path (sort.Closed claim) may = tt
