-- Where a refutation fits, each of its nodes may stand at its path, and none of its branches is lost or doubled.
use Rattle.std.proofs.Common.{◌≡◌, ℕ, suc, ◌+◌, not, List, [], ◌∷◌, ◌++◌, length, map, All, refl, sym, ap, subst, arith}
use Rattle.std.specs.List.{flat_map, filter, sum_by, AllByRecursion}
use Rattle.std.proofs.lemmas.List.{length-map}
use Rattle.std.proofs.lemmas.List.Elements.{All-from_recursion}
use Rattle.std.proofs.lemmas.List.Filters.{length-filter_both, sum_by-filter_both}
use Rattle.std.proofs.lemmas.List.Sums.{sum_by-append, sum_by-cons}
use Rattle.bp_base.specs.declared.path.Choice.{Choice}
use Rattle.bp_base.specs.declared.path.Pair.{Pair}
use Rattle.bp_base.specs.declared.path.Step.{Step}
use Rattle.bp_base.specs.declared.point.Sheet.{Sheet}
use Rattle.bp_base.specs.declared.record.Record.{Record}
use Rattle.bp_base.specs.declared.record.RecordKind.{RecordKind}
use Rattle.bp_base.specs.declared.record.RecordKind.TheVariants as sort
use Rattle.bp_base.specs.declared.record.Task.{Task}
use Rattle.bp_base.specs.declared.refutation.Refutation.{Refutation}
use Rattle.bp_base.specs.declared.refutation.Refutation.TheVariants.{Split, Closed, Open}
use Rattle.bp_base.specs.Tree.{TreeValue}
use Rattle.bp_base.proofs.Bags.{sum_by-map, sum_by-flat_map}
use Rattle.bp_metric.specs.Choices.{allowed}
use Rattle.bp_metric.specs.Nodes.{Node, Part, SplitOf, ClosedBy, OpenBy, child_nodes, nodes_of, node_count_of}
use Rattle.bp_metric.specs.Records.{IsBalanced, children, children_of, paths_left, paths_of}
use Rattle.bp_metric.specs.Refutation.{CanSplit, EachFits, Fits, extended}
use Rattle.bp_metric.proofs.Refutations.{fits-split, fits-closed, fits-open}
use Rattle.bp_document.proofs.NodeLists.{by_nodes}
use Rattle.bp_check.specs.Written.{is_examined, is_open}
use Rattle.bp_check.proofs.Reading.{nodes_from, nodes-whole, nodes-split, nodes-closed, nodes-open}
use Rattle.bp_join.specs.Joined.{node_of, part_of}
use Rattle.bp_written.specs.Told.{IsOfPairs}
use Rattle.bp_revise.specs.Course.{IsBegun}
use Rattle.bp_written.proofs.GoodNodes.{IsGood}
use Rattle.bp_written.proofs.NodeParts.{parts_same}
use Rattle.bp_written.proofs.PathPairs.{longer_pairs, no_pairs}

each_both : {X : Type 0} (P : X → Type 0) (xs ys : List X) → AllByRecursion P xs → AllByRecursion P ys → AllByRecursion P (xs ++ ys)
each_both P [] ys front back = back
each_both P (x ∷ xs) ys front back = (front.0, each_both P xs ys front.1 back)

module _ (T : TreeValue) (G : Sheet) where
  -- From the refutation to its nodes.

  abbrev HasGood : Refutation → Type 0
  HasGood r = (path : List Step) → IsOfPairs T path → Fits T G r path → AllByRecursion (IsGood T G) (nodes_from T G r path)

  abbrev below : List Step → Pair → List Choice → List Refutation → List Node
  below path p cs rs = child_nodes path p cs (map (nodes_from T G) rs)

  pub children_many : (path : List Step) (p : Pair) (cs : List Choice) (rs : List Refutation) → EachFits (Fits T G) path p cs rs → length rs ≡ length cs
  children_many path p [] [] each = refl
  children_many path p [] (r ∷ rs) each = absurd each
  children_many path p (c ∷ cs) [] each = absurd each
  children_many path p (c ∷ cs) (r ∷ rs) each = ap suc (children_many path p cs rs each.1)

  children_good : (path : List Step) (p : Pair) (cs : List Choice) (rs : List Refutation) → IsOfPairs T path → CanSplit T path p → AllByRecursion HasGood rs → EachFits (Fits T G) path p cs rs → AllByRecursion (IsGood T G) (below path p cs rs)
  children_good path p [] [] of can all each = tt
  children_good path p [] (r ∷ rs) of can all each = absurd each
  children_good path p (c ∷ cs) [] of can all each = absurd each
  children_good path p (c ∷ cs) (r ∷ rs) of can all each =
      each_both (IsGood T G) (nodes_from T G r (extended path p c)) (below path p cs rs) (all.0 (extended path p c) (longer_pairs T path p c of can) each.0) (children_good path p cs rs of can all.1 each.1)

  split_good : (p : Pair) (rs : List Refutation) → AllByRecursion HasGood rs → HasGood (Split p rs)
  split_good p rs all path of fits =
      let both : CanSplit T path p × EachFits (Fits T G) path p (allowed T G p) rs = coe 0 1 (i. fits-split T G p rs path i) fits in
      subst (AllByRecursion (IsGood T G)) (sym (nodes-split T G p rs path)) ((of, (both.0, children_many path p (allowed T G p) rs both.1)), children_good path p (allowed T G p) rs of both.0 all both.1)

  pub nodes_good : (r : Refutation) (path : List Step) → IsOfPairs T path → Fits T G r path → AllByRecursion (IsGood T G) (nodes_from T G r path)
  nodes_good =
      by_nodes HasGood split_good
      (λ claim path of fits. subst (AllByRecursion (IsGood T G)) (sym (nodes-closed T G claim path)) ((of, coe 0 1 (i. fits-closed T G claim path i) fits), tt))
      (λ claim path of fits. subst (AllByRecursion (IsGood T G)) (sym (nodes-open T G claim path)) ((of, coe 0 1 (i. fits-open T G claim path i) fits), tt))

  pub all_good : (r : Refutation) → Fits T G r [] → All (IsGood T G) (nodes_of T G r)
  all_good r fits = subst (All (IsGood T G)) (sym (nodes-whole T G r)) (All-from_recursion (IsGood T G) (nodes_from T G r []) (nodes_good r [] (no_pairs T) fits))

  -- Its branches: the root and the children of splits are the paths of its nodes.

  abbrev child_paths : List Step → Part → List (List Step)
  child_paths path (SplitOf p k) = children T G path p
  child_paths path (ClosedBy claim) = []
  child_paths path (OpenBy claim) = []

  module _ (h : List Step → ℕ) where
    abbrev at_path : Node → ℕ
    at_path n = h n.path

    abbrev at_children : Node → ℕ
    at_children n = sum_by h (child_paths n.path n.part)

    abbrev IsEven : Refutation → Type 0
    IsEven r = (path : List Step) → Fits T G r path → h path + sum_by at_children (nodes_from T G r path) ≡ sum_by at_path (nodes_from T G r path)

    children_even : (path : List Step) (p : Pair) (cs : List Choice) (rs : List Refutation) → AllByRecursion IsEven rs → EachFits (Fits T G) path p cs rs → sum_by h (map (extended path p) cs) + sum_by at_children (below path p cs rs) ≡ sum_by at_path (below path p cs rs)
    children_even path p [] [] all each = refl
    children_even path p [] (r ∷ rs) all each = absurd each
    children_even path p (c ∷ cs) [] all each = absurd each
    children_even path p (c ∷ cs) (r ∷ rs) all each =
        let ns = nodes_from T G r (extended path p c) in
        let more = below path p cs rs in
        omega (
          arith,
          sum_by-cons h (extended path p c) (map (extended path p) cs),
          sum_by-append at_children ns more,
          sum_by-append at_path ns more,
          all.0 (extended path p c) each.0,
          children_even path p cs rs all.1 each.1,
        )

    split_even : (p : Pair) (rs : List Refutation) → AllByRecursion IsEven rs → IsEven (Split p rs)
    split_even p rs all path fits =
        let both : CanSplit T path p × EachFits (Fits T G) path p (allowed T G p) rs = coe 0 1 (i. fits-split T G p rs path i) fits in
        let n : Node = record { path = path; part = SplitOf p (length rs) } in
        let more = below path p (allowed T G p) rs in
        let is = nodes-split T G p rs path in
        omega (
          arith,
          ap (sum_by at_children) is,
          ap (sum_by at_path) is,
          sum_by-cons at_children n more,
          sum_by-cons at_path n more,
          children_even path p (allowed T G p) rs all both.1,
        )

    one_even : (r : Refutation) (path : List Step) (n : Node) → nodes_from T G r path ≡ n ∷ [] → at_children n ≡ 0 → h path ≡ at_path n → h path + sum_by at_children (nodes_from T G r path) ≡ sum_by at_path (nodes_from T G r path)
    one_even r path n is none here =
        omega (arith, ap (sum_by at_children) is, ap (sum_by at_path) is, sum_by-cons at_children n [], sum_by-cons at_path n [], none, here)

    is_even : (r : Refutation) → IsEven r
    is_even =
        by_nodes IsEven split_even
        (λ claim path fits. one_even (Closed claim) path (record { path = path; part = ClosedBy claim }) (nodes-closed T G claim path) refl refl)
        (λ claim path fits. one_even (Open claim) path (record { path = path; part = OpenBy claim }) (nodes-open T G claim path) refl refl)

    kind_children : (path : List Step) (kind : RecordKind) → sum_by h (children_of T G (record { path = path; kind = kind; ticket = 0; given = 0; bound = 0 })) ≡ sum_by h (child_paths path (part_of T G kind))
    kind_children path (sort.Split p) = refl
    kind_children path (sort.Closed claim) = refl

    record_children : (records : List Record) → sum_by (λ (r : Record). sum_by h (children_of T G r)) records ≡ sum_by at_children (map (node_of T G) records)
    record_children [] = refl
    record_children (r ∷ records) =
        omega (
          arith,
          sum_by-cons (λ (x : Record). sum_by h (children_of T G x)) r records,
          sum_by-cons at_children (node_of T G r) (map (node_of T G) records),
          kind_children r.path r.kind,
          record_children records,
        )

    open_childless : (ns : List Node) → sum_by at_children (filter (λ (n : Node). is_open n.part) ns) ≡ 0
    open_childless [] = refl
    open_childless (n ∷ ns) = go n.path n.part (open_childless ns)
      where
        go : (path : List Step) (part : Part) → sum_by at_children (filter (λ (m : Node). is_open m.part) ns) ≡ 0 → sum_by at_children (filter (λ (m : Node). is_open m.part) ((record { path = path; part = part }) ∷ ns)) ≡ 0
        go path (SplitOf p k) rest = rest
        go path (ClosedBy claim) rest = rest
        go path (OpenBy claim) rest = omega (arith, sum_by-cons at_children (record { path = path; part = OpenBy claim }) (filter (λ (m : Node). is_open m.part) ns), rest)

  part_open : (part : Part) → is_open part ≡ not (is_examined part)
  part_open (SplitOf p k) = refl
  part_open (ClosedBy claim) = refl
  part_open (OpenBy claim) = refl

  part_examined : (part : Part) → is_examined part ≡ not (is_open part)
  part_examined (SplitOf p k) = refl
  part_examined (ClosedBy claim) = refl
  part_examined (OpenBy claim) = refl

  -- Records and branches left that are the nodes of a refutation which fits.

  module _ (r : Refutation) (base : List Record) (left : List Task) (begun : IsBegun T G r base left) where
    abbrev nodes : List Node
    nodes = nodes_of T G r

    pub begun_balanced : Fits T G r [] → IsBalanced T G base left
    begun_balanced fits h =
        let even = is_even h r [] fits in
        let whole = nodes-whole T G r in
        let opens = filter (λ (n : Node). is_open n.part) nodes in
        omega (
          arith,
          sum_by-cons h [] (flat_map (children_of T G) base),
          sum_by-flat_map h (children_of T G) base,
          record_children h base,
          ap (sum_by (at_children h)) begun.records,
          sum_by-filter_both (λ (n : Node). is_examined n.part) (λ (n : Node). is_open n.part) (λ n. part_open n.part) (at_children h) nodes,
          open_childless h nodes,
          ap (sum_by (at_children h)) whole,
          even,
          ap (sum_by (at_path h)) whole,
          sum_by-filter_both (λ (n : Node). is_examined n.part) (λ (n : Node). is_open n.part) (λ n. part_open n.part) (at_path h) nodes,
          ap (sum_by (at_path h)) begun.records,
          sum_by-map (at_path h) (node_of T G) base,
          sum_by-map h (λ (x : Record). x.path) base,
          ap (sum_by h) begun.left,
          sum_by-map h (λ (n : Node). n.path) opens,
          sum_by-append h (paths_of base) (paths_left left),
        )

    pub begun_many : length base + length left ≡ node_count_of r
    begun_many =
        omega (
          arith,
          ap length begun.records,
          length-map base (node_of T G),
          ap length begun.left,
          length-map left (λ (t : Task). t.path),
          length-map (filter (λ (n : Node). is_open n.part) nodes) (λ (n : Node). n.path),
          length-filter_both (λ (n : Node). is_examined n.part) (λ (n : Node). is_open n.part) (λ n. part_open n.part) nodes,
          ap length (parts_same T G r),
          length-map nodes (λ (n : Node). n.part),
        )
