-- All entries, in order, are a tree; and where the records are sound each node may stand.
use Rattle.std.proofs.Common.{◌≡◌, ℕ, List, [], ◌∷◌, ◌++◌, map, reverse, refl, sym, ◌∙◌, ap, subst}
use Rattle.std.specs.List.{sum_by, flat_map, AllByRecursion, All}
use Rattle.std.specs.List.Sorted.{IsPermutation}
use Rattle.std.proofs.lemmas.List.{map-append, append_assoc, append-nil}
use Rattle.std.proofs.lemmas.List.Elements.{All-from_recursion, recursion_from_All}
use Rattle.std.proofs.lemmas.List.Sorted.{IsPermutation-append, IsPermutation-append_comm, IsPermutation-map, IsPermutation-reverse, IsPermutation-trans, All-permutation}
use Rattle.bp_base.specs.declared.chain.Claim.{Claim}
use Rattle.bp_base.specs.declared.chain.Claim.TheVariants.{Walk, Cycle}
use Rattle.bp_base.specs.declared.path.Pair.{Pair}
use Rattle.bp_base.specs.declared.path.Step.{Step}
use Rattle.bp_base.specs.declared.point.Sheet.{Sheet}
use Rattle.bp_base.specs.declared.record.Task.{Task}
use Rattle.bp_base.specs.declared.record.Record.{Record}
use Rattle.bp_base.specs.declared.record.RecordKind.{RecordKind}
use Rattle.bp_base.specs.declared.record.RecordKind.TheVariants.{Split, Closed}
use Rattle.bp_base.specs.declared.refutation.Refutation.{Refutation}
use Rattle.bp_base.specs.Bags.{AreSame}
use Rattle.bp_base.specs.Tree.{TreeValue, leaf_count}
use Rattle.bp_base.proofs.Bags.{same-IsPermutation, same-map, same-flat_map, same-cons}
use Rattle.bp_metric.specs.Chains.{ClaimHolds}
use Rattle.bp_metric.specs.Coordinates.{IsShown, IsShownOrCycle}
use Rattle.bp_metric.specs.Next.{IsNextPair}
use Rattle.bp_metric.specs.Nodes.{Node, Part, OpenBy}
use Rattle.bp_metric.specs.Records.{children_of, children_of_kind, paths_of, paths_left, IsBalanced, IsJudged, IsSound}
use Rattle.bp_metric.specs.Refutation.{CanSplit, Fits}
use Rattle.bp_metric.specs.Stated.{IsStatedFor}
use Rattle.bp_join.specs.declared.entry.Entry.{Entry}
use Rattle.bp_join.specs.declared.entry.Opened.{Opened}
use Rattle.bp_join.specs.Entries.{entry_node, opened_node, stacked}
use Rattle.bp_join.specs.Joined.{HasPairOf, node_of, part_of, AreOpenNodes, IsJoined}
use Rattle.bp_join.specs.Trees.{AreInOrder, child_paths, paths_at, IsPartOf, HavePairs, IsTree, under, AllFit, NodeFits, BeginsWithTree, TakesTree, HasNodes}
use Rattle.bp_join.proofs.Sums.{each-append}
use Rattle.bp_join.proofs.Takings.{nodes-root}

module _ (T : TreeValue) (G : Sheet) where
  -- Nodes of records and of tasks.

  record_paths : (records : List Record) → paths_at (map (node_of T G) records) ≡ paths_of records
  record_paths [] = refl
  record_paths (r ∷ records) = ap (λ (ps : List (List Step)). r.path ∷ ps) (record_paths records)

  open_paths : (left : List Task) (opens : List Node) → AreOpenNodes T G left opens → paths_at opens ≡ paths_left left
  open_paths [] [] all = refl
  open_paths [] (n ∷ opens) all = absurd all
  open_paths (t ∷ left) [] all = absurd all
  open_paths (t ∷ left) (n ∷ opens) all = λ i. all.0.path i ∷ open_paths left opens all.1 i

  record_children : (path : List Step) (kind : RecordKind) → child_paths T G (record { path = path; part = part_of T G kind }) ≡ children_of_kind T G path kind
  record_children path (Split p) = refl
  record_children path (Closed claim) = refl

  all_children : (records : List Record) → flat_map (child_paths T G) (map (node_of T G) records) ≡ flat_map (children_of T G) records
  all_children [] = refl
  all_children (r ∷ records) = λ i. record_children r.path r.kind i ++ all_children records i

  open_child : (n : Node) (claim : Claim) (part : Part) → part ≡ OpenBy claim → child_paths T G (record { path = n.path; part = part }) ≡ []
  open_child n claim part is = ap (λ (q : Part). child_paths T G (record { path = n.path; part = q })) is

  open_children : (left : List Task) (opens : List Node) → AreOpenNodes T G left opens → flat_map (child_paths T G) opens ≡ []
  open_children [] [] all = refl
  open_children [] (n ∷ opens) all = absurd all
  open_children (t ∷ left) [] all = absurd all
  open_children (t ∷ left) (n ∷ opens) all = λ i. open_child n all.0.claim n.part all.0.part i ++ open_children left opens all.1 i

  flat_map-append : {X Y : Type 0} (k : X → List Y) (xs ys : List X) → flat_map k (xs ++ ys) ≡ flat_map k xs ++ flat_map k ys
  flat_map-append k [] ys = refl
  flat_map-append k (x ∷ xs) ys = ap (λ (l : List _). k x ++ l) (flat_map-append k xs ys) ∙ sym (append_assoc (k x) (flat_map k xs) (flat_map k ys))

  -- balance, in terms of the nodes
  balanced : (records : List Record) (left : List Task) (opens : List Node) → IsBalanced T G records left → AreOpenNodes T G left opens → AreSame ([] ∷ flat_map (child_paths T G) (map (node_of T G) records ++ opens)) (paths_at (map (node_of T G) records ++ opens))
  balanced records left opens same all h =
      let below : flat_map (child_paths T G) (map (node_of T G) records ++ opens) ≡ flat_map (children_of T G) records =
      flat_map-append (child_paths T G) (map (node_of T G) records) opens
      ∙ (λ i. all_children records i ++ open_children left opens all i)
      ∙ append-nil (flat_map (children_of T G) records) in
      let paths : paths_at (map (node_of T G) records ++ opens) ≡ paths_of records ++ paths_left left =
      map-append (λ (n : Node). n.path) (map (node_of T G) records) opens
      ∙ (λ i. record_paths records i ++ open_paths left opens all i) in
      ap (λ (ps : List (List Step)). sum_by h ([] ∷ ps)) below ∙ same h ∙ ap (sum_by h) (sym paths)

  record_pair : (kind : RecordKind) → HasPairOf T kind → IsPartOf T (part_of T G kind)
  record_pair (Split p) pair = pair
  record_pair (Closed claim) pair = tt

  record_pairs : (records : List Record) → AllByRecursion (λ (r : Record). HasPairOf T r.kind) records → HavePairs T (map (node_of T G) records)
  record_pairs [] all = tt
  record_pairs (r ∷ records) all = (record_pair r.kind all.0, record_pairs records all.1)

  open_pairs : (left : List Task) (opens : List Node) → AreOpenNodes T G left opens → HavePairs T opens
  open_pairs [] [] all = tt
  open_pairs [] (n ∷ opens) all = absurd all
  open_pairs (t ∷ left) [] all = absurd all
  open_pairs (t ∷ left) (n ∷ opens) all = (subst (IsPartOf T) (sym all.0.part) tt, open_pairs left opens all.1)

  -- Where the records are sound each node may stand.

  shown_holds : (path : List Step) (claim : Claim) → IsShown T G path claim → ClaimHolds (leaf_count T) path claim
  shown_holds path (Walk axis chain) shown = shown.is_chain
  shown_holds path (Cycle axis chain) shown = absurd shown

  open_holds : (path : List Step) (claim : Claim) → IsShownOrCycle T G path claim → ClaimHolds (leaf_count T) path claim
  open_holds path (Walk axis chain) shown = shown.is_chain
  open_holds path (Cycle axis chain) shown = shown

  module _ (splits : (u : ℕ) (path : List Step) (p : Pair) → IsStatedFor T G u path → IsNextPair T path p → CanSplit T path p) where
    kind_fits : (S u : ℕ) (r : Record) (kind : RecordKind) → IsStatedFor T G u r.path → IsJudged T G u r kind → NodeFits T G r.path (part_of T G kind)
    kind_fits S u r (Split p) stated judged = splits u r.path p stated judged.0.next
    kind_fits S u r (Closed claim) stated judged = shown_holds r.path claim judged.0

    records_fit : (S : ℕ) (records : List Record) → AllByRecursion (IsSound T G S) records → AllFit T G (map (node_of T G) records)
    records_fit S [] all = tt
    records_fit S (r ∷ records) all = (kind_fits S all.0.opening_side r r.kind all.0.stated all.0.judged, records_fit S records all.1)

  opens_fit : (left : List Task) (opens : List Node) → AreOpenNodes T G left opens → AllFit T G opens
  opens_fit [] [] all = tt
  opens_fit [] (n ∷ opens) all = absurd all
  opens_fit (t ∷ left) [] all = absurd all
  opens_fit (t ∷ left) (n ∷ opens) all = (one n.path n.part all.0.path all.0.part, opens_fit left opens all.1)
    where
      one : (path : List Step) (part : Part) → path ≡ t.path → part ≡ OpenBy all.0.claim → NodeFits T G path part
      one path part same is =
          subst (λ (q : List Step). NodeFits T G q part) (sym same) (subst (λ (q : Part). NodeFits T G t.path q) (sym is) (open_holds t.path all.0.claim all.0.shown))

  -- All together.

  under_root : (ns : List Node) → map (under []) ns ≡ ns
  under_root [] = refl
  under_root (n ∷ ns) = ap (λ (ms : List Node). n ∷ ms) (under_root ns)

  module _ (records : List Record) (left : List Task) (added sorted : List Entry) (opens : List Node) (all : AreOpenNodes T G left opens) (is : IsPermutation (map (node_of T G) records ++ opens) (map (entry_node T G) added)) (moved : IsPermutation added sorted) where
    shuffled : IsPermutation (map (node_of T G) records ++ opens) (stacked T G sorted)
    shuffled = IsPermutation-trans _ (map (entry_node T G) added) (stacked T G sorted) is (IsPermutation-map (entry_node T G) added (reverse sorted) (IsPermutation-trans added sorted (reverse sorted) moved (IsPermutation-reverse sorted)))

    same_nodes : AreSame (map (node_of T G) records ++ opens) (stacked T G sorted)
    same_nodes = same-IsPermutation (map (node_of T G) records ++ opens) (stacked T G sorted) shuffled

    pub whole_tree : IsBalanced T G records left → All (λ (r : Record). HasPairOf T r.kind) records → AreInOrder (stacked T G sorted) → IsTree T G (stacked T G sorted)
    whole_tree same pairs order = record {
      balanced = λ h.
          let given = map (node_of T G) records ++ opens in
          let kids = child_paths T G in
          let there = same-cons [] (flat_map kids given) (flat_map kids (stacked T G sorted)) (same-flat_map kids given (stacked T G sorted) same_nodes) h in
          sym there ∙ balanced records left opens same all h ∙ same-map (λ (n : Node). n.path) given (stacked T G sorted) same_nodes h;
      in_order = order;
      pairs = recursion_from_All (λ (n : Node). IsPartOf T n.part) (stacked T G sorted) (All-permutation (λ (n : Node). IsPartOf T n.part) _ _ shuffled (All-from_recursion (λ (n : Node). IsPartOf T n.part) _ (each-append (λ (n : Node). IsPartOf T n.part) _ _ (record_pairs records (recursion_from_All _ records pairs)) (open_pairs left opens all))));
    }

    pub tree_next : IsTree T G (stacked T G sorted) → BeginsWithTree T G (stacked T G sorted)
    tree_next tree = record { path = []; front = stacked T G sorted; rest = []; is = sym (append-nil (map (under []) (stacked T G sorted)) ∙ under_root (stacked T G sorted)); tree = tree }

    pub root_taken : (after : List Node) (r : Refutation) → IsTree T G (stacked T G sorted) → TakesTree T G (stacked T G sorted) after r → HasNodes T G [] r (stacked T G sorted)
    root_taken after r tree takes = subst (HasNodes T G [] r) (under_root (stacked T G sorted)) (takes [] (stacked T G sorted) [] (sym (append-nil (map (under []) (stacked T G sorted)) ∙ under_root (stacked T G sorted))) tree).1

    pub joined_all : (r : Refutation) → HasNodes T G [] r (stacked T G sorted) → IsJoined T G records left r
    joined_all r has = record {
      opens = opens;
      are_opens = all;
      same = λ h. ap (sum_by h) (nodes-root T G r ∙ has.nodes) ∙ sym (same_nodes h);
    }

    pub fits_all : ((u : ℕ) (path : List Step) (p : Pair) → IsStatedFor T G u path → IsNextPair T path p → CanSplit T path p) → (r : Refutation) → HasNodes T G [] r (stacked T G sorted) → (S : ℕ) → All (IsSound T G S) records → Fits T G r []
    fits_all splits r has S sound =
        let P : Node → Type 0 = λ n. NodeFits T G n.path n.part in
        let each = each-append P _ opens (records_fit splits S records (recursion_from_All (IsSound T G S) records sound)) (opens_fit left opens all) in
        has.fits (recursion_from_All P (stacked T G sorted) (All-permutation P _ _ shuffled (All-from_recursion P _ each)))

  -- the entries of the tasks left in some order, and then those of the records, the last one first
  pub added_all : (records : List Record) (opened : List Opened) (first second third added : List Entry) → first ≡ [] → map (entry_node T G) second ≡ map (entry_node T G) first ++ map opened_node opened → IsPermutation second third → map (entry_node T G) added ≡ map (entry_node T G) third ++ map (node_of T G) (reverse records) → IsPermutation (map (node_of T G) records ++ map opened_node opened) (map (entry_node T G) added)
  added_all records opened first second third added none adds moved back =
      let opens : IsPermutation (map opened_node opened) (map (entry_node T G) third) =
      subst (λ (ns : List Node). IsPermutation ns (map (entry_node T G) third)) (adds ∙ ap (λ (es : List Entry). map (entry_node T G) es ++ map opened_node opened) none) (IsPermutation-map (entry_node T G) second third moved) in
      let those : IsPermutation (map (node_of T G) records) (map (node_of T G) (reverse records)) = IsPermutation-map (node_of T G) records (reverse records) (IsPermutation-reverse records) in
      subst (IsPermutation (map (node_of T G) records ++ map opened_node opened)) (sym back) (IsPermutation-trans _ (map opened_node opened ++ map (node_of T G) records) _ (IsPermutation-append_comm (map (node_of T G) records) (map opened_node opened)) (IsPermutation-append _ _ _ _ opens those))

  -- what a stack of all entries gives
  pub record Stands (records : List Record) (left : List Task) (ns : List Node) : Type 0 where
    pub begins : BeginsWithTree T G ns
    pub joined : (after : List Node) (r : Refutation) → TakesTree T G ns after r → IsJoined T G records left r
    pub fits : ((u : ℕ) (path : List Step) (p : Pair) → IsStatedFor T G u path → IsNextPair T path p → CanSplit T path p) → (after : List Node) (r : Refutation) → TakesTree T G ns after r → (S : ℕ) → All (IsSound T G S) records → Fits T G r []

  pub stands : (records : List Record) (left : List Task) (opened : List Opened) (first second third added sorted : List Entry) → AreOpenNodes T G left (map opened_node opened) → first ≡ [] → map (entry_node T G) second ≡ map (entry_node T G) first ++ map opened_node opened → IsPermutation second third → map (entry_node T G) added ≡ map (entry_node T G) third ++ map (node_of T G) (reverse records) → IsPermutation added sorted → AreInOrder (stacked T G sorted) → IsBalanced T G records left → All (λ (r : Record). HasPairOf T r.kind) records → Stands records left (stacked T G sorted)
  stands records left opened first second third added sorted are_opens none adds turned back moved order same pairs =
      let is = added_all records opened first second third added none adds turned back in
      let tree = whole_tree records left added sorted (map opened_node opened) are_opens is moved same pairs order in
      record {
        begins = tree_next records left added sorted (map opened_node opened) are_opens is moved tree;
        joined = λ after r takes. joined_all records left added sorted (map opened_node opened) are_opens is moved r (root_taken records left added sorted (map opened_node opened) are_opens is moved after r tree takes);
        fits = λ splits after r takes. fits_all records left added sorted (map opened_node opened) are_opens is moved splits r (root_taken records left added sorted (map opened_node opened) are_opens is moved after r tree takes);
      }
