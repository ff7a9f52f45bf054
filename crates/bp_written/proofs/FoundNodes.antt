-- The nodes of records and of tasks left, joined to one refutation: what holds of all of them, and how many there are.
use Rattle.std.proofs.Common.{◌≡◌, ℕ, suc, ◌+◌, ◌<◌, Bool, cond, List, [], ◌∷◌, ◌++◌, length, get_or, map, All, refl, sym, ap, ◌∙◌, subst, arith, length-append}
use Rattle.std.specs.List.{AllByRecursion, Any, sum_by}
use Rattle.std.proofs.lemmas.List.{length-map, get_or-map, get_or_append_left}
use Rattle.std.proofs.lemmas.List.Elements.{All-append, All-from_recursion, recursion_from_All, All-map}
use Rattle.std.proofs.lemmas.List.Sums.{length-filter, sum_by-append, sum_by-cons}
use Rattle.bp_base.specs.declared.chain.Claim.{Claim}
use Rattle.bp_base.specs.declared.chain.Claim.TheVariants.{Walk, Cycle}
use Rattle.bp_base.specs.declared.path.Step.{Step}
use Rattle.bp_base.specs.declared.point.Axis.{Axis}
use Rattle.bp_base.specs.declared.point.Sheet.{Sheet}
use Rattle.bp_base.specs.declared.record.Record.{Record}
use Rattle.bp_base.specs.declared.record.RecordKind.{RecordKind}
use Rattle.bp_base.specs.declared.record.RecordKind.TheVariants.{Split, Closed}
use Rattle.bp_base.specs.declared.record.Task.{Task}
use Rattle.bp_base.specs.declared.refutation.Refutation.{Refutation}
use Rattle.bp_base.specs.Chain.{IsChainList}
use Rattle.bp_base.specs.Tree.{TreeValue, IsTree, leaf_count}
use Rattle.bp_base.proofs.Bags.{same_sym, same-length}
use Rattle.bp_metric.specs.Chains.{ClaimHolds, IsChain}
use Rattle.bp_metric.specs.Coordinates.{IsShown, IsShownOrCycle}
use Rattle.bp_metric.specs.Nodes.{Node, OpenBy, Part, nodes_of}
use Rattle.bp_metric.proofs.Lows.{chain_few}
use Rattle.bp_document.specs.Ranges.{IsChainOf}
use Rattle.bp_check.specs.Written.{is_examined, is_open, examined_count, open_count}
use Rattle.bp_join.specs.Joined.{AreOpenNodes, IsJoined, IsOpenNode, node_of, part_of}
use Rattle.bp_written.proofs.SameNodes.{all_nodes, any_node}

module _ (T : TreeValue) (G : Sheet) where
  -- an open node stands at its task's path
  pub open_at : (P : List Step → Part → Type 0) (x : Task) (n : Node) (is : IsOpenNode T G x n) → P x.path (OpenBy is.claim) → P n.path n.part
  open_at P x n is p = subst (λ (path : List Step). P path n.part) (sym is.path) (subst (P x.path) (sym is.part) p)

  pub open_all : (Q : Task → Type 0) (P : Node → Type 0) → ((t : Task) (n : Node) → Q t → IsOpenNode T G t n → P n) → (left : List Task) (opens : List Node) → AreOpenNodes T G left opens → AllByRecursion Q left → AllByRecursion P opens
  open_all Q P step [] [] are all = tt
  open_all Q P step [] (n ∷ opens) are all = absurd are
  open_all Q P step (t ∷ left) [] are all = absurd are
  open_all Q P step (t ∷ left) (n ∷ opens) are all = (step t n all.0 are.0, open_all Q P step left opens are.1 all.1)

  open_many : (left : List Task) (opens : List Node) → AreOpenNodes T G left opens → length opens ≡ length left
  open_many [] [] are = refl
  open_many [] (n ∷ opens) are = absurd are
  open_many (t ∷ left) [] are = absurd are
  open_many (t ∷ left) (n ∷ opens) are = ap suc (open_many left opens are.1)

  -- sums in which all weigh 1, or nothing

  record_ones : (h : Node → ℕ) → ((x : Record) → h (node_of T G x) ≡ 1) → (records : List Record) → sum_by h (map (node_of T G) records) ≡ length records
  record_ones h each [] = refl
  record_ones h each (x ∷ records) = omega (arith, sum_by-cons h (node_of T G x) (map (node_of T G) records), each x, record_ones h each records)

  record_none : (h : Node → ℕ) → ((x : Record) → h (node_of T G x) ≡ 0) → (records : List Record) → sum_by h (map (node_of T G) records) ≡ 0
  record_none h each [] = refl
  record_none h each (x ∷ records) = omega (arith, sum_by-cons h (node_of T G x) (map (node_of T G) records), each x, record_none h each records)

  open_ones : (h : Node → ℕ) → ((t : Task) (n : Node) → IsOpenNode T G t n → h n ≡ 1) → (left : List Task) (opens : List Node) → AreOpenNodes T G left opens → sum_by h opens ≡ length left
  open_ones h each [] [] are = refl
  open_ones h each [] (n ∷ opens) are = absurd are
  open_ones h each (t ∷ left) [] are = absurd are
  open_ones h each (t ∷ left) (n ∷ opens) are = omega (arith, sum_by-cons h n opens, each t n are.0, open_ones h each left opens are.1)

  open_none : (h : Node → ℕ) → ((t : Task) (n : Node) → IsOpenNode T G t n → h n ≡ 0) → (left : List Task) (opens : List Node) → AreOpenNodes T G left opens → sum_by h opens ≡ 0
  open_none h each [] [] are = refl
  open_none h each [] (n ∷ opens) are = absurd are
  open_none h each (t ∷ left) [] are = absurd are
  open_none h each (t ∷ left) (n ∷ opens) are = omega (arith, sum_by-cons h n opens, each t n are.0, open_none h each left opens are.1)

  abbrev one_if : Bool → ℕ
  one_if b = cond b 1 0

  kind_examined : (kind : RecordKind) → one_if (is_examined (part_of T G kind)) ≡ 1
  kind_examined (Split p) = refl
  kind_examined (Closed claim) = refl

  kind_open : (kind : RecordKind) → one_if (is_open (part_of T G kind)) ≡ 0
  kind_open (Split p) = refl
  kind_open (Closed claim) = refl

  module _ (records : List Record) (left : List Task) (r : Refutation) (joined : IsJoined T G records left r) where
    -- what holds of the nodes of all records, and of each open node at a task left, holds of all
    pub all_found : (P : Node → Type 0) (Q : Task → Type 0) → ((t : Task) (n : Node) → Q t → IsOpenNode T G t n → P n) → All (λ (x : Record). P (node_of T G x)) records → All Q left → All P (nodes_of T G r)
    all_found P Q step each all =
        let given = map (node_of T G) records ++ joined.opens in
        let opens = All-from_recursion P joined.opens (open_all Q P step left joined.opens joined.are_opens (recursion_from_All Q left all)) in
        all_nodes P given (nodes_of T G r) (same_sym (nodes_of T G r) given joined.same) (All-append P (map (node_of T G) records) joined.opens (All-map P (node_of T G) records each) opens)

    -- a record's node is found
    pub record_found : (P : Node → Type 0) → Any (λ (x : Record). P (node_of T G x)) records → Any P (nodes_of T G r)
    record_found P any =
        let nodes = map (node_of T G) records in
        let n = node_of T G any.1 in
        let within : any.0 < length nodes = omega (arith, any.2, length-map records (node_of T G)) in
        let here : get_or nodes any.0 n ≡ n = get_or-map (node_of T G) records any.0 any.1 n any.2 ∙ ap (node_of T G) any.3 in
        any_node P (nodes ++ joined.opens) (nodes_of T G r) (same_sym (nodes_of T G r) (nodes ++ joined.opens) joined.same)
        (any.0, n, omega (arith, within, length-append nodes joined.opens), get_or_append_left nodes joined.opens n any.0 within ∙ here, any.4)

    sums : (h : Node → ℕ) → sum_by h (nodes_of T G r) ≡ sum_by h (map (node_of T G) records) + sum_by h joined.opens
    sums h = joined.same h ∙ sum_by-append h (map (node_of T G) records) joined.opens

    pub examined_all : examined_count (nodes_of T G r) ≡ length records
    examined_all =
        let h : Node → ℕ = λ n. one_if (is_examined n.part) in
        omega (
          arith,
          length-filter (λ (n : Node). is_examined n.part) (nodes_of T G r),
          sums h,
          record_ones h (λ x. kind_examined x.kind) records,
          open_none h (λ t n is. ap (λ (part : Part). one_if (is_examined part)) is.part) left joined.opens joined.are_opens,
        )

    pub open_all_left : open_count (nodes_of T G r) ≡ length left
    open_all_left =
        let h : Node → ℕ = λ n. one_if (is_open n.part) in
        omega (
          arith,
          length-filter (λ (n : Node). is_open n.part) (nodes_of T G r),
          sums h,
          record_none h (λ x. kind_open x.kind) records,
          open_ones h (λ t n is. ap (λ (part : Part). one_if (is_open part)) is.part) left joined.opens joined.are_opens,
        )

    pub nodes_many : length (nodes_of T G r) ≡ length records + length left
    nodes_many =
        omega (
          arith,
          same-length (nodes_of T G r) (map (node_of T G) records ++ joined.opens) joined.same,
          length-append (map (node_of T G) records) joined.opens,
          length-map records (node_of T G),
          open_many left joined.opens joined.are_opens,
        )

-- Claims that hold are kept as chains.

module _ (T : TreeValue) (t : IsTree T) (G : Sheet) (path : List Step) where
  pub shown_holds : (claim : Claim) → IsShown T G path claim → ClaimHolds (leaf_count T) path claim
  shown_holds (Walk axis chain) shown = shown.is_chain
  shown_holds (Cycle axis chain) shown = absurd shown

  pub open_holds : (claim : Claim) → IsShownOrCycle T G path claim → ClaimHolds (leaf_count T) path claim
  open_holds (Walk axis chain) shown = shown.is_chain
  open_holds (Cycle axis chain) shown = shown

  chain_list : (axis : Axis) (chain : List ℕ) → IsChain (leaf_count T) path axis chain → IsChainList chain
  chain_list axis chain is = record {
    some = is.some;
    short = omega (arith, chain_few T t path axis chain is);
    small = λ k d less. omega (arith, (is.are_leaves k d less).1, t.leaves_few);
  }

  pub claim_small : (claim : Claim) → ClaimHolds (leaf_count T) path claim → IsChainOf claim
  claim_small (Walk axis chain) holds = chain_list axis chain holds
  claim_small (Cycle axis chain) holds = chain_list axis chain holds.chain
