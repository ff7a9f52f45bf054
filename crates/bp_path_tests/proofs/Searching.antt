-- A search's turns keep its records and tasks in balance.
use Rattle.std.proofs.Common.{◌≡◌, ℕ, ◌+◌, ◌<◌, List, [], ◌∷◌, ◌++◌, map, length, get_or, take, All, Some, sym, ◌∙◌, ap, subst, arith}
use Rattle.std.specs.List.{sum_by, flat_map, remove, slice_get}
use Rattle.std.specs.List.Sorted.{IsPermutation}
use Rattle.std.proofs.lemmas.List.{take_more, map-append, flat_map_more, append_assoc, append-nil}
use Rattle.std.proofs.lemmas.List.Elements.{All-tail, All-push}
use Rattle.std.proofs.lemmas.List.Sorted.{IsPermutation-remove, All-permutation}
use Rattle.std.proofs.lemmas.List.Sums.{sum_by-cons, sum_by-append, sum_by_push}
use Rattle.std.proofs.lemmas.Option.{get_or_from_slice_get, slice_get_within}
use Rattle.bp_base.specs.declared.path.Choice.{Choice}
use Rattle.bp_base.specs.declared.path.Pair.{Pair}
use Rattle.bp_base.specs.declared.path.Step.{Step}
use Rattle.bp_base.specs.declared.point.Sheet.{Sheet}
use Rattle.bp_base.specs.declared.record.Task.{Task}
use Rattle.bp_base.specs.declared.record.Record.{Record}
use Rattle.bp_base.specs.declared.record.RecordKind.TheVariants.{Split}
use Rattle.bp_base.specs.Path.{IsPairOf}
use Rattle.bp_base.specs.Tree.{TreeValue, leaf_count}
use Rattle.bp_base.proofs.Bags.{same-IsPermutation, same-map, same-flat_map}
use Rattle.bp_metric.specs.Chains.{HasPairsOf}
use Rattle.bp_metric.specs.Choices.{allowed}
use Rattle.bp_metric.specs.Records.{children, children_of, children_of_kind, paths_of, paths_left}
use Rattle.bp_metric.specs.Refutation.{extended}
use Rattle.bp_join.specs.Joined.{HasPairOf}
use Rattle.bp_path_tests.specs.Searches.{CanJoin}

pub choices_more : (path : List Step) (p : Pair) (cs : List Choice) (k : ℕ) (c : Choice) → slice_get cs k ≡ Some c → map (extended path p) (take (k + 1) cs) ≡ map (extended path p) (take k cs) ++ extended path p c ∷ []
choices_more path p cs k c at =
    ap (map (extended path p)) (take_more cs k c (slice_get_within cs k c at) ∙ ap (λ (d : Choice). take k cs ++ d ∷ []) (get_or_from_slice_get cs k c c at))
    ∙ map-append (extended path p) (take k cs) (c ∷ [])

module _ (T : TreeValue) (G : Sheet) where
  -- one task is taken, a record of it is made, and its children are left
  pub one_more : (records : List Record) (left mid new : List Task) (t : Task) (r : Record) → CanJoin T G records left → IsPermutation left (t ∷ mid) → r.path ≡ t.path → HasPairOf T r.kind → paths_left new ≡ paths_left mid ++ children_of T G r → All (λ (u : Task). HasPairsOf (leaf_count T) u.path) new → CanJoin T G (records ++ r ∷ []) new
  one_more records left mid new t r can moved same pair is paths = record {
    balanced = λ h.
        let kids = children_of T G in
        let whole = can.balanced h in
        let parts = sum_by-append h (paths_of records) (paths_left left) in
        let taken = same-map (λ (u : Task). u.path) left (t ∷ mid) (same-IsPermutation left (t ∷ mid) moved) h ∙ sum_by-cons h t.path (paths_left mid) in
        let old = sum_by-cons h [] (flat_map kids records) in
        let now = sum_by-cons h [] (flat_map kids (records ++ r ∷ [])) in
        let below = ap (sum_by h) (sym (flat_map_more kids [] records r)) ∙ sum_by-append h (flat_map kids records) (kids r) in
        let above = ap (sum_by h) (map-append (λ (q : Record). q.path) records (r ∷ [])) ∙ sum_by_push h (paths_of records) r.path in
        let left_now = ap (sum_by h) is ∙ sum_by-append h (paths_left mid) (kids r) in
        let end = sum_by-append h (paths_of (records ++ r ∷ [])) (paths_left new) in
        omega (arith, whole, parts, taken, old, now, below, above, left_now, end, ap h same);
    splits = All-push (λ (q : Record). HasPairOf T q.kind) records r can.splits pair;
    paths = paths;
  }

  taken : (left mid : List Task) (at : ℕ) (t : Task) → at < length left → t ≡ get_or left at t → mid ≡ remove left at → IsPermutation left (t ∷ mid)
  taken left mid at t less is rest = subst (λ (ts : List Task). IsPermutation left (t ∷ ts)) (sym rest) (IsPermutation-remove left at t less is)

  others : (left mid : List Task) (t : Task) → IsPermutation left (t ∷ mid) → All (λ (u : Task). HasPairsOf (leaf_count T) u.path) left → All (λ (u : Task). HasPairsOf (leaf_count T) u.path) mid
  others left mid t moved all = All-tail (λ (u : Task). HasPairsOf (leaf_count T) u.path) t mid (All-permutation (λ (u : Task). HasPairsOf (leaf_count T) u.path) left (t ∷ mid) moved all)

  pub one_closed : (records more : List Record) (left mid : List Task) (at : ℕ) (t : Task) (r : Record) → CanJoin T G records left → at < length left → t ≡ get_or left at t → mid ≡ remove left at → r.path ≡ t.path → children_of T G r ≡ [] → HasPairOf T r.kind → more ≡ records ++ r ∷ [] → CanJoin T G more mid
  one_closed records more left mid at t r can less is rest same none pair pushed =
      let moved = taken left mid at t less is rest in
      let paths : paths_left mid ≡ paths_left mid ++ children_of T G r = sym (ap (λ (ps : List (List Step)). paths_left mid ++ ps) none ∙ append-nil (paths_left mid)) in
      subst (λ (rs : List Record). CanJoin T G rs mid) (sym pushed) (one_more records left mid mid t r can moved same pair paths (others left mid t moved can.paths))

  pub one_split : (records more : List Record) (left mid new : List Task) (at : ℕ) (p : Pair) (t : Task) (r : Record) → CanJoin T G records left → at < length left → t ≡ get_or left at t → mid ≡ remove left at → IsPairOf (leaf_count T) p → r.path ≡ t.path → r.kind ≡ Split p → more ≡ records ++ r ∷ [] → paths_left new ≡ paths_left mid ++ children T G t.path p → All (λ (u : Task). HasPairsOf (leaf_count T) u.path) new → CanJoin T G more new
  one_split records more left mid new at p t r can less is rest pair same kind pushed paths all =
      let moved = taken left mid at t less is rest in
      let below : children T G t.path p ≡ children_of T G r = λ i. children_of_kind T G (sym same i) (sym kind i) in
      subst (λ (rs : List Record). CanJoin T G rs new) (sym pushed) (one_more records left mid new t r can moved same (subst (HasPairOf T) (sym kind) pair) (paths ∙ ap (λ (ps : List (List Step)). paths_left mid ++ ps) below) all)

  -- one child more is left
  pub child_left : (path : List Step) (p : Pair) (cs : List Choice) (before now after : List Task) (t : Task) (k : ℕ) (c : Choice) → cs ≡ allowed T G p → slice_get cs k ≡ Some c → paths_left now ≡ paths_left before ++ map (extended path p) (take k (allowed T G p)) → All (λ (u : Task). HasPairsOf (leaf_count T) u.path) now → IsPairOf (leaf_count T) p → HasPairsOf (leaf_count T) path → t.path ≡ extended path p c → after ≡ now ++ t ∷ [] → (paths_left after ≡ paths_left before ++ map (extended path p) (take (k + 1) (allowed T G p))) × All (λ (u : Task). HasPairsOf (leaf_count T) u.path) after
  child_left path p cs before now after t k c same at paths all pair on is pushed = (
    ap paths_left pushed
        ∙ map-append (λ (u : Task). u.path) now (t ∷ [])
        ∙ (λ i. paths i ++ is i ∷ [])
        ∙ append_assoc (paths_left before) (map (extended path p) (take k (allowed T G p))) (extended path p c ∷ [])
        ∙ ap (λ (ps : List (List Step)). paths_left before ++ ps) (sym (choices_more path p (allowed T G p) k c (ap (λ (ds : List Choice). slice_get ds k) (sym same) ∙ at))),
    subst (All (λ (u : Task). HasPairsOf (leaf_count T) u.path)) (sym pushed) (All-push (λ (u : Task). HasPairsOf (leaf_count T) u.path) now t all (subst (HasPairsOf (leaf_count T)) (sym is) (All-push (λ (s : Step). IsPairOf (leaf_count T) s.pair) path (record { pair = p; choice = c }) on pair))),
  )

  -- the order of the lists doesn't matter
  pub turned : (records others : List Record) (left more : List Task) → CanJoin T G records left → IsPermutation records others → IsPermutation left more → CanJoin T G others more
  turned records others left more can moved_records moved_left = record {
    balanced = λ h.
        let kids = same-flat_map (children_of T G) records others (same-IsPermutation records others moved_records) h in
        let paths = same-map (λ (q : Record). q.path) records others (same-IsPermutation records others moved_records) h in
        let tasks = same-map (λ (u : Task). u.path) left more (same-IsPermutation left more moved_left) h in
        omega (arith, can.balanced h, kids, paths, tasks, sum_by-cons h [] (flat_map (children_of T G) records), sum_by-cons h [] (flat_map (children_of T G) others), sum_by-append h (paths_of records) (paths_left left), sum_by-append h (paths_of others) (paths_left more));
    splits = All-permutation (λ (q : Record). HasPairOf T q.kind) records others moved_records can.splits;
    paths = All-permutation (λ (u : Task). HasPairsOf (leaf_count T) u.path) left more moved_left can.paths;
  }
