-- A path has one next pair at most, and by its least coordinates one is found, or that there is none.
use Rattle.std.proofs.Common.{◌≡◌, ◌⊎◌, inl, inr, ℕ, zero, suc, ◌+◌, ◌-◌, ◌<◌, ◌≤◌, max, List, Option, None, Some, refl, sym, ap, subst, arith}
use Rattle.std.specs.Int.{abs_diff}
use Rattle.std.proofs.lemmas.Bool.{cases_eq, cases_lt}
use Rattle.bp_base.specs.declared.path.Pair.{Pair}
use Rattle.bp_base.specs.declared.path.Step.{Step}
use Rattle.bp_base.specs.declared.point.Sheet.{Sheet}
use Rattle.bp_base.specs.declared.record.Least.{Least}
use Rattle.bp_base.specs.Tree.{TreeValue, IsTree, leaf_count}
use Rattle.bp_metric.specs.Coordinates.{IsLeast}
use Rattle.bp_metric.specs.Distance.{leaf_dist}
use Rattle.bp_metric.specs.Next.{IsEarlier, IsNext, IsNextPair}
use Rattle.bp_metric.specs.Valid.{IsPair}
use Rattle.bp_branch.specs.Nearest.{AreNear, IsBest, IsPast, of_leaf}
use Rattle.bp_branch.proofs.Best.{is_next, row_begins, row_ends}

-- of two pairs one is earlier, or they are the same
earlier_or_same : (p r : Pair) → IsEarlier p r ⊎ (IsEarlier r p ⊎ (p ≡ r))
earlier_or_same p r = elim (cases_eq p.i r.i) [
  | inl level ↦ elim (cases_eq p.j r.j) [
    | inl same ↦ inr (inr (λ k. record { i = level k; j = same k }))
    | inr apart ↦ elim (cases_lt p.j r.j) [
      | inl less ↦ inl (inr (level, less))
      | inr most ↦ inr (inl (inr (sym level, omega (arith, most, apart))))
    ]
  ]
  | inr apart ↦ elim (cases_lt p.i r.i) [
    | inl less ↦ inl (inl less)
    | inr most ↦ inr (inl (inl (omega (arith, most, apart))))
  ]
]

module _ (T : TreeValue) (path : List Step) where
  one_pair : (p r : Pair) → IsNextPair T path p → IsNextPair T path r → p ≡ r
  one_pair p r is_p is_r =
      let far : leaf_dist T p.i p.j ≡ leaf_dist T r.i r.j = omega (arith, is_p.greatest r is_r.pair is_r.near, is_r.greatest p is_p.pair is_p.near) in
      elim (earlier_or_same p r) [
        | inl earlier ↦ absurd (is_r.least p is_p.pair is_p.near far earlier)
        | inr (inl later) ↦ absurd (is_p.least r is_r.pair is_r.near (sym far) later)
        | inr (inr same) ↦ same
      ]

  pub one_next : (p r : Option Pair) → IsNext T path p → IsNext T path r → p ≡ r
  one_next None None is_p is_r = refl
  one_next None (Some r) is_p is_r = absurd (is_p r is_r.pair is_r.near)
  one_next (Some p) None is_p is_r = absurd (is_r p is_p.pair is_p.near)
  one_next (Some p) (Some r) is_p is_r = ap Some (one_pair p r is_p is_r)

-- The best near pair is found, pair by pair.

module _ (T : TreeValue) (xs ys : List ℕ) where
  past_more : (i j k l : ℕ) → IsPast i (j + 1) k l → IsPast i j k l ⊎ ((k ≡ i) × (l ≡ j))
  past_more i j k l (inl less) = inl (inl less)
  past_more i j k l (inr (same, less)) = elim (cases_lt l j) [
    | inl below ↦ inl (inr (same, below))
    | inr above ↦ inr (same, omega (arith, less, above))
  ]

  past_later : (i j k l : ℕ) → IsPast i j k l → IsPast i (j + 1) k l
  past_later i j k l (inl less) = inl less
  past_later i j k l (inr (same, less)) = inr (same, omega (arith, less))

  near_same : (i j k l : ℕ) → k ≡ i → l ≡ j → AreNear T xs ys k l → AreNear T xs ys i j
  near_same i j k l first second near =
      subst (λ (m : ℕ). AreNear T xs ys i m) second (subst (λ (m : ℕ). AreNear T xs ys m l) first near)

  dist_same : (i j k l : ℕ) → k ≡ i → l ≡ j → leaf_dist T k l ≡ leaf_dist T i j
  dist_same i j k l first second = λ v. leaf_dist T (first v) (second v)

  module _ (i j : ℕ) (pair : IsPair T i j) where
    stays : (p : Pair) → IsBest T xs ys i j (Some p) → (AreNear T xs ys i j → leaf_dist T i j ≤ leaf_dist T p.i p.j) → IsBest T xs ys i (j + 1) (Some p)
    stays p best no_better = record {
      pair = best.pair;
      before = past_later i j p.i p.j best.before;
      near = best.near;
      most = λ k l is_pair past near. elim (past_more i j k l past) [
        | inl before ↦ best.most k l is_pair before near
        | inr here ↦ omega (arith, dist_same i j k l here.0 here.1, no_better (near_same i j k l here.0 here.1 near))
      ];
      first = best.first;
    }

    taken : AreNear T xs ys i j → ((k l : ℕ) → IsPair T k l → IsPast i j k l → AreNear T xs ys k l → leaf_dist T k l < leaf_dist T i j) → IsBest T xs ys i (j + 1) (Some (record { i = i; j = j }))
    taken near better = record {
      pair = pair;
      before = inr (refl, omega arith);
      near = near;
      most = λ k l is_pair past near_too. elim (past_more i j k l past) [
        | inl before ↦ omega (arith, better k l is_pair before near_too)
        | inr here ↦ omega (arith, dist_same i j k l here.0 here.1)
      ];
      first = λ k l is_pair near_too same past. omega (arith, better k l is_pair past near_too, same);
    }

    one_more : (best : Option Pair) → IsBest T xs ys i j best → (new : Option Pair) × IsBest T xs ys i (j + 1) new
    one_more None best = elim (cases_lt (max (abs_diff (of_leaf xs i) (of_leaf xs j)) (abs_diff (of_leaf ys i) (of_leaf ys j))) (leaf_dist T i j)) [
      | inl near ↦ (Some (record { i = i; j = j }), taken near (λ k l is_pair past near_too. absurd (best k l is_pair past near_too)))
      | inr far ↦ (
        None,
        λ k l is_pair past near. elim (past_more i j k l past) [
          | inl before ↦ best k l is_pair before near
          | inr here ↦ let near_here : AreNear T xs ys i j = near_same i j k l here.0 here.1 near in absurd (omega (arith, near_here, far))
        ],
      )
    ]
    one_more (Some p) best = elim (cases_lt (leaf_dist T p.i p.j) (leaf_dist T i j)) [
      | inl less ↦ elim (cases_lt (max (abs_diff (of_leaf xs i) (of_leaf xs j)) (abs_diff (of_leaf ys i) (of_leaf ys j))) (leaf_dist T i j)) [
        | inl near ↦ (Some (record { i = i; j = j }), taken near (λ k l is_pair past near_too. omega (arith, best.most k l is_pair past near_too, less)))
        | inr far ↦ (Some p, stays p best (λ near. absurd (omega (arith, near, far))))
      ]
      | inr most ↦ (Some p, stays p best (λ near. most))
    ]

  row_there : (k i j : ℕ) → 1 ≤ i → i < j → j + k ≡ leaf_count T + 1 → (best : Option Pair) → IsBest T xs ys i j best → (new : Option Pair) × IsBest T xs ys (i + 1) 0 new
  row_there zero i j some less rest best is = (best, row_ends T xs ys i j best (omega (arith, rest)) is)
  row_there (suc k) i j some less rest best is =
      let next = one_more i j (some, less, omega (arith, rest)) best is in
      row_there k i (j + 1) some (omega (arith, less)) (omega (arith, rest)) next.0 next.1

  rows_there : (k i : ℕ) → 1 ≤ i → i + k ≡ leaf_count T → (best : Option Pair) → IsBest T xs ys i 0 best → (new : Option Pair) × IsBest T xs ys (leaf_count T) 0 new
  rows_there zero i some rest best is =
      let end : i ≡ leaf_count T = omega (arith, rest) in
      (best, subst (λ (m : ℕ). IsBest T xs ys m 0 best) end is)
  rows_there (suc k) i some rest best is =
      let row = row_there (leaf_count T - i) i (i + 1) some (omega arith) (omega (arith, rest)) best (row_begins T xs ys i best is) in
      rows_there k (i + 1) (omega (arith, some)) (omega (arith, rest)) row.0 row.1

  no_pair : (k l : ℕ) → IsPair T k l → IsPast 1 0 k l → ⊥
  no_pair k l pair (inl less) = omega (arith, less, pair.0)
  no_pair k l pair (inr (same, less)) = omega (arith, less)

pub next_there : (T : TreeValue) → IsTree T → (G : Sheet) (path : List Step) (l : Least) → IsLeast T G path l → (p : Option Pair) × IsNext T path p
next_there T t G path l least =
    let best = rows_there T l.xs l.ys (leaf_count T - 1) 1 (omega arith) (omega (arith, t.leaves_enough)) None (λ k m pair past near. no_pair T l.xs l.ys k m pair past) in
    (best.0, is_next T G path l least best.0 best.1)
