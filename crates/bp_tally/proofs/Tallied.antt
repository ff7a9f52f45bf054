-- Whether a choice holds, and how many pairs there are.
use Rattle.std.proofs.Common.{◌≡◌, ◌↔◌, ℕ, zero, suc, ◌+◌, ◌*◌, ◌<◌, ◌≤◌, nat_le, Bool, List, ◌++◌, length, IsTrue, sym, ◌∙◌, arith, inl, inr, length-append}
use Rattle.std.proofs.lemmas.Bool.{cases_Bool, cases_lt, le-leb, lt-leb}
use Rattle.std.proofs.lemmas.List.Sums.{count_by-le-length, length-filter}
use Rattle.bp_base.specs.declared.path.Choice.{Choice}
use Rattle.bp_base.specs.declared.path.Choice.TheVariants.{Left, Right, Below, Above}
use Rattle.bp_base.specs.declared.path.Pair.{Pair}
use Rattle.bp_base.specs.declared.point.Point.{Point}
use Rattle.bp_base.specs.declared.point.Sheet.{Sheet}
use Rattle.bp_base.specs.Point.{point_at}
use Rattle.bp_base.specs.Tree.{TreeValue}
use Rattle.bp_metric.specs.Choices.{Holds}
use Rattle.bp_metric.specs.Distance.{leaf_dist}
use Rattle.bp_tally.specs.Pairs.{count_of, first_held, is_choice, is_held, pairs_of, pairs_with}
use Rattle.bp_tally.proofs.Listed.{few_with}

decided : (b : Bool) (m d n : ℕ) → (IsTrue b ↔ (m + 1 * d ≤ n)) → b ≡ nat_le (m + d) n
decided b m d n iff = elim (cases_lt n (m + d)) [
  | inl less ↦ elim (cases_Bool b) [
    | inl is ↦ absurd (omega (arith, less, iff.0 is))
    | inr not ↦ not ∙ sym (lt-leb (m + d) n less)
  ]
  | inr most ↦ iff.1 (omega (arith, most)) ∙ sym (le-leb (m + d) n most)
]

pub held : (T : TreeValue) (P : List Point) (p : Pair) (c : Choice) (b : Bool) → (IsTrue b ↔ Holds T 1 P p c) → b ≡ is_held T P p c
held T P p Left b iff = decided b (point_at P p.i).x (leaf_dist T p.i p.j) (point_at P p.j).x iff
held T P p Right b iff = decided b (point_at P p.j).x (leaf_dist T p.i p.j) (point_at P p.i).x iff
held T P p Below b iff = decided b (point_at P p.i).y (leaf_dist T p.i p.j) (point_at P p.j).y iff
held T P p Above b iff = decided b (point_at P p.j).y (leaf_dist T p.i p.j) (point_at P p.i).y iff

few_of : (n : ℕ) → n ≤ 32 → length (pairs_of n) ≤ 32 * n
few_of zero less = omega arith
few_of (suc n) less =
    omega (arith, less, length-append (pairs_with (n + 1) n) (pairs_of n), few_with (n + 1) n, few_of n (omega (arith, less)))

-- there are few pairs
pub room : (T : TreeValue) (G : Sheet) (P : List Point) (n i : ℕ) (c : Choice) → n < 32 → i < n → count_of T G P (pairs_with (n + 1) i ++ pairs_of n) c < 2000
room T G P n i c less within =
    let xs : List Pair = pairs_with (n + 1) i ++ pairs_of n in
    omega (
      arith,
      less,
      within,
      length-filter (λ (p : Pair). is_choice c (first_held T G P p)) xs,
      count_by-le-length (λ (p : Pair). is_choice c (first_held T G P p)) xs,
      length-append (pairs_with (n + 1) i) (pairs_of n),
      few_with (n + 1) i,
      few_of n (omega (arith, less)),
    )
