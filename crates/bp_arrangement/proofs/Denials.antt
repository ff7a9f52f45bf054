-- Of a fact and its denial exactly one holds.
use Rattle.std.proofs.Common.{◌≡◌, ◌⊎◌, ℕ, ◌+◌, ◌*◌, ◌<◌, List, refl, arith, inl, inr}
use Rattle.std.proofs.lemmas.Bool.{cases_lt}
use Rattle.bp_base.specs.declared.point.Point.{Point}
use Rattle.bp_base.specs.Tree.{TreeValue}
use Rattle.bp_metric.specs.Distance.{leaf_dist}
use Rattle.bp_arrangement.specs.declared.fact.Fact.{Fact}
use Rattle.bp_arrangement.specs.declared.fact.Fact.TheVariants.{Before, NotBefore, Least, Below}
use Rattle.bp_arrangement.specs.Facts.{Holds, coordinate, denial, mark}

pub denied_twice : (f : Fact) → denial (denial f) ≡ f
denied_twice (Before axis first second) = refl
denied_twice (NotBefore axis first second) = refl
denied_twice (Least axis leaf code) = refl
denied_twice (Below axis leaf code) = refl

module _ (T : TreeValue) (q : ℕ) (P : List Point) where
  pub either_holds : (f : Fact) → Holds T q P f ⊎ Holds T q P (denial f)
  either_holds (Before axis first second) = elim (cases_lt (coordinate P axis second) (coordinate P axis first + q * leaf_dist T first second)) [
    | inl less ↦ inr less
    | inr le ↦ inl le
  ]
  either_holds (NotBefore axis first second) = cases_lt (coordinate P axis second) (coordinate P axis first + q * leaf_dist T first second)
  either_holds (Least axis leaf code) = elim (cases_lt (coordinate P axis leaf) (mark q code)) [
    | inl less ↦ inr less
    | inr le ↦ inl le
  ]
  either_holds (Below axis leaf code) = cases_lt (coordinate P axis leaf) (mark q code)

  pub never_both : (f : Fact) → Holds T q P f → Holds T q P (denial f) → ⊥
  never_both (Before axis first second) holds denied = omega (arith, holds, denied)
  never_both (NotBefore axis first second) holds denied = omega (arith, holds, denied)
  never_both (Least axis leaf code) holds denied = omega (arith, holds, denied)
  never_both (Below axis leaf code) holds denied = omega (arith, holds, denied)
