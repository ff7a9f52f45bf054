-- Cells that are alike form classes.
use Rattle.std.proofs.Common.{ℕ, List, ◌↔◌}
use Rattle.bp_base.specs.declared.point.Axis.TheVariants.{X, Y}
use Rattle.bp_base.specs.declared.point.Point.{Point}
use Rattle.bp_base.specs.Tree.{TreeValue}
use Rattle.bp_regions.specs.Cuts.{AreAlike, AreCuts, AreTogether}

module _ (T : TreeValue) (S : ℕ) (P : List Point) where
  chained : (A B C : Type 0) → (A ↔ B) → (B ↔ C) → (A ↔ C)
  chained A B C ab bc = (λ a. bc.0 (ab.0 a), λ c. ab.1 (bc.1 c))

  alike_trans : (x y v w a b : ℕ) → AreAlike T S P x y v w → AreAlike T S P v w a b → AreAlike T S P x y a b
  alike_trans x y v w a b first second = record {
    reach = λ e edge. chained _ _ _ (first.reach e edge) (second.reach e edge);
    own = λ e edge. chained _ _ _ (first.own e edge) (second.own e edge);
    owner = λ o. chained _ _ _ (first.owner o) (second.owner o);
  }

  pub between_cuts : (xs ys : List ℕ) → AreCuts T S P X xs → AreCuts T S P Y ys → (x y v w : ℕ) → AreTogether xs x v → AreTogether ys y w → AreAlike T S P x y v w
  between_cuts xs ys on_x on_y x y v w xv yw = alike_trans x y v y v w (on_x x v y xv) (on_y v y w yw)
