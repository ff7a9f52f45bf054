-- What the moves of the whole sheet need of a placement, with the points and the sheet as the code has them.
use Rattle.std.proofs.Common.{◌≡◌, ℕ, ◌≤◌, List, All, sym, ◌∙◌, subst, arith}
use Rattle.bp_base.specs.declared.point.Point.{Point}
use Rattle.bp_base.specs.declared.point.Sheet.{Sheet}
use Rattle.bp_base.specs.declared.point.Sheet.TheVariants.{Square, Strip}
use Rattle.bp_base.specs.Limits.{most_number}
use Rattle.bp_base.specs.Tree.{TreeValue}
use Rattle.bp_metric.specs.Metric.{IsSheet}
use Rattle.bp_metric.specs.Valid.{Valid}
use Rattle.bp_base.specs.Point.{IsSmallPoint}
use Rattle.bp_symmetry.specs.Moves.{laid, faced_x, turned}
use Rattle.bp_symmetry.proofs.Turns.{valid_laid, valid_faced_x, valid_turned}
use Rattle.bp_symmetry.proofs.SettlingLaw.{x_all, y_all, small_all}

module _ (T : TreeValue) (G H : Sheet) (s : ℕ) (P : List Point) (v : Valid T G 1 s P) (read : H ≡ G) where
  on_sheet : (F : Sheet) → H ≡ F → Valid T F 1 s P
  on_sheet F is = subst (λ (E : Sheet). Valid T E 1 s P) (sym read ∙ is) v

  module _ (square : H ≡ Square) (laid_is faced_is : List Point) (first : laid_is ≡ laid T 1 P) (second : faced_is ≡ faced_x s laid_is) where
    lies : Valid T Square 1 s laid_is
    lies = subst (Valid T Square 1 s) (sym first) (valid_laid T 1 s P (on_sheet Square square))

    faces : Valid T Square 1 s faced_is
    faces = subst (Valid T Square 1 s) (sym second) (valid_faced_x T 1 s Square laid_is lies)

    pub laid_x : All (λ p. p.x ≤ s) laid_is
    laid_x = x_all T Square 1 s laid_is lies

    pub faced_y_all : All (λ p. p.y ≤ s) faced_is
    faced_y_all = y_all T Square 1 s faced_is faces

    pub faced_small : IsSheet H → s ≤ most_number → All IsSmallPoint faced_is
    faced_small sheet side = small_all T Square s faced_is (subst IsSheet square sheet) side faces

  pub strip_x : (width : ℕ) → H ≡ Strip width → All (λ p. p.x ≤ width) P
  strip_x width is k d less = omega (arith, x_all T (Strip width) 1 s P (on_sheet (Strip width) is) k d less)

  pub strip_y : (width : ℕ) → H ≡ Strip width → All (λ p. p.y ≤ s) P
  strip_y width is = y_all T (Strip width) 1 s P (on_sheet (Strip width) is)

pub turned_small : (T : TreeValue) (G : Sheet) (s : ℕ) (P Q : List Point) → Valid T G 1 s P → IsSheet G → s ≤ most_number → Q ≡ turned T G 1 s P → All IsSmallPoint Q
turned_small T G s P Q v sheet side is =
    subst (All IsSmallPoint) (sym is) (small_all T G s (turned T G 1 s P) sheet side (valid_turned T 1 s G P v))
