-- What the steady answer makes of a design.
use Rattle.std.specs.Prelude.{◌≡◌, ℕ, ◌+◌, false, true}
use Rattle.bp_base.specs.declared.point.Sheet.{Sheet}
use Rattle.bp_base.specs.declared.record.Settled.{Settled}
use Rattle.bp_base.specs.Tree.{TreeValue}
use Rattle.bp_document.specs.declared.document.Document.{Document}
use Rattle.bp_steady.specs.Sums.{IsMAtLeast}
use Rattle.bp_design.specs.declared.steadying.SteadyDesign.{SteadyDesign}
use Rattle.bp_design.specs.declared.steadying.SteadyDesign.TheVariants.{Found, Unsteady}
use Rattle.bp_design.specs.Design.{IsDesign}
use Rattle.bp_design.specs.Replayed.{IsToldOf}

-- D', of a design D: the same side and bound, and the same search told, but the steady points where bound and side are equal
pub record IsSteadyOf (T : TreeValue) (G : Sheet) (D D' : Document) : Type 0 where
  pub side : D'.side ≡ D.side
  pub bound : D'.bound ≡ D.bound
  pub design : (B : ℕ) → IsDesign T G B false D → IsDesign T G B true D'
  pub told : (Z : Settled) → IsToldOf T G Z false D → IsToldOf T G Z true D'

-- Of a design D: it with the steady points; or bound and side are equal, and M is greater than the budget of the steady answer
abbrev pub IsSteadied : TreeValue → Sheet → ℕ → Document → SteadyDesign → Type 0
IsSteadied T G budget D (Found D') = IsSteadyOf T G D D'
IsSteadied T G budget D Unsteady = (D.bound ≡ D.side) × IsMAtLeast T G D.side (budget + 1)
