-- A path forces one side.
use Rattle.std.proofs.Common.{◌≡◌, ℕ, List, sym, ◌∙◌, arith, inl, inr}
use Rattle.bp_base.specs.declared.point.Axis.TheVariants.{Y}
use Rattle.bp_base.specs.declared.point.Sheet.{Sheet}
use Rattle.bp_base.specs.declared.point.Sheet.TheVariants.{Square, Strip}
use Rattle.bp_base.specs.declared.path.Step.{Step}
use Rattle.bp_base.specs.Tree.{TreeValue}
use Rattle.bp_metric.specs.Coordinates.{IsForced}
use Rattle.bp_metric.proofs.Lows.{one_greatest_on}

pub one_forced : (T : TreeValue) (path : List Step) (G : Sheet) (v w : ℕ) → IsForced T G path v → IsForced T G path w → v ≡ w
one_forced T path Square v w l m =
    omega (arith, l.most m.axis m.on_axis.chain m.on_axis.is_chain, m.on_axis.weighs, m.most l.axis l.on_axis.chain l.on_axis.is_chain, l.on_axis.weighs)
one_forced T path (Strip width) v w (inl l) (inl m) = l.1 ∙ sym m.1
one_forced T path (Strip width) v w (inl l) (inr m) = absurd (m.0 l.0)
one_forced T path (Strip width) v w (inr l) (inl m) = absurd (l.0 m.0)
one_forced T path (Strip width) v w (inr l) (inr m) = one_greatest_on T path Y v w l.1 m.1
