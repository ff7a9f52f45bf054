use Rattle.std.proofs.Common.{ℕ, Option, false, sym, subst}
use Rattle.bp_base.specs.declared.point.Sheet.{Sheet}
use Rattle.bp_design.specs.Design.{IsDesign}
use Rattle.bp_design.specs.Replayed.{IsReplay}
use Rattle.bp_engine.specs.Designs.{Replays}
use Rattle.bp_engine.proofs.design.searched.Goals as goal

pub returns-in-Some : goal.returns-in-Some
returns-in-Some g c =
    let A = c.args.asked in
    let T = c.args.metric.now.tree in
    let D = c.in_ok-document.document in (
      subst (λ (G : Sheet). IsDesign T G A.budget false D) c.requires.sheet c.in_ok-document.ensures.design,
      subst (λ (r : Option ℕ). Replays T A false r D) (sym c.in-Some.is) (subst (λ (G : Sheet). IsReplay T G A.hands A.budget c.in-Some.seed false D) c.requires.sheet c.in_ok-document.ensures.replay),
    )
