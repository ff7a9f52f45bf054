use Rattle.std.proofs.Common.{List, refl, sym, subst, arith}
use Rattle.bp_base.specs.declared.path.Step.{Step}
use Rattle.bp_base.specs.declared.point.Axis.TheVariants.{X, Y}
use Rattle.bp_warm.specs.Raising.{IsExact}
use Rattle.bp_warm.proofs.Keeping.{warm_less, earlier_frame, half_as}
use Rattle.bp_warm.proofs.warm.Warm.retract.Goals as goal

pub shrink_both-requires-clause-frame_x : goal.shrink_both-requires-clause-frame_x
shrink_both-requires-clause-frame_x c =
    subst (λ (p : List Step). IsExact c.self.inside.tree p X c.index.result.now.xs) (sym c.deref.ensures.value) (earlier_frame c.self.inside.tree c.self.inside.sheet c.pop.new.self.items c.in-Some.step c.self.inside.steps.items c.in-Some.ensures.items _ c.self.inside.x.row.items c.self.inside.y.row.items c.self.inside.x.after c.self.inside.x.before c.self.inside.y.after c.self.inside.y.before c.self.inside.frames.items c.self.invariant c.len-shorter.result c.index.result.now (omega (arith, c.len-shorter.ensures, c.pop.new.self.ok.0)) c.index.ensures).exact_x

pub shrink_both-requires-clause-frame_y : goal.shrink_both-requires-clause-frame_y
shrink_both-requires-clause-frame_y c =
    subst (λ (p : List Step). IsExact c.self.inside.tree p Y c.index.result.now.ys) (sym c.deref.ensures.value) (earlier_frame c.self.inside.tree c.self.inside.sheet c.pop.new.self.items c.in-Some.step c.self.inside.steps.items c.in-Some.ensures.items _ c.self.inside.x.row.items c.self.inside.y.row.items c.self.inside.x.after c.self.inside.x.before c.self.inside.y.after c.self.inside.y.before c.self.inside.frames.items c.self.invariant c.len-shorter.result c.index.result.now (omega (arith, c.len-shorter.ensures, c.pop.new.self.ok.0)) c.index.ensures).exact_y

pub invariant_of-self : goal.invariant_of-self
invariant_of-self c =
    warm_less c.self.inside.tree c.self.inside.sheet c.pop.new.self.items c.in-Some.step c.self.inside.steps.items c.in-Some.ensures.items _ c.self.inside.x.row.items c.self.inside.y.row.items c.self.inside.x.after c.self.inside.x.before c.self.inside.y.after c.self.inside.y.before c.self.inside.frames.items c.self.invariant _ c.len-shorter.result c.index.result.now c.shrink_both.new.x.row.items c.shrink_both.new.y.row.items c.shrink_both.new.x.after c.shrink_both.new.x.before c.shrink_both.new.y.after c.shrink_both.new.y.before (omega (arith, c.in-Some.ensures.capacity)) (omega (arith, c.len-shorter.ensures, c.pop.new.self.ok.0)) c.index.ensures (half_as c.self.inside.tree c.self.inside.tree c.deref.result.now c.pop.new.self.items X c.shrink_both.new.x.row.items c.shrink_both.new.x.after c.shrink_both.new.x.before refl c.deref.ensures.value c.shrink_both.ensures.x) (half_as c.self.inside.tree c.self.inside.tree c.deref.result.now c.pop.new.self.items Y c.shrink_both.new.y.row.items c.shrink_both.new.y.after c.shrink_both.new.y.before refl c.deref.ensures.value c.shrink_both.ensures.y) c.shrink_both.ensures.row_x c.shrink_both.ensures.row_y
