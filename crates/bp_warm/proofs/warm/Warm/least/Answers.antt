use Rattle.std.proofs.Common.{subst, arith}
use Rattle.bp_warm.specs.Warm.{WarmValue}
use Rattle.bp_warm.proofs.Keeping.{now_least}
use Rattle.bp_metric.specs.Coordinates.{IsLeast}
use Rattle.bp_warm.proofs.warm.Warm.least.Goals as goal

pub returns : goal.returns
returns c =
    let least = now_least c.self.inside.tree c.self.inside.sheet c.self.inside.steps.items _ c.self.inside.x.row.items c.self.inside.y.row.items c.self.inside.x.after c.self.inside.x.before c.self.inside.y.after c.self.inside.y.before c.self.inside.frames.items c.self.invariant c.len.result c.index.result.now (omega (arith, c.len.ensures, c.self.inside.steps.ok.0)) c.index.ensures in
    subst (λ (v : WarmValue). IsLeast v.metric.tree v.metric.sheet v.path c.index.result.now) c.self.view_is least
