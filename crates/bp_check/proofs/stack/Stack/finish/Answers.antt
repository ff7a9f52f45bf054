use Rattle.std.proofs.Common.{ap}
use Rattle.bp_check.specs.declared.stack.Stack.{Stack}
use Rattle.bp_check.proofs.Taking.{finds, finds_none}
use Rattle.bp_check.proofs.stack.Stack.finish.Goals as goal

pub returns-clause-proof : goal.returns-clause-proof
returns-clause-proof c = finds c.args.metric.now.tree c.args.metric.now.sheet c.args.self.now c.close.new.self.found (ap (λ (S : Stack). S.found) c.close.ensures.closed)

pub returns-clause-none : goal.returns-clause-none
returns-clause-none c = finds_none c.args.metric.now.tree c.args.metric.now.sheet c.args.self.now c.close.new.self.found (ap (λ (S : Stack). S.found) c.close.ensures.closed)
