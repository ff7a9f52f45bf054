use Rattle.bp_replay.proofs.Feeding.{ends_exactly, replay_law}
use Rattle.bp_replay.proofs.replay.Replay.proved.Goals as goal

pub returns-then-count-ge1-clause-exact : goal.returns-then-count-ge1-clause-exact
returns-then-count-ge1-clause-exact c =
    rw (← c.self.view_is) (ends_exactly c.self.inside.store c.len-count.result c.facts.result.now c.is_empty.result c.len-count.ensures c.if-count-ge1.true c.facts.ensures c.is_empty.ensures)

pub returns-then-count-ge1-clause-law : goal.returns-then-count-ge1-clause-law
returns-then-count-ge1-clause-law c =
    let exact = ends_exactly c.self.inside.store c.len-count.result c.facts.result.now c.is_empty.result c.len-count.ensures c.if-count-ge1.true c.facts.ensures c.is_empty.ensures in
    rw (← c.self.view_is) (λ empty. replay_law c.self.inside.given c.self.inside.root c.self.inside.store c.self.invariant (exact.0 empty))
