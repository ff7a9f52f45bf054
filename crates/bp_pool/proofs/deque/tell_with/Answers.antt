use Rattle.std.proofs.Common.{ap}
use Rattle.bp_pool.specs.declared.deque.Facts.{Facts}
use Rattle.bp_pool.proofs.Deques.{tells}
use Rattle.bp_pool.proofs.deque.tell_with.Goals as goal

pub another-requires : goal.another-requires
another-requires g c = tells _ _ _ (ap (λ (f : Facts). f.given) c.requires.facts) c.requires.fresh
