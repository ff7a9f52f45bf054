use Rattle.std.proofs.Common.{ℕ, get_or}
use Rattle.bp_walks.proofs.walking.cycle_on.Goals as goal

pub returns-in-Ok-clause-none : goal.returns-in-Ok-clause-none
returns-in-Ok-clause-none c = (λ (i : ℕ). get_or c.in-Ok.field-0 i 0, c.in-Ok.ensures.meets)
