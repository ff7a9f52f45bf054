use Rattle.std.proofs.Common.{ℕ, ◌<◌, ◌≤◌, get_or, length}
use Rattle.bp_walks.proofs.cycles.place_of_least.Given as goal

abbrev pub invariant-loop-k : goal.invariant-loop-k
invariant-loop-k l = (l.least < length l.numbers) × ((m : ℕ) → m < l.k → get_or l.numbers l.least 0 ≤ get_or l.numbers m 0)
