use Rattle.std.proofs.Common.{◌≡◌, length, ◌≤◌}
use Rattle.bp_learn.proofs.search.Search.meet_all.Given as goal

abbrev pub invariant-loop-at : goal.invariant-loop-at
invariant-loop-at l = (l.kept ≤ l.at) × (length l.list.items ≡ length l.fn.list.items)
