use Rattle.std.proofs.Common.{[]}
use Rattle.bp_pool.specs.Shares.{facts_of}
use Rattle.bp_pool.proofs.deque.tell.Given as goal

abbrev pub ghosts-tell_with : goal.ghosts-tell_with
ghosts-tell_with a = record { facts = facts_of a._leaves a._total a._root.now [] }
