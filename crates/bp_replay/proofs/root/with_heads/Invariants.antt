use Rattle.std.proofs.Common.{◌-◌, drop, length}
use Rattle.bp_replay.specs.Kept.{Keeps}
use Rattle.bp_replay.specs.Roots.{with_heads}
use Rattle.bp_replay.proofs.root.with_heads.Given as goal

abbrev pub invariant-loop-k : goal.invariant-loop-k
invariant-loop-k l = Keeps l.given l.root (with_heads l.given (drop (length l.given.heads - l.k) l.given.heads))
