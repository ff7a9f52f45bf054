use Rattle.std.proofs.Common.{◌≡◌, drop}
use Rattle.bp_mirror.specs.Readings.{part_of}
use Rattle.bp_replay.proofs.reading.part_of.Given as goal

abbrev pub invariant-loop-k : goal.invariant-loop-k
invariant-loop-k l = part_of (drop l.k l.mirror) l.leaf ≡ part_of l.mirror l.leaf
