use Rattle.std.proofs.Common.{take}
use Rattle.bp_lemmas.specs.Knowledge.{Knowledge, with_facts}
use Rattle.bp_replay.specs.Tasks.{system_of}
use Rattle.bp_replay.specs.Kept.{Keeps}
use Rattle.bp_replay.proofs.known.Known.add_all.Given as goal

abbrev pub invariant-loop-k : goal.invariant-loop-k
invariant-loop-k l = (K : Knowledge) → Keeps l.given l.initial.self K → Keeps l.given l.self (with_facts (system_of l.given) K (take l.k l.facts))
