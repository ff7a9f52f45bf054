use Rattle.std.proofs.Common.{◌↔◌, drop}
use Rattle.bp_lemmas.specs.Knowledge.{Knowledge}
use Rattle.bp_lemmas.specs.Hints.{Closes}
use Rattle.bp_replay.specs.Tasks.{system_of}
use Rattle.bp_replay.specs.Kept.{Keeps}
use Rattle.bp_replay.proofs.known.Known.closes.Given as goal

abbrev pub invariant-loop-k : goal.invariant-loop-k
invariant-loop-k l = (K : Knowledge) → Keeps l.given l.initial.self K → (M : Knowledge) × (Keeps l.given l.self M × (Closes (system_of l.given) l.store (drop l.k l.hints) M ↔ Closes (system_of l.given) l.store l.hints K))
