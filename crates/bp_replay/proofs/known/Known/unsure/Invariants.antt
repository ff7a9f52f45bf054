use Rattle.std.proofs.Common.{◌≡◌, false, take}
use Rattle.bp_lemmas.specs.Knowledge.{Knowledge, unsure}
use Rattle.bp_replay.specs.Tasks.{system_of}
use Rattle.bp_replay.specs.Kept.{IsLeft, IsNamedOne, Keeps}
use Rattle.bp_replay.specs.Stored.{facts_in}
use Rattle.bp_replay.proofs.known.Known.unsure.Given as goal

abbrev pub invariant-loop-k : goal.invariant-loop-k
invariant-loop-k l = ((K : Knowledge) → Keeps l.given l.self K → l.self.broken ≡ false → IsLeft l.left (unsure (system_of l.given) K (facts_in (take l.k l.facts)))) × IsNamedOne l.given l.left
