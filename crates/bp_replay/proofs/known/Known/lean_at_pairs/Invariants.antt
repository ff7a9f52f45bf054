use Rattle.std.proofs.Common.{take}
use Rattle.bp_lemmas.specs.Knowledge.{Knowledge}
use Rattle.bp_lemmas.specs.Hints.{leant_by}
use Rattle.bp_replay.specs.Kept.{Keeps}
use Rattle.bp_replay.specs.Leanings.{at_pairs, leaning_pairs}
use Rattle.bp_replay.proofs.known.Known.lean_at_pairs.Given as goal

-- those of the pairs so far are taken up
abbrev pub invariant-loop-k : goal.invariant-loop-k
invariant-loop-k l = (K : Knowledge) → Keeps l.given l.initial.self K → Keeps l.given l.self (leant_by K (at_pairs (take l.k (leaning_pairs l.given.ties)) l.pair.i l.pair.j))
