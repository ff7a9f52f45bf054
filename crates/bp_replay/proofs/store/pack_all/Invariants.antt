use Rattle.std.proofs.Common.{◌≡◌, take}
use Rattle.bp_replay.specs.Stored.{facts_in}
use Rattle.bp_replay.proofs.store.pack_all.Given as goal

abbrev pub invariant-loop-fact : goal.invariant-loop-fact
invariant-loop-fact l = facts_in l.packed.items ≡ take l.fact-index l.facts
