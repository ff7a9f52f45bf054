use Rattle.std.proofs.Common.{◌<◌, length, take, sym, subst, arith}
use Rattle.bp_lemmas.specs.Knowledge.{with_facts}
use Rattle.bp_replay.specs.Tasks.{system_of}
use Rattle.bp_replay.specs.Kept.{Keeps}
use Rattle.bp_replay.proofs.Applied.{with_facts_step}
use Rattle.bp_replay.proofs.known.Known.add_all.Goals as goal

pub loop-k-preserved : goal.loop-k-preserved
loop-k-preserved c = λ K keeps.
    let t = c.args.given.now in
    let facts = c.args.facts.now in
    let within : c.loop-k.k < length facts = omega (arith, c.loop-k-test.true) in
    subst (Keeps t c.add.new.self) (sym (with_facts_step (system_of t) K facts c.loop-k.k _ within)) (c.add.ensures (with_facts (system_of t) K (take c.loop-k.k facts)) (c.loop-k.invariant K keeps))
