use Rattle.bp_lemmas.specs.Knowledge.{with_order}
use Rattle.bp_replay.specs.Tasks.{system_of}
use Rattle.bp_replay.proofs.known.Known.add_order.Goals as goal

pub returns : goal.returns
returns c = λ K keeps. c.push.ensures (with_order K ((system_of c.args.given.now).order c.args.axis c.args.first c.args.second)) (c.set_known.ensures K keeps)
