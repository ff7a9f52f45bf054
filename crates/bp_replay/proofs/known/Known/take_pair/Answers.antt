use Rattle.std.proofs.Common.{sym}
use Rattle.bp_lemmas.specs.Hints.{pair_pushed, pair_settled}
use Rattle.bp_replay.specs.Tasks.{system_of}
use Rattle.bp_replay.proofs.Breaks.{pair_ends}
use Rattle.bp_replay.proofs.Shown.{kept_broken}
use Rattle.bp_replay.proofs.Applied.{comes_ended}
use Rattle.bp_replay.proofs.known.Known.take_pair.Goals as goal

pub returns-then-self : goal.returns-then-self
returns-then-self c = λ K keeps.
    let t = c.args.given.now in
    let i = c.args.pair.i in
    let j = c.args.pair.j in
    let M = pair_pushed (system_of t) K i j in
    comes_ended t c.push_pair.new.self (pair_settled (system_of t) M i j) c.if-self.true (pair_ends (system_of t) M i j (kept_broken t c.push_pair.new.self M c.if-self.true (c.push_pair.ensures K keeps)))

pub returns-then-knows_order : goal.returns-then-knows_order
returns-then-knows_order c = λ K keeps.
    let t = c.args.given.now in
    let M = pair_pushed (system_of t) K c.args.pair.i c.args.pair.j in
    let kept = c.push_pair.ensures K keeps in
    rw (sym (c.if-knows_order.ensures M kept c.if-self.false)) kept

pub returns : goal.returns
returns c = λ K keeps.
    let t = c.args.given.now in
    let M = pair_pushed (system_of t) K c.args.pair.i c.args.pair.j in
    let kept = c.push_pair.ensures K keeps in
    rw (sym (c.if-knows_order.ensures M kept c.if-self.false)) (c.settle.ensures M kept)
