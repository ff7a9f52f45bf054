use Rattle.std.proofs.Common.{sym}
use Rattle.bp_lemmas.specs.Hints.{push_known}
use Rattle.bp_replay.specs.Tasks.{system_of}
use Rattle.bp_replay.proofs.Breaks.{push_known_stays}
use Rattle.bp_replay.proofs.Shown.{kept_broken, keeps_broken}
use Rattle.bp_replay.proofs.known.Known.push_known.Goals as goal

pub returns-then-self : goal.returns-then-self
returns-then-self c = λ K keeps.
    let t = c.args.given.now in
    let o = (system_of t).order c.args.axis c.args.first c.args.second in
    keeps_broken t c.args.self.now (push_known (system_of t) K o) c.if-self.true (push_known_stays (system_of t) K o (kept_broken t c.args.self.now K c.if-self.true keeps))

pub returns-then-is_known : goal.returns-then-is_known
unfolding push_known
returns-then-is_known c = λ K keeps. rw (sym (c.if-is_known.ensures K keeps c.if-self.false)) (c.push.ensures K keeps)

pub returns-else-is_known : goal.returns-else-is_known
unfolding push_known
returns-else-is_known c = λ K keeps. rw (sym (c.if-is_known.ensures K keeps c.if-self.false)) keeps
