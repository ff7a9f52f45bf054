use Rattle.std.proofs.Common.{sym}
use Rattle.bp_replay.proofs.Shown.{know_broken, know_fails, know_turned, know_written}
use Rattle.bp_replay.proofs.Tied.{two_back}
use Rattle.bp_replay.proofs.known.Known.set_known.Goals as goal

pub returns-then-self : goal.returns-then-self
returns-then-self c = λ K keeps. know_broken c.args.given.now c.args.self.now K c.args.axis c.args.first c.args.second c.requires.two c.requires.few keeps c.if-self.true

pub is_known-requires-clause-two : goal.is_known-requires-clause-two
is_known-requires-clause-two c = two_back c.args.given.now.tree c.args.first c.args.second c.requires.two

pub returns-then-is_known_not : goal.returns-then-is_known_not
returns-then-is_known_not c = λ K keeps.
    know_fails c.args.given.now c.args.self.now K c.args.axis c.args.first c.args.second c.requires.two c.requires.few keeps (sym (c.if-is_known_not.ensures K keeps c.if-self.false))

pub returns-then-is_known : goal.returns-then-is_known
returns-then-is_known c = λ K keeps.
    know_turned c.args.given.now c.args.self.now K c.args.axis c.args.first c.args.second c.requires.two c.requires.few keeps (sym (c.if-is_known.ensures K keeps c.if-self.false))

pub returns : goal.returns
returns c = λ K keeps.
    know_written c.args.given.now c.args.self.now K c.args.axis c.args.first c.args.second c.requires.two c.requires.few keeps c.cell-cell.result c.with.result c.cell-cell.ensures.value c.cell-cell.ensures.row c.if-self.false c.cell-cell.ensures.tree
    (sym (c.if-is_known_not.ensures K keeps c.if-self.false)) (sym (c.if-is_known.ensures K keeps c.if-self.false)) c.with.ensures
