use Rattle.std.proofs.Common.{sym}
use Rattle.bp_replay.proofs.Shown.{deny_broken, deny_holds, deny_written}
use Rattle.bp_replay.proofs.known.Known.set_known_not.Goals as goal

pub returns-then-self : goal.returns-then-self
returns-then-self c = λ K keeps. deny_broken c.args.given.now c.args.self.now K c.args.axis c.args.first c.args.second c.requires.two c.requires.few keeps c.if-self.true

pub returns-then-is_known : goal.returns-then-is_known
returns-then-is_known c = λ K keeps.
    deny_holds c.args.given.now c.args.self.now K c.args.axis c.args.first c.args.second c.requires.two c.requires.few keeps (sym (c.if-is_known.ensures K keeps c.if-self.false))

pub returns : goal.returns
returns c = λ K keeps.
    deny_written c.args.given.now c.args.self.now K c.args.axis c.args.first c.args.second c.requires.two c.requires.few keeps c.cell-cell.result c.with.result c.cell-cell.ensures.value c.cell-cell.ensures.row c.if-self.false
    (sym (c.if-is_known.ensures K keeps c.if-self.false)) c.with.ensures
