use Rattle.std.proofs.Common.{sym}
use Rattle.bp_check.proofs.HeldLines.{held_after}
use Rattle.bp_check.proofs.held.HeldLine.extend.Goals as goal

pub returns : goal.returns
returns c = λ line is.
    held_after c.args.self.now line c.args.part.now c.self.inside.bytes c.copy_from_slice.new.self c.self.inside.len c.min-count.result _ (sym c.self.view_is) c.self.invariant.0 c.self.invariant.1 c.min-count.ensures c.copy_from_slice.ensures.after is
