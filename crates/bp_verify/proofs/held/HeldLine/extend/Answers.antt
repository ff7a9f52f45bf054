use Rattle.std.proofs.Common.{List, ℕ, ◌++◌, take, ap, ◌∙◌, length, arith}
use Rattle.bp_verify.proofs.HeldLines.{held_after}
use Rattle.bp_verify.proofs.held.HeldLine.extend.Goals as goal

pub returns : goal.returns
returns c = λ line is.
    held_after c.args.self.now line c.args.part.now c.extend_from_slice.new.self.items c.min-count.result
    (omega (arith, c.min-count.ensures, c.len.ensures, ap length c.self.view_is))
    (c.in_ok-extend_from_slice.ensures.items ∙ ap (λ (h : List ℕ). h ++ take c.min-count.result c.args.part.now) c.self.view_is) is
