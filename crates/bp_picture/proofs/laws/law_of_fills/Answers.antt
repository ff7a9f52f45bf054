use Rattle.std.proofs.Common.{arith}
use Rattle.bp_base.specs.Tree.{has_child}
use Rattle.bp_picture.proofs.Distinct.{one_fill}
use Rattle.bp_picture.proofs.laws.law_of_fills.Goals as goal

pub returns : goal.returns
returns c = λ e f is_e is_f differ same.
    let T = c.args.tree.now in
    differ (one_fill (has_child T e) (has_child T f) e f (omega (arith, is_e.1, c.parents-nodes.ensures.tree.nodes)) (omega (arith, is_f.1, c.parents-nodes.ensures.tree.nodes)) same)
