use Rattle.bp_symmetry.specs.Moves.{turned}
use Rattle.bp_symmetry.proofs.Turns.{valid_turned}
use Rattle.bp_symmetry.proofs.OneHanding.{one_handing}
use Rattle.bp_symmetry.proofs.laws.one_settling.Goals as goal

pub returns : goal.returns
returns c =
    let T = c.args.metric.now.tree in
    let G = c.args.metric.now.sheet in λ q s P Q R v. one_handing T (turned T G q s P) Q R (valid_turned T q s G P v).each
