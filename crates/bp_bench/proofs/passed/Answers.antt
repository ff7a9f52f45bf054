use Rattle.std.proofs.Common.{ap, ◌∙◌, arith}
use Rattle.bp_pool.specs.Hands.{HandView}
use Rattle.bp_bench.proofs.passed.Goals as goal

pub pass_on-requires : goal.pass_on-requires
pass_on-requires c =
    let new = c.in_ok-hands.ensures in
    ap (λ (v : HandView). v.pool.leaves) (c.index_mut.ensures.value ∙ new.each 0 c.index_mut.result.now (omega arith)) ∙ new.leaves_are
