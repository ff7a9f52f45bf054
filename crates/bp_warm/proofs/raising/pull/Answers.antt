use Rattle.std.proofs.Common.{◌≡◌, ◌+◌, ◌-◌, ◌<◌, ℕ, get_or, arith, sym, ap}
use Rattle.bp_metric.specs.Distance.{leaf_dist}
use Rattle.bp_warm.specs.Raising.{low_in}
use Rattle.bp_warm.proofs.Pulling.{code_first, code_few, code_again}
use Rattle.bp_warm.proofs.raising.pull.Goals as goal

pub returns-then-before-old-clause-pulled : goal.returns-then-before-old-clause-pulled
returns-then-before-old-clause-pulled c =
    let r : ℕ = get_or c.args.lows.now (c.moved-leaf.result - 1) 0 + c.dist.result in
    let r_is : r ≡ low_in c.args.lows.now (get_or c.args.work.now.moved c.args.at 0) + leaf_dist c.args.metric.now.tree (get_or c.args.work.now.moved c.args.at 0) c.args.next =
    omega (arith, c.dist.ensures.value, ap (low_in c.args.lows.now) c.moved-leaf.ensures, ap (λ (i : ℕ). leaf_dist c.args.metric.now.tree i c.args.next) c.moved-leaf.ensures) in
    let more : low_in c.args.lows.now c.args.next < r = c.if-reached-lows.false in
    code_first c.args.metric.now.tree c.leaves-leaves.ensures.metric.tree c.args._steps.now c.requires.pairs c.args._axis c.args.old.now c.requires.exact c.args.first c.args._second c.args.lows.now c.args.work.now c.requires.working c.args.at c.args.next c.requires.at c.requires.placed r r_is more c.if-next-first.false c.moved-leaf.result c.set_by.new.self c.moved-leaf.ensures c.set_by.ensures c.add.new.self c.add.ensures (sym c.if-before-old.true) c.requires.count

pub returns-then-before-old-clause-few : goal.returns-then-before-old-clause-few
returns-then-before-old-clause-few c =
    let r : ℕ = get_or c.args.lows.now (c.moved-leaf.result - 1) 0 + c.dist.result in
    let r_is : r ≡ low_in c.args.lows.now (get_or c.args.work.now.moved c.args.at 0) + leaf_dist c.args.metric.now.tree (get_or c.args.work.now.moved c.args.at 0) c.args.next =
    omega (arith, c.dist.ensures.value, ap (low_in c.args.lows.now) c.moved-leaf.ensures, ap (λ (i : ℕ). leaf_dist c.args.metric.now.tree i c.args.next) c.moved-leaf.ensures) in
    let more : low_in c.args.lows.now c.args.next < r = c.if-reached-lows.false in
    code_few c.args.metric.now.tree c.leaves-leaves.ensures.metric.tree c.args._steps.now c.requires.pairs c.args._axis c.args.old.now c.requires.exact c.args.first c.args._second c.args.lows.now c.args.work.now c.requires.working c.args.at c.args.next c.requires.at c.requires.placed r r_is more c.if-next-first.false c.moved-leaf.result c.set_by.new.self c.moved-leaf.ensures c.set_by.ensures c.add.new.self c.add.ensures (sym c.if-before-old.true) c.requires.count

pub returns-clause-pulled : goal.returns-clause-pulled
returns-clause-pulled c =
    let r : ℕ = get_or c.args.lows.now (c.moved-leaf.result - 1) 0 + c.dist.result in
    let r_is : r ≡ low_in c.args.lows.now (get_or c.args.work.now.moved c.args.at 0) + leaf_dist c.args.metric.now.tree (get_or c.args.work.now.moved c.args.at 0) c.args.next =
    omega (arith, c.dist.ensures.value, ap (low_in c.args.lows.now) c.moved-leaf.ensures, ap (λ (i : ℕ). leaf_dist c.args.metric.now.tree i c.args.next) c.moved-leaf.ensures) in
    let more : low_in c.args.lows.now c.args.next < r = c.if-reached-lows.false in
    code_again c.args.metric.now.tree c.leaves-leaves.ensures.metric.tree c.args._steps.now c.requires.pairs c.args._axis c.args.old.now c.requires.exact c.args.first c.args._second c.args.lows.now c.args.work.now c.requires.working c.args.at c.args.next c.requires.at c.requires.placed r r_is more c.if-next-first.false c.moved-leaf.result c.set_by.new.self c.moved-leaf.ensures c.set_by.ensures (λ same. c.if-before-old.false (sym same))
