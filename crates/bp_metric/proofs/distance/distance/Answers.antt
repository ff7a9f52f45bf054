use Rattle.std.proofs.Common.{◌≡◌, ◌<◌, ap, arith, ◌∙◌, sym}
use Rattle.bp_metric.specs.Distance.{dist}
use Rattle.bp_metric.proofs.Distances.{climb_left, climb_right, parent_within, dist_small, dist_same, length_small}
use Rattle.bp_metric.proofs.distance.distance.Goals as goal

pub overflow_add-sum : goal.overflow_add-sum
overflow_add-sum c =
    let t = c.parents-parents.ensures.tree in
    let T = c.args.tree.now in
    omega (arith, c.loop-a.invariant.2, dist_small T t c.args.a c.args.b, length_small T t c.lengths-lengths.result.now c.lengths-lengths.ensures.value c.loop-a.a)

pub loop-a-preserved-then-b-a : goal.loop-a-preserved-then-b-a
loop-a-preserved-then-b-a c =
    let t = c.parents-parents.ensures.tree in
    let T = c.args.tree.now in (
      parent_within T t c.parents-parents.result.now c.parents-parents.ensures.value c.loop-a.a c.loop-a.invariant.0,
      c.loop-a.invariant.1,
      climb_left T t c.parents-parents.result.now c.lengths-lengths.result.now c.parents-parents.ensures.value c.lengths-lengths.ensures.value c.loop-a.a c.loop-a.b c.loop-a.sum (dist T c.args.a c.args.b) c.if-b-a.true c.loop-a.invariant.0 c.loop-a.invariant.2,
    )

pub overflow_add-sum-else-b-a : goal.overflow_add-sum-else-b-a
overflow_add-sum-else-b-a c =
    let t = c.parents-parents.ensures.tree in
    let T = c.args.tree.now in
    omega (arith, c.loop-a.invariant.2, dist_small T t c.args.a c.args.b, length_small T t c.lengths-lengths.result.now c.lengths-lengths.ensures.value c.loop-a.b)

pub loop-a-preserved : goal.loop-a-preserved
loop-a-preserved c =
    let t = c.parents-parents.ensures.tree in
    let T = c.args.tree.now in
    let apart : c.loop-a.a < c.loop-a.b = omega (arith, c.loop-a-test.true, c.if-b-a.false) in (
      c.loop-a.invariant.0,
      parent_within T t c.parents-parents.result.now c.parents-parents.ensures.value c.loop-a.b c.loop-a.invariant.1,
      climb_right T t c.parents-parents.result.now c.lengths-lengths.result.now c.parents-parents.ensures.value c.lengths-lengths.ensures.value c.loop-a.a c.loop-a.b c.loop-a.sum (dist T c.args.a c.args.b) apart c.loop-a.invariant.1 c.loop-a.invariant.2,
    )

pub returns-clause-value : goal.returns-clause-value
returns-clause-value c =
    let t = c.parents-parents.ensures.tree in
    let T = c.args.tree.now in
    let same : dist T c.loop-a.a c.loop-a.b ≡ 0 = ap (λ b. dist T c.loop-a.a b) (sym c.loop-a-test.false) ∙ dist_same T t c.loop-a.a in
    omega (arith, c.loop-a.invariant.2, same)

pub returns-clause-small : goal.returns-clause-small
returns-clause-small c =
    let t = c.parents-parents.ensures.tree in
    let T = c.args.tree.now in
    omega (arith, c.loop-a.invariant.2, dist_small T t c.args.a c.args.b)
