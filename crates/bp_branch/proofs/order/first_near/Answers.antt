use Rattle.std.proofs.Common.{rules, ℕ, get_or, subst, below_more, arith}
use Rattle.std.proofs.lemmas.List.{get_or_default}
use Rattle.bp_base.specs.declared.path.Pair.{Pair}
use Rattle.bp_branch.specs.Nearest.{AreNear}
use Rattle.bp_branch.proofs.Ordered.{first_near, none_near}
use Rattle.bp_branch.proofs.order.first_near.Goals as goal

pub returns-then-is_near : goal.returns-then-is_near
returns-then-is_near c =
    let pairs = c.args.pairs.now in
    let k = c.loop-pair.pair-index in
    let p : Pair = get_or pairs k (record { i = 0; j = 0 }) in
    let near : AreNear c.args.metric.now.tree c.args.xs.now c.args.ys.now p.i p.j = search rules in
    first_near c.args.metric.now.tree c.args.xs.now c.args.ys.now pairs c.requires.order k p c.loop-pair-test.true (get_or_default pairs k p (record { i = 0; j = 0 }) c.loop-pair-test.true) c.loop-pair.invariant near

pub loop-pair-preserved : goal.loop-pair-preserved
loop-pair-preserved c =
    let pairs = c.args.pairs.now in
    let k = c.loop-pair.pair-index in
    let p : Pair = get_or pairs k (record { i = 0; j = 0 }) in
    let far : AreNear c.args.metric.now.tree c.args.xs.now c.args.ys.now p.i p.j → ⊥ = search rules in
    λ m d less. below_more (λ (n : ℕ). AreNear c.args.metric.now.tree c.args.xs.now c.args.ys.now (get_or pairs n d).i (get_or pairs n d).j → ⊥) k (λ n below. c.loop-pair.invariant n d below) (subst (λ (q : Pair). AreNear c.args.metric.now.tree c.args.xs.now c.args.ys.now q.i q.j → ⊥) (get_or_default pairs k (record { i = 0; j = 0 }) d c.loop-pair-test.true) far) m less

pub returns : goal.returns
returns c =
    none_near c.args.metric.now.tree c.args.xs.now c.args.ys.now c.args.pairs.now c.requires.order (λ m d less. c.loop-pair.invariant m d (omega (arith, less, c.loop-pair-test.false)))
