use Rattle.std.proofs.Common.{arith, refl, sym, ap, ◌∙◌, min, length}
use Rattle.bp_pool.specs.Hands.{HandView, top}
use Rattle.bp_pool.specs.Rows.{count_pushed, count_taken}
use Rattle.bp_pool.proofs.Opens.{take_all}
use Rattle.bp_pool.proofs.Parts.{counted_more}
use Rattle.bp_pool.proofs.gathering.count_all.Goals as goal

pub loop-k-init : goal.loop-k-init
loop-k-init c = record { pushed = refl; taken = refl }

pub loop-k-preserved : goal.loop-k-preserved
loop-k-preserved c =
    let v = c.index-hands-k.result in
    let inv = c.loop-k.invariant in
    let counts = c.counts-pushes.ensures in
    record {
      pushed = counted_more (λ (v : HandView). length v.pushed) c.args.hands.now c.loop-k.k v _ _ _ c.loop-k-test.true (sym c.index-hands-k.is) inv.pushed counts.0 c.saturating_add-pushed.ensures;
      taken = counted_more (λ (v : HandView). length v.taken) c.args.hands.now c.loop-k.k v _ _ _ c.loop-k-test.true (sym c.index-hands-k.is) inv.taken counts.1 c.saturating_add-taken.ensures;
    }

pub returns-clause-pushed : goal.returns-clause-pushed
returns-clause-pushed c = c.loop-k.invariant.pushed ∙ ap (λ l. min (count_pushed l) top) (take_all c.args.hands.now c.loop-k.k (omega (arith, c.loop-k-test.false, c.loop-k.auto.k-end)))

pub returns-clause-taken : goal.returns-clause-taken
returns-clause-taken c = c.loop-k.invariant.taken ∙ ap (λ l. min (count_taken l) top) (take_all c.args.hands.now c.loop-k.k (omega (arith, c.loop-k-test.false, c.loop-k.auto.k-end)))
