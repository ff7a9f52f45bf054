use Rattle.std.proofs.Common.{◌≡◌, ℕ, ◌+◌, ◌-◌, get_or, sym, ◌∙◌, ap, arith}
use Rattle.bp_lemmas.specs.Systems.{is_order}
use Rattle.bp_replay.specs.declared.relation.Relation.TheVariants.{Apart}
use Rattle.bp_replay.specs.Cells.{first_of}
use Rattle.bp_replay.specs.Readings.{order_as}
use Rattle.bp_replay.proofs.Cells.{first_step, first_found, kept_first}
use Rattle.bp_replay.proofs.ties.first_name.Goals as goal

pub loop-earlier-preserved : goal.loop-earlier-preserved
loop-earlier-preserved c =
    let same = λ (m : ℕ). is_order (order_as (get_or c.args.orders.now m (Apart 0 0 0))) (order_as (get_or c.args.orders.now c.args.name (Apart 0 0 0))) in
    let left = c.args.name - c.loop-earlier.earlier in
    let fewer : c.args.name - (c.loop-earlier.earlier + 1) ≡ left - 1 = omega arith in
    ap (λ (n : ℕ). first_of same n (c.loop-earlier.earlier + 1)) fewer ∙ sym (first_step same left c.loop-earlier.earlier (omega (arith, c.loop-earlier-test.true)) (sym c.if-is_same.ensures)) ∙ c.loop-earlier.invariant

pub returns-then-is_same-clause-first : goal.returns-then-is_same-clause-first
returns-then-is_same-clause-first c = λ T order told.
    let same = λ (m : ℕ). is_order (order_as (get_or c.args.orders.now m (Apart 0 0 0))) (order_as (get_or c.args.orders.now c.args.name (Apart 0 0 0))) in
    let left = c.args.name - c.loop-earlier.earlier in
    sym (first_found same left c.loop-earlier.earlier (omega (arith, c.loop-earlier-test.true)) (sym c.if-is_same.ensures)) ∙ c.loop-earlier.invariant
    ∙ kept_first c.args.orders.now (Apart 0 0 0) T order c.args.name c.requires.name (told (Apart 0 0 0))

pub returns-clause-first : goal.returns-clause-first
returns-clause-first c = λ T order told.
    let same = λ (m : ℕ). is_order (order_as (get_or c.args.orders.now m (Apart 0 0 0))) (order_as (get_or c.args.orders.now c.args.name (Apart 0 0 0))) in
    let none : c.args.name - c.loop-earlier.earlier ≡ 0 = omega (arith, c.loop-earlier-test.false) in
    let here : c.loop-earlier.earlier ≡ c.args.name = omega (arith, c.loop-earlier-test.false, c.loop-earlier.auto) in
    sym here ∙ sym (ap (λ (n : ℕ). first_of same n c.loop-earlier.earlier) none) ∙ c.loop-earlier.invariant
    ∙ kept_first c.args.orders.now (Apart 0 0 0) T order c.args.name c.requires.name (told (Apart 0 0 0))
