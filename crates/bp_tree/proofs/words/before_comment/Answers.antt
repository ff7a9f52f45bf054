use Rattle.std.proofs.Common.{ℕ, ◌==◌, arith, sym, ap, take, ◌∙◌}
use Rattle.std.proofs.lemmas.Bool.{eq-eqb, ne_eqb}
use Rattle.std.proofs.lemmas.List.{take_all}
use Rattle.std.proofs.lemmas.List.Sums.{position_or_len_is}
use Rattle.bp_tree.proofs.words.before_comment.Goals as goal

pub returns-then-byte-eq35 : goal.returns-then-byte-eq35
returns-then-byte-eq35 c =
    let here = position_or_len_is (λ (b : ℕ). b == 35) c.args.line.now c.loop-at.at 0 (omega arith) (λ k less. ne_eqb _ 35 (c.loop-at.invariant k less)) (λ less. eq-eqb _ 35 c.if-byte-eq35.true) in
    ap (λ (n : ℕ). take n c.args.line.now) (sym here)

pub returns : goal.returns
returns c =
    let here = position_or_len_is (λ (b : ℕ). b == 35) c.args.line.now c.loop-at.at 0 c.loop-at.auto.at-end (λ k less. ne_eqb _ 35 (c.loop-at.invariant k less)) (λ less. absurd (omega arith)) in
    sym (ap (λ (n : ℕ). take n c.args.line.now) here ∙ take_all c.loop-at.at c.args.line.now c.loop-at-test.false)
