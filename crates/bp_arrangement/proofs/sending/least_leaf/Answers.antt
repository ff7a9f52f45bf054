use Rattle.std.proofs.Common.{ℕ, ◌+◌, min, drop, get_or, sym, ◌∙◌, ap, arith}
use Rattle.std.proofs.lemmas.List.{at_drop_all}
use Rattle.bp_arrangement.specs.Swaps.{least}
use Rattle.bp_arrangement.proofs.Deciding.{no_pair, from_place}
use Rattle.bp_arrangement.proofs.Heads.{least_with, with_none, with_drop, from_first}
use Rattle.bp_arrangement.proofs.sending.least_leaf.Goals as goal

pub loop-at-init : goal.loop-at-init
loop-at-init c =
    let swap = c.args.swap.now in
    ap least (from_place swap 0 c.requires) ∙ from_first (get_or swap 0 no_pair) (drop 1 swap) ∙ ap (λ (k : ℕ). least_with k (drop 1 swap)) (sym c.lesser-leaf.ensures)

pub loop-at-preserved : goal.loop-at-preserved
loop-at-preserved c =
    let swap = c.args.swap.now in
    let next = sym (c.min-leaf.ensures ∙ ap (min c.loop-at.leaf) c.lesser.ensures) in
    c.loop-at.invariant ∙ with_drop swap c.loop-at.leaf c.loop-at.at c.loop-at-test.true ∙ ap (λ (k : ℕ). least_with k (drop (c.loop-at.at + 1) swap)) next

pub returns : goal.returns
returns c = sym (c.loop-at.invariant ∙ at_drop_all (least_with c.loop-at.leaf) c.args.swap.now c.loop-at.at (omega (arith, c.loop-at-test.false)) ∙ with_none c.loop-at.leaf)
