use Rattle.std.proofs.Common.{◌≡◌, ℕ, ◌/◌, ◌%◌, true, false, refl, ap, sym, ◌∙◌}
use Rattle.bp_base.specs.declared.point.Axis.{Axis}
use Rattle.bp_lemmas.specs.Trees.{leaf_of, are_two_leaves}
use Rattle.bp_mirror.specs.Systems.{mirror_order}
use Rattle.bp_replay.specs.Cells.{rows, order_named}
use Rattle.bp_replay.proofs.ties.order_at.Goals as goal

pub returns-then-are_two : goal.returns-then-are_two
unfolding order_named
returns-then-are_two c =
    let T = c.args.metric.now.tree in
    let M = c.args.readings.now in
    let second = c.args.name % rows in
    let two : are_two_leaves T (leaf_of (c.args.name / rows)) second ≡ true = ap (λ (k : ℕ). are_two_leaves T k second) (sym c.leaf_at-first.ensures.value) ∙ sym c.if-are_two.ensures in
    rw two
    (c.relation.ensures.order
    ∙ ap (λ (k : ℕ). mirror_order T M.kind M.pairs c.axis_at.result k second) c.leaf_at-first.ensures.value
    ∙ ap (λ (axis : Axis). mirror_order T M.kind M.pairs axis (leaf_of (c.args.name / rows)) second) c.axis_at.ensures)

pub returns : goal.returns
unfolding order_named
returns c =
    let T = c.args.metric.now.tree in
    let second = c.args.name % rows in
    let not : are_two_leaves T (leaf_of (c.args.name / rows)) second ≡ false = ap (λ (k : ℕ). are_two_leaves T k second) (sym c.leaf_at-first.ensures.value) ∙ sym c.if-are_two.ensures in
    rw not refl
