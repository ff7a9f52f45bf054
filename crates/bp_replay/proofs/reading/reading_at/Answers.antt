use Rattle.std.proofs.Common.{ℕ, ap, sym, ◌∙◌}
use Rattle.bp_base.specs.declared.point.Axis.{Axis}
use Rattle.bp_lemmas.specs.Trees.{axis_of, leaf_of}
use Rattle.bp_mirror.specs.declared.kind.MirrorKind.{MirrorKind}
use Rattle.bp_mirror.specs.declared.kind.MirrorKind.TheVariants.{Book, Diagonal}
use Rattle.bp_mirror.specs.Readings.{part_of, reading, reading_of}
use Rattle.bp_replay.proofs.reading.reading_at.Goals as goal

pub returns-in-Book-clause-value : goal.returns-in-Book-clause-value
unfolding reading
returns-in-Book-clause-value c =
    let pairs = c.args.mirror.now in
    let k = leaf_of c.args.at in
    c.book_reading.ensures.value
    ∙ ap (reading_of Book c.axis_at-axis.result c.leaf_at-leaf.result) c.part_of-part.ensures.value
    ∙ ap (λ (n : ℕ). reading_of Book c.axis_at-axis.result n (part_of pairs n)) c.leaf_at-leaf.ensures.value
    ∙ ap (λ (axis : Axis). reading_of Book axis k (part_of pairs k)) c.axis_at-axis.ensures
    ∙ ap (λ (kind : MirrorKind). reading_of kind (axis_of c.args.at) k (part_of pairs k)) (sym c.in-Book.is)

pub returns-in-Diagonal-clause-value : goal.returns-in-Diagonal-clause-value
unfolding reading
returns-in-Diagonal-clause-value c =
    let pairs = c.args.mirror.now in
    let k = leaf_of c.args.at in
    c.diagonal_reading.ensures.value
    ∙ ap (reading_of Diagonal c.axis_at-axis.result c.leaf_at-leaf.result) c.part_of-part.ensures.value
    ∙ ap (λ (n : ℕ). reading_of Diagonal c.axis_at-axis.result n (part_of pairs n)) c.leaf_at-leaf.ensures.value
    ∙ ap (λ (axis : Axis). reading_of Diagonal axis k (part_of pairs k)) c.axis_at-axis.ensures
    ∙ ap (λ (kind : MirrorKind). reading_of kind (axis_of c.args.at) k (part_of pairs k)) (sym c.in-Diagonal.is)
