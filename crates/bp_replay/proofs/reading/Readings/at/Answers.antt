use Rattle.std.proofs.Common.{ℕ, refl, ap, ◌∙◌}
use Rattle.bp_lemmas.specs.Trees.{axis_of, leaf_of}
use Rattle.bp_lemmas.proofs.Trees.{axis_number, leaf_number}
use Rattle.bp_mirror.specs.Readings.{reading}
use Rattle.bp_replay.specs.Readings.{reading_as}
use Rattle.bp_replay.proofs.reading.Readings.at.Goals as goal

pub returns-clause-value : goal.returns-clause-value
returns-clause-value c =
    let kind = c.self.inside.kind in
    let pairs = c.self.inside.pairs.items in
    let u = c.place.result in
    rw (← c.self.view_is)
    (ap reading_as c.index.ensures ∙ c.self.invariant.read u _ c.place.ensures.within
    ∙ ap (λ (n : ℕ). reading kind pairs (axis_of n) (leaf_of n)) c.place.ensures.number
    ∙ rw (axis_number c.args.axis c.args.leaf, leaf_number c.args.axis c.args.leaf) refl)
