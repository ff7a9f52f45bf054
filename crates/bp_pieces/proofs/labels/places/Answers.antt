use Rattle.bp_pieces.proofs.Labelled.{place_more}
use Rattle.bp_pieces.proofs.labels.places.Goals as goal

pub loop-place-preserved : goal.loop-place-preserved
loop-place-preserved c =
    place_more c.loop-place.place c.loop-place.labels.items c.push.new.self.items c.loop-place.invariant c.in_ok-push.ensures.items
