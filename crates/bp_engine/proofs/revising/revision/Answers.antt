use Rattle.bp_engine.proofs.Revised.{ends, has_room, revised}
use Rattle.bp_engine.proofs.revising.revision.Goals as goal

pub revise-requires-clause-room : goal.revise-requires-clause-room
revise-requires-clause-room c = has_room c.args.old.proof c.requires.ranges.proof

pub returns-clause-answer : goal.returns-clause-answer
returns-clause-answer c =
    let e = c.in_ok-document.ensures in
    let s = c.status_of-status.ensures in
    revised c.args.tree.now c.args.budget c.args.old c.in_ok-document.document c.status_of-status.result c.in_ok-text.text.items
    (record { revisable = c.requires.revisable; revised = e.revised; ranges = e.ranges; short = e.short; no_more = e.bound; none_below = e.none_below })
    e.smallest s.done s.gave_up c.in_ok-text.ensures

pub returns-clause-ends : goal.returns-clause-ends
returns-clause-ends c = ends c.in_ok-document.document c.status_of-status.result c.status_of-status.ensures.done c.status_of-status.ensures.gave_up
