use Rattle.std.proofs.Common.{◌≡◌, ◌++◌, ◌∷◌, ◌∙◌, ℕ, List, [], false, refl, ap, arith}
use Rattle.bp_base.specs.declared.point.Point.{Point}
use Rattle.bp_contour.specs.Listed.{Follows}
use Rattle.bp_contour.specs.Table.{Holds}
use Rattle.bp_contour.specs.Tours.{mark_at, start_of}
use Rattle.bp_contour.proofs.Followed.{follows_back}
use Rattle.bp_contour.proofs.Touring.{fewer_free, next_free, tour_closes, tour_goes_on, tour_starts}
use Rattle.bp_contour.proofs.tour.tour.Goals as goal

pub loop-place-init : goal.loop-place-init
loop-place-init c =
    let C = c.args.cells.now in
    let rs = c.args.runs.now in
    tour_starts (Follows (Holds C) rs) (start_of c.args.columns.now c.args.rows.now rs) (follows_back (Holds C) rs c.requires.runs) c.args.start c.after-place.result c.args.taken.now _ c.push.new.self (omega (arith, c.requires.start, c.requires.long)) c.requires.free refl (c.in_ok-push.ensures.ok ∙ ap (λ (l : List Point). l ++ c.point_of.result ∷ []) c.new-points.ensures ∙ ap (λ (p : Point). p ∷ []) c.point_of.ensures) c.after-place.ensures

pub loop-place-smaller : goal.loop-place-smaller
loop-place-smaller c =
    let C = c.args.cells.now in
    let rs = c.args.runs.now in
    fewer_free c.loop-place.taken c.loop-place.place (omega (arith, c.loop-place.invariant.next.within, c.loop-place.invariant.marks.long, c.requires.long)) (next_free (Follows (Holds C) rs) (start_of c.args.columns.now c.args.rows.now rs) (follows_back (Holds C) rs c.requires.runs) c.args.start c.loop-place.place c.args.taken.now c.loop-place.taken c.loop-place.points c.loop-place.invariant c.requires.closed c.loop-place-test.true)

pub loop-place-preserved : goal.loop-place-preserved
loop-place-preserved c =
    let C = c.args.cells.now in
    let rs = c.args.runs.now in
    let point : ℕ → Point = start_of c.args.columns.now c.args.rows.now rs in
    let back = follows_back (Holds C) rs c.requires.runs in
    let free : mark_at c.loop-place.taken c.loop-place.place ≡ false = next_free (Follows (Holds C) rs) point back c.args.start c.loop-place.place c.args.taken.now c.loop-place.taken c.loop-place.points c.loop-place.invariant c.requires.closed c.loop-place-test.true in
    tour_goes_on (Follows (Holds C) rs) point back c.args.start c.loop-place.place c.args.taken.now c.loop-place.taken c.loop-place.points c.loop-place.invariant _ c.push-in-loop-place.new.self c.after-place-in-loop-place.result free (omega (arith, c.loop-place.invariant.next.within, c.loop-place.invariant.marks.long, c.requires.long)) refl (c.in_ok-push-2.ensures.ok ∙ ap (λ (p : Point). c.loop-place.points ++ p ∷ []) c.point_of-in-loop-place.ensures) c.after-place-in-loop-place.ensures

pub returns : goal.returns
returns c =
    let C = c.args.cells.now in
    let rs = c.args.runs.now in
    tour_closes (Follows (Holds C) rs) (start_of c.args.columns.now c.args.rows.now rs) (follows_back (Holds C) rs c.requires.runs) c.args.start c.loop-place.place c.args.taken.now c.loop-place.taken c.loop-place.points c.loop-place.invariant c.loop-place-test.false
