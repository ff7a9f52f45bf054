use Rattle.std.proofs.Common.{◌≡◌, ◌+◌, ◌++◌, ◌∷◌, ◌∙◌, ℕ, List, [], Bool, Global, Vec, false, true, length, map, sym, ap, subst, arith}
use Rattle.std.proofs.lemmas.List.{get_or_read, map-append, with_items_is}
use Rattle.bp_base.specs.declared.point.Point.{Point}
use Rattle.bp_contour.specs.declared.loops.Loop.{Loop}
use Rattle.bp_contour.specs.Listed.{Follows}
use Rattle.bp_contour.specs.Table.{Holds}
use Rattle.bp_contour.specs.Tours.{AreClosed, IsRound, mark_at, start_of}
use Rattle.bp_contour.proofs.Followed.{follows_back}
use Rattle.bp_contour.proofs.Touring.{AreUnderWay, add_round, all_round, marks_closed, none_under_way, skip_marked}
use Rattle.bp_contour.proofs.tour.loops_of.Goals as goal
use Rattle.bp_contour.proofs.tour.loops_of.Goals.{then-not-index+in_ok-points+in_ok-push, else-not-index}

pub loop-start-init : goal.loop-start-init
loop-start-init c =
    let C = c.args.cells.now in
    let rs = c.args.runs.now in
    let point : ℕ → Point = start_of c.args.columns.now c.args.rows.now rs in
    subst (λ (l : List Loop). AreUnderWay (Follows (Holds C) rs) point (length rs) 0 c.in_ok-taken.taken.items (map (λ (o : Loop). o.points) l)) (sym c.new-loops.ensures.items) (none_under_way (Follows (Holds C) rs) point (follows_back (Holds C) rs c.requires.runs) (length rs) c.in_ok-taken.taken.items (c.in_ok-taken.ensures.items_if_clones_equal (λ y e. e)))

pub tour-requires-clause-closed : goal.tour-requires-clause-closed
tour-requires-clause-closed c =
    let C = c.args.cells.now in
    let rs = c.args.runs.now in
    subst (AreClosed (Follows (Holds C) rs)) (sym c.deref_mut.ensures.value) (marks_closed (Follows (Holds C) rs) (start_of c.args.columns.now c.args.rows.now rs) (follows_back (Holds C) rs c.requires.runs) (length rs) c.loop-start.start c.loop-start.taken.items _ c.loop-start.invariant)

pub loop-start-preserved : goal.loop-start-preserved
loop-start-preserved c =
    let C = c.args.cells.now in
    let rs = c.args.runs.now in
    let point : ℕ → Point = start_of c.args.columns.now c.args.rows.now rs in
    let back = follows_back (Holds C) rs c.requires.runs in
    elim c.if-not-index.branch [
      | then-not-index+in_ok-points+in_ok-push w ↦
          let marks : w.deref_mut.result.now ≡ c.loop-start.taken.items = w.deref_mut.ensures.value in
          let round : IsRound (Follows (Holds C) rs) point c.loop-start.start c.loop-start.taken.items w.tour.new.taken w.in_ok-points.points = subst (λ (m : List Bool). IsRound (Follows (Holds C) rs) point c.loop-start.start m w.tour.new.taken w.in_ok-points.points) marks w.in_ok-points.ensures in
          let now : c.if-not-index.taken.items ≡ w.tour.new.taken = ap (λ (v : Vec Bool Global). v.items) w.taken-is ∙ with_items_is c.loop-start.taken w.tour.new.taken (round.marks.long ∙ sym c.loop-start.taken.ok.0) in
          let more : map (λ (o : Loop). o.points) c.if-not-index.loops.items ≡ map (λ (o : Loop). o.points) c.loop-start.loops.items ++ w.in_ok-points.points ∷ [] = ap (λ (v : Vec Loop Global). map (λ (o : Loop). o.points) v.items) w.loops-is ∙ ap (map (λ (o : Loop). o.points)) w.in_ok-push.ensures.items ∙ map-append (λ (o : Loop). o.points) c.loop-start.loops.items _ in
          subst (λ (m : List Bool). AreUnderWay (Follows (Holds C) rs) point (length rs) (c.loop-start.start + 1) m (map (λ (o : Loop). o.points) c.if-not-index.loops.items)) (sym now) (add_round (Follows (Holds C) rs) point back (length rs) c.loop-start.start c.loop-start.taken.items _ c.loop-start.invariant w.tour.new.taken _ w.in_ok-points.points round more)
      | else-not-index w ↦
          let on : mark_at c.loop-start.taken.items c.loop-start.start ≡ true = sym (get_or_read c.loop-start.taken.items c.loop-start.start c.index.result.now (omega (arith, c.loop-start-test.true, c.loop-start.invariant.long)) c.index.ensures false) ∙ w.if-not-index.false in
          subst (λ (v : Vec Loop Global). AreUnderWay (Follows (Holds C) rs) point (length rs) (c.loop-start.start + 1) c.if-not-index.taken.items (map (λ (o : Loop). o.points) v.items)) (sym w.loops-is) (subst (λ (v : Vec Bool Global). AreUnderWay (Follows (Holds C) rs) point (length rs) (c.loop-start.start + 1) v.items (map (λ (o : Loop). o.points) c.loop-start.loops.items)) (sym w.taken-is) (skip_marked (Follows (Holds C) rs) point back (length rs) c.loop-start.start c.loop-start.taken.items _ c.loop-start.invariant on))
    ]

pub returns : goal.returns
returns c =
    let C = c.args.cells.now in
    let rs = c.args.runs.now in
    all_round (Follows (Holds C) rs) (start_of c.args.columns.now c.args.rows.now rs) (follows_back (Holds C) rs c.requires.runs) (length rs) c.loop-start.taken.items _ c.loop-start.start (omega (arith, c.loop-start-test.false, c.loop-start.auto.start-end)) c.loop-start.invariant
