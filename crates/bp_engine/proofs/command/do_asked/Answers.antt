use Rattle.std.proofs.Common.{◌≡◌, None, ◌∙◌, subst, sym}
use Rattle.bp_words.specs.declared.words.Words.TheVariants.{Design, Check, Contours, Help, Made, Picture, Pieces, Revise, Rewrite, Solve, Verify, Version, Trial}
use Rattle.bp_engine.proofs.Doings.{check_does, contours_does, design_does, design_leaves, does_as, help_does, leaves_as, made_does, picture_does, pieces_does, revise_does, rewrite_does, solve_does, solve_leaves, verify_does, version_does, trial_does, trial_leaves}
use Rattle.bp_engine.proofs.Outcomes.{outcome_loud}
use Rattle.bp_engine.specs.Run.{IsSilent}
use Rattle.bp_engine.proofs.command.do_asked.Goals as goal

pub returns-in-Check-clause-does : goal.returns-in-Check-clause-does
returns-in-Check-clause-does g c =
    let e = c.check_both.ensures in
    does_as c.args.words (Check c.in-Check.tree) _ _ c.check_both.result c.in-Check.is (check_does _ _ c.check_both.result c.in-Check.tree _ _ e.checks e.read e.write)

pub returns-in-Verify-clause-does : goal.returns-in-Verify-clause-does
returns-in-Verify-clause-does g c =
    let e = c.verify_both.ensures in
    does_as c.args.words (Verify c.in-Verify.tree) _ _ c.verify_both.result c.in-Verify.is (verify_does _ _ c.verify_both.result c.in-Verify.tree _ _ e.verifies e.read e.write)

pub returns-in-Revise-clause-does : goal.returns-in-Revise-clause-does
returns-in-Revise-clause-does g c =
    let d = c.in-Revise in
    let e = c.revise_both.ensures in
    does_as c.args.words (Revise d.tree d.budget) _ _ c.revise_both.result d.is (revise_does _ _ c.revise_both.result d.tree d.budget _ _ e.revises e.complete e.read e.write)

pub returns-in-Contours-clause-does : goal.returns-in-Contours-clause-does
returns-in-Contours-clause-does g c =
    let e = c.draw.ensures in
    does_as c.args.words Contours _ _ c.draw.result c.in-Contours.is (contours_does _ _ c.draw.result e.draws e.read e.write)

pub returns-in-Pieces-clause-does : goal.returns-in-Pieces-clause-does
returns-in-Pieces-clause-does g c =
    let e = c.draw-in-Pieces.ensures in
    does_as c.args.words Pieces _ _ c.draw-in-Pieces.result c.in-Pieces.is (pieces_does _ _ c.draw-in-Pieces.result e.draws e.read e.write)

pub returns-in-Picture-clause-does : goal.returns-in-Picture-clause-does
returns-in-Picture-clause-does g c =
    let e = c.draw-in-Picture.ensures in
    does_as c.args.words Picture _ _ c.draw-in-Picture.result c.in-Picture.is (picture_does _ _ c.draw-in-Picture.result e.draws e.read e.write)

pub returns-in-Help-clause-does : goal.returns-in-Help-clause-does
returns-in-Help-clause-does g c =
    let e = c.show.ensures in
    does_as c.args.words Help _ _ c.show.result c.in-Help.is (help_does _ _ c.show.result e.shows e.ends e.write)

pub returns-in-Version-clause-does : goal.returns-in-Version-clause-does
returns-in-Version-clause-does g c =
    let e = c.show-in-Version.ensures in
    does_as c.args.words Version _ _ c.show-in-Version.result c.in-Version.is (version_does _ _ c.show-in-Version.result e.shows e.ends e.write)

pub returns-in-Rewrite-clause-does : goal.returns-in-Rewrite-clause-does
returns-in-Rewrite-clause-does g c =
    let e = c.rewrite.ensures in
    does_as c.args.words Rewrite _ _ c.rewrite.result c.in-Rewrite.is (rewrite_does _ _ c.rewrite.result e.rewrites e.read e.write)

pub returns-in-Design-clause-does : goal.returns-in-Design-clause-does
returns-in-Design-clause-does g c =
    let d = c.in-Design in
    let e = c.design.ensures in
    does_as c.args.words (Design d.workers d.budget d.replay d.place d.strip d.steady) _ _ c.design.result d.is
    (design_does _ _ c.design.result d.workers d.budget d.replay d.place d.strip d.steady c.asked_of-asked.result c.asked_of-asked.ensures e.designs e.covered e.enough e.read e.write)

pub returns-in-Design-clause-leaves : goal.returns-in-Design-clause-leaves
returns-in-Design-clause-leaves g c =
    let d = c.in-Design in
    leaves_as c.args.words (Design d.workers d.budget d.replay d.place d.strip d.steady) _ _ c.design.result _ _ _ _ _ _ _ _ d.is
    (design_leaves _ _ c.design.result _ _ _ _ _ _ _ d.workers d.budget d.replay d.place d.strip d.steady c.asked_of-asked.result c.asked_of-asked.ensures c.design.ensures.unwritten c.design.ensures.undrawn c.design.ensures.whole)

pub returns-in-Made-clause-does : goal.returns-in-Made-clause-does
returns-in-Made-clause-does g c =
    let e = c.make.ensures in
    does_as c.args.words (Made c.in-Made.leaves c.in-Made.seed) _ _ c.make.result c.in-Made.is (made_does _ _ c.make.result c.in-Made.leaves c.in-Made.seed e.makes e.ends e.write)

pub returns-in-Trial-clause-does : goal.returns-in-Trial-clause-does
returns-in-Trial-clause-does g c =
    let e = c.try_made.ensures in
    does_as c.args.words (Trial c.in-Trial.leaves c.in-Trial.seed) _ _ c.try_made.result c.in-Trial.is (trial_does _ _ c.try_made.result c.in-Trial.leaves c.in-Trial.seed e.tries e.ends e.write)

pub returns-in-Trial-clause-no_usage : goal.returns-in-Trial-clause-no_usage
returns-in-Trial-clause-no_usage g c = λ usage. outcome_loud c.try_made.result c.try_made.ensures.ends (subst IsSilent (sym usage) tt)

pub returns-in-Trial-clause-silent : goal.returns-in-Trial-clause-silent
returns-in-Trial-clause-silent g c = λ silent. absurd (outcome_loud c.try_made.result c.try_made.ensures.ends silent)

pub returns-in-Trial-clause-leaves : goal.returns-in-Trial-clause-leaves
returns-in-Trial-clause-leaves g c =
    leaves_as c.args.words (Trial c.in-Trial.leaves c.in-Trial.seed) _ _ c.try_made.result _ _ _ _ _ _ _ _ c.in-Trial.is
    (trial_leaves _ _ c.try_made.result _ _ _ _ _ c.in-Trial.leaves c.in-Trial.seed c.try_made.ensures.unwritten)

pub returns-else-not-has_no_mirror-clause-does : goal.returns-else-not-has_no_mirror-clause-does
returns-else-not-has_no_mirror-clause-does g c =
    let d = c.in-Solve in
    let e = c.solve.ensures in
    let plain : d.mirror ≡ None = c.has_no_mirror.ensures.0 c.if-not-has_no_mirror.false in
    does_as c.args.words (Solve d.budget d.strip d.place None) _ _ c.solve.result (d.is ∙ (λ i. Solve d.budget d.strip d.place (plain i)))
    (solve_does _ _ c.solve.result d.budget d.place d.strip c.asked_of-asked-in-Solve.result c.asked_of-asked-in-Solve.ensures e.solves e.read e.write)

pub returns-else-not-has_no_mirror-clause-leaves : goal.returns-else-not-has_no_mirror-clause-leaves
returns-else-not-has_no_mirror-clause-leaves g c =
    let d = c.in-Solve in
    let plain : d.mirror ≡ None = c.has_no_mirror.ensures.0 c.if-not-has_no_mirror.false in
    leaves_as c.args.words (Solve d.budget d.strip d.place None) _ _ c.solve.result _ _ _ _ _ _ _ _ (d.is ∙ (λ i. Solve d.budget d.strip d.place (plain i)))
    (solve_leaves _ _ c.solve.result _ _ _ _ _ _ _ d.budget d.place d.strip c.asked_of-asked-in-Solve.result c.asked_of-asked-in-Solve.ensures c.solve.ensures.unwritten c.solve.ensures.undrawn c.solve.ensures.whole)
