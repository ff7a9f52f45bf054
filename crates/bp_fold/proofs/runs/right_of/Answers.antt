use Rattle.bp_fold.specs.Numbering.{corner_at}
use Rattle.bp_fold.proofs.Numbered.{corner_is, leads_right, leads_nowhere_right}
use Rattle.std.proofs.lemmas.Bool.{false≢true}
use Rattle.std.proofs.Common.{sym, ◌∙◌}
use Rattle.bp_fold.proofs.runs.right_of.Goals as goal

pub has_right-requires-clause-column : goal.has_right-requires-clause-column
has_right-requires-clause-column c =
    let M = c.args.mesh.now in
    (corner_is M.regions.now M.xs.now M.ys.now M.owners.items c.requires.mesh c.args.corners.now c.requires.corners c.args.from (corner_at 0 0) c.requires.from).0

pub has_right-requires-clause-row : goal.has_right-requires-clause-row
has_right-requires-clause-row c =
    let M = c.args.mesh.now in
    (corner_is M.regions.now M.xs.now M.ys.now M.owners.items c.requires.mesh c.args.corners.now c.requires.corners c.args.from (corner_at 0 0) c.requires.from).1

pub returns-then-has_right : goal.returns-then-has_right
returns-then-has_right c =
    let M = c.args.mesh.now in
    leads_right M.regions.now M.xs.now M.ys.now M.owners.items c.requires.mesh c.args.corners.now c.requires.corners c.args.from (corner_at 0 0) c.requires.from (c.has_right.ensures.0 c.if-has_right.true)

pub returns-else-has_right : goal.returns-else-has_right
returns-else-has_right c =
    let M = c.args.mesh.now in
    leads_nowhere_right M.regions.now M.xs.now M.ys.now M.owners.items c.requires.mesh c.args.corners.now c.requires.corners c.args.from (corner_at 0 0) c.requires.from (λ right. false≢true (sym c.if-has_right.false ∙ c.has_right.ensures.1 right))
