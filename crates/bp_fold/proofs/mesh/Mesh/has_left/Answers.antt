use Rattle.std.proofs.lemmas.Bool.{false≢true}
use Rattle.bp_fold.proofs.Crossings.{left_answer, no_left}
use Rattle.bp_fold.proofs.mesh.Mesh.has_left.Goals as goal

pub returns-then-column-eq0 : goal.returns-then-column-eq0
returns-then-column-eq0 c =
    let M = c.args.self.now in
    (λ t. absurd (false≢true t), λ h. absurd (no_left M.regions.now M.xs.now M.ys.now M.owners.items c.requires.mesh c.args.column c.args.row c.if-column-eq0.true h))

pub returns : goal.returns
returns c =
    let M = c.args.self.now in
    left_answer M.regions.now M.xs.now M.ys.now M.owners.items c.requires.mesh c.args.column c.args.row c.level.result c.if-column-eq0.false c.requires.column c.level.ensures
