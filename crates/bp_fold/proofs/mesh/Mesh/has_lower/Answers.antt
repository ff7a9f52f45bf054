use Rattle.std.proofs.lemmas.Bool.{false≢true}
use Rattle.bp_fold.proofs.Crossings.{lower_answer, no_lower}
use Rattle.bp_fold.proofs.mesh.Mesh.has_lower.Goals as goal

pub returns-then-row-eq0 : goal.returns-then-row-eq0
returns-then-row-eq0 c =
    let M = c.args.self.now in
    (λ t. absurd (false≢true t), λ h. absurd (no_lower M.regions.now M.xs.now M.ys.now M.owners.items c.requires.mesh c.args.column c.args.row c.if-row-eq0.true h))

pub returns : goal.returns
returns c =
    let M = c.args.self.now in
    lower_answer M.regions.now M.xs.now M.ys.now M.owners.items c.requires.mesh c.args.column c.args.row c.upright.result c.if-row-eq0.false c.requires.row c.upright.ensures
