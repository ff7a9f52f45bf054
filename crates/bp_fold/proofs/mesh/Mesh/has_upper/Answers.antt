use Rattle.std.proofs.lemmas.Bool.{false≢true}
use Rattle.bp_fold.proofs.Crossings.{no_upper}
use Rattle.bp_fold.proofs.mesh.Mesh.has_upper.Goals as goal

pub returns-then-row-self : goal.returns-then-row-self
returns-then-row-self c =
    let M = c.args.self.now in
    (λ t. absurd (false≢true t), λ h. absurd (no_upper M.regions.now M.xs.now M.ys.now M.owners.items c.requires.mesh c.args.column c.args.row c.if-row-self.true h))
