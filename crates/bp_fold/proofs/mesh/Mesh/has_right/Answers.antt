use Rattle.std.proofs.lemmas.Bool.{false≢true}
use Rattle.bp_fold.proofs.Crossings.{no_right}
use Rattle.bp_fold.proofs.mesh.Mesh.has_right.Goals as goal

pub returns-then-column-self : goal.returns-then-column-self
returns-then-column-self c =
    let M = c.args.self.now in
    (λ t. absurd (false≢true t), λ h. absurd (no_right M.regions.now M.xs.now M.ys.now M.owners.items c.requires.mesh c.args.column c.args.row c.if-column-self.true h))
