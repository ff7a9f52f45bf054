use Rattle.bp_fold.proofs.Segment.{kept_owner}
use Rattle.bp_fold.proofs.mesh.Mesh.owner.Goals as goal

pub returns : goal.returns
returns c =
    let M = c.args.self.now in
    kept_owner M.regions.now M.xs.now M.ys.now M.owners.items c.requires.mesh c.args.column c.args.row c.index.result.now _ c.requires.column c.requires.row c.index.ensures
