use Rattle.std.proofs.Common.{refl}
use Rattle.std.proofs.lemmas.Bool.{false≢true}
use Rattle.bp_fold.proofs.Segment.{outer_level, level_answer}
use Rattle.bp_fold.proofs.mesh.Mesh.level.Goals as goal

pub returns-then-is_outer : goal.returns-then-is_outer
returns-then-is_outer c =
    let m = c.requires.mesh in
    let M = c.args.self.now in (
      λ _. outer_level M.regions.now M.xs.now M.ys.now m.regions m.columns m.rows c.args.column c.args.row c.requires.column (c.is_outer.ensures.0 c.if-is_outer.true),
      λ _. refl,
    )

pub returns : goal.returns
returns c =
    let M = c.args.self.now in
    level_answer M.regions.now M.xs.now M.ys.now M.owners.items c.requires.mesh c.args.column c.args.row c.owner.result c.owner-2.result c.ne.result c.ne.ensures c.requires.column c.requires.row (λ outer. false≢true (rw c.if-is_outer.false at c.is_outer.ensures.1 outer)) c.owner.ensures c.owner-2.ensures
