use Rattle.std.proofs.Common.{get_or, sym, ◌∙◌}
use Rattle.bp_fold.specs.Numbering.{corner_at}
use Rattle.bp_fold.proofs.Numbered.{corner_is, corner_number, leads_up, leads_nowhere_up}
use Rattle.std.proofs.lemmas.Bool.{false≢true}
use Rattle.bp_fold.proofs.runs.above.Goals as goal

pub has_upper-requires-clause-column : goal.has_upper-requires-clause-column
has_upper-requires-clause-column c =
    let M = c.args.mesh.now in
    (corner_is M.regions.now M.xs.now M.ys.now M.owners.items c.requires.mesh c.args.corners.now c.requires.corners c.args.from (corner_at 0 0) c.requires.from).0

pub has_upper-requires-clause-row : goal.has_upper-requires-clause-row
has_upper-requires-clause-row c =
    let M = c.args.mesh.now in
    (corner_is M.regions.now M.xs.now M.ys.now M.owners.items c.requires.mesh c.args.corners.now c.requires.corners c.args.from (corner_at 0 0) c.requires.from).1

pub number_of-requires-clause-found : goal.number_of-requires-clause-found
number_of-requires-clause-found c =
    let M = c.args.mesh.now in
    let here = corner_is M.regions.now M.xs.now M.ys.now M.owners.items c.requires.mesh c.args.corners.now c.requires.corners c.args.from (corner_at 0 0) c.requires.from in
    corner_number M.regions.now M.xs.now M.ys.now M.owners.items c.requires.mesh c.args.corners.now c.requires.corners (corner_at (get_or c.args.corners.now c.args.from (corner_at 0 0)).column c.next_row-row.result) (here.0, c.next_row-row.ensures.within, c.next_row-row.ensures.vertex)

pub returns-then-has_upper : goal.returns-then-has_upper
returns-then-has_upper c =
    let M = c.args.mesh.now in
    leads_up M.regions.now M.xs.now M.ys.now M.owners.items c.requires.mesh c.args.corners.now c.requires.corners c.args.from (corner_at 0 0) c.requires.from c.next_row-row.result c.number_of.result _ (c.has_upper.ensures.0 c.if-has_upper.true) c.next_row-row.ensures.after c.next_row-row.ensures.within c.next_row-row.ensures.free c.number_of.ensures.within c.number_of.ensures.here

pub returns-else-has_upper : goal.returns-else-has_upper
returns-else-has_upper c =
    let M = c.args.mesh.now in
    leads_nowhere_up M.regions.now M.xs.now M.ys.now M.owners.items c.requires.mesh c.args.corners.now c.requires.corners c.args.from (corner_at 0 0) c.requires.from (λ upper. false≢true (sym c.if-has_upper.false ∙ c.has_upper.ensures.1 upper))
