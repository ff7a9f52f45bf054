use Rattle.std.proofs.Common.{◌<◌, length, ap, subst, arith}
use Rattle.std.proofs.lemmas.List.{get_or_default}
use Rattle.bp_mirror.specs.Systems.{mirror_order}
use Rattle.bp_replay.specs.declared.cell.Cell.{Cell}
use Rattle.bp_replay.specs.declared.ties.Ties.TheVariants.{Mirror}
use Rattle.bp_replay.specs.Tables.{HaveTables}
use Rattle.bp_replay.proofs.Cells.{first_no_later}
use Rattle.bp_replay.proofs.given.Given.cell.Goals as goal

pub returns-in-Mirror-clause-row : goal.returns-in-Mirror-clause-row
returns-in-Mirror-clause-row c =
    let T = c.self.inside.metric.tree in
    let M = c.in-Mirror.readings in
    let tables : HaveTables T (Mirror M c.in-Mirror.names) = subst (HaveTables T) c.in-Mirror.is c.self.invariant.1 in
    let n = c.name.result in
    let long : n < length c.in-Mirror.names.items = omega (arith, tables.1.0, c.name.ensures.within) in
    omega (arith, ap (λ (cell : Cell). cell.row) c.cell_of.ensures, c.index.ensures, get_or_default c.in-Mirror.names.items n c.index.result.now 0 long, tables.1.1 n c.name.ensures.within, first_no_later T (mirror_order T M.kind M.pairs) n, c.name.ensures.within)
