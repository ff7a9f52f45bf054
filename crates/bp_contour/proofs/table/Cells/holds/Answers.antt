use Rattle.std.proofs.Common.{arith}
use Rattle.bp_contour.proofs.Tables.{read_bit, read_none}
use Rattle.bp_contour.proofs.table.Cells.holds.Goals as goal
use Rattle.bp_contour.proofs.table.Cells.holds.Goals.{else-x-self-via-then-x-self+else-y-self, else-x-self-via-else-x-self}

pub returns-then-y-self : goal.returns-then-y-self
returns-then-y-self c =
    let m = c.self.inside in
    read_bit c.args.self.now m.width m.height m.bits.items c.args.x c.args.y c.index.result.now c.self.view_is c.self.invariant.each c.if-x-self.true c.if-y-self.true c.index.ensures

pub returns-else-x-self : goal.returns-else-x-self
returns-else-x-self c =
    let m = c.self.inside in
    read_none c.args.self.now m.width m.height m.bits.items c.args.x c.args.y c.self.view_is (elim c.else-x-self.branch [
      | else-x-self-via-then-x-self+else-y-self w ↦ λ column row. omega (arith, row, w.if-y-self.false)
      | else-x-self-via-else-x-self w ↦ λ column row. omega (arith, column, w.if-x-self.false)
    ])
