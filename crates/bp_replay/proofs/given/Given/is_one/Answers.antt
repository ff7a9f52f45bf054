use Rattle.std.proofs.Common.{◌==◌, ap}
use Rattle.std.proofs.lemmas.Bool.{eqb-true, eq-eqb}
use Rattle.bp_replay.specs.declared.cell.Cell.{Cell}
use Rattle.bp_replay.proofs.Tied.{cells_test}
use Rattle.bp_replay.proofs.given.Given.is_one.Goals as goal

pub returns-then-one-two : goal.returns-then-one-two
returns-then-one-two c =
    let t = c.args.self.now in
    let one = c.cell-one.result in
    let two = c.cell-two.result in
    cells_test t.ties t.tree t.sheet t.bound t.heads c.requires.few c.args.axis c.args.other c.args.i c.args.j c.args.k c.args.l c.requires.first c.requires.second one two c.cell-one.ensures.value c.cell-two.ensures.value (one.column == two.column)
    (λ same. let columns = eqb-true one.column two.column same in λ i. record { row = c.if-one-two.true i; column = columns i })
    (λ same. eq-eqb one.column two.column (ap (λ (cell : Cell). cell.column) same))

pub returns-else-one-two : goal.returns-else-one-two
returns-else-one-two c =
    let t = c.args.self.now in
    let one = c.cell-one.result in
    let two = c.cell-two.result in
    cells_test t.ties t.tree t.sheet t.bound t.heads c.requires.few c.args.axis c.args.other c.args.i c.args.j c.args.k c.args.l c.requires.first c.requires.second one two c.cell-one.ensures.value c.cell-two.ensures.value (one.row == two.row)
    (λ same. absurd (c.if-one-two.false (eqb-true one.row two.row same)))
    (λ same. eq-eqb one.row two.row (ap (λ (cell : Cell). cell.row) same))
