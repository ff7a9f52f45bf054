use Rattle.std.proofs.Common.{ℕ, ◌≡◌, ◌+◌, length, subst, ap, sym, ◌∙◌, arith}
use Rattle.bp_base.specs.declared.point.Point.{Point}
use Rattle.bp_base.specs.declared.point.Sheet.{Sheet}
use Rattle.bp_opening.specs.Sums.{AtMost, CanStand, IsLeastInColumn, start_on}
use Rattle.bp_opening.proofs.Firsts.{first_of_sums, more_columns, start_stands, start_reach}
use Rattle.bp_opening.proofs.Orders.{at_most-self, at_most_trans, at_most_reach}
use Rattle.bp_opening.proofs.first.first_free.Goals as goal

pub loop-column-init : goal.loop-column-init
loop-column-init c =
    let T = c.args.metric.now.tree in
    let G = c.args.metric.now.sheet in
    let P = c.args.points.now in
    let start = start_on G (length P) in
    let is : c.start_on-best.result ≡ start = c.start_on-best.ensures ∙ ap (λ (H : Sheet). start_on H (length P)) c.sheet.ensures.sheet in
    record {
      stands = subst (λ (p : Point). CanStand T G P p) (sym is) (start_stands T c.sheet.ensures.metric.tree G P c.requires.near);
      no_later = subst (λ (p : Point). AtMost G p start) (sym is) (at_most-self G start);
      least = λ a less. absurd (omega arith);
    }

pub loop-column-preserved : goal.loop-column-preserved
loop-column-preserved c =
    let T = c.args.metric.now.tree in
    let G = c.args.metric.now.sheet in
    let P = c.args.points.now in
    let old = c.loop-column.best in
    let new = c.least_in_column-best.result in
    let least = subst (λ (x : ℕ). IsLeastInColumn T G P x new (length P + 1)) (ap (λ (p : Point). p.x) c.sum_beside-x.ensures) c.least_in_column-best.ensures.least in
    record {
      stands = c.least_in_column-best.ensures.stands;
      no_later = at_most_trans G new old (start_on G (length P)) c.least_in_column-best.ensures.no_later c.loop-column.invariant.no_later;
      least = more_columns T G P old new c.loop-column.column c.loop-column.invariant.least c.least_in_column-best.ensures.no_later least;
    }

pub returns-clause-first : goal.returns-clause-first
returns-clause-first c =
    let P = c.args.points.now in
    first_of_sums c.args.metric.now.tree c.args.metric.now.sheet P c.loop-column.best c.loop-column.invariant.stands (λ a less. c.loop-column.invariant.least a (omega (arith, less, c.loop-column-test.false)))

pub returns-clause-near : goal.returns-clause-near
returns-clause-near c =
    let G = c.args.metric.now.sheet in
    let n = length c.args.points.now in
    omega (arith, at_most_reach G c.loop-column.best (start_on G n) c.loop-column.invariant.no_later, start_reach G n)
