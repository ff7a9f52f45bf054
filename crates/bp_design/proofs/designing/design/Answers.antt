use Rattle.std.proofs.Common.{◌∙◌}
use Rattle.std.proofs.lemmas.Result.{IfOk-weaker}
use Rattle.bp_design.proofs.Designs.{is_design, opening_design}
use Rattle.bp_design.proofs.designing.design.Goals as goal

pub returns-then-opening-floor : goal.returns-then-opening-floor
returns-then-opening-floor g c =
    IfOk-weaker c.searched.result _ _ (λ D s. is_design c.args.metric.now c.law_of_checks.ensures.none_below c.law_of_checks.ensures.bound c.law_of_checks.ensures.wanted c.law_of_checked_texts.ensures.short c.args.budget D s) c.searched.ensures

pub returns : goal.returns
returns g c =
    let o = c.in_ok-opening.ensures in
    let f = c.in_ok-floor.ensures in
    opening_design c.args.metric.now c.law_of_checks.ensures.none_below c.law_of_checks.ensures.bound c.law_of_checks.ensures.wanted c.law_of_checked_texts.ensures.short c.tree.ensures.metric c.in_ok-opening.opening c.in_ok-floor.floor o.opening o.side o.valid f.floor f.holds c.law_of_floors.ensures o.small f.small c.if-opening-floor.false c.args.budget c.in_ok-tree.tree (c.in_ok-tree.ensures.value ∙ c.tree.ensures.tree) c.sheet.result c.sheet.ensures.sheet
