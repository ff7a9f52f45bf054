use Rattle.std.proofs.Common.{◌∙◌}
use Rattle.bp_design.proofs.Designs.{is_design, opening_design}
use Rattle.bp_design.proofs.Replays.{none_counted, search_counted}
use Rattle.bp_design.proofs.Searches.{opening_above}
use Rattle.bp_design.proofs.replaying.counted_replay.Goals as goal

pub design_of-requires-clause-above : goal.design_of-requires-clause-above
design_of-requires-clause-above c =
    let o = c.in_ok-opening.ensures in
    opening_above c.args.metric.now.tree c.args.metric.now.sheet c.in_ok-opening.opening c.in_ok-floor.floor (record { opening = o.opening; side = o.side; small = o.small }) c.if-opening-floor.true c.one_opening.ensures

pub returns-then-opening-floor-clause-design : goal.returns-then-opening-floor-clause-design
returns-then-opening-floor-clause-design c =
    is_design c.args.metric.now c.law_of_checks.ensures.none_below c.law_of_checks.ensures.bound c.law_of_checks.ensures.wanted c.law_of_checked_texts.ensures.short c.args.budget c.in_ok-document.document (c.in_ok-document.ensures.searched c.args.budget c.in_ok-settled.ensures.settled)

pub returns-then-opening-floor-clause-counted : goal.returns-then-opening-floor-clause-counted
returns-then-opening-floor-clause-counted c =
    search_counted c.args.metric.now.tree c.args.metric.now.sheet c.in_ok-opening.opening c.in_ok-floor.floor c.in_ok-opening.ensures.opening c.in_ok-opening.ensures.side c.in_ok-floor.ensures.floor c.one_opening.ensures c.args.hands c.args.budget c.args.seed c.in_ok-document.document c.if-opening-floor.true c.in_ok-settled.settled c.in_ok-settled.ensures.settled c.in_ok-settled.ensures.scheduled c.in_ok-document.ensures.told

pub returns-clause-design : goal.returns-clause-design
returns-clause-design c =
    let o = c.in_ok-opening.ensures in
    let f = c.in_ok-floor.ensures in
    opening_design c.args.metric.now c.law_of_checks.ensures.none_below c.law_of_checks.ensures.bound c.law_of_checks.ensures.wanted c.law_of_checked_texts.ensures.short c.tree.ensures.metric c.in_ok-opening.opening c.in_ok-floor.floor o.opening o.side o.valid f.floor f.holds c.law_of_floors.ensures o.small f.small c.if-opening-floor.false c.args.budget c.in_ok-tree.tree (c.in_ok-tree.ensures.value ∙ c.tree.ensures.tree) c.sheet.result c.sheet.ensures.sheet

pub returns-clause-counted : goal.returns-clause-counted
returns-clause-counted c =
    none_counted c.args.metric.now.tree c.args.metric.now.sheet c.in_ok-opening.opening c.in_ok-floor.floor c.in_ok-opening.ensures.opening c.in_ok-opening.ensures.side c.in_ok-floor.ensures.floor c.one_opening.ensures c.args.hands c.args.budget c.args.seed _ c.if-opening-floor.false
