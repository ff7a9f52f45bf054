use Rattle.std.proofs.Common.{[], ◌∙◌}
use Rattle.bp_written.proofs.Documents.{fits_joined, found_above, found_at_floor, pairs_of_left, pairs_of_records}
use Rattle.bp_written.proofs.writing.document_of.Goals as goal

pub join-requires-clause-splits : goal.join-requires-clause-splits
join-requires-clause-splits c =
    pairs_of_records c.args.metric.now c.sheet-sheet.ensures.metric c.args.settled c.requires.settled c.into_vec.result.items c.into_vec.ensures

pub join-requires-clause-paths : goal.join-requires-clause-paths
join-requires-clause-paths c =
    pairs_of_left c.args.metric.now c.sheet-sheet.ensures.metric c.args.settled c.requires.settled c.into_vec-2.result.items c.into_vec-2.ensures

pub weighed-requires : goal.weighed-requires
weighed-requires c =
    ([], fits_joined c.args.metric.now c.sheet-sheet.ensures.metric c.args.settled c.requires.settled c.into_vec.result.items c.into_vec.ensures c.into_vec-2.result.items c.into_vec-2.ensures c.in_ok-refutation.refutation c.in_ok-refutation.ensures.joined)

pub returns-then-side-floor-clause-told : goal.returns-then-side-floor-clause-told
returns-then-side-floor-clause-told c =
    (found_at_floor c.args.metric.now c.sheet-sheet.ensures.metric c.args.settled c.requires.settled c.args.floor c.requires.floor c.law_of_floors.ensures c.in_ok-tree.tree (c.in_ok-tree.ensures.value ∙ c.tree.ensures.tree) c.sheet-sheet.result c.sheet-sheet.ensures.sheet c.if-side-floor.true).0

pub returns-clause-told : goal.returns-clause-told
returns-clause-told c =
    (found_above c.args.metric.now c.sheet-sheet.ensures.metric c.args.settled c.requires.settled c.args.floor c.requires.floor c.law_of_floors.ensures c.in_ok-tree.tree (c.in_ok-tree.ensures.value ∙ c.tree.ensures.tree) c.sheet-sheet.result c.sheet-sheet.ensures.sheet c.if-side-floor.false c.into_vec.result.items c.into_vec.ensures c.into_vec-2.result.items c.into_vec-2.ensures c.in_ok-refutation.refutation c.in_ok-refutation.ensures.joined c.refutation_counts.ensures c.weighed.result c.weighed.ensures c.bound_of-bound.result c.bound_of-bound.ensures).0

pub returns-then-side-floor-clause-checks : goal.returns-then-side-floor-clause-checks
returns-then-side-floor-clause-checks c =
    (found_at_floor c.args.metric.now c.sheet-sheet.ensures.metric c.args.settled c.requires.settled c.args.floor c.requires.floor c.law_of_floors.ensures c.in_ok-tree.tree (c.in_ok-tree.ensures.value ∙ c.tree.ensures.tree) c.sheet-sheet.result c.sheet-sheet.ensures.sheet c.if-side-floor.true).1.0

pub returns-clause-checks : goal.returns-clause-checks
returns-clause-checks c =
    (found_above c.args.metric.now c.sheet-sheet.ensures.metric c.args.settled c.requires.settled c.args.floor c.requires.floor c.law_of_floors.ensures c.in_ok-tree.tree (c.in_ok-tree.ensures.value ∙ c.tree.ensures.tree) c.sheet-sheet.result c.sheet-sheet.ensures.sheet c.if-side-floor.false c.into_vec.result.items c.into_vec.ensures c.into_vec-2.result.items c.into_vec-2.ensures c.in_ok-refutation.refutation c.in_ok-refutation.ensures.joined c.refutation_counts.ensures c.weighed.result c.weighed.ensures c.bound_of-bound.result c.bound_of-bound.ensures).1.0

pub returns-then-side-floor-clause-ranges : goal.returns-then-side-floor-clause-ranges
returns-then-side-floor-clause-ranges c =
    (found_at_floor c.args.metric.now c.sheet-sheet.ensures.metric c.args.settled c.requires.settled c.args.floor c.requires.floor c.law_of_floors.ensures c.in_ok-tree.tree (c.in_ok-tree.ensures.value ∙ c.tree.ensures.tree) c.sheet-sheet.result c.sheet-sheet.ensures.sheet c.if-side-floor.true).1.1

pub returns-clause-ranges : goal.returns-clause-ranges
returns-clause-ranges c =
    (found_above c.args.metric.now c.sheet-sheet.ensures.metric c.args.settled c.requires.settled c.args.floor c.requires.floor c.law_of_floors.ensures c.in_ok-tree.tree (c.in_ok-tree.ensures.value ∙ c.tree.ensures.tree) c.sheet-sheet.result c.sheet-sheet.ensures.sheet c.if-side-floor.false c.into_vec.result.items c.into_vec.ensures c.into_vec-2.result.items c.into_vec-2.ensures c.in_ok-refutation.refutation c.in_ok-refutation.ensures.joined c.refutation_counts.ensures c.weighed.result c.weighed.ensures c.bound_of-bound.result c.bound_of-bound.ensures).1.1
