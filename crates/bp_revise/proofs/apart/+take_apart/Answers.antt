use Rattle.std.proofs.Common.{◌≡◌, ◌<◌, ◌∙◌, ap, refl, sym, arith, length, get_or, List, Some, subst}
use Rattle.std.specs.Prelude.{slice_get}
use Rattle.bp_base.specs.declared.path.Choice.{Choice}
use Rattle.std.proofs.lemmas.Result.{on_ok_weaker}
use Rattle.bp_base.specs.declared.record.Record.{Record}
use Rattle.bp_base.specs.declared.record.RecordKind.TheVariants as sort
use Rattle.bp_base.specs.declared.refutation.Refutation.{Refutation}
use Rattle.bp_metric.specs.Nodes.{ClosedBy, node_count_of}
use Rattle.bp_document.proofs.Nodes.{child_smaller}
use Rattle.bp_revise.specs.declared.apart.Parts.{Parts}
use Rattle.bp_written.specs.Told.{IsOfPairs}
use Rattle.bp_written.proofs.PathPairs.{longer_pairs, pairs_room}
use Rattle.bp_revise.proofs.Takings.{can_split, child_fits, closed_taken, many_children, open_taken, taken_all, taken_more, taken_none}
use Rattle.bp_revise.proofs.apart.+take_apart.Goals as goal

pub allowed-choices-requires : goal.allowed-choices-requires
allowed-choices-requires t c = (can_split c.args.metric.now.tree c.args.metric.now.sheet c.args.path.now c.in-Split.pair c.in-Split.children c.args.refutation.now c.in-Split.is c.requires.fits).pair

pub extended-requires-clause-room : goal.extended-requires-clause-room
extended-requires-clause-room t c =
    pairs_room c.args.metric.now.tree c.leaves-leaves.ensures.metric.tree c.args.path.now c.in-Split.pair c.requires.pairs (can_split c.args.metric.now.tree c.args.metric.now.sheet c.args.path.now c.in-Split.pair c.in-Split.children c.args.refutation.now c.in-Split.is c.requires.fits)

pub extended-requires-clause-pair : goal.extended-requires-clause-pair
extended-requires-clause-pair t c =
    let pair = (can_split c.args.metric.now.tree c.args.metric.now.sheet c.args.path.now c.in-Split.pair c.in-Split.children c.args.refutation.now c.in-Split.is c.requires.fits).pair in
    (pair.0, pair.1, omega (arith, pair.2, c.leaves-leaves.ensures.metric.tree.leaves_few))

pub loop-k-init : goal.loop-k-init
loop-k-init t c =
    taken_none c.args.metric.now.tree c.args.metric.now.sheet c.args.path.now c.in-Split.pair c.in-Split.children c.as_slice-children.result.now c.args.refutation.now c.args.parts.now.records c.add_record.new.parts.records (record { path = c.args.path.now; kind = sort.Split c.in-Split.pair; ticket = 0; given = c.args.bound; bound = c.args.bound }) c.args.parts.now.left c.add_record.new.parts.left c.in-Split.is c.as_slice-children.ensures c.requires.fits
    (ap (λ (p : Parts). p.records) c.in_ok-add_record-in-Split.ensures) refl (ap (λ (p : Parts). p.left) c.in_ok-add_record-in-Split.ensures)

pub bounds-children-k : goal.bounds-children-k
bounds-children-k t c =
    omega (arith, c.loop-k-test.true, c.count-k-end.ensures, ap length c.allowed-choices.ensures, many_children c.args.metric.now.tree c.args.metric.now.sheet c.args.path.now c.in-Split.pair c.in-Split.children c.as_slice-children.result.now c.args.refutation.now c.in-Split.is c.as_slice-children.ensures c.requires.fits)

pub take_apart-requires : goal.take_apart-requires
take_apart-requires t c =
    let T = c.args.metric.now.tree in
    let G = c.args.metric.now.sheet in
    let path = c.args.path.now in
    let p = c.in-Split.pair in
    let children = c.in-Split.children in
    let items = c.as_slice-children.result.now in
    let k = c.loop-k.k in
    let child = c.index-children-k.result in
    let can = can_split T G path p children c.args.refutation.now c.in-Split.is c.requires.fits in
    let many = many_children T G path p children items c.args.refutation.now c.in-Split.is c.as_slice-children.ensures c.requires.fits in
    let less : k < length items = omega (arith, c.loop-k-test.true, c.count-k-end.ensures, ap length c.allowed-choices.ensures, many) in
    let within : k < length children = omega (arith, less, ap length c.as_slice-children.ensures) in
    let is : child ≡ get_or children k child = c.index-children-k.is ∙ ap (λ (l : List Refutation). get_or l k child) c.as_slice-children.ensures in
    let chosen = subst (λ (cs : List Choice). slice_get cs k ≡ Some c.at-choice.result) c.allowed-choices.ensures c.at-choice.ensures in (
      omega (arith, child_smaller p children k child child within is, ap node_count_of c.in-Split.is),
      (
        child_fits T G path c.in_ok-below-in-Split.below p children items c.args.refutation.now k child c.at-choice.result c.in-Split.is c.as_slice-children.ensures c.requires.fits less c.index-children-k.is chosen c.in_ok-below-in-Split.ensures,
        subst (IsOfPairs T) (sym c.in_ok-below-in-Split.ensures) (longer_pairs T path p c.at-choice.result c.requires.pairs can),
      ),
    )

pub loop-k-preserved : goal.loop-k-preserved
loop-k-preserved t c =
    let T = c.args.metric.now.tree in
    let G = c.args.metric.now.sheet in
    let path = c.args.path.now in
    let p = c.in-Split.pair in
    let items = c.as_slice-children.result.now in
    let k = c.loop-k.k in
    let many = many_children T G path p c.in-Split.children items c.args.refutation.now c.in-Split.is c.as_slice-children.ensures c.requires.fits in
    let less : k < length items = omega (arith, c.loop-k-test.true, c.count-k-end.ensures, ap length c.allowed-choices.ensures, many) in
    let chosen = subst (λ (cs : List Choice). slice_get cs k ≡ Some c.at-choice.result) c.allowed-choices.ensures c.at-choice.ensures in
    taken_more T G path c.in_ok-below-in-Split.below p items c.args.refutation.now c.index-children-k.result k c.at-choice.result _ _ _ _ _ _ less c.index-children-k.is chosen c.in_ok-below-in-Split.ensures c.loop-k.invariant c.in_ok-take_apart-in-Split.ensures.records c.in_ok-take_apart-in-Split.ensures.left

pub returns-after-loop-k-clause-records : goal.returns-after-loop-k-clause-records
returns-after-loop-k-clause-records t c =
    let items = c.as_slice-children.result.now in
    let many = many_children c.args.metric.now.tree c.args.metric.now.sheet c.args.path.now c.in-Split.pair c.in-Split.children items c.args.refutation.now c.in-Split.is c.as_slice-children.ensures c.requires.fits in
    (taken_all c.args.metric.now.tree c.args.metric.now.sheet c.args.path.now c.in-Split.pair items c.args.refutation.now c.loop-k.k _ _ _ _ (omega (arith, many, c.loop-k-test.false, c.count-k-end.ensures, ap length c.allowed-choices.ensures)) c.loop-k.invariant).0

pub returns-after-loop-k-clause-left : goal.returns-after-loop-k-clause-left
returns-after-loop-k-clause-left t c =
    let items = c.as_slice-children.result.now in
    let many = many_children c.args.metric.now.tree c.args.metric.now.sheet c.args.path.now c.in-Split.pair c.in-Split.children items c.args.refutation.now c.in-Split.is c.as_slice-children.ensures c.requires.fits in
    (taken_all c.args.metric.now.tree c.args.metric.now.sheet c.args.path.now c.in-Split.pair items c.args.refutation.now c.loop-k.k _ _ _ _ (omega (arith, many, c.loop-k-test.false, c.count-k-end.ensures, ap length c.allowed-choices.ensures)) c.loop-k.invariant).1

pub returns-in-Closed-clause-records : goal.returns-in-Closed-clause-records
returns-in-Closed-clause-records t c =
    let path = c.args.path.now in
    let x : Record = record { path = path; kind = sort.Closed c.copy.result; ticket = 0; given = c.args.bound; bound = c.args.bound } in
    on_ok_weaker c.add_record-in-Closed.result
    (λ is. (closed_taken c.args.metric.now.tree c.args.metric.now.sheet path c.in-Closed.claim c.args.refutation.now c.args.parts.now.records c.add_record-in-Closed.new.parts.records x c.args.parts.now.left c.add_record-in-Closed.new.parts.left c.in-Closed.is (ap (λ (p : Parts). p.records) is) (λ i. record { path = path; part = ClosedBy (c.copy.ensures i) }) (ap (λ (p : Parts). p.left) is)).0)
    c.add_record-in-Closed.ensures

pub returns-in-Closed-clause-left : goal.returns-in-Closed-clause-left
returns-in-Closed-clause-left t c =
    let path = c.args.path.now in
    let x : Record = record { path = path; kind = sort.Closed c.copy.result; ticket = 0; given = c.args.bound; bound = c.args.bound } in
    on_ok_weaker c.add_record-in-Closed.result
    (λ is. (closed_taken c.args.metric.now.tree c.args.metric.now.sheet path c.in-Closed.claim c.args.refutation.now c.args.parts.now.records c.add_record-in-Closed.new.parts.records x c.args.parts.now.left c.add_record-in-Closed.new.parts.left c.in-Closed.is (ap (λ (p : Parts). p.records) is) (λ i. record { path = path; part = ClosedBy (c.copy.ensures i) }) (ap (λ (p : Parts). p.left) is)).1)
    c.add_record-in-Closed.ensures

pub returns-in_ok-push-in-Open-clause-records : goal.returns-in_ok-push-in-Open-clause-records
returns-in_ok-push-in-Open-clause-records t c =
    (open_taken c.args.metric.now.tree c.args.metric.now.sheet c.args.path.now _ c.args.refutation.now c.args.parts.now.records _ _ _ c.in-Open.is c.in_ok-push-in-Open.ensures.ok c.in_ok-path-in-Open.ensures.value).0

pub returns-in_ok-push-in-Open-clause-left : goal.returns-in_ok-push-in-Open-clause-left
returns-in_ok-push-in-Open-clause-left t c =
    (open_taken c.args.metric.now.tree c.args.metric.now.sheet c.args.path.now _ c.args.refutation.now c.args.parts.now.records _ _ _ c.in-Open.is c.in_ok-push-in-Open.ensures.ok c.in_ok-path-in-Open.ensures.value).1
