use Rattle.std.proofs.Common.{◌≡◌, List, length, ◌*◌, ◌<◌, ◌≤◌, max, subst, sym, ap, ◌∙◌, arith}
use Rattle.std.proofs.lemmas.List.{length_push}
use Rattle.bp_base.specs.declared.point.Point.{Point}
use Rattle.bp_base.specs.declared.point.Sheet.{Sheet}
use Rattle.bp_base.specs.Tree.{leaf_count}
use Rattle.bp_base.specs.Limits.{most_leaves}
use Rattle.bp_metric.specs.Opening.{IsFirst, IsOpening, reach_on, side_of}
use Rattle.bp_metric.specs.Distance.{most_distance}
use Rattle.bp_metric.specs.Valid.{Valid}
use Rattle.bp_opening.specs.Small.{IsSmall}
use Rattle.bp_opening.specs.Sums.{AreNear, next_leaf}
use Rattle.bp_opening.proofs.Packing.{front_none, front_push, front_whole, front_small, front_valid}
use Rattle.bp_opening.proofs.opening.open.Goals as goal

pub loop-init : goal.loop-init
loop-init c = record {
  counted = ap length c.new-points.ensures.items;
  front = front_none c.args.metric.now.tree c.args.metric.now.sheet c.new-points.result.items c.new-points.ensures.items;
}

pub first_free-point-requires-clause-room : goal.first_free-point-requires-clause-room
first_free-point-requires-clause-room c =
    omega (arith, ap length c.deref.ensures.value, c.loop.invariant.counted, c.loop-test.true, c.leaves-count.ensures.count)

pub first_free-point-requires-clause-near : goal.first_free-point-requires-clause-near
first_free-point-requires-clause-near c = subst (AreNear c.args.metric.now.sheet) (sym c.deref.ensures.value) c.loop.invariant.front.near

pub loop-preserved : goal.loop-preserved
loop-preserved c =
    let T = c.args.metric.now.tree in
    let G = c.args.metric.now.sheet in
    let P = c.loop.points.items in
    let p = c.first_free-point.result in
    let few : length P < most_leaves = omega (arith, c.loop.invariant.counted, c.loop-test.true, c.leaves-count.ensures.count, c.leaves-count.ensures.metric.tree.leaves_few) in
    let first = subst (λ (l : List Point). IsFirst T G l (next_leaf l) p) c.deref.ensures.value c.first_free-point.ensures.first in
    let reach : reach_on G p ≤ most_distance * length P = omega (arith, c.first_free-point.ensures.near, ap length c.deref.ensures.value) in
    let here : c.reach_on.result ≡ reach_on G p = c.reach_on.ensures ∙ ap (λ (H : Sheet). reach_on H p) c.sheet-sheet.ensures.sheet in
    let more : c.max-side.result ≡ max (reach_on G p) c.loop.side = omega (arith, c.max-side.ensures, here) in
    record {
      counted = omega (arith, ap length c.in_ok-push.ensures.items, length_push P p, c.loop.invariant.counted);
      front = front_push T G P c.push.new.self.items p c.loop.side c.max-side.result c.loop.invariant.front few c.sheet-sheet.ensures.metric.sheet first reach c.in_ok-push.ensures.items more;
    }

pub returns-clause-opening : goal.returns-clause-opening
returns-clause-opening c =
    let T = c.args.metric.now.tree in
    let G = c.args.metric.now.sheet in
    let each : length c.loop.points.items ≡ leaf_count T = omega (arith, c.loop.invariant.counted, c.loop.auto.counter-end, c.loop-test.false, c.leaves-count.ensures.count) in
    subst (IsOpening T G) (sym c.from_vec.ensures) (front_whole T G c.loop.points.items c.loop.side c.loop.invariant.front each)

pub returns-clause-side : goal.returns-clause-side
returns-clause-side c = c.loop.invariant.front.side ∙ ap (side_of c.args.metric.now.sheet) (sym c.from_vec.ensures)

pub returns-clause-valid : goal.returns-clause-valid
returns-clause-valid c =
    let T = c.args.metric.now.tree in
    let G = c.args.metric.now.sheet in
    let each : length c.loop.points.items ≡ leaf_count T = omega (arith, c.loop.invariant.counted, c.loop.auto.counter-end, c.loop-test.false, c.leaves-count.ensures.count) in
    subst (Valid T G 1 c.loop.side) (sym c.from_vec.ensures) (front_valid T G c.loop.points.items c.loop.side c.loop.invariant.front each)

pub returns-clause-small : goal.returns-clause-small
returns-clause-small c =
    subst (λ (P : List Point). IsSmall (record { side = c.loop.side; points = P })) (sym c.from_vec.ensures) (front_small c.args.metric.now.tree c.args.metric.now.sheet c.loop.points.items c.loop.side c.loop.invariant.front)
