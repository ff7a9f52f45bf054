use Rattle.std.proofs.Common.{◌+◌, ◌/◌, [], ap, subst, arith}
use Rattle.bp_base.specs.Tree.{leaf_count}
use Rattle.bp_steady.specs.Bounds.{BoundsValue}
use Rattle.bp_steady.specs.Searching.{AreUnder, IsAnswered}
use Rattle.bp_steady.proofs.Coords.{ends_small}
use Rattle.bp_steady.proofs.Looking.{high_room, stands_high, next_bounds, next_sound, looking_start, looking_yes, looking_no, looking_spent, found}
use Rattle.bp_steady.proofs.Guides.{guided_less, guided_no, guided_question, guided_start, guided_yes}
use Rattle.bp_steady.proofs.answering.least_at.Goals as goal

pub high-high-requires : goal.high-high-requires
high-high-requires c =
    let s = c.requires.stands in
    high_room c.args.metric.now.tree c.args.metric.now.sheet c.args._side s.0 c.args.at s.1 c.requires.at c.args.bounds.now _
    (stands_high c.args.metric.now.tree c.args.metric.now.sheet c.args._side s.0 c.args.at s.1 c.requires.at c.args.bounds.now s.2)

pub loop-low-init : goal.loop-low-init
loop-low-init c = record {
  guided = guided_start c.args.metric.now.tree c.args.at c.args.bounds.now c.high-high.result c.args.path.now.guide.items c.high-high.ensures c.requires.guide;
  looking = λ P steady stands.
      looking_start c.args.metric.now.tree c.args.metric.now.sheet c.args._side P c.args.at steady c.requires.at c.args.left.now c.high-high.result c.args.bounds.now stands c.high-high.ensures;
}

pub overflow_add-middle : goal.overflow_add-middle
overflow_add-middle c =
    let s = c.requires.stands in
    let k = c.loop-low.invariant.looking s.0 s.1 s.2 in
    omega (arith, k.low_is, k.high_is, k.ended, ends_small c.args.metric.now.sheet c.args._side (leaf_count c.args.metric.now.tree) c.args.at c.leaves-leaves.ensures.metric.sheet c.requires.side)

pub set_high-requires : goal.set_high-requires
set_high-requires c =
    let s = c.requires.stands in
    let k = c.loop-low.invariant.looking s.0 s.1 s.2 in
    high_room c.args.metric.now.tree c.args.metric.now.sheet c.args._side s.0 c.args.at s.1 c.requires.at c.loop-low.bounds k.x (ap (λ (q : BoundsValue). q.high) k.bounds)

pub ask-requires : goal.ask-requires
ask-requires c = record {
  bounds =
      let s = c.requires.stands in
      let k = c.loop-low.invariant.looking s.0 s.1 s.2 in
      next_sound c.args.metric.now.tree c.args.metric.now.sheet c.args._side s.0 c.args.at s.1 c.requires.at c.set_high.new.self ((c.loop-low.low + c.loop-low.high) / 2) c.leaves-leaves.ensures.metric.sheet c.requires.side
      (next_bounds c.args.metric.now.tree c.args.metric.now.sheet c.args._side s.0 c.args.at s.1 c.requires.at c.args.left.now c.loop-low.left c.loop-low.bounds c.set_high.new.self c.loop-low.low c.loop-low.high ((c.loop-low.low + c.loop-low.high) / 2) k c.set_high.ensures)
      (omega (arith, k.ended, c.loop-low-test.true));
  guide =
      let s = c.requires.stands in
      let k = c.loop-low.invariant.looking s.0 s.1 s.2 in
      guided_question c.args.metric.now.tree c.args.at c.loop-low.bounds c.set_high.new.self c.loop-low.high ((c.loop-low.low + c.loop-low.high) / 2) c.loop-low.path.guide.items c.loop-low.invariant.guided
      (high_room c.args.metric.now.tree c.args.metric.now.sheet c.args._side s.0 c.args.at s.1 c.requires.at c.loop-low.bounds k.x (ap (λ (q : BoundsValue). q.high) k.bounds)) c.set_high.ensures (omega arith);
}

pub loop-low-preserved-in-Yes : goal.loop-low-preserved-in-Yes
loop-low-preserved-in-Yes c = record {
  guided =
      let s = c.requires.stands in
      let k = c.loop-low.invariant.looking s.0 s.1 s.2 in
      guided_yes c.args.metric.now.tree c.args.at c.loop-low.bounds c.set_high.new.self c.loop-low.high ((c.loop-low.low + c.loop-low.high) / 2) c.loop-low.path.guide.items c.loop-low.invariant.guided
      (high_room c.args.metric.now.tree c.args.metric.now.sheet c.args._side s.0 c.args.at s.1 c.requires.at c.loop-low.bounds k.x (ap (λ (q : BoundsValue). q.high) k.bounds)) c.set_high.ensures c.ask.new.path.guide.items c.in_ok-ask.field-0 c.in-Yes.is c.in_ok-ask.ensures.guide;
  looking = λ P steady stands.
      looking_yes c.args.metric.now.tree c.args.metric.now.sheet c.args._side P c.args.at steady c.requires.at c.args.left.now c.loop-low.left c.ask.new.left c.loop-low.bounds c.set_high.new.self c.loop-low.low c.loop-low.high (c.loop-low.invariant.looking P steady stands) c.loop-low-test.true
      (next_bounds c.args.metric.now.tree c.args.metric.now.sheet c.args._side P c.args.at steady c.requires.at c.args.left.now c.loop-low.left c.loop-low.bounds c.set_high.new.self c.loop-low.low c.loop-low.high ((c.loop-low.low + c.loop-low.high) / 2) (c.loop-low.invariant.looking P steady stands) c.set_high.ensures)
      (subst (IsAnswered (AreUnder c.args.metric.now.tree c.set_high.new.self []) c.args.metric.now.tree c.set_high.new.self [] c.loop-low.left c.ask.new.left) c.in-Yes.is c.in_ok-ask.ensures.answer);
}

pub loop-low-preserved : goal.loop-low-preserved
loop-low-preserved c = record {
  guided =
      let s = c.requires.stands in
      let k = c.loop-low.invariant.looking s.0 s.1 s.2 in
      guided_no c.args.metric.now.tree c.args.at c.loop-low.bounds c.set_high.new.self c.loop-low.high ((c.loop-low.low + c.loop-low.high) / 2) c.loop-low.path.guide.items c.loop-low.invariant.guided
      (high_room c.args.metric.now.tree c.args.metric.now.sheet c.args._side s.0 c.args.at s.1 c.requires.at c.loop-low.bounds k.x (ap (λ (q : BoundsValue). q.high) k.bounds)) c.set_high.ensures c.ask.new.path.guide.items c.in_ok-ask.field-0 c.in-No.is c.in_ok-ask.ensures.guide;
  looking = λ P steady stands.
      looking_no c.args.metric.now.tree c.args.metric.now.sheet c.args._side P c.args.at steady c.requires.at c.args.left.now c.loop-low.left c.ask.new.left c.loop-low.bounds c.set_high.new.self c.loop-low.low c.loop-low.high (c.loop-low.invariant.looking P steady stands) c.loop-low-test.true
      (next_bounds c.args.metric.now.tree c.args.metric.now.sheet c.args._side P c.args.at steady c.requires.at c.args.left.now c.loop-low.left c.loop-low.bounds c.set_high.new.self c.loop-low.low c.loop-low.high ((c.loop-low.low + c.loop-low.high) / 2) (c.loop-low.invariant.looking P steady stands) c.set_high.ensures)
      (subst (IsAnswered (AreUnder c.args.metric.now.tree c.set_high.new.self []) c.args.metric.now.tree c.set_high.new.self [] c.loop-low.left c.ask.new.left) c.in-No.is c.in_ok-ask.ensures.answer);
}

pub returns-in-Spent-clause-found : goal.returns-in-Spent-clause-found
returns-in-Spent-clause-found c = λ P steady stands.
    looking_spent c.args.metric.now.tree c.args.metric.now.sheet c.args._side P c.args.at steady c.requires.at c.args.left.now c.loop-low.left c.ask.new.left c.loop-low.bounds c.set_high.new.self c.loop-low.low c.loop-low.high (c.loop-low.invariant.looking P steady stands) c.loop-low-test.true
    (next_bounds c.args.metric.now.tree c.args.metric.now.sheet c.args._side P c.args.at steady c.requires.at c.args.left.now c.loop-low.left c.loop-low.bounds c.set_high.new.self c.loop-low.low c.loop-low.high ((c.loop-low.low + c.loop-low.high) / 2) (c.loop-low.invariant.looking P steady stands) c.set_high.ensures)
    (subst (IsAnswered (AreUnder c.args.metric.now.tree c.set_high.new.self []) c.args.metric.now.tree c.set_high.new.self [] c.loop-low.left c.ask.new.left) c.in-Spent.is c.in_ok-ask.ensures.answer)

pub returns : goal.returns
returns c = record {
  guide =
      let s = c.requires.stands in
      let k = c.loop-low.invariant.looking s.0 s.1 s.2 in
      guided_less c.args.metric.now.tree c.args.at c.loop-low.bounds c.loop-low.high c.loop-low.low c.loop-low.path.guide.items (omega (arith, k.low_is, k.high_is)) c.loop-low.invariant.guided;
  found = λ P steady stands.
      found c.args.metric.now.tree c.args.metric.now.sheet c.args._side P c.args.at c.args.left.now c.loop-low.left c.loop-low.bounds c.loop-low.low c.loop-low.high (c.loop-low.invariant.looking P steady stands) c.loop-low-test.false;
}
