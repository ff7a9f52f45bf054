use Rattle.std.proofs.Common.{◌<◌, ◌∙◌, ℕ, [], refl, sym, ap, subst, arith}
use Rattle.bp_machine.specs.Orderly.{IsOrderly}
use Rattle.bp_machine.specs.Runs.{live_count}
use Rattle.bp_machine.specs.State.{StateValue, begun}
use Rattle.bp_machine.proofs.Turned.{begun_orderly, runs_on, same_words, turn_goes}
use Rattle.bp_machine.proofs.running.run_schedule.Goals as goal

pub loop-state-init : goal.loop-state-init
loop-state-init g c =
    let M = c.args.metric.now in
    let is = c.in_ok-state.ensures.state in
    record {
      metric = ap (λ (S : StateValue). S.metric) is;
      facts = c.in_ok-state.ensures.facts;
      orderly = subst IsOrderly (sym is) (begun_orderly M c.args.opening.side c.args.floor c.args.hands c.args.budget c.requires.hands.0 c.requires.hands.1);
      floor = ap (λ (S : StateValue). S.floor) is;
      budget = ap (λ (S : StateValue). S.budget) is;
      run = ([], (is, refl));
    }

pub loop-state-smaller : goal.loop-state-smaller
loop-state-smaller g c =
    let M = c.args.metric.now in
    let inv = c.loop-state.invariant in
    (turn_goes M.tree M.sheet c.loop-state.state inv.facts inv.orderly c.turn-answer.result c.turn.new.self c.in_ok-turn.ensures.done).1

pub loop-state-preserved : goal.loop-state-preserved
loop-state-preserved g c =
    let M = c.args.metric.now in
    let inv = c.loop-state.invariant in
    let S = c.loop-state.state in
    let to = c.turn.new.self in
    let move = c.in_ok-turn.ensures.done in
    let event = move.0 in
    let step = move.3 in
    let words = same_words S event to step in
    let some : 0 < live_count S = omega (arith, c.live-live.ensures, c.if-live-eq0.false) in
    record {
      metric = c.law_of_steps.ensures.metric S to event step ∙ inv.metric;
      facts = c.law_of_steps.ensures.facts S to event inv.metric inv.facts step;
      orderly = (turn_goes M.tree M.sheet S inv.facts inv.orderly c.turn-answer.result to move).0;
      floor = words.0 ∙ inv.floor;
      budget = words.1 ∙ inv.budget;
      run =
          runs_on g.Q.Schedule.turns c.turn-answer.result (begun M c.args.opening.side c.args.floor c.args.hands c.args.budget) S to c.args.schedule.now c.loop-state.schedule c.turn-answer.new.self inv.run some (subst (λ (n : ℕ). g.Q.Schedule.turns c.loop-state.schedule n c.turn-answer.result c.turn-answer.new.self) c.live-live.ensures c.turn-answer.ensures.turns) move;
    }
