use Rattle.std.proofs.Common.{◌≡◌, ◌<◌, false, Option, length, sym, ap, ◌∙◌, subst, arith}
use Rattle.bp_base.specs.declared.point.Placement.{Placement}
use Rattle.bp_workers.specs.Teams.{HasEnded, IsSeated, is_out}
use Rattle.bp_workers.specs.Worked.{lesser}
use Rattle.bp_workers.specs.declared.worker.Worker.{Worker}
use Rattle.bp_workers.proofs.Returning.{are_team, ended_agrees, one_more_back}
use Rattle.bp_workers.proofs.Seating.{last_is, one_less, shorter}
use Rattle.bp_workers.proofs.hands.come_back.Goals as goal

pub loop-worker-preserved : goal.loop-worker-preserved
loop-worker-preserved c =
    let T = c.args.metric.now.tree in
    let G = c.args.metric.now.sheet in
    let board = c.args.board.now in
    let inv = c.loop-worker.invariant in
    let team = c.loop-worker.team in
    let ws = c.args.workers.items in
    let vs = c.loop-worker.workers.items in
    let us = c.pop.new.self.items in
    let w = c.in-Some.worker in
    let is = c.in-Some.ensures.items in
    let less = one_less ws vs us w is inv.first in
    let last = last_is ws vs us w is inv.first in
    let in_memory : is_out w.ended ≡ false = sym c.ran_out.ensures ∙ c.if-ran_out.false in
    record {
      first = shorter ws vs us w is inv.first;
      back = λ side worked.
          let back = inv.back side worked in
          let place : length us < length ws = omega (arith, back.count, less) in
          let seated : IsSeated board worked.pool (length us) w = subst (λ (v : Worker). IsSeated board worked.pool (length us) v) (sym last) (worked.seated.each (length us) w place) in
          let ended : HasEnded T G board w = subst (λ (v : Worker). HasEnded T G board v) (sym last) (worked.ended (length us) w place) in
          one_more_back T G board worked.pool (length ws) (length us) (length vs) less team.hands.items team.passes.items team.records.items team.kept.items team.best back w.hand w.pass w.records.items w.kept.items w.best seated.of_pool seated.number (ended_agrees T G board w ended in_memory) c.push.new.self.items c.push-in-Some.new.self.items c.add_records.new.records.items c.append.new.self.items c.lesser.result c.in_ok-push.ensures.items c.in_ok-push-2.ensures.items c.in_ok-add_records.ensures c.in_ok-append.ensures.items (c.lesser.ensures ∙ ap (λ (o : Option Placement). lesser o w.best) c.take.ensures.value);
    }

pub returns : goal.returns
returns c side worked =
    let vs = c.loop-worker.workers in
    are_team c.args.metric.now.tree c.args.metric.now.sheet c.args.board.now side (length vs.items) worked.pool c.args.workers.items c.loop-worker.team (omega (arith, c.in_default.ensures.cases.0, vs.ok.0)) worked.seated (c.loop-worker.invariant.back side worked)
