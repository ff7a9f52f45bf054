use Rattle.std.proofs.Common.{◌≡◌, ℕ, ◌+◌, ◌<◌, List, length, get_or, ap, ◌∙◌, subst, arith}
use Rattle.bp_incumbent.specs.Board.{new_pass}
use Rattle.bp_pool.specs.Opens.{new_hand}
use Rattle.bp_workers.specs.Teams.{IsNewWorker}
use Rattle.bp_workers.specs.declared.worker.Worker.{Worker}
use Rattle.bp_workers.proofs.Seating.{AreNew, are_hired, last_is, one_less, one_more, shorter}
use Rattle.bp_workers.proofs.hands.seat.Goals as goal

pub loop-hand-preserved : goal.loop-hand-preserved
loop-hand-preserved c =
    let T = c.args._metric.now.tree in
    let G = c.args._metric.now.sheet in
    let board = c.args._board.now in
    let side = c.args._side in
    let inv = c.loop-hand.invariant in
    let ws = c.args.all.items in
    let vs = c.loop-hand.all.items in
    let us = c.pop.new.self.items in
    let hand = c.in-Some.hand in
    let is = c.in-Some.ensures.items in
    let xs = c.args.passes.items in
    let ps = c.loop-hand.passes.items in
    let qs = c.pop-in-Some.new.self.items in
    let pass = c.in-Some-pop.pass in
    let pass_is = c.in-Some-pop.ensures.items in
    let worker = c.in_ok-worker.worker in
    let items = c.in_ok-insert.ensures.items in
    let less = one_less ws vs us hand is inv.hands in
    let fewer = one_less xs ps qs pass pass_is inv.passes in
    let place : length us < length ws = omega (arith, inv.total, less) in
    let same : length qs ≡ length us = omega (arith, inv.as_many, less, fewer) in
    record {
      total = omega (arith, inv.total, less, ap (λ (l : List Worker). length l) items);
      as_many = same;
      hands = shorter ws vs us hand is inv.hands;
      passes = shorter xs ps qs pass pass_is inv.passes;
      workers = λ new.
          let hand_is : hand ≡ new_hand new.pool (length us + 1) = last_is ws vs us hand is inv.hands ∙ new.each (length us) hand place in
          let of_board : pass ≡ new_pass board.id (length us + 1) side = last_is xs ps qs pass pass_is inv.passes ∙ ap (λ (n : ℕ). get_or xs n pass) same ∙ c.requires.passes (length us) pass place in
          let made : IsNewWorker T G board new.pool side (length us + 1) worker = record {
            hand = c.in_ok-worker.ensures.place.1 ∙ hand_is;
            pass = c.in_ok-worker.ensures.place.2 ∙ of_board;
            agrees = c.in_ok-worker.ensures.agrees T G board new.pool side (length us + 1) (length us + 1) hand_is new.leaves_are of_board c.requires.side;
          } in
          one_more T G board new.pool side (length us) (length vs) worker c.loop-hand.workers.items c.insert.new.self.items items less made (inv.workers new);
    }

pub returns : goal.returns
returns c =
    let T = c.args._metric.now.tree in
    let G = c.args._metric.now.sheet in
    let board = c.args._board.now in
    let side = c.args._side in
    let inv = c.loop-hand.invariant in
    let new = c.requires.hands in
    let ws = c.loop-hand.workers.items in
    let none : length c.loop-hand.all.items ≡ 0 = omega (arith, c.in_default.ensures.cases.0, c.loop-hand.all.ok.0) in
    are_hired T G board new.pool side ws (omega (arith, inv.total, none, c.requires.count.0)) new.root_is new.leaves_are (omega (arith, new.count.0, inv.total, none)) (omega (arith, c.requires.count.2, inv.total, none)) (subst (λ (n : ℕ). AreNew T G board new.pool side n ws) none (inv.workers new))
