use Rattle.std.proofs.Common.{◌≡◌, ℕ, suc, ◌+◌, ◌-◌, List, [], ◌∷◌, length, get_or, sym, ap, ◌∙◌, subst, arith, length-append}
use Rattle.bp_incumbent.specs.Board.{PassView, new_pass}
use Rattle.bp_incumbent.specs.Seats.{IsDealing}
use Rattle.bp_incumbent.proofs.Gathers.{dealt_more}
use Rattle.bp_incumbent.proofs.board.Board.open.Goals as goal

pub deal-requires-clause-left : goal.deal-requires-clause-left
deal-requires-clause-left c = let n = c.args.passes - (c.loop-k.k + 1) in let e : c.args.passes - c.loop-k.k ≡ suc n = omega arith in
    (n, subst (λ (m : ℕ). IsDealing (c.loop-k.k + 1) m c.args.side c.loop-k.seats) e c.loop-k.invariant.dealing)

pub loop-k-preserved : goal.loop-k-preserved
loop-k-preserved c =
    let was = c.loop-k.invariant in
    let items = c.push_reserved.ensures.items in
    let n = c.args.passes - (c.loop-k.k + 1) in
    let e : c.args.passes - c.loop-k.k ≡ suc n = omega arith in
    record {
      room = omega arith;
      count = omega (arith, ap length items, length-append c.loop-k.all.items (c.deal.result ∷ []), was.count);
      board = c.deal.ensures.board ∙ was.board;
      dealing = c.deal.ensures.left n (subst (λ (m : ℕ). IsDealing (c.loop-k.k + 1) m c.args.side c.loop-k.seats) e was.dealing);
      dealt = λ j d lt. subst (λ (l : List PassView). get_or l j d ≡ new_pass c.in_ok-board.board.id (j + 1) c.args.side) (sym items)
          (dealt_more c.in_ok-board.board.id c.args.side c.loop-k.all.items c.deal.result c.loop-k.k was.count was.dealt c.deal.ensures.pass j d lt);
    }
