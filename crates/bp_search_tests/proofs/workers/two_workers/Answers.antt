use Rattle.std.proofs.Common.{◌≡◌, ℕ, zero, suc, ◌+◌, false, List, [], ◌∷◌, ◌++◌, length, map, All, refl, sym, ap, subst, arith}
use Rattle.std.specs.List.{range_with_len, sum_by}
use Rattle.std.proofs.lemmas.List.Sums.{sum_by-cons}
use Rattle.bp_base.specs.Bags.{AreSame}
use Rattle.bp_base.specs.declared.point.Sheet.{Sheet}
use Rattle.bp_base.specs.Tree.{TreeValue}
use Rattle.bp_incumbent.specs.Board.{BoardView}
use Rattle.bp_incumbent.specs.Tickets.{is_spent}
use Rattle.bp_pool.specs.Hands.{HandView}
use Rattle.bp_pool.specs.Rows.{IsWhole}
use Rattle.bp_workers.specs.Agrees.{Agrees}
use Rattle.bp_workers.specs.Teams.{AreHired, IsSeated}
use Rattle.bp_workers.specs.declared.worker.Worker.{Worker}
use Rattle.bp_workers.proofs.Seating.{last_is, one_less, shorter}
use Rattle.bp_search_tests.proofs.workers.two_workers.Goals as goal

module _ (T : TreeValue) (G : Sheet) (board : BoardView) (side : ℕ) (ws us vs : List Worker) (a b : Worker) (hired : AreHired T G board side ws) (two : board.passes ≡ 2) (last : ws ≡ us ++ b ∷ []) (before : us ≡ vs ++ a ∷ []) where
  more : length ws ≡ length us + 1
  more = one_less ws ws us b last (λ k d less. refl)

  fewer : length us ≡ length vs + 1
  fewer = one_less ws us vs a before (shorter ws ws us b last (λ k d less. refl))

  of_all : (P : Worker → Type 0) → All P ws → P a × P b
  of_all P all = (subst P (sym (last_is ws us vs a before (shorter ws ws us b last (λ k d less. refl)))) (all (length vs) a (omega (arith, more, fewer))), subst P (sym (last_is ws ws us b last (λ k d less. refl))) (all (length us) b (omega (arith, more))))

  agree : Agrees T G board a × Agrees T G board b
  agree = of_all (Agrees T G board) hired.agree

  unspent : (is_spent board.limit a.pass.tickets ≡ false) × (is_spent board.limit b.pass.tickets ≡ false)
  unspent = of_all (λ (w : Worker). is_spent board.limit w.pass.tickets ≡ false) hired.unspent

  none : length vs ≡ 0
  none = omega (arith, more, fewer, two, hired.seated.passes)

  first : IsSeated board hired.pool 0 a
  first =
      subst (λ (n : ℕ). IsSeated board hired.pool n a) none (subst (λ (w : Worker). IsSeated board hired.pool (length vs) w) (sym (last_is ws us vs a before (shorter ws ws us b last (λ k d less. refl)))) (hired.seated.each (length vs) a (omega (arith, more, fewer))))

  second : IsSeated board hired.pool 1 b
  second =
      let one : length us ≡ 1 = omega (arith, fewer, none) in
      subst (λ (n : ℕ). IsSeated board hired.pool n b) one (subst (λ (w : Worker). IsSeated board hired.pool (length us) w) (sym (last_is ws ws us b last (λ k d less. refl))) (hired.seated.each (length us) b (omega (arith, more))))

  whole : IsWhole a.hand.pool (a.hand ∷ b.hand ∷ [])
  whole = subst (λ p. IsWhole p (a.hand ∷ b.hand ∷ [])) (sym first.of_pool) (record {
    some = omega arith;
    of_pool = of_pool;
    numbers = λ h. numbers h;
  })
    where
      count : length hired.pool.deques ≡ 2
      count = omega (arith, hired.seated.deques, hired.seated.passes, two)

      numbers : AreSame (map (λ (v : HandView). v.number) (a.hand ∷ b.hand ∷ [])) (range_with_len 1 (length hired.pool.deques))
      numbers h =
          let range : sum_by h (range_with_len 1 (length hired.pool.deques)) ≡ sum_by h (1 ∷ 2 ∷ []) = ap (λ (n : ℕ). sum_by h (range_with_len 1 n)) count in
          let one : h a.hand.number ≡ h 1 = ap h first.number in
          let other : h b.hand.number ≡ h 2 = ap h second.number in
          omega (arith, range, one, other, sum_by-cons h a.hand.number (b.hand.number ∷ []), sum_by-cons h b.hand.number [], sum_by-cons h 1 (2 ∷ []), sum_by-cons h 2 [])

      of_pool : All (λ (v : HandView). v.pool ≡ hired.pool) (a.hand ∷ b.hand ∷ [])
      of_pool zero d less = first.of_pool
      of_pool (suc zero) d less = second.of_pool
      of_pool (suc (suc k)) d less = absurd (omega (arith, less))

pub returns-clause-first : goal.returns-clause-first
returns-clause-first c =
    let b = c.in_ok-board in
    let facts = agree c.args.metric.now.tree c.args.metric.now.sheet b.board 5 b.workers.items c.pop.new.self.items c.pop-2.new.self.items c.in-Some-pop.first c.in-Some.second b.ensures.workers b.ensures.board.2 c.in-Some.ensures.items c.in-Some-pop.ensures.items in
    let free = unspent c.args.metric.now.tree c.args.metric.now.sheet b.board 5 b.workers.items c.pop.new.self.items c.pop-2.new.self.items c.in-Some-pop.first c.in-Some.second b.ensures.workers b.ensures.board.2 c.in-Some.ensures.items c.in-Some-pop.ensures.items in
    (facts.0, free.0)

pub returns-clause-second : goal.returns-clause-second
returns-clause-second c =
    let b = c.in_ok-board in
    let facts = agree c.args.metric.now.tree c.args.metric.now.sheet b.board 5 b.workers.items c.pop.new.self.items c.pop-2.new.self.items c.in-Some-pop.first c.in-Some.second b.ensures.workers b.ensures.board.2 c.in-Some.ensures.items c.in-Some-pop.ensures.items in
    let free = unspent c.args.metric.now.tree c.args.metric.now.sheet b.board 5 b.workers.items c.pop.new.self.items c.pop-2.new.self.items c.in-Some-pop.first c.in-Some.second b.ensures.workers b.ensures.board.2 c.in-Some.ensures.items c.in-Some-pop.ensures.items in
    (facts.1, free.1)

pub returns-clause-hands : goal.returns-clause-hands
returns-clause-hands c =
    let b = c.in_ok-board in
    whole c.args.metric.now.tree c.args.metric.now.sheet b.board 5 b.workers.items c.pop.new.self.items c.pop-2.new.self.items c.in-Some-pop.first c.in-Some.second b.ensures.workers b.ensures.board.2 c.in-Some.ensures.items c.in-Some-pop.ensures.items
