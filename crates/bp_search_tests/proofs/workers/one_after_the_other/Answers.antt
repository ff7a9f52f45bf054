use Rattle.std.proofs.Common.{◌≡◌, zero, suc, List, [], ◌∷◌, ◌++◌, All, sym, ap, ◌∙◌, subst, arith}
use Rattle.std.proofs.lemmas.List.Sums.{sum_by-cons}
use Rattle.bp_pool.specs.Hands.{HandView, IsSameHand}
use Rattle.bp_pool.specs.Rows.{IsWhole}
use Rattle.bp_search_tests.proofs.workers.one_after_the_other.Goals as goal

-- two hands that stayed in their places are still all of the pool
still_whole : (a b c d : HandView) → IsSameHand a c → IsSameHand b d → IsWhole a.pool (a ∷ b ∷ []) → IsWhole a.pool (c ∷ d ∷ [])
still_whole a b c d first second whole = record {
  some = omega arith;
  of_pool = of_pool;
  numbers = λ h. omega (arith, whole.numbers h, ap h first.1, ap h second.1, sum_by-cons h a.number (b.number ∷ []), sum_by-cons h b.number [], sum_by-cons h c.number (d.number ∷ []), sum_by-cons h d.number []);
}
  where
    of_pool : All (λ (v : HandView). v.pool ≡ a.pool) (c ∷ d ∷ [])
    of_pool zero e less = first.0
    of_pool (suc zero) e less = second.0 ∙ whole.of_pool 1 b (omega arith)
    of_pool (suc (suc k)) e less = absurd (omega (arith, less))

pub gather-requires : goal.gather-requires
gather-requires g c =
    let w = c.in_ok-board in
    let items = c.in_ok-push-2.ensures.items ∙ ap (λ (l : List HandView). l ++ c.works_off-left.new.worker.hand ∷ []) (c.in_ok-push.ensures.items ∙ ap (λ (l : List HandView). l ++ c.works_off-left-2.new.worker.hand ∷ []) c.new-hands.ensures.items) in
    (w.first.hand.pool, subst (λ (l : List HandView). IsWhole w.first.hand.pool l) (sym items) (still_whole w.first.hand w.second.hand c.works_off-left-2.new.worker.hand c.works_off-left.new.worker.hand c.works_off-left-2.ensures.hand c.works_off-left.ensures.hand w.ensures.hands))
