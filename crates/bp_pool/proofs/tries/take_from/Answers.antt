use Rattle.std.proofs.Common.{ℕ, ◌+◌, ◌-◌, ◌⊎◌, true≢false, Some, None, inl, inr, ⊎_elim, sym, ◌∙◌, subst, arith}
use Rattle.bp_pool.specs.Rounds.{Idle}
use Rattle.bp_pool.specs.Tries.{Rose, NoneFell}
use Rattle.bp_pool.proofs.Tried.{rose_after, rose_before, fell_on, grew_on, each, one_more, idle_on, idle_lost, takes_none}
use Rattle.bp_pool.proofs.tries.take_from.Goals as goal
use Rattle.bp_pool.proofs.tries.take_from.Goals.{in-Empty, in-Lost}

pub returns-in-Task-clause-taken : goal.returns-in-Task-clause-taken
returns-in-Task-clause-taken g c = grew_on _ _ _ (Some c.in-Task.task) c.loop-k.invariant.taken c.in-Task.ensures.taken

pub returns-then-lost-clause-causes : goal.returns-then-lost-clause-causes
returns-then-lost-clause-causes g c =
    let inv = c.loop-k.invariant in
    let old = c.args.tries.now in
    let now = c.loop-k.tries in
    let tried = each (λ (i : ℕ). Rose (g.Q.Tries.misses old) (g.Q.Tries.misses now) i ⊎ Rose (g.Q.Tries.lost old) (g.Q.Tries.lost now) i) c.number-number.result c.hands-hands.result inv.from_one inv.to_hands
    (inl (subst (λ (n : ℕ). Rose (g.Q.Tries.misses old) (g.Q.Tries.misses now) (n - 1)) (sym inv.is_number) inv.own)) (λ j one lt. inv.tried j one (omega (arith, c.loop-k-test.false))) in
    (inv.own, (λ i lt. tried i (omega (arith, inv.is_hands))), inv.some_lost c.if-lost.true)

pub returns-else-lost-clause-causes : goal.returns-else-lost-clause-causes
returns-else-lost-clause-causes g c =
    let inv = c.loop-k.invariant in
    let old = c.args.tries.now in
    let now = c.loop-k.tries in
    let all = each (λ (i : ℕ). Rose (g.Q.Tries.misses old) (g.Q.Tries.misses now) i) c.number-number.result c.hands-hands.result inv.from_one inv.to_hands
    (subst (λ (n : ℕ). Rose (g.Q.Tries.misses old) (g.Q.Tries.misses now) (n - 1)) (sym inv.is_number) inv.own) (λ j one lt. inv.all_missed c.if-lost.false j one (omega (arith, c.loop-k-test.false))) in
    λ i lt. all i (omega (arith, inv.is_hands))

pub loop-k-preserved : goal.loop-k-preserved
loop-k-preserved g c =
    let inv = c.loop-k.invariant in
    let old = c.args.tries.now in
    let mid = c.loop-k.tries in
    let new = c.steal.new.self in
    let number = c.number-number.result in
    let hands = c.hands-hands.result in
    let from = c.other-from.result in
    let fell : NoneFell (g.Q.Tries.misses mid) (g.Q.Tries.misses new) = c.steal.ensures.counts.0 in
    let fell_lost : NoneFell (g.Q.Tries.lost mid) (g.Q.Tries.lost new) = c.steal.ensures.counts.1 in
    let missed = λ (i : ℕ) (r : Rose (g.Q.Tries.misses old) (g.Q.Tries.misses mid) i). rose_after (g.Q.Tries.misses old) (g.Q.Tries.misses mid) (g.Q.Tries.misses new) i r fell in
    let lost = λ (i : ℕ) (r : Rose (g.Q.Tries.lost old) (g.Q.Tries.lost mid) i). rose_after (g.Q.Tries.lost old) (g.Q.Tries.lost mid) (g.Q.Tries.lost new) i r fell_lost in
    let Old : ℕ → Type 0 = λ i. Rose (g.Q.Tries.misses old) (g.Q.Tries.misses mid) i ⊎ Rose (g.Q.Tries.lost old) (g.Q.Tries.lost mid) i in
    let New : ℕ → Type 0 = λ i. Rose (g.Q.Tries.misses old) (g.Q.Tries.misses new) i ⊎ Rose (g.Q.Tries.lost old) (g.Q.Tries.lost new) i in
    let keeps = λ (i : ℕ) (t : Old i). ⊎_elim (λ (r : Rose (g.Q.Tries.misses old) (g.Q.Tries.misses mid) i). inl (missed i r)) (λ (r : Rose (g.Q.Tries.lost old) (g.Q.Tries.lost mid) i). inr (lost i r)) t in
    let from_fn = λ (i : Idle (g.Q.Tries.deques old) (g.Q.Tries.number old) (g.Q.Tries.hands old) c.loop-k.k c.loop-k.lost (g.Q.Tries.deques mid)).
    subst (λ (n : ℕ × ℕ). Idle (g.Q.Tries.deques old) n.0 n.1 c.loop-k.k c.loop-k.lost (g.Q.Tries.deques mid)) (λ k. (sym inv.is_number k, sym inv.is_hands k)) i in
    let to_fn = λ (i : Idle (g.Q.Tries.deques old) number hands (c.loop-k.k + 1) c.match-steal.lost (g.Q.Tries.deques new)).
    subst (λ (n : ℕ × ℕ). Idle (g.Q.Tries.deques old) n.0 n.1 (c.loop-k.k + 1) c.match-steal.lost (g.Q.Tries.deques new)) (λ k. (inv.is_number k, inv.is_hands k)) i in
    elim c.match-steal.branch [
      | in-Empty w ↦ let here = rose_before (g.Q.Tries.misses old) (g.Q.Tries.misses mid) (g.Q.Tries.misses new) (from - 1) inv.misses w.in-Empty.ensures.none in record {
        is_number = inv.is_number;
        is_hands = inv.is_hands;
        from_one = inv.from_one;
        to_hands = inv.to_hands;
        few = inv.few;
        same = (c.steal.ensures.same.0 ∙ inv.same.0, c.steal.ensures.same.1 ∙ inv.same.1, c.steal.ensures.same.2 ∙ inv.same.2);
        misses = fell_on _ _ _ inv.misses fell;
        losses = fell_on _ _ _ inv.losses fell_lost;
        own = missed _ inv.own;
        tried = one_more Old New number hands c.loop-k.k from c.other-from.ensures.place inv.tried keeps (inl here);
        all_missed = λ e. one_more (λ (i : ℕ). Rose (g.Q.Tries.misses old) (g.Q.Tries.misses mid) i) (λ (i : ℕ). Rose (g.Q.Tries.misses old) (g.Q.Tries.misses new) i) number hands c.loop-k.k from c.other-from.ensures.place (inv.all_missed (sym w.lost-is ∙ e)) missed here;
        some_lost = λ e. let s = inv.some_lost (sym w.lost-is ∙ e) in (s.0, s.1, s.2, lost s.1 s.3);
        deques = to_fn (idle_on _ _ _ _ _ c.loop-k.k from c.loop-k.lost c.match-steal.lost (from_fn inv.deques) w.lost-is c.other-from.ensures.place w.in-Empty.ensures.deques);
        taken = grew_on _ _ _ None inv.taken w.in-Empty.ensures.taken;
      }
      | in-Lost w ↦ let here = rose_before (g.Q.Tries.lost old) (g.Q.Tries.lost mid) (g.Q.Tries.lost new) (from - 1) inv.losses w.in-Lost.ensures.none in record {
        is_number = inv.is_number;
        is_hands = inv.is_hands;
        from_one = inv.from_one;
        to_hands = inv.to_hands;
        few = inv.few;
        same = (c.steal.ensures.same.0 ∙ inv.same.0, c.steal.ensures.same.1 ∙ inv.same.1, c.steal.ensures.same.2 ∙ inv.same.2);
        misses = fell_on _ _ _ inv.misses fell;
        losses = fell_on _ _ _ inv.losses fell_lost;
        own = missed _ inv.own;
        tried = one_more Old New number hands c.loop-k.k from c.other-from.ensures.place inv.tried keeps (inr here);
        all_missed = λ e. absurd (true≢false (sym w.lost-is ∙ e));
        some_lost = λ e. (omega (arith, c.loop-k-test.true, inv.is_hands), from - 1, omega (arith, c.other-from.ensures.in_range, inv.is_hands), here);
        deques = idle_lost _ _ _ _ _ c.loop-k.k from c.loop-k.lost c.match-steal.lost inv.deques w.in-Lost.ensures.deques;
        taken = grew_on _ _ _ None inv.taken w.in-Lost.ensures.taken;
      }
    ]

pub returns-else-lost-clause-deques : goal.returns-else-lost-clause-deques
returns-else-lost-clause-deques g c =
    let inv = c.loop-k.invariant in takes_none _ _ _ _ c.loop-k.k c.loop-k.lost (omega (arith, inv.is_number, inv.from_one)) (omega (arith, inv.is_number, inv.is_hands, inv.to_hands)) (omega (arith, inv.is_hands, c.loop-k-test.false)) inv.deques
