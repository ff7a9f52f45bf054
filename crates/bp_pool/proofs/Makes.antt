-- A new hand has done nothing.
use Rattle.std.proofs.Common.{get_or, ◌≡◌, ℕ, zero, suc, ◌-◌, ◌^◌, ◌<◌, ◌≤◌, min, List, [], ◌∷◌, ◌++◌, Some, length, slice_get, slice_index, All, sym, refl, ap, ◌∙◌, subst, arith}
use Rattle.std.specs.Prelude.{replicate}
use Rattle.std.specs.List.{flat_map, range_with_len}
use Rattle.std.proofs.lemmas.List.{length-map}
use Rattle.std.proofs.lemmas.List.FromFn.{length-range_with_len}
use Rattle.std.proofs.lemmas.List.Concat.{flat_map-cons}
use Rattle.crossbeam_deque.specs.Handles.{worker_view, worker_deque}
use Rattle.bp_base.specs.Limits.{most_hands}
use Rattle.bp_base.specs.declared.record.Task.{Task}
use Rattle.bp_pool.specs.declared.deque.Deeds.{Deeds}
use Rattle.bp_pool.specs.declared.hand.Theft.{Theft}
use Rattle.bp_pool.specs.declared.hand.Hand.TheInside.{Inside}
use Rattle.bp_pool.specs.Shares.{untouched, pushed_of, IsTaskOf}
use Rattle.bp_pool.specs.Tries.{AreCounts}
use Rattle.bp_pool.specs.Hands.{top}
use Rattle.bp_pool.specs.Kept.{hand_view, taken_by, all_taken, deque_of, deques_of, each_of, total_of, given_to, IsTheft, IsHand}
use Rattle.bp_pool.specs.Opens.{facts_in, IsLeft, IsNewTheft, IsRow, new_hand}

nothing_taken : (n : ℕ) → flat_map (λ (d : Deeds). d.taken) (untouched n) ≡ []
nothing_taken zero = refl
nothing_taken (suc n) = nothing_taken n

taken_by_none : (each leaves : ℕ) (ts : List Theft) → All (IsNewTheft each leaves) ts → flat_map taken_by ts ≡ []
taken_by_none each leaves [] all = refl
taken_by_none each leaves (t ∷ ts) all =
    let here : taken_by t ≡ [] = ap (flat_map (λ (d : Deeds). d.taken)) (all 0 t (omega arith)).untouched_are ∙ nothing_taken each in
    flat_map-cons taken_by t ts ∙ ap (λ (l : List Task). l ++ flat_map taken_by ts) here ∙ taken_by_none each leaves ts (λ k d lt. all (suc k) d (omega (arith, lt)))

zero_counts : (n k : ℕ) → slice_index (replicate n 0) k < 2 ^ 64
zero_counts zero k = omega arith
zero_counts (suc n) zero = omega arith
zero_counts (suc n) (suc k) = zero_counts n k

zero_length : (n : ℕ) → length {A = ℕ} (replicate n 0) ≡ n
zero_length zero = refl
zero_length (suc n) = omega (arith, zero_length n)

no_counts : (l : List ℕ) (hands n : ℕ) → l ≡ replicate hands 0 → n ≡ hands → AreCounts l n
no_counts l hands n is same = subst (λ (m : List ℕ). AreCounts m n) (sym is) (zero_length hands ∙ sym same, zero_counts hands)

module _ (o : Inside) (leaves hands : ℕ) (left : IsLeft leaves 1 o.own) (row : IsRow leaves hands (deques_of o.thefts.items) o.thefts.items) where
  len : length o.thefts.items ≡ hands
  len = sym (length-map o.thefts.items (λ (t : Theft). t.place)) ∙ ap length row.places ∙ length-range_with_len 0 hands

  no_task : all_taken o ≡ []
  no_task = (λ k. flat_map (λ (d : Deeds). d.taken) (left.untouched_are k) ++ taken_by_none (each_of hands) leaves o.thefts.items row.thefts k)

  no_push : pushed_of (worker_view o.own) ≡ []
  no_push = ap (flat_map (λ (d : Deeds). d.pushed)) left.untouched_are

  pub is_hand : ((facts_in o.own).total ≡ total_of hands) × ((facts_in o.own).given ≡ given_to o.number (facts_in o.own).root) → (1 ≤ o.number) × (o.number ≤ hands) × (hands ≤ most_hands)
      → slice_get (deques_of o.thefts.items) (o.number - 1) ≡ Some (worker_deque o.own) → o.pushes ≡ 0 → o.takes ≡ 0 → o.misses.items ≡ replicate hands 0 → o.lost.items ≡ replicate hands 0 → IsHand o
  is_hand facts number place pushes takes misses lost = record {
    lifo = left.lifo;
    one = ap length left.untouched_are;
    told = record {
      total = facts.0 ∙ ap total_of (sym len);
      given = facts.1;
      thefts_are = λ k d lt. subst (λ (n : ℕ). IsTheft (each_of n) (facts_in o.own).leaves (get_or o.thefts.items k d)) (sym len) (subst (λ (n : ℕ). IsTheft (each_of hands) n (get_or o.thefts.items k d)) (sym left.leaves_are) (row.thefts k d lt).theft);
    };
    places = row.places ∙ ap (range_with_len 0) (sym len);
    number = subst (λ (n : ℕ). (1 ≤ o.number) × (o.number ≤ n) × (n ≤ most_hands)) (sym len) number;
    own_place = place;
    misses = no_counts o.misses.items hands (length o.thefts.items) misses len;
    lost = no_counts o.lost.items hands (length o.thefts.items) lost len;
    pushes = pushes ∙ sym (ap (λ (l : List Task). min (length l) top) no_push);
    takes = takes ∙ sym (ap (λ (l : List Task). min (length l) top) no_task);
    good = subst (All (IsTaskOf (facts_in o.own).leaves)) (sym no_task) (λ k d lt. absurd (omega (arith, lt)));
  }

  pub is_new : o.misses.items ≡ replicate hands 0 → o.lost.items ≡ replicate hands 0 → o.idle ≡ 0 → hand_view o ≡ new_hand (record { deques = deques_of o.thefts.items; leaves = (facts_in o.own).leaves; root = (facts_in o.own).root }) o.number
  is_new misses lost idle =
      let count : hands ≡ length (deques_of o.thefts.items) = sym (length-map o.thefts.items deque_of ∙ len) in
      let m : o.misses.items ≡ replicate (length (deques_of o.thefts.items)) 0 = misses ∙ ap (λ (n : ℕ). replicate n 0) count in
      let l : o.lost.items ≡ replicate (length (deques_of o.thefts.items)) 0 = lost ∙ ap (λ (n : ℕ). replicate n 0) count in
      λ k. record {
        pool = record { deques = deques_of o.thefts.items; leaves = (facts_in o.own).leaves; root = (facts_in o.own).root };
        number = o.number;
        pushed = no_push k;
        taken = no_task k;
        misses = m k;
        lost = l k;
        idle = idle k;
      }
