-- Each step on the side table keeps its rule, and what the last word then is.
use Rattle.std.proofs.Common.{◌≡◌, ℕ, ◌+◌, ◌<◌, ◌≤◌, min, List, [], ◌∷◌, ◌++◌, length, set, slice_set, slice_index, get_or, All, sym, refl, ap, ◌∙◌, subst, inl, inr, arith, le_refl}
use Rattle.std.specs.List.{sum_by}
use Rattle.std.proofs.lemmas.List.Sums.{sum_by-cons, sum_by-append, sum_by_push}
use mathlib.Core.Option.{some, some-injective}
use mathlib.Core.Logic.{dite}
use native.Mathlib.Decide.{ℕ_discrete, dec_le}
use lib.ListN.{get_elem?}
use Rattle.atomic_table.specs.Table.{State, Me, Allows, Splits, Joins, keeps, Final, Seen}
use Rattle.bp_base.proofs.Bags.{total_set, total_at, sum_by-flat_map}
use Rattle.bp_incumbent.specs.Entries.{one_at, times}
use Rattle.bp_incumbent.specs.declared.side.SideKey.{SideKey}
use Rattle.bp_incumbent.specs.declared.side.Offers.{Offers}
use Rattle.bp_incumbent.specs.declared.side.SideView.{SideView}
use Rattle.bp_incumbent.specs.Side.{offers_of, sides_of, all_seen, all_offers, KeepsSide, SideHolds, side_view, offers, unoffered, dealt_rest, dealt_one, noted, both, none, one_more, with_offer, with_seen, NamesOne, Loaded, Lowered, IsLeast, IsKnown}
use Rattle.bp_incumbent.proofs.Entries.{cut, only, only_changed, unchanged, part_le, new_numbers, new_none, all_here, ones_up_to, one_same, one_other, times-append, times_push, none_below, contained}

-- What a view adds to each sum.

abbrev numbers : (ℕ → ℕ) → SideView → ℕ
numbers h v = sum_by (λ (p : Offers). h p.number) v.passes

abbrev seen : ℕ → SideView → ℕ
seen y v = times y v.seen

abbrev offered : ℕ → SideView → ℕ
offered y v = sum_by (λ (p : Offers). times y p.sides) v.passes

offered_is : (y : ℕ) (v : SideView) → times y (offers_of v) ≡ offered y v
offered_is y v = sum_by-flat_map (one_at y) (λ (p : Offers). p.sides) v.passes

-- the word is at most each side that a view has
word_below : (o p word i : ℕ) (views : List SideView) (v : SideView) → KeepsSide o p word views → get_elem? views i ≡ some v → All (λ y. word ≤ y) (sides_of v)
word_below o p word i views v kept at = none_below word (sides_of v) (λ y lt.
    omega (arith, kept.lower y lt, times-append y v.seen (offers_of v), offered_is y v, total_at (seen y) views i v at, total_at (offered y) views i v at))

sees : (o p word i : ℕ) (views : List SideView) (v : SideView) → KeepsSide o p word views → get_elem? views i ≡ some v → KeepsSide o p word (set views i (with_seen v word))
sees o p word i views v kept at =
    let w = with_seen v word in
    let s : (y : ℕ) → all_seen y (set views i w) ≡ all_seen y views + one_at y word = λ y. omega (arith, total_set (seen y) views i v w at, times_push y v.seen word) in
    let f : (y : ℕ) → all_offers y (set views i w) ≡ all_offers y views = λ y. omega (arith, total_set (offered y) views i v w at) in
    record {
      numbers = λ h. omega (arith, total_set (numbers h) views i v w at, kept.numbers h);
      lower = λ y lt. omega (arith, s y, f y, kept.lower y lt, one_other y word (λ e. omega arith));
      start = kept.start;
      word_from = omega (arith, f word, kept.word_from);
      seen_from = λ y more. dite (ℕ_discrete word y)
          (λ e. subst (λ (k : ℕ). 0 < one_at k o + all_offers k (set views i w)) e (omega (arith, f word, kept.word_from)))
          (λ ne. omega (arith, f y, kept.seen_from y (omega (arith, more, s y, one_other y word ne))));
    }

-- The one word of a table whose rule holds.

abbrev the_word : {S : Type 0} → State S SideView → ℕ
the_word s = slice_index s.words 0

kept_of : {S : Type 0} (key : SideKey) (s : State S SideView) → SideHolds key s → KeepsSide key.opening key.passes (the_word s) s.views
kept_of key s holds = subst (λ (k : ℕ). KeepsSide key.opening key.passes k s.views) (sym (ap (λ (l : List ℕ). slice_index l 0) holds.1)) holds.2

word_set : {S : Type 0} (key : SideKey) (s : State S SideView) (n : ℕ) → SideHolds key s → slice_set s.words 0 n ≡ n ∷ []
word_set key s n holds = ap (λ (l : List ℕ). slice_set l 0 n) holds.1

pub sees_allowed : {S : Type 0} (key : SideKey) (slots id : ℕ) (me : Me S SideView) → Allows (SideHolds key) slots id me 0 (λ n. n) (λ found after. Loaded me found after)
sees_allowed key slots id me s holds _ at _ =
    let n : ℕ = the_word s in
    let kept = kept_of key s holds in
    (with_seen me.0 n, keeps, tt, (n, word_set key s n holds, sees key.opening key.passes n id s.views me.0 kept at), (refl, word_below key.opening key.passes n id s.views me.0 kept at))

lowers : (o p word i k : ℕ) (views : List SideView) (v : SideView) → NamesOne v → KeepsSide o p word views → get_elem? views i ≡ some v → KeepsSide o p (min word k) (set views i (with_seen (with_offer v k) word))
lowers o p word i k views v named kept at =
    let w = with_seen (with_offer v k) word in
    let s : (y : ℕ) → all_seen y (set views i w) ≡ all_seen y views + one_at y word = λ y. omega (arith, total_set (seen y) views i v w at, times_push y v.seen word) in
    let f : (y : ℕ) → all_offers y (set views i w) ≡ all_offers y views + one_at y k = λ y.
    let sides : Offers → ℕ = λ (p : Offers). times y p.sides in
    omega (arith, total_set (offered y) views i v w at, only sides v.passes named.0 named.1, only_changed sides (one_more k) v.passes named.0 named.1, times_push y named.0.sides k) in
    record {
      numbers = λ h. omega (arith, total_set (numbers h) views i v w at, unchanged (λ (p : Offers). h p.number) (one_more k) (λ p. refl) v.passes, kept.numbers h);
      lower = λ y lt. omega (arith, s y, f y, kept.lower y (omega arith), one_other y word (λ e. omega arith), one_other y k (λ e. omega arith));
      start = omega (arith, kept.start);
      word_from = dite (dec_le word k)
          (λ le. let e : word ≡ min word k = omega arith in subst (λ (m : ℕ). 0 < one_at m o + all_offers m (set views i w)) e (omega (arith, f word, kept.word_from)))
          (λ gt. let e : k ≡ min word k = omega arith in subst (λ (m : ℕ). 0 < one_at m o + all_offers m (set views i w)) e (omega (arith, f k, one_same k)));
      seen_from = λ y more. dite (ℕ_discrete word y)
          (λ e. subst (λ (m : ℕ). 0 < one_at m o + all_offers m (set views i w)) e (omega (arith, f word, kept.word_from)))
          (λ ne. omega (arith, f y, kept.seen_from y (omega (arith, more, s y, one_other y word ne))));
    }

pub lowers_allowed : {S : Type 0} (key : SideKey) (slots id k : ℕ) (me : Me S SideView) → NamesOne me.0 → Allows (SideHolds key) slots id me 0 (λ n. min n k) (λ found after. Lowered me k found after)
lowers_allowed key slots id k me named s holds _ at _ =
    let n : ℕ = the_word s in
    let kept = kept_of key s holds in
    (with_seen (with_offer me.0 k) n, keeps, tt, (min n k, word_set key s (min n k) holds, lowers key.opening key.passes n id k s.views me.0 named kept at), (refl, word_below key.opening key.passes n id s.views me.0 kept at))

pub deals : {S : Type 0} (key : SideKey) (id : ℕ) (v : SideView) → Splits {S = S} (SideHolds key) id v (dealt_rest v) (dealt_one v)
deals key id v s holds at =
    let l = dealt_rest v in let r = dealt_one v in let vs = set s.views id l in let kept = holds.2 in
    let sn : (y : ℕ) → all_seen y (vs ++ r ∷ []) ≡ all_seen y s.views + seen y v = λ y. omega (arith, total_set (seen y) s.views id v l at, sum_by_push (seen y) vs r) in
    let of : (y : ℕ) → all_offers y (vs ++ r ∷ []) ≡ all_offers y s.views = λ y. omega (arith, total_set (offered y) s.views id v l at, sum_by_push (offered y) vs r, cut (λ (p : Offers). times y p.sides) v.passes) in (
      holds.0,
      holds.1,
      record {
        numbers = λ h. omega (arith, total_set (numbers h) s.views id v l at, sum_by_push (numbers h) vs r, cut (λ (p : Offers). h p.number) v.passes, kept.numbers h);
        lower = λ y lt. omega (arith, sn y, of y, kept.lower y lt, total_at (seen y) s.views id v at);
        start = kept.start;
        word_from = omega (arith, of holds.0, kept.word_from);
        seen_from = λ y more. omega (arith, of y, kept.seen_from y (omega (arith, more, sn y, total_at (seen y) s.views id v at)));
      },
    )

pub copies : {S : Type 0} (key : SideKey) (id : ℕ) (v : SideView) → Splits {S = S} (SideHolds key) id v v (noted v)
copies key id v s holds at =
    let r = noted v in let vs = set s.views id v in let kept = holds.2 in
    let sn : (y : ℕ) → all_seen y (vs ++ r ∷ []) ≡ all_seen y s.views + (seen y v + offered y v) = λ y. omega (arith, total_set (seen y) s.views id v v at, sum_by_push (seen y) vs r, times-append y v.seen (offers_of v), offered_is y v) in
    let of : (y : ℕ) → all_offers y (vs ++ r ∷ []) ≡ all_offers y s.views = λ y. omega (arith, total_set (offered y) s.views id v v at, sum_by_push (offered y) vs r) in (
      holds.0,
      holds.1,
      record {
        numbers = λ h. omega (arith, total_set (numbers h) s.views id v v at, sum_by_push (numbers h) vs r, kept.numbers h);
        lower = λ y lt. omega (arith, sn y, of y, kept.lower y lt, total_at (seen y) s.views id v at, total_at (offered y) s.views id v at);
        start = kept.start;
        word_from = omega (arith, of holds.0, kept.word_from);
        seen_from = λ y more. dite (dec_le 1 (all_seen y s.views)) (λ le. omega (arith, of y, kept.seen_from y le))
            (λ gt. omega (arith, of y, more, sn y, total_at (seen y) s.views id v at, total_at (offered y) s.views id v at));
      },
    )

pub adds : {S : Type 0} (key : SideKey) (id : ℕ) (v : SideView) (other : ℕ) (w : SideView) → Joins {S = S} (SideHolds key) id v other w (both v w) none
adds key id v other w s holds at _ at_other =
    let b = both v w in let vs = set s.views id b in let kept = holds.2 in
    let sn : (y : ℕ) → all_seen y (set vs other none) ≡ all_seen y s.views = λ y. omega (arith, total_set (seen y) s.views id v b at, total_set (seen y) vs other w none at_other, times-append y v.seen w.seen) in
    let of : (y : ℕ) → all_offers y (set vs other none) ≡ all_offers y s.views = λ y.
    omega (arith, total_set (offered y) s.views id v b at, total_set (offered y) vs other w none at_other, sum_by-append (λ (p : Offers). times y p.sides) v.passes w.passes) in (
      holds.0,
      holds.1,
      record {
        numbers = λ h. omega (arith, total_set (numbers h) s.views id v b at, total_set (numbers h) vs other w none at_other, sum_by-append (λ (p : Offers). h p.number) v.passes w.passes, kept.numbers h);
        lower = λ y lt. omega (arith, sn y, of y, kept.lower y lt);
        start = kept.start;
        word_from = omega (arith, of holds.0, kept.word_from);
        seen_from = λ y more. omega (arith, of y, kept.seen_from y (omega (arith, more, sn y)));
      },
    )

-- The end, where one view stands for all passes.

last : {S : Type 0} (key : SideKey) (id : ℕ) (v : SideView) (ws : List ℕ) (xs : List S) (n : ℕ) (end : Final {S = S} (Seen (SideHolds key) id v) ws xs) → get_elem? ws 0 ≡ some n → KeepsSide key.opening key.passes n end.0.views
last key id v ws xs n end is =
    let s = end.0 in let holds = end.1.0 in
    let e : holds.0 ≡ n = some-injective holds.0 n (sym (ap (λ (l : List ℕ). get_elem? l 0) holds.1) ∙ ap (λ (l : List ℕ). get_elem? l 0) end.2 ∙ is) in
    subst (λ (k : ℕ). KeepsSide key.opening key.passes k s.views) e holds.2

here : (o p n y id : ℕ) (views : List SideView) (v : SideView) → KeepsSide o p n views → length v.passes ≡ p → get_elem? views id ≡ some v → all_offers y views ≡ times y (offers_of v)
here o p n y id views v kept all at =
    all_here (λ (v : SideView). v.passes) (λ (p : Offers). times y p.sides) views id v (kept.numbers (λ x. 1) ∙ ones_up_to p ∙ sym all) at ∙ sym (offered_is y v)

known : (o y : ℕ) (v : SideView) → 0 < one_at y o + times y (offers_of v) → IsKnown o (offers_of v) y
known o y v more = dite (ℕ_discrete o y) (λ e. inl (sym e)) (λ ne. inr (contained y (offers_of v) (omega (arith, more, one_other y o ne))))

pub ends_least : {S : Type 0} (key : SideKey) (id : ℕ) (v : SideView) (ws : List ℕ) (xs : List S) (n : ℕ) → Final {S = S} (Seen (SideHolds key) id v) ws xs → length v.passes ≡ key.passes → get_elem? ws 0 ≡ some n
    → IsLeast n key.opening (offers_of v)
ends_least key id v ws xs n end all is =
    let kept = last key id v ws xs n end is in let views = end.0.views in let at = end.1.1 in
    record {
      below_opening = kept.start;
      below_offers = none_below n (offers_of v) (λ y lt. omega (arith, kept.lower y lt, total_at (offered y) views id v at, offered_is y v));
      is_one = known key.opening n v (omega (arith, kept.word_from, here key.opening key.passes n n id views v kept all at));
    }

pub ends_seen : {S : Type 0} (key : SideKey) (id : ℕ) (v : SideView) (ws : List ℕ) (xs : List S) (n : ℕ) → Final {S = S} (Seen (SideHolds key) id v) ws xs → length v.passes ≡ key.passes → get_elem? ws 0 ≡ some n
    → All (IsKnown key.opening (offers_of v)) v.seen
ends_seen key id v ws xs n end all is k d lt =
    let kept = last key id v ws xs n end is in let views = end.0.views in let at = end.1.1 in
    let y : ℕ = get_or v.seen k d in
    let some_times : 0 < all_seen y views = omega (arith, total_at (seen y) views id v at, part_le (one_at y) v.seen k d lt, one_same y) in
    known key.opening y v (omega (arith, kept.seen_from y some_times, here key.opening key.passes n y id views v kept all at))

-- The beginning.

pub begins : (o p : ℕ) → KeepsSide o p o (side_view (unoffered 1 p) (o ∷ []) ∷ [])
begins o p =
    let v = side_view (unoffered 1 p) (o ∷ []) in
    let entry : ℕ → Offers = λ number. offers number [] in
    let sn : (y : ℕ) → all_seen y (v ∷ []) ≡ one_at y o = λ y. omega (arith, sum_by-cons (seen y) v [], sum_by-cons (one_at y) o []) in
    let of : (y : ℕ) → all_offers y (v ∷ []) ≡ 0 = λ y. omega (arith, sum_by-cons (offered y) v [], new_none (λ (q : Offers). times y q.sides) entry 1 p (λ i. refl)) in
    record {
      numbers = λ h. omega (arith, sum_by-cons (numbers h) v [], new_numbers (λ (q : Offers). h q.number) entry h 1 p (λ i. refl));
      lower = λ y lt. omega (arith, sn y, of y, one_other y o (λ e. omega arith));
      start = le_refl o;
      word_from = omega (arith, one_same o);
      seen_from = λ y more. omega (arith, more, sn y);
    }
