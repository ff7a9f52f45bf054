-- The binary search for one coordinate, and the row of these searches.
use Rattle.std.proofs.Common.{◌≡◌, inl, inr, ℕ, zero, suc, ◌+◌, ◌-◌, ◌*◌, ◌/◌, ◌<◌, ◌≤◌, ◌==◌, Bool, true, false, List, [], ◌∷◌, ◌++◌, Some, length, get_or, set, take, drop, replicate, refl, sym, ◌∙◌, ap, subst, append_assoc, arith}
use Rattle.std.proofs.lemmas.List.{append-nil, take_all, length-take-le, length-append}
use Rattle.std.specs.Prelude.{leb}
use Rattle.std.proofs.lemmas.Bool.{cases_lt}
use Rattle.bp_base.specs.declared.path.Step.{Step}
use Rattle.bp_base.specs.declared.point.Point.{Point}
use Rattle.bp_base.specs.declared.point.Sheet.{Sheet}
use Rattle.bp_base.specs.Limits.{most_number}
use Rattle.bp_base.specs.Tree.{TreeValue, leaf_count}
use Rattle.bp_metric.specs.Metric.{IsSheet}
use Rattle.bp_metric.specs.Steady.{IsSteady}
use Rattle.bp_steady.specs.Bounds.{BoundsValue}
use Rattle.bp_steady.specs.Questions.{asked, asked_from, asked_within, coordinates, ends, question, questions}
use Rattle.bp_steady.specs.Searching.{AreBounds, AreUnder, HasPlacing, IsAnswered, IsFound, NoPlacing, StandsAt, asked_at}
use Rattle.bp_steady.specs.Sums.{AreInTree, HavePaths, IsMAtLeast}
use Rattle.bp_steady.specs.declared.searching.Answer.TheVariants.{Yes, No, Spent}
use Rattle.bp_steady.proofs.Coords.{ends_each, ends_small, same_points}
use Rattle.bp_steady.proofs.Questioned.{are_bounds, below_ends, each_coordinate, has_placing_most, high_here, low_after, no_placing_more}
use Rattle.bp_steady.proofs.Summed.{asked_lower, asked_upper, drop_one, fixed_high, fixed_low, have_both, have_first, have_none, set_question}

module _ (T : TreeValue) (G : Sheet) (S : ℕ) (P : List Point) (c : ℕ) where
  abbrev a : List ℕ
  a = coordinates P

  abbrev e : List ℕ
  e = ends G S (leaf_count T)

  -- the coordinate at c is from l to h; so many paths are examined for the questions asked so far
  pub record IsLooking (before left : ℕ) (b : BoundsValue) (l h : ℕ) : Type 0 where
    pub low_is : l ≤ get_or a c 0
    pub high_is : get_or a c 0 ≤ h
    pub ended : h ≤ get_or e c 0
    pub x : ℕ
    pub bounds : b ≡ question a e c x
    pub done : List BoundsValue
    pub k : ℕ
    pub enough : h ≤ l + k
    pub split : asked a e c 0 (get_or e c 0) ≡ done ++ asked_within k a e c l h
    pub m : ℕ
    pub paths : HavePaths T done m
    pub count : m + left ≡ before

  module _ (steady : IsSteady T G S P) (within : c < 2 * leaf_count T) where
    within_e : c < length e
    within_e = omega (arith, within, ends_each G S (leaf_count T))

    within_a : c < length a
    within_a = omega (arith, within_e, each_coordinate T G S P steady)

    pub stands_high : (b : BoundsValue) → StandsAt T G S P c b → b.high ≡ (question a e c (get_or e c 0)).high
    stands_high b stands = stands.1 ∙ ap (λ (l : List ℕ). take c a ++ l) (drop_one e c within_e)

    pub looking_start : (left h : ℕ) (b : BoundsValue) → StandsAt T G S P c b → h ≡ get_or b.high c 0 → IsLooking left left b 0 h
    looking_start left h b stands h_is =
        let high = stands_high b stands in
        let end : h ≡ get_or e c 0 = h_is ∙ ap (λ (l : List ℕ). get_or l c 0) high ∙ high_here a e c (get_or e c 0) (each_coordinate T G S P steady) within_e in
        record {
          low_is = omega arith;
          high_is = omega (arith, end, below_ends T G S P steady c);
          ended = omega (arith, end);
          x = get_or e c 0;
          bounds = λ i. record { low = stands.0 i; high = high i };
          done = [];
          k = get_or e c 0 - 0;
          enough = omega (arith, end);
          split = ap (λ (m : ℕ). asked_within (get_or e c 0 - 0) a e c 0 m) (sym end);
          m = 0;
          paths = have_none T [];
          count = omega arith;
        }

    question_high : (v : ℕ) → c < length (question a e c v).high
    question_high v =
        let taken : length (take c a) ≡ c = length-take-le c a (omega (arith, within_a)) in
        omega (arith, taken, length-append (take c a) (v ∷ drop (c + 1) e))

    pub high_room : (b : BoundsValue) (v : ℕ) → b.high ≡ (question a e c v).high → c < length b.high
    high_room b v is = omega (arith, ap length is, question_high v)

    question_low : (v : ℕ) → c < length (question a e c v).low
    question_low v =
        let taken : length (take c a) ≡ c = length-take-le c a (omega (arith, within_a)) in
        omega (arith, taken, length-append (take c a) (replicate {A = ℕ} (length e - c) 0), zeros_each (length e - c), within_e)
      where
        zeros_each : (m : ℕ) → length (replicate {A = ℕ} m 0) ≡ m
        zeros_each zero = refl
        zeros_each (suc m) = omega (arith, zeros_each m)

    pub found_room : (before left v : ℕ) (new : BoundsValue) → IsFound T G S P c before left new (Some v) → (c < length new.low) × (c < length new.high)
    found_room before left v new is = (
      omega (arith, ap (λ (q : BoundsValue). length q.low) is.1.1, question_low is.1.0),
      omega (arith, ap (λ (q : BoundsValue). length q.high) is.1.1, question_high is.1.0),
    )

    -- the low number is no more than what is found
    pub found_low : (before left v : ℕ) (new : BoundsValue) → IsFound T G S P c before left new (Some v) → get_or new.low c 0 ≤ v
    found_low before left v new is =
        omega (arith, ap (λ (q : BoundsValue). get_or q.low c 0) is.1.1, low_after a e c is.1.0 (each_coordinate T G S P steady) within_e c (omega arith))

    -- the bounds of the next question
    pub next_bounds : (before left : ℕ) (b new : BoundsValue) (l h v : ℕ) → IsLooking before left b l h → new ≡ record { low = b.low; high = set b.high c v } → new ≡ question a e c v
    next_bounds before left b new l h v is new_is =
        new_is
        ∙ ap (λ (q : BoundsValue). record { low = q.low; high = set q.high c v }) is.bounds
        ∙ (λ i. record { low = (question a e c v).low; high = set_question a e c is.x v within_a i })

    pub next_sound : (new : BoundsValue) (v : ℕ) → IsSheet G → S ≤ most_number → new ≡ question a e c v → v ≤ get_or e c 0 → AreBounds T new
    next_sound new v sheet small new_is most =
        subst (AreBounds T) (sym new_is) (are_bounds a e c v (each_coordinate T G S P steady) within_e T (ends_each G S (leaf_count T)) most (below_ends T G S P steady) (λ k. ends_small G S (leaf_count T) k sheet small))

    module _ (before left after : ℕ) (b new : BoundsValue) (l h : ℕ) (is : IsLooking before left b l h) (less : l < h) (new_is : new ≡ question a e c ((l + h) / 2)) where
      abbrev v : ℕ
      v = (l + h) / 2

      abbrev q : BoundsValue
      q = question a e c v

      most : v ≤ get_or e c 0
      most = omega (arith, less, is.ended)

      here : (paths : List (List Step)) → AreUnder T new [] paths → AreInTree T q paths
      here paths are = subst (λ (r : BoundsValue). AreInTree T r paths) new_is are.in_tree

      pub looking_yes : IsAnswered (AreUnder T new []) T new [] left after Yes → IsLooking before after new l v
      looking_yes answer = go is.k is.enough is.split
        where
          at_most : get_or a c 0 ≤ v
          at_most = has_placing_most T G S P steady c v within_e most (subst (HasPlacing T) new_is answer.0)

          go : (k : ℕ) → h ≤ l + k → asked a e c 0 (get_or e c 0) ≡ is.done ++ asked_within k a e c l h → IsLooking before after new l v
          go zero enough split = absurd (omega (arith, less, enough))
          go (suc k) enough split = record {
            low_is = is.low_is;
            high_is = at_most;
            ended = most;
            x = v;
            bounds = new_is;
            done = is.done ++ q ∷ [];
            k = k;
            enough = omega (arith, enough, less);
            split =
                split
                ∙ ap (λ (r : List BoundsValue). is.done ++ r) (asked_lower a e c k l h less at_most)
                ∙ sym (append_assoc is.done (q ∷ []) (asked_within k a e c l v));
            m = is.m + length answer.1.0;
            paths = have_both T is.done (q ∷ []) is.m (length answer.1.0) is.paths (have_first T q [] answer.1.0 (length answer.1.0) (here answer.1.0 answer.1.1) refl);
            count = omega (arith, is.count, answer.1.2);
          }

      pub looking_no : IsAnswered (AreUnder T new []) T new [] left after No → IsLooking before after new (v + 1) h
      looking_no answer = go is.k is.enough is.split
        where
          above : v < get_or a c 0
          above = no_placing_more T G S P steady c v within_e most (subst (λ (r : BoundsValue). NoPlacing T r []) new_is answer.0)

          go : (k : ℕ) → h ≤ l + k → asked a e c 0 (get_or e c 0) ≡ is.done ++ asked_within k a e c l h → IsLooking before after new (v + 1) h
          go zero enough split = absurd (omega (arith, less, enough))
          go (suc k) enough split = record {
            low_is = omega (arith, above);
            high_is = is.high_is;
            ended = is.ended;
            x = v;
            bounds = new_is;
            done = is.done ++ q ∷ [];
            k = k;
            enough = omega (arith, enough, less);
            split =
                split
                ∙ ap (λ (r : List BoundsValue). is.done ++ r) (asked_upper a e c k l h less above)
                ∙ sym (append_assoc is.done (q ∷ []) (asked_within k a e c (v + 1) h));
            m = is.m + length answer.1.0;
            paths = have_both T is.done (q ∷ []) is.m (length answer.1.0) is.paths (have_first T q [] answer.1.0 (length answer.1.0) (here answer.1.0 answer.1.1) refl);
            count = omega (arith, is.count, answer.1.2);
          }

      pub looking_spent : IsAnswered (AreUnder T new []) T new [] left after Spent → HavePaths T (asked_at T G S P c) (before + 1)
      looking_spent answer = go is.k is.enough is.split
        where
          there : (rest : List BoundsValue) → asked a e c 0 (get_or e c 0) ≡ is.done ++ q ∷ rest → HavePaths T (asked a e c 0 (get_or e c 0)) (before + 1)
          there rest split =
              let sum : is.m + (left + 1) ≡ before + 1 = omega (arith, is.count) in
              subst (λ (bs : List BoundsValue). HavePaths T bs (before + 1)) (sym split)
              (subst (HavePaths T (is.done ++ q ∷ rest)) sum
              (have_both T is.done (q ∷ rest) is.m (left + 1) is.paths (have_first T q rest answer.0 (left + 1) (here answer.0 answer.1) (sym answer.2))))

          go : (k : ℕ) → h ≤ l + k → asked a e c 0 (get_or e c 0) ≡ is.done ++ asked_within k a e c l h → HavePaths T (asked a e c 0 (get_or e c 0)) (before + 1)
          go zero enough split = absurd (omega (arith, less, enough))
          go (suc k) enough split = elim (cases_lt v (get_or a c 0)) [
            | inl above ↦ there (asked_within k a e c (v + 1) h) (split ∙ ap (λ (r : List BoundsValue). is.done ++ r) (asked_upper a e c k l h less above))
            | inr at_most ↦ there (asked_within k a e c l v) (split ∙ ap (λ (r : List BoundsValue). is.done ++ r) (asked_lower a e c k l h less at_most))
          ]

  abbrev whole : ℕ → ℕ → ℕ → Bool → List BoundsValue
  whole k l h v = elim v [
    | true ↦ []
    | false ↦
        question a e c ((l + h) / 2)
        ∷ (elim (leb (get_or a c 0) ((l + h) / 2)) [
          | true ↦ asked_within k a e c l ((l + h) / 2)
          | false ↦ asked_within k a e c ((l + h) / 2 + 1) h
        ])
  ]

  none_asked : (k l h : ℕ) → l ≡ h → asked_within k a e c l h ≡ []
  none_asked zero l h same = refl
  none_asked (suc k) l h same =
      let yes : (l == h) ≡ true = grind arith in
      ap (whole k l h) yes

  -- no number but one is left
  pub found : (before left : ℕ) (b : BoundsValue) (l h : ℕ) → IsLooking before left b l h → h ≤ l → IsFound T G S P c before left b (Some l)
  found before left b l h is past =
      let same : l ≡ h = omega (arith, is.low_is, is.high_is, past) in
      let all : asked a e c 0 (get_or e c 0) ≡ is.done = is.split ∙ ap (λ (r : List BoundsValue). is.done ++ r) (none_asked is.k l h same) ∙ append-nil is.done in (
        omega (arith, is.low_is, is.high_is, past),
        (is.x, is.bounds),
        (is.m, subst (λ (bs : List BoundsValue). HavePaths T bs is.m) (sym all) is.paths, is.count),
      )

-- All coordinates in turn.

pub record IsGoing (T : TreeValue) (G : Sheet) (S budget c left : ℕ) (b : BoundsValue) : Type 0 where
  pub P : List Point
  pub steady : IsSteady T G S P
  pub stands : StandsAt T G S P c b
  pub done : List BoundsValue
  pub k : ℕ
  pub rest : c + k ≡ length (ends G S (leaf_count T))
  pub split : questions T G S P ≡ done ++ asked_from k (coordinates P) (ends G S (leaf_count T)) c
  pub m : ℕ
  pub paths : HavePaths T done m
  pub count : m + left ≡ budget

module _ (T : TreeValue) (G : Sheet) (S : ℕ) where
  pub going_start : (budget : ℕ) (b : BoundsValue) (P : List Point) → IsSteady T G S P → b.low ≡ replicate (2 * leaf_count T) 0 → b.high ≡ ends G S (leaf_count T) → IsGoing T G S budget 0 budget b
  going_start budget b P steady low high =
      let each : 2 * leaf_count T ≡ length (ends G S (leaf_count T)) - 0 = omega (arith, ends_each G S (leaf_count T)) in
      record {
        P = P;
        steady = steady;
        stands = (low ∙ ap (λ (m : ℕ). replicate {A = ℕ} m 0) each, high);
        done = [];
        k = length (ends G S (leaf_count T));
        rest = omega arith;
        split = refl;
        m = 0;
        paths = have_none T [];
        count = omega arith;
      }

  module _ (budget c left after : ℕ) (b : BoundsValue) (is : IsGoing T G S budget c left b) (within : c < 2 * leaf_count T) where
    abbrev ac : List ℕ
    ac = coordinates is.P

    abbrev ec : List ℕ
    ec = ends G S (leaf_count T)

    pub going_more : (v : ℕ) (new next : BoundsValue) → IsFound T G S is.P c left after new (Some v) → next ≡ record { low = set new.low c v; high = set new.high c v } → IsGoing T G S budget (c + 1) after next
    going_more v new next found_it next_is = go is.k is.rest is.split
      where
        there : c < length ec
        there = omega (arith, within, ends_each G S (leaf_count T))

        there_a : c < length ac
        there_a = omega (arith, there, each_coordinate T G S is.P is.steady)

        as_fixed : next ≡ record { low = set (question ac ec c found_it.1.0).low c v; high = set (question ac ec c found_it.1.0).high c v }
        as_fixed = next_is ∙ ap (λ (q : BoundsValue). record { low = set q.low c v; high = set q.high c v }) found_it.1.1

        stands_next : StandsAt T G S is.P (c + 1) next
        stands_next = (
          ap (λ (q : BoundsValue). q.low) as_fixed ∙ fixed_low ac ec c v there_a found_it.0 found_it.1.0 there,
          ap (λ (q : BoundsValue). q.high) as_fixed ∙ fixed_high ac ec c v there_a found_it.0 found_it.1.0,
        )

        go : (k : ℕ) → c + k ≡ length ec → questions T G S is.P ≡ is.done ++ asked_from k ac ec c → IsGoing T G S budget (c + 1) after next
        go zero rest split = absurd (omega (arith, rest, there))
        go (suc k) rest split = record {
          P = is.P;
          steady = is.steady;
          stands = stands_next;
          done = is.done ++ asked_at T G S is.P c;
          k = k;
          rest = omega (arith, rest);
          split = split ∙ sym (append_assoc is.done (asked_at T G S is.P c) (asked_from k ac ec (c + 1)));
          m = is.m + found_it.2.0;
          paths = have_both T is.done (asked_at T G S is.P c) is.m found_it.2.0 is.paths found_it.2.1;
          count = omega (arith, is.count, found_it.2.2);
        }

    pub going_spent : HavePaths T (asked_at T G S is.P c) (left + 1) → IsMAtLeast T G S (budget + 1)
    going_spent have = (is.P, is.steady, go is.k is.rest is.split)
      where
        go : (k : ℕ) → c + k ≡ length ec → questions T G S is.P ≡ is.done ++ asked_from k ac ec c → HavePaths T (questions T G S is.P) (budget + 1)
        go zero rest split = absurd (omega (arith, rest, within, ends_each G S (leaf_count T)))
        go (suc k) rest split =
            let sum : is.m + (left + 1 + 0) ≡ budget + 1 = omega (arith, is.count) in
            subst (λ (bs : List BoundsValue). HavePaths T bs (budget + 1)) (sym split)
            (subst (HavePaths T (is.done ++ (asked_at T G S is.P c ++ asked_from k ac ec (c + 1)))) sum
            (have_both T is.done (asked_at T G S is.P c ++ asked_from k ac ec (c + 1)) is.m (left + 1 + 0) is.paths
            (have_both T (asked_at T G S is.P c) (asked_from k ac ec (c + 1)) (left + 1) 0 have (have_none T (asked_from k ac ec (c + 1))))))

  -- at the end all coordinates are fixed
  pub going_low : (budget c left : ℕ) (b : BoundsValue) (is : IsGoing T G S budget c left b) → 2 * leaf_count T ≤ c → b.low ≡ coordinates is.P
  going_low budget c left b is all =
      let none : length (ends G S (leaf_count T)) - c ≡ 0 = omega (arith, all, ends_each G S (leaf_count T)) in
      is.stands.0
      ∙ ap (λ (m : ℕ). take c (coordinates is.P) ++ replicate {A = ℕ} m 0) none
      ∙ append-nil (take c (coordinates is.P))
      ∙ take_all c (coordinates is.P) (omega (arith, all, each_coordinate T G S is.P is.steady, ends_each G S (leaf_count T)))

  pub going_each : (budget c left : ℕ) (b : BoundsValue) (is : IsGoing T G S budget c left b) → 2 * leaf_count T ≤ c → length b.low ≡ 2 * leaf_count T
  going_each budget c left b is all =
      omega (arith, ap length (going_low budget c left b is all), each_coordinate T G S is.P is.steady, ends_each G S (leaf_count T))

  pub going_done : (budget c left : ℕ) (b : BoundsValue) (is : IsGoing T G S budget c left b) → 2 * leaf_count T ≤ c → (points : List Point) → coordinates points ≡ b.low → IsSteady T G S points
  going_done budget c left b is all points same =
      subst (IsSteady T G S) (sym (same_points points is.P (same ∙ going_low budget c left b is all))) is.steady
