-- Closed tours over all runs are the contours.
use Rattle.std.proofs.Common.{◌≡◌, ◌≢◌, ◌⊎◌, ℕ, zero, suc, ◌+◌, ◌-◌, ◌<◌, ◌≤◌, ◌↔◌, ◌==◌, Bool, List, [], ◌∷◌, length, get_or, map, if◌then◌else◌, refl, sym, ◌∙◌, ap, subst, arith, inl, inr}
use Rattle.std.proofs.lemmas.Bool.{cases_eq, cases_order, eq-eqb, ne_eqb}
use Rattle.std.proofs.lemmas.List.{get_or_default, length-map}
use Rattle.bp_base.specs.declared.point.Point.{Point}
use Rattle.bp_base.specs.Point.{origin}
use Rattle.bp_contour.specs.declared.runs.Run.{Run}
use Rattle.bp_contour.specs.declared.way.Way.{Way}
use Rattle.bp_regions.specs.Contours.{AreContours, ComesBefore, GoesOnce, IsPlace, loop_at, next_place, turn_after, turn_at}
use Rattle.bp_regions.specs.Runs.{IsAfter, IsRun}
use Rattle.bp_contour.specs.Listed.{AreRuns, Follows, StandsBefore, run_at}
use Rattle.bp_contour.specs.Ways.{RunBy, number_of}
use Rattle.bp_contour.specs.Tours.{AreTours, Closes, tour_at}
use Rattle.bp_contour.proofs.Corners.{same_end}
use Rattle.bp_contour.proofs.Directed.{one_ahead, run_of, same_way, way_of}
use Rattle.bp_contour.proofs.Followed.{one_place}
use Rattle.bp_contour.proofs.Plane.{after_scaled, run_back, run_on, run_scaled, scaled, scaled_before, scaled_same}
use Rattle.bp_contour.proofs.Scaled.{AreSteps, Lies}

-- Lists.

get_or-map_at : {A B : Type 0} (f : A → B) (xs : List A) (i : ℕ) (d : A) → get_or (map f xs) i (f d) ≡ f (get_or xs i d)
get_or-map_at f [] i d = refl
get_or-map_at f (x ∷ xs) zero d = refl
get_or-map_at f (x ∷ xs) (suc i) d = get_or-map_at f xs i d

-- the place after k, round a tour
abbrev round_from : List ℕ → ℕ → ℕ
round_from tour k = if k + 1 == length tour then 0 else k + 1

round_at_end : (tour : List ℕ) (k : ℕ) → k + 1 ≡ length tour → round_from tour k ≡ 0
round_at_end tour k same =
    ap (λ (b : Bool). if b then 0 else k + 1) (eq-eqb (k + 1) (length tour) same)

round_within : (tour : List ℕ) (k : ℕ) → k + 1 ≢ length tour → round_from tour k ≡ k + 1
round_within tour k apart =
    ap (λ (b : Bool). if b then 0 else k + 1) (ne_eqb (k + 1) (length tour) apart)

round_in : (tour : List ℕ) (k : ℕ) → k < length tour → round_from tour k < length tour
round_in tour k less = elim (cases_eq (k + 1) (length tour)) [
  | inl same ↦ omega (arith, round_at_end tour k same, less)
  | inr apart ↦ omega (arith, round_within tour k apart, less, apart)
]

-- a closed tour goes on everywhere
goes_round : (After : ℕ → ℕ → Type 0) (start : ℕ) (tour : List ℕ) → Closes After start tour → (k : ℕ) → k < length tour → After (get_or tour k 0) (get_or tour (round_from tour k) 0)
goes_round After start tour c k less = elim (cases_eq (k + 1) (length tour)) [
  | inl same ↦
      let last : length tour - 1 ≡ k = omega (arith, same) in
      subst (λ (m : ℕ). After (get_or tour k 0) (get_or tour m 0)) (sym (round_at_end tour k same)) (subst (λ (p : ℕ). After (get_or tour k 0) p) (sym c.goes.first) (subst (λ (m : ℕ). After (get_or tour m 0) start) last c.back))
  | inr apart ↦
      subst (λ (m : ℕ). After (get_or tour k 0) (get_or tour m 0)) (sym (round_within tour k apart)) (c.goes.steps k (omega (arith, less, apart)))
]

module _ (In Held : ℕ → ℕ → Type 0) (X Y : ℕ → ℕ) (w h side : ℕ) (columns : AreSteps X w side) (rows : AreSteps Y h side) (same : (a b x y : ℕ) → Lies X w a x → Lies Y h b y → (In x y ↔ Held a b)) (In_in : (x y : ℕ) → In x y → (x < side) × (y < side)) (Held_in : (a b : ℕ) → Held a b → (a < w) × (b < h)) (rs : List Run) (are : AreRuns Held rs) where
  sc : Point → Point
  sc = scaled In Held X Y w h side columns rows same In_in Held_in

  from : ℕ → Point
  from k = sc (run_at rs k).from

  to : ℕ → Point
  to k = sc (run_at rs k).to

  real : (k : ℕ) → k < length rs → RunBy In (run_at rs k).way (from k) (to k)
  unfolding from to sc
  real k less =
      run_scaled In Held X Y w h side columns rows same In_in Held_in (run_at rs k).way (run_at rs k).from (run_at rs k).to (are.sound k less)

  -- places of runs by their points
  found : (p q : Point) → IsRun In p q → (k : ℕ) × (k < length rs) × (from k ≡ p) × (to k ≡ q)
  unfolding from to sc
  found p q run =
      let (u, r) = way_of In p q run in
      let (a, b, held, a_is, b_is) = run_back In Held X Y w h side columns rows same In_in Held_in u p q r in
      let (k, is) = are.complete u a b held in
      let there : RunBy Held u a (run_at rs k).to = subst (λ (v : Way). RunBy Held v a (run_at rs k).to) is.goes (subst (λ (s : Point). RunBy Held (run_at rs k).way s (run_at rs k).to) is.begins (are.sound k is.within)) in
      let end : (run_at rs k).to ≡ b = same_end Held u a (run_at rs k).to b there held in
      (k, is.within, ap sc is.begins ∙ a_is, ap sc end ∙ b_is)

  on_from : (k : ℕ) → k < length rs → ((run_at rs k).from.x ≤ w) × ((run_at rs k).from.y ≤ h)
  on_from k less =
      (run_on In Held X Y w h side columns rows same In_in Held_in (run_at rs k).way (run_at rs k).from (run_at rs k).to (are.sound k less)).0

  same_place : (i j : ℕ) → i < length rs → j < length rs → from i ≡ from j → to i ≡ to j → i ≡ j
  unfolding from to sc
  same_place i j i_in j_in begins ends =
      let from_is : (run_at rs i).from ≡ (run_at rs j).from = scaled_same In Held X Y w h side columns rows same In_in Held_in (run_at rs i).from (run_at rs j).from (on_from i i_in) (on_from j j_in) begins in
      let other : RunBy In (run_at rs j).way (from i) (to i) = subst (λ (p : Point). RunBy In (run_at rs j).way p (to i)) (sym begins) (subst (λ (p : Point). RunBy In (run_at rs j).way (from j) p) (sym ends) (real j j_in)) in
      one_place rs are.rising i j i_in j_in (same_way In (run_at rs i).way (run_at rs j).way (from i) (to i) (real i i_in) other) from_is

  points_in_order : (p q : Point) (n m : ℕ) → (q.x ≤ w) × (q.y ≤ h) → StandsBefore p.y p.x n q.y q.x m → ComesBefore (sc p) (sc q) ⊎ (sc p ≡ sc q)
  unfolding sc
  points_in_order p q n m q_on (inl lower) =
      inl (scaled_before In Held X Y w h side columns rows same In_in Held_in p q q_on (inl lower))
  points_in_order p q n m q_on (inr (inl (level, left))) =
      inl (scaled_before In Held X Y w h side columns rows same In_in Held_in p q q_on (inr (level, left)))
  points_in_order p q n m q_on (inr (inr (y, x, less))) =
      inr (ap (λ (k : ℕ). record { x = k; y = Y p.y }) (ap X x) ∙ ap (λ (k : ℕ). record { x = X q.x; y = k }) (ap Y y))

  -- earlier places begin at earlier points, or at the same
  in_order : (i j : ℕ) → i < j → j < length rs → ComesBefore (from i) (from j) ⊎ (from i ≡ from j)
  unfolding from
  in_order i j less within =
      points_in_order (run_at rs i).from (run_at rs j).from (number_of (run_at rs i).way) (number_of (run_at rs j).way) (on_from j within) (are.rising i j less within)

  never_back : (p q : Point) → ComesBefore p q → ComesBefore q p → ⊥
  never_back p q (inl a) (inl b) = omega (arith, a, b)
  never_back p q (inl a) (inr b) = omega (arith, a, b.0)
  never_back p q (inr a) (inl b) = omega (arith, a.0, b)
  never_back p q (inr a) (inr b) = omega (arith, a.1, b.1)

  not_before : (i j : ℕ) → i ≤ j → j < length rs → ComesBefore (from j) (from i) → ⊥
  not_before i j order within b = elim (cases_eq i j) [
    | inl e ↦
        let c : ComesBefore (from j) (from j) = subst (λ (k : ℕ). ComesBefore (from j) (from k)) e b in
        never_back (from j) (from j) c c
    | inr apart ↦ elim (in_order i j (omega (arith, order, apart)) within) [
      | inl ahead ↦ never_back (from i) (from j) ahead b
      | inr e ↦
          let c : ComesBefore (from j) (from j) = subst (λ (p : Point). ComesBefore (from j) p) e b in
          never_back (from j) (from j) c c
    ]
  ]

  -- One loop.
  module _ (tour : List ℕ) (c : Closes (Follows Held rs) (get_or tour 0 0) tour) where
    loop : List Point
    loop = map from tour

    goes_on : (k : ℕ) → k < length tour → Follows Held rs (get_or tour k 0) (get_or tour (round_from tour k) 0)
    goes_on = goes_round (Follows Held rs) (get_or tour 0 0) tour c

    in_list : (k : ℕ) → k < length tour → get_or tour k 0 < length rs
    in_list k less = (goes_on k less).from

    long : length loop ≡ length tour
    unfolding loop
    long = length-map tour from

    at_is : (k : ℕ) → k < length tour → turn_at loop k ≡ from (get_or tour k 0)
    unfolding loop
    at_is k less =
        get_or_default (map from tour) k origin (from 0) (omega (arith, length-map tour from, less)) ∙ get_or-map_at from tour k 0

    next_is : (k : ℕ) → next_place loop k ≡ round_from tour k
    next_is k = ap (λ (n : ℕ). if k + 1 == n then 0 else k + 1) long

    after_is : (k : ℕ) → k < length tour → turn_after loop k ≡ to (get_or tour k 0)
    unfolding from to
    after_is k less =
        ap (turn_at loop) (next_is k) ∙ at_is (round_from tour k) (round_in tour k less) ∙ ap sc (goes_on k less).begins

    leg_is : (k : ℕ) → k < length tour → IsRun In (turn_at loop k) (turn_after loop k)
    leg_is k less =
        let i = get_or tour k 0 in
        subst (λ (p : Point). IsRun In p (turn_after loop k)) (sym (at_is k less)) (subst (IsRun In (from i)) (sym (after_is k less)) (run_of In (run_at rs i).way (from i) (to i) (real i (in_list k less))))

    turn_is : (k : ℕ) → k < length tour → IsAfter In (turn_at loop k) (turn_after loop k) (turn_after loop (next_place loop k))
    unfolding from to sc
    turn_is k less =
        let i = get_or tour k 0 in
        let m = round_from tour k in
        let third : turn_after loop (next_place loop k) ≡ to (get_or tour m 0) = ap (turn_after loop) (next_is k) ∙ after_is m (round_in tour k less) in
        subst (λ (p : Point). IsAfter In p (turn_after loop k) (turn_after loop (next_place loop k))) (sym (at_is k less)) (subst (λ (p : Point). IsAfter In (from i) p (turn_after loop (next_place loop k))) (sym (after_is k less)) (subst (IsAfter In (from i) (to i)) (sym third) (after_scaled In Held X Y w h side columns rows same In_in Held_in rs are i (get_or tour m 0) (goes_on k less))))

  -- All loops.
  module _ (marks : List Bool) (tours : List (List ℕ)) (all : AreTours (Follows Held rs) (length rs) marks tours) where
    loops : List (List Point)
    loops = map (map from) tours

    loop_is : (i : ℕ) → map from (tour_at tours i) ≡ loop_at loops i
    unfolding loops
    loop_is i = sym (get_or-map_at (map from) tours i [])

    count : length loops ≡ length tours
    unfolding loops
    count = length-map tours (map from)

    -- what holds at each place of each tour's loop
    each : (P : List Point → ℕ → Type 0) → ((i : ℕ) → i < length tours → (k : ℕ) → k < length (tour_at tours i) → P (map from (tour_at tours i)) k) → (i k : ℕ) → IsPlace loops i k → P (loop_at loops i) k
    each P holds i k place =
        let i_in : i < length tours = omega (arith, place.0, count) in
        let l_in : k < length (map from (tour_at tours i)) = subst (λ (l : List Point). k < length l) (sym (loop_is i)) place.1 in
        subst (λ (l : List Point). P l k) (loop_is i) (holds i i_in k (omega (arith, l_in, length-map (tour_at tours i) from)))

    place_of : (i k : ℕ) → i < length tours → k < length (tour_at tours i) → IsPlace loops i k
    place_of i k i_in k_in = (
      omega (arith, i_in, count),
      subst (λ (l : List Point). k < length l) (loop_is i) (omega (arith, k_in, length-map (tour_at tours i) from)),
    )

    in_tour : (i k : ℕ) → IsPlace loops i k → (i < length tours) × (k < length (tour_at tours i))
    in_tour i k place =
        let l_in : k < length (map from (tour_at tours i)) = subst (λ (l : List Point). k < length l) (sym (loop_is i)) place.1 in
        (omega (arith, place.0, count), omega (arith, l_in, length-map (tour_at tours i) from))

    run_here : ℕ → ℕ → ℕ
    run_here i k = get_or (tour_at tours i) k 0

    here_in : (i k : ℕ) → i < length tours → k < length (tour_at tours i) → run_here i k < length rs
    unfolding run_here
    here_in i k i_in k_in = in_list (tour_at tours i) (all.closed i i_in) k k_in

    from_here : (i k : ℕ) → i < length tours → k < length (tour_at tours i) → turn_at (loop_at loops i) k ≡ from (run_here i k)
    unfolding run_here loop
    from_here i k i_in k_in =
        subst (λ (l : List Point). turn_at l k ≡ from (get_or (tour_at tours i) k 0)) (loop_is i) (at_is (tour_at tours i) (all.closed i i_in) k k_in)

    to_here : (i k : ℕ) → i < length tours → k < length (tour_at tours i) → turn_after (loop_at loops i) k ≡ to (run_here i k)
    unfolding run_here loop
    to_here i k i_in k_in =
        subst (λ (l : List Point). turn_after l k ≡ to (get_or (tour_at tours i) k 0)) (loop_is i) (after_is (tour_at tours i) (all.closed i i_in) k k_in)

    -- two places of one run are one
    one_time : (i k j m : ℕ) → i < length tours → k < length (tour_at tours i) → j < length tours → m < length (tour_at tours j) → run_here i k ≡ run_here j m → (j ≡ i) × (m ≡ k)
    unfolding run_here
    one_time i k j m i_in k_in j_in m_in e = elim (cases_order i j) [
      | inr (inl less) ↦ absurd (all.apart i j k m less j_in k_in m_in e)
      | inr (inr more) ↦ absurd (all.apart j i m k more i_in m_in k_in (sym e))
      | inl one ↦
          let m_here : m < length (tour_at tours i) = subst (λ (n : ℕ). m < length (tour_at tours n)) (sym one) m_in in
          let e_here : get_or (tour_at tours i) k 0 ≡ get_or (tour_at tours i) m 0 = e ∙ ap (λ (n : ℕ). get_or (tour_at tours n) m 0) (sym one) in (
            sym one,
            elim (cases_order k m) [
              | inl is ↦ sym is
              | inr (inl less) ↦ absurd ((all.closed i i_in).goes.apart k m less m_here e_here)
              | inr (inr more) ↦ absurd ((all.closed i i_in).goes.apart m k more k_in (sym e_here))
            ],
          )
    ]

    gone_once : (p q : Point) → IsRun In p q → GoesOnce loops p q
    unfolding run_here
    gone_once p q run =
        let (r, r_in, r_from, r_to) = found p q run in
        let (i, k, i_in, k_in, at) = all.each r (all.done r r_in) in
        record {
          loop = i;
          place = k;
          goes = record {
            place = place_of i k i_in k_in;
            from = from_here i k i_in k_in ∙ ap from at ∙ r_from;
            to = to_here i k i_in k_in ∙ ap to at ∙ r_to;
          };
          only = λ j m g.
              let (j_in, m_in) = in_tour j m g.place in
              let begins : from (run_here i k) ≡ from (run_here j m) = ap from at ∙ r_from ∙ sym g.from ∙ from_here j m j_in m_in in
              let ends : to (run_here i k) ≡ to (run_here j m) = ap to at ∙ r_to ∙ sym g.to ∙ to_here j m j_in m_in in
              one_time i k j m i_in k_in j_in m_in (same_place (run_here i k) (run_here j m) (here_in i k i_in k_in) (here_in j m j_in m_in) begins ends);
        }

    some_here : (i : ℕ) → i < length tours → 0 < length (tour_at tours i)
    some_here i i_in = (all.closed i i_in).goes.some

    least_here : (i k : ℕ) → i < length tours → k < length (tour_at tours i) → ComesBefore (from (run_here i k)) (from (run_here i 0)) → ⊥
    unfolding run_here
    least_here i k i_in k_in =
        not_before (get_or (tour_at tours i) 0 0) (get_or (tour_at tours i) k 0) (all.least i k i_in k_in) (here_in i k i_in k_in)

    -- the first run of a loop leads to no earlier point
    leads_ahead : (i : ℕ) → i < length tours → ComesBefore (to (run_here i 0)) (from (run_here i 0)) → ⊥
    unfolding run_here from to
    leads_ahead i i_in b =
        let tour = tour_at tours i in
        let next = round_from tour 0 in
        let e : to (get_or tour 0 0) ≡ from (get_or tour next 0) = sym (ap sc (goes_on tour (all.closed i i_in) 0 (some_here i i_in)).begins) in
        least_here i next i_in (round_in tour 0 (some_here i i_in)) (subst (λ (p : Point). ComesBefore p (from (get_or tour 0 0))) e b)

    rise_here : (i j : ℕ) → i < j → j < length tours → ComesBefore (from (run_here i 0)) (from (run_here j 0))
    unfolding run_here
    rise_here i j less j_in =
        let i_in : i < length tours = omega (arith, less, j_in) in
        let a = get_or (tour_at tours i) 0 0 in
        let b = get_or (tour_at tours j) 0 0 in
        let a_in : a < length rs = here_in i 0 i_in (some_here i i_in) in
        let b_in : b < length rs = here_in j 0 j_in (some_here j j_in) in
        elim (in_order a b (all.rising i j less j_in) b_in) [
          | inl ahead ↦ ahead
          | inr e ↦
              let real_b : RunBy In (run_at rs b).way (from a) (to b) = subst (λ (p : Point). RunBy In (run_at rs b).way p (to b)) (sym e) (real b b_in) in
              let b_ahead : ComesBefore (to b) (from a) → ⊥ = λ back. leads_ahead j j_in (subst (ComesBefore (to b)) e back) in
              let way : (run_at rs a).way ≡ (run_at rs b).way = one_ahead In (run_at rs a).way (run_at rs b).way (from a) (to a) (to b) (real a a_in) real_b (leads_ahead i i_in) b_ahead in
              let ends : to a ≡ to b = same_end In (run_at rs b).way (from a) (to a) (to b) (subst (λ (v : Way). RunBy In v (from a) (to a)) way (real a a_in)) real_b in
              absurd (omega (arith, all.rising i j less j_in, same_place a b a_in b_in e ends))
        ]

    pub are_contours : AreContours In (map (map (λ (k : ℕ). record { x = X (run_at rs k).from.x; y = Y (run_at rs k).from.y })) tours)
    unfolding loops loop from sc
    are_contours = record {
      runs = each (λ l k. IsRun In (turn_at l k) (turn_after l k)) (λ i i_in. leg_is (tour_at tours i) (all.closed i i_in));
      once = gone_once;
      after = each (λ l k. IsAfter In (turn_at l k) (turn_after l k) (turn_after l (next_place l k))) (λ i i_in. turn_is (tour_at tours i) (all.closed i i_in));
      some = λ i i_in. (place_of i 0 (omega (arith, i_in, count)) (some_here i (omega (arith, i_in, count)))).1;
      least = λ i k place b.
          let (i_in, k_in) = in_tour i k place in
          least_here i k i_in k_in (subst (λ (p : Point). ComesBefore p (from (run_here i 0))) (from_here i k i_in k_in) (subst (ComesBefore (turn_at (loop_at loops i) k)) (from_here i 0 i_in (some_here i i_in)) b));
      rising = λ i j less j_in.
          let j_in' : j < length tours = omega (arith, j_in, count) in
          let i_in' : i < length tours = omega (arith, less, j_in') in
          subst (λ (p : Point). ComesBefore p (turn_at (loop_at loops j) 0)) (sym (from_here i 0 i_in' (some_here i i_in'))) (subst (ComesBefore (from (run_here i 0))) (sym (from_here j 0 j_in' (some_here j j_in'))) (rise_here i j less j_in'));
    }
