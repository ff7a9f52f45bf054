-- Tours by a relation under which no two places have the same place after them: each leads back to its start.
use Rattle.std.proofs.Common.{◌≡◌, ◌≢◌, ◌⊎◌, ℕ, zero, suc, ◌+◌, ◌-◌, ◌<◌, ◌≤◌, Bool, true, false, List, [], ◌∷◌, ◌++◌, length, get_or, set, replicate, map, refl, sym, ◌∙◌, ap, subst, arith, inl, inr, length-append, get_or-set_other, get_or-set_same}
use Rattle.std.proofs.lemmas.Bool.{cases_Bool, cases_eq, cases_lt, false≢true}
use Rattle.std.proofs.lemmas.List.{get_or_append_left, get_or-replicate, get_or_past, get_or_push, length-replicate, length-set, map-append}
use Rattle.bp_base.specs.declared.point.Point.{Point}
use Rattle.bp_contour.specs.Tours.{AreClosed, AreMarked, AreRound, AreTours, Closes, IsRound, IsTour, mark_at, tour_at}

-- How many places are not marked.

pub free_count : List Bool → ℕ
free_count [] = 0
free_count (true ∷ marks) = free_count marks
free_count (false ∷ marks) = suc (free_count marks)

pub fewer_free : (marks : List Bool) (k : ℕ) → k < length marks → mark_at marks k ≡ false → free_count (set marks k true) < free_count marks
unfolding free_count
fewer_free [] k less free = absurd (omega (arith, less))
fewer_free (true ∷ marks) zero less free = absurd (false≢true (sym free))
fewer_free (false ∷ marks) zero less free = omega arith
fewer_free (true ∷ marks) (suc k) less free = fewer_free marks k (omega (arith, less)) free
fewer_free (false ∷ marks) (suc k) less free =
    omega (arith, fewer_free marks k (omega (arith, less)) free)

mark_within : (marks : List Bool) (k : ℕ) → mark_at marks k ≡ true → k < length marks
mark_within [] k is = absurd (false≢true is)
mark_within (b ∷ marks) zero is = omega arith
mark_within (b ∷ marks) (suc k) is = omega (arith, mark_within marks k is)

-- A tour that goes on.

pub record IsUnderWay (After : ℕ → ℕ → Type 0) (point : ℕ → Point) (start place : ℕ) (before now : List Bool) (points : List Point) : Type 0 where
  pub tour : List ℕ
  pub goes : IsTour After start tour
  pub marks : AreMarked tour before now
  pub next : After (get_or tour (length tour - 1) 0) place
  pub points_are : points ≡ map point tour

-- the place of a single one
only_place : (P : ℕ → Type 0) → P 0 → (k : ℕ) → k < 1 → P k
only_place P here zero less = here
only_place P here (suc k) less = absurd (omega (arith, less))

-- one more mark
marked_here : (now after : List Bool) (place : ℕ) → place < length now → after ≡ set now place true → mark_at after place ≡ true
marked_here now after place within are =
    ap (λ (m : List Bool). mark_at m place) are ∙ get_or-set_same now place true false within

marked_else : (now after : List Bool) (place p : ℕ) → after ≡ set now place true → p ≢ place → mark_at after p ≡ mark_at now p
marked_else now after place p are apart =
    ap (λ (m : List Bool). mark_at m p) are ∙ get_or-set_other now place p true false apart

marked_still : (now after : List Bool) (place p : ℕ) → place < length now → after ≡ set now place true → mark_at now p ≡ true → mark_at after p ≡ true
marked_still now after place p within are is = elim (cases_eq p place) [
  | inl same ↦
      subst (λ (q : ℕ). mark_at after q ≡ true) (sym same) (marked_here now after place within are)
  | inr apart ↦ marked_else now after place p are apart ∙ is
]

marked_only : (now after : List Bool) (place p : ℕ) → after ≡ set now place true → mark_at after p ≡ true → (mark_at now p ≡ true) ⊎ (p ≡ place)
marked_only now after place p are is = elim (cases_eq p place) [
  | inl same ↦ inr same
  | inr apart ↦ inl (sym (marked_else now after place p are apart) ∙ is)
]

none_marked : (n p : ℕ) → mark_at (replicate n false) p ≡ false
none_marked n p = elim (cases_lt p n) [
  | inl less ↦ get_or-replicate n p false false less
  | inr more ↦ get_or_past (replicate n false) p false (omega (arith, length-replicate n false, more))
]

not_both : (b : Bool) → b ≡ false → b ≡ true → ⊥
not_both b off on = false≢true (sym off ∙ on)

module _ (After : ℕ → ℕ → Type 0) (point : ℕ → Point) (back : (i j k : ℕ) → After i k → After j k → i ≡ j) where
  pub tour_starts : (start place : ℕ) (before now : List Bool) (points : List Point) → start < length before → mark_at before start ≡ false → now ≡ set before start true → points ≡ point start ∷ [] → After start place → IsUnderWay After point start place before now points
  tour_starts start place before now points within free marked are next = record {
    tour = start ∷ [];
    goes = record {
      some = omega arith;
      first = refl;
      steps = λ k less. absurd (omega (arith, less));
      apart = λ i j less short. absurd (omega (arith, less, short));
    };
    marks = record {
      long = ap length marked ∙ length-set before start true;
      fresh = only_place (λ k. mark_at before (get_or (start ∷ []) k 0) ≡ false) free;
      within = only_place (λ k. get_or (start ∷ []) k 0 < length before) within;
      marked = only_place (λ k. mark_at now (get_or (start ∷ []) k 0) ≡ true) (marked_here before now start within marked);
      kept = λ p is. marked_still before now start p within marked is;
      only = λ p is. elim (marked_only before now start p marked is) [
        | inl old ↦ inl old
        | inr same ↦ inr (0, omega arith, sym same)
      ];
    };
    next = next;
    points_are = are;
  }

  module _ (start place : ℕ) (before now : List Bool) (points : List Point) (h : IsUnderWay After point start place before now points) where
    last : ℕ
    last = length h.tour - 1

    -- the next place is free, unless it is the start
    pub next_free : AreClosed After before → place ≢ start → mark_at now place ≡ false
    unfolding last
    next_free closed apart = elim (cases_Bool (mark_at now place)) [
      | inr off ↦ off
      | inl on ↦ elim (h.marks.only place on) [
        | inl old ↦
            absurd (not_both _ (h.marks.fresh last (omega (arith, h.goes.some))) (closed (get_or h.tour last 0) place h.next old))
        | inr (zero, less, is) ↦ absurd (apart (sym is ∙ h.goes.first))
        | inr (suc k, less, is) ↦
            let e : suc k ≡ k + 1 = omega arith in
            let step : After (get_or h.tour k 0) place = subst (λ (p : ℕ). After (get_or h.tour k 0) p) (subst (λ (m : ℕ). get_or h.tour m 0 ≡ place) e is) (h.goes.steps k (omega (arith, less))) in
            absurd (h.goes.apart k last (omega (arith, less)) (omega (arith, less)) (back (get_or h.tour k 0) (get_or h.tour last 0) place step h.next))
      ]
    ]

    pub tour_goes_on : (after : List Bool) (more : List Point) (place' : ℕ) → mark_at now place ≡ false → place < length now → after ≡ set now place true → more ≡ points ++ point place ∷ [] → After place place' → IsUnderWay After point start place' before after more
    unfolding last
    tour_goes_on after more place' free within marked are next =
        let tour' : List ℕ = h.tour ++ place ∷ [] in
        let long : length tour' ≡ length h.tour + 1 = omega (arith, length-append h.tour (place ∷ [])) in
        let old : (k : ℕ) → k < length h.tour → get_or h.tour k 0 ≡ get_or tour' k 0 = λ k less. sym (get_or_append_left h.tour (place ∷ []) 0 k less) in
        let new : (k : ℕ) → k ≡ length h.tour → place ≡ get_or tour' k 0 = λ k same. sym (get_or_push h.tour place 0 k (sym same)) in
        let each : (P : ℕ → Type 0) → ((k : ℕ) → k < length h.tour → P (get_or h.tour k 0)) → P place → (k : ℕ) → k < length tour' → P (get_or tour' k 0) = λ P all here k less. elim (cases_eq k (length h.tour)) [
          | inl same ↦ subst P (new k same) here
          | inr apart ↦
              let short : k < length h.tour = omega (arith, less, long, apart) in subst P (old k short) (all k short)
        ] in
        record {
          tour = tour';
          goes = record {
            some = omega (arith, long);
            first = sym (old 0 h.goes.some) ∙ h.goes.first;
            steps = λ k less. elim (cases_eq (k + 1) (length h.tour)) [
              | inl same ↦
                  let k_last : last ≡ k = omega (arith, same) in
                  subst (λ (p : ℕ). After p (get_or tour' (k + 1) 0)) (old k (omega (arith, same))) (subst (λ (p : ℕ). After (get_or h.tour k 0) p) (new (k + 1) same) (subst (λ (m : ℕ). After (get_or h.tour m 0) place) k_last h.next))
              | inr apart ↦
                  let short : k + 1 < length h.tour = omega (arith, less, long, apart) in
                  subst (λ (p : ℕ). After p (get_or tour' (k + 1) 0)) (old k (omega (arith, short))) (subst (λ (p : ℕ). After (get_or h.tour k 0) p) (old (k + 1) short) (h.goes.steps k short))
            ];
            apart = λ i j less within'. elim (cases_eq j (length h.tour)) [
              | inl same ↦ λ e.
                  let short : i < length h.tour = omega (arith, less, same) in
                  not_both (mark_at now place) free (subst (λ (p : ℕ). mark_at now p ≡ true) (old i short ∙ e ∙ sym (new j same)) (h.marks.marked i short))
              | inr apart ↦ λ e.
                  let short : j < length h.tour = omega (arith, within', long, apart) in
                  h.goes.apart i j less short (old i (omega (arith, less, short)) ∙ e ∙ sym (old j short))
            ];
          };
          marks = record {
            long = ap length marked ∙ length-set now place true ∙ h.marks.long;
            fresh = each (λ p. mark_at before p ≡ false) h.marks.fresh (elim (cases_Bool (mark_at before place)) [
              | inr off ↦ off
              | inl on ↦ absurd (not_both (mark_at now place) free (h.marks.kept place on))
            ]);
            within = each (λ p. p < length before) h.marks.within (omega (arith, within, h.marks.long));
            marked = each (λ p. mark_at after p ≡ true) (λ k less. marked_still now after place (get_or h.tour k 0) within marked (h.marks.marked k less)) (marked_here now after place within marked);
            kept = λ p is. marked_still now after place p within marked (h.marks.kept p is);
            only = λ p is. elim (marked_only now after place p marked is) [
              | inr same ↦ inr (length h.tour, omega (arith, long), sym (new (length h.tour) refl) ∙ sym same)
              | inl on ↦ elim (h.marks.only p on) [
                | inl first ↦ inl first
                | inr (k, less, at) ↦ inr (k, omega (arith, less, long), sym (old k less) ∙ at)
              ]
            ];
          };
          next = subst (λ (p : ℕ). After p place') (new (length tour' - 1) (omega (arith, long))) next;
          points_are = are ∙ ap (λ (l : List Point). l ++ point place ∷ []) h.points_are ∙ sym (map-append point h.tour (place ∷ []));
        }

    pub tour_closes : place ≡ start → IsRound After point start before now points
    unfolding last
    tour_closes same = record {
      tour = h.tour;
      closes = record {
        goes = h.goes;
        back = subst (λ (p : ℕ). After (get_or h.tour last 0) p) same h.next;
      };
      marks = h.marks;
      points_are = h.points_are;
    }

-- Tours over all places.

pub record AreUnderWay (After : ℕ → ℕ → Type 0) (point : ℕ → Point) (n upto : ℕ) (marks : List Bool) (loops : List (List Point)) : Type 0 where
  pub long : length marks ≡ n
  pub tours : List (List ℕ)
  pub are : AreTours After upto marks tours
  pub loops_are : loops ≡ map (map point) tours

module _ (After : ℕ → ℕ → Type 0) (point : ℕ → Point) (back : (i j k : ℕ) → After i k → After j k → i ≡ j) where
  pub none_under_way : (n : ℕ) (marks : List Bool) → marks ≡ replicate n false → AreUnderWay After point n 0 marks []
  none_under_way n marks are = record {
    long = ap length are ∙ length-replicate n false;
    tours = [];
    are = record {
      closed = λ i less. absurd (omega (arith, less));
      least = λ i k less. absurd (omega (arith, less));
      rising = λ i j less within. absurd (omega (arith, within));
      early = λ i less. absurd (omega (arith, less));
      gone = λ i k less. absurd (omega (arith, less));
      each = λ p is. absurd (not_both (mark_at marks p) (ap (λ (m : List Bool). mark_at m p) are ∙ none_marked n p) is);
      apart = λ i j k m less within. absurd (omega (arith, within));
      done = λ p less. absurd (omega (arith, less));
    };
    loops_are = refl;
  }

  pub all_round : (n : ℕ) (marks : List Bool) (loops : List (List Point)) (upto : ℕ) → upto ≡ n → AreUnderWay After point n upto marks loops → AreRound After n point loops
  all_round n marks loops upto end h = record {
    marks = marks;
    long = h.long;
    tours = h.tours;
    are = subst (λ (k : ℕ). AreTours After k marks h.tours) end h.are;
    loops_are = h.loops_are;
  }

  module _ (n upto : ℕ) (marks : List Bool) (loops : List (List Point)) (h : AreUnderWay After point n upto marks loops) where
    pub marks_closed : AreClosed After marks
    marks_closed i j after is = let (g, k, g_in, k_in, at) = h.are.each j is in marked_back g k g_in k_in at
      where
        marked_back : (g k : ℕ) → g < length h.tours → k < length (tour_at h.tours g) → get_or (tour_at h.tours g) k 0 ≡ j → mark_at marks i ≡ true
        marked_back g zero g_in k_in at =
            let closed = h.are.closed g g_in in
            let last : ℕ = length (tour_at h.tours g) - 1 in
            let same : get_or (tour_at h.tours g) last 0 ≡ i = back (get_or (tour_at h.tours g) last 0) i j (subst (λ (p : ℕ). After (get_or (tour_at h.tours g) last 0) p) at closed.back) after in
            subst (λ (p : ℕ). mark_at marks p ≡ true) same (h.are.gone g last g_in (omega (arith, k_in)))
        marked_back g (suc k) g_in k_in at =
            let closed = h.are.closed g g_in in
            let e : suc k ≡ k + 1 = omega arith in
            let step : After (get_or (tour_at h.tours g) k 0) j = subst (λ (p : ℕ). After (get_or (tour_at h.tours g) k 0) p) (subst (λ (m : ℕ). get_or (tour_at h.tours g) m 0 ≡ j) e at) (closed.goes.steps k (omega (arith, k_in))) in
            subst (λ (p : ℕ). mark_at marks p ≡ true) (back (get_or (tour_at h.tours g) k 0) i j step after) (h.are.gone g k g_in (omega (arith, k_in)))

    -- a place that is marked already
    pub skip_marked : mark_at marks upto ≡ true → AreUnderWay After point n (upto + 1) marks loops
    skip_marked on = record {
      long = h.long;
      tours = h.tours;
      are = record {
        closed = h.are.closed;
        least = h.are.least;
        rising = h.are.rising;
        early = λ i less. omega (arith, h.are.early i less);
        gone = h.are.gone;
        each = h.are.each;
        apart = h.are.apart;
        done = λ p less. elim (cases_eq p upto) [
          | inl same ↦ subst (λ (q : ℕ). mark_at marks q ≡ true) (sym same) on
          | inr apart ↦ h.are.done p (omega (arith, less, apart))
        ];
      };
      loops_are = h.loops_are;
    }

    -- a tour from a place that isn't marked
    pub add_round : (after : List Bool) (more : List (List Point)) (points : List Point) → IsRound After point upto marks after points → more ≡ loops ++ points ∷ [] → AreUnderWay After point n (upto + 1) after more
    add_round after more points r added =
        let tours' : List (List ℕ) = h.tours ++ r.tour ∷ [] in
        let long : length tours' ≡ length h.tours + 1 = omega (arith, length-append h.tours (r.tour ∷ [])) in
        let old : (i : ℕ) → i < length h.tours → tour_at h.tours i ≡ tour_at tours' i = λ i less. sym (get_or_append_left h.tours (r.tour ∷ []) [] i less) in
        let new : (i : ℕ) → i ≡ length h.tours → r.tour ≡ tour_at tours' i = λ i same. sym (get_or_push h.tours r.tour [] i (sym same)) in
        let each : (P : List ℕ → Type 0) → ((i : ℕ) → i < length h.tours → P (tour_at h.tours i)) → P r.tour → (i : ℕ) → i < length tours' → P (tour_at tours' i) = λ P all here i less. elim (cases_eq i (length h.tours)) [
          | inl same ↦ subst P (new i same) here
          | inr apart ↦
              let short : i < length h.tours = omega (arith, less, long, apart) in subst P (old i short) (all i short)
        ] in
        let head : get_or r.tour 0 0 ≡ upto = r.closes.goes.first in
        record {
          long = r.marks.long ∙ h.long;
          tours = tours';
          are = record {
            closed = each (λ w. Closes After (get_or w 0 0) w) h.are.closed (subst (λ (p : ℕ). Closes After p r.tour) (sym head) r.closes);
            least = λ i k less. each (λ w. k < length w → get_or w 0 0 ≤ get_or w k 0) (λ g g_in. h.are.least g k g_in) (λ k_in. elim (cases_Bool (mark_at marks (get_or r.tour k 0))) [
              | inl on ↦ absurd (not_both _ (r.marks.fresh k k_in) on)
              | inr off ↦ not_early (get_or r.tour 0 0) (get_or r.tour k 0) head off
            ]) i less;
            rising = λ i j less within. elim (cases_eq j (length h.tours)) [
              | inl same ↦
                  let short : i < length h.tours = omega (arith, less, same) in
                  subst (λ (w : List ℕ). get_or w 0 0 < get_or (tour_at tours' j) 0 0) (old i short) (subst (λ (w : List ℕ). get_or (tour_at h.tours i) 0 0 < get_or w 0 0) (new j same) (omega (arith, h.are.early i short, head)))
              | inr apart ↦
                  let short : j < length h.tours = omega (arith, within, long, apart) in
                  subst (λ (w : List ℕ). get_or w 0 0 < get_or (tour_at tours' j) 0 0) (old i (omega (arith, less, short))) (subst (λ (w : List ℕ). get_or (tour_at h.tours i) 0 0 < get_or w 0 0) (old j short) (h.are.rising i j less short))
            ];
            early = each (λ w. get_or w 0 0 < upto + 1) (λ g g_in. omega (arith, h.are.early g g_in)) (omega (arith, head));
            gone = λ i k less. each (λ w. k < length w → mark_at after (get_or w k 0) ≡ true) (λ g g_in k_in. r.marks.kept _ (h.are.gone g k g_in k_in)) (r.marks.marked k) i less;
            each = λ p is. elim (r.marks.only p is) [
              | inl on ↦
                  let (g, k, g_in, k_in, at) = h.are.each p on in
                  (g, k, omega (arith, g_in, long), subst (λ (w : List ℕ). k < length w) (old g g_in) k_in, subst (λ (w : List ℕ). get_or w k 0 ≡ p) (old g g_in) at)
              | inr (k, k_in, at) ↦ (
                length h.tours,
                k,
                omega (arith, long),
                subst (λ (w : List ℕ). k < length w) (new (length h.tours) refl) k_in,
                subst (λ (w : List ℕ). get_or w k 0 ≡ p) (new (length h.tours) refl) at,
              )
            ];
            apart = λ i j k m less within k_in m_in. elim (cases_eq j (length h.tours)) [
              | inl same ↦ λ e.
                  let short : i < length h.tours = omega (arith, less, same) in
                  let k_old = subst (λ (w : List ℕ). k < length w) (sym (old i short)) k_in in
                  let m_new = subst (λ (w : List ℕ). m < length w) (sym (new j same)) m_in in
                  let both : get_or (tour_at h.tours i) k 0 ≡ get_or r.tour m 0 = ap (λ (w : List ℕ). get_or w k 0) (old i short) ∙ e ∙ sym (ap (λ (w : List ℕ). get_or w m 0) (new j same)) in
                  not_both (mark_at marks (get_or r.tour m 0)) (r.marks.fresh m m_new) (subst (λ (p : ℕ). mark_at marks p ≡ true) both (h.are.gone i k short k_old))
              | inr apart ↦ λ e.
                  let short : j < length h.tours = omega (arith, within, long, apart) in
                  let i_short : i < length h.tours = omega (arith, less, short) in
                  h.are.apart i j k m less short (subst (λ (w : List ℕ). k < length w) (sym (old i i_short)) k_in) (subst (λ (w : List ℕ). m < length w) (sym (old j short)) m_in) (ap (λ (w : List ℕ). get_or w k 0) (old i i_short) ∙ e ∙ sym (ap (λ (w : List ℕ). get_or w m 0) (old j short)))
            ];
            done = λ p less. elim (cases_eq p upto) [
              | inl same ↦
                  subst (λ (q : ℕ). mark_at after q ≡ true) (head ∙ sym same) (r.marks.marked 0 r.closes.goes.some)
              | inr apart ↦ r.marks.kept p (h.are.done p (omega (arith, less, apart)))
            ];
          };
          loops_are = added ∙ ap (λ (l : List (List Point)). l ++ points ∷ []) h.loops_are ∙ ap (λ (l : List Point). map (map point) h.tours ++ l ∷ []) r.points_are ∙ sym (map-append (map point) h.tours (r.tour ∷ []));
        }
      where
        not_early : (first p : ℕ) → first ≡ upto → mark_at marks p ≡ false → first ≤ p
        not_early first p head off = elim (cases_lt p upto) [
          | inl less ↦ absurd (not_both (mark_at marks p) off (h.are.done p less))
          | inr more ↦ omega (arith, more, head)
        ]
