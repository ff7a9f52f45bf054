-- Lists of runs as they are made and searched.
use Rattle.std.proofs.Common.{◌≡◌, ◌⊎◌, ℕ, ◌+◌, ◌-◌, ◌<◌, ◌≤◌, List, [], ◌∷◌, ◌++◌, length, refl, sym, ◌∙◌, ap, subst, arith, inl, inr, length-append}
use Rattle.std.proofs.lemmas.Bool.{cases_Bool, cases_eq, cases_order, false≢true}
use Rattle.std.proofs.lemmas.List.{get_or_append_left, get_or_push}
use Rattle.bp_base.specs.declared.point.Point.{Point}
use Rattle.bp_contour.specs.declared.runs.Run.{Run}
use Rattle.bp_contour.specs.declared.way.Way.{Way}
use Rattle.bp_contour.specs.declared.way.Way.TheVariants.{East, North, West, South}
use Rattle.bp_contour.specs.Listed.{AreRising, AreRuns, AreRunsUpTo, Follows, IsFound, StandsBefore, Turns, no_run, run_at}
use Rattle.bp_contour.specs.Table.{Holds, TableValue, bit}
use Rattle.bp_contour.specs.Ways.{Begins, BeginsNone, Leaves, RunBy, left_of, number_of, right_of}
use Rattle.bp_contour.proofs.Corners.{leads_on, must_turn, run_arrives, run_begins, run_ends, same_point}
use Rattle.bp_contour.proofs.Tables.{held_within}

-- The order of runs.

pub never_both : (y x n v u m : ℕ) → StandsBefore y x n v u m → StandsBefore v u m y x n → ⊥
never_both y x n v u m (inl a) (inl b) = omega (arith, a, b)
never_both y x n v u m (inl a) (inr (inl b)) = omega (arith, a, b.0)
never_both y x n v u m (inl a) (inr (inr b)) = omega (arith, a, b.0)
never_both y x n v u m (inr (inl a)) (inl b) = omega (arith, a.0, b)
never_both y x n v u m (inr (inl a)) (inr (inl b)) = omega (arith, a.1, b.1)
never_both y x n v u m (inr (inl a)) (inr (inr b)) = omega (arith, a.1, b.1)
never_both y x n v u m (inr (inr a)) (inl b) = omega (arith, a.0, b)
never_both y x n v u m (inr (inr a)) (inr (inl b)) = omega (arith, a.1, b.1)
never_both y x n v u m (inr (inr a)) (inr (inr b)) = omega (arith, a.2, b.2)

one_on : (y x n v u m : ℕ) → StandsBefore y x n v u m → StandsBefore y x n v u (m + 1)
one_on y x n v u m (inl a) = inl a
one_on y x n v u m (inr (inl a)) = inr (inl a)
one_on y x n v u m (inr (inr a)) = inr (inr (a.0, a.1, omega (arith, a.2)))

last_or_before : (y x n v u m : ℕ) → StandsBefore y x n v u (m + 1) → StandsBefore y x n v u m ⊎ ((y ≡ v) × (x ≡ u) × (n ≡ m))
last_or_before y x n v u m (inl a) = inl (inl a)
last_or_before y x n v u m (inr (inl a)) = inl (inr (inl a))
last_or_before y x n v u m (inr (inr a)) = elim (cases_eq n m) [
  | inl same ↦ inr (a.0, a.1, same)
  | inr apart ↦ inl (inr (inr (a.0, a.1, omega (arith, a.2, apart))))
]

pub number_small : (w : Way) → number_of w < 4
number_small East = omega arith
number_small North = omega arith
number_small West = omega arith
number_small South = omega arith

pub same_number : (v w : Way) → number_of v ≡ number_of w → v ≡ w
same_number East East e = refl
same_number East North e = absurd (omega (arith, e))
same_number East West e = absurd (omega (arith, e))
same_number East South e = absurd (omega (arith, e))
same_number North East e = absurd (omega (arith, e))
same_number North North e = refl
same_number North West e = absurd (omega (arith, e))
same_number North South e = absurd (omega (arith, e))
same_number West East e = absurd (omega (arith, e))
same_number West North e = absurd (omega (arith, e))
same_number West West e = refl
same_number West South e = absurd (omega (arith, e))
same_number South East e = absurd (omega (arith, e))
same_number South North e = absurd (omega (arith, e))
same_number South West e = absurd (omega (arith, e))
same_number South South e = refl

-- Lists that grow.

module _ (In : ℕ → ℕ → Type 0) where
  pub runs_none : AreRunsUpTo In 0 0 0 []
  runs_none = record {
    sound = λ k less. absurd (omega (arith, less));
    early = λ k less. absurd (omega (arith, less));
    complete = λ w p q run before. absurd (never_first p.y p.x (number_of w) before);
    rising = λ i j less within. absurd (omega (arith, within));
  }
    where
      never_first : (y x n : ℕ) → StandsBefore y x n 0 0 0 → ⊥
      never_first y x n (inl a) = omega (arith, a)
      never_first y x n (inr (inl a)) = omega (arith, a.1)
      never_first y x n (inr (inr a)) = omega (arith, a.2)

  -- a direction in which none begins
  pub runs_same : (rs : List Run) (w : Way) (p : Point) → AreRunsUpTo In p.y p.x (number_of w) rs → (Begins In w p → ⊥) → AreRunsUpTo In p.y p.x (number_of w + 1) rs
  runs_same rs w p h none = record {
    sound = h.sound;
    early = λ k less. one_on _ _ _ _ _ _ (h.early k less);
    complete = λ v r q run before. elim (last_or_before r.y r.x (number_of v) p.y p.x (number_of w) before) [
      | inl earlier ↦ h.complete v r q run earlier
      | inr (y, x, n) ↦
          let b : Begins In v r = run_begins In v r q run in
          absurd (none (subst (λ (u : Way). Begins In u p) (same_number v w n) (subst (λ (s : Point). Begins In v s) (same_point r p x y) b)))
    ];
    rising = h.rising;
  }

  -- a direction in which one begins
  pub runs_more : (rs after : List Run) (w : Way) (p q : Point) → AreRunsUpTo In p.y p.x (number_of w) rs → RunBy In w p q → after ≡ rs ++ record { way = w; from = p; to = q } ∷ [] → AreRunsUpTo In p.y p.x (number_of w + 1) after
  runs_more rs after w p q h run added =
      let new : Run = record { way = w; from = p; to = q } in
      let long : length after ≡ length rs + 1 = omega (arith, ap length added, length-append rs (new ∷ [])) in
      let old : (k : ℕ) → k < length rs → run_at rs k ≡ run_at after k = λ k less. sym (ap (λ (l : List Run). run_at l k) added ∙ get_or_append_left rs (new ∷ []) no_run k less) in
      let last : (k : ℕ) → k ≡ length rs → new ≡ run_at after k = λ k same. sym (ap (λ (l : List Run). run_at l k) added ∙ get_or_push rs new no_run k (sym same)) in
      let early : (k : ℕ) → k < length rs → StandsBefore (run_at after k).from.y (run_at after k).from.x (number_of (run_at after k).way) p.y p.x (number_of w) = λ k less. subst (λ (r : Run). StandsBefore r.from.y r.from.x (number_of r.way) p.y p.x (number_of w)) (old k less) (h.early k less) in
      record {
        sound = λ k less. elim (cases_eq k (length rs)) [
          | inl same ↦ subst (λ (r : Run). RunBy In r.way r.from r.to) (last k same) run
          | inr apart ↦
              let short : k < length rs = omega (arith, less, long, apart) in
              subst (λ (r : Run). RunBy In r.way r.from r.to) (old k short) (h.sound k short)
        ];
        early = λ k less. elim (cases_eq k (length rs)) [
          | inl same ↦
              subst (λ (r : Run). StandsBefore r.from.y r.from.x (number_of r.way) p.y p.x (number_of w + 1)) (last k same) (inr (inr (refl, refl, omega arith)))
          | inr apart ↦ one_on _ _ _ _ _ _ (early k (omega (arith, less, long, apart)))
        ];
        complete = λ v r t other before. elim (last_or_before r.y r.x (number_of v) p.y p.x (number_of w) before) [
          | inl earlier ↦
              let (k, found) = h.complete v r t other earlier in (
                k,
                record {
                  within = omega (arith, found.within, long);
                  goes = ap (λ (s : Run). s.way) (sym (old k found.within)) ∙ found.goes;
                  begins = ap (λ (s : Run). s.from) (sym (old k found.within)) ∙ found.begins;
                },
              )
          | inr (y, x, n) ↦ (
            length rs,
            record {
              within = omega (arith, long);
              goes = ap (λ (s : Run). s.way) (sym (last (length rs) refl)) ∙ sym (same_number v w n);
              begins = ap (λ (s : Run). s.from) (sym (last (length rs) refl)) ∙ sym (same_point r p x y);
            },
          )
        ];
        rising = λ i j less within. elim (cases_eq j (length rs)) [
          | inl same ↦
              subst (λ (r : Run). StandsBefore (run_at after i).from.y (run_at after i).from.x (number_of (run_at after i).way) r.from.y r.from.x (number_of r.way)) (last j same) (early i (omega (arith, less, same)))
          | inr apart ↦
              let short : j < length rs = omega (arith, within, long, apart) in
              subst (λ (r : Run). StandsBefore r.from.y r.from.x (number_of r.way) (run_at after j).from.y (run_at after j).from.x (number_of (run_at after j).way)) (old i (omega (arith, less, short))) (subst (λ (r : Run). StandsBefore (run_at rs i).from.y (run_at rs i).from.x (number_of (run_at rs i).way) r.from.y r.from.x (number_of r.way)) (old j short) (h.rising i j less short))
        ];
      }

  moved : (rs : List Run) (y x n v u m : ℕ) → AreRunsUpTo In y x n rs → ((b a c : ℕ) → StandsBefore b a c y x n → StandsBefore b a c v u m) → ((w : Way) (p q : Point) → RunBy In w p q → StandsBefore p.y p.x (number_of w) v u m → StandsBefore p.y p.x (number_of w) y x n) → AreRunsUpTo In v u m rs
  moved rs y x n v u m h there back = record {
    sound = h.sound;
    early = λ k less. there _ _ _ (h.early k less);
    complete = λ w p q run before. h.complete w p q run (back w p q run before);
    rising = h.rising;
  }

  point_there : (y x b a c : ℕ) → StandsBefore b a c y x 4 → StandsBefore b a c y (x + 1) 0
  point_there y x b a c (inl h) = inl h
  point_there y x b a c (inr (inl h)) = inr (inl (h.0, omega (arith, h.1)))
  point_there y x b a c (inr (inr h)) = inr (inl (h.0, omega (arith, h.1)))

  point_back : (y x b a c : ℕ) → c < 4 → StandsBefore b a c y (x + 1) 0 → StandsBefore b a c y x 4
  point_back y x b a c small (inl h) = inl h
  point_back y x b a c small (inr (inl h)) = elim (cases_eq a x) [
    | inl same ↦ inr (inr (h.0, same, small))
    | inr apart ↦ inr (inl (h.0, omega (arith, h.1, apart)))
  ]
  point_back y x b a c small (inr (inr h)) = absurd (omega (arith, h.2))

  pub point_done : (rs : List Run) (y x : ℕ) → AreRunsUpTo In y x 4 rs → AreRunsUpTo In y (x + 1) 0 rs
  point_done rs y x h =
      moved rs y x 4 y (x + 1) 0 h (point_there y x) (λ w p q run. point_back y x p.y p.x (number_of w) (number_small w))

  -- past a point where no run begins
  pub plain_done : (rs : List Run) (p : Point) → AreRunsUpTo In p.y p.x 0 rs → BeginsNone In p → AreRunsUpTo In p.y (p.x + 1) 0 rs
  plain_done rs p h none =
      point_done rs p.y p.x (runs_same rs South p (runs_same rs West p (runs_same rs North p (runs_same rs East p h (none East)) (none North)) (none West)) (none South))

  module _ (width height : ℕ) (bound : (w : Way) (p q : Point) → RunBy In w p q → (p.x ≤ width) × (p.y ≤ height)) where
    line_there : (y x b a c : ℕ) → StandsBefore b a c y x 0 → StandsBefore b a c (y + 1) 0 0
    line_there y x b a c (inl h) = inl (omega (arith, h))
    line_there y x b a c (inr (inl h)) = inl (omega (arith, h.0))
    line_there y x b a c (inr (inr h)) = inl (omega (arith, h.0))

    line_back : (y b a c : ℕ) → a ≤ width → StandsBefore b a c (y + 1) 0 0 → StandsBefore b a c y (width + 1) 0
    line_back y b a c small (inl h) = elim (cases_eq b y) [
      | inl same ↦ inr (inl (same, omega (arith, small)))
      | inr apart ↦ inl (omega (arith, h, apart))
    ]
    line_back y b a c small (inr (inl h)) = absurd (omega (arith, h.1))
    line_back y b a c small (inr (inr h)) = absurd (omega (arith, h.2))

    pub line_done : (rs : List Run) (y x : ℕ) → x ≡ width + 1 → AreRunsUpTo In y x 0 rs → AreRunsUpTo In (y + 1) 0 0 rs
    line_done rs y x end h =
        moved rs y (width + 1) 0 (y + 1) 0 0 (subst (λ (k : ℕ). AreRunsUpTo In y k 0 rs) end h) (line_there y (width + 1)) (λ w p q run. line_back y p.y p.x (number_of w) (bound w p q run).0)

    pub runs_done : (rs : List Run) (y : ℕ) → y ≡ height + 1 → AreRunsUpTo In y 0 0 rs → AreRuns In rs
    runs_done rs y end h = record {
      sound = h.sound;
      complete = λ w p q run. h.complete w p q run (inl (omega (arith, end, (bound w p q run).1)));
      rising = h.rising;
    }

module _ (C : TableValue) where
  leaves_within : (w : Way) (p : Point) → Leaves (Holds C) w p → (p.x ≤ C.width) × (p.y ≤ C.height)
  leaves_within East p h =
      let (a, b) = held_within C p.x p.y h.0 in (omega (arith, a), omega (arith, b))
  leaves_within North p h =
      let (a, b) = held_within C (p.x - 1) p.y h.0.1 in (omega (arith, a), omega (arith, b))
  leaves_within West p h =
      let (a, b) = held_within C (p.x - 1) (p.y - 1) h.1.0.1 in (omega (arith, a), omega (arith, b))
  leaves_within South p h =
      let (a, b) = held_within C p.x (p.y - 1) h.1.0 in (omega (arith, a), omega (arith, b))

  pub run_within : (w : Way) (p q : Point) → RunBy (Holds C) w p q → (p.x ≤ C.width) × (p.y ≤ C.height)
  run_within w p q run = leaves_within w p (run_begins (Holds C) w p q run).0

  cell_near : (w : Way) (p : Point) → Leaves (Holds C) w p → (0 < C.width) × (0 < C.height)
  cell_near East p h =
      let (a, b) = held_within C p.x p.y h.0 in (omega (arith, a), omega (arith, b))
  cell_near North p h =
      let (a, b) = held_within C (p.x - 1) p.y h.0.1 in (omega (arith, a), omega (arith, b))
  cell_near West p h =
      let (a, b) = held_within C (p.x - 1) (p.y - 1) h.1.0.1 in (omega (arith, a), omega (arith, b))
  cell_near South p h =
      let (a, b) = held_within C p.x (p.y - 1) h.1.0 in (omega (arith, a), omega (arith, b))

  -- where there is a run, there is a cell
  pub some_cell : (w : Way) (p q : Point) → RunBy (Holds C) w p q → (0 < C.width) × (0 < C.height)
  some_cell w p q run = cell_near w p (run_begins (Holds C) w p q run).0

  pub known_held : (x y : ℕ) → Holds C x y ⊎ (Holds C x y → ⊥)
  known_held x y = elim (cases_Bool (bit C x y)) [
    | inl held ↦ inl held
    | inr not_held ↦ inr (λ h. false≢true (sym not_held ∙ h))
  ]

  pub run_there : (runs : List Run) → AreRuns (Holds C) runs → (w : Way) (p : Point) → Begins (Holds C) w p → (k : ℕ) × IsFound runs k w p
  run_there runs are w p b =
      let (q, run) = leads_on (Holds C) known_held C.width C.height (held_within C) w p b in are.complete w p q run

  pub turns_right : (v : Way) (p q : Point) → RunBy (Holds C) v p q → (Begins (Holds C) (left_of v) q → ⊥) → Begins (Holds C) (right_of v) q
  turns_right v p q run none =
      must_turn (Holds C) known_held v q (run_arrives (Holds C) v p q run) (run_ends (Holds C) v p q run) none

  pub follows_from : (runs : List Run) (i j : ℕ) (w : Way) → i < length runs → Turns (Holds C) (run_at runs i).way (run_at runs i).to w → IsFound runs j w (run_at runs i).to → Follows (Holds C) runs i j
  follows_from runs i j w from turns found = record {
    from = from;
    within = found.within;
    begins = found.begins;
    turns = subst (λ (u : Way). Turns (Holds C) (run_at runs i).way (run_at runs i).to u) (sym found.goes) turns;
  }

-- Searching.

-- the run that is looked for stands at one of the places from low to before high
pub record IsBetween (runs : List Run) (way : Way) (p : Point) (low high : ℕ) : Type 0 where
  pub at : ℕ
  pub found : IsFound runs at way p
  pub from : low ≤ at
  pub to : at < high
  pub fits : high ≤ length runs

module _ (runs : List Run) (rising : AreRising runs) (way : Way) (p : Point) where
  pub between_all : (k : ℕ) → IsFound runs k way p → IsBetween runs way p 0 (length runs)
  between_all k found =
      record { at = k; found = found; from = omega arith; to = found.within; fits = omega arith }

  -- the key of the run that was found
  keyed : (k : ℕ) (P : ℕ → ℕ → ℕ → Type 0) → IsFound runs k way p → P (run_at runs k).from.y (run_at runs k).from.x (number_of (run_at runs k).way) → P p.y p.x (number_of way)
  keyed k P found h = subst (λ (w : Way). P p.y p.x (number_of w)) found.goes (subst (λ (q : Point). P q.y q.x (number_of (run_at runs k).way)) found.begins h)

  pub lower_half : (low high middle : ℕ) → IsBetween runs way p low high → middle < high → StandsBefore p.y p.x (number_of way) (run_at runs middle).from.y (run_at runs middle).from.x (number_of (run_at runs middle).way) → IsBetween runs way p low middle
  lower_half low high middle h less before = elim (cases_order h.at middle) [
    | inl same ↦ absurd (at_itself (subst (λ (k : ℕ). StandsBefore p.y p.x (number_of way) (run_at runs k).from.y (run_at runs k).from.x (number_of (run_at runs k).way)) (sym same) before))
    | inr (inl short) ↦ record { at = h.at; found = h.found; from = h.from; to = short; fits = omega (arith, h.fits, less) }
    | inr (inr long) ↦
        let behind = rising middle h.at long (omega (arith, h.to, h.fits)) in
        let key = keyed h.at (λ y x n. StandsBefore (run_at runs middle).from.y (run_at runs middle).from.x (number_of (run_at runs middle).way) y x n) h.found behind in
        absurd (never_both p.y p.x (number_of way) _ _ _ before key)
  ]
    where
      at_itself : StandsBefore p.y p.x (number_of way) (run_at runs h.at).from.y (run_at runs h.at).from.x (number_of (run_at runs h.at).way) → ⊥
      at_itself b = let key = keyed h.at (λ y x n. StandsBefore p.y p.x (number_of way) y x n) h.found b in never_both p.y p.x (number_of way) p.y p.x (number_of way) key key

  pub upper_half : (low high middle : ℕ) → IsBetween runs way p low high → middle < high → (StandsBefore p.y p.x (number_of way) (run_at runs middle).from.y (run_at runs middle).from.x (number_of (run_at runs middle).way) → ⊥) → IsBetween runs way p middle high
  upper_half low high middle h less none = elim (cases_order h.at middle) [
    | inl same ↦ record { at = h.at; found = h.found; from = omega (arith, same); to = h.to; fits = h.fits }
    | inr (inl short) ↦
        let ahead = rising h.at middle short (omega (arith, less, h.fits)) in
        absurd (none (keyed h.at (λ y x n. StandsBefore y x n (run_at runs middle).from.y (run_at runs middle).from.x (number_of (run_at runs middle).way)) h.found ahead))
    | inr (inr long) ↦ record { at = h.at; found = h.found; from = omega (arith, long); to = h.to; fits = h.fits }
  ]

  pub found_at : (low high : ℕ) → IsBetween runs way p low high → high - low ≤ 1 → IsFound runs low way p
  found_at low high h short =
      let same : h.at ≡ low = omega (arith, h.from, h.to, short) in
      subst (λ (k : ℕ). IsFound runs k way p) same h.found
