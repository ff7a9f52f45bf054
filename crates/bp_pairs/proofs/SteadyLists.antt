-- Among the valid placements of a side there is one whose list of coordinates is least, and only one: the lists are searched by
-- their first point, those of one first point by the second, and so on.
use Rattle.std.proofs.Common.{◌≡◌, ◌⊎◌, inl, inr, ℕ, zero, suc, ◌+◌, ◌-◌, ◌*◌, ◌<◌, ◌≤◌, List, [], ◌∷◌, length, get_or, refl, sym, ◌∙◌, subst, arith}
use Rattle.std.proofs.lemmas.Bool.{cases_eq, cases_lt}
use Rattle.bp_base.specs.declared.point.Point.{Point}
use Rattle.bp_base.specs.declared.point.Sheet.{Sheet}
use Rattle.bp_base.specs.declared.point.Sheet.TheVariants.{Square, Strip}
use Rattle.bp_base.specs.Point.{gap, origin, point_at}
use Rattle.bp_base.specs.Tree.{TreeValue, IsLeaf, leaf_count}
use Rattle.bp_metric.specs.Distance.{leaf_dist}
use Rattle.bp_metric.specs.Steady.{IsNotAfter, IsSteady}
use Rattle.bp_metric.specs.Valid.{IsPair, Lies, Valid}

abbrev Decides : Type 0 → Type 0
Decides E = E ⊎ (E → ⊥)

decides_both : (E F : Type 0) → Decides E → Decides F → Decides (E × F)
decides_both E F (inl e) (inl f) = inl (e, f)
decides_both E F (inl e) (inr not) = inr (λ both. not both.1)
decides_both E F (inr not) f = inr (λ both. not both.0)

decides_where : (E F : Type 0) → Decides E → Decides F → Decides (E → F)
decides_where E F e (inl f) = inl (λ _. f)
decides_where E F (inl e) (inr not) = inr (λ to. not (to e))
decides_where E F (inr lacks) (inr not) = inl (λ e. absurd (lacks e))

decides_le : (a b : ℕ) → Decides (a ≤ b)
decides_le a b = elim (cases_lt b a) [
  | inl less ↦ inr (λ le. omega (arith, less, le))
  | inr le ↦ inl le
]

decides_lt : (a b : ℕ) → Decides (a < b)
decides_lt a b = elim (cases_lt a b) [
  | inl less ↦ inl less
  | inr le ↦ inr (λ less. omega (arith, less, le))
]

-- the least number below a bound for which E holds
record First (E : ℕ → Type 0) (bound : ℕ) : Type 0 where
  pub v : ℕ
  pub within : v < bound
  pub holds : E v
  pub before : (u : ℕ) → u < v → E u → ⊥

module _ (E : ℕ → Type 0) (decide : (v : ℕ) → Decides (E v)) where
  first_from : (k n : ℕ) → ((u : ℕ) → u < k → E u → ⊥) → First E (k + n) ⊎ ((u : ℕ) → u < k + n → E u → ⊥)
  first_from k zero none = inr (λ u less. none u (omega (arith, less)))
  first_from k (suc n) none = elim (decide k) [
    | inl here ↦ inl (record { v = k; within = omega arith; holds = here; before = none })
    | inr not ↦ longer (first_from (k + 1) n (λ u less here. elim (cases_lt u k) [
      | inl below ↦ none u below here
      | inr above ↦ let is : u ≡ k = omega (arith, less, above) in not (subst E is here)
    ]))
  ]
    where
      longer : First E (k + 1 + n) ⊎ ((u : ℕ) → u < k + 1 + n → E u → ⊥) → First E (k + suc n) ⊎ ((u : ℕ) → u < k + suc n → E u → ⊥)
      longer (inl f) = inl (record { v = f.v; within = omega (arith, f.within); holds = f.holds; before = f.before })
      longer (inr nowhere) = inr (λ u less. nowhere u (omega (arith, less)))

  first : (n : ℕ) → First E n ⊎ ((u : ℕ) → u < n → E u → ⊥)
  first n =
      let whole : 0 + n ≡ n = omega arith in
      subst (λ (m : ℕ). First E m ⊎ ((u : ℕ) → u < m → E u → ⊥)) whole (first_from 0 n (λ u less. absurd (omega (arith, less))))

  decides_first : (n : ℕ) → Decides (First E n)
  decides_first n = elim (first n) [
    | inl f ↦ inl f
    | inr none ↦ inr (λ f. none f.v f.within f.holds)
  ]

  none_first : (n : ℕ) → (First E n → ⊥) → (u : ℕ) → u < n → E u → ⊥
  none_first n not = elim (first n) [
    | inl f ↦ absurd (not f)
    | inr none ↦ none
  ]

decides_all : (E : ℕ → Type 0) → ((v : ℕ) → Decides (E v)) → (n : ℕ) → Decides ((u : ℕ) → u < n → E u)
decides_all E decide n = elim (first (λ v. E v → ⊥) (λ v. decides_where (E v) ⊥ (decide v) (inr (λ false_is. false_is))) n) [
  | inl f ↦ inr (λ all. f.holds (all f.v f.within))
  | inr none ↦ inl (λ u less. elim (decide u) [
    | inl e ↦ e
    | inr not ↦ absurd (none u less not)
  ])
]

-- Lists of points in a box.

module _ (w h : ℕ) where
  abbrev AreBoxed : List Point → Type 0
  AreBoxed [] = Unit {0}
  AreBoxed (p ∷ P) = (p.x ≤ w) × (p.y ≤ h) × AreBoxed P

  -- the least list of n points in the box for which D holds
  record LeastList (n : ℕ) (D : List Point → Type 0) : Type 0 where
    pub points : List Point
    pub each : length points ≡ n
    pub boxed : AreBoxed points
    pub holds : D points
    pub least : (Q : List Point) → length Q ≡ n → AreBoxed Q → D Q → IsNotAfter points Q

  abbrev NoList : ℕ → (List Point → Type 0) → Type 0
  NoList n D = (Q : List Point) → length Q ≡ n → AreBoxed Q → D Q → ⊥

  nothing : (Q : List Point) → length Q ≡ 0 → Q ≡ []
  nothing [] each = refl
  nothing (p ∷ Q) each = absurd (omega (arith, each))

  abbrev behind : (List Point → Type 0) → ℕ → ℕ → List Point → Type 0
  behind D x y P = D ((record { x = x; y = y }) ∷ P)

  module _ (n : ℕ) (D : List Point → Type 0) (found : (x y : ℕ) → LeastList n (behind D x y) ⊎ NoList n (behind D x y)) where
    abbrev Row : ℕ → ℕ → Type 0
    Row x y = LeastList n (behind D x y)

    decides_row : (x y : ℕ) → Decides (Row x y)
    decides_row x y = elim (found x y) [
      | inl r ↦ inl r
      | inr none ↦ inr (λ r. none r.points r.each r.boxed r.holds)
    ]

    none_row : (x y : ℕ) → (Row x y → ⊥) → NoList n (behind D x y)
    none_row x y not = elim (found x y) [
      | inl r ↦ absurd (not r)
      | inr none ↦ none
    ]

    abbrev Column : ℕ → Type 0
    Column x = First (Row x) (h + 1)

    none_column : (x : ℕ) → (Column x → ⊥) → (y : ℕ) → y ≤ h → NoList n (behind D x y)
    none_column x not y within = none_row x y (none_first (Row x) (decides_row x) (h + 1) not y (omega (arith, within)))

    least_behind : (c : First Column (w + 1)) (Q : List Point) → length Q ≡ suc n → AreBoxed Q → D Q → IsNotAfter ((record { x = c.v; y = c.holds.v }) ∷ c.holds.holds.points) Q
    least_behind c [] each boxed d = absurd (omega (arith, each))
    least_behind c (p ∷ Q) each boxed d = elim (cases_lt c.v p.x) [
      | inl less ↦ inl less
      | inr most ↦ elim (cases_eq p.x c.v) [
        | inl same ↦
            let here : behind D c.v p.y Q = subst (λ (v : ℕ). behind D v p.y Q) same d in
            inr (sym same, in_column same here)
        | inr apart ↦
            let less : p.x < c.v = omega (arith, most, apart) in
            absurd (none_column p.x (c.before p.x less) p.y boxed.1 Q (omega (arith, each)) boxed.2 d)
      ]
    ]
      where
        in_column : p.x ≡ c.v → behind D c.v p.y Q → (c.holds.v < p.y) ⊎ ((c.holds.v ≡ p.y) × IsNotAfter c.holds.holds.points Q)
        in_column same here = elim (cases_lt c.holds.v p.y) [
          | inl less ↦ inl less
          | inr most ↦ elim (cases_eq p.y c.holds.v) [
            | inl level ↦ inr (sym level, c.holds.holds.least Q (omega (arith, each)) boxed.2 (subst (λ (v : ℕ). behind D c.v v Q) level here))
            | inr apart ↦
                let less : p.y < c.holds.v = omega (arith, most, apart) in
                absurd (none_row c.v p.y (c.holds.before p.y less) Q (omega (arith, each)) boxed.2 here)
          ]
        ]

    found_behind : LeastList (suc n) D ⊎ NoList (suc n) D
    found_behind = elim (first Column (λ x. decides_first (Row x) (decides_row x) (h + 1)) (w + 1)) [
      | inl c ↦ inl (record {
        points = (record { x = c.v; y = c.holds.v }) ∷ c.holds.holds.points;
        each = omega (arith, c.holds.holds.each);
        boxed = (omega (arith, c.within), omega (arith, c.holds.within), c.holds.holds.boxed);
        holds = c.holds.holds.holds;
        least = least_behind c;
      })
      | inr none ↦ inr (no_list none)
    ]
      where
        no_list : ((x : ℕ) → x < w + 1 → Column x → ⊥) → NoList (suc n) D
        no_list none [] each boxed d = absurd (omega (arith, each))
        no_list none (p ∷ Q) each boxed d =
            none_column p.x (none p.x (omega (arith, boxed.0))) p.y boxed.1 Q (omega (arith, each)) boxed.2 d

  found : (n : ℕ) (D : List Point → Type 0) → ((P : List Point) → Decides (D P)) → LeastList n D ⊎ NoList n D
  found zero D decide = elim (decide []) [
    | inl d ↦ inl (record { points = []; each = refl; boxed = tt; holds = d; least = λ Q each boxed holds. tt })
    | inr not ↦ inr (λ Q each boxed d. not (subst D (nothing Q each) d))
  ]
  found (suc n) D decide = found_behind n D (λ x y. found n (behind D x y) (λ P. decide ((record { x = x; y = y }) ∷ P)))

-- Valid placements.

abbrev room_x : Sheet → ℕ → ℕ
room_x Square s = s
room_x (Strip width) s = 1 * width

decides_lies : (G : Sheet) (s : ℕ) (p : Point) → Decides (Lies G 1 s p)
decides_lies Square s p = decides_both (p.x ≤ s) (p.y ≤ s) (decides_le p.x s) (decides_le p.y s)
decides_lies (Strip width) s p = decides_both (p.x ≤ 1 * width) (p.y ≤ s) (decides_le p.x (1 * width)) (decides_le p.y s)

lies_in : (G : Sheet) (s : ℕ) (p : Point) → Lies G 1 s p → (p.x ≤ room_x G s) × (p.y ≤ s)
lies_in Square s p lies = lies
lies_in (Strip width) s p lies = lies

module _ (T : TreeValue) (G : Sheet) (s : ℕ) where
  decides_valid : (P : List Point) → Decides (Valid T G 1 s P)
  decides_valid P = go (cases_eq (length P) n) (decides_all Inside inside (n + 1)) (decides_all Far far (n + 1))
    where
      n : ℕ
      n = leaf_count T

      Inside : ℕ → Type 0
      Inside i = IsLeaf T i → Lies G 1 s (point_at P i)

      Apart : ℕ → ℕ → Type 0
      Apart i j = IsPair T i j → 1 * leaf_dist T i j ≤ gap (point_at P i) (point_at P j)

      Far : ℕ → Type 0
      Far i = (j : ℕ) → j < n + 1 → Apart i j

      inside : (i : ℕ) → Decides (Inside i)
      inside i = decides_where (IsLeaf T i) (Lies G 1 s (point_at P i)) (decides_both (1 ≤ i) (i ≤ n) (decides_le 1 i) (decides_le i n)) (decides_lies G s (point_at P i))

      is_pair : (i j : ℕ) → Decides (1 ≤ i) → Decides (i < j) → Decides (j ≤ n) → Decides (IsPair T i j)
      is_pair i j (inl a) (inl b) (inl c) = inl (a, b, c)
      is_pair i j (inl a) (inl b) (inr not) = inr (λ p. not p.2)
      is_pair i j (inl a) (inr not) c = inr (λ p. not p.1)
      is_pair i j (inr not) b c = inr (λ p. not p.0)

      apart : (i j : ℕ) → Decides (Apart i j)
      apart i j = decides_where (IsPair T i j) (1 * leaf_dist T i j ≤ gap (point_at P i) (point_at P j)) (is_pair i j (decides_le 1 i) (decides_lt i j) (decides_le j n)) (decides_le (1 * leaf_dist T i j) (gap (point_at P i) (point_at P j)))

      far : (i : ℕ) → Decides (Far i)
      far i = decides_all (Apart i) (apart i) (n + 1)

      go : (length P ≡ n) ⊎ (length P ≡ n → ⊥) → Decides ((i : ℕ) → i < n + 1 → Inside i) → Decides ((i : ℕ) → i < n + 1 → Far i) → Decides (Valid T G 1 s P)
      go (inl each) (inl all_inside) (inl all_far) = inl (record {
        each = each;
        inside = λ i leaf. all_inside i (omega (arith, leaf.1)) leaf;
        far = λ i j pair. all_far i (omega (arith, pair.1, pair.2)) j (omega (arith, pair.2)) pair;
      })
      go (inr not) all_inside all_far = inr (λ v. not v.each)
      go (inl each) (inr not) all_far = inr (λ v. not (λ i less leaf. v.inside i leaf))
      go (inl each) (inl all_inside) (inr not) = inr (λ v. not (λ i less j less_j pair. v.far i j pair))

  boxed_from : (P : List Point) → ((k : ℕ) → k < length P → Lies G 1 s (get_or P k origin)) → AreBoxed (room_x G s) s P
  boxed_from [] lies = tt
  boxed_from (p ∷ P) lies =
      let here = lies_in G s p (lies 0 (omega arith)) in
      (here.0, here.1, boxed_from P (λ k less. lies (suc k) (omega (arith, less))))

  valid_boxed : (P : List Point) → Valid T G 1 s P → AreBoxed (room_x G s) s P
  valid_boxed P v = boxed_from P (λ k less. let place : k + 1 - 1 ≡ k = omega arith in subst (λ (m : ℕ). Lies G 1 s (get_or P m origin)) place (v.inside (k + 1) (omega arith, omega (arith, less, v.each))))

  pub steady_exists : (P : List Point) → Valid T G 1 s P → (Q : List Point) × IsSteady T G s Q
  steady_exists P valid = elim (found (room_x G s) s (leaf_count T) (Valid T G 1 s) decides_valid) [
    | inl r ↦ (r.points, record { valid = r.holds; least = λ Q v. r.least Q v.each (valid_boxed Q v) v })
    | inr none ↦ absurd (none P valid.each (valid_boxed P valid) valid)
  ]

not_after_both : (P Q : List Point) → length P ≡ length Q → IsNotAfter P Q → IsNotAfter Q P → P ≡ Q
not_after_both [] [] each p q = refl
not_after_both [] (r ∷ Q) each p q = absurd (omega (arith, each))
not_after_both (p ∷ P) [] each not_p not_q = absurd (omega (arith, each))
not_after_both (p ∷ P) (r ∷ Q) each (inl less) (inl more) = absurd (omega (arith, less, more))
not_after_both (p ∷ P) (r ∷ Q) each (inl less) (inr more) = absurd (omega (arith, less, more.0))
not_after_both (p ∷ P) (r ∷ Q) each (inr less) (inl more) = absurd (omega (arith, less.0, more))
not_after_both (p ∷ P) (r ∷ Q) each (inr (same, inl less)) (inr (_, inl more)) = absurd (omega (arith, less, more))
not_after_both (p ∷ P) (r ∷ Q) each (inr (same, inl less)) (inr (_, inr more)) = absurd (omega (arith, less, more.0))
not_after_both (p ∷ P) (r ∷ Q) each (inr (same, inr less)) (inr (_, inl more)) = absurd (omega (arith, less.0, more))
not_after_both (p ∷ P) (r ∷ Q) each (inr (same, inr less)) (inr (_, inr more)) =
    let rest = not_after_both P Q (omega (arith, each)) less.1 more.1 in
    λ k. (record { x = same k; y = less.0 k }) ∷ rest k

pub one_steady : (T : TreeValue) (G : Sheet) (s : ℕ) (P Q : List Point) → IsSteady T G s P → IsSteady T G s Q → P ≡ Q
one_steady T G s P Q p q = not_after_both P Q (p.valid.each ∙ sym q.valid.each) (p.least Q q.valid) (q.least P p.valid)
