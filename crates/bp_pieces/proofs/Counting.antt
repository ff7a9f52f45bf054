-- Counting cells: of an interval, of a band, of two sets without a common cell, and of the parts of a list.
use Rattle.std.proofs.Common.{◌≡◌, ◌⊎◌, ℕ, zero, suc, ◌+◌, ◌*◌, ◌<◌, ◌≤◌, ◌↔◌, List, [], ◌∷◌, length, refl, subst, arith, inl, inr}
use Rattle.std.specs.List.{sum_by}
use Rattle.std.proofs.lemmas.List.Sums.{sum_by-append}
use Rattle.bp_base.specs.declared.point.Piece.{Piece}
use Rattle.bp_pieces.specs.Pieces.{Counts, CountsRows, part_at}
use Rattle.bp_pieces.specs.Pieces.Counts.{start, within, without}
use Rattle.bp_pieces.specs.Pieces.CountsRows.{none, row}

module _ (In : ℕ → Type 0) where
  pub counts_as : (k n k' n' : ℕ) → k ≡ k' → n ≡ n' → Counts In k n → Counts In k' n'
  counts_as k n k' n' e f c = subst (λ (i : ℕ). Counts In i n') e (subst (λ (i : ℕ). Counts In k i) f c)

  pub counts_in : (k n d : ℕ) → Counts In k n → ((x : ℕ) → k ≤ x → x < k + d → In x) → Counts In (k + d) (n + d)
  counts_in k n zero c all = counts_as k n (k + zero) (n + zero) (omega arith) (omega arith) c
  counts_in k n (suc d) c all =
      let before = counts_in k n d c (λ x from to. all x from (omega (arith, to))) in
      counts_as (suc (k + d)) (suc (n + d)) (k + suc d) (n + suc d) (omega arith) (omega arith) (within before (all (k + d) (omega arith) (omega arith)))

  pub counts_out : (k n d : ℕ) → Counts In k n → ((x : ℕ) → k ≤ x → x < k + d → In x → ⊥) → Counts In (k + d) n
  counts_out k n zero c out = counts_as k n (k + zero) n (omega arith) refl c
  counts_out k n (suc d) c out =
      let before = counts_out k n d c (λ x from to. out x from (omega (arith, to))) in
      counts_as (suc (k + d)) n (k + suc d) n (omega arith) refl (without before (out (k + d) (omega arith) (omega arith)))

  pub counts_most : (k n : ℕ) → Counts In k n → n ≤ k
  counts_most _ _ start = omega arith
  counts_most _ _ (within {k} {n} c i) = omega (arith, counts_most k n c)
  counts_most _ _ (without {k} {n} c out) = omega (arith, counts_most k n c)

  pub counts_none : (k : ℕ) → ((x : ℕ) → In x → ⊥) → Counts In k 0
  counts_none zero out = start
  counts_none (suc k) out = without (counts_none k out) (out k)

pub counts_same : (P Q : ℕ → Type 0) (k n : ℕ) → ((x : ℕ) → x < k → (P x ↔ Q x)) → Counts P k n → Counts Q k n
counts_same P Q _ _ same start = start
counts_same P Q _ _ same (within {k} {n} c i) =
    within (counts_same P Q k n (λ x less. same x (omega (arith, less))) c) ((same k (omega arith)).0 i)
counts_same P Q _ _ same (without {k} {n} c out) =
    without (counts_same P Q k n (λ x less. same x (omega (arith, less))) c) (λ q. out ((same k (omega arith)).1 q))

pub counts_both : (P Q R : ℕ → Type 0) → ((x : ℕ) → P x → R x) → ((x : ℕ) → Q x → R x) → ((x : ℕ) → R x → P x ⊎ Q x) → ((x : ℕ) → P x → Q x → ⊥) → (k m n : ℕ) → Counts P k m → Counts Q k n → Counts R k (m + n)
counts_both P Q R left right split apart _ _ _ start start = start
counts_both P Q R left right split apart _ _ _ (within {k} {n = m} c i) (within {n = n} d j) = absurd (apart k i j)
counts_both P Q R left right split apart _ _ _ (within {k} {n = m} c i) (without {n = n} d away) =
    counts_as R (suc k) (suc (m + n)) (suc k) (suc m + n) refl (omega arith) (within (counts_both P Q R left right split apart k m n c d) (left k i))
counts_both P Q R left right split apart _ _ _ (without {k} {n = m} c out) (within {n = n} d j) =
    counts_as R (suc k) (suc (m + n)) (suc k) (m + suc n) refl (omega arith) (within (counts_both P Q R left right split apart k m n c d) (right k j))
counts_both P Q R left right split apart _ _ _ (without {k} {n = m} c out) (without {n = n} d away) =
    without (counts_both P Q R left right split apart k m n c d) (λ r. elim (split k r) [ inl p ↦ out p | inr q ↦ away q ])

module _ (In : ℕ → ℕ → Type 0) (S : ℕ) where
  pub rows_as : (y n y' n' : ℕ) → y ≡ y' → n ≡ n' → CountsRows In S y n → CountsRows In S y' n'
  rows_as y n y' n' e f c =
      subst (λ (i : ℕ). CountsRows In S i n') e (subst (λ (i : ℕ). CountsRows In S y i) f c)

  one_more_row : (k m n : ℕ) → n + k * m + m ≡ n + suc k * m
  one_more_row k m n = grind arith

  -- a band of rows, each of which has m cells
  pub rows_more : (y n m k : ℕ) → CountsRows In S y n → ((v : ℕ) → y ≤ v → v < y + k → Counts (λ x. In x v) S m) → CountsRows In S (y + k) (n + k * m)
  rows_more y n m zero c each = rows_as y n (y + zero) (n + zero * m) (omega arith) (omega arith) c
  rows_more y n m (suc k) c each =
      let before = rows_more y n m k c (λ v from to. each v from (omega (arith, to))) in
      rows_as (suc (y + k)) (n + k * m + m) (y + suc k) (n + suc k * m) (omega arith) (one_more_row k m n) (row before m (each (y + k) (omega arith) (omega arith)))

  row_times : (y : ℕ) → suc y * S ≡ y * S + S
  row_times y = grind arith

  pub rows_most : (y n : ℕ) → CountsRows In S y n → n ≤ y * S
  rows_most _ _ none = omega arith
  rows_most _ _ (row {y} {n} c m counted) =
      omega (arith, row_times y, rows_most y n c, counts_most (λ x. In x y) S m counted)

  pub rows_none : (y : ℕ) → ((u v : ℕ) → In u v → ⊥) → CountsRows In S y 0
  rows_none zero out = none
  rows_none (suc y) out = row (rows_none y out) 0 (counts_none (λ x. In x y) S (λ x. out x y))

pub rows_same : (P Q : ℕ → ℕ → Type 0) (S y n : ℕ) → ((u v : ℕ) → u < S → v < y → (P u v ↔ Q u v)) → CountsRows P S y n → CountsRows Q S y n
rows_same P Q S _ _ same none = none
rows_same P Q S _ _ same (row {y} {n} c m counted) =
    row (rows_same P Q S y n (λ u v u_in v_in. same u v u_in (omega (arith, v_in))) c) m (counts_same (λ x. P x y) (λ x. Q x y) S m (λ u u_in. same u y u_in (omega arith)) counted)

pub rows_both : (P Q R : ℕ → ℕ → Type 0) → ((x y : ℕ) → P x y → R x y) → ((x y : ℕ) → Q x y → R x y) → ((x y : ℕ) → R x y → P x y ⊎ Q x y) → ((x y : ℕ) → P x y → Q x y → ⊥) → (S y m n : ℕ) → CountsRows P S y m → CountsRows Q S y n → CountsRows R S y (m + n)
rows_both P Q R left right split apart S _ _ _ none none = none
rows_both P Q R left right split apart S _ _ _ (row {y} {n = m} c a counted) (row {n = n} d b counted') =
    let both = counts_both (λ x. P x y) (λ x. Q x y) (λ x. R x y) (λ x. left x y) (λ x. right x y) (λ x. split x y) (λ x. apart x y) S a b counted counted' in
    rows_as R S (suc y) (m + n + (a + b)) (suc y) (m + a + (n + b)) refl (omega arith) (row (rows_both P Q R left right split apart S y m n c d) (a + b) both)

split : (J : ℕ → ℕ → ℕ → Type 0) (parts : List Piece) (x y : ℕ) → (k : ℕ) × (k < suc (length parts)) × J k x y → J 0 x y ⊎ ((k : ℕ) × (k < length parts) × J (suc k) x y)
split J parts x y (zero, less, j) = inl j
split J parts x y (suc k, less, j) = inr (k, omega (arith, less), j)

-- The areas of parts that have no common cell add up to the number of the cells of all of them.
pub rows_total : (S : ℕ) (J : ℕ → ℕ → ℕ → Type 0) (parts : List Piece) → ((k : ℕ) → k < length parts → CountsRows (J k) S S (part_at parts k).area) → ((i j x y : ℕ) → i < j → j < length parts → J i x y → J j x y → ⊥) → CountsRows (λ x y. (k : ℕ) × (k < length parts) × J k x y) S S (sum_by (λ (p : Piece). p.area) parts)
rows_total S J [] each apart =
    rows_none (λ x y. (k : ℕ) × (k < 0) × J k x y) S S (λ u v (k, less, j). omega (arith, less))
rows_total S J (p ∷ parts) each apart =
    let rest = rows_total S (λ k. J (suc k)) parts (λ k less. each (suc k) (omega (arith, less))) (λ i j x y less within. apart (suc i) (suc j) x y (omega (arith, less)) (omega (arith, within))) in
    let both = rows_both (J 0) (λ x y. (k : ℕ) × (k < length parts) × J (suc k) x y) (λ x y. (k : ℕ) × (k < suc (length parts)) × J k x y) (λ x y j. (0, omega arith, j)) (λ x y (k, less, j). (suc k, omega (arith, less), j)) (split J parts) (λ x y j (k, less, l). apart 0 (suc k) x y (omega arith) (omega (arith, less)) j l) S S p.area (sum_by (λ (q : Piece). q.area) parts) (each 0 (omega arith)) rest in
    rows_as (λ x y. (k : ℕ) × (k < suc (length parts)) × J k x y) S S (p.area + sum_by (λ (q : Piece). q.area) parts) S (sum_by (λ (q : Piece). q.area) (p ∷ parts)) refl (omega (arith, sum_by-append (λ (q : Piece). q.area) (p ∷ []) parts)) both
