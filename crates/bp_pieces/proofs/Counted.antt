-- A set has one number of cells.
use Rattle.std.proofs.Common.{◌≡◌, ℕ, suc, refl, ap, arith}
use Rattle.bp_pieces.specs.Pieces.{Counts, CountsRows}
use Rattle.bp_pieces.specs.Pieces.Counts.{start, within, without}
use Rattle.bp_pieces.specs.Pieces.CountsRows.{none, row}

pub one_count : (In : ℕ → Type 0) (k m n : ℕ) → Counts In k m → Counts In k n → m ≡ n
one_count In _ _ _ start start = refl
one_count In _ _ _ (within c i) (within d j) = ap suc (one_count In _ _ _ c d)
one_count In _ _ _ (within c i) (without d out) = absurd (out i)
one_count In _ _ _ (without c out) (within d i) = absurd (out i)
one_count In _ _ _ (without c out) (without d away) = one_count In _ _ _ c d

pub one_area : (In : ℕ → ℕ → Type 0) (S y m n : ℕ) → CountsRows In S y m → CountsRows In S y n → m ≡ n
one_area In S _ _ _ none none = refl
one_area In S _ _ _ (row {y} {n} c m counted) (row {n = n'} d m' counted') =
    omega (arith, one_area In S y n n' c d, one_count (λ x. In x y) S m m' counted counted')
