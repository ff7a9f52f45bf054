-- Canonical decimal: `0`, or a digit from 1 to 9 and further digits.
use Rattle.std.specs.Prelude.{◌≡◌, ℕ, ◌≤◌, List, decimal, Option, None, Some}
use Rattle.bp_base.specs.Limits.{most_number}

-- the greatest number of ten digits
abbrev pub most_long_number : ℕ
most_long_number = 9999999999

-- the bytes are the canonical decimal of n, which is at most `most`
abbrev pub IsDecimal : ℕ → List ℕ → ℕ → Type 0
IsDecimal most bytes n = (bytes ≡ decimal n) × (n ≤ most)

-- a number of at most nine digits
abbrev pub IsNumber : List ℕ → ℕ → Type 0
IsNumber bytes n = IsDecimal most_number bytes n

-- a number of at most ten digits
abbrev pub IsLongNumber : List ℕ → ℕ → Type 0
IsLongNumber bytes n = IsDecimal most_long_number bytes n

-- what reading a number answers: the number, or none exactly where there is none
abbrev pub ReadsDecimal : ℕ → List ℕ → Option ℕ → Type 0
ReadsDecimal most bytes None = (n : ℕ) → IsDecimal most bytes n → ⊥
ReadsDecimal most bytes (Some n) = IsDecimal most bytes n
