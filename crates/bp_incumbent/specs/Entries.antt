-- What each pass did stands in an entry beside its number. Sums over such entries, and the entries of new passes.
use Rattle.std.specs.Prelude.{ℕ, ◌==◌, cond, Bool, List, [], ◌∷◌, map}
use Rattle.std.specs.List.{sum_by, range_with_len}

-- 1 where the two are equal, and else 0
abbrev pub one_at : ℕ → ℕ → ℕ
one_at x y = cond (y == x) 1 0

-- how often x stands in the list
abbrev pub times : ℕ → List ℕ → ℕ
times x xs = sum_by (one_at x) xs

-- 1 for true, and else 0
abbrev pub flag : Bool → ℕ
flag b = cond b 1 0

-- the first entry is changed
abbrev pub at_first : {E : Type 0} → (E → E) → List E → List E
at_first change [] = []
at_first change (e ∷ es) = change e ∷ es

-- the entries of the n passes from number k on
abbrev pub numbered : {E : Type 0} → (ℕ → E) → ℕ → ℕ → List E
numbered entry k n = map entry (range_with_len k n)
