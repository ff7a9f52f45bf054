-- What is read of a source, by what was left of it before and what is left of it after, and what takes its bytes piece by piece.
use Rattle.std.specs.Prelude.{◌≡◌, ◌⊎◌, ℕ, ◌≤◌, List, [], ◌∷◌, length, take, drop}
use Rattle.std.specs.List.{flat_map}
use Rattle.std.specs.declared.option.Option.{Option}
use Rattle.std.specs.declared.option.Option.TheVariants.{None, Some}

-- P holds of the bytes, where they are told
abbrev pub Told : Option (List ℕ) → (List ℕ → Type 0) → Type 0
Told None P = Unit {0}
Told (Some bytes) P = P bytes

-- these bytes were read of what was left, where that is told
abbrev pub HasRead : Option (List ℕ) → Option (List ℕ) → List ℕ → Type 0
HasRead None now bytes = now ≡ None
HasRead (Some left) now bytes = (now ≡ Some (drop (length bytes) left)) × (bytes ≡ take (length bytes) left)

-- all bytes were read, or the first `most` of them
abbrev pub IsReadTo : ℕ → Option (List ℕ) → Option (List ℕ) → List ℕ → Type 0
IsReadTo most left after bytes = HasRead left after bytes × ((length bytes ≡ most) ⊎ ((length bytes ≤ most) × Told left (λ b. length b ≡ length bytes)))

-- the bytes of pieces, one after the other
abbrev pub joined : List (List ℕ) → List ℕ
joined pieces = flat_map (λ (piece : List ℕ). piece) pieces

-- p has become q by these pieces, one after the other
abbrev pub TakesEach : {I : Type 0} → (I → List ℕ → I → Type 0) → I → List (List ℕ) → I → Type 0
TakesEach takes p [] q = p ≡ q
TakesEach {I} takes p (piece ∷ pieces) q = (m : I) × takes p piece m × TakesEach takes m pieces q

-- p has become q by all that was left, or by its first `most` bytes, and so many came
abbrev pub HasTakenAll : {I : Type 0} → (I → List ℕ → I → Type 0) → ℕ → I → I → Option (List ℕ) → Option (List ℕ) → ℕ → Type 0
HasTakenAll takes most p q left after count =
    (pieces : List (List ℕ)) × TakesEach takes p pieces q × IsReadTo most left after (joined pieces) × (length (joined pieces) ≡ count)
