-- Numbers of a line, each behind a space.
use Rattle.std.proofs.Common.{◌≡◌, ℕ, List, [], ◌∷◌, ◌++◌, map, refl, subst, append_assoc, Result}
use Rattle.std.specs.declared.option.Option.{Option}
use Rattle.bp_base.specs.declared.outside.Failed.{Failed}
use Rattle.bp_text.specs.Puts.{Puts}
use Rattle.std.specs.Prelude.{decimal}
use Rattle.std.specs.List.{flat_map}
use Rattle.bp_document.specs.Lines.{word}

-- a number behind a space
abbrev pub spaced : ℕ → List ℕ
spaced n = word (decimal n)

pub all_spaced : (xs : List ℕ) → flat_map word (map decimal xs) ≡ flat_map spaced xs
all_spaced [] = refl
all_spaced (x ∷ xs) = λ i. spaced x ++ all_spaced xs i

pub spaced_at : {T : Type 0} (a c : Option (List ℕ)) (r : Result T Failed) (n m : ℕ) → n ≡ m → Puts a c r (spaced n) → Puts a c r (spaced m)
spaced_at a c r n m same puts = subst (λ (k : ℕ). Puts a c r (spaced k)) same puts

-- a keyword, two words, a rest and an end, in two groupings
pub grouped : (k m s rest end : List ℕ) → (k ++ (m ++ (s ++ rest))) ++ end ≡ ((k ++ m) ++ s) ++ (rest ++ end)
grouped k m s rest end = simp append_assoc refl

pub grouped_last : (k m s rest end : List ℕ) → (k ++ (m ++ (s ++ rest))) ++ end ≡ (((k ++ m) ++ s) ++ rest) ++ end
grouped_last k m s rest end = simp append_assoc refl
