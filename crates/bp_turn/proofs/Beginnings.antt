-- Beginnings of lists, and lists that are made element by element.
use Rattle.std.proofs.Common.{◌≡◌, ℕ, zero, suc, ◌+◌, ◌≤◌, List, [], ◌∷◌, ◌++◌, length, map, take, Some, refl, sym, ap, ◌∙◌, arith}
use Rattle.std.specs.List.{slice_get}
use Rattle.std.proofs.lemmas.List.{take-append-le}
use Rattle.std.proofs.lemmas.Option.{get_or_from_slice_get, slice_get_within}
use Rattle.std.proofs.Math.Seq.{take-suc}

module _ {X : Type 0} where
  -- a beginning of a beginning
  pub take_shorter : (m n : ℕ) (xs : List X) → m ≤ n → take m (take n xs) ≡ take m xs
  take_shorter zero n xs less = refl
  take_shorter (suc m) zero xs less = absurd (omega (arith, less))
  take_shorter (suc m) (suc n) [] less = refl
  take_shorter (suc m) (suc n) (x ∷ xs) less = ap (λ (ys : List X). x ∷ ys) (take_shorter m n xs (omega (arith, less)))

  -- what a beginning has in common with a list, the whole has too
  pub common_whole : (m : ℕ) (front whole other : List X) → m ≤ length front → front ≡ take (length front) whole → take m front ≡ take m other → take m whole ≡ take m other
  common_whole m front whole other within begins same =
      sym (take_shorter m (length front) whole within) ∙ sym (ap (take m) begins) ∙ same

  pub take_more : (xs : List X) (k : ℕ) (x : X) → slice_get xs k ≡ Some x → take (k + 1) xs ≡ take k xs ++ x ∷ []
  take_more xs k x at =
      let next : k + 1 ≡ suc k = omega arith in
      ap (λ (n : ℕ). take n xs) next ∙ take-suc xs k x (slice_get_within xs k x at) ∙ ap (λ (y : X). take k xs ++ y ∷ []) (get_or_from_slice_get xs k x x at)

  -- one element less
  pub take_front : (m : ℕ) (old new : List X) (x : X) → old ≡ new ++ x ∷ [] → m ≤ length new → take m old ≡ take m new
  take_front m old new x is within = ap (take m) is ∙ take-append-le m new (x ∷ []) within

module _ {X Y : Type 0} (f : X → Y) where
  map_push : (xs : List X) (x : X) → map f (xs ++ x ∷ []) ≡ map f xs ++ f x ∷ []
  map_push [] x = refl
  map_push (y ∷ xs) x = ap (λ (ys : List Y). f y ∷ ys) (map_push xs x)

  -- one more of a list is mapped
  pub mapped_more : (xs : List X) (k : ℕ) (x : X) (old new : List Y) → slice_get xs k ≡ Some x → old ≡ map f (take k xs) → new ≡ old ++ f x ∷ [] → new ≡ map f (take (k + 1) xs)
  mapped_more xs k x old new at before after =
      after ∙ ap (λ (ys : List Y). ys ++ f x ∷ []) before ∙ sym (map_push (take k xs) x) ∙ ap (map f) (sym (take_more xs k x at))
