-- Lemmas that each stand on those before them, told one by one.
use Rattle.std.proofs.Common.{◌≡◌, ℕ, zero, suc, ◌<◌, ◌++◌, List, [], ◌∷◌, length, take, get_or, All, refl, sym, subst, arith}
use Rattle.std.proofs.lemmas.List.{get_or-take, length-take}
use Rattle.bp_lemmas.specs.Systems.{System}
use Rattle.bp_arrangement.specs.declared.fact.Fact.{Fact}
use Rattle.bp_lemmas.specs.Standing.{Lemma, Stands, EachStands, facts_of}

abbrev pub none : Lemma
none = record { facts = []; hints = [] }

nothing_more : (xs : List (List Fact)) → xs ≡ xs ++ []
nothing_more [] = refl
nothing_more (x ∷ xs) = λ i. x ∷ nothing_more xs i

one_more : (xs : List (List Fact)) (y : List Fact) (ys : List (List Fact)) → (xs ++ y ∷ []) ++ ys ≡ xs ++ y ∷ ys
one_more [] y ys = refl
one_more (x ∷ xs) y ys = λ i. x ∷ one_more xs y ys i

module _ (S : System) where
  pub each_at : (earlier : List (List Fact)) (ls : List Lemma) (k : ℕ) → EachStands S earlier ls → k < length ls → Stands S (earlier ++ facts_of (take k ls)) (get_or ls k none)
  each_at earlier [] k each less = absurd (omega (arith, less))
  each_at earlier (l ∷ ls) zero each less = subst (λ (e : List (List Fact)). Stands S e l) (nothing_more earlier) each.0
  each_at earlier (l ∷ ls) (suc k) each less =
      subst (λ (e : List (List Fact)). Stands S e (get_or ls k none)) (one_more earlier l.facts (facts_of (take k ls))) (each_at (earlier ++ l.facts ∷ []) ls k each.1 (omega (arith, less)))

  pub at_each : (earlier : List (List Fact)) (ls : List Lemma) → ((k : ℕ) → k < length ls → Stands S (earlier ++ facts_of (take k ls)) (get_or ls k none)) → EachStands S earlier ls
  at_each earlier [] each = tt
  at_each earlier (l ∷ ls) each = (
    subst (λ (e : List (List Fact)). Stands S e l) (sym (nothing_more earlier)) (each 0 (omega arith)),
    at_each (earlier ++ l.facts ∷ []) ls (λ k less. subst (λ (e : List (List Fact)). Stands S e (get_or ls k none)) (sym (one_more earlier l.facts (facts_of (take k ls)))) (each (suc k) (omega (arith, less)))),
  )

-- what holds of all in front of a place holds of each
pub in_front : {X : Type 0} (P : List X → Type 0) (xs : List (List X)) (k n : ℕ) → k < n → k < length xs → All P (take n xs) → P (get_or xs k [])
in_front P xs k n less within all =
    subst P (get_or-take n xs k [] less) (all k [] (omega (arith, length-take n xs, less, within)))
