-- Laws of chains and cycles: by place in a list, along a path that grows, and by coordinates that meet every step.
use Rattle.std.proofs.Common.{◌≡◌, ℕ, zero, suc, ◌+◌, ◌<◌, ◌≤◌, ◌⊎◌, List, [], ◌∷◌, ◌++◌, length, get_or, take, drop, Some, refl, sym, ◌∙◌, ap, subst, arith, inl, inr}
use Rattle.std.specs.List.{slice_get}
use Rattle.std.proofs.lemmas.List.{take_more, take_all}
use Rattle.std.proofs.lemmas.Option.{get_or_from_slice_get, slice_get_within}
use Rattle.bp_base.specs.declared.point.Axis.{Axis}
use Rattle.bp_base.specs.declared.path.Step.{Step}
use Rattle.bp_base.specs.Tree.{TreeValue}
use Rattle.bp_metric.specs.Distance.{leaf_dist}
use Rattle.bp_metric.specs.Chains.{PlacesBy, Places, ArePlaced, chain_weight}

-- Steps of a path.

pub places_left : (path more : List Step) (axis : Axis) (a b : ℕ) → Places path axis a b → Places (path ++ more) axis a b
places_left [] more axis a b p = absurd p
places_left (s ∷ path) more axis a b (inl here) = inl here
places_left (s ∷ path) more axis a b (inr later) = inr (places_left path more axis a b later)

pub places_right : (path more : List Step) (axis : Axis) (a b : ℕ) → Places more axis a b → Places (path ++ more) axis a b
places_right [] more axis a b p = p
places_right (s ∷ path) more axis a b p = inr (places_right path more axis a b p)

pub places_cases : (path more : List Step) (axis : Axis) (a b : ℕ) → Places (path ++ more) axis a b → Places path axis a b ⊎ Places more axis a b
places_cases [] more axis a b p = inr p
places_cases (s ∷ path) more axis a b (inl here) = inl (inl here)
places_cases (s ∷ path) more axis a b (inr later) = elim (places_cases path more axis a b later) [
  | inl front ↦ inl (inr front)
  | inr back ↦ inr back
]

-- the last step of a path places its own pair alone
pub places_one : (s : Step) (axis : Axis) (a b : ℕ) → Places (s ∷ []) axis a b → PlacesBy axis a b s.pair s.choice
places_one s axis a b (inl here) = here
places_one s axis a b (inr later) = absurd later

pub places_at : (path : List Step) (axis : Axis) (a b k : ℕ) (s : Step) → slice_get path k ≡ Some s → PlacesBy axis a b s.pair s.choice → Places path axis a b
places_at [] axis a b k s at by = absurd (cc)
places_at (t ∷ path) axis a b zero s at by = let e : t ≡ s = cc in inl (subst (λ (r : Step). PlacesBy axis a b r.pair r.choice) (sym e) by)
places_at (t ∷ path) axis a b (suc k) s at by = inr (places_at path axis a b k s at by)

-- the first k + 1 steps, by the step at k
pub take_step : (path : List Step) (k : ℕ) (s : Step) → slice_get path k ≡ Some s → take (k + 1) path ≡ take k path ++ s ∷ []
take_step path k s at =
    take_more path k s (slice_get_within path k s at) ∙ ap (λ (r : Step). take k path ++ r ∷ []) (get_or_from_slice_get path k s s at)

-- where no earlier step and not this one places a before b, none so far does
pub none_more : (path : List Step) (axis : Axis) (a b k : ℕ) (s : Step) → slice_get path k ≡ Some s → (Places (take k path) axis a b → ⊥) → (PlacesBy axis a b s.pair s.choice → ⊥) → Places (take (k + 1) path) axis a b → ⊥
none_more path axis a b k s at none not p =
    elim (places_cases (take k path) (s ∷ []) axis a b (subst (λ (q : List Step). Places q axis a b) (take_step path k s at) p)) [
      | inl front ↦ none front
      | inr back ↦ not (places_one s axis a b back)
    ]

pub none_all : (path : List Step) (axis : Axis) (a b k : ℕ) → length path ≤ k → (Places (take k path) axis a b → ⊥) → Places path axis a b → ⊥
none_all path axis a b k all none p = none (subst (λ (q : List Step). Places q axis a b) (sym (take_all k path all)) p)

-- Lists, place by place.

pub placed_at : (path : List Step) (axis : Axis) (xs : List ℕ) (k : ℕ) → ArePlaced path axis xs → k + 1 < length xs → Places path axis (get_or xs k 0) (get_or xs (k + 1) 0)
placed_at path axis [] k placed less = absurd (omega arith)
placed_at path axis (x ∷ []) k placed less = absurd (omega arith)
placed_at path axis (x ∷ y ∷ more) zero placed less = placed.0
placed_at path axis (x ∷ y ∷ more) (suc k) placed less =
    let next : suc k + 1 ≡ suc (k + 1) = omega arith in
    rw next (placed_at path axis (y ∷ more) k placed.1 (omega arith))

pub placed_from : (path : List Step) (axis : Axis) (xs : List ℕ) → ((k : ℕ) → k + 1 < length xs → Places path axis (get_or xs k 0) (get_or xs (k + 1) 0)) → ArePlaced path axis xs
placed_from path axis [] each = tt
placed_from path axis (x ∷ []) each = tt
placed_from path axis (x ∷ y ∷ more) each =
    (each 0 (omega arith), placed_from path axis (y ∷ more) (λ k less. let next : suc k + 1 ≡ suc (k + 1) = omega arith in rw next at (each (suc k) (omega arith))))

-- the weight from place k on, one step further
pub weight_more : (T : TreeValue) (xs : List ℕ) (k : ℕ) → k + 1 < length xs → chain_weight T (drop k xs) ≡ leaf_dist T (get_or xs k 0) (get_or xs (k + 1) 0) + chain_weight T (drop (k + 1) xs)
weight_more T [] k less = absurd (omega arith)
weight_more T (x ∷ []) k less = absurd (omega arith)
weight_more T (x ∷ y ∷ more) zero less = refl
weight_more T (x ∷ y ∷ more) (suc k) less =
    let next : suc k + 1 ≡ suc (k + 1) = omega arith in
    rw next (weight_more T (y ∷ more) k (omega arith))

pub weight_last : (T : TreeValue) (xs : List ℕ) (k : ℕ) → length xs ≤ k + 1 → chain_weight T (drop k xs) ≡ 0
weight_last T [] zero most = refl
weight_last T [] (suc k) most = refl
weight_last T (x ∷ []) zero most = refl
weight_last T (x ∷ []) (suc k) most = weight_last T [] k (omega arith)
weight_last T (x ∷ y ∷ more) zero most = absurd (omega arith)
weight_last T (x ∷ y ∷ more) (suc k) most = weight_last T (y ∷ more) k (omega arith)
