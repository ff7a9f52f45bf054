-- What a path places, step by step.
use Rattle.std.proofs.Common.{◌≡◌, ℕ, ◌+◌, ◌≤◌, ◌⊎◌, List, [], ◌∷◌, length, get_or, take, Some, sym, subst, arith, inl, inr}
use Rattle.std.specs.List.{slice_get}
use Rattle.std.proofs.lemmas.List.{take_all}
use Rattle.std.proofs.lemmas.List.Elements.{All-get_or}
use Rattle.std.proofs.lemmas.Option.{get_or_from_slice_get, slice_get_within}
use Rattle.bp_base.specs.declared.point.Axis.{Axis}
use Rattle.bp_base.specs.declared.path.Step.{Step}
use Rattle.bp_base.specs.Path.{IsPairOf}
use Rattle.bp_base.specs.Tree.{TreeValue}
use Rattle.bp_metric.specs.Distance.{leaf_dist}
use Rattle.bp_metric.specs.Chains.{PlacesBy, Places, HasPairsOf}
use Rattle.bp_metric.proofs.Chains.{places_cases, places_one, places_at, take_step}

module _ (path : List Step) (axis : Axis) (b k : ℕ) where
  -- what holds of each leaf placed before b by the first k steps and by the next
  pub each_more : (Q : ℕ → Type 0) (s : Step) → slice_get path k ≡ Some s → ((a : ℕ) → Places (take k path) axis a b → Q a) → ((a : ℕ) → PlacesBy axis a b s.pair s.choice → Q a) → (a : ℕ) → Places (take (k + 1) path) axis a b → Q a
  each_more Q s at so_far here a p =
      elim (places_cases (take k path) (s ∷ []) axis a b (subst (λ (q : List Step). Places q axis a b) (take_step path k s at) p)) [
        | inl front ↦ so_far a front
        | inr back ↦ here a (places_one s axis a b back)
      ]

  pub each_all : (Q : ℕ → Type 0) → length path ≤ k → ((a : ℕ) → Places (take k path) axis a b → Q a) → (a : ℕ) → Places path axis a b → Q a
  each_all Q all so_far a p = so_far a (subst (λ (q : List Step). Places q axis a b) (sym (take_all k path all)) p)

pub pair_at : (n : ℕ) (path : List Step) (k : ℕ) (s : Step) → slice_get path k ≡ Some s → HasPairsOf n path → IsPairOf n s.pair
pair_at n path k s at pairs =
    let e = get_or_from_slice_get path k s s at in
    subst (λ (r : Step). IsPairOf n r.pair) e (All-get_or (λ (r : Step). IsPairOf n r.pair) path k s (slice_get_within path k s at) pairs)

-- the greatest that the first steps ask for, and what the next one asks for
module _ (T : TreeValue) (path : List Step) (axis : Axis) (leaf k : ℕ) (lows : List ℕ) where
  abbrev pub MadeUpBy : (ℕ → Type 0) → ℕ → Type 0
  MadeUpBy Placed v = (v ≡ 0) ⊎ ((p : ℕ) × Placed p × (get_or lows p 0 + leaf_dist T p leaf ≡ v))

  pub greatest_more : (s : Step) (most asked new : ℕ) → slice_get path k ≡ Some s → ((p : ℕ) → Places (take k path) axis p leaf → get_or lows p 0 + leaf_dist T p leaf ≤ most) → MadeUpBy (λ p. Places path axis p leaf) most → ((p : ℕ) → PlacesBy axis p leaf s.pair s.choice → get_or lows p 0 + leaf_dist T p leaf ≡ asked) → MadeUpBy (λ p. PlacesBy axis p leaf s.pair s.choice) asked → most ≤ new → asked ≤ new → (new ≡ most) ⊎ (new ≡ asked) → ((p : ℕ) → Places (take (k + 1) path) axis p leaf → get_or lows p 0 + leaf_dist T p leaf ≤ new) × MadeUpBy (λ p. Places path axis p leaf) new
  greatest_more s most asked new at so_far made here made_here m a which = (
    each_more path axis leaf k (λ p. get_or lows p 0 + leaf_dist T p leaf ≤ new) s at
        (λ p placed. omega (arith, so_far p placed))
        (λ p by. omega (arith, here p by)),
    elim which [
      | inl old ↦ subst (MadeUpBy (λ p. Places path axis p leaf)) (sym old) made
      | inr taken ↦ subst (MadeUpBy (λ p. Places path axis p leaf)) (sym taken) (elim made_here [
        | inl none ↦ inl none
        | inr p ↦ inr (p.0, places_at path axis p.0 leaf k s at p.1, p.2)
      ])
    ],
  )
