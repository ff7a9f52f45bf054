-- Rows that are vectors, seen as lists.
use Rattle.std.proofs.Common.{◌≡◌, ℕ, ◌<◌, List, [], length, get_or, map, set, sym, ◌∙◌, ap}
use Rattle.std.proofs.lemmas.List.{map-set, get_or-map}
use Rattle.bp_warm.specs.Links.{LinksValue}

module _ {V : Type 0} (items_of : V → List ℕ) where
  pub row_is : (vs : List V) (rows : List (List ℕ)) (i : ℕ) (v : V) → map items_of vs ≡ rows → i < length vs → v ≡ get_or vs i v → items_of v ≡ get_or rows i []
  row_is vs rows i v view less is =
      ap items_of is ∙ sym (get_or-map items_of vs i v [] less) ∙ ap (λ (r : List (List ℕ)). get_or r i []) view

  pub value_set : (vs : List V) (rows : List (List ℕ)) (i : ℕ) (w : V) (new : List ℕ) (room room' : ℕ) → map items_of vs ≡ rows → room ≡ room' → items_of w ≡ new → ◌≡◌ {A = LinksValue} (record { room = room; rows = map items_of (set vs i w) }) (record { room = room'; rows = set rows i new })
  value_set vs rows i w new room room' view same is =
      let e : map items_of (set vs i w) ≡ set rows i new = map-set items_of vs i w ∙ (λ k. set (view k) i (is k)) in
      λ k. record { room = same k; rows = e k }
