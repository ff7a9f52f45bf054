-- Chains can be joined, and gone back.
use Rattle.std.proofs.Common.{ℕ, sym, inl, inr}
use Rattle.bp_pieces.specs.Pieces.{IsJoined, Meet, Touch}
use Rattle.bp_pieces.specs.Pieces.IsJoined.{alone, onward}

module _ (In : ℕ → ℕ → Type 0) (Near : ℕ → ℕ → ℕ → ℕ → Type 0) where
  pub last_in : (x y u v : ℕ) → IsJoined In Near x y u v → In u v
  last_in x y _ _ (alone i) = i
  last_in x y _ _ (onward j s t n i) = i

  pub joined_on : (x y u v s t : ℕ) → IsJoined In Near x y u v → IsJoined In Near u v s t → IsJoined In Near x y s t
  joined_on x y u v _ _ j (alone i) = j
  joined_on x y u v _ _ j (onward k s t n i) = onward (joined_on x y u v _ _ j k) s t n i

  pub first_in : (x y u v : ℕ) → IsJoined In Near x y u v → In x y
  first_in x y _ _ (alone i) = i
  first_in x y _ _ (onward j s t n i) = first_in x y _ _ j

  module _ (back : (x y u v : ℕ) → Near x y u v → Near u v x y) where
    pub joined_back : (x y u v : ℕ) → IsJoined In Near x y u v → IsJoined In Near u v x y
    joined_back x y _ _ (alone i) = alone i
    joined_back x y _ _ (onward {u} {v} j s t n i) =
        joined_on s t u v x y (onward (alone i) u v (back u v s t n) (last_in x y u v j)) (joined_back x y u v j)

pub touch_back : (x y u v : ℕ) → Touch x y u v → Touch u v x y
touch_back x y u v (inl (e, inl n)) = inl (sym e, inr n)
touch_back x y u v (inl (e, inr n)) = inl (sym e, inl n)
touch_back x y u v (inr (e, inl n)) = inr (sym e, inr n)
touch_back x y u v (inr (e, inr n)) = inr (sym e, inl n)

pub meet_back : (x y u v : ℕ) → Meet x y u v → Meet u v x y
meet_back x y u v (a, b, c, d) = (b, a, d, c)
