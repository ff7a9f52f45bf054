-- Systems: coordinates on a grid q times finer, orders of two of them, and what is known of them at first. How facts and hints, which speak
-- of leaves on an axis, name the coordinates and orders is a part of the system: names of the same order are told apart by nothing.
use Rattle.std.specs.Prelude.{◌⊎◌, ℕ, ◌+◌, ◌*◌, ◌<◌, ◌≤◌, ◌==◌, ◌&&◌, List, [], ◌∷◌, Bool, true, false, IsTrue, All}
use Rattle.bp_base.specs.declared.point.Axis.{Axis}
use Rattle.bp_base.specs.declared.point.Axis.TheVariants.{X, Y}
use Rattle.bp_arrangement.specs.Facts.{mark}

-- What an order says. Coordinates are numbers, weights are told in steps of the coarse grid.
pub data Order : Type 0 where
  -- the first coordinate and the weight are at most the second
  apart : ℕ → ℕ → ℕ → Order
  -- the two coordinates and the weight are at most the side; a system names the lesser number first
  facing : ℕ → ℕ → ℕ → Order
  -- twice the coordinate and the weight are at most the side
  facing_itself : ℕ → ℕ → Order
  -- an order that no coordinates meet
  never : Order

abbrev pub is_order : Order → Order → Bool
is_order (apart u v w) (apart a b d) = (u == a) && (v == b) && (w == d)
is_order (apart u v w) (facing a b d) = false
is_order (apart u v w) (facing_itself a d) = false
is_order (apart u v w) never = false
is_order (facing u v w) (apart a b d) = false
is_order (facing u v w) (facing a b d) = (u == a) && (v == b) && (w == d)
is_order (facing u v w) (facing_itself a d) = false
is_order (facing u v w) never = false
is_order (facing_itself u w) (apart a b d) = false
is_order (facing_itself u w) (facing a b d) = false
is_order (facing_itself u w) (facing_itself a d) = (u == a) && (w == d)
is_order (facing_itself u w) never = false
is_order never (apart a b d) = false
is_order never (facing a b d) = false
is_order never (facing_itself a d) = false
is_order never never = true

-- of a side s and coordinates c on a grid q times finer the order is so
abbrev pub IsMet : (q s : ℕ) → (ℕ → ℕ) → Order → Type 0
IsMet q s c (apart u v w) = c u + q * w ≤ c v
IsMet q s c (facing u v w) = c u + c v + q * w ≤ s
IsMet q s c (facing_itself u w) = c u + c u + q * w ≤ s
IsMet q s c never = ⊥

-- one of the orders is so
abbrev pub OneIsMet : (q s : ℕ) → (ℕ → ℕ) → List Order → Type 0
OneIsMet q s c [] = ⊥
OneIsMet q s c (o ∷ orders) = IsMet q s c o ⊎ OneIsMet q s c orders

-- an order without weight, which holds for good
pub record Lasting : Type 0 where
  pub earlier : ℕ
  pub later : ℕ

pub record System : Type 0 where
  -- sides lie below it
  pub bound : ℕ
  -- the coordinate of a leaf on an axis, where there is one
  pub has_coordinate : Axis → ℕ → Bool
  pub coordinate : Axis → ℕ → ℕ
  -- the order by which a leaf lies before another on an axis, where there is one
  pub has_order : Axis → ℕ → ℕ → Bool
  pub order : Axis → ℕ → ℕ → Order
  -- whether two leaves are a pair, one of whose orders must hold
  pub has_pair : ℕ → ℕ → Bool
  -- the orders between two leaves that hold for good
  pub lasting : ℕ → ℕ → List Lasting
  -- what is known at first: a code that each coordinate lies below, orders that hold, and orders that don't
  pub upper : ℕ → ℕ
  pub known : List Order
  pub known_not : List Order

-- the orders of a pair, of which one must hold
abbrev pub group : System → ℕ → ℕ → List Order
group S i j = S.order X i j ∷ S.order X j i ∷ S.order Y i j ∷ S.order Y j i ∷ []

-- the side and the coordinates meet the system
pub record Meets (S : System) (q s : ℕ) (c : ℕ → ℕ) : Type 0 where
  pub below : (u : ℕ) → c u < mark q (S.upper u)
  pub known : All (IsMet q s c) S.known
  pub known_not : All (λ o. IsMet q s c o → ⊥) S.known_not
  pub lasting : (i j : ℕ) → All (λ l. c l.earlier ≤ c l.later) (S.lasting i j)
  pub one : (i j : ℕ) → IsTrue (S.has_pair i j) → OneIsMet q s c (group S i j)
  pub not_both : (axis : Axis) (i j : ℕ) → IsTrue (S.has_order axis i j) → IsMet q s c (S.order axis i j) → IsMet q s c (S.order axis j i) → ⊥

-- no side below the bound has coordinates that meet the system, on any finer grid either
abbrev pub NoneMeets : System → Type 0
NoneMeets S = (q s : ℕ) (c : ℕ → ℕ) → 1 ≤ q → s < q * S.bound → Meets S q s c → ⊥
