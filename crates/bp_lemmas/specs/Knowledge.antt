-- Knowledge of a system: bounds of its coordinates by codes, and which orders hold or don't. When a fact is sure of it, what it is with a
-- fact more, and when it is broken.
use Rattle.std.specs.Prelude.{ℕ, ◌+◌, ◌-◌, ◌*◌, ◌/◌, ◌≤◌, ◌==◌, ◌||◌, nat_le, max, min, List, [], ◌∷◌, Bool, true, if◌then◌else◌, IsTrue}
use Rattle.std.specs.List.{list_any}
use Rattle.bp_base.specs.declared.point.Axis.{Axis}
use Rattle.bp_arrangement.specs.declared.fact.Fact.{Fact}
use Rattle.bp_arrangement.specs.declared.fact.Fact.TheVariants.{Before, NotBefore, Least, Below}
use Rattle.bp_lemmas.specs.Systems.{Order, apart, facing, facing_itself, never, is_order, System}

-- for each coordinate a lower and an upper code, and for each order whether it is known to hold or known not to
pub record Knowledge : Type 0 where
  pub lower : ℕ → ℕ
  pub upper : ℕ → ℕ
  pub holds : Order → Bool
  pub fails : Order → Bool

-- what is known at first
abbrev pub first_knowledge : System → Knowledge
first_knowledge S = record {
  lower = λ (u : ℕ). 0;
  upper = S.upper;
  holds = λ (o : Order). list_any (is_order o) S.known;
  fails = λ (o : Order). list_any (is_order o) S.known_not;
}

-- with a lower bound, where it is stronger
unfoldable pub raised : Knowledge → ℕ → ℕ → Knowledge
raised K u code = record K { lower = λ (k : ℕ). if k == u then max (K.lower k) code else K.lower k }

-- with an upper bound, where it is stronger
unfoldable pub lowered : Knowledge → ℕ → ℕ → Knowledge
lowered K u code = record K { upper = λ (k : ℕ). if k == u then min (K.upper k) code else K.upper k }

unfoldable pub with_order : Knowledge → Order → Knowledge
with_order K o = record K { holds = λ (p : Order). is_order p o || K.holds p }

unfoldable pub without_order : Knowledge → Order → Knowledge
without_order K o = record K { fails = λ (p : Order). is_order p o || K.fails p }

-- The upper code of a coordinate that faces another by a weight, from the other's lower code: at least 2K where that is 2K or 2K + 1.
abbrev pub facing_upper : ℕ → ℕ → ℕ → ℕ
facing_upper bound w code = 2 * (bound - (code / 2 + w))

-- and of a coordinate that faces itself: the least even code from bound - w on
abbrev pub facing_itself_upper : ℕ → ℕ → ℕ
facing_itself_upper bound w = 2 * ((bound - w + 1) / 2)

-- an order that holds gives each of its coordinates a bound
unfoldable pub pushed : System → Knowledge → Order → Knowledge
pushed S K (apart u v w) = lowered (raised K v (K.lower u + 2 * w)) u (K.upper v - 2 * w)
pushed S K (facing u v w) = lowered (lowered K u (facing_upper S.bound w (K.lower v))) v (facing_upper S.bound w (K.lower u))
pushed S K (facing_itself u w) = lowered K u (facing_itself_upper S.bound w)
pushed S K never = K

-- the bounds leave no room for the order
unfoldable pub is_refuted : System → Knowledge → Order → Bool
is_refuted S K (apart u v w) = nat_le (K.upper v) (K.lower u + 2 * w)
is_refuted S K (facing u v w) = nat_le S.bound (K.lower u / 2 + K.lower v / 2 + w)
is_refuted S K (facing_itself u w) = nat_le S.bound (K.lower u / 2 + K.lower u / 2 + w)
is_refuted S K never = true

-- with a fact more
unfoldable pub with_fact : System → Knowledge → Fact → Knowledge
with_fact S K (Before axis first second) = pushed S (with_order K (S.order axis first second)) (S.order axis first second)
with_fact S K (NotBefore axis first second) = without_order K (S.order axis first second)
with_fact S K (Least axis leaf code) = raised K (S.coordinate axis leaf) code
with_fact S K (Below axis leaf code) = lowered K (S.coordinate axis leaf) code

abbrev pub with_facts : System → Knowledge → List Fact → Knowledge
with_facts S K [] = K
with_facts S K (f ∷ facts) = with_facts S (with_fact S K f) facts

unfoldable pub is_sure : System → Knowledge → Fact → Bool
is_sure S K (Before axis first second) = K.holds (S.order axis first second)
is_sure S K (NotBefore axis first second) = K.fails (S.order axis first second) || is_refuted S K (S.order axis first second)
is_sure S K (Least axis leaf code) = nat_le code (K.lower (S.coordinate axis leaf))
is_sure S K (Below axis leaf code) = nat_le (K.upper (S.coordinate axis leaf)) code

-- the facts of a list that aren't sure
abbrev pub unsure : System → Knowledge → List Fact → List Fact
unsure S K [] = []
unsure S K (f ∷ facts) = if is_sure S K f then unsure S K facts else f ∷ unsure S K facts

-- Nothing meets the knowledge. (An upper code that would fall below 0 is kept as 0, and no lower code is below 0.)
pub data IsBroken (S : System) (K : Knowledge) : Type 0 where
  crossed : (u : ℕ) → K.upper u ≤ K.lower u → IsBroken S K
  both : (o : Order) → IsTrue (K.holds o) → IsTrue (K.fails o) → IsBroken S K
  circular : (axis : Axis) (i j : ℕ) → IsTrue (S.has_order axis i j) → IsTrue (K.holds (S.order axis i j)) → IsTrue (K.holds (S.order axis j i)) → IsBroken S K
