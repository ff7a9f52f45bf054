-- An order by readings is met exactly where the one coordinate lies before the other by the weight.
use Rattle.std.proofs.Common.{◌≡◌, ℕ, ◌+◌, ◌*◌, ◌≤◌, ◌==◌, ◌&&◌, nat_le, nat_lt, Bool, true, false, if◌then◌else◌, IsTrue, List, refl, sym, ◌∙◌, ap, subst, arith}
use Rattle.std.proofs.Math.Nat.{mul-add}
use Rattle.std.proofs.lemmas.Bool.{and_parts, eqb-true, leb-true}
use Rattle.bp_base.specs.declared.point.Axis.{Axis}
use Rattle.bp_base.specs.declared.point.Axis.TheVariants.{X, Y}
use Rattle.bp_base.specs.declared.point.Point.{Point}
use Rattle.bp_lemmas.specs.Systems.{Order, apart, facing, facing_itself, never, IsMet}
use Rattle.bp_lemmas.specs.Trees.{leaf_of, coordinates}
use Rattle.bp_mirror.specs.declared.kind.MirrorKind.{MirrorKind}
use Rattle.bp_mirror.specs.declared.kind.MirrorKind.TheVariants.{Book, Diagonal}
use Rattle.bp_mirror.specs.Readings.{Reading, plain, turned, half}
use Rattle.bp_mirror.specs.Systems.{variable_before, variables_face, order_by}
use Rattle.bp_mirror.proofs.Read.{same_number, IsOne, IsAcross, IsRead}

module _ (q s : ℕ) (P : List Point) where
  abbrev c : ℕ → ℕ
  c = coordinates P

  -- by variables of one leaf the lesser number has the lesser coordinate
  same_leaf : (kind : MirrorKind) (axis : Axis) (u v : ℕ) → IsOne s P kind axis u → IsOne s P kind axis v → leaf_of u ≡ leaf_of v → v ≤ u → c v ≤ c u
  same_leaf Book X u v one other leaf less = omega (arith, ap c (same_number u v (one.0 ∙ sym other.0) leaf))
  same_leaf Book Y u v one other leaf less = omega (arith, ap c (same_number u v (one ∙ sym other) leaf))
  same_leaf Diagonal axis u v one other leaf less = one v (sym leaf) less

  low : (kind : MirrorKind) (axis : Axis) (u : ℕ) → IsAcross kind axis → IsOne s P kind axis u → 2 * c u ≤ s
  low Book X u across one = one.1
  low Book Y u across one = absurd across
  low Diagonal axis u across one = absurd across

  unless : (b : Bool) (o : Order) → (IsTrue b → ⊥) → IsMet q s c o → IsMet q s c (if b then never else o)
  unless true o not met = absurd (not refl)
  unless false o not met = met

  unless_back : (b : Bool) (o : Order) → IsMet q s c (if b then never else o) → IsMet q s c o
  unless_back true o met = absurd met
  unless_back false o met = met

  before_met : (kind : MirrorKind) (axis : Axis) (u v w : ℕ) → IsOne s P kind axis u → IsOne s P kind axis v → 1 ≤ q * w → c u + q * w ≤ c v → IsMet q s c (variable_before u v w)
  unfolding variable_before
  before_met kind axis u v w one other far met =
      unless ((leaf_of u == leaf_of v) && nat_le v u) (apart u v w) (λ is.
      let parts = and_parts (leaf_of u == leaf_of v) (nat_le v u) is in
      omega (arith, same_leaf kind axis u v one other (eqb-true (leaf_of u) (leaf_of v) parts.0) (leb-true v u parts.1), far, met)) met

  before_back : (u v w : ℕ) → IsMet q s c (variable_before u v w) → c u + q * w ≤ c v
  unfolding variable_before
  before_back u v w met = unless_back ((leaf_of u == leaf_of v) && nat_le v u) (apart u v w) met

  facing_by : (b d : Bool) (u v w : ℕ) → (IsTrue b → u ≡ v) → c u + c v + q * w ≤ s → IsMet q s c (if b then facing_itself u w else (if d then facing u v w else facing v u w))
  facing_by true d u v w same met = subst (λ (k : ℕ). c u + c k + q * w ≤ s) (sym (same refl)) met
  facing_by false true u v w same met = met
  facing_by false false u v w same met = omega (arith, met)

  facing_back_by : (b d : Bool) (u v w : ℕ) → (IsTrue b → u ≡ v) → IsMet q s c (if b then facing_itself u w else (if d then facing u v w else facing v u w)) → c u + c v + q * w ≤ s
  facing_back_by true d u v w same met = subst (λ (k : ℕ). c u + c k + q * w ≤ s) (same refl) met
  facing_back_by false true u v w same met = met
  facing_back_by false false u v w same met = omega (arith, met)

  face_met : (u v w : ℕ) → c u + c v + q * w ≤ s → IsMet q s c (variables_face u v w)
  unfolding variables_face
  face_met u v w met = facing_by (u == v) (nat_lt u v) u v w (eqb-true u v) met

  face_back : (u v w : ℕ) → IsMet q s c (variables_face u v w) → c u + c v + q * w ≤ s
  unfolding variables_face
  face_back u v w met = facing_back_by (u == v) (nat_lt u v) u v w (eqb-true u v) met

  twice : (w : ℕ) → q * (2 * w) ≡ 2 * (q * w)
  twice w =
      let is : 2 * w ≡ w + w = omega arith in
      omega (arith, ap (λ (k : ℕ). q * k) is, mul-add q w w)

  module _ (kind : MirrorKind) (axis : Axis) (x y w : ℕ) where
    abbrev Read : Reading → ℕ → Type 0
    Read r at = IsRead s P r kind axis at

    pub read_met : (r t : Reading) → Read r x → Read t y → 1 ≤ q * w → x + q * w ≤ y → IsMet q s c (order_by r t w)
    read_met (plain u) (plain v) a b far met = before_met kind axis u v w a.0 b.0 far (omega (arith, a.1, b.1, met))
    read_met (plain u) (turned v) a b far met = face_met u v w (omega (arith, a.1, b.1.1, met))
    read_met (plain u) half a b far met = omega (arith, a.1, b.1, met, twice w)
    read_met (turned u) (plain v) a b far met = omega (arith, low kind axis u a.0 a.1.0, low kind axis v a.0 b.0, a.1.1, b.1, far, met)
    read_met (turned u) (turned v) a b far met = before_met kind axis v u w b.1.0 a.1.0 far (omega (arith, a.1.1, b.1.1, met))
    read_met (turned u) half a b far met = omega (arith, low kind axis u a.0 a.1.0, a.1.1, b.1, far, met)
    read_met half (plain v) a b far met = omega (arith, low kind axis v a.0 b.0, a.1, b.1, far, met)
    read_met half (turned v) a b far met = omega (arith, a.1, b.1.1, met, twice w)
    read_met half half a b far met = omega (arith, a.1, b.1, far, met)

    pub read_back : (r t : Reading) → Read r x → Read t y → IsMet q s c (order_by r t w) → x + q * w ≤ y
    read_back (plain u) (plain v) a b met = omega (arith, a.1, b.1, before_back u v w met)
    read_back (plain u) (turned v) a b met = omega (arith, a.1, b.1.1, face_back u v w met)
    read_back (plain u) half a b met = omega (arith, a.1, b.1, met, twice w)
    read_back (turned u) (plain v) a b met = absurd met
    read_back (turned u) (turned v) a b met = omega (arith, a.1.1, b.1.1, before_back v u w met)
    read_back (turned u) half a b met = absurd met
    read_back half (plain v) a b met = absurd met
    read_back half (turned v) a b met = omega (arith, a.1, b.1.1, met, twice w)
    read_back half half a b met = absurd met
