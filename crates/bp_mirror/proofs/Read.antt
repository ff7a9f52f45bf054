-- The coordinates of a symmetric placement are as they read.
use Rattle.std.proofs.Common.{◌≡◌, ◌≢◌, ℕ, ◌+◌, ◌*◌, ◌/◌, ◌%◌, ◌≤◌, ◌==◌, Bool, true, false, if◌then◌else◌, List, [], ◌∷◌, All, refl, sym, ◌∙◌, ap, subst, arith, inl, inr}
use Rattle.std.proofs.lemmas.Bool.{cases_eq, eqb-true, eqb-false}
use Rattle.std.proofs.lemmas.List.Elements.{All-nil, All-cons, All-head, All-tail}
use Rattle.bp_base.specs.declared.path.Pair.{Pair}
use Rattle.bp_base.specs.declared.point.Axis.{Axis}
use Rattle.bp_base.specs.declared.point.Axis.TheVariants.{X, Y}
use Rattle.bp_base.specs.declared.point.Point.{Point}
use Rattle.bp_arrangement.specs.Facts.{coordinate}
use Rattle.bp_arrangement.specs.Swaps.{leaves_of}
use Rattle.bp_lemmas.specs.Trees.{number, axis_of, leaf_of, coordinates}
use Rattle.bp_lemmas.proofs.Trees.{axis_number, leaf_number, at_number}
use Rattle.bp_mirror.specs.declared.kind.MirrorKind.{MirrorKind}
use Rattle.bp_mirror.specs.declared.kind.MirrorKind.TheVariants.{Book, Diagonal}
use Rattle.bp_mirror.specs.Mirror.{IsOnAxis}
use Rattle.bp_mirror.specs.Mirrored.{TiesPair, TiesLeaf}
use Rattle.bp_mirror.specs.Readings.{Part, left, right_of, middle, part_of, Reading, plain, turned, half, reading_of}

-- a variable is told by its axis and its leaf
number_again : (u : ℕ) → number (axis_of u) (leaf_of u) ≡ u
unfolding number axis_of leaf_of
number_again u = chosen (u % 2 == 0) refl
  where
    chosen : (b : Bool) → (u % 2 == 0) ≡ b → number (if b then X else Y) (u / 2) ≡ u
    chosen true is = let even : u % 2 ≡ 0 = eqb-true (u % 2) 0 is in omega (arith, even)
    chosen false is = let odd : u % 2 ≢ 0 = eqb-false (u % 2) 0 is in omega (arith, odd)

pub same_number : (u v : ℕ) → axis_of u ≡ axis_of v → leaf_of u ≡ leaf_of v → u ≡ v
same_number u v axis leaf = sym (number_again u) ∙ ap (λ (a : Axis). number a (leaf_of u)) axis ∙ ap (number (axis_of v)) leaf ∙ number_again v

-- of one leaf no variable is less than its x, and only its x less than its y
least_x : (v k : ℕ) → leaf_of v ≡ k → v ≤ number X k → v ≡ number X k
unfolding number leaf_of
least_x v k leaf less = omega (arith, leaf, less)

x_or_y : (v k : ℕ) → leaf_of v ≡ k → (v ≢ number X k) → v ≡ number Y k
unfolding number leaf_of
x_or_y v k leaf other = omega (arith, leaf, other)

-- sides less variables and halves of the side are x of book designs
abbrev pub IsAcross : MirrorKind → Axis → Type 0
IsAcross Book X = Unit {0}
IsAcross Book Y = ⊥
IsAcross Diagonal axis = ⊥

module _ (s : ℕ) (P : List Point) where
  abbrev c : ℕ → ℕ
  c = coordinates P

  -- a left tip isn't beyond the line
  abbrev IsLow : MirrorKind → ℕ → Type 0
  IsLow Book i = 2 * coordinate P X i ≤ s
  IsLow Diagonal i = coordinate P X i ≤ coordinate P Y i

  abbrev pair_with : ℕ → ℕ → Pair
  pair_with i j = record { i = i; j = j }

  -- the tip of the leaf lies as its part says
  abbrev Stands : MirrorKind → ℕ → Part → Type 0
  Stands kind k left = IsLow kind k
  Stands kind k (right_of i) = TiesPair kind s P (pair_with i k)
  Stands kind k middle = TiesLeaf kind s P k

  low_of : (kind : MirrorKind) (i j : ℕ) → TiesPair kind s P (pair_with i j) → IsLow kind i
  low_of Book i j ties = omega (arith, ties.0, ties.2)
  low_of Diagonal i j ties = ties.2

  stands_by : (kind : MirrorKind) (k : ℕ) (b d : Bool) (i : ℕ) (other : Part) → (b ≡ true → Stands kind k left) → (d ≡ true → Stands kind k (right_of i)) → (b ≡ false → d ≡ false → Stands kind k other) → Stands kind k (if b then left else (if d then right_of i else other))
  stands_by kind k true d i other first second rest = first refl
  stands_by kind k false true i other first second rest = second refl
  stands_by kind k false false i other first second rest = rest refl refl

  pub stands : (kind : MirrorKind) (mirror : List Pair) (k : ℕ) → All (TiesPair kind s P) mirror → (IsOnAxis mirror k → TiesLeaf kind s P k) → Stands kind k (part_of mirror k)
  stands kind [] k pairs axis = axis (All-nil (λ i. i ≢ k))
  stands kind (p ∷ mirror) k pairs axis =
      let ties : TiesPair kind s P p = All-head (TiesPair kind s P) p mirror pairs in
      stands_by kind k (k == p.i) (k == p.j) p.i (part_of mirror k)
      (λ same. subst (IsLow kind) (sym (eqb-true k p.i same)) (low_of kind p.i p.j ties))
      (λ same. subst (λ (j : ℕ). TiesPair kind s P (pair_with p.i j)) (sym (eqb-true k p.j same)) ties)
      (λ not_i not_j. stands kind mirror k (All-tail (TiesPair kind s P) p mirror pairs) (λ rest. axis
      (All-cons (λ i. i ≢ k) p.i (p.j ∷ leaves_of mirror) (λ same. eqb-false k p.i not_i (sym same)) (All-cons (λ i. i ≢ k) p.j (leaves_of mirror) (λ same. eqb-false k p.j not_j (sym same)) rest))))

  -- What is known of a variable by which a coordinate on the axis reads.
  abbrev pub IsOne : MirrorKind → Axis → ℕ → Type 0
  IsOne Book X u = (axis_of u ≡ X) × (2 * c u ≤ s)
  IsOne Book Y u = axis_of u ≡ Y
  IsOne Diagonal axis u = (v : ℕ) → leaf_of v ≡ leaf_of u → v ≤ u → c v ≤ c u

  -- the coordinate reads so
  abbrev pub IsRead : Reading → MirrorKind → Axis → ℕ → Type 0
  IsRead (plain u) kind axis x = IsOne kind axis u × (x ≡ c u)
  IsRead (turned u) kind axis x = IsAcross kind axis × (IsOne kind axis u × (x + c u ≡ s))
  IsRead half kind axis x = IsAcross kind axis × (2 * x ≡ s)

  one_across : (i : ℕ) → 2 * coordinate P X i ≤ s → IsOne Book X (number X i)
  one_across i low = (axis_number X i, omega (arith, low, at_number P X i))

  x_alone : (k : ℕ) → IsOne Diagonal X (number X k)
  x_alone k v leaf less = omega (arith, ap c (least_x v k (leaf ∙ leaf_number X k) less))

  y_above : (k : ℕ) → coordinate P X k ≤ coordinate P Y k → IsOne Diagonal Y (number Y k)
  y_above k low v leaf less = elim (cases_eq v (number X k)) [
    | inl first ↦ omega (arith, ap c first, at_number P X k, at_number P Y k, low)
    | inr other ↦ omega (arith, ap c (x_or_y v k (leaf ∙ leaf_number Y k) other))
  ]

  pub reads : (kind : MirrorKind) (axis : Axis) (k : ℕ) (part : Part) → Stands kind k part → IsRead (reading_of kind axis k part) kind axis (coordinate P axis k)
  reads Book X k left low = (one_across k low, sym (at_number P X k))
  reads Book X k (right_of i) ties = (tt, (one_across i (low_of Book i k ties), omega (arith, ties.0, at_number P X i)))
  reads Book X k middle ties = (tt, ties)
  reads Book Y k left low = (axis_number Y k, sym (at_number P Y k))
  reads Book Y k (right_of i) ties = (axis_number Y i, omega (arith, ties.1, at_number P Y i))
  reads Book Y k middle ties = (axis_number Y k, sym (at_number P Y k))
  reads Diagonal X k left low = (x_alone k, sym (at_number P X k))
  reads Diagonal X k (right_of i) ties = (y_above i ties.2, omega (arith, ties.0, at_number P Y i))
  reads Diagonal X k middle ties = (x_alone k, sym (at_number P X k))
  reads Diagonal Y k left low = (y_above k low, sym (at_number P Y k))
  reads Diagonal Y k (right_of i) ties = (x_alone i, omega (arith, ties.1, at_number P X i))
  reads Diagonal Y k middle ties = (x_alone k, omega (arith, ties, at_number P X k))
