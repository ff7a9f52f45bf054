-- The law of settling: after the moves a placement is valid, and an allowed choice holds for each pair.
use Rattle.std.proofs.Common.{◌≡◌, ℕ, ◌+◌, ◌-◌, ◌*◌, ◌<◌, ◌≤◌, ◌==◌, true, false, List, [], ◌∷◌, get_or, All, IsTrue, refl, sym, ◌∙◌, ap, subst, arith, inl, inr}
use Rattle.std.specs.List.{Contains}
use Rattle.std.proofs.lemmas.Bool.{cases_lt, cases_Bool, and_parts, eqb-true}
use Rattle.std.proofs.lemmas.List.{get_or_default}
use Rattle.bp_base.specs.declared.path.Choice.{Choice}
use Rattle.bp_base.specs.declared.path.Choice.TheVariants.{Left, Right, Below, Above}
use Rattle.bp_base.specs.declared.path.Pair.{Pair}
use Rattle.bp_base.specs.declared.point.Point.{Point}
use Rattle.bp_base.specs.declared.point.Sheet.{Sheet}
use Rattle.bp_base.specs.declared.point.Sheet.TheVariants.{Square, Strip}
use Rattle.bp_base.specs.Limits.{most_number}
use Rattle.bp_base.specs.Tree.{TreeValue, IsTree, IsLeaf, leaf_count}
use Rattle.bp_base.specs.Point.{origin, point_at, gap, IsSmallPoint}
use Rattle.bp_metric.specs.Choices.{Holds, is_pair_of, are_late_twins, allowed_later, allowed}
use Rattle.bp_metric.specs.Distance.{leaf_dist}
use Rattle.bp_metric.specs.Metric.{IsSheet}
use Rattle.bp_metric.specs.Valid.{Valid}
use Rattle.bp_symmetry.specs.Moves.{turned}
use Rattle.bp_symmetry.specs.Twins.{IsAfter, pair_of}
use Rattle.bp_symmetry.specs.Settled.{HasAllowed, EachHasAllowed, AreMoved, IsSettling}
use Rattle.bp_symmetry.proofs.Turns.{width_of, x_within, y_within, valid_turned}
use Rattle.bp_symmetry.proofs.Orders.{left_or_below}
use Rattle.bp_symmetry.proofs.FirstLeaves.{HasFirst, HasThird, turned_first, turned_third}
use Rattle.bp_symmetry.proofs.HandOut.{can_hand_out}

-- all points of a valid placement lie on the sheet
pub x_all : (T : TreeValue) (G : Sheet) (q s : ℕ) (P : List Point) → Valid T G q s P → All (λ p. p.x ≤ width_of T q s G) P
x_all T G q s P v k d less =
    let leaf : IsLeaf T (k + 1) = (omega arith, omega (arith, less, v.each)) in
    let place : k + 1 - 1 ≡ k = omega arith in
    let is : point_at P (k + 1) ≡ get_or P k d = ap (λ (i : ℕ). get_or P i origin) place ∙ get_or_default P k origin d less in
    subst (λ (p : Point). p.x ≤ width_of T q s G) is (x_within T q s G (point_at P (k + 1)) (v.inside (k + 1) leaf))

pub y_all : (T : TreeValue) (G : Sheet) (q s : ℕ) (P : List Point) → Valid T G q s P → All (λ p. p.y ≤ s) P
y_all T G q s P v k d less =
    let leaf : IsLeaf T (k + 1) = (omega arith, omega (arith, less, v.each)) in
    let place : k + 1 - 1 ≡ k = omega arith in
    let is : point_at P (k + 1) ≡ get_or P k d = ap (λ (i : ℕ). get_or P i origin) place ∙ get_or_default P k origin d less in
    subst (λ (p : Point). p.y ≤ s) is (y_within T q s G (point_at P (k + 1)) (v.inside (k + 1) leaf))

width_small : (T : TreeValue) (G : Sheet) (s : ℕ) → IsSheet G → s ≤ most_number → width_of T 1 s G ≤ most_number
width_small T Square s sheet side = side
width_small T (Strip width) s sheet side = omega (arith, sheet)

pub small_all : (T : TreeValue) (G : Sheet) (s : ℕ) (P : List Point) → IsSheet G → s ≤ most_number → Valid T G 1 s P → All IsSmallPoint P
small_all T G s P sheet side v k d less =
    (omega (arith, x_all T G 1 s P v k d less, width_small T G s sheet side), omega (arith, y_all T G 1 s P v k d less, side))

-- Choices.

-- a choice of the list holds
record HasOf (T : TreeValue) (q : ℕ) (P : List Point) (p : Pair) (choices : List Choice) : Type 0 where
  choice : Choice
  among : Contains choices choice
  holds : Holds T q P p choice

abbrev all_four : List Choice
all_four = Left ∷ Right ∷ Below ∷ Above ∷ []

abbrev left_below : List Choice
left_below = Left ∷ Below ∷ []

module _ (T : TreeValue) (q : ℕ) (P : List Point) where
  from_allowed : (G : Sheet) (p : Pair) (choices : List Choice) → allowed T G p ≡ choices → HasOf T q P p choices → HasAllowed T G q P p
  from_allowed G p choices is has = record { choice = has.choice; allowed = subst (λ (cs : List Choice). Contains cs has.choice) (sym is) has.among; holds = has.holds }

  -- one of the four choices holds for points that are far enough apart
  four : (p : Pair) → q * leaf_dist T p.i p.j ≤ gap (point_at P p.i) (point_at P p.j) → HasOf T q P p all_four
  four p far =
      let a = point_at P p.i in
      let b = point_at P p.j in
      let e = q * leaf_dist T p.i p.j in
      elim (cases_lt b.x (a.x + e)) [
        | inr left ↦ record { choice = Left; among = (0, omega arith, refl); holds = left }
        | inl not_left ↦ elim (cases_lt a.x (b.x + e)) [
          | inr right ↦ record { choice = Right; among = (1, omega arith, refl); holds = right }
          | inl not_right ↦ elim (cases_lt b.y (a.y + e)) [
            | inr below ↦ record { choice = Below; among = (2, omega arith, refl); holds = below }
            | inl not_below ↦ record { choice = Above; among = (3, omega arith, refl); holds = omega (arith, far, not_left, not_right, not_below) }
          ]
        ]
      ]

  two : (p : Pair) → (IsAfter (point_at P p.i) (point_at P p.j) → ⊥) → q * leaf_dist T p.i p.j ≤ gap (point_at P p.i) (point_at P p.j) → HasOf T q P p left_below
  two p ordered far = elim (left_or_below (point_at P p.i) (point_at P p.j) (q * leaf_dist T p.i p.j) ordered far) [
    | inl left ↦ record { choice = Left; among = (0, omega arith, refl); holds = left }
    | inr below ↦ record { choice = Below; among = (1, omega arith, refl); holds = below }
  ]

  later : (p : Pair) → (IsTrue (are_late_twins T p) → IsAfter (point_at P p.i) (point_at P p.j) → ⊥) → q * leaf_dist T p.i p.j ≤ gap (point_at P p.i) (point_at P p.j) → HasOf T q P p (allowed_later T p)
  later p ordered far = elim (cases_Bool (are_late_twins T p)) [
    | inl twins ↦ let is : allowed_later T p ≡ left_below = rw twins in subst (HasOf T q P p) (sym is) (two p (ordered twins) far)
    | inr apart ↦ let is : allowed_later T p ≡ all_four = rw apart in subst (HasOf T q P p) (sym is) (four p far)
  ]

named : (i j : ℕ) (p : Pair) → is_pair_of i j p ≡ true → p ≡ pair_of i j
named i j p is =
    let parts = and_parts (p.i == i) (p.j == j) is in
    let first = eqb-true p.i i parts.0 in
    let second = eqb-true p.j j parts.1 in λ k. record { i = first k; j = second k }

allowed_on_square : (T : TreeValue) (p : Pair) → is_pair_of 1 2 p ≡ false → is_pair_of 1 3 p ≡ false → allowed T Square p ≡ allowed_later T p
unfolding allowed
allowed_on_square T p first second = rw (first, second) refl

allowed_on_strip : (T : TreeValue) (width : ℕ) (p : Pair) → is_pair_of 1 2 p ≡ false → allowed T (Strip width) p ≡ allowed_later T p
unfolding allowed
allowed_on_strip T width p first = rw first refl

first_on_square : (T : TreeValue) → allowed T Square (pair_of 1 2) ≡ Left ∷ []
unfolding allowed
first_on_square T = refl

second_on_square : (T : TreeValue) → allowed T Square (pair_of 1 3) ≡ Left ∷ Right ∷ Below ∷ []
unfolding allowed
second_on_square T = refl

first_on_strip : (T : TreeValue) (width : ℕ) → allowed T (Strip width) (pair_of 1 2) ≡ left_below
unfolding allowed
first_on_strip T width = refl

-- The pairs of a placement whose late twins are in order.
module _ (T : TreeValue) (q s : ℕ) (t : IsTree T) where
  first_has : (G : Sheet) (P : List Point) → HasFirst T t q s G P → HasAllowed T G q P (pair_of 1 2)
  first_has Square P has = from_allowed T q P Square (pair_of 1 2) (Left ∷ []) (first_on_square T) (record { choice = Left; among = (0, omega arith, refl); holds = has })
  first_has (Strip width) P (inl left) = from_allowed T q P (Strip width) (pair_of 1 2) left_below (first_on_strip T width) (record { choice = Left; among = (0, omega arith, refl); holds = left })
  first_has (Strip width) P (inr below) = from_allowed T q P (Strip width) (pair_of 1 2) left_below (first_on_strip T width) (record { choice = Below; among = (1, omega arith, refl); holds = below })

  third_has : (P : List Point) → HasThird T t q s P → HasAllowed T Square q P (pair_of 1 3)
  third_has P has = from_allowed T q P Square (pair_of 1 3) (Left ∷ Right ∷ Below ∷ []) (second_on_square T) (elim has [
    | inl left ↦ record { choice = Left; among = (0, omega arith, refl); holds = left }
    | inr (inl right) ↦ record { choice = Right; among = (1, omega arith, refl); holds = right }
    | inr (inr below) ↦ record { choice = Below; among = (2, omega arith, refl); holds = below }
  ])

  -- a choice goes by the pair's points alone
  holds_moved : (P Q : List Point) (i j : ℕ) (c : Choice) → point_at Q i ≡ point_at P i → point_at Q j ≡ point_at P j → Holds T q P (pair_of i j) c → Holds T q Q (pair_of i j) c
  holds_moved P Q i j Left first second h = omega (arith, ap (λ (p : Point). p.x) first, ap (λ (p : Point). p.x) second, h)
  holds_moved P Q i j Right first second h = omega (arith, ap (λ (p : Point). p.x) first, ap (λ (p : Point). p.x) second, h)
  holds_moved P Q i j Below first second h = omega (arith, ap (λ (p : Point). p.y) first, ap (λ (p : Point). p.y) second, h)
  holds_moved P Q i j Above first second h = omega (arith, ap (λ (p : Point). p.y) first, ap (λ (p : Point). p.y) second, h)

  has_moved : (G : Sheet) (P Q : List Point) (i j : ℕ) → point_at Q i ≡ point_at P i → point_at Q j ≡ point_at P j → HasAllowed T G q P (pair_of i j) → HasAllowed T G q Q (pair_of i j)
  has_moved G P Q i j first second has = record { choice = has.choice; allowed = has.allowed; holds = holds_moved P Q i j has.choice first second has.holds }

  each_has : (G : Sheet) (P Q : List Point) → Valid T G q s P → Valid T G q s Q → AreMoved T G q s P Q → EachHasAllowed T G q Q
  each_has Square P Q v w m p pair =
      let stays : (i : ℕ) → 1 ≤ i → i < 4 → i ≤ leaf_count T → point_at Q i ≡ point_at (turned T Square q s P) i = λ i from less within. m.early i (from, within) less in
      elim (cases_Bool (is_pair_of 1 2 p)) [
        | inl is ↦
            let has = has_moved Square (turned T Square q s P) Q 1 2 (stays 1 (omega arith) (omega arith) (omega (arith, t.leaves_enough))) (stays 2 (omega arith) (omega arith) t.leaves_enough) (first_has Square (turned T Square q s P) (turned_first T t q s Square P v)) in
            subst (HasAllowed T Square q Q) (sym (named 1 2 p is)) has
        | inr other ↦ elim (cases_Bool (is_pair_of 1 3 p)) [
          | inl is ↦
              let three : 3 ≤ leaf_count T = omega (arith, ap (λ (r : Pair). r.j) (named 1 3 p is), pair.2) in
              let has = has_moved Square (turned T Square q s P) Q 1 3 (stays 1 (omega arith) (omega arith) (omega (arith, three))) (stays 3 (omega arith) (omega arith) three) (third_has (turned T Square q s P) (turned_third T t q s P v three)) in
              subst (HasAllowed T Square q Q) (sym (named 1 3 p is)) has
          | inr third ↦ from_allowed T q Q Square p (allowed_later T p) (allowed_on_square T p other third) (later T q Q p (m.sorted p pair) (w.far p.i p.j pair))
        ]
      ]
  each_has (Strip width) P Q v w m p pair =
      let stays : (i : ℕ) → 1 ≤ i → i < 4 → i ≤ leaf_count T → point_at Q i ≡ point_at (turned T (Strip width) q s P) i = λ i from less within. m.early i (from, within) less in
      elim (cases_Bool (is_pair_of 1 2 p)) [
        | inl is ↦
            let has = has_moved (Strip width) (turned T (Strip width) q s P) Q 1 2 (stays 1 (omega arith) (omega arith) (omega (arith, t.leaves_enough))) (stays 2 (omega arith) (omega arith) t.leaves_enough) (first_has (Strip width) (turned T (Strip width) q s P) (turned_first T t q s (Strip width) P v)) in
            subst (HasAllowed T (Strip width) q Q) (sym (named 1 2 p is)) has
        | inr other ↦ from_allowed T q Q (Strip width) p (allowed_later T p) (allowed_on_strip T width p other) (later T q Q p (m.sorted p pair) (w.far p.i p.j pair))
      ]

  pub each_allowed : (G : Sheet) (P Q : List Point) → Valid T G q s P → Valid T G q s Q → AreMoved T G q s P Q → EachHasAllowed T G q Q
  each_allowed = each_has

-- The law of settling.
pub settling : (T : TreeValue) → IsTree T → (G : Sheet) (q s : ℕ) (P : List Point) → Valid T G q s P → (Q : List Point) × IsSettling T G q s P Q
settling T t G q s P v =
    let u = valid_turned T q s G P v in
    let out = can_hand_out T t (turned T G q s P) u.each in
    let w : Valid T G q s out.points = out.keeps G q s u in
    (out.points, record { moved = out.handed; valid = w; allowed = each_allowed T q s t G P out.points v w out.handed })
