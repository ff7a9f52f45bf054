-- Sums of sizes over lists of questions, and the list of questions of a binary search.
use Rattle.std.proofs.Common.{◌≡◌, ℕ, zero, suc, ◌+◌, ◌-◌, ◌*◌, ◌/◌, ◌<◌, ◌≤◌, ◌==◌, Bool, true, false, List, [], ◌∷◌, ◌++◌, length, get_or, set, take, drop, replicate, refl, sym, ◌∙◌, ap, subst, append_assoc, arith}
use Rattle.std.specs.Prelude.{leb}
use Rattle.std.proofs.lemmas.List.{take_more, length-take-le}
use Rattle.bp_base.specs.declared.path.Step.{Step}
use Rattle.bp_base.specs.declared.point.Axis.TheVariants.{X, Y}
use Rattle.bp_base.specs.declared.point.Point.{Point}
use Rattle.bp_base.specs.declared.point.Sheet.{Sheet}
use Rattle.bp_base.specs.declared.point.Sheet.TheVariants.{Square, Strip}
use Rattle.bp_base.specs.Tree.{TreeValue}
use Rattle.bp_steady.specs.Bounds.{BoundsValue}
use Rattle.bp_steady.specs.Questions.{asked_within, coordinates, end_of, ends, question}
use Rattle.bp_steady.specs.Sums.{AreInTree, HavePaths}
use Rattle.bp_steady.specs.Sums.HavePaths.{none, more}

module _ (T : TreeValue) where
  pub have_none : (bs : List BoundsValue) → HavePaths T bs 0
  have_none [] = none
  have_none (b ∷ bs) = more b [] (record { each = λ k d less. absurd (omega (arith, less)); differ = λ i j d less within. absurd (omega (arith, within)) }) (have_none bs)

  pub have_both : (bs cs : List BoundsValue) (m k : ℕ) → HavePaths T bs m → HavePaths T cs k → HavePaths T (bs ++ cs) (m + k)
  have_both bs cs m k none have =
      let e : k ≡ 0 + k = omega arith in
      subst (HavePaths T cs) e have
  have_both bs cs m k (more b paths are {bs = rest} {m = n} have_rest) have =
      let e : length paths + (n + k) ≡ length paths + n + k = omega arith in
      subst (HavePaths T (b ∷ rest ++ cs)) e (more b paths are (have_both rest cs n k have_rest have))

  pub have_first : (b : BoundsValue) (bs : List BoundsValue) (paths : List (List Step)) (m : ℕ) → AreInTree T b paths → m ≡ length paths → HavePaths T (b ∷ bs) m
  have_first b bs paths m are is =
      let e : length paths + 0 ≡ m = omega (arith, is) in
      subst (HavePaths T (b ∷ bs)) e (more b paths are (have_none bs))

-- One question and those after it.

module _ (a e : List ℕ) (c k l h : ℕ) (less : l < h) where
  not_same : (l == h) ≡ false
  not_same = grind arith

  abbrev middle : ℕ
  middle = (l + h) / 2

  abbrev rest_of : Bool → List BoundsValue
  rest_of v = elim v [ true ↦ asked_within k a e c l middle | false ↦ asked_within k a e c (middle + 1) h ]

  abbrev whole_of : Bool → List BoundsValue
  whole_of v = elim v [ true ↦ [] | false ↦ question a e c middle ∷ rest_of (leb (get_or a c 0) middle) ]

  first_asked : asked_within (suc k) a e c l h ≡ question a e c middle ∷ rest_of (leb (get_or a c 0) middle)
  first_asked = ap whole_of not_same

  pub asked_lower : get_or a c 0 ≤ middle → asked_within (suc k) a e c l h ≡ question a e c middle ∷ asked_within k a e c l middle
  asked_lower most =
      let yes : leb (get_or a c 0) middle ≡ true = grind arith in
      first_asked ∙ ap (λ (v : Bool). question a e c middle ∷ rest_of v) yes

  pub asked_upper : middle < get_or a c 0 → asked_within (suc k) a e c l h ≡ question a e c middle ∷ asked_within k a e c (middle + 1) h
  asked_upper above =
      let not : leb (get_or a c 0) middle ≡ false = grind arith in
      first_asked ∙ ap (λ (v : Bool). question a e c middle ∷ rest_of v) not

-- Lists with one number between two parts.

pub set_between : (xs ys : List ℕ) (x v c : ℕ) → length xs ≡ c → set (xs ++ x ∷ ys) c v ≡ xs ++ v ∷ ys
set_between [] ys x v zero each = refl
set_between [] ys x v (suc c) each = absurd (omega (arith, each))
set_between (z ∷ xs) ys x v zero each = absurd (omega (arith, each))
set_between (z ∷ xs) ys x v (suc c) each = ap (λ (l : List ℕ). z ∷ l) (set_between xs ys x v c (omega (arith, each)))

pub drop_one : (e : List ℕ) (c : ℕ) → c < length e → drop c e ≡ get_or e c 0 ∷ drop (c + 1) e
drop_one [] c within = absurd (omega (arith, within))
drop_one (x ∷ e) zero within = refl
drop_one (x ∷ e) (suc c) within =
    let next : c + 1 + 1 ≡ suc (c + 1) = omega arith in
    let same : suc c + 1 ≡ suc (c + 1) = omega arith in
    drop_one e c (omega (arith, within)) ∙ ap (λ (m : ℕ). get_or e c 0 ∷ drop m (x ∷ e)) (sym same)

zeros_one : (n c : ℕ) → c < n → replicate {A = ℕ} (n - c) 0 ≡ 0 ∷ replicate (n - (c + 1)) 0
zeros_one n c within =
    let e : n - c ≡ suc (n - (c + 1)) = omega (arith, within) in
    ap (λ (m : ℕ). replicate {A = ℕ} m 0) e

-- the coordinate at c is fixed
module _ (a e : List ℕ) (c v : ℕ) (within : c < length a) (is : v ≡ get_or a c 0) where
  taken_more : take c a ++ v ∷ [] ≡ take (c + 1) a
  taken_more = sym (take_more a c 0 within ∙ ap (λ (m : ℕ). take c a ++ m ∷ []) (sym is))

  pub fixed_high : (x : ℕ) → set (question a e c x).high c v ≡ take (c + 1) a ++ drop (c + 1) e
  fixed_high x =
      set_between (take c a) (drop (c + 1) e) x v c (length-take-le c a (omega (arith, within)))
      ∙ sym (append_assoc (take c a) (v ∷ []) (drop (c + 1) e))
      ∙ ap (λ (l : List ℕ). l ++ drop (c + 1) e) taken_more

  pub fixed_low : (x : ℕ) → c < length e → set (question a e c x).low c v ≡ take (c + 1) a ++ replicate (length e - (c + 1)) 0
  fixed_low x within_e =
      ap (λ (l : List ℕ). set (take c a ++ l) c v) (zeros_one (length e) c within_e)
      ∙ set_between (take c a) (replicate (length e - (c + 1)) 0) 0 v c (length-take-le c a (omega (arith, within)))
      ∙ sym (append_assoc (take c a) (v ∷ []) (replicate (length e - (c + 1)) 0))
      ∙ ap (λ (l : List ℕ). l ++ replicate (length e - (c + 1)) 0) taken_more

-- the number at c is set anew
pub set_question : (a e : List ℕ) (c x v : ℕ) → c < length a → set (question a e c x).high c v ≡ (question a e c v).high
set_question a e c x v within = set_between (take c a) (drop (c + 1) e) x v c (length-take-le c a (omega (arith, within)))

-- Points one by one, and ends.

coordinates_more : (P : List Point) (p : Point) → coordinates (P ++ p ∷ []) ≡ coordinates P ++ p.x ∷ p.y ∷ []
coordinates_more [] p = refl
coordinates_more (r ∷ P) p = ap (λ (l : List ℕ). r.x ∷ r.y ∷ l) (coordinates_more P p)

pub points_more : (P : List Point) (p : Point) (row : List ℕ) (k : ℕ) → coordinates P ≡ take (2 * k) row → 2 * k + 1 < length row → p.x ≡ get_or row (2 * k) 0 → p.y ≡ get_or row (2 * k + 1) 0 → coordinates (P ++ p ∷ []) ≡ take (2 * (k + 1)) row
points_more P p row k so_far within x y =
    let next : 2 * (k + 1) ≡ 2 * k + 1 + 1 = omega arith in
    let one : take (2 * k + 1) row ≡ take (2 * k) row ++ get_or row (2 * k) 0 ∷ [] = take_more row (2 * k) 0 (omega (arith, within)) in
    let two : take (2 * k + 1 + 1) row ≡ take (2 * k + 1) row ++ get_or row (2 * k + 1) 0 ∷ [] = take_more row (2 * k + 1) 0 within in
    coordinates_more P p
    ∙ (λ i. so_far i ++ x i ∷ y i ∷ [])
    ∙ sym (append_assoc (take (2 * k) row) (get_or row (2 * k) 0 ∷ []) (get_or row (2 * k + 1) 0 ∷ []))
    ∙ ap (λ (l : List ℕ). l ++ get_or row (2 * k + 1) 0 ∷ []) (sym one)
    ∙ sym two
    ∙ ap (λ (m : ℕ). take m row) (sym next)

pub ends_more : (G : Sheet) (S n : ℕ) → ends G S n ++ end_of G S X ∷ end_of G S Y ∷ [] ≡ ends G S (n + 1)
ends_more G S zero = refl
ends_more G S (suc n) =
    let next : suc n + 1 ≡ suc (n + 1) = omega arith in
    ap (λ (l : List ℕ). end_of G S X ∷ end_of G S Y ∷ l) (ends_more G S n) ∙ ap (ends G S) (sym next)

pub end_y : (G : Sheet) (S : ℕ) → end_of G S Y ≡ S
end_y Square S = refl
end_y (Strip width) S = refl
