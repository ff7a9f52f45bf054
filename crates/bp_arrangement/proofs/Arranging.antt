-- The law of arrangement. A swap whose head isn't in order makes a placement whose x, read as digits, are a lesser number.
use Rattle.std.proofs.Common.{◌≡◌, ◌⊎◌, ℕ, zero, suc, ◌+◌, ◌<◌, List, [], ◌∷◌, All, ◌∙◌, ap, arith, inl, inr}
use Rattle.std.proofs.lemmas.Bool.{cases_lt}
use Rattle.std.proofs.lemmas.List.Elements.{All-nil, All-cons, All-head, All-tail}
use Rattle.bp_base.specs.declared.path.Pair.{Pair}
use Rattle.bp_base.specs.declared.point.Point.{Point}
use Rattle.bp_base.specs.declared.point.Sheet.{Sheet}
use Rattle.bp_base.specs.declared.point.Sheet.TheVariants.{Square, Strip}
use Rattle.bp_base.specs.Tree.{TreeValue, IsTree, IsLeaf, leaf_count}
use Rattle.bp_base.specs.Point.{point_at}
use Rattle.bp_metric.specs.Valid.{Valid}
use Rattle.bp_symmetry.proofs.Turns.{width_of, x_within}
use Rattle.bp_arrangement.specs.Swaps.{IsCorner, IsAdmissible, sent, least, head}
use Rattle.bp_arrangement.specs.Arranged.{CornerLies, IsInOrder, Arranged, CanArrange}
use Rattle.bp_arrangement.proofs.Digits.{digits, lesser_digits}
use Rattle.bp_arrangement.proofs.Goings.{sent_below}
use Rattle.bp_arrangement.proofs.Exchanged.{exchanged_by, at_exchanged, least_leaf, sent_A, sent_B, valid_exchanged_by}
use Rattle.bp_arrangement.proofs.Corners.{corner_turned}

-- the corner's place goes by the points of its leaves alone
corner_moved : (T : TreeValue) (G : Sheet) (q A B : ℕ) (P Q : List Point) → point_at Q A ≡ point_at P A → point_at Q B ≡ point_at P B → CornerLies T G q A B P → CornerLies T G q A B Q
corner_moved T Square q A B P Q a b lies =
    let ax = ap (λ (p : Point). p.x) a in
    let bx = ap (λ (p : Point). p.x) b in
    (omega (arith, ax, bx, lies.0), omega (arith, ap (λ (p : Point). p.y) a, ap (λ (p : Point). p.y) b, lies.1))
corner_moved T (Strip width) q A B P Q a b lies =
    (omega (arith, ap (λ (p : Point). p.x) a, ap (λ (p : Point). p.x) b, lies.0), omega (arith, ap (λ (p : Point). p.y) a, ap (λ (p : Point). p.y) b, lies.1))

module _ (T : TreeValue) (t : IsTree T) (G : Sheet) (q s A B : ℕ) (c : IsCorner T A B) where
  -- a swap whose head isn't in order
  record Breaks (P : List Point) : Type 0 where
    swap : List Pair
    admissible : IsAdmissible T A B swap
    after : (point_at P (head swap).j).x < (point_at P (head swap).i).x

  ordered_or : (swaps : List (List Pair)) (P : List Point) → All (IsAdmissible T A B) swaps → All (IsInOrder P) swaps ⊎ Breaks P
  ordered_or [] P each = inl (All-nil (IsInOrder P))
  ordered_or (swap ∷ rest) P each = elim (cases_lt (point_at P (head swap).j).x (point_at P (head swap).i).x) [
    | inl after ↦ inr (record { swap = swap; admissible = All-head (IsAdmissible T A B) swap rest each; after = after })
    | inr le ↦ elim (ordered_or rest P (All-tail (IsAdmissible T A B) swap rest each)) [
      | inl all ↦ inl (All-cons (IsInOrder P) swap rest le all)
      | inr breaks ↦ inr breaks
    ]
  ]

  abbrev x_of : List Point → ℕ → ℕ
  x_of P k = (point_at P k).x

  -- the x of all leaves, read as digits
  weight : List Point → ℕ
  weight P = digits (width_of T q s G + 1) (x_of P) (leaf_count T)

  lighter : (P : List Point) → Valid T G q s P → (b : Breaks P) → weight (exchanged_by T b.swap P) < weight P
  unfolding weight
  lighter P v b =
      let Q = exchanged_by T b.swap P in
      let w : Valid T G q s Q = valid_exchanged_by T t b.swap b.admissible.swaps G q s P v in
      let first = least_leaf T t b.swap b.admissible.swaps in
      let at : (k : ℕ) → IsLeaf T k → x_of Q k ≡ x_of P (sent b.swap k) = λ k leaf. ap (λ (p : Point). p.x) (at_exchanged T b.swap P k leaf) in
      lesser_digits (width_of T q s G + 1) (x_of P) (x_of Q) (leaf_count T) (least b.swap) first.0 first.1
      (λ k from to. omega (arith, x_within T q s G (point_at Q k) (w.inside k (from, to))))
      (omega (arith, at (least b.swap) first, b.after))
      (λ k from less. at k (from, omega (arith, less, first.1)) ∙ ap (x_of P) (sent_below b.swap k less))

  module _ (swaps : List (List Pair)) (each : All (IsAdmissible T A B) swaps) where
    put_in_order : (n : ℕ) (P : List Point) → Valid T G q s P → CornerLies T G q A B P → weight P < n → (Q : List Point) × (Valid T G q s Q × Arranged T G q A B swaps Q)
    put_in_order zero P v lies less = absurd (omega (arith, less))
    put_in_order (suc n) P v lies less = elim (ordered_or swaps P each) [
      | inl all ↦ (P, (v, record { corner = lies; ordered = all }))
      | inr b ↦
          let Q = exchanged_by T b.swap P in
          let a : point_at Q A ≡ point_at P A = at_exchanged T b.swap P A c.0 ∙ ap (point_at P) (sent_A T A B b.swap b.admissible) in
          let z : point_at Q B ≡ point_at P B = at_exchanged T b.swap P B c.1 ∙ ap (point_at P) (sent_B T A B b.swap b.admissible) in
          put_in_order n Q (valid_exchanged_by T t b.swap b.admissible.swaps G q s P v) (corner_moved T G q A B P Q a z lies) (omega (arith, less, lighter P v b))
    ]

-- The law of arrangement.
pub arranging : (T : TreeValue) → IsTree T → (G : Sheet) → CanArrange T G
arranging T t G q s A B swaps P c each v =
    let turned = corner_turned T t q s A B c G P v in
    put_in_order T t G q s A B c swaps each (weight T t G q s A B c turned.0 + 1) turned.0 turned.1.0 turned.1.1 (omega arith)
