-- The law of arrangement for swaps that keep a mirror. A swap whose head isn't in order makes a symmetric placement whose x, read as digits,
-- are a lesser number.
use Rattle.std.proofs.Common.{◌≡◌, ◌⊎◌, ℕ, zero, suc, ◌+◌, ◌<◌, List, [], ◌∷◌, get_or, All, ◌∙◌, ap, arith, inl, inr}
use Rattle.std.proofs.lemmas.Bool.{cases_lt}
use Rattle.std.proofs.lemmas.List.Elements.{All-nil, All-cons, All-head, All-tail, All-contains}
use Rattle.bp_base.specs.declared.path.Pair.{Pair}
use Rattle.bp_base.specs.declared.point.Point.{Point}
use Rattle.bp_base.specs.declared.point.Sheet.TheVariants.{Square}
use Rattle.bp_base.specs.Tree.{TreeValue, IsTree, IsLeaf, leaf_count}
use Rattle.bp_base.specs.Point.{point_at}
use Rattle.bp_arrangement.specs.Swaps.{sent, least, head, leaves_of}
use Rattle.bp_arrangement.specs.Arranged.{IsInOrder}
use Rattle.bp_arrangement.proofs.Digits.{digits, lesser_digits}
use Rattle.bp_arrangement.proofs.Goings.{sent_below}
use Rattle.bp_arrangement.proofs.Exchanged.{exchanged_by, at_exchanged, sent_leaf, least_leaf, valid_exchanged_by}
use Rattle.bp_mirror.specs.declared.kind.MirrorKind.{MirrorKind}
use Rattle.bp_mirror.specs.declared.kind.MirrorKind.TheVariants.{Book, Diagonal}
use Rattle.bp_mirror.specs.Mirror.{IsMirror}
use Rattle.bp_mirror.specs.Mirrored.{TiesPair, TiesLeaf, Mirrored}
use Rattle.bp_mirror.specs.Swaps.{sent_pair, IsMirrorSwap}

-- ties go by the points alone
pair_moved : (kind : MirrorKind) (s : ℕ) (P Q : List Point) (p r : Pair) → point_at Q p.i ≡ point_at P r.i → point_at Q p.j ≡ point_at P r.j → TiesPair kind s P r → TiesPair kind s Q p
pair_moved Book s P Q p r first second ties =
    let x = ap (λ (at : Point). at.x) first in
    let z = ap (λ (at : Point). at.x) second in
    (omega (arith, x, z, ties.0), omega (arith, ap (λ (at : Point). at.y) first, ap (λ (at : Point). at.y) second, ties.1), omega (arith, x, z, ties.2))
pair_moved Diagonal s P Q p r first second ties =
    let x = ap (λ (at : Point). at.x) first in
    let y = ap (λ (at : Point). at.y) first in
    (omega (arith, y, ap (λ (at : Point). at.x) second, ties.0), omega (arith, x, ap (λ (at : Point). at.y) second, ties.1), omega (arith, x, y, ties.2))

leaf_moved : (kind : MirrorKind) (s : ℕ) (P Q : List Point) (k l : ℕ) → point_at Q k ≡ point_at P l → TiesLeaf kind s P l → TiesLeaf kind s Q k
leaf_moved Book s P Q k l same ties = omega (arith, ap (λ (at : Point). at.x) same, ties)
leaf_moved Diagonal s P Q k l same ties = omega (arith, ap (λ (at : Point). at.x) same, ap (λ (at : Point). at.y) same, ties)

module _ (T : TreeValue) (t : IsTree T) (kind : MirrorKind) (mirror : List Pair) (is_mirror : IsMirror T mirror) (q s : ℕ) where
  -- the two leaves of each pair are leaves of the tree
  pair_leaves : (pairs : List Pair) → All (IsLeaf T) (leaves_of pairs) → All (λ p. IsLeaf T p.i × IsLeaf T p.j) pairs
  pair_leaves [] all = All-nil (λ p. IsLeaf T p.i × IsLeaf T p.j)
  pair_leaves (p ∷ pairs) all =
      let rest = All-tail (IsLeaf T) p.i (p.j ∷ leaves_of pairs) all in
      All-cons (λ p. IsLeaf T p.i × IsLeaf T p.j) p pairs (All-head (IsLeaf T) p.i (p.j ∷ leaves_of pairs) all, All-head (IsLeaf T) p.j (leaves_of pairs) rest) (pair_leaves pairs (All-tail (IsLeaf T) p.j (leaves_of pairs) rest))

  mirrored_exchanged : (swap : List Pair) → IsMirrorSwap T mirror swap → (P : List Point) → Mirrored T kind mirror q s P → Mirrored T kind mirror q s (exchanged_by T swap P)
  mirrored_exchanged swap is P m = record {
    valid = valid_exchanged_by T t swap is.swaps Square q s P m.valid;
    pairs = λ k d within.
        let p = get_or mirror k d in
        let both = pair_leaves mirror is_mirror.leaves k d within in
        let r = sent_pair swap p in
        pair_moved kind s P (exchanged_by T swap P) p r (at_exchanged T swap P p.i both.0) (at_exchanged T swap P p.j both.1)
        (All-contains (TiesPair kind s P) mirror r m.pairs (is.pairs k d within));
    axis = λ k leaf on. leaf_moved kind s P (exchanged_by T swap P) k (sent swap k) (at_exchanged T swap P k leaf) (m.axis (sent swap k) (sent_leaf T t swap is.swaps k leaf) (is.axis k leaf on));
  }

  -- a swap whose head isn't in order
  record Breaks (P : List Point) : Type 0 where
    swap : List Pair
    keeps : IsMirrorSwap T mirror swap
    after : (point_at P (head swap).j).x < (point_at P (head swap).i).x

  ordered_or : (swaps : List (List Pair)) (P : List Point) → All (IsMirrorSwap T mirror) swaps → All (IsInOrder P) swaps ⊎ Breaks P
  ordered_or [] P each = inl (All-nil (IsInOrder P))
  ordered_or (swap ∷ rest) P each = elim (cases_lt (point_at P (head swap).j).x (point_at P (head swap).i).x) [
    | inl after ↦ inr (record { swap = swap; keeps = All-head (IsMirrorSwap T mirror) swap rest each; after = after })
    | inr le ↦ elim (ordered_or rest P (All-tail (IsMirrorSwap T mirror) swap rest each)) [
      | inl all ↦ inl (All-cons (IsInOrder P) swap rest le all)
      | inr breaks ↦ inr breaks
    ]
  ]

  abbrev x_of : List Point → ℕ → ℕ
  x_of P k = (point_at P k).x

  -- the x of all leaves, read as digits
  weight : List Point → ℕ
  weight P = digits (s + 1) (x_of P) (leaf_count T)

  lighter : (P : List Point) → Mirrored T kind mirror q s P → (b : Breaks P) → weight (exchanged_by T b.swap P) < weight P
  unfolding weight
  lighter P m b =
      let Q = exchanged_by T b.swap P in
      let w = mirrored_exchanged b.swap b.keeps P m in
      let first = least_leaf T t b.swap b.keeps.swaps in
      let at : (k : ℕ) → IsLeaf T k → x_of Q k ≡ x_of P (sent b.swap k) = λ k leaf. ap (λ (p : Point). p.x) (at_exchanged T b.swap P k leaf) in
      lesser_digits (s + 1) (x_of P) (x_of Q) (leaf_count T) (least b.swap) first.0 first.1
      (λ k from to. omega (arith, (w.valid.inside k (from, to)).0))
      (omega (arith, at (least b.swap) first, b.after))
      (λ k from less. at k (from, omega (arith, less, first.1)) ∙ ap (x_of P) (sent_below b.swap k less))

  put_in_order : (swaps : List (List Pair)) → All (IsMirrorSwap T mirror) swaps → (n : ℕ) (P : List Point) → Mirrored T kind mirror q s P → weight P < n → (Q : List Point) × (Mirrored T kind mirror q s Q × All (IsInOrder Q) swaps)
  put_in_order swaps each zero P m less = absurd (omega (arith, less))
  put_in_order swaps each (suc n) P m less = elim (ordered_or swaps P each) [
    | inl all ↦ (P, (m, all))
    | inr b ↦ put_in_order swaps each n (exchanged_by T b.swap P) (mirrored_exchanged b.swap b.keeps P m) (omega (arith, less, lighter P m b))
  ]

  pub arranging_mirrored : (swaps : List (List Pair)) (P : List Point) → All (IsMirrorSwap T mirror) swaps → Mirrored T kind mirror q s P → (Q : List Point) × (Mirrored T kind mirror q s Q × All (IsInOrder Q) swaps)
  arranging_mirrored swaps P each m = put_in_order swaps each (weight P + 1) P m (omega arith)
