-- A document either checks or has a first reason against it: each condition is decided, by looking through the leaves, pairs and nodes.
use Rattle.std.proofs.Common.{◌≡◌, ◌⊎◌, inl, inr, ℕ, zero, suc, ◌+◌, ◌*◌, ◌<◌, ◌≤◌, Bool, eqb, List, length, refl, sym, ap, ◌∙◌, subst, arith}
use Rattle.std.specs.Prelude.{slice_index}
use Rattle.std.specs.Cmp.Lexicographic.{pointwise}
use Rattle.std.specs.Bool.{Decides}
use Rattle.std.proofs.lemmas.Bool.{true≢false, cases_lt, cases_eq}
use Rattle.std.proofs.lemmas.Slice.Eq.{slice_eq-Decides, bytes_eq-Decides}
use Rattle.bp_base.specs.declared.point.Point.{Point}
use Rattle.bp_base.specs.declared.point.Floor.{Floor}
use Rattle.bp_base.specs.declared.point.Sheet.{Sheet}
use Rattle.bp_base.specs.declared.point.Sheet.TheVariants.{Square, Strip}
use Rattle.bp_base.specs.Point.{point_at, gap}
use Rattle.bp_base.specs.Tree.{TreeValue, leaf_count, IsLeaf}
use Rattle.bp_metric.specs.Distance.{leaf_dist}
use Rattle.bp_metric.specs.Floor.{FloorHolds, box_side}
use Rattle.bp_metric.specs.Valid.{IsPair, Lies, Valid}
use Rattle.bp_pairs.specs.declared.valid.Flaw.{Flaw}
use Rattle.bp_pairs.specs.declared.valid.Flaw.TheVariants.{Outside, Near}
use Rattle.bp_pairs.specs.Flaws.{IsOutside, IsFirstOutside, AreTooNear, AreFirstNear, AreInside, IsFlaw}
use Rattle.bp_document.specs.declared.document.Document.{Document}
use Rattle.bp_check.specs.declared.verdict.Reason.{Reason}
use Rattle.bp_check.specs.declared.verdict.Reason.TheVariants.{TreeDiffers, BadFloor}
use Rattle.bp_check.specs.declared.verdict.Verdict.{Verdict}
use Rattle.bp_check.specs.declared.verdict.Verdict.TheVariants.{Yes, No}
use Rattle.bp_check.specs.Checks.{Checks}
use Rattle.bp_check.specs.Reasons.{IsFirstReason}
use Rattle.bp_check.specs.Found.{found_proof}
use Rattle.bp_check.specs.Verdicts.{IsVerdictOf, reason_of, verdict_of}
use Rattle.bp_check.proofs.Judging.{found_is}
use Rattle.bp_check.proofs.Kept.{cases_bool}
use Rattle.bp_check.proofs.Reasoning.{differs_first, flaw_first, floor_first, verdict_is, same_tree}

abbrev Decided : Type 0 → Type 0
Decided P = P ⊎ (P → ⊥)

both : {P Q : Type 0} → Decided P → Decided Q → Decided (P × Q)
both (inl p) (inl q) = inl (p, q)
both (inl p) (inr not) = inr (λ pair. not pair.1)
both (inr not) q = inr (λ pair. not pair.0)

neither : {P : Type 0} → Decided P → Decided (P → ⊥)
neither (inl p) = inr (λ not. not p)
neither (inr not) = inl not

at_most : (a b : ℕ) → Decided (a ≤ b)
at_most a b = elim (cases_lt b a) [ inl less ↦ inr (λ within. omega (arith, less, within)) | inr within ↦ inl within ]

below : (a b : ℕ) → Decided (a < b)
below a b = elim (cases_lt a b) [ inl less ↦ inl less | inr within ↦ inr (λ less. omega (arith, less, within)) ]

same : (a b : ℕ) → Decided (a ≡ b)
same a b = elim (cases_eq a b) [ inl is ↦ inl is | inr other ↦ inr other ]

by_test : {P : Type 0} (b : Bool) → Decides b P → Decided P
by_test b decides = elim (cases_bool b) [ inl is ↦ inl (decides.0 is) | inr not ↦ inr (λ p. true≢false (sym (decides.1 p) ∙ not)) ]

-- the least number below n that has the property, or none has it
module _ (P : ℕ → Type 0) (decided : (k : ℕ) → Decided (P k)) where
  abbrev None : ℕ → Type 0
  None n = (k : ℕ) → k < n → P k → ⊥

  abbrev Least : ℕ → Type 0
  Least n = (k : ℕ) × (k < n) × P k × ((l : ℕ) → l < k → P l → ⊥)

  least : (n : ℕ) → None n ⊎ Least n
  least zero = inl (λ k less has. omega (arith, less))
  least (suc n) = elim (least n) [
    | inr (k, less, has, first) ↦ inr (k, omega (arith, less), has, first)
    | inl none ↦ elim (decided n) [
      | inl has ↦ inr (n, omega arith, has, none)
      | inr not ↦ inl (λ k less has. elim (cases_eq k n) [ inl last ↦ not (subst P last has) | inr other ↦ none k (omega (arith, less, other)) has ])
    ]
  ]

-- whether each number below n has the property
each : (P : ℕ → Type 0) → ((k : ℕ) → Decided (P k)) → (n : ℕ) → Decided ((k : ℕ) → k < n → P k)
each P decided n = elim (least (λ k. P k → ⊥) (λ k. neither (decided k)) n) [
  | inr (k, less, not, first) ↦ inr (λ all. not (all k less))
  | inl none ↦ inl (λ k less. elim (decided k) [ inl has ↦ has | inr not ↦ absurd (none k less not) ])
]

each_pair : (P : ℕ → ℕ → Type 0) → ((k l : ℕ) → Decided (P k l)) → (n : ℕ) → Decided ((k l : ℕ) → k < l → l < n → P k l)
each_pair P decided n =
    let inner : (l : ℕ) → Decided ((k : ℕ) → k < l → P k l) = λ l. each (λ k. P k l) (λ k. decided k l) l in
    elim (each (λ l. (k : ℕ) → k < l → P k l) inner n) [
      | inl all ↦ inl (λ k l less within. all l within k less)
      | inr not ↦ inr (λ all. not (λ l within k less. all k l less within))
    ]

is_leaf : (T : TreeValue) (i : ℕ) → Decided (IsLeaf T i)
is_leaf T i = both (at_most 1 i) (at_most i (leaf_count T))

lies : (G : Sheet) (s : ℕ) (p : Point) → Decided (Lies G 1 s p)
lies Square s p = both (at_most p.x s) (at_most p.y s)
lies (Strip width) s p = both (at_most p.x (1 * width)) (at_most p.y s)

module _ (T : TreeValue) (G : Sheet) (s : ℕ) (P : List Point) where
  outside : (i : ℕ) → Decided (IsOutside T G s P i)
  outside i = both (is_leaf T i) (neither (lies G s (point_at P i)))

  inside_or : AreInside T G s P ⊎ ((i : ℕ) × IsFirstOutside T G s P i)
  inside_or = elim (least (IsOutside T G s P) outside (leaf_count T + 1)) [
    | inr (i, less, is, first) ↦ inr (i, record { outside = is; earlier = first })
    | inl none ↦ inl (λ i leaf. elim (lies G s (point_at P i)) [ inl on ↦ on | inr off ↦ absurd (none i (omega (arith, leaf.1)) (leaf, off)) ])
  ]

  near : (i j : ℕ) → Decided (AreTooNear T P i j)
  near i j =
      let pair : Decided (IsPair T i j) = elim (both (at_most 1 i) (both (below i j) (at_most j (leaf_count T)))) [ inl is ↦ inl (is.0, is.1.0, is.1.1) | inr not ↦ inr (λ is. not (is.0, (is.1, is.2))) ] in
      both pair (below (gap (point_at P i) (point_at P j)) (leaf_dist T i j))

  abbrev HasNear : ℕ → Type 0
  HasNear i = (j : ℕ) × AreTooNear T P i j

  has_near : (i : ℕ) → Decided (HasNear i)
  has_near i = elim (least (AreTooNear T P i) (near i) (leaf_count T + 1)) [
    | inr (j, less, is, first) ↦ inl (j, is)
    | inl none ↦ inr (λ has. none has.0 (omega (arith, has.1.0.2)) has.1)
  ]

  first_with : (i : ℕ) → HasNear i → ((k : ℕ) → k < i → HasNear k → ⊥) → (j : ℕ) × AreFirstNear T P i j
  first_with i has first = elim (least (AreTooNear T P i) (near i) (leaf_count T + 1)) [
    | inl none ↦ absurd (none has.0 (omega (arith, has.1.0.2)) has.1)
    | inr (j, less, is, least_j) ↦ (j, record { near = is; earlier = λ k l other before. earlier j least_j k l other before })
  ]
    where
      earlier : (j : ℕ) → ((l : ℕ) → l < j → AreTooNear T P i l → ⊥) → (k l : ℕ) → AreTooNear T P k l → (k < i) ⊎ ((k ≡ i) × (l < j)) → ⊥
      earlier j least_j k l other (inl less) = first k less (l, other)
      earlier j least_j k l other (inr (is, less)) = least_j l less (subst (λ (m : ℕ). AreTooNear T P m l) is other)

  far_or : ((i j : ℕ) → AreTooNear T P i j → ⊥) ⊎ ((i : ℕ) × (j : ℕ) × AreFirstNear T P i j)
  far_or = elim (least HasNear has_near (leaf_count T + 1)) [
    | inl none ↦ inl (λ i j is. none i (omega (arith, is.0.1, is.0.2)) (j, is))
    | inr (i, less, has, first) ↦ let found = first_with i has first in inr (i, found.0, found.1)
  ]

  valid_or : length P ≡ leaf_count T → Valid T G 1 s P ⊎ ((f : Flaw) × IsFlaw T G s P f)
  valid_or all = elim inside_or [
    | inr (i, is) ↦ inr (Outside i, is)
    | inl inside ↦ elim far_or [
      | inr (i, j, is) ↦ inr (Near i j, (inside, is))
      | inl far ↦ inl (record {
        each = all;
        inside = inside;
        far = λ i j pair. elim (cases_lt (gap (point_at P i) (point_at P j)) (leaf_dist T i j)) [ inl less ↦ absurd (far i j (pair, less)) | inr within ↦ omega (arith, within) ];
      })
    ]
  ]

floor_decided : (T : TreeValue) (G : Sheet) (f : Floor) → Decided (FloorHolds T G f)
floor_decided T G f =
    let n = length f.leaves in
    let at : ℕ → ℕ = λ k. slice_index f.leaves k in
    elim (both (at_most 1 f.m) (both (at_most 1 n) (both (each (λ k. IsLeaf T (at k)) (λ k. is_leaf T (at k)) n)
    (both (each_pair (λ k l. at k < at l) (λ k l. below (at k) (at l)) n)
    (both (each_pair (λ k l. f.m ≤ leaf_dist T (at k) (at l)) (λ k l. at_most f.m (leaf_dist T (at k) (at l))) n) (same f.side (box_side G f.m n))))))) [
      | inl all ↦ inl (record { apart = all.0; some = all.1.0; leaf = all.1.1.0; rising = all.1.1.1.0; far = all.1.1.1.1.0; side = all.1.1.1.1.1 })
      | inr not ↦ inr (λ holds. not (holds.apart, (holds.some, (holds.leaf, (holds.rising, (holds.far, holds.side))))))
    ]

tree_decided : (S T : TreeValue) → Decided (S ≡ T)
tree_decided S T =
    let numbers : (xs ys : List ℕ) → Decided (xs ≡ ys) = λ xs ys. by_test (pointwise eqb xs ys) (bytes_eq-Decides xs ys) in
    let words : (xs ys : List (List ℕ)) → Decided (xs ≡ ys) = λ xs ys. by_test (pointwise (pointwise eqb) xs ys) (slice_eq-Decides bytes_eq-Decides xs ys (pointwise (pointwise eqb) xs ys) refl) in
    elim (both (numbers S.parents T.parents) (both (numbers S.lengths T.lengths) (words S.names T.names))) [
      | inl all ↦ inl (same_tree S T all.0 all.1.0 all.1.1)
      | inr not ↦ inr (λ is. not (ap (λ (U : TreeValue). U.parents) is, (ap (λ (U : TreeValue). U.lengths) is, ap (λ (U : TreeValue). U.names) is)))
    ]

-- the verdict of a document with one point per leaf of its own tree
pub verdict_there : (T : TreeValue) (D : Document) → length D.points ≡ leaf_count D.tree → (v : Verdict) × IsVerdictOf T D v
verdict_there T D all = elim (tree_decided D.tree T) [
  | inr other ↦ (No TreeDiffers, differs_first T D other)
  | inl is ↦ elim (valid_or T D.sheet D.side D.points (all ∙ ap leaf_count is)) [
    | inr (f, flawed) ↦ (No (reason_of f), flaw_first T D is f flawed)
    | inl valid ↦ elim (floor_decided T D.sheet D.floor) [
      | inr not ↦ (No BadFloor, floor_first T D is valid not)
      | inl floor ↦ let found = found_proof T D.sheet D.proof in (verdict_of D.bound D.floor.side found, verdict_is T D is valid floor found (found_is T D.sheet D.proof))
    ]
  ]
]

as_reason : (T : TreeValue) (D : Document) (v : Verdict) → IsVerdictOf T D v → (Checks T D → ⊥) → (r : Reason) × IsFirstReason T D r
as_reason T D Yes checks not = absurd (not checks)
as_reason T D (No r) first not = (r, first)

pub has_reason : (T : TreeValue) (D : Document) → length D.points ≡ leaf_count D.tree → (Checks T D → ⊥) → (r : Reason) × IsFirstReason T D r
has_reason T D all not = let there = verdict_there T D all in as_reason T D there.0 there.1 not
