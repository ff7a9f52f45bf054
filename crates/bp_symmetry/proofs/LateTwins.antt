-- Late twins: being one is symmetric and goes through a third leaf; each class of them is one.
use Rattle.std.proofs.Common.{◌≡◌, ℕ, ◌≤◌, ◌==◌, ◌&&◌, IsTrue, refl, sym, ◌∙◌, inl, inr}
use Rattle.std.specs.Prelude.{nat_le}
use Rattle.std.proofs.lemmas.Bool.{and_parts, and_from, leb-true, le-leb, eqb-true, eq-eqb, cases_Bool, false_from_ne_true, false≢true}
use Rattle.bp_base.specs.Tree.{TreeValue, parent, length_of, leaf_node}
use Rattle.bp_metric.specs.Choices.{are_twins, are_late_twins}
use Rattle.bp_symmetry.specs.Twins.{pair_of}

module _ (T : TreeValue) where
  pub record AreLate (i j : ℕ) : Type 0 where
    pub first : 4 ≤ i
    pub second : 4 ≤ j
    pub twins : IsTrue (are_twins T i j)

  pub late_parts : (i j : ℕ) → IsTrue (are_late_twins T (pair_of i j)) → AreLate i j
  late_parts i j is =
      let outer = and_parts (nat_le 4 i && nat_le 4 j) (are_twins T i j) is in
      let inner = and_parts (nat_le 4 i) (nat_le 4 j) outer.0 in
      record { first = leb-true 4 i inner.0; second = leb-true 4 j inner.1; twins = outer.1 }

  pub late_from : (i j : ℕ) → AreLate i j → IsTrue (are_late_twins T (pair_of i j))
  late_from i j late = and_from (nat_le 4 i && nat_le 4 j) (are_twins T i j) (and_from (nat_le 4 i) (nat_le 4 j) (le-leb 4 i late.first) (le-leb 4 j late.second)) late.twins

  record SameUpper (i j : ℕ) : Type 0 where
    upper : parent T (leaf_node T i) ≡ parent T (leaf_node T j)
    long : length_of T (leaf_node T i) ≡ length_of T (leaf_node T j)

  same_upper : (i j : ℕ) → IsTrue (are_twins T i j) → SameUpper i j
  unfolding are_twins
  same_upper i j is =
      let parts = and_parts (parent T (leaf_node T i) == parent T (leaf_node T j)) (length_of T (leaf_node T i) == length_of T (leaf_node T j)) is in
      record { upper = eqb-true _ _ parts.0; long = eqb-true _ _ parts.1 }

  twins_from : (i j : ℕ) → SameUpper i j → IsTrue (are_twins T i j)
  unfolding are_twins
  twins_from i j same = and_from (parent T (leaf_node T i) == parent T (leaf_node T j)) (length_of T (leaf_node T i) == length_of T (leaf_node T j)) (eq-eqb _ _ same.upper) (eq-eqb _ _ same.long)

  pub twins_sym : (i j : ℕ) → IsTrue (are_twins T i j) → IsTrue (are_twins T j i)
  twins_sym i j is = let a = same_upper i j is in twins_from j i (record { upper = sym a.upper; long = sym a.long })

  pub twins_trans : (i j k : ℕ) → IsTrue (are_twins T i j) → IsTrue (are_twins T j k) → IsTrue (are_twins T i k)
  twins_trans i j k is also =
      let a = same_upper i j is in
      let b = same_upper j k also in
      twins_from i k (record { upper = a.upper ∙ b.upper; long = a.long ∙ b.long })

  pub late_self : (i : ℕ) → 4 ≤ i → AreLate i i
  late_self i late = record { first = late; second = late; twins = twins_from i i (record { upper = refl; long = refl }) }

  pub late_sym : (i j : ℕ) → AreLate i j → AreLate j i
  late_sym i j is = record { first = is.second; second = is.first; twins = twins_sym i j is.twins }

  pub late_trans : (i j k : ℕ) → AreLate i j → AreLate j k → AreLate i k
  late_trans i j k is also = record { first = is.first; second = also.second; twins = twins_trans i j k is.twins also.twins }

  -- of two late twins both are in the class of a leaf, or neither is
  pub both_in_class : (m i j : ℕ) → AreLate i j → are_late_twins T (pair_of m i) ≡ are_late_twins T (pair_of m j)
  both_in_class m i j is = elim (cases_Bool (are_late_twins T (pair_of m i))) [
    | inl is_so ↦ is_so ∙ sym (late_from m j (late_trans m i j (late_parts m i is_so) is))
    | inr isnt ↦ isnt ∙ sym (false_from_ne_true (are_late_twins T (pair_of m j)) (λ so. false≢true (sym isnt ∙ late_from m i (late_trans m j i (late_parts m j so) (late_sym i j is)))))
  ]
