-- Trees of one shape have the same leaves, and where they allow a pair as many choices they allow it the same ones.
use Rattle.std.proofs.Common.{◌≡◌, Bool, true, false, cond, List, [], ◌∷◌, length, refl, arith}
use Rattle.bp_base.specs.declared.path.Choice.{Choice}
use Rattle.bp_base.specs.declared.path.Choice.TheVariants.{Left, Right, Below, Above}
use Rattle.bp_base.specs.declared.path.Pair.{Pair}
use Rattle.bp_base.specs.declared.point.Sheet.{Sheet}
use Rattle.bp_base.specs.declared.point.Sheet.TheVariants.{Square, Strip}
use Rattle.bp_base.specs.Tree.{TreeValue, leaf_count}
use Rattle.bp_metric.specs.Choices.{allowed, are_late_twins, is_pair_of}
use Rattle.bp_revise.specs.Keep.{AreOfOneShape}

pub same_leaves : (S T : TreeValue) → AreOfOneShape S T → leaf_count S ≡ leaf_count T
same_leaves S T shape = λ i. leaf_count (record { parents = shape.parents i; lengths = S.lengths; names = shape.names i })

abbrev later : Bool → List Choice
later b = cond b (Left ∷ Below ∷ []) (Left ∷ Right ∷ Below ∷ Above ∷ [])

same_later : (b c : Bool) → length (later b) ≡ length (later c) → later b ≡ later c
same_later true true many = refl
same_later true false many = absurd (omega (arith, many))
same_later false true many = absurd (omega (arith, many))
same_later false false many = refl

unless : (d : Bool) (first : List Choice) (xs ys : List Choice) → (length xs ≡ length ys → xs ≡ ys) → length (cond d first xs) ≡ length (cond d first ys) → cond d first xs ≡ cond d first ys
unless true first xs ys same many = refl
unless false first xs ys same many = same many

pub same_allowed : (S T : TreeValue) (G : Sheet) (p : Pair) → length (allowed S G p) ≡ length (allowed T G p) → allowed S G p ≡ allowed T G p
unfolding allowed
same_allowed S T Square p =
    unless (is_pair_of 1 2 p) _ _ _ (unless (is_pair_of 1 3 p) _ _ _ (same_later (are_late_twins S p) (are_late_twins T p)))
same_allowed S T (Strip width) p = unless (is_pair_of 1 2 p) _ _ _ (same_later (are_late_twins S p) (are_late_twins T p))
