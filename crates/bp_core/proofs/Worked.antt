-- Searches of the tree c p 3/c q 4/ that end with their budget spent: before the first ticket, and after one split.
use Rattle.std.proofs.Common.{inl, inr, ℕ, zero, suc, ◌<◌, ◌≤◌, List, [], ◌∷◌, All, Any, refl, sym, subst, arith}
use Rattle.bp_base.specs.declared.path.Choice.TheVariants.{Left}
use Rattle.bp_base.specs.declared.path.Pair.{Pair}
use Rattle.bp_base.specs.declared.point.Axis.{Axis}
use Rattle.bp_base.specs.declared.point.Axis.TheVariants.{X, Y}
use Rattle.bp_base.specs.declared.point.Sheet.TheVariants.{Square}
use Rattle.bp_base.specs.declared.record.Record.{Record}
use Rattle.bp_base.specs.declared.record.RecordKind.TheVariants.{Split}
use Rattle.bp_metric.specs.Distance.{leaf_dist}
use Rattle.bp_metric.specs.Choices.{allowed}
use Rattle.bp_metric.specs.Chains.{IsChain, chain_weight}
use Rattle.bp_metric.specs.Coordinates.{IsLow, IsGreatestOn, IsForced}
use Rattle.bp_metric.specs.Next.{IsNear, IsNextPair, IsEarlier}
use Rattle.bp_metric.specs.Opening.{IsOpeningSide}
use Rattle.bp_metric.specs.Records.{IsSound}
use Rattle.bp_metric.specs.Refutation.{extended}
use Rattle.bp_metric.specs.Stated.{IsInner}
use Rattle.bp_metric.proofs.TwoFlaps.{two, points, apart, only_pair, valid, opening}
use Rattle.bp_core.specs.Settled.{IsSettled, Solves}

abbrev pub pair : Pair
pair = record { i = 1; j = 2 }

pub opening_side : IsOpeningSide two Square 7
opening_side = record { opening = points; is_opening = opening; is_side = refl }

-- on the empty path no chain weighs anything
no_weight : (axis : Axis) (leaves : List ℕ) → IsChain 2 [] axis leaves → chain_weight two leaves ≤ 0
no_weight axis [] is = omega arith
no_weight axis (a ∷ []) is = omega arith
no_weight axis (a ∷ b ∷ more) is = absurd is.placed.0

alone : (axis : Axis) (i : ℕ) → 1 ≤ i → i ≤ 2 → IsChain 2 [] axis (i ∷ [])
alone axis i low high = record {
  some = omega arith;
  are_leaves = are_leaves;
  differ = λ k l d less within. absurd (omega (arith, less, within));
  placed = tt;
}
  where
    are_leaves : All {X = ℕ} (λ a. (1 ≤ a) × (a ≤ 2)) (i ∷ [])
    are_leaves zero d less = (low, high)
    are_leaves (suc k) d less = absurd (omega (arith, less))

low : (axis : Axis) (i : ℕ) → 1 ≤ i → i ≤ 2 → IsLow two [] axis i 0
low axis i above within = record {
  chain = i ∷ [];
  is_chain = alone axis i above within;
  ends = refl;
  weighs = refl;
  most = λ other is ends. no_weight axis other is;
}

near : IsNear two [] pair
near = record {
  x_i = 0;
  y_i = 0;
  x_j = 0;
  y_j = 0;
  is_x_i = low X 1 (omega arith) (omega arith);
  is_y_i = low Y 1 (omega arith) (omega arith);
  is_x_j = low X 2 (omega arith) (omega arith);
  is_y_j = low Y 2 (omega arith) (omega arith);
  near = omega (arith, apart);
}

pub next : IsNextPair two [] pair
next = record {
  pair = (omega arith, omega arith, omega arith);
  near = near;
  greatest = λ r is r_near. only_pair (λ i j. leaf_dist two i j ≤ leaf_dist two 1 2) (omega arith) r.i r.j is;
  least = λ r is r_near same. none_earlier r is;
}
  where
    none_earlier : (r : Pair) → (1 ≤ r.i) × (r.i < r.j) × (r.j ≤ 2) → IsEarlier r pair → ⊥
    none_earlier r is (inl less) = omega (arith, is.0, less)
    none_earlier r is (inr (same, less)) = omega (arith, is.1, same, less)

pub greatest : IsGreatestOn two [] X 0
greatest = record { chain = 1 ∷ []; is_chain = alone X 1 (omega arith) (omega arith); weighs = refl; most = no_weight X }

pub inner : IsInner two Square 7 [] pair
inner = record { forced = 0; is_forced = record { axis = X; on_axis = greatest; most = no_weight }; below = omega arith; next = next }

forces_less : (v : ℕ) → IsForced two Square [] v → v < 7
forces_less v forced = omega (arith, forced.on_axis.weighs, no_weight forced.axis forced.on_axis.chain forced.on_axis.is_chain)

abbrev pub root : Record
root = record { path = []; bound = 7; ticket = 0; given = 7; kind = Split pair }

-- nothing is examined, and the root is left
unspent : IsSettled two Square 0 (record { side = 7; points = points; records = []; left = (record { path = []; bound = 7 }) ∷ []; examined = 0 })
unspent = record {
  balanced = λ h. refl;
  tickets = λ h. refl;
  within_budget = omega arith;
  sound = λ k d less. absurd (omega (arith, less));
  least = record {
    opening_side = 7;
    is_opening_side = opening_side;
    no_more = omega arith;
    least = λ v (k, r, less, at, solves). absurd (omega (arith, less));
    reached = inl refl;
  };
  valid = valid;
  at_end = inr (inl refl);
}

root_sound : IsSound two Square 7 root
root_sound = record {
  opening_side = 7;
  is_opening_side = opening_side;
  stated = λ k less. absurd (omega (arith, less));
  no_less = omega arith;
  no_more = omega arith;
  judged = (inner, forces_less);
}

-- the root is split, which spends the budget, and its one child is left
after_split : IsSettled two Square 1 (record { side = 7; points = points; records = root ∷ []; left = (record { path = extended [] pair Left; bound = 7 }) ∷ []; examined = 1 })
unfolding allowed
after_split = record {
  balanced = λ h. refl;
  tickets = λ h. refl;
  within_budget = omega arith;
  sound = sound;
  least = record {
    opening_side = 7;
    is_opening_side = opening_side;
    no_more = omega arith;
    least = λ v found. absurd (none_solves v found);
    reached = inl refl;
  };
  valid = valid;
  at_end = inr (inl refl);
}
  where
    sound : All (IsSound two Square 7) (root ∷ [])
    sound zero d less = root_sound
    sound (suc k) d less = absurd (omega (arith, less))

    none_solves : (v : ℕ) → Any (Solves two Square v) (root ∷ []) → ⊥
    none_solves v (zero, r, less, at, solves) = (subst (Solves two Square v) (sym at) solves).1 pair (omega arith, omega arith, omega arith) near
    none_solves v (suc k, r, less, at, solves) = absurd (omega (arith, less))
