-- Points that obey a path: the choice of each of its steps holds for them. Its chains reach as far as they weigh, and it has no cycle.
use Rattle.std.proofs.Common.{◌≡◌, ℕ, suc, ◌+◌, ◌-◌, ◌*◌, ◌≤◌, List, [], ◌∷◌, length, slice_index, sym, ap, subst, arith, inl, inr}
use Rattle.std.proofs.Math.Nat.{mul-add, mul-pos}
use Rattle.bp_base.specs.declared.point.Axis.{Axis}
use Rattle.bp_base.specs.declared.point.Axis.TheVariants.{X, Y}
use Rattle.bp_base.specs.declared.path.Choice.{Choice}
use Rattle.bp_base.specs.declared.path.Choice.TheVariants.{Left, Right, Below, Above}
use Rattle.bp_base.specs.declared.path.Pair.{Pair}
use Rattle.bp_base.specs.declared.path.Step.{Step}
use Rattle.bp_base.specs.declared.point.Point.{Point}
use Rattle.bp_base.specs.Path.{IsPairOf}
use Rattle.bp_base.specs.Point.{point_at}
use Rattle.bp_base.specs.Tree.{TreeValue, IsTree, leaf_count, leaf_node}
use Rattle.bp_metric.specs.Chains.{PlacesBy, Places, ArePlaced, IsChain, IsCycle, first_of, last_of, chain_weight}
use Rattle.bp_metric.specs.Choices.{Holds}
use Rattle.bp_metric.specs.Distance.{leaf_dist}
use Rattle.bp_metric.specs.Refutation.{extended}
use Rattle.bp_metric.proofs.Distances.{dist_comm}
use Rattle.bp_metric.proofs.Leaves.{leaves_apart}

abbrev pub coordinate : Axis → Point → ℕ
coordinate X p = p.x
coordinate Y p = p.y

-- each step is for a pair of leaves, and its choice holds
abbrev pub Obeys : TreeValue → ℕ → List Point → List Step → Type 0
Obeys T q P [] = Unit {0}
Obeys T q P (s ∷ path) = (IsPairOf (leaf_count T) s.pair × Holds T q P s.pair s.choice) × Obeys T q P path

pub obeys_extended : (T : TreeValue) (q : ℕ) (P : List Point) (path : List Step) (p : Pair) (c : Choice) → IsPairOf (leaf_count T) p → Holds T q P p c → Obeys T q P path → Obeys T q P (extended path p c)
obeys_extended T q P [] p c pair holds obeys = ((pair, holds), tt)
obeys_extended T q P (s ∷ path) p c pair holds obeys = (obeys.0, obeys_extended T q P path p c pair holds obeys.1)

-- leaf a lies before leaf b by at least their distance
record IsBefore (T : TreeValue) (q : ℕ) (P : List Point) (axis : Axis) (a b : ℕ) : Type 0 where
  far : coordinate axis (point_at P a) + q * leaf_dist T a b ≤ coordinate axis (point_at P b)
  positive : 1 ≤ leaf_dist T a b

last_again : (a b : ℕ) (more : List ℕ) → last_of (a ∷ b ∷ more) ≡ last_of (b ∷ more)
last_again a b more =
    let place : length (a ∷ b ∷ more) - 1 ≡ suc (length (b ∷ more) - 1) = omega arith in
    ap (λ (k : ℕ). slice_index (a ∷ b ∷ more) k) place

module _ (T : TreeValue) (t : IsTree T) (q : ℕ) (P : List Point) where
  named : (axis : Axis) (a b i j : ℕ) → a ≡ i → b ≡ j → IsBefore T q P axis i j → IsBefore T q P axis a b
  named axis a b i j first second before =
      subst (λ (k : ℕ). IsBefore T q P axis k b) (sym first) (subst (λ (k : ℕ). IsBefore T q P axis i k) (sym second) before)

  -- the two points by the choice, forwards and backwards
  forwards : (axis : Axis) (p : Pair) → IsPairOf (leaf_count T) p → coordinate axis (point_at P p.i) + q * leaf_dist T p.i p.j ≤ coordinate axis (point_at P p.j) → IsBefore T q P axis p.i p.j
  forwards axis p pair far = record { far = far; positive = omega (arith, leaves_apart T t p.i p.j pair.0 pair.1 pair.2) }

  backwards : (axis : Axis) (p : Pair) → IsPairOf (leaf_count T) p → coordinate axis (point_at P p.j) + q * leaf_dist T p.i p.j ≤ coordinate axis (point_at P p.i) → IsBefore T q P axis p.j p.i
  backwards axis p pair far =
      let same : leaf_dist T p.i p.j ≡ leaf_dist T p.j p.i = dist_comm T t (leaf_node T p.i) (leaf_node T p.j) in
      record {
        far = subst (λ (d : ℕ). coordinate axis (point_at P p.j) + q * d ≤ coordinate axis (point_at P p.i)) same far;
        positive = omega (arith, leaves_apart T t p.i p.j pair.0 pair.1 pair.2, same);
      }

  before_by : (axis : Axis) (a b : ℕ) (p : Pair) (c : Choice) → IsPairOf (leaf_count T) p → Holds T q P p c → PlacesBy axis a b p c → IsBefore T q P axis a b
  before_by X a b p Left pair holds places = named X a b p.i p.j places.0 places.1 (forwards X p pair holds)
  before_by X a b p Right pair holds places = named X a b p.j p.i places.0 places.1 (backwards X p pair holds)
  before_by X a b p Below pair holds places = absurd places
  before_by X a b p Above pair holds places = absurd places
  before_by Y a b p Left pair holds places = absurd places
  before_by Y a b p Right pair holds places = absurd places
  before_by Y a b p Below pair holds places = named Y a b p.i p.j places.0 places.1 (forwards Y p pair holds)
  before_by Y a b p Above pair holds places = named Y a b p.j p.i places.0 places.1 (backwards Y p pair holds)

  -- what a step of the path places before a leaf lies before it
  before : (path : List Step) (axis : Axis) (a b : ℕ) → Obeys T q P path → Places path axis a b → IsBefore T q P axis a b
  before [] axis a b obeys places = absurd places
  before (s ∷ path) axis a b obeys (inl here) = before_by axis a b s.pair s.choice obeys.0.0 obeys.0.1 here
  before (s ∷ path) axis a b obeys (inr later) = before path axis a b obeys.1 later

  reaches : (path : List Step) (axis : Axis) (a : ℕ) (leaves : List ℕ) → Obeys T q P path → ArePlaced path axis (a ∷ leaves) → coordinate axis (point_at P a) + q * chain_weight T (a ∷ leaves) ≤ coordinate axis (point_at P (last_of (a ∷ leaves)))
  reaches path axis a [] obeys placed = omega arith
  reaches path axis a (b ∷ more) obeys placed =
      let here = before path axis a b obeys placed.0 in
      let rest = reaches path axis b more obeys placed.1 in
      let end = ap (λ (k : ℕ). coordinate axis (point_at P k)) (last_again a b more) in
      omega (arith, here.far, rest, end, mul-add q (leaf_dist T a b) (chain_weight T (b ∷ more)))

  -- the last leaf of a chain lies behind the first by at least the chain's weight
  pub chain_reaches : (path : List Step) (axis : Axis) (leaves : List ℕ) → Obeys T q P path → IsChain (leaf_count T) path axis leaves → coordinate axis (point_at P (first_of leaves)) + q * chain_weight T leaves ≤ coordinate axis (point_at P (last_of leaves))
  chain_reaches path axis [] obeys is = absurd (omega (arith, is.some))
  chain_reaches path axis (a ∷ leaves) obeys is = reaches path axis a leaves obeys is.placed

  -- so none is a cycle
  pub no_cycle : (path : List Step) (axis : Axis) (leaves : List ℕ) → 1 ≤ q → Obeys T q P path → IsCycle (leaf_count T) path axis leaves → ⊥
  no_cycle path axis leaves finer obeys is =
      let along = chain_reaches path axis leaves obeys is.chain in
      let back = before path axis (last_of leaves) (first_of leaves) obeys is.closed in
      let long : 1 ≤ q * leaf_dist T (last_of leaves) (first_of leaves) = mul-pos finer back.positive in
      omega (arith, along, back.far, long)
