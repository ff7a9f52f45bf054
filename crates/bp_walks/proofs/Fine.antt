-- From exact tables of both axes to what is answered.
use Rattle.std.proofs.Common.{◌≡◌, ℕ, ◌+◌, ◌-◌, ◌<◌, ◌≤◌, ◌⊎◌, List, length, get_or, take, drop, sym, ◌∙◌, ap, subst, arith, inl, inr}
use Rattle.std.proofs.lemmas.List.{length-take-le, length-drop, get_or-take, get_or-drop}
use Rattle.bp_base.specs.declared.point.Axis.{Axis}
use Rattle.bp_base.specs.declared.point.Axis.TheVariants.{X, Y}
use Rattle.bp_base.specs.declared.point.Sheet.{Sheet}
use Rattle.bp_base.specs.declared.path.Step.{Step}
use Rattle.bp_base.specs.declared.chain.Claim.TheVariants.{Walk}
use Rattle.bp_base.specs.Tree.{TreeValue, IsTree, IsLeaf, leaf_count}
use Rattle.bp_metric.specs.Chains.{HasCycle, HasCycleOn, HasPairsOf}
use Rattle.bp_metric.specs.Coordinates.{IsLow, IsLeast, IsGreatestOn, IsForcedBy, IsShownWalk, IsShownLast}
use Rattle.bp_metric.proofs.Lows.{AreLows, is_low, no_cycle}
use Rattle.bp_metric.proofs.Shown.{greatest_on, shown_last, forced_from, shown_on_from}
use Rattle.bp_walks.specs.Lows.{places, IsLowTable, ShowsLeaf}

-- the least-numbered leaf with the greatest coordinate
pub record IsTop (n : ℕ) (f : ℕ → ℕ) (r : ℕ) : Type 0 where
  pub leaf : (1 ≤ r) × (r ≤ n)
  pub greatest : (i : ℕ) → 1 ≤ i → i ≤ n → f i ≤ f r
  pub first : (i : ℕ) → 1 ≤ i → i < r → f i < f r

-- the coordinate of leaf i in a table
abbrev pub low_at : List ℕ → ℕ → ℕ
low_at lows i = get_or lows i 0

pub exact_at : (T : TreeValue) (path : List Step) (axis : Axis) (lows : List ℕ) → IsLowTable T path axis lows → AreLows T path axis (low_at lows)
exact_at T path axis lows table = record { meets = table.meets; made_up = table.made_up }

-- the list keeps the coordinate of each leaf
pub record IsKept (n : ℕ) (f : ℕ → ℕ) (kept : List ℕ) : Type 0 where
  pub each : length kept ≡ n
  pub is : (i : ℕ) → 1 ≤ i → i ≤ n → get_or kept (i - 1) 0 ≡ f i

-- what is kept of a table: the numbers of the leaves
pub kept_of : (n m : ℕ) (lows kept : List ℕ) → length lows ≡ places → n < places → m ≡ n → kept ≡ take m (drop 1 lows) → IsKept n (low_at lows) kept
kept_of n m lows kept each few count is =
    record {
      each = omega (arith, ap length is, length-take-le m (drop 1 lows) (omega (arith, length-drop 1 lows, each, count)), count);
      is = λ i from to.
          let next : 1 + (i - 1) ≡ i = omega (arith, from) in
          ap (λ (l : List ℕ). get_or l (i - 1) 0) is
          ∙ get_or-take m (drop 1 lows) (i - 1) 0 (omega (arith, from, to, count))
          ∙ get_or-drop 1 lows (i - 1) 0
          ∙ ap (λ (k : ℕ). get_or lows k 0) next;
    }

module _ (T : TreeValue) (t : IsTree T) (path : List Step) (pairs : HasPairsOf (leaf_count T) path) where
  module _ (axis : Axis) (f : ℕ → ℕ) (exact : AreLows T path axis f) where
    pub none_on : HasCycleOn (leaf_count T) path axis → ⊥
    none_on = no_cycle T t path pairs axis f exact.meets

    kept_low : (kept : List ℕ) → IsKept (leaf_count T) f kept → (i : ℕ) → IsLeaf T i → IsLow T path axis i (get_or kept (i - 1) 0)
    kept_low kept is i leaf =
        subst (IsLow T path axis i) (sym (is.is i leaf.0 leaf.1)) (is_low T t path pairs axis f exact i leaf)

    top_greatest : (r : ℕ) → IsTop (leaf_count T) f r → IsGreatestOn T path axis (f r)
    top_greatest r top = greatest_on T t path pairs axis f exact r top.leaf (λ i leaf. top.greatest i leaf.0 leaf.1)

    top_last : (r : ℕ) → IsTop (leaf_count T) f r → IsShownLast T path axis r
    top_last r top =
        shown_last T t path pairs axis f exact r top.leaf (λ i leaf. top.greatest i leaf.0 leaf.1) (λ i leaf less. top.first i leaf.0 less)

  module _ (f g : ℕ → ℕ) (on_x : AreLows T path X f) (on_y : AreLows T path Y g) (rx ry : ℕ) (top_x : IsTop (leaf_count T) f rx) (top_y : IsTop (leaf_count T) g ry) where
    no_cycle_at : HasCycle (leaf_count T) path → ⊥
    no_cycle_at (axis, cycle) = go axis cycle
      where
        go : (axis : Axis) → HasCycleOn (leaf_count T) path axis → ⊥
        go X cycle = none_on X f on_x cycle
        go Y cycle = none_on Y g on_y cycle

    -- the chain is shown for the top leaf of its axis
    abbrev pub ShowsTop : Axis → List ℕ → Type 0
    ShowsTop axis leaves = (ShowsLeaf T path axis rx leaves × (axis ≡ X)) ⊎ (ShowsLeaf T path axis ry leaves × (axis ≡ Y))

    top_walk : (G : Sheet) (axis : Axis) (v r : ℕ) (leaves : List ℕ) → IsForcedBy G (f rx) (g ry) axis v → ShowsLeaf T path axis r leaves → IsShownLast T path axis r → IsShownWalk T G path axis leaves
    top_walk G axis v r leaves judged shows last =
        record {
          no_cycle = no_cycle_at;
          is_chain = shows.chain;
          on_axis = shown_on_from T path (f rx) (g ry) (top_greatest X f on_x rx top_x) (top_greatest Y g on_y ry top_y) G axis v judged;
          last = subst (IsShownLast T path axis) (sym shows.ends) last;
          before = shows.shown;
          begins = shows.begins;
        }

    shown_walk : (G : Sheet) (axis : Axis) (v : ℕ) (leaves : List ℕ) → IsForcedBy G (f rx) (g ry) axis v → ShowsTop axis leaves → IsShownWalk T G path axis leaves
    shown_walk G axis v leaves judged shows = elim shows [
      | inl s ↦ top_walk G axis v rx leaves judged s.0 (subst (λ (a : Axis). IsShownLast T path a rx) (sym s.1) (top_last X f on_x rx top_x))
      | inr s ↦ top_walk G axis v ry leaves judged s.0 (subst (λ (a : Axis). IsShownLast T path a ry) (sym s.1) (top_last Y g on_y ry top_y))
    ]

    pub fine_least : (G : Sheet) (axis : Axis) (v : ℕ) (kept_x kept_y leaves : List ℕ) → IsForcedBy G (f rx) (g ry) axis v → ShowsTop axis leaves → IsKept (leaf_count T) f kept_x → IsKept (leaf_count T) g kept_y → IsLeast T G path (record { xs = kept_x; ys = kept_y; forced = v; claim = Walk axis leaves })
    fine_least G axis v kept_x kept_y leaves judged shows is_x is_y =
        record {
          no_cycle = no_cycle_at;
          xs_each = is_x.each;
          ys_each = is_y.each;
          xs = kept_low X f on_x kept_x is_x;
          ys = kept_low Y g on_y kept_y is_y;
          forced = forced_from T path (f rx) (g ry) (top_greatest X f on_x rx top_x) (top_greatest Y g on_y ry top_y) G axis v judged;
          claim = shown_walk G axis v leaves judged shows;
        }
