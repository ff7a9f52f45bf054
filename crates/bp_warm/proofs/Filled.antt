-- From exact rows to a frame.
use Rattle.std.proofs.Common.{◌≡◌, ℕ, ◌+◌, ◌-◌, ◌<◌, ◌≤◌, ◌⊎◌, List, [], length, get_or, replicate, refl, sym, ◌∙◌, ap, subst, arith, inl, inr}
use Rattle.std.proofs.lemmas.List.{get_or-replicate, get_or_past, length-replicate}
use Rattle.std.proofs.lemmas.Bool.{cases_lt}
use Rattle.bp_base.specs.declared.point.Axis.{Axis}
use Rattle.bp_base.specs.declared.point.Axis.TheVariants.{X, Y}
use Rattle.bp_base.specs.declared.point.Sheet.{Sheet}
use Rattle.bp_base.specs.declared.path.Step.{Step}
use Rattle.bp_base.specs.declared.chain.Claim.TheVariants.{Walk}
use Rattle.bp_base.specs.declared.record.Least.{Least}
use Rattle.bp_base.specs.Tree.{TreeValue, IsTree, leaf_count}
use Rattle.bp_metric.specs.Chains.{HasPairsOf}
use Rattle.bp_metric.specs.Coordinates.{IsForcedBy}
use Rattle.bp_walks.specs.Lows.{ShowsLeaf}
use Rattle.bp_walks.proofs.Fine.{IsTop, fine_least}
use Rattle.bp_warm.specs.Links.{ordered, reversed, LinksValue, AreLinks}
use Rattle.bp_warm.specs.Raising.{low_in, IsExact}
use Rattle.bp_warm.specs.Warm.{pair_count}
use Rattle.bp_warm.specs.Kept.{IsFrame, IsHalf}
use Rattle.bp_warm.proofs.Pulling.{exact_lows}

-- the top of a row
pub top_of : (n : ℕ) (row : List ℕ) (r : ℕ) → length row ≡ n → (1 ≤ r) × (r ≤ length row) → ((k : ℕ) → k < length row → get_or row k 0 ≤ low_in row r) → ((k : ℕ) → k + 1 < r → get_or row k 0 < low_in row r) → IsTop n (low_in row) r
top_of n row r each leaf greatest first =
    record {
      leaf = (leaf.0, omega (arith, leaf.1, each));
      greatest = λ i from to. greatest (i - 1) (omega arith);
      first = λ i from less. first (i - 1) (omega arith);
    }

module _ (T : TreeValue) (t : IsTree T) (path : List Step) (pairs : HasPairsOf (leaf_count T) path) (G : Sheet) (xs ys : List ℕ) (x : IsExact T path X xs) (y : IsExact T path Y ys) (rx ry : ℕ) (top_x : IsTop (leaf_count T) (low_in xs) rx) (top_y : IsTop (leaf_count T) (low_in ys) ry) where
  pub frame_from : (axis : Axis) (v : ℕ) (kept_x kept_y leaves : List ℕ) → IsForcedBy G (low_in xs rx) (low_in ys ry) axis v → (ShowsLeaf T path X rx leaves × (axis ≡ X)) ⊎ (ShowsLeaf T path Y ry leaves × (axis ≡ Y)) → kept_x ≡ xs → kept_y ≡ ys → IsFrame T G path (record { xs = kept_x; ys = kept_y; forced = v; claim = Walk axis leaves })
  frame_from axis v kept_x kept_y leaves judged shows is_x is_y =
      let shows_too : (ShowsLeaf T path axis rx leaves × (axis ≡ X)) ⊎ (ShowsLeaf T path axis ry leaves × (axis ≡ Y)) =
      elim shows [
        | inl s ↦ inl (subst (λ (z : Axis). ShowsLeaf T path z rx leaves) (sym s.1) s.0, s.1)
        | inr s ↦ inr (subst (λ (z : Axis). ShowsLeaf T path z ry leaves) (sym s.1) s.0, s.1)
      ] in
      let least = fine_least T t path pairs (low_in xs) (low_in ys) (exact_lows T path X xs x) (exact_lows T path Y ys y) rx ry top_x top_y G axis v xs ys leaves judged shows_too (record { each = x.each; is = λ i from to. refl }) (record { each = y.each; is = λ i from to. refl }) in
      let whole : IsFrame T G path (record { xs = xs; ys = ys; forced = v; claim = Walk axis leaves }) =
      record { least = least; exact_x = x; exact_y = y } in
      let same : ◌≡◌ {A = Least} (record { xs = xs; ys = ys; forced = v; claim = Walk axis leaves }) (record { xs = kept_x; ys = kept_y; forced = v; claim = Walk axis leaves }) =
      λ i. record { xs = sym is_x i; ys = sym is_y i; forced = v; claim = Walk axis leaves } in
      subst (IsFrame T G path) same whole

-- The path without steps.

abbrev zeros_of : ℕ → List ℕ
zeros_of n = replicate n 0

zeros_at : (n i : ℕ) → get_or (zeros_of n) i 0 ≡ 0
zeros_at n i = elim (cases_lt i n) [
  | inl within ↦ get_or-replicate {A = ℕ} n i 0 0 within
  | inr past ↦ get_or_past {X = ℕ} (zeros_of n) i 0 (omega (arith, length-replicate {A = ℕ} n 0))
]

pub empty_half : (T : TreeValue) (axis : Axis) (row : List ℕ) (xa xb : LinksValue) (room : ℕ) → row ≡ replicate (leaf_count T) 0 → room ≡ pair_count T → xa ≡ record { room = room; rows = replicate 33 [] } → xb ≡ record { room = room; rows = replicate 33 [] } → IsHalf T [] axis row xa xb
empty_half T axis row xa xb room row_is room_is a_is b_is =
    let zero_at : (i : ℕ) → low_in row i ≡ 0 = λ i. ap (λ (r : List ℕ). get_or r (i - 1) 0) row_is ∙ zeros_at (leaf_count T) (i - 1) in
    record {
      exact = record {
        each = omega (arith, ap length row_is, length-replicate {A = ℕ} (leaf_count T) 0);
        small = λ i. omega (arith, zero_at i);
        meets = λ a b placed. absurd placed;
        made_up = λ i leaf. inl (zero_at i);
      };
      after_links = subst (AreLinks (ordered axis) []) (sym a_is) (record { each = refl; row = λ u less. get_or-replicate {A = List ℕ} 33 u [] [] less });
      before_links = subst (AreLinks (reversed axis) []) (sym b_is) (record { each = refl; row = λ u less. get_or-replicate {A = List ℕ} 33 u [] [] less });
      after_room = ap (λ (l : LinksValue). l.room) a_is ∙ room_is;
      before_room = ap (λ (l : LinksValue). l.room) b_is ∙ room_is;
    }
