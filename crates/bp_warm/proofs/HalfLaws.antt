-- One axis as a path grows and shrinks.
use Rattle.std.proofs.Common.{◌≡◌, ℕ, ◌-◌, ◌<◌, List, [], ◌∷◌, ◌++◌, length, get_or, set, take, drop, sym, ◌∙◌, ap, subst, arith}
use Rattle.std.proofs.lemmas.List.{take_at}
use Rattle.bp_base.specs.declared.point.Axis.{Axis}
use Rattle.bp_base.specs.declared.point.Axis.TheVariants.{X, Y}
use Rattle.bp_base.specs.declared.path.Step.{Step}
use Rattle.bp_base.specs.Path.{IsPairOf}
use Rattle.bp_base.specs.Tree.{TreeValue, IsTree, leaf_count}
use Rattle.bp_metric.specs.Chains.{HasPairsOf, HasCycleOn}
use Rattle.bp_metric.proofs.Lows.{no_cycle}
use Rattle.bp_warm.specs.Links.{ordered, reversed, turn_all, LinksValue, AreLinks, IsOrder, other}
use Rattle.bp_warm.specs.Raising.{IsExact, low_in}
use Rattle.bp_warm.specs.Warm.{pair_count}
use Rattle.bp_warm.specs.Kept.{IsHalf}
use Rattle.bp_warm.proofs.Ordering.{order_pairs, order_empty, order_leaves}
use Rattle.bp_warm.proofs.Linked.{none_links, none_back, add_links, remove_links, short_after, short_before}
use Rattle.bp_warm.proofs.Grown.{other_exact, longer_pairs}

-- a vector whose whole list was written over
pub written : (len : ℕ) (items new : List ℕ) → length new ≡ len → take len (new ++ drop (length new) items) ≡ new
written len items new long = take_at new (drop (length new) items) len long

module _ (T : TreeValue) (path : List Step) (s : Step) (axis : Axis) (a b : ℕ) (order : IsOrder s.pair s.choice axis a b) (a_less : a < 33) (b_less : b < 33) where
  here : ordered axis s ≡ record { i = a; j = b } ∷ []
  here = order_pairs s.pair s.choice axis a b order

  here_back : reversed axis s ≡ record { i = b; j = a } ∷ []
  here_back = ap turn_all here

  else : ordered (other axis) s ≡ []
  else = order_empty s.pair s.choice axis a b order

  else_back : reversed (other axis) s ≡ []
  else_back = ap turn_all else

  pub half_grown : (row row' : List ℕ) (xa xb xa' xb' : LinksValue) → IsHalf T path axis row xa xb → IsExact T (path ++ s ∷ []) axis row' → xa' ≡ record { room = xa.room; rows = set xa.rows a (get_or xa.rows a [] ++ b ∷ []) } → xb' ≡ record { room = xb.room; rows = set xb.rows b (get_or xb.rows b [] ++ a ∷ []) } → IsHalf T (path ++ s ∷ []) axis row' xa' xb'
  half_grown row row' xa xb xa' xb' h exact a_is b_is =
      record {
        exact = exact;
        after_links = subst (AreLinks (ordered axis) (path ++ s ∷ [])) (sym a_is) (add_links (ordered axis) path s xa a b here a_less h.after_links);
        before_links = subst (AreLinks (reversed axis) (path ++ s ∷ [])) (sym b_is) (add_links (reversed axis) path s xb b a here_back b_less h.before_links);
        after_room = ap (λ (l : LinksValue). l.room) a_is ∙ h.after_room;
        before_room = ap (λ (l : LinksValue). l.room) b_is ∙ h.before_room;
      }

  pub half_other : (row : List ℕ) (xa xb : LinksValue) → (t : IsTree T) → HasPairsOf (leaf_count T) path → IsPairOf (leaf_count T) s.pair → IsHalf T path (other axis) row xa xb → IsHalf T (path ++ s ∷ []) (other axis) row xa xb
  half_other row xa xb t pairs pair h =
      record {
        exact = other_exact T t path pairs s pair axis a b order row h.exact;
        after_links = none_links (ordered (other axis)) path s xa h.after_links else;
        before_links = none_links (reversed (other axis)) path s xb h.before_links else_back;
        after_room = h.after_room;
        before_room = h.before_room;
      }

  pub half_back : (row row' : List ℕ) (xa xb xa' xb' : LinksValue) → IsHalf T (path ++ s ∷ []) axis row xa xb → IsExact T path axis row' → xa' ≡ record { room = xa.room; rows = set xa.rows a (take (length (get_or xa.rows a []) - 1) (get_or xa.rows a [])) } → xb' ≡ record { room = xb.room; rows = set xb.rows b (take (length (get_or xb.rows b []) - 1) (get_or xb.rows b [])) } → IsHalf T path axis row' xa' xb'
  half_back row row' xa xb xa' xb' h exact a_is b_is =
      record {
        exact = exact;
        after_links = subst (AreLinks (ordered axis) path) (sym a_is) (remove_links (ordered axis) path s xa a b here a_less h.after_links);
        before_links = subst (AreLinks (reversed axis) path) (sym b_is) (remove_links (reversed axis) path s xb b a here_back b_less h.before_links);
        after_room = ap (λ (l : LinksValue). l.room) a_is ∙ h.after_room;
        before_room = ap (λ (l : LinksValue). l.room) b_is ∙ h.before_room;
      }

  pub half_other_back : (row row' : List ℕ) (xa xb : LinksValue) → IsHalf T (path ++ s ∷ []) (other axis) row xa xb → IsExact T path (other axis) row' → IsHalf T path (other axis) row' xa xb
  half_other_back row row' xa xb h exact =
      record {
        exact = exact;
        after_links = none_back (ordered (other axis)) path s xa h.after_links else;
        before_links = none_back (reversed (other axis)) path s xb h.before_links else_back;
        after_room = h.after_room;
        before_room = h.before_room;
      }

  -- there is room for one more
  pub after_has_room : (row : List ℕ) (xa xb : LinksValue) → IsHalf T path axis row xa xb → length path < pair_count T → length (get_or xa.rows a []) < xa.room
  after_has_room row xa xb h less =
      omega (arith, ap length (h.after_links.row a a_less), short_after path axis a, h.after_room, less)

  pub before_has_room : (row : List ℕ) (xa xb : LinksValue) → IsHalf T path axis row xa xb → length path < pair_count T → length (get_or xb.rows b []) < xb.room
  before_has_room row xa xb h less =
      omega (arith, ap length (h.before_links.row b b_less), short_before path axis b, h.before_room, less)

-- no cycle is on the other axis
pub no_other_cycle : (T : TreeValue) (t : IsTree T) (path : List Step) (pairs : HasPairsOf (leaf_count T) path) (s : Step) (pair : IsPairOf (leaf_count T) s.pair) (axis : Axis) (a b : ℕ) → IsOrder s.pair s.choice axis a b → (row : List ℕ) (xa xb : LinksValue) → IsHalf T path (other axis) row xa xb → HasCycleOn (leaf_count T) (path ++ s ∷ []) (other axis) → ⊥
no_other_cycle T t path pairs s pair axis a b order row xa xb h =
    let e = other_exact T t path pairs s pair axis a b order row h.exact in
    no_cycle T t (path ++ s ∷ []) (longer_pairs (leaf_count T) path s pairs pair) (other axis) (low_in row) e.meets

-- the same, for a step on X or on Y
pub y_stays : (T : TreeValue) (t : IsTree T) (path : List Step) (pairs : HasPairsOf (leaf_count T) path) (s : Step) (pair : IsPairOf (leaf_count T) s.pair) (axis : Axis) (a b : ℕ) → axis ≡ X → IsOrder s.pair s.choice axis a b → (row : List ℕ) (ya yb : LinksValue) → IsHalf T path Y row ya yb → IsHalf T (path ++ s ∷ []) Y row ya yb
y_stays T t path pairs s pair axis a b is order row ya yb h =
    let l = order_leaves (leaf_count T) s.pair s.choice axis a b pair order in
    half_other T path s X a b (subst (λ (z : Axis). IsOrder s.pair s.choice z a b) is order) (omega (arith, l.1, t.leaves_few)) (omega (arith, l.3, t.leaves_few)) row ya yb t pairs pair h

pub x_stays : (T : TreeValue) (t : IsTree T) (path : List Step) (pairs : HasPairsOf (leaf_count T) path) (s : Step) (pair : IsPairOf (leaf_count T) s.pair) (axis : Axis) (a b : ℕ) → axis ≡ Y → IsOrder s.pair s.choice axis a b → (row : List ℕ) (xa xb : LinksValue) → IsHalf T path X row xa xb → IsHalf T (path ++ s ∷ []) X row xa xb
x_stays T t path pairs s pair axis a b is order row xa xb h =
    let l = order_leaves (leaf_count T) s.pair s.choice axis a b pair order in
    half_other T path s Y a b (subst (λ (z : Axis). IsOrder s.pair s.choice z a b) is order) (omega (arith, l.1, t.leaves_few)) (omega (arith, l.3, t.leaves_few)) row xa xb t pairs pair h
