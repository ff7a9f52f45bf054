-- The first knowledge in the making.
use Rattle.std.proofs.Common.{◌≡◌, ℕ, zero, suc, ◌+◌, ◌-◌, ◌<◌, ◌≤◌, ◌==◌, ◌||◌, ◌++◌, Bool, true, false, Option, None, Some, List, [], ◌∷◌, map, drop, set, length, get_or, replicate, All, refl, sym, ◌∙◌, ap, subst, arith}
use Rattle.std.specs.List.{list_any}
use Rattle.std.proofs.lemmas.Bool.{false≢true, eqb-true, eqb-false}
use Rattle.std.proofs.lemmas.List.{append-nil, drop_more}
use Rattle.std.proofs.lemmas.List.Elements.{All-cons}
use Rattle.bp_base.specs.declared.path.Pair.{Pair}
use Rattle.bp_base.specs.declared.point.Axis.{Axis}
use Rattle.bp_base.specs.declared.point.Axis.TheVariants.{X, Y}
use Rattle.bp_base.specs.declared.point.Sheet.{Sheet}
use Rattle.bp_base.specs.declared.point.Sheet.TheVariants.{Square, Strip}
use Rattle.bp_base.specs.Limits.{most_number}
use Rattle.bp_base.specs.Tree.{TreeValue, leaf_count}
use Rattle.bp_metric.specs.Metric.{IsSheet}
use Rattle.bp_arrangement.specs.Swaps.{IsAdmissible, head}
use Rattle.bp_lemmas.specs.Systems.{Order, never, is_order}
use Rattle.bp_lemmas.specs.Knowledge.{first_knowledge, with_order, without_order, IsBroken, crossed, both, circular}
use Rattle.bp_lemmas.specs.Trees.{axis_of, number, first_upper, tree_system}
use Rattle.bp_lemmas.proofs.Trees.{axis_number, head_first, head_second, head_differs}
use Rattle.bp_mirror.specs.Systems.{mirror_system}
use Rattle.bp_mirror.proofs.Symmetric.{no_corner}
use Rattle.bp_replay.specs.declared.known.Known.{Known}
use Rattle.bp_replay.specs.Cells.{places, rows, cell_of}
use Rattle.bp_replay.specs.Sets.{has}
use Rattle.bp_replay.specs.Tasks.{Ties, cornered, mirrored, Task, system_by, system_of}
use Rattle.bp_replay.specs.Leanings.{corner_of}
use Rattle.bp_replay.specs.Kept.{most_code, AreTwoLeaves, has_at, KnowsNever, Shows, Keeps}
use Rattle.bp_replay.specs.Replays.{IsTie, IsSwapOf, AreHeads}
use Rattle.bp_replay.specs.Roots.{impossible, head_back, with_heads}
use Rattle.bp_replay.proofs.Shown.{keeps_broken, keeps_shows, order_written, small_column}
use Rattle.bp_replay.proofs.Tied.{first_cell, never_cell, first_cell_never}

-- a table of zeros
pub zeros : (n u : ℕ) → let z : ℕ = 0 in get_or (replicate n z) u z ≡ z
zeros zero u = refl
zeros (suc n) zero = refl
zeros (suc n) (suc u) = zeros n u

swap_two : (ties : Ties) (T : TreeValue) (swap : List Pair) → IsSwapOf ties T swap → AreTwoLeaves T (head swap).i (head swap).j
swap_two (cornered corner) T swap is = (head_first T corner.i corner.j swap is, head_second T corner.i corner.j swap is, head_differs T corner.i corner.j swap is)
swap_two (mirrored kind mirror) T swap is =
    let there : IsAdmissible T 0 0 swap = no_corner T swap is.swaps in
    (head_first T 0 0 swap there, head_second T 0 0 swap there, head_differs T 0 0 swap there)

heads_two : (ties : Ties) (T : TreeValue) (swaps : List (List Pair)) → All (IsSwapOf ties T) swaps → All (λ h. AreTwoLeaves T h.i h.j) (map head swaps)
heads_two ties T [] each = λ k d within. absurd (omega (arith, within))
heads_two ties T (swap ∷ swaps) each =
    All-cons (λ h. AreTwoLeaves T h.i h.j) (head swap) (map head swaps) (swap_two ties T swap (each 0 swap (omega arith)))
    (heads_two ties T swaps (λ k d within. each (suc k) d (omega (arith, within))))

pub named_heads : (t : Task) → AreHeads t → All (λ h. AreTwoLeaves t.tree h.i h.j) t.heads
named_heads t is = subst (All (λ h. AreTwoLeaves t.tree h.i h.j)) is.1.1 (heads_two t.ties t.tree is.0 is.1.0)

is_some : Option Pair → Bool
is_some None = false
is_some (Some c) = true

either_corner : Pair → Option Pair → Pair
either_corner other None = other
either_corner other (Some c) = c

pub is_cornered : (ties : Ties) (corner : Pair) → corner_of ties ≡ Some corner → ties ≡ cornered corner
unfolding is_some either_corner
is_cornered (cornered p) corner same = ap cornered (ap (either_corner corner) same)
is_cornered (mirrored kind mirror) corner same = absurd (false≢true (ap is_some same))

pub corner_two : (ties : Ties) (T : TreeValue) (G : Sheet) (corner : Pair) → IsTie ties T G → corner_of ties ≡ Some corner → AreTwoLeaves T corner.i corner.j
corner_two ties T G corner is same = subst (λ (u : Ties). IsTie u T G) (is_cornered ties corner same) is

abbrev pub task : TreeValue → Sheet → ℕ → List Pair → Ties → Task
task T G bound heads ties = record { tree = T; sheet = G; bound = bound; ties = ties; heads = heads }

or_swap : (b c d : Bool) → (b || (c || d)) ≡ (c || (b || d))
or_swap true true d = refl
or_swap true false d = refl
or_swap false true d = refl
or_swap false false d = refl

-- one head more
head_more : (T : TreeValue) (G : Sheet) (bound : ℕ) (heads : List Pair) (ties : Ties) (h : Pair) (more : List Pair) → without_order (with_heads (task T G bound heads ties) more) (head_back (task T G bound heads ties) h) ≡ with_heads (task T G bound heads ties) (h ∷ more)
unfolding without_order
head_more T G bound heads (cornered corner) h more = refl
head_more T G bound heads (mirrored kind mirror) h more =
    let t = task T G bound heads (mirrored kind mirror) in
    let rest = map (head_back t) more in
    λ i. record (with_heads t more) { fails = λ (p : Order). or_swap (is_order p (head_back t h)) (is_order p never) (list_any (is_order p) rest) i }

pub heads_step : (t : Task) (k n : ℕ) (h d : Pair) → n ≡ length t.heads → k < n → h ≡ get_or t.heads (n - 1 - k) d → without_order (with_heads t (drop (length t.heads - k) t.heads)) (head_back t h) ≡ with_heads t (drop (length t.heads - (k + 1)) t.heads)
heads_step t k n h d all within is =
    let heads = t.heads in
    let i = length heads - (k + 1) in
    let same : n - 1 - k ≡ i = omega (arith, all) in
    let next : i + 1 ≡ length heads - k = omega (arith, all, within) in
    let parts : drop i heads ≡ h ∷ drop (length heads - k) heads =
    drop_more heads i d (omega (arith, all, within))
    ∙ ap (λ (p : Pair). p ∷ drop (i + 1) heads) (ap (λ (m : ℕ). get_or heads m d) (sym same) ∙ sym is)
    ∙ ap (λ (m : ℕ). h ∷ drop m heads) next in
    head_more t.tree t.sheet t.bound t.heads t.ties h (drop (length heads - k) heads) ∙ ap (with_heads t) (sym parts)

-- what is known of a corner beside the heads is all that is known at first
on_square : (T : TreeValue) (bound : ℕ) (heads : List Pair) (p : Pair) → with_order (with_heads (task T Square bound heads (cornered p)) heads) ((system_of (task T Square bound heads (cornered p))).order X p.i p.j) ≡ first_knowledge (system_of (task T Square bound heads (cornered p)))
unfolding with_order tree_system
on_square T bound heads p = refl

on_strip : (T : TreeValue) (width bound : ℕ) (heads : List Pair) (p : Pair) → without_order (without_order (with_heads (task T (Strip width) bound heads (cornered p)) heads) ((system_of (task T (Strip width) bound heads (cornered p))).order Y p.j p.i)) ((system_of (task T (Strip width) bound heads (cornered p))).order X p.j p.i) ≡ first_knowledge (system_of (task T (Strip width) bound heads (cornered p)))
unfolding without_order tree_system
on_strip T width bound heads p = refl

pub first_square : (t : Task) (p : Pair) → corner_of t.ties ≡ Some p → t.sheet ≡ Square → with_order (with_heads t t.heads) ((system_of t).order X p.i p.j) ≡ first_knowledge (system_of t)
first_square t p corner square =
    subst (λ (G : Sheet). with_order (with_heads (task t.tree G t.bound t.heads t.ties) t.heads) ((system_of (task t.tree G t.bound t.heads t.ties)).order X p.i p.j) ≡ first_knowledge (system_of (task t.tree G t.bound t.heads t.ties))) (sym square)
    (subst (λ (ties : Ties). with_order (with_heads (task t.tree Square t.bound t.heads ties) t.heads) ((system_of (task t.tree Square t.bound t.heads ties)).order X p.i p.j) ≡ first_knowledge (system_of (task t.tree Square t.bound t.heads ties))) (sym (is_cornered t.ties p corner))
    (on_square t.tree t.bound t.heads p))

pub first_strip : (t : Task) (p : Pair) (width : ℕ) → corner_of t.ties ≡ Some p → t.sheet ≡ Strip width → without_order (without_order (with_heads t t.heads) ((system_of t).order Y p.j p.i)) ((system_of t).order X p.j p.i) ≡ first_knowledge (system_of t)
first_strip t p width corner strip =
    subst (λ (G : Sheet). without_order (without_order (with_heads (task t.tree G t.bound t.heads t.ties) t.heads) ((system_of (task t.tree G t.bound t.heads t.ties)).order Y p.j p.i)) ((system_of (task t.tree G t.bound t.heads t.ties)).order X p.j p.i) ≡ first_knowledge (system_of (task t.tree G t.bound t.heads t.ties))) (sym strip)
    (subst (λ (ties : Ties). without_order (without_order (with_heads (task t.tree (Strip width) t.bound t.heads ties) t.heads) ((system_of (task t.tree (Strip width) t.bound t.heads ties)).order Y p.j p.i)) ((system_of (task t.tree (Strip width) t.bound t.heads ties)).order X p.j p.i) ≡ first_knowledge (system_of (task t.tree (Strip width) t.bound t.heads ties))) (sym (is_cornered t.ties p corner))
    (on_strip t.tree width t.bound t.heads p))

-- without a corner there is a mirror
mirror_first : (T : TreeValue) (G : Sheet) (bound : ℕ) (heads : List Pair) (ties : Ties) → corner_of ties ≡ None → with_heads (task T G bound heads ties) heads ≡ first_knowledge (system_of (task T G bound heads ties))
unfolding mirror_system is_some
mirror_first T G bound heads (cornered corner) none = absurd (false≢true (sym (ap is_some none)))
mirror_first T G bound heads (mirrored kind mirror) none = refl

pub first_mirror : (t : Task) → corner_of t.ties ≡ None → with_heads t t.heads ≡ first_knowledge (system_of t)
first_mirror t none = mirror_first t.tree t.sheet t.bound t.heads t.ties none

-- the table of what is known not to hold
no_table : List ℕ
no_table = replicate 66 0

nothing_known : (T : TreeValue) (G : Sheet) (bound : ℕ) (heads : List Pair) (ties : Ties) → corner_of ties ≡ None → leaf_count T < rows → (row : ℕ) → ((l : ℕ) → l < 64 → has row l ≡ ((l == 0) || has 0 l)) → (axis : Axis) (i j : ℕ) → AreTwoLeaves T i j → has_at (set no_table 0 row) (cell_of (task T G bound heads ties) axis i j) ≡ list_any (is_order ((system_of (task T G bound heads ties)).order axis i j)) (impossible ties)
unfolding mirror_system is_some no_table
nothing_known T G bound heads (cornered corner) none few row written axis i j two = absurd (false≢true (sym (ap is_some none)))
nothing_known T G bound heads (mirrored kind mirror) none few row written axis i j two =
    let t = task T G bound heads (mirrored kind mirror) in
    order_written t no_table (λ (o : Order). false) first_cell never row refl (omega arith) few
    (λ a k l other. ap (λ (n : ℕ). has n (cell_of t a k l).column) (zeros 66 (cell_of t a k l).row))
    (λ a k l other same. never_cell T kind mirror few a k l other same)
    (λ a k l other same. first_cell_never T kind mirror few a k l other same)
    (small_column t few) written axis i j two

pub mirror_table : (t : Task) → corner_of t.ties ≡ None → leaf_count t.tree < rows → (row : ℕ) → ((l : ℕ) → l < 64 → has row l ≡ ((l == 0) || has 0 l)) → (axis : Axis) (i j : ℕ) → AreTwoLeaves t.tree i j → has_at (set (replicate 66 0) 0 row) (cell_of t axis i j) ≡ list_any (is_order ((system_of t).order axis i j)) (impossible t.ties)
unfolding no_table
mirror_table t none few row written axis i j two = nothing_known t.tree t.sheet t.bound t.heads t.ties none few row written axis i j two

pub corner_table : (t : Task) (p : Pair) → corner_of t.ties ≡ Some p → (axis : Axis) (i j : ℕ) → has_at (replicate 66 0) (cell_of t axis i j) ≡ list_any (is_order ((system_of t).order axis i j)) (impossible t.ties)
corner_table t p corner axis i j =
    ap (λ (n : ℕ). has n (cell_of t axis i j).column) (zeros 66 (cell_of t axis i j).row)
    ∙ ap (λ (ties : Ties). list_any (is_order ((system_of t).order axis i j)) (impossible ties)) (sym (is_cornered t.ties p corner))

upper_small : (G : Sheet) (bound : ℕ) → IsSheet G → bound ≤ most_number → (axis : Axis) → first_upper G bound axis ≤ most_code
upper_small Square bound sheet small axis = omega (arith, small)
upper_small (Strip width) bound sheet small X = omega (arith, sheet)
upper_small (Strip width) bound sheet small Y = omega (arith, small)

upper_some : (G : Sheet) (bound : ℕ) → 1 ≤ bound → (axis : Axis) → 1 ≤ first_upper G bound axis
upper_some Square bound some axis = omega (arith, some)
upper_some (Strip width) bound some X = omega arith
upper_some (Strip width) bound some Y = omega (arith, some)

upper_none : (G : Sheet) (bound : ℕ) → bound ≡ 0 → first_upper G bound Y ≡ 0
upper_none Square bound none = omega (arith, none)
upper_none (Strip width) bound none = omega (arith, none)

all_small : (ties : Ties) (T : TreeValue) (G : Sheet) (bound : ℕ) (heads : List Pair) → IsSheet G → bound ≤ most_number → (u : ℕ) → (system_by ties T G bound heads).upper u ≤ most_code
unfolding tree_system mirror_system
all_small (cornered corner) T G bound heads sheet small u = upper_small G bound sheet small (axis_of u)
all_small (mirrored kind mirror) T G bound heads sheet small u = omega (arith, small)

all_some : (ties : Ties) (T : TreeValue) (G : Sheet) (bound : ℕ) (heads : List Pair) → 1 ≤ bound → (u : ℕ) → 1 ≤ (system_by ties T G bound heads).upper u
unfolding tree_system mirror_system
all_some (cornered corner) T G bound heads some u = upper_some G bound some (axis_of u)
all_some (mirrored kind mirror) T G bound heads some u = omega (arith, some)

one_none : (ties : Ties) (T : TreeValue) (G : Sheet) (bound : ℕ) (heads : List Pair) → bound ≡ 0 → (system_by ties T G bound heads).upper (number Y 0) ≡ 0
unfolding tree_system mirror_system
one_none (cornered corner) T G bound heads none = rw (axis_number Y 0) (upper_none G bound none)
one_none (mirrored kind mirror) T G bound heads none = omega (arith, none)

knows_never : (ties : Ties) → KnowsNever ties (λ (o : Order). list_any (is_order o) (impossible ties ++ []))
knows_never (cornered corner) = tt
knows_never (mirrored kind mirror) = refl

module _ (t : Task) where
  none_broken : 1 ≤ t.bound → IsBroken (system_of t) (with_heads t []) → ⊥
  none_broken some (crossed u over) = omega (arith, over, all_some t.ties t.tree t.sheet t.bound t.heads some u)
  none_broken some (both o holds fails) = false≢true holds
  none_broken some (circular axis i j is one other) = false≢true one

  all_broken : t.bound ≡ 0 → IsBroken (system_of t) (with_heads t [])
  all_broken none = crossed (number Y 0) (omega (arith, one_none t.ties t.tree t.sheet t.bound t.heads none))

  pub blank_keeps : (S : Known) → IsSheet t.sheet → t.bound ≤ most_number → length S.lower ≡ places → length S.upper ≡ places → length S.holds ≡ places → length S.fails ≡ places → ((u : ℕ) → get_or S.lower u 0 ≡ 0) → ((u : ℕ) → u < places → get_or S.upper u 0 ≡ (system_of t).upper u) → ((u : ℕ) → get_or S.holds u 0 ≡ 0) → ((axis : Axis) (i j : ℕ) → AreTwoLeaves t.tree i j → has_at S.fails (cell_of t axis i j) ≡ list_any (is_order ((system_of t).order axis i j)) (impossible t.ties)) → S.broken ≡ (t.bound == 0) → Keeps t S (with_heads t [])
  blank_keeps S sheet small lowers uppers holdings failings lower upper holds fails flag = told (t.bound == 0) refl
    where
      shows : Shows t S (with_heads t [])
      shows = record {
        lowers = lowers;
        uppers = uppers;
        holdings = holdings;
        failings = failings;
        lower = λ u within. lower u;
        upper = upper;
        small = all_small t.ties t.tree t.sheet t.bound t.heads sheet small;
        holds = λ axis i j two. ap (λ (row : ℕ). has row (cell_of t axis i j).column) (holds (cell_of t axis i j).row);
        fails = λ axis i j two. fails axis i j two ∙ ap (list_any (is_order ((system_of t).order axis i j))) (sym (append-nil (impossible t.ties)));
        never = knows_never t.ties;
      }

      told : (b : Bool) → (t.bound == 0) ≡ b → Keeps t S (with_heads t [])
      told true is = keeps_broken t S (with_heads t []) (flag ∙ is) (all_broken (eqb-true t.bound 0 is))
      told false is = keeps_shows t S (with_heads t []) (flag ∙ is) shows (none_broken (omega (arith, eqb-false t.bound 0 is)))
