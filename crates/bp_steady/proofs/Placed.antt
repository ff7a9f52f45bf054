-- Placements below a path: each meets one of the four choices of a pair. Rows of the empty path and of a child.
use Rattle.std.proofs.Common.{◌≡◌, ◌⊎◌, inl, inr, ℕ, ◌+◌, ◌*◌, ◌<◌, ◌≤◌, max, List, [], ◌∷◌, ◌++◌, None, length, get_or, set, replicate, sym, ◌∙◌, ap, arith}
use Rattle.std.specs.Int.{abs_diff}
use Rattle.std.proofs.lemmas.List.{get_or-set_same, get_or-set_other, get_or_past, get_or-replicate}
use Rattle.std.proofs.lemmas.List.Elements.{All-append, All-cons}
use Rattle.std.proofs.lemmas.Bool.{cases_eq, cases_lt}
use Rattle.bp_base.specs.declared.path.Choice.{Choice}
use Rattle.bp_base.specs.declared.path.Choice.TheVariants.{Left, Right, Below, Above}
use Rattle.bp_base.specs.declared.path.Pair.{Pair}
use Rattle.bp_base.specs.declared.path.Step.{Step}
use Rattle.bp_base.specs.declared.point.Axis.{Axis}
use Rattle.bp_base.specs.declared.point.Axis.TheVariants.{X, Y}
use Rattle.bp_base.specs.Limits.{most_number}
use Rattle.bp_base.specs.Path.{IsPairOf}
use Rattle.bp_base.specs.Tree.{TreeValue, IsTree, IsLeaf, leaf_count, leaf_node}
use Rattle.bp_metric.specs.Chains.{PlacesBy, HasPairsOf}
use Rattle.bp_metric.specs.Distance.{leaf_dist}
use Rattle.bp_metric.proofs.Chains.{places_left, places_cases, places_one}
use Rattle.bp_metric.proofs.Distances.{dist_comm}
use Rattle.bp_steady.specs.Bounds.{BoundsValue, place, of_leaf, low_of}
use Rattle.bp_steady.specs.Searching.{AreBounds, HasPlacing, IsBest, IsPlacing, IsRising, IsRow, NoneMeets, NoPlacing, choice_at}
use Rattle.bp_steady.proofs.Best.{all_far}
use Rattle.bp_steady.proofs.Pulling.{only_left, only_right, only_below, only_above, place_within}

-- one of two coordinates is as far before the other
four : (a b c d m : ℕ) → m ≤ max (abs_diff a b) (abs_diff c d) → (a + m ≤ b) ⊎ ((b + m ≤ a) ⊎ ((c + m ≤ d) ⊎ (d + m ≤ c)))
four a b c d m far = elim (cases_lt b (a + m)) [
  | inr le ↦ inl le
  | inl one ↦ elim (cases_lt a (b + m)) [
    | inr le ↦ inr (inl le)
    | inl two ↦ elim (cases_lt d (c + m)) [
      | inr le ↦ inr (inr (inl le))
      | inl three ↦ inr (inr (inr (omega (arith, far, one, two, three))))
    ]
  ]
]

module _ (T : TreeValue) (t : IsTree T) (b : BoundsValue) (path : List Step) where
  pub placing_row : (row : List ℕ) → IsRow T path b row → IsBest T row (leaf_count T) 0 None → HasPlacing T b
  placing_row row is best =
      (of_leaf row, record { keeps = is.rising.keeps; meets = λ axis i j placed. absurd placed; far = all_far T row best })

  pub none_placed : NoneMeets T path b → NoPlacing T b path
  none_placed none f placing = none f placing.keeps placing.meets

  pub rising_child : (row : List ℕ) (s : Step) → IsRow T path b row → IsRising T (path ++ s ∷ []) b row
  rising_child row s is = record {
    keeps = is.rising.keeps;
    small = is.rising.small;
    made = λ axis i leaf. elim (is.rising.made axis i leaf) [
      | inl low ↦ inl low
      | inr p ↦ inr (p.0, places_left path (s ∷ []) axis p.0 i p.1, p.2)
    ];
    least = λ f keeps meets. is.rising.least f keeps (λ axis i j placed. meets axis i j (places_left path (s ∷ []) axis i j placed));
  }

  module _ (pair : Pair) (is_pair : IsPairOf (leaf_count T) pair) where
    abbrev with_choice : Choice → Step
    with_choice c = record { pair = pair; choice = c }

    met_at : (f : Axis → ℕ → ℕ) (axis : Axis) (i j : ℕ) → f axis i + leaf_dist T i j ≤ f axis j → (ax : Axis) (a c : ℕ) → (ax ≡ axis) × (a ≡ i) × (c ≡ j) → f ax a + leaf_dist T a c ≤ f ax c
    met_at f axis i j le ax a c e =
        let first : f ax a ≡ f axis i = λ k. f (e.0 k) (e.1 k) in
        let second : f ax c ≡ f axis j = λ k. f (e.0 k) (e.2 k) in
        let far : leaf_dist T a c ≡ leaf_dist T i j = λ k. leaf_dist T (e.1 k) (e.2 k) in
        omega (arith, first, second, far, le)

    extended : (f : Axis → ℕ → ℕ) (c : Choice) → IsPlacing T b path f → ((ax : Axis) (i j : ℕ) → PlacesBy ax i j pair c → f ax i + leaf_dist T i j ≤ f ax j) → IsPlacing T b (path ++ with_choice c ∷ []) f
    extended f c placing by = record {
      keeps = placing.keeps;
      meets = λ axis i j placed. elim (places_cases path (with_choice c ∷ []) axis i j placed) [
        | inl front ↦ placing.meets axis i j front
        | inr back ↦ by axis i j (places_one (with_choice c) axis i j back)
      ];
      far = placing.far;
    }

    -- where no child has a placement, the path has none
    pub none_placed_all : ((j : ℕ) → j < 4 → NoPlacing T b (path ++ with_choice (choice_at j) ∷ [])) → NoPlacing T b path
    none_placed_all none f placing =
        let back : leaf_dist T pair.j pair.i ≡ leaf_dist T pair.i pair.j = dist_comm T t (leaf_node T pair.j) (leaf_node T pair.i) in
        elim (four (f X pair.i) (f X pair.j) (f Y pair.i) (f Y pair.j) (leaf_dist T pair.i pair.j) (placing.far pair.i pair.j is_pair)) [
          | inl le ↦ none 0 (omega arith) f (extended f Left placing (λ ax i j by. met_at f X pair.i pair.j le ax i j (only_left pair ax i j by)))
          | inr (inl le) ↦ none 1 (omega arith) f (extended f Right placing (λ ax i j by. met_at f X pair.j pair.i (omega (arith, le, back)) ax i j (only_right pair ax i j by)))
          | inr (inr (inl le)) ↦ none 2 (omega arith) f (extended f Below placing (λ ax i j by. met_at f Y pair.i pair.j le ax i j (only_below pair ax i j by)))
          | inr (inr (inr le)) ↦ none 3 (omega arith) f (extended f Above placing (λ ax i j by. met_at f Y pair.j pair.i (omega (arith, le, back)) ax i j (only_above pair ax i j by)))
        ]

-- more pairs of leaves on a path
pub pairs_more : (n : ℕ) (path : List Step) (s : Step) → HasPairsOf n path → IsPairOf n s.pair → HasPairsOf n (path ++ s ∷ [])
pairs_more n path s pairs pair =
    All-append (λ (r : Step). IsPairOf n r.pair) path (s ∷ []) pairs
    (All-cons (λ (r : Step). IsPairOf n r.pair) s [] pair (λ k d less. absurd (omega (arith, less))))

-- the row of the empty path has the low numbers
pub first_row : (T : TreeValue) (b : BoundsValue) (row : List ℕ) → AreBounds T b → ((k : ℕ) → k < 2 * leaf_count T → get_or row k 0 ≡ get_or b.low k 0) → ((k : ℕ) → get_or row k 0 ≤ most_number) → IsRow T [] b row
first_row T b row bounds same small = record {
  rising = record {
    keeps = λ axis i leaf. let e = at axis i leaf in (omega (arith, e), omega (arith, e, bounds.rise (place axis i)));
    small = small;
    made = λ axis i leaf. inl (at axis i leaf);
    least = λ f keeps meets axis i leaf. omega (arith, at axis i leaf, (keeps axis i leaf).0);
  };
  meets = λ axis i j placed. absurd placed;
}
  where
    at : (axis : Axis) (i : ℕ) → IsLeaf T i → of_leaf row axis i ≡ low_of b axis i
    at axis i leaf = same (place axis i) (place_within axis (leaf_count T) i leaf.0 leaf.1)

pub zero_small : (k : ℕ) → get_or (replicate 64 0) k 0 ≤ most_number
zero_small k = elim (cases_lt k 64) [
  | inl within ↦ omega (arith, get_or-replicate {A = ℕ} 64 k 0 0 within)
  | inr past ↦ omega (arith, get_or_past (replicate {A = ℕ} 64 0) k 0 past)
]

module _ (row low : List ℕ) (at v : ℕ) (within : at < length row) where
  pub row_more : ((k : ℕ) → k < at → get_or row k 0 ≡ get_or low k 0) → v ≡ get_or low at 0 → (k : ℕ) → k < at + 1 → get_or (set row at v) k 0 ≡ get_or low k 0
  row_more so_far here k less = elim (cases_eq k at) [
    | inl same ↦ ap (λ (m : ℕ). get_or (set row at v) m 0) same ∙ get_or-set_same row at v 0 within ∙ here ∙ ap (λ (m : ℕ). get_or low m 0) (sym same)
    | inr other ↦ get_or-set_other row at k v 0 other ∙ so_far k (omega (arith, less, other))
  ]

  pub row_small : ((k : ℕ) → get_or row k 0 ≤ most_number) → v ≤ most_number → (k : ℕ) → get_or (set row at v) k 0 ≤ most_number
  row_small small v_small k = elim (cases_eq k at) [
    | inl same ↦ omega (arith, ap (λ (m : ℕ). get_or (set row at v) m 0) same, get_or-set_same row at v 0 within, v_small)
    | inr other ↦ omega (arith, get_or-set_other row at k v 0 other, small k)
  ]
