-- What raising over one step gives, case by case.
use Rattle.std.proofs.Common.{◌≡◌, ◌≢◌, ℕ, ◌+◌, ◌-◌, ◌*◌, ◌<◌, ◌≤◌, List, length, get_or, set, refl, sym, ◌∙◌, ap, subst, arith, inl, inr}
use Rattle.std.proofs.lemmas.List.{get_or-set_other}
use Rattle.std.proofs.lemmas.Bool.{cases_eq}
use Rattle.bp_base.specs.declared.point.Axis.{Axis}
use Rattle.bp_base.specs.declared.path.Step.{Step}
use Rattle.bp_base.specs.Tree.{TreeValue, IsTree, IsLeaf, leaf_count, leaf_node}
use Rattle.bp_metric.specs.Distance.{leaf_dist, most_distance, most_side}
use Rattle.bp_metric.specs.Chains.{Places, HasPairsOf}
use Rattle.bp_metric.proofs.Distances.{dist_small}
use Rattle.bp_metric.proofs.Lows.{AreLows, placed_leaves}
use Rattle.bp_warm.specs.declared.raising.Pulled.TheVariants.{Met, Again, Cycle}
use Rattle.bp_warm.specs.Raising.{low_in, WorkValue, IsExact, IsWorking, HasRisen, IsRelaxed, IsRowAfter, IsPulled, IsPulledAll}
use Rattle.bp_walks.specs.Lows.{places}
use Rattle.bp_warm.proofs.RowRaised.{few_moved, new_more, risen_sum, met_here, u_same, raised_first, raised_again, relaxed_first}

pub exact_lows : (T : TreeValue) (path : List Step) (axis : Axis) (row : List ℕ) → IsExact T path axis row → AreLows T path axis (low_in row)
exact_lows T path axis row e = record { meets = e.meets; made_up = e.made_up }

module _ (T : TreeValue) (t : IsTree T) (path : List Step) (pairs : HasPairsOf (leaf_count T) path) (axis : Axis) (old : List ℕ) (exact : IsExact T path axis old) (a b : ℕ) (lows : List ℕ) (work : WorkValue) (is : IsWorking T path axis old a b lows work) where
  abbrev lowest : AreLows T path axis (low_in old)
  lowest = exact_lows T path axis old exact

  -- no coordinate is great
  pub moved_small : (k : ℕ) → k < work.count → low_in lows (get_or work.moved k 0) ≤ 2 * most_side + most_distance
  moved_small k less =
      omega (arith, is.small k less, exact.small (get_or work.moved k 0), exact.small a, dist_small T t (leaf_node T a) (leaf_node T b))

  module _ (k w : ℕ) (less : k < work.count) (placed : Places path axis (get_or work.moved k 0) w) where
    abbrev u : ℕ
    u = get_or work.moved k 0

    pub pair_leaves : (1 ≤ u) × (u ≤ leaf_count T) × (1 ≤ w) × (w ≤ leaf_count T) × (u ≢ w)
    pair_leaves = placed_leaves (leaf_count T) path axis u w pairs placed

    pub pull_kept : (r : ℕ) → r ≡ low_in lows u + leaf_dist T u w → r ≤ low_in lows w → IsPulled T path axis old a b u w lows lows work work Met
    pull_kept r r_is most = (
      is,
      record { rows = λ i leaf. omega arith; count = omega arith; moved = λ k less. refl; sums = omega arith },
      omega (arith, r_is, most),
      refl,
      λ done most relaxed. relaxed,
    )

    module _ (r : ℕ) (r_is : r ≡ low_in lows u + leaf_dist T u w) (more : low_in lows w < r) (not_first : w ≢ a) where
      abbrev grown : WorkValue
      grown = record { by = set work.by w u; moved = set work.moved work.count w; count = work.count + 1 }

      pub pull_first : low_in old w ≡ low_in lows w → work.count < places → IsPulled T path axis old a b u w lows (set lows (w - 1) r) work grown Met
      pull_first same room = (
        raised_first T t path pairs axis old lowest a b lows work.by work.moved work.count is u w r k less refl placed r_is more not_first same room,
        record {
          rows = λ i leaf. new_more T t path pairs axis old lowest a b lows work.by work.moved work.count is u w r k less refl placed r_is more not_first i leaf.0;
          count = omega arith;
          moved = λ k less. get_or-set_other work.moved work.count k w 0 (λ e. omega arith);
          sums = omega (arith, risen_sum T t path pairs axis old lowest a b lows work.by work.moved work.count is u w r k less refl placed r_is more not_first);
        },
        met_here T t path pairs axis old lowest a b lows work.by work.moved work.count is u w r k less refl placed r_is more not_first,
        u_same T t path pairs axis old lowest a b lows work.by work.moved work.count is u w r k less refl placed r_is more not_first,
        λ done most relaxed. relaxed_first T t path pairs axis old lowest a b lows work.by work.moved work.count is u w r k less refl placed r_is more not_first same room done most relaxed,
      )

      pub first_few : low_in old w ≡ low_in lows w → work.count < places → work.count + 1 < 33
      first_few same room =
          few_moved T t path pairs axis old lowest a b (set lows (w - 1) r) grown.by grown.moved grown.count (pull_first same room).0 (omega arith)

      pub pull_again : low_in old w ≢ low_in lows w → IsPulled T path axis old a b u w lows (set lows (w - 1) r) work (record { by = set work.by w u; moved = work.moved; count = work.count }) Again
      pull_again differ = (
        raised_again T t path pairs axis old lowest a b lows work.by work.moved work.count is u w r k less refl placed r_is more not_first differ,
        record {
          rows = λ i leaf. new_more T t path pairs axis old lowest a b lows work.by work.moved work.count is u w r k less refl placed r_is more not_first i leaf.0;
          count = omega arith;
          moved = λ k less. refl;
          sums = omega (arith, risen_sum T t path pairs axis old lowest a b lows work.by work.moved work.count is u w r k less refl placed r_is more not_first);
        },
        risen_sum T t path pairs axis old lowest a b lows work.by work.moved work.count is u w r k less refl placed r_is more not_first,
      )

      -- the lists as the code has them
      module _ (leaf : ℕ) (s : WorkValue) (leaf_is : leaf ≡ u) (s_is : s ≡ record { by = set work.by w leaf; moved = work.moved; count = work.count }) where
        set_is : s ≡ record { by = set work.by w u; moved = work.moved; count = work.count }
        set_is = s_is ∙ (λ i. record { by = set work.by w (leaf_is i); moved = work.moved; count = work.count })

        grown_is : (new : WorkValue) → new ≡ record { by = s.by; moved = set s.moved s.count w; count = s.count + 1 } → new ≡ grown
        grown_is new new_is = new_is ∙ (λ i. record { by = (set_is i).by; moved = set (set_is i).moved (set_is i).count w; count = (set_is i).count + 1 })

        pub code_first : (new : WorkValue) → new ≡ record { by = s.by; moved = set s.moved s.count w; count = s.count + 1 } → low_in old w ≡ low_in lows w → work.count < places → IsPulled T path axis old a b u w lows (set lows (w - 1) r) work new Met
        code_first new new_is same room = subst (λ (v : WorkValue). IsPulled T path axis old a b u w lows (set lows (w - 1) r) work v Met) (sym (grown_is new new_is)) (pull_first same room)

        pub code_few : (new : WorkValue) → new ≡ record { by = s.by; moved = set s.moved s.count w; count = s.count + 1 } → low_in old w ≡ low_in lows w → work.count < places → new.count < 33
        code_few new new_is same room = omega (arith, ap (λ (v : WorkValue). v.count) (grown_is new new_is), first_few same room)

        pub code_again : low_in old w ≢ low_in lows w → IsPulled T path axis old a b u w lows (set lows (w - 1) r) work s Again
        code_again differ = subst (λ (v : WorkValue). IsPulled T path axis old a b u w lows (set lows (w - 1) r) work v Again) (sym set_is) (pull_again differ)

-- what is kept while the row is gone through
pub record IsGoing (T : TreeValue) (path : List Step) (axis : Axis) (old : List ℕ) (a b at : ℕ) (row start : List ℕ) (begun : WorkValue) (lows : List ℕ) (work : WorkValue) (j : ℕ) : Type 0 where
  pub working : IsWorking T path axis old a b lows work
  pub few : work.count < 33
  pub risen : HasRisen T start lows begun work
  pub relaxed : IsRelaxed T path axis start begun.moved at → IsRelaxed T path axis lows work.moved at
  pub met : (i : ℕ) → i < j → low_in lows (get_or work.moved at 0) + leaf_dist T (get_or work.moved at 0) (get_or row i 0) ≤ low_in lows (get_or row i 0)

-- All steps of one moved leaf.
module _ (T : TreeValue) (t : IsTree T) (path : List Step) (pairs : HasPairsOf (leaf_count T) path) (axis : Axis) (old : List ℕ) (exact : IsExact T path axis old) (a b at : ℕ) (row start : List ℕ) (begun : WorkValue) (at_less : at < begun.count) where
  pub going_start : IsWorking T path axis old a b start begun → begun.count < 33 → IsGoing T path axis old a b at row start begun start begun 0
  going_start working few =
      record {
        working = working;
        few = few;
        risen = record { rows = λ i leaf. omega arith; count = omega arith; moved = λ k less. refl; sums = omega arith };
        relaxed = λ relaxed. relaxed;
        met = λ i less. absurd (omega arith);
      }

  module _ (lows : List ℕ) (work : WorkValue) (j : ℕ) (is : IsGoing T path axis old a b at row start begun lows work j) (rows : IsRowAfter path axis (get_or begun.moved at 0) row) where
    pub leaf_is : get_or work.moved at 0 ≡ get_or begun.moved at 0
    leaf_is = is.risen.moved at at_less

    pub at_within : at < work.count
    at_within = omega (arith, at_less, is.risen.count)

    pub places_next : j < length row → Places path axis (get_or work.moved at 0) (get_or row j 0)
    places_next less = subst (λ (i : ℕ). Places path axis i (get_or row j 0)) (sym leaf_is) (rows.places j less)

    pub next_leaf : j < length row → IsLeaf T (get_or row j 0)
    next_leaf less = let l = placed_leaves (leaf_count T) path axis (get_or work.moved at 0) (get_or row j 0) pairs (places_next less) in (l.2, l.3)

    more_risen : (lows' : List ℕ) (work' : WorkValue) → HasRisen T lows lows' work work' → HasRisen T start lows' begun work'
    more_risen lows' work' more =
        record {
          rows = λ i leaf. omega (arith, is.risen.rows i leaf, more.rows i leaf);
          count = omega (arith, is.risen.count, more.count);
          moved = λ k less. more.moved k (omega (arith, is.risen.count)) ∙ is.risen.moved k less;
          sums = omega (arith, is.risen.sums, more.sums);
        }

    pub going_more : (lows' : List ℕ) (work' : WorkValue) → j < length row → IsPulled T path axis old a b (get_or work.moved at 0) (get_or row j 0) lows lows' work work' Met → work'.count < 33 → IsGoing T path axis old a b at row start begun lows' work' (j + 1)
    going_more lows' work' less p few =
        let same : get_or work'.moved at 0 ≡ get_or work.moved at 0 = p.1.moved at at_within in
        record {
          working = p.0;
          few = few;
          risen = more_risen lows' work' p.1;
          relaxed = λ relaxed. p.4 at (omega (arith, at_within)) (is.relaxed relaxed);
          met = λ i i_less. elim (cases_eq i j) [
            | inl last ↦
                omega (arith, p.2, ap (low_in lows') same, ap (λ (u : ℕ). leaf_dist T u (get_or row i 0)) same, ap (λ (k : ℕ). low_in lows' (get_or row k 0)) last, ap (λ (k : ℕ). leaf_dist T (get_or work.moved at 0) (get_or row k 0)) last)
            | inr before ↦
                let i_within : i < length row = omega arith in
                let l = placed_leaves (leaf_count T) path axis (get_or begun.moved at 0) (get_or row i 0) pairs (rows.places i i_within) in
                omega (arith, is.met i (omega arith), ap (low_in lows') same, ap (λ (u : ℕ). leaf_dist T u (get_or row i 0)) same, p.3, p.1.rows (get_or row i 0) (l.2, l.3))
          ];
        }

    pub going_again : (lows' : List ℕ) (work' : WorkValue) → IsPulled T path axis old a b (get_or work.moved at 0) (get_or row j 0) lows lows' work work' Again → IsPulledAll T path axis old a b at start lows' begun work' Again
    going_again lows' work' p = (p.0, more_risen lows' work' p.1, omega (arith, is.risen.sums, p.2))

    pub going_cycle : (lows' : List ℕ) (work' : WorkValue) → j < length row → IsPulled T path axis old a b (get_or work.moved at 0) (get_or row j 0) lows lows' work work' Cycle → IsPulledAll T path axis old a b at start lows' begun work' Cycle
    going_cycle lows' work' less p = (
      p.0,
      omega (arith, at_within, ap (λ (v : WorkValue). v.count) p.2),
      subst (λ (v : WorkValue). Places path axis (get_or v.moved at 0) a) (sym p.2) (subst (λ (w : ℕ). Places path axis (get_or work.moved at 0) w) p.1 (places_next less)),
    )

    pub going_end : length row ≤ j → IsPulledAll T path axis old a b at start lows begun work Met
    going_end all = (
      is.working,
      is.risen,
      λ relaxed k w less placed. elim (cases_eq k at) [
        | inl same ↦
            let here : get_or work.moved k 0 ≡ get_or work.moved at 0 = ap (λ (i : ℕ). get_or work.moved i 0) same in
            let r = rows.all w (subst (λ (i : ℕ). Places path axis i w) (here ∙ leaf_is) placed) in
            omega (arith, is.met r.0 (omega (arith, r.1)), ap (low_in lows) here, ap (λ (u : ℕ). leaf_dist T u w) here, ap (low_in lows) r.2, ap (λ (x : ℕ). leaf_dist T (get_or work.moved at 0) x) r.2)
        | inr before ↦ is.relaxed relaxed k w (omega arith) placed
      ],
    )
