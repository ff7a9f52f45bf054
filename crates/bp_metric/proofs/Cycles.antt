-- Joining and cutting lists of leaves; a cycle begun at another of its leaves is a cycle.
use Rattle.std.proofs.Common.{◌≡◌, ◌≢◌, ℕ, ◌+◌, ◌-◌, ◌≤◌, List, [], ◌∷◌, ◌++◌, length, get_or, refl, sym, ◌∙◌, ap, subst, arith, inl, inr}
use Rattle.std.specs.List.{All, AllPairs}
use Rattle.std.proofs.lemmas.List.{append-nil, length-append, get_or_append_left, get_or-append-add}
use Rattle.std.proofs.lemmas.List.Elements.{All-append}
use Rattle.std.proofs.lemmas.Bool.{cases_lt}
use Rattle.bp_base.specs.declared.point.Axis.{Axis}
use Rattle.bp_base.specs.declared.path.Step.{Step}
use Rattle.bp_metric.specs.Chains.{Places, ArePlaced, IsChain, IsCycle, last_of}
use Rattle.bp_metric.proofs.Lows.{last_more}

pub last_join : (xs : List ℕ) (y : ℕ) (ys : List ℕ) → last_of (xs ++ y ∷ ys) ≡ last_of (y ∷ ys)
last_join [] y ys = refl
last_join (x ∷ []) y ys = last_more x y ys
last_join (x ∷ z ∷ more) y ys = last_more x z (more ++ y ∷ ys) ∙ last_join (z ∷ more) y ys

module _ (path : List Step) (axis : Axis) where
  pub placed_join : (x : ℕ) (xs : List ℕ) (y : ℕ) (ys : List ℕ) → ArePlaced path axis (x ∷ xs) → ArePlaced path axis (y ∷ ys) → Places path axis (last_of (x ∷ xs)) y → ArePlaced path axis ((x ∷ xs) ++ y ∷ ys)
  placed_join x [] y ys front back between = (between, back)
  placed_join x (z ∷ more) y ys front back between =
      (front.0, placed_join z more y ys front.1 back (subst (λ (l : ℕ). Places path axis l y) (last_more x z more) between))

  pub placed_front : (xs ys : List ℕ) → ArePlaced path axis (xs ++ ys) → ArePlaced path axis xs
  placed_front [] ys placed = tt
  placed_front (x ∷ []) ys placed = tt
  placed_front (x ∷ z ∷ more) ys placed = (placed.0, placed_front (z ∷ more) ys placed.1)

  pub placed_back : (xs ys : List ℕ) → ArePlaced path axis (xs ++ ys) → ArePlaced path axis ys
  placed_back [] ys placed = placed
  placed_back (x ∷ []) [] placed = tt
  placed_back (x ∷ []) (y ∷ ys) placed = placed.1
  placed_back (x ∷ z ∷ more) ys placed = placed_back (z ∷ more) ys placed.1

  pub placed_between : (x : ℕ) (xs : List ℕ) (y : ℕ) (ys : List ℕ) → ArePlaced path axis ((x ∷ xs) ++ y ∷ ys) → Places path axis (last_of (x ∷ xs)) y
  placed_between x [] y ys placed = placed.0
  placed_between x (z ∷ more) y ys placed =
      subst (λ (l : ℕ). Places path axis l y) (sym (last_more x z more)) (placed_between z more y ys placed.1)

-- numbers that differ still do when a front is moved to the back
differ_turned : (xs ys : List ℕ) → AllPairs (λ a b. a ≢ b) (xs ++ ys) → AllPairs (λ a b. a ≢ b) (ys ++ xs)
differ_turned xs ys differ i j d less within =
    let long : length (xs ++ ys) ≡ length xs + length ys = length-append xs ys in
    let long_too : length (ys ++ xs) ≡ length ys + length xs = length-append ys xs in
    elim (cases_lt j (length ys)) [
      | inl j_front ↦ λ same.
          differ (length xs + i) (length xs + j) d (omega arith) (omega arith) (get_or-append-add xs ys i d ∙ sym (get_or_append_left ys xs d i (omega arith)) ∙ same ∙ get_or_append_left ys xs d j j_front ∙ sym (get_or-append-add xs ys j d))
      | inr j_back ↦
          let q : ℕ = j - length ys in
          let j_is : length ys + q ≡ j = omega arith in
          let at_j : get_or (ys ++ xs) j d ≡ get_or (xs ++ ys) q d =
          ap (λ (k : ℕ). get_or (ys ++ xs) k d) (sym j_is) ∙ get_or-append-add ys xs q d ∙ sym (get_or_append_left xs ys d q (omega arith)) in
          elim (cases_lt i (length ys)) [
            | inl i_front ↦ λ same.
                differ q (length xs + i) d (omega arith) (omega arith) (sym at_j ∙ sym same ∙ get_or_append_left ys xs d i i_front ∙ sym (get_or-append-add xs ys i d))
            | inr i_back ↦
                let p : ℕ = i - length ys in
                let i_is : length ys + p ≡ i = omega arith in
                let at_i : get_or (ys ++ xs) i d ≡ get_or (xs ++ ys) p d =
                ap (λ (k : ℕ). get_or (ys ++ xs) k d) (sym i_is) ∙ get_or-append-add ys xs p d ∙ sym (get_or_append_left xs ys d p (omega arith)) in
                λ same. differ p q d (omega arith) (omega arith) (sym at_i ∙ same ∙ at_j)
          ]
    ]

pub all_turned : (P : ℕ → Type 0) (xs ys : List ℕ) → All P (xs ++ ys) → All P (ys ++ xs)
all_turned P xs ys all =
    All-append P ys xs
    (λ k d less. subst P (get_or-append-add xs ys k d) (all (length xs + k) d (omega (arith, length-append xs ys))))
    (λ k d less. subst P (get_or_append_left xs ys d k less) (all k d (omega (arith, length-append xs ys))))

module _ (n : ℕ) (path : List Step) (axis : Axis) where
  pub cycle_turned : (xs ys : List ℕ) → IsCycle n path axis (xs ++ ys) → IsCycle n path axis (ys ++ xs)
  cycle_turned [] ys cycle = subst (IsCycle n path axis) (sym (append-nil ys)) cycle
  cycle_turned (x ∷ xs) [] cycle = subst (IsCycle n path axis) (append-nil (x ∷ xs)) cycle
  cycle_turned (x ∷ xs) (y ∷ ys) cycle =
      let front = placed_front path axis (x ∷ xs) (y ∷ ys) cycle.chain.placed in
      let back = placed_back path axis (x ∷ xs) (y ∷ ys) cycle.chain.placed in
      let between = placed_between path axis x xs y ys cycle.chain.placed in
      let closed : Places path axis (last_of (y ∷ ys)) x = subst (λ (l : ℕ). Places path axis l x) (last_join (x ∷ xs) y ys) cycle.closed in
      let long : length ((y ∷ ys) ++ x ∷ xs) ≡ length ((x ∷ xs) ++ y ∷ ys) = omega (arith, length-append (y ∷ ys) (x ∷ xs), length-append (x ∷ xs) (y ∷ ys)) in
      record {
        chain = record {
          some = omega (arith, long, cycle.chain.some);
          are_leaves = all_turned (λ i. (1 ≤ i) × (i ≤ n)) (x ∷ xs) (y ∷ ys) cycle.chain.are_leaves;
          differ = differ_turned (x ∷ xs) (y ∷ ys) cycle.chain.differ;
          placed = placed_join path axis y ys x xs back front closed;
        };
        two = omega (arith, long, cycle.two);
        closed = subst (λ (l : ℕ). Places path axis l y) (sym (last_join (y ∷ ys) x xs)) between;
      }

  -- a front of a chain is a chain
  pub chain_front : (x : ℕ) (xs ys : List ℕ) → IsChain n path axis ((x ∷ xs) ++ ys) → IsChain n path axis (x ∷ xs)
  chain_front x xs ys c =
      let long : length ((x ∷ xs) ++ ys) ≡ length (x ∷ xs) + length ys = length-append (x ∷ xs) ys in
      record {
        some = omega arith;
        are_leaves = λ k d less. subst (λ (i : ℕ). (1 ≤ i) × (i ≤ n)) (get_or_append_left (x ∷ xs) ys d k less) (c.are_leaves k d (omega arith));
        differ = λ i j d less within same. c.differ i j d less (omega arith) (get_or_append_left (x ∷ xs) ys d i (omega arith) ∙ same ∙ sym (get_or_append_left (x ∷ xs) ys d j within));
        placed = placed_front path axis (x ∷ xs) ys c.placed;
      }
