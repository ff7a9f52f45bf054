-- The path of a search: from an open path to the next, and to what the search answers.
use Rattle.std.proofs.Common.{◌≡◌, ℕ, zero, suc, ◌+◌, ◌-◌, ◌<◌, List, [], ◌∷◌, ◌++◌, Option, None, Some, Bool, true, false, length, get_or, set, take, refl, sym, ◌∙◌, ap, subst, length-append, arith}
use Rattle.std.proofs.lemmas.List.{get_or-append-add, set-append_right}
use Rattle.bp_base.specs.declared.path.Choice.{Choice}
use Rattle.bp_base.specs.declared.path.Pair.{Pair}
use Rattle.bp_base.specs.declared.path.Step.{Step}
use Rattle.bp_base.specs.Tree.{TreeValue, IsTree, leaf_count}
use Rattle.bp_metric.specs.Chains.{HasPairsOf}
use Rattle.bp_steady.specs.Bounds.{BoundsValue, IsInTree}
use Rattle.bp_steady.specs.Bounds.IsInTree.{child, root as root_in}
use Rattle.bp_steady.specs.Searching.{AreBehind, AreUnder, IsAnswered, IsBest, IsFarthest, IsRaised, IsRising, IsRow, NoneMeets, NoPlacing, choice_at}
use Rattle.bp_steady.specs.Stack.{IsEnded, IsGuide, IsOpen, IsReached, IsShut, IsStepped, IsTrying, IsTurned, child_at, choice_after, step_at}
use Rattle.bp_steady.specs.Stack.IsGuide.{start, further}
use Rattle.bp_steady.specs.Stack.IsOpen.{root, below}
use Rattle.bp_steady.specs.declared.searching.Answer.{Answer}
use Rattle.bp_steady.specs.declared.searching.Answer.TheVariants.{Yes, No, Spent}
use Rattle.bp_steady.proofs.Best.{is_next}
use Rattle.bp_steady.proofs.Blows.{fails_not}
use Rattle.bp_steady.proofs.Counted.{alone, answered_none, answered_spent, answered_up, trying_all, trying_more, trying_from, trying_spent, trying_yes}
use Rattle.bp_steady.proofs.Placed.{none_placed, none_placed_all, pairs_more, placing_row, rising_child}

-- the children of a path with a row are in the tree
child_in : (T : TreeValue) → IsTree T → (path : List Step) → HasPairsOf (leaf_count T) path → (b : BoundsValue) (row : List ℕ) → IsRow T path b row → (p : Pair) → IsFarthest T row (leaf_count T) 0 p → IsInTree T b path → (c : Choice) → IsInTree T b (path ++ (record { pair = p; choice = c }) ∷ [])
child_in T t path pairs b row is p best in_tree c =
    child in_tree (fails_not T t path pairs b row is) p (is_next T t path pairs b row is p best) c

-- The order of the choices.

after_at : (k : ℕ) (c : Choice) → k < 4 → choice_after (choice_at k) ≡ Some c → (k + 1 < 4) × (c ≡ choice_at (k + 1))
after_at zero c few is = (omega arith, cc)
after_at (suc zero) c few is = (omega arith, cc)
after_at (suc (suc zero)) c few is = (omega arith, cc)
after_at (suc (suc (suc k))) c few is = cc

last_at : (k : ℕ) → k < 4 → choice_after (choice_at k) ≡ None → k + 1 ≡ 4
last_at zero few is = cc
last_at (suc zero) few is = cc
last_at (suc (suc zero)) few is = cc
last_at (suc (suc (suc k))) few is = omega (arith, few)

-- The last of a list.
module _ {A : Type 0} (xs : List A) (x : A) where
  last_place : length (xs ++ x ∷ []) - 1 ≡ length xs
  last_place = omega (arith, length-append xs (x ∷ []))

  last_is : (d : A) → get_or (xs ++ x ∷ []) (length (xs ++ x ∷ []) - 1) d ≡ x
  last_is d =
      let at : length (xs ++ x ∷ []) - 1 ≡ length xs + 0 = omega (arith, length-append xs (x ∷ [])) in
      ap (λ (m : ℕ). get_or (xs ++ x ∷ []) m d) at ∙ get_or-append-add xs (x ∷ []) 0 d

  last_set : (y : A) → set (xs ++ x ∷ []) (length (xs ++ x ∷ []) - 1) y ≡ xs ++ y ∷ []
  last_set y =
      let none : length xs - length xs ≡ 0 = omega arith in
      ap (λ (m : ℕ). set (xs ++ x ∷ []) m y) last_place
      ∙ set-append_right xs (x ∷ []) (length xs) (length xs) y refl (omega arith)
      ∙ ap (λ (m : ℕ). xs ++ set (x ∷ []) m y) none

  last_off : take (length (xs ++ x ∷ []) - 1) (xs ++ x ∷ []) ≡ xs
  last_off = ap (λ (m : ℕ). take m (xs ++ x ∷ [])) last_place ∙ all xs
    where
      all : (ys : List A) → take (length ys) (ys ++ x ∷ []) ≡ ys
      all [] = refl
      all (y ∷ ys) = ap (λ (zs : List A). y ∷ zs) (all ys)

module _ (T : TreeValue) (t : IsTree T) (b : BoundsValue) (budget : ℕ) where
  abbrev Under : List Step → ℕ → ℕ → Answer → Type 0
  Under q before after a = IsAnswered (AreUnder T b q) T b q before after a

  abbrev Open : List Step → List (List ℕ) → ℕ → Type 0
  Open path rows m = IsOpen T b budget path rows m

  pub open_pairs : (path : List Step) (rows : List (List ℕ)) (m : ℕ) → Open path rows m → HasPairsOf (leaf_count T) path
  open_pairs path rows m root = λ k d less. absurd (omega (arith, less))
  open_pairs path rows m (below {path = p} o before one row pair left k level) =
      pairs_more (leaf_count T) p (step_at pair k) level.pairs level.best.pair

  open_in : (path : List Step) (rows : List (List ℕ)) (m : ℕ) → Open path rows m → IsInTree T b path
  open_in path rows m root = root_in
  open_in path rows m (below {path = p} o before one row pair left k level) =
      child_in T t p level.pairs b row level.is_row pair level.best level.in_tree (choice_at k)

  pub open_long : (path : List Step) (rows : List (List ℕ)) (m : ℕ) → Open path rows m → length rows ≡ length path
  open_long path rows m root = refl
  open_long path rows m (below {path = p} {rows = r} {m = n} o before one row pair left k level) =
      omega (arith, open_long p r n o, length-append p (step_at pair k ∷ []), length-append r (row ∷ []))

  -- what is answered for the path is what all paths come to
  open_up : (path : List Step) (rows : List (List ℕ)) (m after : ℕ) (a : Answer) → (a ≡ No → ⊥) → Open path rows m → Under path m after a → IsEnded T b budget after a
  open_up path rows m after a other root answer = answer
  open_up path rows m after a other (below {path = p} {rows = r} {m = n} o before one row pair left k level) answer =
      open_up p r n after a other o (answered_up T b p n before after a level.in_tree one (behind a other answer))
    where
      behind : (a : Answer) → (a ≡ No → ⊥) → Under (child_at p pair k) m after a → IsAnswered (AreBehind T b p) T b p before after a
      behind Yes not_no answer = trying_yes T b p pair before left after k level.few level.trying answer
      behind No not_no answer = absurd (not_no refl)
      behind Spent not_no answer = trying_spent T b p pair before left after k level.few level.trying answer

  pub shut_end : (path : List Step) (rows : List (List ℕ)) (left : ℕ) → IsShut T b budget path rows left → length path ≡ 0 → IsEnded T b budget left No
  shut_end path rows left is none = go path rows is.before none is.is_open is.none
    where
      go : (q : List Step) (r : List (List ℕ)) (m : ℕ) → length q ≡ 0 → Open q r m → Under q m left No → IsEnded T b budget left No
      go q r m none root answer = answer
      go q r m none (below {path = p} o before one row pair now k level) answer =
          absurd (omega (arith, none, length-append p (step_at pair k ∷ [])))

  -- the last step has a next choice
  pub shut_turn : (path : List Step) (rows : List (List ℕ)) (left : ℕ) → IsShut T b budget path rows left → 0 < length path → (s : Step) → get_or path (length path - 1) s ≡ s → (c : Choice) → choice_after s.choice ≡ Some c → IsTurned T b budget (set path (length path - 1) (record { pair = s.pair; choice = c })) rows left true
  shut_turn path rows left is some s last c next = go path rows is.before some last is.is_open is.none
    where
      go : (q : List Step) (r : List (List ℕ)) (m : ℕ) → 0 < length q → get_or q (length q - 1) s ≡ s → Open q r m → Under q m left No → IsTurned T b budget (set q (length q - 1) (record { pair = s.pair; choice = c })) r left true
      go q r m some last root answer = absurd (omega (arith, some))
      go q r m some last (below {path = p} {rows = up} {m = n} o before one row pair now k level) answer =
          let same : step_at pair k ≡ s = sym (last_is p (step_at pair k) s) ∙ last in
          let next_k : choice_after (choice_at k) ≡ Some c = ap (λ (x : Step). choice_after x.choice) same ∙ next in
          let after = after_at k c level.few next_k in
          let step_is : step_at pair (k + 1) ≡ record { pair = s.pair; choice = c } = λ i. record { pair = (same i).pair; choice = sym after.1 i } in
          let items : p ++ step_at pair (k + 1) ∷ [] ≡ set (p ++ step_at pair k ∷ []) (length (p ++ step_at pair k ∷ []) - 1) (record { pair = s.pair; choice = c }) =
          ap (λ (x : Step). p ++ x ∷ []) step_is ∙ sym (last_set p (step_at pair k) (record { pair = s.pair; choice = c })) in (
            subst (λ (x : List Step). Open x (up ++ row ∷ []) left) items
                (below o before one row pair left (k + 1) (record {
                  pairs = level.pairs;
                  in_tree = level.in_tree;
                  is_row = level.is_row;
                  best = level.best;
                  few = after.0;
                  trying = trying_more T b p pair before now left k level.few level.trying answer;
                })),
            omega (arith, length-append up (row ∷ [])),
          )

  -- it has none: the path without it is done with
  pub shut_up : (path : List Step) (rows : List (List ℕ)) (left : ℕ) → IsShut T b budget path rows left → 0 < length path → (s : Step) → get_or path (length path - 1) s ≡ s → choice_after s.choice ≡ None → IsShut T b budget (take (length path - 1) path) (take (length path - 1) rows) left
  shut_up path rows left is some s last next = go path rows is.before some last is.is_open is.none
    where
      go : (q : List Step) (r : List (List ℕ)) (m : ℕ) → 0 < length q → get_or q (length q - 1) s ≡ s → Open q r m → Under q m left No → IsShut T b budget (take (length q - 1) q) (take (length q - 1) r) left
      go q r m some last root answer = absurd (omega (arith, some))
      go q r m some last (below {path = p} {rows = up} {m = n} o before one row pair now k level) answer =
          let same : step_at pair k ≡ s = sym (last_is p (step_at pair k) s) ∙ last in
          let next_k : choice_after (choice_at k) ≡ None = ap (λ (x : Step). choice_after x.choice) same ∙ next in
          let four : k + 1 ≡ 4 = last_at k level.few next_k in
          let trying : IsTrying T b p pair before left 4 = subst (IsTrying T b p pair before left) four (trying_more T b p pair before now left k level.few level.trying answer) in
          let none : NoPlacing T b p = none_placed_all T t b p pair level.best.pair trying.none in
          let even : length (p ++ step_at pair k ∷ []) - 1 ≡ length (up ++ row ∷ []) - 1 = omega (arith, length-append p (step_at pair k ∷ []), length-append up (row ∷ []), open_long p up n o) in
          let rows_are : take (length (p ++ step_at pair k ∷ []) - 1) (up ++ row ∷ []) ≡ up =
          ap (λ (j : ℕ). take j (up ++ row ∷ [])) even ∙ last_off up row in
          record {
            before = n;
            is_open = subst (λ (x : List (List ℕ)). Open (take (length (p ++ step_at pair k ∷ []) - 1) (p ++ step_at pair k ∷ [])) x n) (sym rows_are)
                (subst (λ (x : List Step). Open x up n) (sym (last_off p (step_at pair k))) o);
            none = subst (λ (x : List Step). Under x n left No) (sym (last_off p (step_at pair k)))
                (answered_up T b p n before left No level.in_tree one (trying_all T b p pair before left trying none));
          }

  -- the row before the last step
  pub open_rising : (path : List Step) (rows : List (List ℕ)) (m : ℕ) → Open path rows m → 0 < length rows → IsRising T path b (get_or rows (length rows - 1) [])
  open_rising path rows m root some = absurd (omega (arith, some))
  open_rising path rows m (below {path = p} {rows = r} o before one row pair left k level) some =
      subst (IsRising T (p ++ step_at pair k ∷ []) b) (sym (last_is r row [])) (rising_child T t b p row (step_at pair k) level.is_row)

  -- nothing is left of the budget
  pub open_spent : (path : List Step) (rows : List (List ℕ)) (left : ℕ) → Open path rows left → left ≡ 0 → IsEnded T b budget left Spent
  open_spent path rows left o none =
      open_up path rows left left Spent (λ e. cc) o (answered_spent T b path left left (open_in path rows left o) none)

  -- the path has no row
  pub open_shut : (path items : List Step) (rows : List (List ℕ)) (row : List ℕ) (before : ℕ) (raised : Bool) → Open path rows before → 0 < before → items ≡ path → IsRaised T items b row raised → raised ≡ false → IsShut T b budget path rows (before - 1)
  open_shut path items rows row before raised o some same is is_false =
      let here : NoneMeets T items b = subst (IsRaised T items b row) is_false is in
      let none : NoneMeets T path b = subst (λ (q : List Step). NoneMeets T q b) same here in
      record {
        before = before;
        is_open = o;
        none = answered_none T b path before (before - 1) (open_in path rows before o) (omega (arith, some)) (none_placed T t b path none);
      }

  -- it has one, and all pairs are far
  pub reached_yes : (path : List Step) (rows : List (List ℕ)) (row : List ℕ) (left : ℕ) → IsReached T b budget path rows row left → (next : Option Pair) → IsBest T row (leaf_count T) 0 next → ((p : Pair) → next ≡ Some p → ⊥) → IsEnded T b budget left Yes
  reached_yes path rows row left is next best none =
      open_up path rows (left + 1) left Yes (λ e. cc) is.is_open
      (placing_row T t b path row is.is_row (of_none next best none), (path ∷ [], alone T b path (open_in path rows (left + 1) is.is_open), omega arith))
    where
      of_none : (r : Option Pair) → IsBest T row (leaf_count T) 0 r → ((p : Pair) → r ≡ Some p → ⊥) → IsBest T row (leaf_count T) 0 None
      of_none None is none = is
      of_none (Some p) is none = absurd (none p refl)

  -- the empty path
  pub reached_root : (path : List Step) (rows : List (List ℕ)) (row : List ℕ) (left : ℕ) → path ≡ [] → rows ≡ [] → left + 1 ≡ budget → IsRow T [] b row → IsReached T b budget path rows row left
  reached_root path rows row left no_steps no_rows one is = record {
    is_open = subst (λ (m : ℕ). Open path rows m) (sym one) (subst (λ (q : List Step). Open q rows budget) (sym no_steps) (subst (λ (r : List (List ℕ)). Open [] r budget) (sym no_rows) root));
    is_row = subst (λ (q : List Step). IsRow T q b row) (sym no_steps) is;
  }

  -- one more level
  pub stepped : (path : List Step) (rows : List (List ℕ)) (row : List ℕ) (left : ℕ) → IsReached T b budget path rows row left → (next : Option Pair) → IsBest T row (leaf_count T) 0 next → (pair : Pair) → next ≡ Some pair → (guide new : List Step) (new_rows : List (List ℕ)) → IsGuide T b guide → IsStepped guide pair path new → new_rows ≡ rows ++ row ∷ [] → Open new new_rows left × IsRising T new b row
  stepped path rows row left is next best pair some guide new new_rows is_guide (k, few, steps_are, none) rows_are = (
    subst (λ (q : List Step). Open q new_rows left) (sym steps_are)
        (subst (λ (r : List (List ℕ)). Open (path ++ step_at pair k ∷ []) r left) (sym rows_are)
        (below is.is_open left refl row pair left k (record {
          pairs = open_pairs path rows (left + 1) is.is_open;
          in_tree = open_in path rows (left + 1) is.is_open;
          is_row = is.is_row;
          best = subst (IsBest T row (leaf_count T) 0) some best;
          few = few;
          trying = trying_from T b path pair left left k refl (none T b is_guide);
        }))),
    subst (λ (q : List Step). IsRising T q b row) (sym steps_are) (rising_child T t b path row (step_at pair k) is.is_row),
  )

  -- what is done with beside a path has no placement
  pub open_guide : (path : List Step) (rows : List (List ℕ)) (m : ℕ) → Open path rows m → IsGuide T b path
  open_guide path rows m root = start
  open_guide path rows m (below {path = p} {rows = r} {m = n} o before one row pair left k level) =
      further (open_guide p r n o) pair k level.trying.none level.few
