-- Which paths a search has examined: different ones, each below the path that it began with.
use Rattle.std.proofs.Common.{◌≡◌, ◌≢◌, inl, inr, ℕ, zero, suc, ◌+◌, ◌<◌, List, [], ◌∷◌, ◌++◌, length, get_or, sym, ◌∙◌, ap, subst, append_assoc, length-append, arith}
use Rattle.std.specs.List.{AllPairs}
use Rattle.std.proofs.lemmas.List.{append-nil}
use Rattle.std.proofs.lemmas.List.Elements.{All-cons, All-append}
use Rattle.std.proofs.lemmas.List.Kept.{AllPairs-cons}
use Rattle.std.proofs.lemmas.Bool.{cases_lt}
use Rattle.bp_base.specs.declared.path.Pair.{Pair}
use Rattle.bp_base.specs.declared.path.Step.{Step}
use Rattle.bp_base.specs.Tree.{TreeValue}
use Rattle.bp_steady.specs.Bounds.{BoundsValue, IsInTree}
use Rattle.bp_steady.specs.Searching.{AreBehind, AreUnder, BeginsWith, IsAnswered, NoPlacing, choice_at}
use Rattle.bp_steady.specs.Stack.{AreTried, IsTrying, child_at, step_at}
use Rattle.bp_steady.specs.Sums.{AreInTree}
use Rattle.bp_steady.specs.declared.searching.Answer.{Answer}
use Rattle.bp_steady.specs.declared.searching.Answer.TheVariants.{Yes, No, Spent}

abbrev Path : Type 0
Path = List Step

same_after : (p : Path) (s t : Step) (q r : Path) → (p ++ s ∷ []) ++ q ≡ (p ++ t ∷ []) ++ r → s ≡ t
same_after [] s t q r e = cc
same_after (x ∷ p) s t q r e =
    let rest : (p ++ s ∷ []) ++ q ≡ (p ++ t ∷ []) ++ r = cc in
    same_after p s t q r rest

longer_by : (p : Path) (s : Step) (q : Path) → BeginsWith (p ++ s ∷ []) q → length p < length q
longer_by p s q (r, e) =
    omega (arith, ap length e, length-append (p ++ s ∷ []) r, length-append p (s ∷ []))

begins_less : (p m q : Path) → BeginsWith (p ++ m) q → BeginsWith p q
begins_less p m q (r, e) = (m ++ r, e ∙ append_assoc p m r)

-- two lists of different paths, no path of the one being one of the other
differ_both : (xs ys : List Path) → AllPairs (λ p r. p ≢ r) xs → AllPairs (λ p r. p ≢ r) ys → ((i j : ℕ) (d : Path) → i < length xs → j < length ys → get_or xs i d ≢ get_or ys j d) → AllPairs (λ p r. p ≢ r) (xs ++ ys)
differ_both [] ys x y cross = y
differ_both (p ∷ xs) ys x y cross =
    AllPairs-cons (λ p r. p ≢ r) p (xs ++ ys)
    (All-append (λ r. p ≢ r) xs ys
    (λ k d less. x 0 (suc k) d (omega arith) (omega (arith, less)))
    (λ k d less. cross 0 k d (omega arith) less))
    (differ_both xs ys
    (λ i j d less within. x (suc i) (suc j) d (omega (arith, less)) (omega (arith, within)))
    y
    (λ i j d i_less j_less. cross (suc i) j d (omega (arith, i_less)) j_less))

module _ (T : TreeValue) (b : BoundsValue) where
  no_paths : AreInTree T b []
  no_paths = record { each = λ k d less. absurd (omega (arith, less)); differ = λ i j d less within. absurd (omega (arith, within)) }

  pub none_behind : (p : Path) → AreBehind T b p []
  none_behind p = record {
    under = record { in_tree = no_paths; begin = λ k d less. absurd (omega (arith, less)) };
    longer = λ k d less. absurd (omega (arith, less));
  }

  -- with the path itself
  pub with_it : (p : Path) (paths : List Path) → IsInTree T b p → AreBehind T b p paths → AreUnder T b p (p ∷ paths)
  with_it p paths in_tree are = record {
    in_tree = record {
      each = All-cons (IsInTree T b) p paths in_tree are.under.in_tree.each;
      differ = AllPairs-cons (λ q r. q ≢ r) p paths (λ k d less same. omega (arith, are.longer k d less, ap length same)) are.under.in_tree.differ;
    };
    begin = All-cons (BeginsWith p) p paths ([], sym (append-nil p)) are.under.begin;
  }

  pub alone : (p : Path) → IsInTree T b p → AreUnder T b p (p ∷ [])
  alone p in_tree = with_it p [] in_tree (none_behind p)

  -- a path that took one from the budget, and what is below it
  pub answered_up : (p : Path) (before left after : ℕ) (a : Answer) → IsInTree T b p → left + 1 ≡ before → IsAnswered (AreBehind T b p) T b p left after a → IsAnswered (AreUnder T b p) T b p before after a
  answered_up p before left after Yes in_tree one is = (is.0, (p ∷ is.1.0, with_it p is.1.0 in_tree is.1.1, omega (arith, one, is.1.2)))
  answered_up p before left after No in_tree one is = (is.0, (p ∷ is.1.0, with_it p is.1.0 in_tree is.1.1, omega (arith, one, is.1.2)))
  answered_up p before left after Spent in_tree one is = (p ∷ is.0, with_it p is.0 in_tree is.1, omega (arith, one, is.2))

  pub answered_none : (p : Path) (before after : ℕ) → IsInTree T b p → after + 1 ≡ before → NoPlacing T b p → IsAnswered (AreUnder T b p) T b p before after No
  answered_none p before after in_tree one none = (none, (p ∷ [], alone p in_tree, omega (arith, one)))

  pub answered_spent : (p : Path) (before after : ℕ) → IsInTree T b p → before ≡ 0 → IsAnswered (AreUnder T b p) T b p before after Spent
  answered_spent p before after in_tree none = (p ∷ [], alone p in_tree, omega (arith, none))

  -- The four children of a path.
  module _ (path : Path) (pair : Pair) where
    -- nothing is tried, and none before child k has a placement
    pub trying_from : (before left k : ℕ) → left ≡ before → ((j : ℕ) → j < k → NoPlacing T b (child_at path pair j)) → IsTrying T b path pair before left k
    trying_from before left k same none = record {
      paths = [];
      tried = record { in_tree = no_paths; begin = λ i d less. absurd (omega (arith, less)) };
      count = omega (arith, same);
      none = none;
    }

    apart : (j k : ℕ) → j < k → k < 4 → choice_at j ≡ choice_at k → ⊥
    apart zero (suc zero) less few e = cc
    apart zero (suc (suc zero)) less few e = cc
    apart zero (suc (suc (suc k))) less few e = cc
    apart (suc zero) (suc (suc zero)) less few e = cc
    apart (suc zero) (suc (suc (suc k))) less few e = cc
    apart (suc (suc zero)) (suc (suc (suc k))) less few e = cc
    apart (suc (suc (suc j))) k less few e = absurd (omega (arith, less, few))
    apart j zero less few e = absurd (omega (arith, less))
    apart (suc zero) (suc zero) less few e = absurd (omega (arith, less))
    apart (suc (suc zero)) (suc zero) less few e = absurd (omega (arith, less))
    apart (suc (suc zero)) (suc (suc zero)) less few e = absurd (omega (arith, less))

    tried_more : (k : ℕ) (paths more : List Path) → k < 4 → AreTried T b path pair k paths → AreUnder T b (child_at path pair k) more → AreTried T b path pair (k + 1) (paths ++ more)
    tried_more k paths more few tried under = record {
      in_tree = record {
        each = All-append (IsInTree T b) paths more tried.in_tree.each under.in_tree.each;
        differ = differ_both paths more tried.in_tree.differ under.in_tree.differ (λ i j d i_less j_less same. cross (get_or paths i d) (get_or more j d) same (tried.begin i d i_less) (under.begin j d j_less));
      };
      begin = All-append (λ q. (j : ℕ) × (j < k + 1) × BeginsWith (child_at path pair j) q) paths more
          (λ i d less. let t = tried.begin i d less in (t.0, omega (arith, t.1), t.2))
          (λ i d less. (k, omega arith, under.begin i d less));
    }
      where
        cross : (p q : Path) → p ≡ q → (j : ℕ) × (j < k) × BeginsWith (child_at path pair j) p → BeginsWith (child_at path pair k) q → ⊥
        cross p q same (j, less, (r, e)) (s, f) =
            let steps : step_at pair j ≡ step_at pair k = same_after path (step_at pair j) (step_at pair k) r s (sym e ∙ same ∙ f) in
            apart j k less few (ap (λ (t : Step). t.choice) steps)

    tried_behind : (k : ℕ) (paths : List Path) → AreTried T b path pair k paths → AreBehind T b path paths
    tried_behind k paths tried = record {
      under = record {
        in_tree = tried.in_tree;
        begin = λ i d less. let t = tried.begin i d less in begins_less path (step_at pair t.0 ∷ []) (get_or paths i d) t.2;
      };
      longer = λ i d less. let t = tried.begin i d less in longer_by path (step_at pair t.0) (get_or paths i d) t.2;
    }

    pub trying_more : (before left after k : ℕ) → k < 4 → IsTrying T b path pair before left k → IsAnswered (AreUnder T b (child_at path pair k)) T b (child_at path pair k) left after No → IsTrying T b path pair before after (k + 1)
    trying_more before left after k few is answer = record {
      paths = is.paths ++ answer.1.0;
      tried = tried_more k is.paths answer.1.0 few is.tried answer.1.1;
      count = omega (arith, length-append is.paths answer.1.0, is.count, answer.1.2);
      none = λ j less. elim (cases_lt j k) [
        | inl below ↦ is.none j below
        | inr above ↦
            let same : k ≡ j = omega (arith, less, above) in
            subst (λ (m : ℕ). NoPlacing T b (child_at path pair m)) same answer.0
      ];
    }

    pub trying_yes : (before left after k : ℕ) → k < 4 → IsTrying T b path pair before left k → IsAnswered (AreUnder T b (child_at path pair k)) T b (child_at path pair k) left after Yes → IsAnswered (AreBehind T b path) T b path before after Yes
    trying_yes before left after k few is answer =
        (answer.0, (is.paths ++ answer.1.0, tried_behind (k + 1) _ (tried_more k is.paths answer.1.0 few is.tried answer.1.1), omega (arith, length-append is.paths answer.1.0, is.count, answer.1.2)))

    pub trying_spent : (before left after k : ℕ) → k < 4 → IsTrying T b path pair before left k → IsAnswered (AreUnder T b (child_at path pair k)) T b (child_at path pair k) left after Spent → IsAnswered (AreBehind T b path) T b path before after Spent
    trying_spent before left after k few is answer =
        (is.paths ++ answer.0, tried_behind (k + 1) _ (tried_more k is.paths answer.0 few is.tried answer.1), omega (arith, length-append is.paths answer.0, is.count, answer.2))

    pub trying_all : (before left : ℕ) → IsTrying T b path pair before left 4 → NoPlacing T b path → IsAnswered (AreBehind T b path) T b path before left No
    trying_all before left is none = (none, (is.paths, tried_behind 4 is.paths is.tried, is.count))
