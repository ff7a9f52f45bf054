-- The last child of a record is pushed, or it comes back and is kept.
use Rattle.std.proofs.Common.{◌≡◌, List, [], ◌∷◌, ◌++◌, All, Option, sym, ap, subst, arith, append_assoc}
use Rattle.std.specs.List.{sum_by}
use Rattle.std.proofs.lemmas.List.Elements.{All-append, All-push}
use Rattle.std.proofs.lemmas.List.Sums.{sum_by-append, sum_by_push}
use Rattle.bp_base.specs.declared.point.Placement.{Placement}
use Rattle.bp_base.specs.declared.point.Sheet.{Sheet}
use Rattle.bp_base.specs.declared.record.Record.{Record}
use Rattle.bp_base.specs.declared.record.Task.{Task}
use Rattle.bp_base.specs.Bags.{AreSame}
use Rattle.bp_base.specs.Tree.{TreeValue, leaf_count}
use Rattle.bp_incumbent.specs.Board.{BoardView, PassView}
use Rattle.bp_pool.specs.Hands.{HandView}
use Rattle.bp_pool.specs.Shares.{IsTaskOf}
use Rattle.bp_workers.specs.Agrees.{Keeps}
use Rattle.bp_workers.proofs.Steps.{all_back, all_front, all_last, idle_keeps, other_order, pushed_keeps}

module _ (T : TreeValue) (G : Sheet) (board : BoardView) (hand : HandView) (pass : PassView) (records : List Record) (best : Option Placement) (ks cs children : List Task) (c : Task) (is : children ≡ cs ++ c ∷ []) (keeps : Keeps T G board hand pass records (ks ++ children) best) where
  was : Keeps T G board hand pass records (ks ++ (cs ++ c ∷ [])) best
  was = subst (λ (xs : List Task). Keeps T G board hand pass records (ks ++ xs) best) is keeps

  pub one_pushed : (new : HandView) → new.pool ≡ hand.pool → new.pushed ≡ hand.pushed ++ c ∷ [] → new.taken ≡ hand.taken → Keeps T G board new pass records (ks ++ cs) best
  one_pushed new pool pushed taken =
      pushed_keeps T G board hand pass records best new (ks ++ cs) c (subst (λ (xs : List Task). Keeps T G board hand pass records xs best) (sym (append_assoc ks cs (c ∷ []))) was) pool pushed taken

  pub one_kept : Keeps T G board hand pass records ((ks ++ c ∷ []) ++ cs) best
  one_kept = other_order T G board hand pass records best (ks ++ (cs ++ c ∷ [])) ((ks ++ c ∷ []) ++ cs) was same good
    where
      same : AreSame ((ks ++ c ∷ []) ++ cs) (ks ++ (cs ++ c ∷ []))
      same h =
          omega (
            arith,
            sum_by-append h (ks ++ c ∷ []) cs,
            sum_by_push h ks c,
            sum_by-append h ks (cs ++ c ∷ []),
            sum_by_push h cs c,
          )

      rest : All (IsTaskOf (leaf_count T)) (cs ++ c ∷ [])
      rest = all_back (IsTaskOf (leaf_count T)) ks (cs ++ c ∷ []) was.of_pairs

      good : All (IsTaskOf (leaf_count T)) ((ks ++ c ∷ []) ++ cs)
      good =
          All-append (IsTaskOf (leaf_count T)) (ks ++ c ∷ []) cs (All-push (IsTaskOf (leaf_count T)) ks c (all_front (IsTaskOf (leaf_count T)) ks (cs ++ c ∷ []) was.of_pairs) (all_last (IsTaskOf (leaf_count T)) cs c rest)) (all_front (IsTaskOf (leaf_count T)) cs (c ∷ []) rest)

  -- the push handed it back, and it is kept
  pub one_back : (new : HandView) (back : Task) (after : List Task) → new.pool ≡ hand.pool → new.pushed ≡ hand.pushed → new.taken ≡ hand.taken → back ≡ c → after ≡ ks ++ back ∷ [] → Keeps T G board new pass records (after ++ cs) best
  one_back new back after pool pushed taken back_is after_is =
      subst (λ (xs : List Task). Keeps T G board new pass records (xs ++ cs) best) (sym after_is)
      (subst (λ (t : Task). Keeps T G board new pass records ((ks ++ t ∷ []) ++ cs) best) (sym back_is) (idle_keeps T G board hand pass records best new ((ks ++ c ∷ []) ++ cs) one_kept pool pushed (λ h. ap (sum_by h) taken)))
