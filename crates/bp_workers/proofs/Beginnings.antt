-- A worker that has done nothing agrees.
use Rattle.std.proofs.Common.{◌≡◌, ℕ, ◌≤◌, List, [], None, refl, sym, subst, arith}
use Rattle.bp_base.specs.declared.point.Sheet.{Sheet}
use Rattle.bp_base.specs.declared.record.Record.{Record}
use Rattle.bp_base.specs.declared.record.Task.{Task}
use Rattle.bp_base.specs.Limits.{most_number}
use Rattle.bp_base.specs.Tree.{TreeValue, leaf_count}
use Rattle.bp_incumbent.specs.Board.{BoardView, PassView, new_pass}
use Rattle.bp_pool.specs.Hands.{HandView}
use Rattle.bp_pool.specs.Opens.{new_hand}
use Rattle.bp_pool.specs.Rest.{PoolView}
use Rattle.bp_workers.specs.Agrees.{Keeps}

new_keeps : (T : TreeValue) (G : Sheet) (board : BoardView) (pool : PoolView) (opening k j : ℕ) → pool.leaves ≡ leaf_count T → opening ≤ most_number → Keeps T G board (new_hand pool k) (new_pass board.id j opening) [] [] None
new_keeps T G board pool opening k j leaves small = record {
  of_board = refl;
  of_leaves = leaves;
  worked = record {
    tasks = λ h. refl;
    judged = λ i d less. absurd (omega (arith, less));
    tickets_are = λ h. refl;
    bounds = λ i d less. absurd (omega (arith, less));
    offers_are = refl;
  };
  best_is = refl;
  of_pairs = λ i d less. absurd (omega (arith, less));
  small = (0, opening, omega arith, refl, small);
}

pub new_agrees : (T : TreeValue) (G : Sheet) (board : BoardView) (pool : PoolView) (opening k j : ℕ) (hand : HandView) (pass : PassView) (records : List Record) (kept : List Task) → records ≡ [] → kept ≡ [] → hand ≡ new_hand pool k → pool.leaves ≡ leaf_count T → pass ≡ new_pass board.id j opening → opening ≤ most_number → Keeps T G board hand pass records kept None
new_agrees T G board pool opening k j hand pass records kept no_records no_kept is_hand leaves is_pass small =
    subst (λ (H : HandView). Keeps T G board H pass records kept None) (sym is_hand)
    (subst (λ (P : PassView). Keeps T G board (new_hand pool k) P records kept None) (sym is_pass)
    (subst (λ (R : List Record). Keeps T G board (new_hand pool k) (new_pass board.id j opening) R kept None) (sym no_records)
    (subst (λ (K : List Task). Keeps T G board (new_hand pool k) (new_pass board.id j opening) [] K None) (sym no_kept) (new_keeps T G board pool opening k j leaves small))))
