-- Workers come back from the last one on.
use Rattle.std.proofs.Common.{◌≡◌, ℕ, suc, ◌+◌, false, List, [], ◌∷◌, ◌++◌, map, length, Option, None, refl, sym, ap, ◌∙◌, subst, arith}
use Rattle.std.specs.List.{range_with_len, sum_by}
use Rattle.std.proofs.lemmas.List.{length_push}
use Rattle.std.proofs.lemmas.List.Elements.{All-push}
use Rattle.std.proofs.lemmas.List.Sums.{sum_by-cons, sum_by_push}
use Rattle.bp_base.specs.declared.point.Placement.{Placement}
use Rattle.bp_base.specs.declared.point.Sheet.{Sheet}
use Rattle.bp_base.specs.declared.record.Record.{Record}
use Rattle.bp_base.specs.declared.record.Task.{Task}
use Rattle.bp_base.specs.Bags.{AreSame}
use Rattle.bp_base.specs.Tree.{TreeValue}
use Rattle.bp_base.proofs.Bags.{sum_by-map}
use Rattle.bp_incumbent.specs.Board.{BoardView, PassView}
use Rattle.bp_pool.specs.Hands.{HandView}
use Rattle.bp_pool.specs.Rest.{PoolView}
use Rattle.bp_workers.specs.Agrees.{Agrees, Keeps}
use Rattle.bp_workers.specs.Teams.{AreBack, AreSeated, HasEnded, IsTeam, is_out}
use Rattle.bp_workers.specs.Worked.{lesser}
use Rattle.bp_workers.specs.declared.hands.Team.{Team}
use Rattle.bp_workers.specs.declared.worker.Worker.{Worker}
use Rattle.bp_workers.proofs.Joined.{idle}
use Rattle.bp_workers.proofs.Merged.{best_merged, merged}

-- a worker that didn't run out of memory agrees
pub ended_agrees : (T : TreeValue) (G : Sheet) (board : BoardView) (w : Worker) → HasEnded T G board w → is_out w.ended ≡ false → Agrees T G board w
ended_agrees T G board w ended in_memory = ended.agrees (sym (ap is_out ended.is) ∙ in_memory)

module _ (T : TreeValue) (G : Sheet) (board : BoardView) (pool : PoolView) (all : ℕ) where
  pub none_back : (left : ℕ) → left ≡ all → AreBack T G board pool left all [] [] [] [] None
  none_back left is = record {
    count = omega (arith, is);
    as_many = refl;
    of_pool = λ k d less. absurd (omega (arith, less));
    numbers = λ h. refl;
    of_board = λ k d less. absurd (omega (arith, less));
    worked = idle T G board.limit;
    best_is = refl;
  }

  module _ (left more : ℕ) (next : more ≡ left + 1) (hands : List HandView) (passes : List PassView) (records : List Record) (kept : List Task) (best : Option Placement) (back : AreBack T G board pool more all hands passes records kept best) (hand : HandView) (pass : PassView) (rs : List Record) (ks : List Task) (b : Option Placement) (of_pool : hand.pool ≡ pool) (number : hand.number ≡ left + 1) (keeps : Keeps T G board hand pass rs ks b) where
    numbers : AreSame (map (λ (v : HandView). v.number) (hands ++ hand ∷ [])) (range_with_len (left + 1) (length (hands ++ hand ∷ [])))
    numbers h =
        let long : length (hands ++ hand ∷ []) ≡ suc (length hands) = omega (arith, length_push hands hand) in
        let first : left + 1 + 1 ≡ more + 1 = omega (arith, next) in
        omega (
          arith,
          back.numbers h,
          sum_by-map h (λ (v : HandView). v.number) (hands ++ hand ∷ []),
          sum_by-map h (λ (v : HandView). v.number) hands,
          sum_by_push (λ (v : HandView). h v.number) hands hand,
          ap h number,
          ap (λ (n : ℕ). sum_by h (range_with_len (left + 1) n)) long,
          sum_by-cons h (left + 1) (range_with_len (left + 1 + 1) (length hands)),
          ap (λ (n : ℕ). sum_by h (range_with_len n (length hands))) first,
        )

    together : AreBack T G board pool left all (hands ++ hand ∷ []) (passes ++ pass ∷ []) (records ++ rs) (kept ++ ks) (lesser best b)
    together = record {
      count = omega (arith, back.count, next, length_push hands hand);
      as_many = omega (arith, back.as_many, length_push hands hand, length_push passes pass);
      of_pool = All-push (λ (v : HandView). v.pool ≡ pool) hands hand back.of_pool of_pool;
      numbers = numbers;
      of_board = All-push (λ (p : PassView). p.board ≡ board.id) passes pass back.of_board keeps.of_board;
      worked = merged T G board hands passes hand pass ks rs b keeps records kept back.worked;
      best_is = best_merged T G board hands passes hand pass ks rs b keeps best back.best_is;
    }

    pub one_more_back : (hands' : List HandView) (passes' : List PassView) (records' : List Record) (kept' : List Task) (best' : Option Placement) → hands' ≡ hands ++ hand ∷ [] → passes' ≡ passes ++ pass ∷ [] → records' ≡ records ++ rs → kept' ≡ kept ++ ks → best' ≡ lesser best b → AreBack T G board pool left all hands' passes' records' kept' best'
    one_more_back hands' passes' records' kept' best' hands_are passes_are records_are kept_are best_is =
        subst (λ (H : List HandView). AreBack T G board pool left all H passes' records' kept' best') (sym hands_are)
        (subst (λ (P : List PassView). AreBack T G board pool left all (hands ++ hand ∷ []) P records' kept' best') (sym passes_are)
        (subst (λ (R : List Record). AreBack T G board pool left all (hands ++ hand ∷ []) (passes ++ pass ∷ []) R kept' best') (sym records_are)
        (subst (λ (K : List Task). AreBack T G board pool left all (hands ++ hand ∷ []) (passes ++ pass ∷ []) (records ++ rs) K best') (sym kept_are)
        (subst (λ (B : Option Placement). AreBack T G board pool left all (hands ++ hand ∷ []) (passes ++ pass ∷ []) (records ++ rs) (kept ++ ks) B) (sym best_is) together))))

-- all are back
pub are_team : (T : TreeValue) (G : Sheet) (board : BoardView) (side left : ℕ) (pool : PoolView) (ws : List Worker) (team : Team) → left ≡ 0 → AreSeated T board side pool ws → AreBack T G board pool left (length ws) team.hands.items team.passes.items team.records.items team.kept.items team.best → IsTeam T G board side team
are_team T G board side left pool ws team none seated back = record {
  pool = pool;
  root_is = seated.root_is;
  hands = record {
    some = omega (arith, seated.some, back.count, none);
    of_pool = back.of_pool;
    numbers = λ h.
        let first : left + 1 ≡ 1 = omega (arith, none) in
        let count : length team.hands.items ≡ length pool.deques = omega (arith, back.count, none, seated.deques) in
        back.numbers h ∙ ap (λ (n : ℕ). sum_by h (range_with_len n (length team.hands.items))) first ∙ ap (λ (n : ℕ). sum_by h (range_with_len 1 n)) count;
  };
  passes = back.of_board;
  count = omega (arith, back.count, back.as_many, none, seated.passes);
  worked = back.worked;
  best_is = back.best_is;
}
