-- Workers are made from the last hand and pass on.
use Rattle.std.proofs.Common.{◌≡◌, ℕ, zero, suc, ◌+◌, ◌<◌, List, [], ◌∷◌, ◌++◌, length, get_or, refl, sym, ap, ◌∙◌, subst, arith}
use Rattle.std.proofs.lemmas.List.{get_or_append_left, get_or_at, length_push}
use Rattle.bp_base.specs.declared.point.Sheet.{Sheet}
use Rattle.bp_base.specs.Tree.{TreeValue, leaf_count}
use Rattle.bp_incumbent.specs.Board.{BoardView, PassView}
use Rattle.bp_incumbent.specs.Tickets.{is_spent}
use Rattle.bp_pool.specs.Rest.{PoolView}
use Rattle.bp_workers.specs.Gathered.{root}
use Rattle.bp_workers.specs.Teams.{AreHired, IsNewWorker}
use Rattle.bp_workers.specs.declared.worker.Worker.{Worker}

-- vs has the first elements of ws
abbrev pub IsFirst : {X : Type 0} → List X → List X → Type 0
IsFirst {X} vs ws = (k : ℕ) (d : X) → k < length vs → get_or vs k d ≡ get_or ws k d

module _ {X : Type 0} (ws vs us : List X) (x : X) (is : vs ≡ us ++ x ∷ []) (first : IsFirst vs ws) where
  pub one_less : length vs ≡ length us + 1
  one_less = omega (arith, ap (λ (l : List X). length l) is, length_push us x)

  pub shorter : IsFirst us ws
  shorter k d less = sym (get_or_append_left us (x ∷ []) d k less) ∙ sym (ap (λ (l : List X). get_or l k d) is) ∙ first k d (omega (arith, less, one_less))

  pub last_is : x ≡ get_or ws (length us) x
  last_is = sym (get_or_at us x [] x (length us) refl) ∙ sym (ap (λ (l : List X). get_or l (length us) x) is) ∙ first (length us) x (omega (arith, one_less))

module _ (T : TreeValue) (G : Sheet) (board : BoardView) (pool : PoolView) (side : ℕ) where
  -- the workers are new, from this number on
  abbrev pub AreNew : ℕ → List Worker → Type 0
  AreNew n ws = (k : ℕ) (d : Worker) → k < length ws → IsNewWorker T G board pool side (n + k + 1) (get_or ws k d)

  pub one_more : (n more : ℕ) (w : Worker) (old new : List Worker) → new ≡ w ∷ old → more ≡ n + 1 → IsNewWorker T G board pool side (n + 1) w → AreNew more old → AreNew n new
  one_more n more w old new is next here rest = subst (AreNew n) (sym is) go
    where
      go : AreNew n (w ∷ old)
      go zero d less =
          let place : n + 1 ≡ n + 0 + 1 = omega arith in
          subst (λ (m : ℕ). IsNewWorker T G board pool side m w) place here
      go (suc k) d less =
          let place : more + k + 1 ≡ n + suc k + 1 = omega (arith, next) in
          subst (λ (m : ℕ). IsNewWorker T G board pool side m (get_or old k d)) place (rest k d (omega (arith, less)))

  pub are_hired : (ws : List Worker) → 0 < length ws → pool.root ≡ root side → pool.leaves ≡ leaf_count T → length pool.deques ≡ length ws → board.passes ≡ length ws → AreNew 0 ws → AreHired T G board side ws
  are_hired ws some root_is leaves deques passes new = record {
    pool = pool;
    seated = record {
      some = some;
      root_is = root_is;
      leaves_are = leaves;
      deques = deques;
      passes = passes;
      each = λ k d less. let n = new k d less in record {
        of_pool = ap (λ h. h.pool) n.hand;
        number = let place : 0 + k + 1 ≡ k + 1 = omega arith in ap (λ h. h.number) n.hand ∙ place;
        of_board = ap (λ (p : PassView). p.board) n.pass;
      };
    };
    agree = λ k d less. (new k d less).agrees;
    unspent = λ k d less. ap (λ (p : PassView). is_spent board.limit p.tickets) (new k d less).pass;
  }
