-- The verdict by what is found of the lemmas.
use Rattle.std.proofs.Common.{◌≡◌, ℕ, suc, ◌-◌, ◌<◌, Bool, true, false, cond, leb, List, [], take, get_or, Option, None, Some, inl, inr, refl, sym, ◌∙◌, subst, arith}
use Rattle.std.proofs.lemmas.Bool.{cases_lt, le-leb, leb-true, true≢false, false≢true}
use Rattle.bp_base.specs.declared.path.Pair.{Pair}
use Rattle.bp_base.specs.declared.point.Sheet.{Sheet}
use Rattle.bp_base.specs.Tree.{TreeValue}
use Rattle.bp_lemmas.specs.Standing.{Stands, EndsEmpty, facts_of}
use Rattle.bp_certificate.specs.declared.certificate.Certificate.{Certificate}
use Rattle.bp_certificate.specs.declared.certificate.Lemmas.{Lemmas}
use Rattle.bp_verify.specs.declared.found.Found.{Found}
use Rattle.bp_verify.specs.declared.found.Found.TheVariants.{NoLemmas, WrongLemma, Standing}
use Rattle.bp_verify.specs.declared.verdict.Verdict.TheVariants.{Yes, No}
use Rattle.bp_verify.specs.declared.verdict.Reason.TheVariants.{BoundNotShown}
use Rattle.bp_verify.specs.Certifies.{Certifies, IsBoundProved, ProvesFrom, lemmas_of, system_of}
use Rattle.bp_verify.specs.Reasons.{HasCorner, HasBadSwap, HasBadLemma, FailsCorner, FailsSwap, FailsLemma, FailsBound, IsFirstReason}
use Rattle.bp_verify.specs.Verdicts.{IsVerdictOf, CanSwap, CanSwapAll, IsSoundSoFar, StandFrom, AllStand, EndsWell, IsFoundOf, verdict_of}
use Rattle.bp_verify.proofs.Each.{none, at_each}
use Rattle.bp_verify.proofs.Reasoning.{lemma_first, bound_first}

module _ (T : TreeValue) (G : Sheet) (bound : ℕ) (L : Lemmas) where
  swaps_pass : (corner : Option Pair) (n : ℕ) → CanSwap T L.swaps corner → HasBadSwap T L.swaps corner n → ⊥
  swaps_pass None n can bad = bad
  swaps_pass (Some p) n can bad = bad.bad (can.1 (n - 1) [] (omega (arith, bad.among)))

  lemmas_pass : (corner : Option Pair) (n : ℕ) → StandFrom T G bound L corner → HasBadLemma T G bound L corner n → ⊥
  lemmas_pass None n stand bad = bad
  lemmas_pass (Some p) n stand bad = bad.bad (stand n bad.among.0 bad.among.1)

  proves : (corner : Option Pair) → CanSwap T L.swaps corner → StandFrom T G bound L corner → EndsEmpty (facts_of (lemmas_of L)) → ProvesFrom T G bound L corner
  proves None can stand ends = can
  proves (Some p) can stand ends = record {
    corner = can.0;
    admissible = can.1;
    stand = at_each (system_of T G bound p L) [] (lemmas_of L) (λ k less. let same : suc k - 1 ≡ k = omega arith in subst (λ (n : ℕ). Stands (system_of T G bound p L) (facts_of (take n (lemmas_of L))) (get_or (lemmas_of L) n none)) same (stand (suc k) (omega arith) (omega (arith, less))));
    ends = ends;
  }

corner_told : (T : TreeValue) (swaps : List (List Pair)) (corner : Option Pair) → CanSwap T swaps corner → HasCorner T corner
corner_told T swaps None can = can
corner_told T swaps (Some p) can = can.0

module _ (T : TreeValue) (G : Sheet) (bound floor : ℕ) where
  all_corner : (ls : Option Lemmas) → CanSwapAll T ls → FailsCorner T ls → ⊥
  all_corner None can fails = fails
  all_corner (Some L) can fails = fails (corner_told T L.swaps L.corner can)

  all_swaps : (ls : Option Lemmas) (n : ℕ) → CanSwapAll T ls → FailsSwap T ls n → ⊥
  all_swaps None n can fails = fails
  all_swaps (Some L) n can fails = swaps_pass T G bound L L.corner n can fails

  all_lemmas : (ls : Option Lemmas) (n : ℕ) → AllStand T G bound ls → FailsLemma T G bound ls n → ⊥
  all_lemmas None n stand fails = fails
  all_lemmas (Some L) n stand fails = lemmas_pass T G bound L L.corner n stand fails

  all_prove : (ls : Option Lemmas) → CanSwapAll T ls → AllStand T G bound ls → EndsWell ls → IsBoundProved T G bound floor ls
  all_prove None can stand ends = absurd stand
  all_prove (Some L) can stand ends = proves T G bound L L.corner can stand ends

  all_end : (ls : Option Lemmas) → AllStand T G bound ls → (EndsWell ls → ⊥) → FailsBound bound floor ls
  all_end None stand not = absurd stand
  all_end (Some L) stand not = not

  no_lemmas : (ls : Option Lemmas) (n : ℕ) → ls ≡ None → FailsLemma T G bound ls n → ⊥
  no_lemmas ls n is fails = subst (λ (o : Option Lemmas). FailsLemma T G bound o n) is fails

module _ (T : TreeValue) (C : Certificate) (sound : IsSoundSoFar T C) where
  right : IsBoundProved T C.sheet C.bound C.floor.side C.lemmas → Certifies T C
  right proved = record { tree = sound.tree; valid = sound.valid; floor = sound.floor; bound = proved }

  corner_fine : FailsCorner T C.lemmas → ⊥
  corner_fine = all_corner T C.sheet C.bound C.floor.side C.lemmas sound.swaps

  swaps_fine : (n : ℕ) → FailsSwap T C.lemmas n → ⊥
  swaps_fine n = all_swaps T C.sheet C.bound C.floor.side C.lemmas n sound.swaps

  not_shown : ((n : ℕ) → FailsLemma T C.sheet C.bound C.lemmas n → ⊥) → FailsBound C.bound C.floor.side C.lemmas → IsFirstReason T C BoundNotShown
  not_shown lemmas fails = bound_first T C sound.tree sound.valid sound.floor corner_fine swaps_fine lemmas fails

  without_lemmas : C.lemmas ≡ None → (b : Bool) → leb C.bound C.floor.side ≡ b → IsVerdictOf T C (cond b Yes (No BoundNotShown))
  without_lemmas is true less = right (subst (IsBoundProved T C.sheet C.bound C.floor.side) (sym is) (leb-true C.bound C.floor.side less))
  without_lemmas is false more =
      let above : C.floor.side < C.bound = elim (cases_lt C.floor.side C.bound) [
        | inl less ↦ less
        | inr le ↦ absurd (true≢false (sym (le-leb C.bound C.floor.side le) ∙ more))
      ] in
      not_shown (λ n. no_lemmas T C.sheet C.bound C.floor.side C.lemmas n is) (subst (FailsBound C.bound C.floor.side) (sym is) above)

  pub found_verdict : (f : Found) → IsFoundOf T C f → IsVerdictOf T C (verdict_of C.bound C.floor.side f)
  found_verdict NoLemmas is = without_lemmas is (leb C.bound C.floor.side) refl
  found_verdict (WrongLemma n) fails = lemma_first T C sound.tree sound.valid sound.floor corner_fine swaps_fine n fails
  found_verdict (Standing true) (stand, ends) = right (all_prove T C.sheet C.bound C.floor.side C.lemmas sound.swaps stand (ends.0 refl))
  found_verdict (Standing false) (stand, ends) =
      not_shown (λ n. all_lemmas T C.sheet C.bound C.floor.side C.lemmas n stand) (all_end T C.sheet C.bound C.floor.side C.lemmas stand (λ well. false≢true (ends.1 well)))
