-- Hint by hint: what is left to take closes a knowledge exactly where all hints close the first.
use Rattle.std.proofs.Common.{◌≡◌, ◌↔◌, ◌⊎◌, ℕ, ◌+◌, ◌<◌, ◌≤◌, Bool, true, false, IsTrue, List, [], ◌∷◌, length, drop, get_or, refl, subst, arith, inl, inr}
use Rattle.std.proofs.lemmas.Bool.{false≢true}
use Rattle.std.proofs.lemmas.List.{drop_more, drop_all}
use Rattle.bp_arrangement.specs.declared.fact.Fact.{Fact}
use Rattle.bp_arrangement.specs.declared.fact.Hint.{Hint}
use Rattle.bp_lemmas.specs.Systems.{Order}
use Rattle.bp_lemmas.specs.Knowledge.{Knowledge, IsBroken, crossed}
use Rattle.bp_lemmas.specs.Hints.{Outcome, broken, now, bad, after, Then, Closes}
use Rattle.bp_replay.specs.declared.known.Known.{Known}
use Rattle.bp_replay.specs.Tasks.{Task, system_of}
use Rattle.bp_replay.specs.Kept.{Comes, Keeps}
use Rattle.bp_replay.proofs.Breaks.{broken_closes}
use Rattle.bp_replay.proofs.Shown.{kept_broken, kept_shows, keeps_broken}

-- a broken knowledge, in place of those of which only that is known
ruin : Knowledge
ruin = record { lower = λ (u : ℕ). 0; upper = λ (u : ℕ). 0; holds = λ (o : Order). false; fails = λ (o : Order). false }

module _ (t : Task) (earlier : List (List Fact)) where
  abbrev C : List Hint → Knowledge → Type 0
  C hints K = Closes (system_of t) earlier hints K

  -- what all hints make of K closes exactly where the rest closes what is kept
  abbrev pub Left : Known → List Hint → List Hint → Knowledge → Type 0
  Left S rest hints K = (M : Knowledge) × (Keeps t S M × (C rest M ↔ C hints K))

  ruined : IsBroken (system_of t) ruin
  unfolding ruin
  ruined = crossed 0 (omega arith)

  next_left : (S R : Known) (M : Knowledge) (h : Hint) (rest : List Hint) → Keeps t S M → S.broken ≡ false → (o : Outcome) → Comes true t R o → (N : Knowledge) × (Keeps t R N × (C rest N ↔ (IsBroken (system_of t) M ⊎ Then (C rest) o)))
  next_left S R M h rest keeps whole broken comes =
      (ruin, (keeps_broken t R ruin comes ruined, (λ closes. inr tt, λ closes. broken_closes (system_of t) earlier rest ruin ruined)))
  next_left S R M h rest keeps whole (now N) comes =
      (N, (comes, (λ closes. inr closes, λ closes. elim closes [ inl is ↦ absurd ((kept_shows t S M whole keeps).1 is) | inr later ↦ later ])))
  next_left S R M h rest keeps whole bad comes = absurd comes

  pub step_left : (S R : Known) (hints : List Hint) (k : ℕ) (d : Hint) (K : Knowledge) → k < length hints → S.broken ≡ false → ((M : Knowledge) → Keeps t S M → Comes true t R (after (system_of t) earlier M (get_or hints k d))) → Left S (drop k hints) hints K → Left R (drop (k + 1) hints) hints K
  step_left S R hints k d K within whole taken left =
      let M = left.0 in
      let h = get_or hints k d in
      let rest = drop (k + 1) hints in
      let parts : drop k hints ≡ h ∷ rest = drop_more hints k d within in
      let same : C (h ∷ rest) M ↔ C hints K = subst (λ (hs : List Hint). C hs M ↔ C hints K) parts left.1.1 in
      let next = next_left S R M h rest left.1.0 whole (after (system_of t) earlier M h) (taken M left.1.0) in
      (next.0, (next.1.0, (λ closes. same.0 (next.1.1.0 closes), λ closes. next.1.1.1 (same.1 closes))))

  pub left_broken : (S : Known) (rest hints : List Hint) (K : Knowledge) → S.broken ≡ true → Left S rest hints K → C hints K
  left_broken S rest hints K is left = left.1.1.0 (broken_closes (system_of t) earlier rest left.0 (kept_broken t S left.0 is left.1.0))

  not_bad : (M : Knowledge) (R : Known) (Rest : Knowledge → Type 0) (o : Outcome) → Comes false t R o → Then Rest o → ⊥
  not_bad M R Rest broken comes is = comes
  not_bad M R Rest (now N) comes is = comes
  not_bad M R Rest bad comes is = is

  pub left_bad : (S R : Known) (hints : List Hint) (k : ℕ) (d : Hint) (K : Knowledge) → k < length hints → S.broken ≡ false → ((M : Knowledge) → Keeps t S M → Comes false t R (after (system_of t) earlier M (get_or hints k d))) → Left S (drop k hints) hints K → C hints K → ⊥
  left_bad S R hints k d K within whole taken left closes =
      let M = left.0 in
      let h = get_or hints k d in
      let here : C (h ∷ drop (k + 1) hints) M = subst (λ (hs : List Hint). C hs M) (drop_more hints k d within) (left.1.1.1 closes) in
      elim here [
        | inl is ↦ (kept_shows t S M whole left.1.0).1 is
        | inr later ↦ not_bad M R (C (drop (k + 1) hints)) (after (system_of t) earlier M h) (taken M left.1.0) later
      ]

  flag_closes : (b : Bool) (S : Known) (M : Knowledge) → S.broken ≡ b → Keeps t S M → IsTrue b ↔ IsBroken (system_of t) M
  flag_closes true S M is keeps = (λ flag. kept_broken t S M is keeps, λ broken. refl)
  flag_closes false S M is keeps = (λ flag. absurd (false≢true flag), λ broken. absurd ((kept_shows t S M is keeps).1 broken))

  pub left_none : (S : Known) (hints : List Hint) (k : ℕ) (K : Knowledge) → length hints ≤ k → Left S (drop k hints) hints K → IsTrue S.broken ↔ C hints K
  left_none S hints k K all left =
      let M = left.0 in
      let same : C [] M ↔ C hints K = subst (λ (hs : List Hint). C hs M ↔ C hints K) (drop_all k hints all) left.1.1 in
      let flag = flag_closes S.broken S M refl left.1.0 in
      (λ is. same.0 (flag.0 is), λ closes. flag.1 (same.1 closes))
