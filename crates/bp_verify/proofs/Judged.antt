-- A judge finds what there is, lemma by lemma.
use Rattle.std.proofs.Common.{◌≡◌, ◌↔◌, ℕ, ◌+◌, ◌-◌, ◌≤◌, inl, inr, true, false, Bool, List, [], ◌∷◌, ◌++◌, length, take, get_or, map, All, Option, None, Some, refl, sym, ◌∙◌, ap, subst, arith, length-append}
use Rattle.std.specs.Prelude.{if◌then◌else◌}
use Rattle.std.proofs.lemmas.Bool.{cases_lt, true≢false}
use Rattle.std.proofs.lemmas.List.{get_or_at, get_or_append_left, length-map, map-append, take-append-le, take_all}
use Rattle.bp_base.specs.declared.path.Pair.{Pair}
use Rattle.bp_base.specs.Tree.{TreeValue}
use Rattle.bp_metric.specs.Metric.{MetricValue}
use Rattle.bp_arrangement.specs.declared.fact.Fact.{Fact}
use Rattle.bp_arrangement.specs.declared.fact.Fact.TheVariants.{Before, NotBefore, Least, Below}
use Rattle.bp_arrangement.specs.declared.fact.Hint.{Hint}
use Rattle.bp_lemmas.specs.Systems.{System}
use Rattle.bp_lemmas.specs.Standing.{Lemma, Stands, EndsEmpty, facts_of}
use Rattle.bp_replay.specs.Replays.{IsSmallCode, ReplayValue}
use Rattle.bp_replay.specs.Tasks.{cornered, Task, system_of}
use Rattle.bp_certificate.specs.declared.certificate.Certificate.{Certificate}
use Rattle.bp_certificate.specs.declared.certificate.CertificateHead.{CertificateHead}
use Rattle.bp_certificate.specs.declared.certificate.Lemma.{Lemma as LemmaLine}
use Rattle.bp_certificate.specs.declared.certificate.Lemmas.{Lemmas}
use Rattle.bp_certificate.specs.declared.certificate.Plan.{Plan}
use Rattle.bp_certificate.specs.Places.{certificate_of, lemmas_of}
use Rattle.bp_certificate.specs.Ranges.{IsSmallFact}
use Rattle.bp_verify.specs.declared.found.Found.{Found}
use Rattle.bp_verify.specs.declared.found.Found.TheVariants.{NoLemmas, WrongLemma, Standing}
use Rattle.bp_verify.specs.declared.judge.Judge.{Judge}
use Rattle.bp_verify.specs.declared.verdict.Reason.{Reason}
use Rattle.bp_verify.specs.declared.verdict.Verdict.{Verdict}
use Rattle.bp_verify.specs.Certifies.{lemma_of}
use Rattle.bp_verify.specs.Reasons.{FailsLemma, HasBadLemma, IsFirstBadLemma, StandsAt}
use Rattle.bp_verify.specs.Verdicts.{AllStand, CanSwap, CanSwapAll, EndsWell, HasHead, HasPlan, IsFoundOf, IsReasonBefore, IsSoundSoFar, IsVerdictOf, StandFrom, verdict_of}
use Rattle.bp_verify.specs.Judged.{AsksFor, Begins, EachStandsAt, HasJudged, IsSoundHead, task_of}
use Rattle.bp_verify.proofs.Each.{none}

-- a certificate of a head has it
has_plan : (plan : Option Plan) (ls : List LemmaLine) → HasPlan (lemmas_of plan ls) plan
has_plan None ls = tt
has_plan (Some p) ls = (refl, refl)

has_head : (H : CertificateHead) (ls : List LemmaLine) → HasHead (certificate_of H ls) H
has_head H ls = record { tree = refl; sheet = refl; side = refl; bound = refl; points = refl; floor = refl; plan = has_plan H.plan ls }

module _ (T : TreeValue) (H : CertificateHead) where
  pub refused : (reason : Reason) → ((C : Certificate) → HasHead C H → IsReasonBefore T C (Some reason)) → HasJudged T H [] (Judge.Refused reason)
  refused reason before more = before (certificate_of H more) (has_head H more)

  sound_head : ((C : Certificate) → HasHead C H → IsReasonBefore T C None) → IsSoundHead T H
  sound_head before more = before (certificate_of H more) (has_head H more)

  pub no_lemmas : H.plan ≡ None → ((C : Certificate) → HasHead C H → IsReasonBefore T C None) → HasJudged T H [] Judge.NoLemmas
  no_lemmas none before = (none, sound_head before)

  pub can_swap : (p : Plan) → H.plan ≡ Some p → ((C : Certificate) → HasHead C H → IsReasonBefore T C None) → CanSwap T p.swaps p.corner
  can_swap p planned before = subst (λ (q : Option Plan). CanSwapAll T (lemmas_of q [])) planned (sound_head before []).swaps

  pub begins : (M : MetricValue) (p : Plan) (r : ReplayValue) → M.tree ≡ T → H.sheet ≡ M.sheet → H.plan ≡ Some p → ((C : Certificate) → HasHead C H → IsReasonBefore T C None) → Begins M H.bound p r → HasJudged T H [] (Judge.Standing r 0)
  begins M p r tree sheet planned before is =
      let same : r ≡ record { task = task_of T H is.0 p; lemmas = [] } =
      is.2 ∙ (λ i. record { task = record { tree = tree i; sheet = sym sheet i; bound = H.bound; ties = cornered is.0; heads = (task_of T H is.0 p).heads }; lemmas = [] }) in
      subst (λ (s : ReplayValue). HasJudged T H [] (Judge.Standing s 0)) (sym same) (
        record { plan = p; corner = is.0; planned = planned; told = is.1; task = refl; sound = sound_head before },
        refl,
        refl,
        λ k some few. absurd (omega (arith, some, few)),
      )

-- a lemma stands among more lemmas as among those up to it
moved : (S : System) (a b : List (List Fact)) (l m : Lemma) → a ≡ b → l ≡ m → Stands S a l → Stands S b m
moved S a b l m same is stands = subst (Stands S b) is (subst (λ (e : List (List Fact)). Stands S e l) same stands)

module _ (S : System) (ls : List Lemma) (l : Lemma) where
  front : (k : ℕ) → k ≤ length ls → facts_of (take k (ls ++ l ∷ [])) ≡ facts_of (take k ls)
  front k few = ap facts_of (take-append-le k ls (l ∷ []) few)

  pub later : (k : ℕ) → 1 ≤ k → k ≤ length ls → StandsAt S ls k → StandsAt S (ls ++ l ∷ []) k
  later k some few stands =
      moved S (facts_of (take (k - 1) ls)) (facts_of (take (k - 1) (ls ++ l ∷ []))) (get_or ls (k - 1) none) (get_or (ls ++ l ∷ []) (k - 1) none)
      (sym (front (k - 1) (omega (arith, few)))) (sym (get_or_append_left ls (l ∷ []) none (k - 1) (omega (arith, some, few)))) stands

  pub earlier : (k : ℕ) → 1 ≤ k → k ≤ length ls → StandsAt S (ls ++ l ∷ []) k → StandsAt S ls k
  earlier k some few stands =
      moved S (facts_of (take (k - 1) (ls ++ l ∷ []))) (facts_of (take (k - 1) ls)) (get_or (ls ++ l ∷ []) (k - 1) none) (get_or ls (k - 1) none)
      (front (k - 1) (omega (arith, few))) (get_or_append_left ls (l ∷ []) none (k - 1) (omega (arith, some, few))) stands

  last_front : (k : ℕ) → k ≡ length ls + 1 → facts_of (take (k - 1) (ls ++ l ∷ [])) ≡ facts_of ls
  last_front k is =
      let n : k - 1 ≡ length ls = omega (arith, is) in
      ap (λ (i : ℕ). facts_of (take i (ls ++ l ∷ []))) n ∙ front (length ls) (omega arith) ∙ ap facts_of (take_all (length ls) ls (omega arith))

  last_is : (k : ℕ) → k ≡ length ls + 1 → get_or (ls ++ l ∷ []) (k - 1) none ≡ l
  last_is k is = get_or_at ls l [] none (k - 1) (omega (arith, is))

  pub at_last : (k : ℕ) → k ≡ length ls + 1 → Stands S (facts_of ls) l → StandsAt S (ls ++ l ∷ []) k
  at_last k is stands = moved S (facts_of ls) (facts_of (take (k - 1) (ls ++ l ∷ []))) l (get_or (ls ++ l ∷ []) (k - 1) none) (sym (last_front k is)) (sym (last_is k is)) stands

  pub of_last : (k : ℕ) → k ≡ length ls + 1 → StandsAt S (ls ++ l ∷ []) k → Stands S (facts_of ls) l
  of_last k is stands = moved S (facts_of (take (k - 1) (ls ++ l ∷ []))) (facts_of ls) (get_or (ls ++ l ∷ []) (k - 1) none) l (last_front k is) (last_is k is) stands

  long : length (ls ++ l ∷ []) ≡ length ls + 1
  long = length-append ls (l ∷ [])

  pub each_more : EachStandsAt S ls → Stands S (facts_of ls) l → EachStandsAt S (ls ++ l ∷ [])
  each_more each stands k some few = elim (cases_lt (length ls) k) [
    | inl past ↦ at_last k (omega (arith, past, few, long)) stands
    | inr within ↦ later k some within (each k some within)
  ]

  pub first_bad : EachStandsAt S ls → (Stands S (facts_of ls) l → ⊥) → IsFirstBadLemma S (ls ++ l ∷ []) (length ls + 1)
  first_bad each bad = record {
    among = (omega arith, omega (arith, long));
    earlier = λ k some less. later k some (omega (arith, less)) (each k some (omega (arith, less)));
    bad = λ stands. bad (of_last (length ls + 1) refl stands);
  }

  pub still_bad : (n : ℕ) → IsFirstBadLemma S ls n → IsFirstBadLemma S (ls ++ l ∷ []) n
  still_bad n is = record {
    among = (is.among.0, omega (arith, is.among.1, long));
    earlier = λ k some less. later k some (omega (arith, less, is.among.1)) (is.earlier k some less);
    bad = λ stands. is.bad (earlier n is.among.0 is.among.1 stands);
  }

lemmas_more : (ls : List LemmaLine) (l : LemmaLine) → map lemma_of (ls ++ l ∷ []) ≡ map lemma_of ls ++ lemma_of l ∷ []
lemmas_more ls l = map-append lemma_of ls (l ∷ [])

facts_more : (ls : List Lemma) (l : Lemma) → facts_of (ls ++ l ∷ []) ≡ facts_of ls ++ l.facts ∷ []
facts_more ls l = map-append (λ (m : Lemma). m.facts) ls (l ∷ [])

-- one lemma more
module _ (T : TreeValue) (H : CertificateHead) (ls : List LemmaLine) (l : LemmaLine) where
  abbrev mine : List Lemma
  mine = map lemma_of ls

  count_is : length mine ≡ length ls
  count_is = length-map ls lemma_of

  module _ (r : ReplayValue) (count : ℕ) (judged : HasJudged T H ls (Judge.Standing r count)) where
    on_these : Stands (system_of r.task) r.lemmas (lemma_of l) → Stands (system_of r.task) (facts_of mine) (lemma_of l)
    on_these stands = subst (λ (e : List (List Fact)). Stands (system_of r.task) e (lemma_of l)) judged.2 stands

    on_those : Stands (system_of r.task) (facts_of mine) (lemma_of l) → Stands (system_of r.task) r.lemmas (lemma_of l)
    on_those stands = subst (λ (e : List (List Fact)). Stands (system_of r.task) e (lemma_of l)) (sym judged.2) stands

    pub stood : (s : ReplayValue) → s ≡ record { task = r.task; lemmas = r.lemmas ++ l.facts ∷ [] } → Stands (system_of r.task) r.lemmas (lemma_of l) → HasJudged T H (ls ++ l ∷ []) (Judge.Standing s (count + 1))
    stood s is stands = subst (λ (q : ReplayValue). HasJudged T H (ls ++ l ∷ []) (Judge.Standing q (count + 1))) (sym is) (
      judged.0,
      omega (arith, judged.1, length-append ls (l ∷ [])),
      ap (λ (t : List (List Fact)). t ++ l.facts ∷ []) judged.2 ∙ sym (facts_more mine (lemma_of l)) ∙ ap facts_of (sym (lemmas_more ls l)),
      subst (EachStandsAt (system_of r.task)) (sym (lemmas_more ls l)) (each_more (system_of r.task) mine (lemma_of l) judged.3 (on_these stands)),
    )

    pub fell : (Stands (system_of r.task) r.lemmas (lemma_of l) → ⊥) → HasJudged T H (ls ++ l ∷ []) (Judge.Wrong (count + 1))
    fell bad =
        let n : length mine + 1 ≡ count + 1 = omega (arith, judged.1, count_is) in
        let first = first_bad (system_of r.task) mine (lemma_of l) judged.3 (λ stands. bad (on_those stands)) in
        (r.task, judged.0, subst (λ (xs : List Lemma). IsFirstBadLemma (system_of r.task) xs (count + 1)) (sym (lemmas_more ls l)) (subst (IsFirstBadLemma (system_of r.task) (mine ++ lemma_of l ∷ [])) n first))

    -- the same, as the code has it
    module _ (s : ReplayValue) (fs : List Fact) (hs : List Hint) (stood_is : Bool) (same_facts : fs ≡ l.facts) (same_hints : hs ≡ l.hints) (exact : (stood_is ≡ true) ↔ Stands (system_of r.task) r.lemmas (record { facts = fs; hints = hs })) where
      pub fed_stood : s ≡ (if stood_is then record { task = r.task; lemmas = r.lemmas ++ fs ∷ [] } else r) → stood_is ≡ true → HasJudged T H (ls ++ l ∷ []) (Judge.Standing s (count + 1))
      fed_stood kept is =
          let now : s ≡ record { task = r.task; lemmas = r.lemmas ++ l.facts ∷ [] } =
          kept ∙ ap (λ (b : Bool). if b then record { task = r.task; lemmas = r.lemmas ++ fs ∷ [] } else r) is ∙ (λ i. record { task = r.task; lemmas = r.lemmas ++ same_facts i ∷ [] }) in
          stood s now (subst (λ (m : Lemma). Stands (system_of r.task) r.lemmas m) (λ i. record { facts = same_facts i; hints = same_hints i }) (exact.0 is))

      pub fed_fell : stood_is ≡ false → HasJudged T H (ls ++ l ∷ []) (Judge.Wrong (count + 1))
      fed_fell is =
          fell (λ stands. true≢false (sym (exact.1 (subst (λ (m : Lemma). Stands (system_of r.task) r.lemmas m) (λ i. record { facts = sym same_facts i; hints = sym same_hints i }) stands)) ∙ is))

  -- what was found stays, where no lemma is replayed any more
  pub stays_judged : (j : Judge) → ((r : ReplayValue) (count : ℕ) → j ≡ Judge.Standing r count → ⊥) → HasJudged T H ls j → HasJudged T H (ls ++ l ∷ []) j
  stays_judged (Judge.Refused reason) other judged = judged
  stays_judged Judge.NoLemmas other judged = judged
  stays_judged (Judge.Standing r count) other judged = absurd (other r count refl)
  stays_judged (Judge.Wrong number) other judged =
      (judged.0, judged.1, subst (λ (xs : List Lemma). IsFirstBadLemma (system_of judged.0) xs number) (sym (lemmas_more ls l)) (still_bad (system_of judged.0) mine (lemma_of l) number judged.2))

-- the codes of a lemma's facts are small
small_code : (f : Fact) → IsSmallFact f → IsSmallCode f
small_code (Before axis first second) small = tt
small_code (NotBefore axis first second) small = tt
small_code (Least axis leaf code) small = omega (arith, small.1)
small_code (Below axis leaf code) small = omega (arith, small.1)

pub small_codes : (fs : List Fact) → All IsSmallFact fs → All IsSmallCode fs
small_codes fs small k d less = small_code (get_or fs k d) (small k d less)

-- The verdict by what is found.
abbrev Law : Type 0
Law = (T : TreeValue) (C : Certificate) (f : Found) → IsSoundSoFar T C → IsFoundOf T C f → IsVerdictOf T C (verdict_of C.bound C.floor.side f)

module _ (T : TreeValue) (H : CertificateHead) (ls : List LemmaLine) (law : Law) where
  pub verdict_none : HasJudged T H ls Judge.NoLemmas → IsVerdictOf T (certificate_of H ls) (verdict_of H.bound H.floor.side NoLemmas)
  verdict_none judged = law T (certificate_of H ls) NoLemmas (judged.1 ls) (ap (λ (p : Option Plan). lemmas_of p ls) judged.0)

  module _ (t : Task) (asks : AsksFor T H t) where
    abbrev told_lemmas : Lemmas
    told_lemmas = record { corner = asks.plan.corner; swaps = asks.plan.swaps; lemmas = ls }

    fails : (n : ℕ) → IsFirstBadLemma (system_of t) (map lemma_of ls) n → FailsLemma T H.sheet H.bound (lemmas_of H.plan ls) n
    fails n bad =
        let there : IsFirstBadLemma (system_of (task_of T H asks.corner asks.plan)) (map lemma_of ls) n = subst (λ (u : Task). IsFirstBadLemma (system_of u) (map lemma_of ls) n) asks.task bad in
        subst (λ (p : Option Plan). FailsLemma T H.sheet H.bound (lemmas_of p ls) n) (sym asks.planned) (with_corner n asks.plan.corner asks.told there)
      where
        with_corner : (n : ℕ) (corner : Option Pair) → corner ≡ Some asks.corner → IsFirstBadLemma (system_of (task_of T H asks.corner asks.plan)) (map lemma_of ls) n → HasBadLemma T H.sheet H.bound told_lemmas corner n
        with_corner n corner is there = subst (λ (c : Option Pair). HasBadLemma T H.sheet H.bound told_lemmas c n) (sym is) there

    stand : EachStandsAt (system_of t) (map lemma_of ls) → AllStand T H.sheet H.bound (lemmas_of H.plan ls)
    stand each =
        let there : EachStandsAt (system_of (task_of T H asks.corner asks.plan)) (map lemma_of ls) = subst (λ (u : Task). EachStandsAt (system_of u) (map lemma_of ls)) asks.task each in
        subst (λ (p : Option Plan). AllStand T H.sheet H.bound (lemmas_of p ls)) (sym asks.planned)
        (subst (λ (c : Option Pair). StandFrom T H.sheet H.bound told_lemmas c) (sym asks.told) there)

  pub verdict_wrong : (n : ℕ) → HasJudged T H ls (Judge.Wrong n) → IsVerdictOf T (certificate_of H ls) (verdict_of H.bound H.floor.side (WrongLemma n))
  verdict_wrong n judged = law T (certificate_of H ls) (WrongLemma n) (judged.1.sound ls) (fails judged.0 judged.1 n judged.2)

  ends_well : (r : ReplayValue) (count : ℕ) → HasJudged T H ls (Judge.Standing r count) → (EndsEmpty r.lemmas → EndsWell (lemmas_of H.plan ls)) × (EndsWell (lemmas_of H.plan ls) → EndsEmpty r.lemmas)
  ends_well r count judged = (
    λ ends. subst (λ (p : Option Plan). EndsWell (lemmas_of p ls)) (sym judged.0.planned) (subst EndsEmpty judged.2 ends),
    λ ends. subst EndsEmpty (sym judged.2) (subst (λ (p : Option Plan). EndsWell (lemmas_of p ls)) judged.0.planned ends),
  )

  pub verdict_standing : (r : ReplayValue) (count : ℕ) (ends : Bool) → (ends ≡ true) ↔ EndsEmpty r.lemmas → HasJudged T H ls (Judge.Standing r count) → IsVerdictOf T (certificate_of H ls) (verdict_of H.bound H.floor.side (Standing ends))
  verdict_standing r count ends exact judged =
      let well = ends_well r count judged in
      law T (certificate_of H ls) (Standing ends) (judged.0.sound ls) (stand r.task judged.0 judged.3, (λ is. well.0 (exact.0 is), λ is. exact.1 (well.1 is)))

  pub as_found : (v : Verdict) (found f : Found) → v ≡ verdict_of H.bound H.floor.side found → found ≡ f → IsVerdictOf T (certificate_of H ls) (verdict_of H.bound H.floor.side f) → IsVerdictOf T (certificate_of H ls) v
  as_found v found f is same right = subst (IsVerdictOf T (certificate_of H ls)) (sym (is ∙ ap (verdict_of H.bound H.floor.side) same)) right
