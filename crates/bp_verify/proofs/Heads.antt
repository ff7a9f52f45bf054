-- What a scanner tells of a head, as a judge asks for it.
use Rattle.std.proofs.Common.{◌≡◌, ℕ, ◌<◌, ◌≤◌, List, [], ◌∷◌, ◌++◌, length, Option, None, Some, Result, Ok, Err, IfOk, refl, sym, ◌∙◌, ap, subst, arith, length-append}
use Rattle.std.proofs.lemmas.List.{get_or_at}
use Rattle.bp_base.specs.Limits.{most_number}
use Rattle.bp_base.specs.Tree.{TreeValue, leaf_count}
use Rattle.bp_metric.specs.Metric.{MetricValue, IsSheet}
use Rattle.bp_certificate.specs.declared.certificate.CertificateHead.{CertificateHead}
use Rattle.bp_certificate.specs.declared.certificate.Lemma.{Lemma}
use Rattle.bp_certificate.specs.Places.{LeadsToLemmas}
use Rattle.bp_certificate.specs.Ranges.{IsLemma, most_lemmas}
use Rattle.bp_certificate.specs.Scanning.{HasFed, IsUnbroken, Progress, TellsHead}
use Rattle.bp_certificate.specs.Stages.{told_head}
use Rattle.bp_certificate.proofs.Scans.{few_lemmas, tells}
use Rattle.bp_verify.specs.declared.intake.Intake.{Intake}
use Rattle.bp_verify.specs.declared.judge.Judge.{Judge}
use Rattle.bp_verify.specs.Intake.{AreJudged, HasTold, IsAhead, IsScanned}
use Rattle.bp_verify.specs.Judged.{HasJudged, HasRoom}

told_text : (P : Progress) (text : List ℕ) (ls : List Lemma) (H : CertificateHead) → HasFed P text ls → told_head P.stage ≡ Some H → TellsHead text ls (Some H)
told_text P text ls H fed told = subst (TellsHead text ls) told (tells P text ls fed)

-- where a lemma was given, the head is told
module _ (p : Intake) (l : Lemma) (ahead : IsAhead p l) where
  told_at : (o : Option CertificateHead) → told_head p.scanner.stage ≡ o → HasTold p
  told_at None is =
      let none = subst (TellsHead ahead.1 (ahead.2 ++ l ∷ [])) is (tells p.scanner ahead.1 (ahead.2 ++ l ∷ []) ahead.3.fed) in
      absurd (omega (arith, ap length none.3, length-append ahead.2 (l ∷ [])))
  told_at (Some H) is = record { on = ahead.0; text = ahead.1; all = ahead.2 ++ l ∷ []; done = ahead.2; scanned = ahead.3; head = H; told = is }

  pub told_ahead : HasTold p
  told_ahead = told_at (told_head p.scanner.stage) refl

  pub lemma_small : IsLemma l
  lemma_small =
      let told = told_ahead in
      let text = told_text p.scanner ahead.1 (ahead.2 ++ l ∷ []) told.head ahead.3.fed told.told in
      let leads : LeadsToLemmas text.0 told.head (ahead.2 ++ l ∷ []) = text.2 in
      let less : length ahead.2 < length (ahead.2 ++ l ∷ []) = omega (arith, length-append ahead.2 (l ∷ [])) in
      subst IsLemma (get_or_at ahead.2 l [] l (length ahead.2) refl) (leads.each (length ahead.2) l less)

  few_judged : length ahead.2 < most_lemmas
  few_judged = omega (arith, few_lemmas p.scanner ahead.1 (ahead.2 ++ l ∷ []) ahead.3.fed, length-append ahead.2 (l ∷ []))

  pub room : (T : TreeValue) (H : CertificateHead) (j : Judge) → HasJudged T H ahead.2 j → HasRoom j
  room T H (Judge.Refused reason) judged = tt
  room T H Judge.NoLemmas judged = tt
  room T H (Judge.Standing r count) judged = omega (arith, judged.1, few_judged)
  room T H (Judge.Wrong number) judged = tt

-- what a judge is opened with
module _ (p : Intake) (told : HasTold p) (H : CertificateHead) (is : told_head p.scanner.stage ≡ Some H) where
  leads_there : (text : List ℕ) × LeadsToLemmas text H told.all
  leads_there = let text = told_text p.scanner told.text told.all H told.scanned.fed is in (text.0, text.2)

  pub head_each : length H.points ≡ leaf_count H.tree
  head_each = leads_there.1.head.design.each

  pub head_bound : H.bound ≤ most_number
  head_bound = leads_there.1.head.design.points.bound

  pub head_sheet : IsSheet H.sheet
  head_sheet = leads_there.1.head.design.sheet

pub one_head : (o : Option CertificateHead) (H K : CertificateHead) → o ≡ Some H → o ≡ Some K → H ≡ K
one_head o H K first second = let both : Some H ≡ Some K = sym first ∙ second in cc

-- the judge that there is
pub judged_there : (T : TreeValue) (p : Intake) (j : Judge) (text : List ℕ) (all ls : List Lemma) (H : CertificateHead) → p.judge ≡ Some j → IsScanned T p text all ls → told_head p.scanner.stage ≡ Some H → HasJudged T H ls j
judged_there T p j text all ls H there scanned told =
    let judged : AreJudged T p.scanner (Some j) ls = subst (λ (o : Option Judge). AreJudged T p.scanner o ls) there scanned.judged in
    subst (λ (K : CertificateHead). HasJudged T K ls j) (one_head (told_head p.scanner.stage) judged.0 H judged.1 told) judged.2

-- the judge that was opened
pub judged_first : (T : TreeValue) (p : Intake) (M : MetricValue) (j : Judge) (text : List ℕ) (all ls : List Lemma) (H K : CertificateHead) → p.judge ≡ None → M.tree ≡ p.metric.tree → told_head p.scanner.stage ≡ Some K → HasJudged M.tree K [] j → IsScanned T p text all ls → told_head p.scanner.stage ≡ Some H → HasJudged T H ls j
judged_first T p M j text all ls H K none tree mine judged scanned told =
    let empty : ls ≡ [] = subst (λ (o : Option Judge). AreJudged T p.scanner o ls) none scanned.judged in
    let on : HasJudged T K [] j = subst (λ (U : TreeValue). HasJudged U K [] j) (tree ∙ scanned.tree) judged in
    subst (λ (xs : List Lemma). HasJudged T H xs j) (sym empty) (subst (λ (G : CertificateHead). HasJudged T G [] j) (one_head (told_head p.scanner.stage) K H mine told) on)

-- the same, where opening had the memory
pub first_judge : {E : Type 0} (p : Intake) (M : MetricValue) (K : CertificateHead) (r : Result Judge E) → p.judge ≡ None → M.tree ≡ p.metric.tree → told_head p.scanner.stage ≡ Some K → IfOk r (λ j. HasJudged M.tree K [] j)
    → IfOk r (λ j. (T : TreeValue) (text : List ℕ) (all ls : List Lemma) (H : CertificateHead) → IsScanned T p text all ls → told_head p.scanner.stage ≡ Some H → HasJudged T H ls j)
first_judge p M K (Ok j) none tree mine judged = λ T text all ls H scanned told. judged_first T p M j text all ls H K none tree mine judged scanned told
first_judge p M K (Err e) none tree mine judged = tt

-- the lemma is judged too
pub judged_more : (T : TreeValue) (p q : Intake) (j : Judge) (text : List ℕ) (ls : List Lemma) (l : Lemma) (H : CertificateHead) → q.scanner ≡ p.scanner → q.metric.tree ≡ p.metric.tree → q.judge ≡ Some j → told_head p.scanner.stage ≡ Some H → IsScanned T p text (ls ++ l ∷ []) ls → HasJudged T H (ls ++ l ∷ []) j → IsScanned T q text (ls ++ l ∷ []) (ls ++ l ∷ [])
judged_more T p q j text ls l H same tree there told scanned judged = record {
  unbroken = subst (λ (P : Progress). IsUnbroken P) (sym same) scanned.unbroken;
  fed = subst (λ (P : Progress). HasFed P text (ls ++ l ∷ [])) (sym same) scanned.fed;
  tree = tree ∙ scanned.tree;
  judged =
      subst (λ (o : Option Judge). AreJudged T q.scanner o (ls ++ l ∷ [])) (sym there)
      (H, ap (λ (P : Progress). told_head P.stage) same ∙ told, judged);
}
