-- What is found of a certificate by its first lemmas, once its head is told.
use Rattle.std.specs.Prelude.{◌≡◌, ℕ, ◌<◌, ◌≤◌, List, [], length, map, None, Some}
use Rattle.bp_base.specs.declared.path.Pair.{Pair}
use Rattle.bp_base.specs.Tree.{TreeValue}
use Rattle.bp_metric.specs.Metric.{MetricValue}
use Rattle.bp_arrangement.specs.Swaps.{head}
use Rattle.bp_lemmas.specs.Systems.{System}
use Rattle.bp_lemmas.specs.Standing.{Lemma, facts_of}
use Rattle.bp_replay.specs.Replays.{ReplayValue}
use Rattle.bp_replay.specs.Tasks.{cornered, Task, system_of}
use Rattle.bp_certificate.specs.declared.certificate.CertificateHead.{CertificateHead}
use Rattle.bp_certificate.specs.declared.certificate.Lemma.{Lemma as LemmaLine}
use Rattle.bp_certificate.specs.declared.certificate.Plan.{Plan}
use Rattle.bp_certificate.specs.Places.{certificate_of}
use Rattle.bp_certificate.specs.Ranges.{most_lemmas}
use Rattle.bp_verify.specs.declared.judge.Judge.{Judge}
use Rattle.bp_verify.specs.declared.judge.Judge.TheVariants.{Refused, NoLemmas, Standing, Wrong}
use Rattle.bp_verify.specs.Certifies.{lemma_of}
use Rattle.bp_verify.specs.Reasons.{StandsAt, IsFirstBadLemma, IsFirstReason}
use Rattle.bp_verify.specs.Verdicts.{IsSoundSoFar}

-- a replay of no lemma yet, behind this plan
abbrev pub Begins : MetricValue → ℕ → Plan → ReplayValue → Type 0
Begins M bound plan r =
    (corner : Pair) × (plan.corner ≡ Some corner) × (r ≡ record { task = record { tree = M.tree; sheet = M.sheet; bound = bound; ties = cornered corner; heads = map head plan.swaps }; lemmas = [] })

-- what the lemmas of a head are to prove
abbrev pub task_of : TreeValue → CertificateHead → Pair → Plan → Task
task_of T H corner plan = record { tree = T; sheet = H.sheet; bound = H.bound; ties = cornered corner; heads = map head plan.swaps }

-- no reason stands against a certificate of this head before its lemmas, whatever they are
abbrev pub IsSoundHead : TreeValue → CertificateHead → Type 0
IsSoundHead T H = (more : List LemmaLine) → IsSoundSoFar T (certificate_of H more)

-- the head tells of lemmas, and this is what they are to prove
pub record AsksFor (T : TreeValue) (H : CertificateHead) (t : Task) : Type 0 where
  pub plan : Plan
  pub corner : Pair
  pub planned : H.plan ≡ Some plan
  pub told : plan.corner ≡ Some corner
  pub task : t ≡ task_of T H corner plan
  pub sound : IsSoundHead T H

-- each lemma stands on those before it
abbrev pub EachStandsAt : System → List Lemma → Type 0
EachStandsAt S lemmas = (k : ℕ) → 1 ≤ k → k ≤ length lemmas → StandsAt S lemmas k

-- Of a certificate with this head these are the first lemmas.
abbrev pub HasJudged : TreeValue → CertificateHead → List LemmaLine → Judge → Type 0
HasJudged T H ls (Refused reason) = (more : List LemmaLine) → IsFirstReason T (certificate_of H more) reason
HasJudged T H ls NoLemmas = (H.plan ≡ None) × IsSoundHead T H
HasJudged T H ls (Standing replay count) =
    AsksFor T H replay.task × (count ≡ length ls) × (replay.lemmas ≡ facts_of (map lemma_of ls)) × EachStandsAt (system_of replay.task) (map lemma_of ls)
HasJudged T H ls (Wrong number) = (t : Task) × AsksFor T H t × IsFirstBadLemma (system_of t) (map lemma_of ls) number

-- there are not yet as many lemmas as a certificate may have
abbrev pub HasRoom : Judge → Type 0
HasRoom (Standing replay count) = count < most_lemmas
HasRoom j = Unit {0}
