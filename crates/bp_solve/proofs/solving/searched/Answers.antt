use Rattle.std.proofs.Common.{arith, inl, inr}
use Rattle.std.proofs.lemmas.Result.{IfOk-weaker}
use Rattle.bp_solve.proofs.Proven.{better_best, ends_without, plain_less}
use Rattle.bp_solve.proofs.solving.searched.Goals as goal

pub plain-requires-clause-placement : goal.plain-requires-clause-placement
plain-requires-clause-placement c =
    let T = c.args.metric.now.tree in
    let G = c.args.metric.now.sheet in
    let e = c.better-found.ensures in
    better_best T G c.better-found.result c.args.opening c.requires.opening (e.valid T G c.requires.opening.valid c.requires.valid) e.first

pub ending_without-ending-requires : goal.ending_without-ending-requires
ending_without-ending-requires c =
    let e = c.in_ok-plain.ensures in
    omega (arith, e.side.0, e.side.1, plain_less c.args.metric.now c.law_of_certificates.ensures.valid c.law_of_certificates.ensures.none_below c.law_of_certificates.ensures.bound c.in_ok-plain.plain e.plain)

pub shown-requires-clause-more : goal.shown-requires-clause-more
shown-requires-clause-more c =
    let h = rw c.in-Some.is at c.in_ok-trusted.ensures in
    omega (arith, c.in_ok-plain.ensures.side.1, h.0)

pub shown-requires-clause-small : goal.shown-requires-clause-small
shown-requires-clause-small c =
    let h = rw c.in-Some.is at c.in_ok-trusted.ensures in
    h.1

pub shown-requires-clause-proves : goal.shown-requires-clause-proves
shown-requires-clause-proves c =
    let h = rw c.in-Some.is at c.in_ok-trusted.ensures in
    h.2

pub shown-requires-clause-spent : goal.shown-requires-clause-spent
shown-requires-clause-spent c = λ less. elim c.requires.ended [
  | inl met ↦ absurd (omega (arith, less, met, c.in_ok-plain.ensures.side.0, c.better-found.ensures.second))
  | inr spent ↦ spent
]

pub returns-in-None : goal.returns-in-None
returns-in-None c =
    let e = c.in_ok-plain.ensures in
    IfOk-weaker c.told.result _ _
    (λ s all. all c.args.budget (ends_without c.args.metric.now.tree c.args.budget c.in_ok-plain.plain _ _ _ c.ending_without-ending.result e.side.0 e.side.1 e.plain.lemmas c.ending_without-ending.ensures)) c.told.ensures
