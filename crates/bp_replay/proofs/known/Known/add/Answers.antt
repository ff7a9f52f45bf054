use Rattle.std.proofs.Common.{ℕ, sym, subst}
use Rattle.bp_arrangement.specs.declared.fact.Fact.{Fact}
use Rattle.bp_lemmas.specs.Knowledge.{raised, lowered, with_fact}
use Rattle.bp_lemmas.specs.Standing.{IsNamed}
use Rattle.bp_replay.specs.Tasks.{system_of}
use Rattle.bp_replay.specs.Kept.{Keeps}
use Rattle.bp_replay.proofs.Tied.{named_two}
use Rattle.bp_replay.proofs.known.Known.add.Goals as goal

pub add_order-requires-clause-two : goal.add_order-requires-clause-two
add_order-requires-clause-two c = named_two c.args.given.now c.in-Before.axis c.in-Before.first c.in-Before.second (subst (IsNamed (system_of c.args.given.now)) c.in-Before.is c.requires.named)

pub set_known_not-requires-clause-two : goal.set_known_not-requires-clause-two
set_known_not-requires-clause-two c = named_two c.args.given.now c.in-NotBefore.axis c.in-NotBefore.first c.in-NotBefore.second (subst (IsNamed (system_of c.args.given.now)) c.in-NotBefore.is c.requires.named)

pub place-requires-clause-there : goal.place-requires-clause-there
place-requires-clause-there c = subst (IsNamed (system_of c.args.given.now)) c.in-Least.is c.requires.named

pub place-requires-in-Below-clause-there : goal.place-requires-in-Below-clause-there
place-requires-in-Below-clause-there c = subst (IsNamed (system_of c.args.given.now)) c.in-Below.is c.requires.named

pub returns-in-Before : goal.returns-in-Before
unfolding with_fact
returns-in-Before c = λ K keeps.
    subst (λ (f : Fact). Keeps c.args.given.now c.add_order.new.self (with_fact (system_of c.args.given.now) K f)) (sym c.in-Before.is) (c.add_order.ensures K keeps)

pub returns-in-NotBefore : goal.returns-in-NotBefore
unfolding with_fact
returns-in-NotBefore c = λ K keeps.
    subst (λ (f : Fact). Keeps c.args.given.now c.set_known_not.new.self (with_fact (system_of c.args.given.now) K f)) (sym c.in-NotBefore.is) (c.set_known_not.ensures K keeps)

pub returns-in-Least : goal.returns-in-Least
unfolding with_fact
returns-in-Least c = λ K keeps.
    let t = c.args.given.now in
    subst (λ (f : Fact). Keeps t c.raise.new.self (with_fact (system_of t) K f)) (sym c.in-Least.is)
    (subst (λ (u : ℕ). Keeps t c.raise.new.self (raised K u c.in-Least.code)) c.place.ensures.value (c.raise.ensures t K keeps))

pub returns-in-Below : goal.returns-in-Below
unfolding with_fact
returns-in-Below c = λ K keeps.
    let t = c.args.given.now in
    subst (λ (f : Fact). Keeps t c.lessen.new.self (with_fact (system_of t) K f)) (sym c.in-Below.is)
    (subst (λ (u : ℕ). Keeps t c.lessen.new.self (lowered K u c.in-Below.code)) c.place-in-Below.ensures.value (c.lessen.ensures t K keeps))
