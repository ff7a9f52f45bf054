use Rattle.std.proofs.Common.{◌≡◌, ℕ, get_or, ap, sym, ◌∙◌, subst}
use Rattle.std.specs.Prelude.{nat_le}
use Rattle.bp_arrangement.specs.declared.fact.Fact.{Fact}
use Rattle.bp_lemmas.specs.Knowledge.{is_sure}
use Rattle.bp_lemmas.specs.Standing.{IsNamed}
use Rattle.bp_replay.specs.Tasks.{system_of}
use Rattle.bp_replay.proofs.Shown.{kept_shows}
use Rattle.bp_replay.proofs.Tied.{named_two}
use Rattle.bp_replay.proofs.known.Known.is_sure.Goals as goal

pub is_known-requires-clause-two : goal.is_known-requires-clause-two
is_known-requires-clause-two c = named_two c.args.given.now c.in-Before.axis c.in-Before.first c.in-Before.second (subst (IsNamed (system_of c.args.given.now)) c.in-Before.is c.requires.named)

pub is_sure_not-requires-clause-two : goal.is_sure_not-requires-clause-two
is_sure_not-requires-clause-two c = named_two c.args.given.now c.in-NotBefore.axis c.in-NotBefore.first c.in-NotBefore.second (subst (IsNamed (system_of c.args.given.now)) c.in-NotBefore.is c.requires.named)

pub place-requires-clause-there : goal.place-requires-clause-there
place-requires-clause-there c = subst (IsNamed (system_of c.args.given.now)) c.in-Least.is c.requires.named

pub place-requires-in-Below-clause-there : goal.place-requires-in-Below-clause-there
place-requires-in-Below-clause-there c = subst (IsNamed (system_of c.args.given.now)) c.in-Below.is c.requires.named

pub returns-in-Before : goal.returns-in-Before
unfolding is_sure
returns-in-Before c = λ K keeps whole.
    subst (λ (f : Fact). c.is_known.result ≡ is_sure (system_of c.args.given.now) K f) (sym c.in-Before.is) (c.is_known.ensures K keeps whole)

pub returns-in-NotBefore : goal.returns-in-NotBefore
unfolding is_sure
returns-in-NotBefore c = λ K keeps whole.
    subst (λ (f : Fact). c.is_sure_not.result ≡ is_sure (system_of c.args.given.now) K f) (sym c.in-NotBefore.is) (c.is_sure_not.ensures K keeps whole)

pub returns-in-Least : goal.returns-in-Least
unfolding is_sure
returns-in-Least c = λ K keeps whole.
    let t = c.args.given.now in
    let S = c.args.self.now in
    subst (λ (f : Fact). nat_le c.in-Least.code (get_or S.lower c.place.result 0) ≡ is_sure (system_of t) K f) (sym c.in-Least.is)
    (ap (λ (x : ℕ). nat_le c.in-Least.code x) ((kept_shows t S K whole keeps).0.lower c.place.result c.place.ensures.within)
    ∙ ap (λ (p : ℕ). nat_le c.in-Least.code (K.lower p)) c.place.ensures.value)

pub returns-in-Below : goal.returns-in-Below
unfolding is_sure
returns-in-Below c = λ K keeps whole.
    let t = c.args.given.now in
    let S = c.args.self.now in
    subst (λ (f : Fact). nat_le (get_or S.upper c.place-in-Below.result 0) c.in-Below.code ≡ is_sure (system_of t) K f) (sym c.in-Below.is)
    (ap (λ (x : ℕ). nat_le x c.in-Below.code) ((kept_shows t S K whole keeps).0.upper c.place-in-Below.result c.place-in-Below.ensures.within)
    ∙ ap (λ (p : ℕ). nat_le (K.upper p) c.in-Below.code) c.place-in-Below.ensures.value)
