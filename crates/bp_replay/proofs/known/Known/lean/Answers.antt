use Rattle.std.proofs.Common.{◌≡◌, ℕ, get_or, subst}
use Rattle.bp_lemmas.specs.Knowledge.{raised, lowered}
use Rattle.bp_lemmas.specs.Hints.{leant}
use Rattle.bp_replay.specs.Leanings.{lasting_of}
use Rattle.bp_replay.specs.Tasks.{system_of}
use Rattle.bp_replay.specs.Kept.{Keeps}
use Rattle.bp_replay.proofs.Breaks.{leant_stays}
use Rattle.bp_replay.proofs.Shown.{kept_broken, kept_shows, keeps_broken}
use Rattle.bp_replay.proofs.known.Known.lean.Goals as goal

pub returns-then-self : goal.returns-then-self
returns-then-self c = λ t K keeps.
    let l = lasting_of c.args.lean in
    keeps_broken t c.args.self.now (leant K l) c.if-self.true (leant_stays (system_of t) K l (kept_broken t c.args.self.now K c.if-self.true keeps))

pub returns : goal.returns
unfolding leant
returns c = λ t K keeps.
    let S = c.args.self.now in
    let u = c.args.lean.earlier in
    let v = c.args.lean.later in
    let kept = kept_shows t S K c.if-self.false keeps in
    let lower : get_or S.lower u 0 ≡ K.lower u = kept.0.lower u c.requires.earlier in
    let upper : get_or S.upper v 0 ≡ K.upper v = kept.0.upper v c.requires.later in
    let M = raised K v (K.lower u) in
    let one : Keeps t c.raise.new.self M = subst (λ (code : ℕ). Keeps t c.raise.new.self (raised K v code)) lower (c.raise.ensures t K keeps) in
    subst (λ (code : ℕ). Keeps t c.lessen.new.self (lowered M u code)) upper (c.lessen.ensures t M one)
