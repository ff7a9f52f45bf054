use Rattle.std.proofs.Common.{true, false, refl, subst}
use Rattle.bp_arrangement.specs.declared.fact.Fact.{Fact}
use Rattle.bp_lemmas.specs.Knowledge.{with_fact, unsure}
use Rattle.bp_lemmas.specs.Hints.{bad}
use Rattle.bp_replay.specs.declared.unsure.Unsure.{Unsure}
use Rattle.bp_replay.specs.Tasks.{system_of}
use Rattle.bp_replay.specs.Kept.{IsLeft, Keeps}
use Rattle.bp_replay.specs.Stored.{facts_in}
use Rattle.bp_replay.proofs.Applied.{comes_nothing, comes_single, comes_more}
use Rattle.bp_replay.proofs.known.Known.take_lemma.Goals as goal

pub returns-in-Nothing : goal.returns-in-Nothing
returns-in-Nothing c = λ K keeps.
    let t = c.args.given.now in
    let left = unsure (system_of t) K (facts_in c.args.facts.now) in
    let is_left : IsLeft c.unsure.result left = c.unsure.ensures.left K keeps c.requires.whole in
    comes_nothing t K (record c.args.self.now { broken = true }) bad left (subst (λ (u : Unsure). IsLeft u left) c.in-Nothing.is is_left) refl

pub returns-in-Single : goal.returns-in-Single
returns-in-Single c = λ K keeps.
    let t = c.args.given.now in
    let left = unsure (system_of t) K (facts_in c.args.facts.now) in
    let is_left : IsLeft c.unsure.result left = c.unsure.ensures.left K keeps c.requires.whole in
    comes_single t K c.add.new.self bad c.in-Single.fact left (subst (λ (u : Unsure). IsLeft u left) c.in-Single.is is_left)
    (subst (λ (f : Fact). Keeps t c.add.new.self (with_fact (system_of t) K f)) c.denied.ensures.value (c.add.ensures K keeps))

pub returns-in-More : goal.returns-in-More
returns-in-More c = λ K keeps.
    let t = c.args.given.now in
    let left = unsure (system_of t) K (facts_in c.args.facts.now) in
    let is_left : IsLeft c.unsure.result left = c.unsure.ensures.left K keeps c.requires.whole in
    comes_more t K c.args.self.now bad false left (subst (λ (u : Unsure). IsLeft u left) c.in-More.is is_left) tt
