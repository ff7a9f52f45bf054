use Rattle.std.proofs.Common.{◌-◌, true, List, [], length, All, sym, subst, arith}
use Rattle.bp_arrangement.specs.declared.fact.Fact.{Fact}
use Rattle.bp_arrangement.specs.declared.fact.Hint.{Hint}
use Rattle.bp_lemmas.specs.Knowledge.{unsure}
use Rattle.bp_lemmas.specs.Hints.{after, bad, by_last}
use Rattle.bp_lemmas.specs.Standing.{IsHint, IsNamed}
use Rattle.bp_replay.specs.Tasks.{system_of}
use Rattle.bp_replay.specs.Kept.{Comes}
use Rattle.bp_replay.proofs.Tied.{named_pair}
use Rattle.bp_replay.proofs.known.Known.take.Goals as goal

pub take_pair-requires-clause-pair : goal.take_pair-requires-clause-pair
take_pair-requires-clause-pair c =
    named_pair c.args.given.now c.in-Pair.pair.i c.in-Pair.pair.j (subst (IsHint (system_of c.args.given.now) (length c.args.store.now)) c.in-Pair.is c.requires.named)

pub take_lemma-requires-clause-named : goal.take_lemma-requires-clause-named
take_lemma-requires-clause-named c =
    let named = subst (IsHint (system_of c.args.given.now) (length c.args.store.now)) c.in-Lemma.is c.requires.named in
    subst (All (IsNamed (system_of c.args.given.now))) (sym c.facts.ensures) (c.requires.stored (c.in-Lemma.number - 1) [] (omega (arith, named.0, named.1)))

pub returns-in-Pair : goal.returns-in-Pair
unfolding after
returns-in-Pair c = λ K keeps.
    let t = c.args.given.now in
    subst (λ (h : Hint). Comes true t c.take_pair.new.self (after (system_of t) c.args.store.now K h)) (sym c.in-Pair.is) (c.take_pair.ensures K keeps)

pub returns-in-Lemma : goal.returns-in-Lemma
unfolding after
returns-in-Lemma c = λ K keeps.
    let t = c.args.given.now in
    subst (λ (h : Hint). Comes c.take_lemma.result t c.take_lemma.new.self (after (system_of t) c.args.store.now K h)) (sym c.in-Lemma.is)
    (subst (λ (fs : List Fact). Comes c.take_lemma.result t c.take_lemma.new.self (by_last (system_of t) K bad (unsure (system_of t) K fs))) c.facts.ensures (c.take_lemma.ensures K keeps))
