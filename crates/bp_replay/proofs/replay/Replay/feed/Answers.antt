use Rattle.std.proofs.Common.{ℕ, ◌<◌, All, refl, subst, arith}
use Rattle.bp_base.specs.Tree.{leaf_count}
use Rattle.bp_lemmas.specs.Knowledge.{with_facts}
use Rattle.bp_lemmas.specs.Standing.{Lemma, IsHint, Stands, root_after}
use Rattle.bp_replay.specs.Tasks.{system_of}
use Rattle.bp_replay.specs.Cells.{rows}
use Rattle.bp_replay.proofs.Feeding.{small_fact, after_one, after_other, next_replay}
use Rattle.bp_replay.proofs.replay.Replay.feed.Goals as goal

pub push-requires : goal.push-requires
push-requires c =
    let t = c.self.inside.given in
    let few : leaf_count t.tree < rows = omega (arith, c.self.invariant.task.tree.leaves_few) in
    λ k d within. small_fact t few _ (c.if-not-names_all.ensures.0 refl k d within) (c.requires.codes k d within)

pub invariant_of-self-then-facts-eq1 : goal.invariant_of-self-then-facts-eq1
invariant_of-self-then-facts-eq1 c =
    let t = c.self.inside.given in
    let S = system_of t in
    let lemmas = c.self.inside.store in
    let root = root_after S lemmas in
    let facts = c.args.facts.now in
    let l : Lemma = record { facts = facts; hints = c.args.hints.now } in
    let stands : Stands S lemmas l = record {
      facts = c.if-not-names_all.ensures.0 refl;
      hints = subst (λ (n : ℕ). All (IsHint S n) c.args.hints.now) c.len.ensures (c.if-not-names_hints.ensures.0 refl);
      closed = (c.if-not-closes.ensures (with_facts S root facts) (c.add_all.ensures root c.self.invariant.kept)).0 refl;
    } in
    next_replay t c.self.inside.root lemmas c.self.invariant c.add.new.self c.push.new.self l c.in_ok-push.ensures.ok stands
    (after_one t c.add.new.self root facts c.denied.result _ c.if-facts-eq1.true c.denied.ensures.value (c.add.ensures root c.self.invariant.kept))

pub invariant_of-self-else-facts-eq1 : goal.invariant_of-self-else-facts-eq1
invariant_of-self-else-facts-eq1 c =
    let t = c.self.inside.given in
    let S = system_of t in
    let lemmas = c.self.inside.store in
    let root = root_after S lemmas in
    let facts = c.args.facts.now in
    let l : Lemma = record { facts = facts; hints = c.args.hints.now } in
    let stands : Stands S lemmas l = record {
      facts = c.if-not-names_all.ensures.0 refl;
      hints = subst (λ (n : ℕ). All (IsHint S n) c.args.hints.now) c.len.ensures (c.if-not-names_hints.ensures.0 refl);
      closed = (c.if-not-closes.ensures (with_facts S root facts) (c.add_all.ensures root c.self.invariant.kept)).0 refl;
    } in
    next_replay t c.self.inside.root lemmas c.self.invariant c.self.inside.root c.push.new.self l c.in_ok-push.ensures.ok stands
    (after_other t c.self.inside.root root facts c.if-facts-eq1.false c.self.invariant.kept)
