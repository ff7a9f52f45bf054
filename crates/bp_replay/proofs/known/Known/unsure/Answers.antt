use Rattle.std.proofs.Common.{◌<◌, length, take, sym, ◌∙◌, subst, arith}
use Rattle.std.proofs.lemmas.List.{get_or-map, length-map}
use Rattle.bp_base.specs.declared.point.Axis.TheVariants.{X}
use Rattle.bp_arrangement.specs.declared.fact.Fact.TheVariants.{Least}
use Rattle.bp_lemmas.specs.Knowledge.{unsure}
use Rattle.bp_lemmas.specs.Standing.{IsNamed}
use Rattle.bp_replay.specs.Tasks.{system_of}
use Rattle.bp_replay.specs.Kept.{IsLeft}
use Rattle.bp_replay.specs.Stored.{fact_of, facts_in}
use Rattle.bp_replay.proofs.Applied.{unsure_step}
use Rattle.bp_replay.proofs.known.Known.unsure.Goals as goal

pub is_sure-requires-clause-named : goal.is_sure-requires-clause-named
is_sure-requires-clause-named c =
    let facts = c.args.facts.now in
    let within : c.loop-k.k < length facts = omega (arith, c.loop-k-test.true) in
    let mapped : c.loop-k.k < length (facts_in facts) = omega (arith, within, length-map facts fact_of) in
    subst (IsNamed (system_of c.args.given.now)) (get_or-map fact_of facts c.loop-k.k _ (Least X 0 0) within ∙ sym c.unpacked-fact.ensures) (c.requires.named c.loop-k.k (Least X 0 0) mapped)

pub loop-k-preserved : goal.loop-k-preserved
loop-k-preserved c =
    let t = c.args.given.now in
    let facts = c.args.facts.now in
    let within : c.loop-k.k < length facts = omega (arith, c.loop-k-test.true) in
    let mapped : c.loop-k.k < length (facts_in facts) = omega (arith, within, length-map facts fact_of) in
    let named : IsNamed (system_of t) c.unpacked-fact.result =
    subst (IsNamed (system_of t)) (get_or-map fact_of facts c.loop-k.k _ (Least X 0 0) within ∙ sym c.unpacked-fact.ensures) (c.requires.named c.loop-k.k (Least X 0 0) mapped) in (
      λ K keeps whole.
          subst (IsLeft c.counted-left.result) (sym (unsure_step (system_of t) K facts c.loop-k.k _ c.is_sure.result c.unpacked-fact.result within c.unpacked-fact.ensures (c.is_sure.ensures K keeps whole)))
          (c.counted-left.ensures.left (unsure (system_of t) K (facts_in (take c.loop-k.k facts))) (c.loop-k.invariant.0 K keeps whole)),
      c.counted-left.ensures.named t named c.loop-k.invariant.1,
    )
