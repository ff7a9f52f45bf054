use Rattle.std.proofs.Common.{◌≡◌, refl, arith, subst, All}
use Rattle.std.proofs.lemmas.List.{take_all}
use Rattle.std.proofs.lemmas.List.Elements.{All-more}
use Rattle.bp_base.specs.declared.path.Pair.{Pair}
use Rattle.bp_mirror.specs.Mirrored.{TiesPair}
use Rattle.bp_mirror.proofs.untied.ties_pairs_of.Goals as goal
use Rattle.bp_mirror.proofs.untied.ties_pairs_of.Goals.{else-pair-left-via-then-pair-left+else-not-ties_pair, else-pair-left-via-else-pair-left}

pub loop-pair-preserved : goal.loop-pair-preserved
loop-pair-preserved c =
    All-more (λ (p : Pair). p.i ≡ c.args.left → TiesPair c.args.kind c.args.side c.args.points.now p) c.args.pairs.now c.loop-pair.pair-index _ c.loop-pair-test.true c.loop-pair.invariant (λ same. elim c.else-pair-left.branch [
      | else-pair-left-via-then-pair-left+else-not-ties_pair w ↦ w.if-not-ties_pair.ensures.0 refl
      | else-pair-left-via-else-pair-left w ↦ absurd (w.if-pair-left.false same)
    ])

pub returns : goal.returns
returns c = (
  λ is. subst (All (λ (p : Pair). p.i ≡ c.args.left → TiesPair c.args.kind c.args.side c.args.points.now p)) (take_all c.loop-pair.pair-index c.args.pairs.now (omega (arith, c.loop-pair-test.false))) c.loop-pair.invariant,
  λ each. refl,
)
