use Rattle.std.proofs.Common.{◌≡◌, ℕ, refl, sym, subst, arith, inl, inr}
use Rattle.std.proofs.lemmas.Bool.{cases_eq, false≢true}
use Rattle.bp_mirror.specs.Flaws.{IsTied}
use Rattle.bp_mirror.proofs.Tied.{all_places, mirrored_from, mirrored_to}
use Rattle.bp_mirror.proofs.untied.first_flaw.Goals as goal

pub is_tied-requires-clause-pairs : goal.is_tied-requires-clause-pairs
is_tied-requires-clause-pairs c =
    all_places c.args.metric.now.tree c.args.pairs.now _ c.requires.points c.requires.mirror

pub returns-then-not-is_tied-clause-first : goal.returns-then-not-is_tied-clause-first
returns-then-not-is_tied-clause-first c = record {
  leaf = (omega (arith, c.loop-leaf.auto.leaf), omega (arith, c.loop-leaf-test.true, c.leaves-leaf-end.ensures.count));
  untied = λ tied. false≢true (c.if-not-is_tied.ensures.1 tied);
  earlier = λ i leaf less. c.loop-leaf.invariant i leaf.0 less;
}

pub returns-then-not-is_tied-clause-mirrored : goal.returns-then-not-is_tied-clause-mirrored
returns-then-not-is_tied-clause-mirrored c q valid = (
  λ some. absurd (false≢true (sym some)),
  λ m. absurd (false≢true (c.if-not-is_tied.ensures.1 (mirrored_to c.args.metric.now.tree c.args.kind c.args.pairs.now q c.args.side c.args.points.now m c.loop-leaf.leaf (omega (arith, c.loop-leaf.auto.leaf), omega (arith, c.loop-leaf-test.true, c.leaves-leaf-end.ensures.count))))),
)

pub loop-leaf-preserved : goal.loop-leaf-preserved
loop-leaf-preserved c k from less = elim (cases_eq k c.loop-leaf.leaf) [
  | inl is ↦ subst (IsTied c.args.kind c.args.pairs.now c.args.side c.args.points.now) (sym is) (c.if-not-is_tied.ensures.0 refl)
  | inr not ↦ c.loop-leaf.invariant k from (omega (arith, less, not))
]

pub returns-clause-first : goal.returns-clause-first
returns-clause-first c k leaf =
    c.loop-leaf.invariant k leaf.0 (omega (arith, leaf.1, c.loop-leaf-test.false, c.leaves-leaf-end.ensures.count))

pub returns-clause-mirrored : goal.returns-clause-mirrored
returns-clause-mirrored c q valid = (
  λ none. mirrored_from c.args.metric.now.tree c.args.kind c.args.pairs.now q c.args.side c.args.points.now c.requires.mirror valid (λ k leaf. c.loop-leaf.invariant k leaf.0 (omega (arith, leaf.1, c.loop-leaf-test.false, c.leaves-leaf-end.ensures.count))),
  λ m. refl,
)
