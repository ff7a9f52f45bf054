use Rattle.std.proofs.Common.{◌≡◌, ℕ, ◌+◌, Some, take, ◌∙◌, ◌++◌, ◌∷◌, [], List, ap, sym, subst, arith}
use Rattle.std.specs.List.{slice_get}
use Rattle.bp_base.specs.declared.chain.Claim.{Claim}
use Rattle.bp_base.specs.declared.path.Step.{Step}
use Rattle.bp_base.specs.Tree.{leaf_count}
use Rattle.bp_metric.proofs.Chains.{take_step}
use Rattle.bp_metric.specs.Coordinates.{IsCycleShown}
use Rattle.bp_metric.specs.Metric.{MetricValue}
use Rattle.bp_warm.specs.Warm.{WarmValue}
use Rattle.bp_warm.proofs.Beginnings.{shown_cycle}
use Rattle.bp_warm.proofs.going.on_to.Goals as goal

-- the cycle that a further step closes is one of the path so far
shown_there : (n : ℕ) (path warm : List Step) (k : ℕ) (s : Step) (claim : Claim) → warm ≡ take k path → slice_get path k ≡ Some s → IsCycleShown n (warm ++ s ∷ []) claim → IsCycleShown n (take (k + 1) path) claim
shown_there n path warm k s claim is there shown =
    subst (λ (q : List Step). IsCycleShown n q claim) (ap (λ (q : List Step). q ++ s ∷ []) is ∙ sym (take_step path k s there)) shown

pub shown_for-requires-clause-cycle : goal.shown_for-requires-clause-cycle
shown_for-requires-clause-cycle c =
    (c.loop-k.k + 1, shown_there (leaf_count c.args.metric.now.tree) c.args.path.now c.loop-k.warm.path c.loop-k.k c.at.result c.in-Some.claim c.loop-k.invariant.path c.at.ensures.step (subst (λ (m : MetricValue). IsCycleShown (leaf_count m.tree) (c.loop-k.warm.path ++ c.at.result ∷ []) c.in-Some.claim) (c.loop-k.invariant.metric ∙ sym c.requires.metric) c.in-Some.ensures.cycle))

pub returns-in-Some-clause-stays : goal.returns-in-Some-clause-stays
returns-in-Some-clause-stays c = record {
  k = c.loop-k.k;
  shorter = omega (arith, c.loop-k-test.true, c.len-k-end.ensures.length);
  is = ap (λ (w : WarmValue). w.path) c.in-Some.ensures.added ∙ c.loop-k.invariant.path;
  closes = shown_cycle _ _ c.in-Some.claim (shown_there (leaf_count c.args.warm.now.metric.tree) c.args.path.now c.loop-k.warm.path c.loop-k.k c.at.result c.in-Some.claim c.loop-k.invariant.path c.at.ensures.step (subst (λ (m : MetricValue). IsCycleShown (leaf_count m.tree) (c.loop-k.warm.path ++ c.at.result ∷ []) c.in-Some.claim) c.loop-k.invariant.metric c.in-Some.ensures.cycle));
}

pub returns-in-Some-clause-path : goal.returns-in-Some-clause-path
returns-in-Some-clause-path c =
    shown_cycle _ _ c.shown_for.result (subst (λ (m : MetricValue). IsCycleShown (leaf_count m.tree) c.args.path.now c.shown_for.result) c.requires.metric c.shown_for.ensures)

pub returns-in-Some-clause-cycle : goal.returns-in-Some-clause-cycle
returns-in-Some-clause-cycle c =
    subst (λ (m : MetricValue). IsCycleShown (leaf_count m.tree) c.args.path.now c.shown_for.result) c.requires.metric c.shown_for.ensures

pub loop-k-preserved : goal.loop-k-preserved
loop-k-preserved c = record {
  metric = ap (λ (w : WarmValue). w.metric) c.in_default.ensures.added ∙ c.loop-k.invariant.metric;
  within = omega (arith, c.loop-k-test.true, c.len-k-end.ensures.length);
  path =
      ap (λ (w : WarmValue). w.path) c.in_default.ensures.added
      ∙ ap (λ (q : List Step). q ++ c.at.result ∷ []) c.loop-k.invariant.path
      ∙ sym (take_step c.args.path.now c.loop-k.k c.at.result c.at.ensures.step);
}
