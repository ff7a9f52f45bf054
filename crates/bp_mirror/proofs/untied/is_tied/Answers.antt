use Rattle.std.proofs.Common.{◌≡◌, ◌≢◌, ℕ, refl, sym, ◌∙◌, ap, not}
use Rattle.std.proofs.lemmas.Bool.{false≢true}
use Rattle.bp_mirror.proofs.Tied.{pairs_leaves, leaves_pairs}
use Rattle.bp_mirror.proofs.untied.is_tied.Goals as goal

pub returns-then-not-is_on_axis : goal.returns-then-not-is_on_axis
returns-then-not-is_on_axis c = (
  λ is. record {
    pair = c.if-ties_pairs_of.ensures.0 refl;
    axis = λ on. absurd (false≢true (ap not (sym (c.is_on_axis.ensures.1 (leaves_pairs (λ (i : ℕ). i ≢ c.args.leaf) c.args.pairs.now on))) ∙ is));
  },
  λ tied. ap not c.if-not-is_on_axis.true,
)

pub returns-else-not-is_on_axis : goal.returns-else-not-is_on_axis
returns-else-not-is_on_axis c = (
  λ is. record {
    pair = c.if-ties_pairs_of.ensures.0 refl;
    axis = λ on. c.ties_leaf.ensures.0 is;
  },
  λ tied. c.ties_leaf.ensures.1 (tied.axis (pairs_leaves (λ (i : ℕ). i ≢ c.args.leaf) c.args.pairs.now (c.if-not-is_on_axis.ensures.0 refl))),
)
