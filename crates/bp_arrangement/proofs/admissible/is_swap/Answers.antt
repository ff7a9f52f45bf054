use Rattle.std.proofs.Common.{refl, sym, arith}
use Rattle.std.proofs.lemmas.Bool.{false≢true, eqb-false}
use Rattle.bp_arrangement.proofs.Deciding.{leaves_from, leaves_to, swap_from}
use Rattle.bp_arrangement.proofs.admissible.is_swap.Goals as goal

pub returns-then-not-are_leaves : goal.returns-then-not-are_leaves
returns-then-not-are_leaves c = (
  λ never. absurd (false≢true never),
  λ s. c.if-not-are_leaves.ensures.1 (leaves_to c.args.metric.now.tree _ c.args.swap.now c.leaves.ensures.count s.leaves),
)

pub keeps_distances-requires : goal.keeps_distances-requires
keeps_distances-requires c =
    leaves_from c.args.metric.now.tree _ c.args.swap.now c.leaves.ensures.count (c.if-not-are_leaves.ensures.0 refl)

pub returns : goal.returns
returns c = (
  λ is. swap_from c.args.metric.now.tree _ c.args.swap.now c.leaves.ensures.count (omega (arith, eqb-false _ _ (sym c.if-is_empty.ensures))) (omega (arith, c.if-swap-gt16.false)) (c.if-not-are_leaves.ensures.0 refl) (c.if-not-are_different.ensures.0 refl) (c.keeps_distances.ensures.0 is),
  λ s. c.keeps_distances.ensures.1 (λ i i_leaf j j_leaf. s.keeps i j i_leaf j_leaf),
)
