use Rattle.std.proofs.Common.{◌≡◌, ℕ, ◌+◌, ◌-◌, suc, refl, sym, ◌∙◌, ap, subst, arith}
use Rattle.bp_base.specs.Tree.{IsTree, TreeValue}
use Rattle.bp_made.specs.Made.{CanGrow, Growing, IsMade, after_rounds, grown}
use Rattle.bp_made.proofs.Rounds.{can_grow, is_tree, made, made_leaves, round}
use Rattle.bp_made.proofs.made.made_tree.Goals as goal

pub loop-round-init : goal.loop-round-init
unfolding after_rounds
loop-round-init c = c.in_ok-growth.ensures

pub grow-requires : goal.grow-requires
grow-requires c = subst CanGrow (sym c.loop-round.invariant) (can_grow c.args.seed (c.loop-round._round - 2))

next : (seed round next_round : ℕ) (g h : Growing) → g ≡ after_rounds seed round → h ≡ grown g → next_round ≡ suc round → h ≡ after_rounds seed next_round
unfolding after_rounds
next seed round next_round g h now step is =
    step ∙ ap grown now ∙ sym (ap (after_rounds seed) is)

pub loop-round-preserved : goal.loop-round-preserved
loop-round-preserved c =
    next c.args.seed (c.loop-round._round - 2) (c.loop-round._round + 1 - 2) c.loop-round.growth c.grow.new.self c.loop-round.invariant c.in_ok-grow.ensures (omega (arith, c.loop-round.auto._round))

pub of-requires : goal.of-requires
of-requires c =
    let tree_is = ap (λ (g : Growing). g.tree) (c.growth-2.view_is ∙ c.loop-round.invariant) in
    subst IsTree (sym tree_is) (is_tree (c.loop-round._round - 2) _ (omega (arith, c.loop-round.auto._round-end, c.requires.leaves)) (round c.args.seed (c.loop-round._round - 2)))

made_now : (leaves seed round : ℕ) (T U : TreeValue) (g h : Growing) → T ≡ U → g ≡ h → h ≡ after_rounds seed round → U ≡ g.tree → round + 2 ≡ leaves → IsMade leaves seed T
made_now leaves seed round T U g h value view now is count =
    subst (IsMade leaves seed) (sym (value ∙ is ∙ ap (λ (k : Growing). k.tree) (view ∙ now))) (made leaves seed round count)

pub returns-clause-made : goal.returns-clause-made
returns-clause-made c =
    made_now c.args.leaves c.args.seed (c.loop-round._round - 2) _ _ _ _ c.of.ensures.value c.growth-2.view_is c.loop-round.invariant refl (omega (arith, c.loop-round.auto, c.loop-round-test.false, c.requires.leaves))

pub returns-clause-leaves : goal.returns-clause-leaves
returns-clause-leaves c =
    made_leaves c.args.leaves c.args.seed c.of.result c.requires.leaves.0 (returns-clause-made c)
