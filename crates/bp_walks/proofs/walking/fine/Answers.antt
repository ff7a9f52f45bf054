use Rattle.std.proofs.Common.{◌≡◌, ◌+◌, ◌-◌, ◌<◌, ◌∙◌, ℕ, take, drop, get_or, sym, ap, subst, inl, inr, arith}
use Rattle.bp_base.specs.declared.point.Axis.TheVariants.{X, Y}
use Rattle.bp_base.specs.declared.point.Sheet.{Sheet}
use Rattle.bp_base.specs.Tree.{leaf_count}
use Rattle.bp_metric.specs.Coordinates.{IsForcedBy}
use Rattle.bp_walks.specs.Lows.{ShowsLeaf}
use Rattle.bp_walks.proofs.Fine.{low_at, exact_at, kept_of, fine_least}
use Rattle.bp_walks.proofs.walking.fine.Goals as goal
use Rattle.bp_walks.proofs.walking.fine.Goals.{in-X, in-Y}

pub returns : goal.returns
returns c =
    let shorter : c.leaves-n.result + 1 - 1 ≡ c.leaves-n.result = omega arith in
    let few : leaf_count c.args.metric.now.tree < 33 = omega (arith, c.leaves-n.ensures.metric.tree.leaves_few) in
    fine_least c.args.metric.now.tree c.leaves-n.ensures.metric.tree c.args.path.now c.requires.pairs (low_at c.args.xs.now) (low_at c.args.ys.now) (exact_at c.args.metric.now.tree c.args.path.now X c.args.xs.now c.requires.xs) (exact_at c.args.metric.now.tree c.args.path.now Y c.args.ys.now c.requires.ys) c.greatest_leaf-x.result c.greatest_leaf-y.result
    (record {
      leaf = (c.greatest_leaf-x.ensures.leaf.0, omega (arith, c.greatest_leaf-x.ensures.leaf.1, c.leaves-n.ensures.count));
      greatest = λ i from to. c.greatest_leaf-x.ensures.greatest i from (omega (arith, to, c.leaves-n.ensures.count));
      first = c.greatest_leaf-x.ensures.first;
    })
    (record {
      leaf = (c.greatest_leaf-y.ensures.leaf.0, omega (arith, c.greatest_leaf-y.ensures.leaf.1, c.leaves-n.ensures.count));
      greatest = λ i from to. c.greatest_leaf-y.ensures.greatest i from (omega (arith, to, c.leaves-n.ensures.count));
      first = c.greatest_leaf-y.ensures.first;
    })
    c.args.metric.now.sheet c.judge_greatest-judged.result.axis c.judge_greatest-judged.result.forced c.from_vec.result c.from_vec-2.result c.match-judged.chain
    (subst (λ (G : Sheet). IsForcedBy G (get_or c.args.xs.now c.greatest_leaf-x.result 0) (get_or c.args.ys.now c.greatest_leaf-y.result 0) c.judge_greatest-judged.result.axis c.judge_greatest-judged.result.forced) c.sheet.ensures.sheet c.judge_greatest-judged.ensures)
    (elim c.match-judged.branch [
      | in-X w ↦ inl (subst (ShowsLeaf c.args.metric.now.tree c.args.path.now c.judge_greatest-judged.result.axis c.greatest_leaf-x.result) (sym w.chain-is) w.shown_chain-chain.ensures, w.in-X.is)
      | in-Y w ↦ inr (subst (ShowsLeaf c.args.metric.now.tree c.args.path.now c.judge_greatest-judged.result.axis c.greatest_leaf-y.result) (sym w.chain-is) w.shown_chain-chain-in-Y.ensures, w.in-Y.is)
    ])
    (kept_of (leaf_count c.args.metric.now.tree) c.leaves-n.result c.args.xs.now c.from_vec.result c.requires.xs.each few c.leaves-n.ensures.count (c.from_vec.ensures ∙ c.in_ok-from_slice.ensures.items ∙ ap (λ (k : ℕ). take k (drop 1 c.args.xs.now)) shorter))
    (kept_of (leaf_count c.args.metric.now.tree) c.leaves-n.result c.args.ys.now c.from_vec-2.result c.requires.ys.each few c.leaves-n.ensures.count (c.from_vec-2.ensures ∙ c.in_ok-from_slice-2.ensures.items ∙ ap (λ (k : ℕ). take k (drop 1 c.args.ys.now)) shorter))
