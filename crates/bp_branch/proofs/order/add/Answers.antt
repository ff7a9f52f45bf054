use Rattle.std.proofs.Common.{ℕ, ◌<◌, ◌≤◌, List, length, get_or, subst}
use Rattle.bp_base.specs.declared.path.Pair.{Pair}
use Rattle.bp_metric.specs.Distance.{leaf_dist}
use Rattle.bp_branch.proofs.Ordered.{order_more}
use Rattle.bp_branch.proofs.order.add.Goals as goal

pub returns : goal.returns
returns c =
    let T = c.args.metric.now.tree in
    let p = c.args.pair in
    let k = c.place_of-place.result in
    let e = c.deref.ensures.value in
    order_more T c.args.pairs.now.items c.insert.new.self.items p k c.requires.pair c.requires.ordered
    (subst (λ (l : List Pair). k ≤ length l) e c.place_of-place.ensures.within)
    (subst (λ (l : List Pair). (m : ℕ) (d : Pair) → m < k → leaf_dist T p.i p.j ≤ leaf_dist T (get_or l m d).i (get_or l m d).j) e c.place_of-place.ensures.before)
    (subst (λ (l : List Pair). (d : Pair) → k < length l → leaf_dist T (get_or l k d).i (get_or l k d).j < leaf_dist T p.i p.j) e c.place_of-place.ensures.there)
    c.in_ok-insert.ensures.items
