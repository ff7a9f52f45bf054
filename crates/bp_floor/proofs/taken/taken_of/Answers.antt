use Rattle.std.proofs.Common.{ℕ, Bool, ◌+◌, ◌-◌, List, true, false, ◌≡◌, sym, ◌∙◌, ap, subst, arith, nat_le, Vec, Global}
use Rattle.std.specs.List.{list_all}
use Rattle.bp_metric.specs.Distance.{leaf_dist}
use Rattle.bp_floor.proofs.Walks.{taken_yes, taken_no, taken_all}
use Rattle.bp_floor.proofs.taken.taken_of.Goals as goal
use Rattle.bp_floor.proofs.taken.taken_of.Goals.{then-is_apart+in_ok-push, else-is_apart}

pub loop-leaf-preserved : goal.loop-leaf-preserved
loop-leaf-preserved c =
    let T = c.args.metric.now.tree in
    let leaf = c.loop-leaf.leaf in
    let here : leaf ≡ leaf - 1 + 1 = omega (arith, c.loop-leaf.auto.leaf) in
    let next : leaf + 1 - 1 ≡ leaf - 1 + 1 = omega (arith, c.loop-leaf.auto.leaf) in
    let P : List ℕ → Bool → Type 0 = λ ls b. list_all (λ k. nat_le c.args.m (leaf_dist T k leaf)) ls ≡ b in
    elim c.if-is_apart.branch [
      | then-is_apart+in_ok-push w ↦
          let passes = subst (λ (ls : List ℕ). P ls true) c.deref.ensures.value (sym w.if-is_apart.ensures) in
          let new = ap (λ (v : Vec ℕ Global). v.items) w.leaves-is ∙ w.in_ok-push.ensures.items in
          taken_yes T c.args.m (leaf - 1) (leaf + 1 - 1) leaf c.loop-leaf.leaves.items c.if-is_apart.leaves.items here next c.loop-leaf.invariant.0 c.loop-leaf.invariant.1 passes new
      | else-is_apart w ↦
          let fails = subst (λ (ls : List ℕ). P ls false) c.deref.ensures.value (sym w.if-is_apart.ensures) in
          let new = ap (λ (v : Vec ℕ Global). v.items) w.leaves-is in
          taken_no T c.args.m (leaf - 1) (leaf + 1 - 1) leaf c.loop-leaf.leaves.items c.if-is_apart.leaves.items here next c.loop-leaf.invariant.0 c.loop-leaf.invariant.1 fails new
    ]

pub returns-clause-is : goal.returns-clause-is
returns-clause-is c =
    taken_all c.args.metric.now.tree c.args.m (c.loop-leaf.leaf - 1) c.loop-leaf.leaves.items c.loop-leaf.invariant.0 (omega (arith, c.loop-leaf-test.false, c.loop-leaf.auto.leaf-end, c.loop-leaf.auto.leaf, c.leaves-count.ensures.count))
