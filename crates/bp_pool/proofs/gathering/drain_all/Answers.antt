use Rattle.std.proofs.Common.{◌≡◌, ℕ, All, subst}
use Rattle.crossbeam_deque.specs.Handles.{worker_view}
use Rattle.bp_pool.specs.Shares.{IsTaskOf}
use Rattle.bp_pool.specs.Kept.{Deque}
use Rattle.bp_pool.specs.Rows.{IsFull}
use Rattle.bp_pool.proofs.Lays.{last_all}
use Rattle.bp_pool.proofs.Parts.{drained_more}
use Rattle.bp_pool.proofs.gathering.drain_all.Goals as goal

pub drain-requires : goal.drain-requires
drain-requires c = let w = (last_all IsFull c.pop.new.self.items c.in-Some.owner (subst (All IsFull) c.in-Some.ensures.items c.loop-owner.invariant.full)).1 in (w.1, w.0)

pub loop-owner-preserved : goal.loop-owner-preserved
loop-owner-preserved c =
    let inv = c.loop-owner.invariant in
    let us = c.pop.new.self.items in
    let w = c.in-Some.owner in
    let is = c.in-Some.ensures.items in
    record {
      full = (last_all IsFull us w (subst (All IsFull) is inv.full)).0;
      same = λ h. drained_more h c.args.owners.items c.loop-owner.owners.items us w c.loop-owner.left.items c.drain.new.left.items is (c.in_ok-drain.ensures.same h) (inv.same h);
      good = λ leaves all.
          let was = inv.good leaves all in
          let P : Deque → Type 0 = λ w. (worker_view w).facts.leaves ≡ leaves in
          let ours = last_all P us w (subst (All P) is was.0) in
          (ours.0, subst (λ (n : ℕ). All (IsTaskOf n) c.loop-owner.left.items → All (IsTaskOf n) c.drain.new.left.items) ours.1 c.in_ok-drain.ensures.good was.1);
    }

pub returns-clause-good : goal.returns-clause-good
returns-clause-good c = λ leaves all. (c.loop-owner.invariant.good leaves all).1
