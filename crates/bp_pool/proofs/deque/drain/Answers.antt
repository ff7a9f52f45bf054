use Rattle.std.proofs.Common.{[], ◌∷◌, arith, length, ap, ◌∙◌, subst, sym, All, refl}
use Rattle.std.specs.List.{sum_by}
use Rattle.std.proofs.lemmas.List.Sums.{sum_by-append}
use Rattle.std.proofs.lemmas.List.Elements.{All-append}
use Rattle.crossbeam_deque.specs.Handles.{worker_view}
use Rattle.bp_base.specs.declared.record.Task.{Task}
use Rattle.bp_pool.specs.declared.deque.Facts.{Facts}
use Rattle.bp_pool.specs.Shares.{pushed_of, taken_of, IsTaskOf}
use Rattle.bp_pool.proofs.Deques.{taking, taking_pushes, taken_count, All_one}
use Rattle.bp_pool.proofs.deque.drain.Goals as goal

pub loop-task-preserved : goal.loop-task-preserved
loop-task-preserved c =
    let was = c.loop-task.invariant in
    let old = worker_view c.loop-task.owner in
    let t : Task = c.in-Some.task in
    let is = c.in-Some.ensures.done.0 in
    let first = c.args.left.now.items in
    let taken = taken_of (worker_view c.args.owner.now) in
    record {
      lifo = omega arith;
      all = (omega (arith, ap (λ v. length v.deeds) is, taken_count old.deeds (t ∷ []), was.all.0), omega (arith, ap (λ v. length v.deeds) is, ap (λ v. v.facts.total) is, taken_count old.deeds (t ∷ []), was.all.1));
      pushed = λ h. ap (λ v. sum_by h (pushed_of v)) is ∙ taking_pushes h old.deeds (t ∷ []) ∙ was.pushed h;
      taken = λ h. omega (
        arith,
        ap (λ v. sum_by h (taken_of v)) is,
        taking h old.deeds (t ∷ []) was.all.0,
        was.taken h,
        sum_by-append h first (taken_of old),
        sum_by-append h first (taken_of (worker_view c.pop.new.owner)),
        sum_by-append h taken c.loop-task.left.items,
        sum_by-append h taken c.reserve-in-Some.new.self.items,
        ap (sum_by h) c.in_ok-reserve-2.ensures.items,
        ap (sum_by h) c.push_reserved.ensures.items,
        sum_by-append h c.loop-task.left.items (t ∷ []),
      );
      facts = ap (λ v. v.facts) is ∙ was.facts;
      good = λ before. let P : Task → Type 0 = IsTaskOf (worker_view c.args.owner.now).facts.leaves in
          subst (All P) (sym (c.in_ok-reserve-2.ensures.items ∙ c.push_reserved.ensures.items))
          (All-append P c.loop-task.left.items (t ∷ []) (was.good before) (subst (λ (f : Facts). All (IsTaskOf f.leaves) (t ∷ [])) was.facts (All_one (IsTaskOf old.facts.leaves) t c.in-Some.ensures.done.1)));
      room = omega (arith, c.in_ok-reserve-2.ensures.ok);
    }

pub loop-task-init : goal.loop-task-init
loop-task-init c =
    let first = c.args.left.now.items in
    let taken = taken_of (worker_view c.args.owner.now) in
    let items = c.in_ok-reserve.ensures.items in
    record {
      lifo = c.requires.1;
      all = c.requires.0;
      pushed = λ h. refl;
      taken = λ h. omega (arith, sum_by-append h first taken, sum_by-append h taken c.reserve.new.self.items, ap (sum_by h) items);
      facts = refl;
      good = λ before. subst (All (IsTaskOf (worker_view c.args.owner.now).facts.leaves)) (sym items) before;
      room = omega (arith, c.in_ok-reserve.ensures.ok);
    }
