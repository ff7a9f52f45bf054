use Rattle.std.proofs.Common.{◌≡◌, ℕ, ◌≤◌, List, length, All, sym, ap, ◌∙◌, subst, arith, vec_len, vec_capacity}
use Rattle.bp_base.specs.declared.record.Task.{Task}
use Rattle.bp_base.specs.Tree.{leaf_count}
use Rattle.bp_pool.specs.Shares.{IsTaskOf}
use Rattle.bp_turn.specs.Turns.{IsFoundOrCyclic, tasks_of}
use Rattle.bp_workers.proofs.Examined.{born_good, judged_keeps}
use Rattle.bp_workers.proofs.Steps.{all_last}
use Rattle.bp_workers.proofs.Turned.{pairs_differ, tasks_few}
use Rattle.bp_workers.proofs.worker.Worker.examine.Goals as goal

pub judge_any-requires-clause-differ : goal.judge_any-requires-clause-differ
judge_any-requires-clause-differ c =
    let k = c.requires.drawn.4 in
    pairs_differ c.args.task.path (all_last (IsTaskOf (leaf_count c.args.metric.now.tree)) c.args.self.now.kept.items c.args.task k.of_pairs).different

pub place-requires-clause-room : goal.place-requires-clause-room
place-requires-clause-room c =
    let few : length c.judge_any.new.children ≤ 4 = subst (λ (xs : List Task). length xs ≤ 4) (sym c.in_ok-kind.ensures.children) (tasks_few c.args.metric.now.tree c.args.metric.now.sheet c.args.task.path c.min-bound.result c.in_ok-kind.kind) in
    omega (arith, few, c.requires.room.1, ap (λ v. vec_len v) c.offer.ensures.same.3, ap (λ v. vec_capacity v) c.offer.ensures.same.3)

pub place-requires-clause-pairs : goal.place-requires-clause-pairs
place-requires-clause-pairs c =
    let T = c.args.metric.now.tree in
    let G = c.args.metric.now.sheet in
    let w = c.args.self.now in
    let d = c.requires.drawn in
    let e = c.in_ok-kind.ensures in
    let kind = c.in_ok-kind.kind in
    let placement = c.in_ok-kind.placement in
    let path = c.args.task.path in
    let born = c.judge_any.new.children in
    subst (λ (n : ℕ). All (IsTaskOf n) born) (sym (ap (λ h. h.pool.leaves) c.offer.ensures.same.0 ∙ d.4.of_leaves))
    (born_good T c.leaves-leaves.ensures.metric.tree G c.args.board.now w.hand d.0 w.records.items w.kept.items w.best path c.args.task.bound c.args.side c.args.ticket d.3 d.2 d.4 kind placement (subst (λ (b : ℕ). IsFoundOrCyclic T G path b kind placement) c.min-bound.ensures e.found) born (subst (λ (b : ℕ). born ≡ tasks_of T G path b kind) c.min-bound.ensures e.children))

pub returns-clause-agrees : goal.returns-clause-agrees
returns-clause-agrees c =
    let T = c.args.metric.now.tree in
    let G = c.args.metric.now.sheet in
    let w = c.args.self.now in
    let o = c.offer.new.self in
    let d = c.requires.drawn in
    let e = c.in_ok-kind.ensures in
    c.place.ensures.agrees T G c.args.board.now
    (judged_keeps T c.leaves-leaves.ensures.metric.tree G c.args.board.now w.hand w.pass d.0 w.records.items w.kept.items w.best c.args.task.path c.args.task.bound c.args.side c.args.ticket c.min-bound.result c.min-bound.ensures d.1 d.2 d.3 d.4 c.in_ok-kind.kind c.in_ok-kind.placement e.found e.valid c.judge_any.new.children e.children o.hand o.pass o.records.items o.kept.items o.best c.offer.ensures.same.0 c.offer.ensures.pass (ap (λ v. v.items) c.offer.ensures.same.2 ∙ c.push_reserved.ensures.items) (ap (λ v. v.items) c.offer.ensures.same.3) c.offer.ensures.best)
