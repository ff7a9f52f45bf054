use Rattle.std.proofs.Common.{◌+◌, List, [], ◌∷◌, ◌++◌, sym, subst}
use Rattle.bp_base.specs.declared.record.Record.{Record}
use Rattle.bp_base.specs.declared.record.Settled.{Settled}
use Rattle.bp_base.specs.declared.record.Task.{Task}
use Rattle.bp_stack.specs.Turns.{IsOnItsWay, followed, recorded}
use Rattle.bp_stack.proofs.Turned.{taken_branch, taken_small, turned}
use Rattle.bp_stack.proofs.turns.work_on.Goals as goal

pub examine-requires-clause-branch : goal.examine-requires-clause-branch
examine-requires-clause-branch c =
    taken_branch c.args.metric.now.tree c.args.metric.now.sheet c.leaves-leaves.ensures.metric.tree c.args.search.now c.args.task.path c.args.task.bound c.requires.taken

pub examine-requires-clause-bound : goal.examine-requires-clause-bound
examine-requires-clause-bound c =
    taken_small c.args.metric.now.tree c.args.metric.now.sheet c.leaves-leaves.ensures.metric.tree c.args.search.now c.args.task.path c.args.task.bound c.requires.taken

pub returns-clause-underway : goal.returns-clause-underway
returns-clause-underway c =
    let T = c.args.metric.now.tree in
    let G = c.args.metric.now.sheet in
    let Z = c.args.search.now in
    let Y = c.place.new.search in
    let turn = c.in_ok-turn.turn in
    let children = c.examine.new.children in
    let way : IsOnItsWay T G (followed Z turn.record turn.placement children) =
    turned T G c.leaves-leaves.ensures.metric.tree Z c.args.task.path c.args.task.bound c.requires.taken children turn c.in_ok-turn.ensures.turn c.in_ok-turn.ensures.valid in
    subst (λ (R : List Record). IsOnItsWay T G (record { records = R; left = c.stack.new.left; side = Y.side; points = Y.points; examined = Y.examined + 1 })) (sym c.in_ok-push.ensures.ok)
    (subst (λ (L : List Task). IsOnItsWay T G (record { records = Y.records ++ turn.record ∷ []; left = L; side = Y.side; points = Y.points; examined = Y.examined + 1 })) (sym c.in_ok-stack.ensures.left)
    (subst (λ (W : Settled). IsOnItsWay T G (recorded W turn.record children)) (sym c.place.ensures) way))
