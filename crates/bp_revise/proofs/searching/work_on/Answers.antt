use Rattle.std.proofs.Common.{◌+◌, List, [], ◌∷◌, ◌++◌, reverse, sym, subst}
use Rattle.bp_base.specs.declared.record.Record.{Record}
use Rattle.bp_base.specs.declared.record.Settled.{Settled}
use Rattle.bp_base.specs.declared.record.Task.{Task}
use Rattle.bp_revise.specs.Course.{IsOnCourse, placed}
use Rattle.bp_revise.proofs.Courses.{bound_small, hand_pairs, placed_same, turned}
use Rattle.bp_revise.proofs.searching.work_on.Goals as goal

pub judge_any-requires-clause-pairs : goal.judge_any-requires-clause-pairs
judge_any-requires-clause-pairs c =
    let h = c.requires.course in
    (hand_pairs c.args.metric.now.tree c.args.metric.now.sheet c.leaves-leaves.ensures.metric.tree h.0 h.1 h.2 c.args.search.now c.args.task.path c.args.task.bound h.4).pairs

pub judge_any-requires-clause-differ : goal.judge_any-requires-clause-differ
judge_any-requires-clause-differ c =
    let h = c.requires.course in
    (hand_pairs c.args.metric.now.tree c.args.metric.now.sheet c.leaves-leaves.ensures.metric.tree h.0 h.1 h.2 c.args.search.now c.args.task.path c.args.task.bound h.4).differ

pub judge_any-requires-clause-bound : goal.judge_any-requires-clause-bound
judge_any-requires-clause-bound c =
    let h = c.requires.course in
    bound_small c.args.metric.now.tree c.args.metric.now.sheet c.leaves-leaves.ensures.metric.tree h.0 h.1 h.2 c.args.search.now c.args.task.path c.args.task.bound h.4 h.3

pub returns-clause-course : goal.returns-clause-course
returns-clause-course c = λ start base roots taken.
    let T = c.args.metric.now.tree in
    let G = c.args.metric.now.sheet in
    let Z = c.args.search.now in
    let Y = c.place.new.search in
    let kind = c.in_ok-found.found.0 in
    let placement = c.in_ok-found.found.1 in
    let path = c.args.task.path in
    let given = c.args.task.bound in
    let own : Record = record { path = path; kind = kind; ticket = Z.examined; given = given; bound = Z.side } in
    let tasks = c.judge_any.new.children in
    let way : IsOnCourse T G start base roots (record { records = Z.records ++ own ∷ []; left = Z.left ++ reverse tasks; side = (placed Z placement).side; points = (placed Z placement).points; examined = Z.examined + 1 }) =
    subst (λ (ts : List Task). IsOnCourse T G start base roots (record { records = Z.records ++ own ∷ []; left = Z.left ++ reverse ts; side = (placed Z placement).side; points = (placed Z placement).points; examined = Z.examined + 1 })) (sym c.in_ok-found.ensures.children)
    (turned T G c.leaves-leaves.ensures.metric.tree start base roots Z path given taken kind placement c.in_ok-found.ensures.found c.in_ok-found.ensures.valid) in
    let same : Settled → Settled = λ W. record { records = W.records ++ own ∷ []; left = W.left ++ reverse tasks; side = W.side; points = W.points; examined = W.examined + 1 } in
    subst (λ (R : List Record). IsOnCourse T G start base roots (record { records = R; left = c.stack.new.left; side = Y.side; points = Y.points; examined = Y.examined + 1 })) (sym c.in_ok-push.ensures.ok)
    (subst (λ (L : List Task). IsOnCourse T G start base roots (record { records = Y.records ++ own ∷ []; left = L; side = Y.side; points = Y.points; examined = Y.examined + 1 })) (sym c.in_ok-stack.ensures.left)
    (subst (λ (W : Settled). IsOnCourse T G start base roots (same W)) (sym c.place.ensures) (placed_same T G start base roots Z own tasks placement way)))
