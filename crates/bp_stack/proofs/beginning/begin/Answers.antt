use Rattle.std.proofs.Common.{◌≡◌, List, [], sym, ◌∙◌, subst, ◌++◌, ◌∷◌}
use Rattle.bp_base.specs.declared.record.Record.{Record}
use Rattle.bp_base.specs.declared.record.Task.{Task}
use Rattle.bp_core.specs.Underway.{IsUnderway}
use Rattle.bp_stack.proofs.Beginnings.{starts}
use Rattle.bp_stack.proofs.beginning.begin.Goals as goal

pub returns-clause-underway : goal.returns-clause-underway
returns-clause-underway c = λ B.
    let T = c.args.metric.now.tree in
    let G = c.args.metric.now.sheet in
    let side = c.args.opening.side in
    let points = c.args.opening.points in
    let left : c.push.new.self ≡ (record { path = []; bound = side }) ∷ [] =
    c.in_ok-push.ensures.ok ∙ (λ i. c.new-left.ensures i ++ (record { path = c.empty.ensures i; bound = side }) ∷ []) in
    subst (λ (R : List Record). IsUnderway T G B (record { records = R; left = c.push.new.self; side = side; points = points; examined = 0 })) (sym c.new.ensures)
    (subst (λ (L : List Task). IsUnderway T G B (record { records = []; left = L; side = side; points = points; examined = 0 })) (sym left) (starts T G side points c.requires.opening c.requires.side B))
