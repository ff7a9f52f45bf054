use Rattle.std.proofs.Common.{ℕ, List, ◌∷◌, ◌++◌, sym, ◌∙◌, subst}
use Rattle.std.specs.List.{flat_map}
use Rattle.bp_base.specs.declared.point.Placement.{Placement}
use Rattle.bp_base.specs.declared.record.Record.{Record}
use Rattle.bp_base.specs.declared.record.Task.{Task}
use Rattle.bp_base.specs.Bags.{AreSame}
use Rattle.bp_metric.specs.Valid.{Valid}
use Rattle.bp_opening.proofs.Packing.{opening_valid}
use Rattle.bp_core.specs.Underway.{IsUnderway}
use Rattle.bp_incumbent.specs.Board.{PassView}
use Rattle.bp_incumbent.specs.Side.{IsLeast}
use Rattle.bp_pool.specs.Rows.{pushed_by_all, taken_by_all}
use Rattle.bp_workers.specs.Gathered.{Deeds, IsGathered, come_to}
use Rattle.bp_workers.proofs.Settling.{chosen_valid, none_below}
use Rattle.bp_workers.proofs.Underway.{underway}
use Rattle.bp_workers.proofs.hands.settle.Goals as goal

pub returns : goal.returns
returns c =
    let T = c.args.metric.now.tree in
    let G = c.args.metric.now.sheet in
    let board = c.args.board in
    let opening = c.args.opening in
    let team = c.args.team in
    let q = c.requires.team in
    let e = c.in_ok-closing.ensures in
    let side = c.in_ok-closing.closing.side in
    let drawn = c.in_ok-closing.closing.tickets in
    let left = c.in_ok-gathered.gathered.left.items in
    let passes = team.passes.items in
    let d : Deeds = record {
      taken = taken_by_all team.hands.items;
      pushed = pushed_by_all team.hands.items;
      records = team.records.items;
      kept = team.kept.items;
      tickets = flat_map (λ (p : PassView). p.tickets) passes;
      offers = flat_map (λ (p : PassView). p.offers) passes;
    } in
    let least : IsLeast side opening.side d.offers = subst (λ (v : ℕ). IsLeast side v d.offers) (sym c.requires.budget.1) e.side in
    let gathered : IsGathered T G board.limit d left opening.side side drawn = record {
      opening = record { opening = opening.points; is_opening = c.requires.opening; is_side = c.requires.side };
      worked = q.worked;
      pool = subst (λ (r : Task). AreSame (r ∷ d.pushed) (d.taken ++ left)) q.root_is (c.in_ok-gathered.ensures.same q.pool q.hands);
      least = least;
      seen = none_below side passes e.carried e.none_below;
      numbers = e.tickets;
    } in
    let begun : Valid T G 1 opening.side opening.points = subst (λ (s : ℕ). Valid T G 1 s opening.points) (sym c.requires.side) (opening_valid T G opening.points c.requires.opening) in
    let valid : Valid T G 1 side c.choose-placement.result.points = subst (λ (p : Placement). Valid T G 1 side p.points) (sym c.choose-placement.ensures) (chosen_valid T G opening begun team.best side d.offers least q.best_is) in
    let points = c.choose-placement.result.points in
    let budget = c.args.budget in
    let under : IsUnderway T G budget (come_to budget d left side drawn points) = subst (λ (B : ℕ). IsUnderway T G B (come_to B d left side drawn points)) (sym c.requires.budget.0) (underway T c.leaves-leaves.ensures.metric.tree G board.limit d left opening.side side drawn gathered points valid) in
    subst (λ (n : ℕ). IsUnderway T G budget (record { records = c.from_vec.result; left = c.from_vec-2.result; side = side; points = points; examined = n })) (sym c.min.ensures)
    (subst (λ (L : List Task). IsUnderway T G budget (record { records = c.from_vec.result; left = L; side = side; points = points; examined = (come_to budget d left side drawn points).examined })) (sym (c.from_vec-2.ensures ∙ c.in_ok-append.ensures.items))
    (subst (λ (R : List Record). IsUnderway T G budget (record { records = R; left = left ++ d.kept; side = side; points = points; examined = (come_to budget d left side drawn points).examined })) (sym c.from_vec.ensures) under))
