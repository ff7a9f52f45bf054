use Rattle.std.proofs.Common.{sym, ◌∙◌, subst}
use Rattle.bp_machine.specs.Facts.{HasFacts}
use Rattle.bp_machine.proofs.Begun.{begun_facts}
use Rattle.bp_machine.proofs.state.State.begin.Goals as goal

pub returns-clause-facts : goal.returns-clause-facts
returns-clause-facts c =
    let M = c.args.metric.now in
    subst (HasFacts M.tree M.sheet) (λ i. record {
      metric = record { tree = sym (c.in_ok-tree.ensures.value ∙ c.tree.ensures.tree) i; sheet = sym c.sheet-sheet.ensures.sheet i };
      hands = sym c.in_ok-fresh_hands.ensures i;
      side = c.args.opening.now.side;
      tickets = 0;
      budget = c.args.budget;
      floor = c.args.floor;
    }) (begun_facts M c.args.opening.now.points c.args.opening.now.side c.args.floor c.args.hands c.args.budget c.requires.opening c.requires.side)
