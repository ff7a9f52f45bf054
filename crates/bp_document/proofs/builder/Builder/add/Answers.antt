use Rattle.std.proofs.Common.{◌≡◌, ◌++◌, ◌∷◌, [], List, ◌∙◌, ap, sym, subst, refl, Ok}
use Rattle.bp_base.specs.declared.chain.Claim.{Claim}
use Rattle.bp_base.specs.declared.refutation.Refutation.{Refutation}
use Rattle.bp_document.specs.declared.node_line.NodeLine.{NodeLine}
use Rattle.bp_document.specs.Told.{node_at}
use Rattle.bp_document.specs.Built.{Adds, Puts}
use Rattle.bp_document.proofs.Builders.{adds_split, adds_closed, adds_open}
use Rattle.bp_document.proofs.builder.Builder.add.Goals as goal

pub returns-in_ok-push-in-Split : goal.returns-in_ok-push-in-Split
returns-in_ok-push-in-Split c =
    let new : c.push.new.self.items ≡ c.close_to.new.self.branches.items ++ (record { pair = c.in-Split.pair; children = [] }) ∷ [] =
    c.in_ok-push-in-Split.ensures.items ∙ ap (λ (cs : List Refutation). c.close_to.new.self.branches.items ++ (record { pair = c.in-Split.pair; children = cs }) ∷ []) c.new-children.ensures in
    subst (λ (l : NodeLine). Adds c.args.self.now l (record { branches = c.push.new.self; root = c.close_to.new.self.root }) (Ok tt)) (ap (node_at c.args.node.depth) (sym c.in-Split.is))
    (adds_split c.args.self.now c.close_to.new.self c.args.node.depth c.in-Split.pair [] (record { branches = c.push.new.self; root = c.close_to.new.self.root }) c.in_ok-close_to.ensures refl new)

pub returns-in-Closed : goal.returns-in-Closed
returns-in-Closed c =
    subst (λ (l : NodeLine). Adds c.args.self.now l c.put.new.self c.put.result) (ap (node_at c.args.node.depth) (sym c.in-Closed.is))
    (adds_closed c.args.self.now c.close_to.new.self c.put.new.self c.args.node.depth c.in-Closed.claim c.put.result c.in_ok-close_to.ensures (subst (λ (claim : Claim). Puts c.close_to.new.self (Refutation.Closed claim) c.put.new.self c.put.result) c.in-Closed.claim-is c.put.ensures))

pub returns-in-Open : goal.returns-in-Open
returns-in-Open c =
    subst (λ (l : NodeLine). Adds c.args.self.now l c.put-in-Open.new.self c.put-in-Open.result) (ap (node_at c.args.node.depth) (sym c.in-Open.is))
    (adds_open c.args.self.now c.close_to.new.self c.put-in-Open.new.self c.args.node.depth c.in-Open.claim c.put-in-Open.result c.in_ok-close_to.ensures (subst (λ (claim : Claim). Puts c.close_to.new.self (Refutation.Open claim) c.put-in-Open.new.self c.put-in-Open.result) c.in-Open.claim-is c.put-in-Open.ensures))
