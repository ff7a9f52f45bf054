use Rattle.std.proofs.Common.{true, refl, subst}
use Rattle.bp_lemmas.specs.Systems.{group}
use Rattle.bp_lemmas.specs.Hints.{open_orders}
use Rattle.bp_replay.specs.declared.unsure.Open.{Open}
use Rattle.bp_replay.specs.Tasks.{system_of}
use Rattle.bp_replay.specs.Kept.{AreOpen, NamesTwo}
use Rattle.bp_replay.proofs.Applied.{open_none, open_one, open_several}
use Rattle.bp_replay.proofs.known.Known.settle.Goals as goal

pub add_order-requires-clause-two : goal.add_order-requires-clause-two
add_order-requires-clause-two c = subst (NamesTwo c.args.given.now.tree) c.in-One.is c.open_orders.ensures.named

pub returns-in-None : goal.returns-in-None
returns-in-None c = λ K keeps.
    let t = c.args.given.now in
    let left = open_orders (system_of t) K (group (system_of t) c.args.pair.i c.args.pair.j) in
    open_none t K (record c.args.self.now { broken = true }) left (subst (λ (o : Open). AreOpen (system_of t) o left) c.in-None.is (c.open_orders.ensures.open K keeps c.requires.whole)) refl

pub returns-in-One : goal.returns-in-One
returns-in-One c = λ K keeps.
    let t = c.args.given.now in
    let left = open_orders (system_of t) K (group (system_of t) c.args.pair.i c.args.pair.j) in
    open_one t K c.add_order.new.self c.in-One.axis c.in-One.first c.in-One.second left (subst (λ (o : Open). AreOpen (system_of t) o left) c.in-One.is (c.open_orders.ensures.open K keeps c.requires.whole)) (c.add_order.ensures K keeps)

pub returns-in-Several : goal.returns-in-Several
returns-in-Several c = λ K keeps.
    let t = c.args.given.now in
    let left = open_orders (system_of t) K (group (system_of t) c.args.pair.i c.args.pair.j) in
    open_several t K c.args.self.now left (subst (λ (o : Open). AreOpen (system_of t) o left) c.in-Several.is (c.open_orders.ensures.open K keeps c.requires.whole)) keeps
