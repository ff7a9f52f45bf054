use Rattle.std.proofs.Common.{sym, ◌∙◌}
use Rattle.std.proofs.lemmas.Bool.{false≢true}
use Rattle.bp_tree.proofs.Growth.{root_added, first_added}
use Rattle.bp_tree.proofs.grower.Grower.begin.Goals as goal

pub push-requires : goal.push-requires
push-requires c = root_added c.args.self.now c.requires.growing c.requires.none c.args.edge.now.upper c.is_same.ensures.names.0

pub push-requires-2 : goal.push-requires-2
push-requires-2 c =
    first_added c.args.self.now c.requires.growing c.requires.none c.args.edge.now c.push.new.self c.push.ensures.node c.push.ensures.growing c.is_same.ensures.names.1 c.requires.length (λ same. false≢true (sym c.if-is_same.false ∙ c.is_same.ensures.same.1 same))
