-- The definitions on a worked search: the root is split on the first pair, and its one child is left.
use Rattle.std.proofs.Common.{◌≡◌, List, [], ◌∷◌, ◌++◌, map, ◌∙◌, ap}
use Rattle.bp_base.specs.declared.chain.Claim.{Claim}
use Rattle.bp_base.specs.declared.path.Choice.TheVariants.{Left}
use Rattle.bp_base.specs.declared.path.Pair.{Pair}
use Rattle.bp_base.specs.declared.path.Step.{Step}
use Rattle.bp_base.specs.declared.point.Sheet.TheVariants.{Square}
use Rattle.bp_base.specs.declared.record.Record.{Record}
use Rattle.bp_base.specs.declared.record.RecordKind.TheVariants.{Split as WasSplit}
use Rattle.bp_base.specs.declared.refutation.Refutation.TheVariants.{Split, Open}
use Rattle.bp_base.specs.Tree.{TreeValue}
use Rattle.bp_metric.specs.Choices.{allowed}
use Rattle.bp_metric.specs.Nodes.{Node, SplitOf, OpenBy, nodes_of}
use Rattle.bp_join.specs.Joined.{node_of}
use Rattle.bp_join.proofs.Takings.{nodes-root, nodes-split, nodes-open}

abbrev first_pair : Pair
first_pair = record { i = 1; j = 2 }

abbrev child : List Step
child = (record { pair = first_pair; choice = Left }) ∷ []

abbrev root : Record
root = record { path = []; kind = WasSplit first_pair; ticket = 0; given = 5; bound = 5 }

one_record : (T : TreeValue) (claim : Claim) → nodes_of T Square (Split first_pair (Open claim ∷ [])) ≡ map (node_of T Square) (root ∷ []) ++ (record { path = child; part = OpenBy claim }) ∷ []
unfolding allowed
one_record T claim =
    nodes-root T Square (Split first_pair (Open claim ∷ []))
    ∙ nodes-split T Square first_pair (Open claim ∷ []) []
    ∙ ap (λ (ns : List Node). (record { path = []; part = SplitOf first_pair 1 }) ∷ (ns ++ [])) (nodes-open T Square claim child)
