-- A kept proof taken apart: its split and closed nodes, and the paths of its open ones.
use Rattle.std.specs.Prelude.{List, filter, map}
use Rattle.bp_base.specs.declared.path.Step.{Step}
use Rattle.bp_base.specs.declared.point.Sheet.{Sheet}
use Rattle.bp_base.specs.declared.refutation.Refutation.{Refutation, fold-Refutation}
use Rattle.bp_base.specs.Tree.{TreeValue}
use Rattle.bp_metric.specs.Nodes.{Node, nodes_at}
use Rattle.bp_check.specs.Written.{is_examined, is_open}

-- the nodes of a refutation at the end of a path
abbrev pub nodes_below : TreeValue → Sheet → Refutation → List Step → List Node
nodes_below T G r = fold-Refutation (List Step → List Node) (nodes_at T G) r

-- the split and closed nodes, in order
abbrev pub examined : List Node → List Node
examined nodes = filter (λ (n : Node). is_examined n.part) nodes

-- the paths of the open nodes, in order
abbrev pub open_paths : List Node → List (List Step)
open_paths nodes = map (λ (n : Node). n.path) (filter (λ (n : Node). is_open n.part) nodes)
