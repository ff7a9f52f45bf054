-- The nodes of a refutation in preorder, how many there are, and the least weight among them.
use Rattle.std.specs.Prelude.{ℕ, min, List, [], ◌∷◌, ◌++◌, length, map, nat_lt, Option, None, Some, if◌then◌else◌}
use Rattle.std.specs.List.{flat_map}
use Rattle.bp_base.specs.declared.point.Axis.TheVariants.{X, Y}
use Rattle.bp_base.specs.declared.point.Sheet.{Sheet}
use Rattle.bp_base.specs.declared.point.Sheet.TheVariants.{Square, Strip}
use Rattle.bp_base.specs.declared.path.Choice.{Choice}
use Rattle.bp_base.specs.declared.path.Choice.TheVariants.{Left}
use Rattle.bp_base.specs.declared.path.Pair.{Pair}
use Rattle.bp_base.specs.declared.path.Step.{Step}
use Rattle.bp_base.specs.declared.chain.Claim.{Claim}
use Rattle.bp_base.specs.declared.chain.Claim.TheVariants.{Walk, Cycle}
use Rattle.bp_base.specs.declared.refutation.Refutation.{Refutation, fold-Refutation}
use Rattle.bp_base.specs.declared.refutation.Refutation.TheOpen.{Refutation-F}
use Rattle.bp_base.specs.Tree.{TreeValue}
use Rattle.bp_metric.specs.Choices.{allowed}
use Rattle.bp_metric.specs.Chains.{chain_weight}
use Rattle.bp_metric.specs.Refutation.{extended}

-- a node by itself: a split with its number of children, or a proof leaf
pub data Part : Type 0 where
  SplitOf : Pair → ℕ → Part
  ClosedBy : Claim → Part
  OpenBy : Claim → Part

abbrev pub parts_at : Refutation-F (List Part) → List Part
parts_at (Refutation-F.Split p children) = SplitOf p (length children) ∷ flat_map (λ (parts : List Part). parts) children
parts_at (Refutation-F.Closed claim) = ClosedBy claim ∷ []
parts_at (Refutation-F.Open claim) = OpenBy claim ∷ []

-- the nodes in preorder: each split before its children, these in order
unfoldable pub parts_of : Refutation → List Part
parts_of r = fold-Refutation (List Part) parts_at r

abbrev pub node_count_of : Refutation → ℕ
node_count_of r = length (parts_of r)

-- what a claim counts with: a walk with its weight; on a strip a walk on x with 0, or not at all where it is wider than the strip
abbrev pub counted : TreeValue → Sheet → Claim → Option ℕ
counted T G (Cycle axis chain) = None
counted T Square (Walk axis chain) = Some (chain_weight T chain)
counted T (Strip width) (Walk X chain) = if nat_lt width (chain_weight T chain) then None else Some 0
counted T (Strip width) (Walk Y chain) = Some (chain_weight T chain)

abbrev pub counted_part : TreeValue → Sheet → Part → Option ℕ
counted_part T G (SplitOf p children) = None
counted_part T G (ClosedBy claim) = counted T G claim
counted_part T G (OpenBy claim) = counted T G claim

-- the lesser of two weights, where there are any
abbrev pub lesser : Option ℕ → Option ℕ → Option ℕ
lesser None w = w
lesser (Some v) None = Some v
lesser (Some v) (Some w) = Some (min v w)

abbrev pub least_of : List (Option ℕ) → Option ℕ
least_of [] = None
least_of (w ∷ ws) = lesser w (least_of ws)

-- the least weight of the walks that count among all proof leaves, or none where no walk counts
unfoldable pub weighs : TreeValue → Sheet → Refutation → Option ℕ
weighs T G r = least_of (map (counted_part T G) (parts_of r))

-- a node at its path
pub record Node : Type 0 where
  pub path : List Step
  pub part : Part

-- the nodes of the children in order: each child at the path extended by the pair and its choice; a child too many has no choice of its own
abbrev pub child_nodes : List Step → Pair → List Choice → List (List Step → List Node) → List Node
child_nodes path p choices [] = []
child_nodes path p [] (nodes ∷ more) = nodes (extended path p Left) ++ child_nodes path p [] more
child_nodes path p (c ∷ choices) (nodes ∷ more) = nodes (extended path p c) ++ child_nodes path p choices more

abbrev pub nodes_at : TreeValue → Sheet → Refutation-F (List Step → List Node) → List Step → List Node
nodes_at T G (Refutation-F.Split p children) path =
    (record { path = path; part = SplitOf p (length children) }) ∷ child_nodes path p (allowed T G p) children
nodes_at T G (Refutation-F.Closed claim) path = (record { path = path; part = ClosedBy claim }) ∷ []
nodes_at T G (Refutation-F.Open claim) path = (record { path = path; part = OpenBy claim }) ∷ []

-- the nodes in preorder, each at its path; below a split with a child too many or too few the paths say nothing
unfoldable pub nodes_of : TreeValue → Sheet → Refutation → List Node
nodes_of T G r = fold-Refutation (List Step → List Node) (nodes_at T G) r []
