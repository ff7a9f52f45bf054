-- What is found of nodes in preorder, each judged by itself.
use Rattle.std.specs.Prelude.{ℕ, ◌+◌, ◌==◌, ◌&&◌, min, List, [], ◌∷◌, length, Option, None, Some, if◌then◌else◌}
use Rattle.bp_base.specs.declared.point.Sheet.{Sheet}
use Rattle.bp_base.specs.declared.path.Step.{Step}
use Rattle.bp_base.specs.declared.chain.Claim.{Claim}
use Rattle.bp_base.specs.declared.refutation.Refutation.{Refutation}
use Rattle.bp_base.specs.Tree.{TreeValue, leaf_count}
use Rattle.bp_metric.specs.Choices.{allowed}
use Rattle.bp_metric.specs.Nodes.{Node, Part, SplitOf, ClosedBy, OpenBy, counted, lesser, nodes_of}
use Rattle.bp_check.specs.declared.found.Found.{Found}
use Rattle.bp_check.specs.declared.found.Found.TheVariants.{Sound, WrongChain, WrongSplit}
use Rattle.bp_check.specs.Tests.{claim_passes, may_split}

-- what is found of two groups of nodes together: a bad split comes before a bad chain, and that before any weight; the least of each counts
abbrev pub joined : Found → Found → Found
joined (Sound v) (Sound w) = Sound (lesser v w)
joined (Sound v) (WrongChain b) = WrongChain b
joined (Sound v) (WrongSplit b) = WrongSplit b
joined (WrongChain a) (Sound w) = WrongChain a
joined (WrongChain a) (WrongChain b) = WrongChain (min a b)
joined (WrongChain a) (WrongSplit b) = WrongSplit b
joined (WrongSplit a) (Sound w) = WrongSplit a
joined (WrongSplit a) (WrongChain b) = WrongSplit a
joined (WrongSplit a) (WrongSplit b) = WrongSplit (min a b)

-- what is found of the claim of node k
abbrev pub found_claim : TreeValue → Sheet → ℕ → List Step → Claim → Found
found_claim T G k path claim = if claim_passes (leaf_count T) path claim then Sound (counted T G claim) else WrongChain k

-- what is found of node k
abbrev pub judged : TreeValue → Sheet → ℕ → List Step → Part → Found
judged T G k path (SplitOf p children) =
    if may_split (leaf_count T) path p && (children == length (allowed T G p)) then Sound None else WrongSplit k
judged T G k path (ClosedBy claim) = found_claim T G k path claim
judged T G k path (OpenBy claim) = found_claim T G k path claim

-- what is found of these nodes, the first of them numbered k
abbrev pub found_of : TreeValue → Sheet → ℕ → List Node → Found
found_of T G k [] = Sound None
found_of T G k (node ∷ nodes) = joined (judged T G k node.path node.part) (found_of T G (k + 1) nodes)

-- what is found of a proof, where there is one
abbrev pub found_proof : TreeValue → Sheet → Option Refutation → Found
found_proof T G None = Sound None
found_proof T G (Some r) = found_of T G 0 (nodes_of T G r)
