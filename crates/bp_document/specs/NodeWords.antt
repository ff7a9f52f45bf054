-- The words of node lines, and what reading them answers.
use Rattle.std.specs.Prelude.{◌≡◌, List, ℕ, [], ◌∷◌, map, decimal, codes, Option, None, Some}
use Rattle.bp_base.specs.declared.point.Axis.{Axis}
use Rattle.bp_base.specs.declared.path.Pair.{Pair}
use Rattle.bp_base.specs.declared.chain.Claim.{Claim}
use Rattle.bp_base.specs.declared.chain.Claim.TheVariants.{Walk, Cycle}
use Rattle.bp_base.specs.Chain.{IsChainList}
use Rattle.bp_document.specs.declared.node_line.NodeKind.{NodeKind}
use Rattle.bp_document.specs.declared.node_line.NodeKind.TheVariants.{Split, Closed, Open}
use Rattle.bp_document.specs.declared.node_line.NodeLine.{NodeLine}
use Rattle.bp_document.specs.Lines.{axis_word, chain_words}
use Rattle.bp_document.specs.Nodes.{IsKindOfNumbers, IsNodeLine, IsPairOfNumbers}
use Rattle.bp_document.specs.Ranges.{IsChainOf}

-- What reading a node line answers: the node, or none exactly where there is none.
abbrev pub ReadsNode : List ℕ → Option NodeLine → Type 0
ReadsNode bytes None = (l : NodeLine) → IsNodeLine bytes l → ⊥
ReadsNode bytes (Some l) = IsNodeLine bytes l

-- the words of an open claim behind `open`
abbrev pub open_words : Claim → List (List ℕ)
open_words (Walk axis chain) = chain_words axis chain
open_words (Cycle axis chain) = codes "cycle" ∷ chain_words axis chain

abbrev pub closed_words : Claim → List (List ℕ)
closed_words (Walk axis chain) = codes "walk" ∷ chain_words axis chain
closed_words (Cycle axis chain) = codes "cycle" ∷ chain_words axis chain

-- the words of a node line behind its depth
abbrev pub kind_words : NodeKind → List (List ℕ)
kind_words (Split p) = codes "split" ∷ decimal p.i ∷ decimal p.j ∷ []
kind_words (Closed claim) = closed_words claim
kind_words (Open claim) = codes "open" ∷ open_words claim

-- What reading words answers, each time exactly: numbers of a chain, a pair, an axis, an axis and a chain, a claim, a node.
abbrev pub ReadsChain : List (List ℕ) → Option (List ℕ) → Type 0
ReadsChain ws None = (ks : List ℕ) → IsChainList ks → ws ≡ map decimal ks → ⊥
ReadsChain ws (Some ks) = IsChainList ks × (ws ≡ map decimal ks)

abbrev pub ReadsPair : List (List ℕ) → Option Pair → Type 0
ReadsPair ws None = (p : Pair) → IsPairOfNumbers p → ws ≡ decimal p.i ∷ decimal p.j ∷ [] → ⊥
ReadsPair ws (Some p) = IsPairOfNumbers p × (ws ≡ decimal p.i ∷ decimal p.j ∷ [])

abbrev pub ReadsAxis : List ℕ → Option Axis → Type 0
ReadsAxis w None = (axis : Axis) → w ≡ axis_word axis → ⊥
ReadsAxis w (Some axis) = w ≡ axis_word axis

abbrev pub ReadsChainOn : List (List ℕ) → Option (Axis × List ℕ) → Type 0
ReadsChainOn ws None = (axis : Axis) (ks : List ℕ) → IsChainList ks → ws ≡ chain_words axis ks → ⊥
ReadsChainOn ws (Some p) = IsChainList p.1 × (ws ≡ chain_words p.0 p.1)

abbrev pub ReadsOpen : List (List ℕ) → Option Claim → Type 0
ReadsOpen ws None = (claim : Claim) → IsChainOf claim → ws ≡ open_words claim → ⊥
ReadsOpen ws (Some claim) = IsChainOf claim × (ws ≡ open_words claim)

abbrev pub ReadsClosed : List (List ℕ) → Option Claim → Type 0
ReadsClosed ws None = (claim : Claim) → IsChainOf claim → ws ≡ closed_words claim → ⊥
ReadsClosed ws (Some claim) = IsChainOf claim × (ws ≡ closed_words claim)

abbrev pub ReadsKind : List (List ℕ) → Option NodeKind → Type 0
ReadsKind ws None = (k : NodeKind) → IsKindOfNumbers k → ws ≡ kind_words k → ⊥
ReadsKind ws (Some k) = IsKindOfNumbers k × (ws ≡ kind_words k)
