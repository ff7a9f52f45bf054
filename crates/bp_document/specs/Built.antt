-- A refutation that is built from its nodes in preorder.
use Rattle.std.specs.Prelude.{◌≡◌, ℕ, ◌+◌, ◌≤◌, min, List, [], ◌∷◌, ◌++◌, length, Option, None, Some, Result, Ok, Err}
use Rattle.std.specs.List.{flat_map}
use Rattle.bp_base.specs.declared.memory.NoMemory.{NoMemory}
use Rattle.bp_base.specs.declared.refutation.Refutation.{Refutation}
use Rattle.bp_document.specs.declared.builder.Branch.{Branch}
use Rattle.bp_document.specs.declared.builder.Builder.{Builder}
use Rattle.bp_document.specs.declared.node_line.NodeKind.{NodeKind}
use Rattle.bp_document.specs.declared.node_line.NodeLine.{NodeLine}
use Rattle.bp_document.specs.Places.{DepthFits, deepest}
use Rattle.bp_document.specs.Told.{node_at, node_list}

-- the nodes of refutations one behind the other, each with its root at this depth
abbrev pub forest : ℕ → List Refutation → List NodeLine
forest depth rs = flat_map (λ (r : Refutation). node_list r depth) rs

-- the nodes of open splits, each a child of the one before, the first at this depth
abbrev pub told : ℕ → List Branch → List NodeLine
told depth [] = []
told depth (b ∷ bs) = node_at depth (NodeKind.Split b.pair) ∷ (forest (depth + 1) b.children ++ told (depth + 1) bs)

-- the nodes of what is built
abbrev pub HasNodes : Option Refutation → List Branch → List NodeLine → Type 0
HasNodes None bs ns = told 0 bs ≡ ns
HasNodes (Some r) bs ns = (bs ≡ []) × (node_list r 0 ≡ ns)

-- how deep the next node may be
abbrev pub AllowsDepth : Option Refutation → List Branch → Option ℕ → Type 0
AllowsDepth root bs None = (root ≡ None) × (bs ≡ [])
AllowsDepth root bs (Some most) = most ≡ length bs

-- It is built from these nodes, and the next one may be as deep as this.
pub record IsBuilt (b : Builder) (ns : List NodeLine) (most : Option ℕ) : Type 0 where
  pub nodes : HasNodes b.root b.branches.items ns
  pub allows : AllowsDepth b.root b.branches.items most

abbrev pub Adds : Builder → NodeLine → Builder → Result Unit NoMemory → Type 0
Adds b l b' (Ok done) =
    (ns : List NodeLine) (most : Option ℕ) → IsBuilt b ns most → DepthFits most l.depth → IsBuilt b' (ns ++ l ∷ []) (Some (deepest l.kind l.depth))
Adds b l b' (Err e) = Unit {0}

-- The child is put at the depth of the open splits, where nothing whole is there yet.
abbrev pub Puts : Builder → Refutation → Builder → Result Unit NoMemory → Type 0
Puts b r b' (Ok done) =
    (length b'.branches.items ≡ length b.branches.items)
    × (1 ≤ length b.branches.items → b'.root ≡ b.root)
    × ((ns : List NodeLine) → b.root ≡ None → told 0 b.branches.items ≡ ns → HasNodes b'.root b'.branches.items (ns ++ node_list r (length b.branches.items)))
Puts b r b' (Err e) = Unit {0}

-- Closing keeps the nodes.
abbrev pub KeepsNodes : Builder → Builder → Type 0
KeepsNodes b b' = (ns : List NodeLine) → HasNodes b.root b.branches.items ns → HasNodes b'.root b'.branches.items ns

abbrev pub ClosesLast : Builder → Builder → Result Unit NoMemory → Type 0
ClosesLast b b' (Ok done) =
    KeepsNodes b b'
    × (1 ≤ length b.branches.items → length b'.branches.items + 1 ≡ length b.branches.items)
    × (2 ≤ length b.branches.items → b'.root ≡ b.root)
ClosesLast b b' (Err e) = Unit {0}

abbrev pub Closes : Builder → ℕ → Builder → Result Unit NoMemory → Type 0
Closes b depth b' (Ok done) =
    KeepsNodes b b'
    × (length b'.branches.items ≡ min depth (length b.branches.items))
    × (1 ≤ depth → b'.root ≡ b.root)
    × (length b.branches.items ≤ depth → b'.root ≡ b.root)
Closes b depth b' (Err e) = Unit {0}

abbrev pub Finishes : Builder → Result (Option Refutation) NoMemory → Type 0
Finishes b (Ok None) = (ns : List NodeLine) (most : Option ℕ) → IsBuilt b ns most → ns ≡ []
Finishes b (Ok (Some r)) = (ns : List NodeLine) (most : Option ℕ) → IsBuilt b ns most → node_list r 0 ≡ ns
Finishes b (Err e) = Unit {0}
