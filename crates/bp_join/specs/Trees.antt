-- Lists of nodes that are, in preorder, all nodes of one tree of branches, or of the trees of a split's children.
use Rattle.std.specs.Prelude.{◌≡◌, ◌⊎◌, ℕ, ◌<◌, false, List, [], ◌∷◌, ◌++◌, length, map}
use Rattle.std.specs.List.{flat_map, AllByRecursion}
use Rattle.std.specs.Cmp.Lexicographic.{slice_cmp}
use Rattle.std.specs.Ordering.{is_lt, nat_cmp}
use Rattle.std.specs.declared.cmp.Ordering.{Ordering}
use Rattle.bp_base.specs.declared.point.Sheet.{Sheet}
use Rattle.bp_base.specs.declared.path.Choice.{Choice}
use Rattle.bp_base.specs.declared.path.Pair.{Pair}
use Rattle.bp_base.specs.declared.path.Step.{Step}
use Rattle.bp_base.specs.declared.refutation.Refutation.{Refutation, fold-Refutation}
use Rattle.bp_base.specs.Bags.{AreSame, choice_number}
use Rattle.bp_base.specs.Path.{IsPairOf}
use Rattle.bp_base.specs.Tree.{TreeValue, leaf_count}
use Rattle.bp_metric.specs.Chains.{ClaimHolds}
use Rattle.bp_metric.specs.Nodes.{Node, Part, SplitOf, ClosedBy, OpenBy, child_nodes, nodes_at}
use Rattle.bp_metric.specs.Records.{children}
use Rattle.bp_metric.specs.Refutation.{extended, CanSplit, EachFits, Fits}

-- The order of paths: by their choices, a path before those that go on from it.

abbrev pub choice_numbers : List Step → List ℕ
choice_numbers path = map (λ (s : Step). choice_number s.choice) path

abbrev pub path_cmp : List Step → List Step → Ordering
path_cmp p q = slice_cmp nat_cmp (choice_numbers p) (choice_numbers q)

-- no node of the list stands at a path before that of an earlier one
abbrev pub AreInOrder : List Node → Type 0
AreInOrder [] = Unit {0}
AreInOrder (n ∷ ns) = AllByRecursion (λ (m : Node). is_lt (path_cmp m.path n.path) ≡ false) ns × AreInOrder ns

-- Balance.

abbrev pub paths_below : TreeValue → Sheet → List Step → Part → List (List Step)
paths_below T G path (SplitOf p k) = children T G path p
paths_below T G path (ClosedBy claim) = []
paths_below T G path (OpenBy claim) = []

-- the paths of a node's children
abbrev pub child_paths : TreeValue → Sheet → Node → List (List Step)
child_paths T G n = paths_below T G n.path n.part

abbrev pub paths_at : List Node → List (List Step)
paths_at ns = map (λ (n : Node). n.path) ns

abbrev pub IsPartOf : TreeValue → Part → Type 0
IsPartOf T (SplitOf p k) = IsPairOf (leaf_count T) p
IsPartOf T (ClosedBy claim) = Unit {0}
IsPartOf T (OpenBy claim) = Unit {0}

-- each split is for a pair of leaves
abbrev pub HavePairs : TreeValue → List Node → Type 0
HavePairs T ns = AllByRecursion (λ (n : Node). IsPartOf T n.part) ns

-- all nodes of one tree in order, their paths taken from its root
pub record IsTree (T : TreeValue) (G : Sheet) (ns : List Node) : Type 0 where
  pub balanced : AreSame ([] ∷ flat_map (child_paths T G) ns) (paths_at ns)
  pub in_order : AreInOrder ns
  pub pairs : HavePairs T ns

abbrev pub IsAmong : Choice → List Choice → Type 0
IsAmong c [] = ⊥
IsAmong c (d ∷ ds) = (c ≡ d) ⊎ IsAmong c ds

-- the path begins with a step for the pair with one of the choices
abbrev pub BeginsBy : Pair → List Choice → List Step → Type 0
BeginsBy p choices [] = ⊥
BeginsBy p choices (s ∷ path) = (s.pair ≡ p) × IsAmong s.choice choices

-- each choice stands before the later ones
abbrev pub AreRising : List Choice → Type 0
AreRising [] = Unit {0}
AreRising (c ∷ cs) = AllByRecursion (λ (d : Choice). choice_number c < choice_number d) cs × AreRising cs

-- all nodes of the trees of some children of a split, in order, their paths taken from the split
pub record IsForest (T : TreeValue) (G : Sheet) (p : Pair) (choices : List Choice) (ns : List Node) : Type 0 where
  pub balanced : AreSame (map (extended [] p) choices ++ flat_map (child_paths T G) ns) (paths_at ns)
  pub begin : AllByRecursion (λ (n : Node). BeginsBy p choices n.path) ns
  pub in_order : AreInOrder ns
  pub pairs : HavePairs T ns
  pub rising : AreRising choices

-- Trees at a path.

-- the node with its path taken from further up
abbrev pub under : List Step → Node → Node
under path n = record { path = path ++ n.path; part = n.part }

-- the nodes of a refutation at the path, in preorder
unfoldable pub nodes_from : TreeValue → Sheet → Refutation → List Step → List Node
nodes_from T G r path = fold-Refutation (List Step → List Node) (nodes_at T G) r path

-- the node may stand in a refutation that fits
abbrev pub NodeFits : TreeValue → Sheet → List Step → Part → Type 0
NodeFits T G path (SplitOf p k) = CanSplit T path p
NodeFits T G path (ClosedBy claim) = ClaimHolds (leaf_count T) path claim
NodeFits T G path (OpenBy claim) = ClaimHolds (leaf_count T) path claim

abbrev pub AllFit : TreeValue → Sheet → List Node → Type 0
AllFit T G ns = AllByRecursion (λ (n : Node). NodeFits T G n.path n.part) ns

-- the refutation at the path has these nodes, and where these may stand so it fits
pub record HasNodes (T : TreeValue) (G : Sheet) (path : List Step) (r : Refutation) (ns : List Node) : Type 0 where
  pub nodes : nodes_from T G r path ≡ ns
  pub fits : AllFit T G ns → Fits T G r path

-- as many refutations as choices: each at the path extended by the pair and its choice, in order, together with these nodes
pub record HasChildNodes (T : TreeValue) (G : Sheet) (path : List Step) (p : Pair) (choices : List Choice) (rs : List Refutation) (ns : List Node) : Type 0 where
  pub many : length rs ≡ length choices
  pub nodes : child_nodes path p choices (map (nodes_from T G) rs) ≡ ns
  pub fits : AllFit T G ns → EachFits (Fits T G) path p choices rs

-- the list begins with the nodes of a tree at a path
pub record BeginsWithTree (T : TreeValue) (G : Sheet) (all : List Node) : Type 0 where
  pub path : List Step
  pub front : List Node
  pub rest : List Node
  pub is : all ≡ map (under path) front ++ rest
  pub tree : IsTree T G front

-- the same of the trees of children for these choices
pub record BeginsWithForest (T : TreeValue) (G : Sheet) (p : Pair) (choices : List Choice) (all : List Node) : Type 0 where
  pub path : List Step
  pub front : List Node
  pub rest : List Node
  pub is : all ≡ map (under path) front ++ rest
  pub forest : IsForest T G p choices front

-- whichever tree at a path the first list begins with, the refutation has its nodes, and the second list is what is left
abbrev pub TakesTree : TreeValue → Sheet → List Node → List Node → Refutation → Type 0
TakesTree T G all after r =
    (path : List Step) (front rest : List Node)
    → all ≡ map (under path) front ++ rest
    → IsTree T G front
    → (after ≡ rest) × HasNodes T G path r (map (under path) front)

abbrev pub TakesForest : TreeValue → Sheet → Pair → List Choice → List Node → List Node → List Refutation → Type 0
TakesForest T G p choices all after rs =
    (path : List Step) (front rest : List Node)
    → all ≡ map (under path) front ++ rest
    → IsForest T G p choices front
    → (after ≡ rest) × HasChildNodes T G path p choices rs (map (under path) front)
