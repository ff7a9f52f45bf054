-- What the stack of open splits makes of node lines that are fed one after the other. A split is closed, and its number of children known, once a line
-- of no greater depth comes, or the end.
use Rattle.std.specs.Prelude.{◌≡◌, ◌≢◌, ℕ, ◌+◌, ◌-◌, ◌≤◌, ◌==◌, List, [], ◌∷◌, ◌++◌, length, map, take, drop, All, AllPairs, slice_index_or, Bool, true, false, not, ◌&&◌, None, if◌then◌else◌}
use Rattle.bp_base.specs.declared.path.Choice.TheVariants.{Left}
use Rattle.bp_base.specs.declared.path.Pair.{Pair}
use Rattle.bp_base.specs.declared.path.Step.{Step}
use Rattle.bp_base.specs.declared.point.Sheet.{Sheet}
use Rattle.bp_base.specs.declared.chain.Claim.{Claim}
use Rattle.bp_base.specs.Path.{IsPairOf}
use Rattle.bp_base.specs.Tree.{TreeValue, leaf_count}
use Rattle.bp_metric.specs.Choices.{allowed}
use Rattle.bp_document.specs.declared.node_line.NodeKind.{NodeKind}
use Rattle.bp_document.specs.declared.node_line.NodeKind.TheVariants.{Split, Closed, Open}
use Rattle.bp_document.specs.declared.node_line.NodeLine.{NodeLine}
use Rattle.bp_check.specs.declared.found.Found.{Found}
use Rattle.bp_check.specs.declared.found.Found.TheVariants.{Sound, WrongChain, WrongSplit}
use Rattle.bp_check.specs.declared.stack.OpenSplit.{OpenSplit}
use Rattle.bp_check.specs.declared.stack.Stack.{Stack}
use Rattle.bp_check.specs.Tests.{may_split}
use Rattle.bp_check.specs.Found.{joined, found_claim}

-- the step from an open split to its last child, or to its first where it has none yet
unfoldable pub step_of : TreeValue → Sheet → OpenSplit → Step
step_of T G o = record { pair = o.pair; choice = slice_index_or (allowed T G o.pair) (o.seen - 1) Left }

abbrev pub path_of : TreeValue → Sheet → List OpenSplit → List Step
path_of T G splits = map (step_of T G) splits

abbrev pub stack_of : TreeValue → Sheet → List OpenSplit → ℕ → Found → Stack
stack_of T G splits count found = record { path = path_of T G splits; splits = splits; count = count; found = found }

abbrev pub empty_stack : Stack
empty_stack = record { path = []; splits = []; count = 0; found = Sound None }

-- what is found of a split by its number of children
unfoldable pub found_count : TreeValue → Sheet → OpenSplit → Found
found_count T G o = if o.seen == length (allowed T G o.pair) then Sound None else WrongSplit o.node

abbrev pub found_counts : TreeValue → Sheet → List OpenSplit → Found
found_counts T G [] = Sound None
found_counts T G (o ∷ splits) = joined (found_count T G o) (found_counts T G splits)

-- the splits of this depth and deeper ones are closed
unfoldable pub closed : TreeValue → Sheet → ℕ → Stack → Stack
closed T G depth S =
    stack_of T G (take depth S.splits) S.count (joined S.found (found_counts T G (drop depth S.splits)))

abbrev pub one_more : OpenSplit → OpenSplit
one_more o = record { pair = o.pair; node = o.node; seen = o.seen + 1 }

-- the last has one more child
abbrev pub with_child : List OpenSplit → List OpenSplit
with_child [] = []
with_child (o ∷ []) = one_more o ∷ []
with_child (o ∷ p ∷ splits) = o ∷ with_child (p ∷ splits)

-- a node of this depth is a child of the last split, where that is open
abbrev pub splits_entered : ℕ → List OpenSplit → List OpenSplit
splits_entered depth splits = if length splits == depth then with_child splits else splits

unfoldable pub entered : TreeValue → Sheet → ℕ → Stack → Stack
entered T G depth S = stack_of T G (splits_entered depth S.splits) S.count S.found

-- below a bad split no path is defined
abbrev pub is_wrong : Found → Bool
is_wrong (Sound w) = false
is_wrong (WrongChain k) = false
is_wrong (WrongSplit k) = true

abbrev pub opened : ℕ → Pair → OpenSplit
opened node p = record { pair = p; node = node; seen = 0 }

-- the node is a split
unfoldable pub with_split : TreeValue → Sheet → Pair → Stack → Stack
with_split T G p S =
    if not (is_wrong S.found) && may_split (leaf_count T) S.path p then stack_of T G (S.splits ++ opened S.count p ∷ []) (S.count + 1) S.found
    else stack_of T G S.splits (S.count + 1) (joined S.found (WrongSplit S.count))

abbrev pub joined_claim : TreeValue → Sheet → Found → ℕ → List Step → Claim → Found
joined_claim T G found k path claim = if is_wrong found then found else joined found (found_claim T G k path claim)

-- the node has a claim
unfoldable pub with_claim : TreeValue → Sheet → Claim → Stack → Stack
with_claim T G claim S = stack_of T G S.splits (S.count + 1) (joined_claim T G S.found S.count S.path claim)

abbrev pub with_node : TreeValue → Sheet → NodeKind → Stack → Stack
with_node T G (Split p) S = with_split T G p S
with_node T G (Closed claim) S = with_claim T G claim S
with_node T G (Open claim) S = with_claim T G claim S

-- the stack once this line is fed
abbrev pub fed : TreeValue → Sheet → Stack → NodeLine → Stack
fed T G S line = with_node T G line.kind (entered T G line.depth (closed T G line.depth S))

-- the stack once these lines are fed
abbrev pub run : TreeValue → Sheet → Stack → List NodeLine → Stack
run T G S [] = S
run T G S (line ∷ lines) = run T G (fed T G S line) lines

abbrev pub pairs_of : List OpenSplit → List Pair
pairs_of splits = map (λ (o : OpenSplit). o.pair) splits

-- what the stack keeps: the path leads to the last child of its last split, no pair stands twice on it, and no split has seen more than so many children
pub record KeepsWithin (T : TreeValue) (G : Sheet) (most : ℕ) (S : Stack) : Type 0 where
  pub path : S.path ≡ path_of T G S.splits
  pub pairs : All (IsPairOf (leaf_count T)) (pairs_of S.splits)
  pub differ : AllPairs (λ a b. a ≢ b) (pairs_of S.splits)
  pub seen : All (λ (o : OpenSplit). o.seen ≤ most) S.splits

abbrev pub IsStack : TreeValue → Sheet → Stack → Type 0
IsStack T G S = KeepsWithin T G S.count S

-- the stack has taken these lines, and nothing else
pub record HasTaken (T : TreeValue) (G : Sheet) (S : Stack) (lines : List NodeLine) : Type 0 where
  pub is : S ≡ run T G empty_stack lines
  pub kept : IsStack T G S
  pub count : S.count ≡ length lines
