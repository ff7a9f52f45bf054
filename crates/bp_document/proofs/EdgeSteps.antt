-- The first fault of an edge line.
use Rattle.std.proofs.Common.{◌≡◌, inl, inr, ◌⊎◌, ℕ, ◌+◌, ◌<◌, ◌≤◌, true, List, [], ◌∷◌, ◌++◌, length, ap, subst, arith, Ok, Err}
use Rattle.std.proofs.lemmas.List.{length-append, length-drop, length-map}
use Rattle.bp_base.specs.Limits.{most_leaves}
use Rattle.bp_base.specs.Tree.{TreeValue, leaf_count}
use Rattle.bp_tree.specs.declared.edge.Edge.{Edge}
use Rattle.bp_tree.specs.declared.fault.TreeKind.{TreeKind}
use Rattle.bp_tree.specs.declared.fault.TreeKind.TheVariants.{TooLong as TreeTooLong, BadJson, BadShape, BadByte, WordCount, BadName, BadLength, UnknownParent, RepeatedName, TooManyNodes, Empty, RootIsLeaf, TooManyLeaves}
use Rattle.bp_tree.specs.Edges.{HasEdges, IsGrowing, root_children, names_of}
use Rattle.bp_tree.specs.Faults.{LacksUpper, RepeatsLower}
use Rattle.bp_tree.specs.Growing.{AddsEdge, Finishes}
use Rattle.bp_tree.proofs.Growth.{edge_count}
use Rattle.bp_document.specs.declared.fault.DocKind.{DocKind}
use Rattle.bp_document.specs.declared.fault.DocKind.TheVariants.{TooLong, Trailing, Cut, BadForm, BadTree, BadPoint, BadDepth}
use Rattle.bp_document.specs.Forms.{IsEdgeForm, IsEdgeCount}
use Rattle.bp_document.specs.Places.{Place, AtEdge}
use Rattle.bp_document.specs.Feeding.{FeedsEdge}
use Rattle.bp_document.specs.Faults.{HasForm, HasKind, IsFirstKind, IsBadEdge, order}

module _ (place : Place) (bytes : List ℕ) (inside : HasKind place bytes true Trailing → ⊥) where
  pub bad_form : (HasForm place bytes → ⊥) → IsFirstKind place bytes true BadForm
  bad_form none = record { has = none; first = before }
    where
      before : (other : DocKind) → order other < 3 → HasKind place bytes true other → ⊥
      before TooLong less h = h
      before Trailing less h = inside h
      before Cut less h = h
      before BadForm less h = omega (arith, less)
      before BadTree less h = omega (arith, less)
      before BadPoint less h = omega (arith, less)
      before BadDepth less h = omega (arith, less)

module _ (E : ℕ) (es : List Edge) (bytes : List ℕ) where
  pub bad_edge_form : ((e : Edge) → IsEdgeForm bytes e → ⊥) → IsFirstKind (AtEdge E es) bytes true BadForm
  bad_edge_form none = bad_form (AtEdge E es) bytes (λ h. h) (λ form. none form.0 form.1)

  pub bad_tree : (e : Edge) → IsEdgeForm bytes e → IsBadEdge E es e → IsFirstKind (AtEdge E es) bytes true BadTree
  bad_tree e form bad = record { has = (e, form, bad); first = before }
    where
      before : (other : DocKind) → order other < 4 → HasKind (AtEdge E es) bytes true other → ⊥
      before TooLong less h = h
      before Trailing less h = h
      before Cut less h = h
      before BadForm less h = h (e, form)
      before BadTree less h = omega (arith, less)
      before BadPoint less h = omega (arith, less)
      before BadDepth less h = omega (arith, less)

few_names : (es : List Edge) → length (names_of es) ≤ length es + 1
few_names [] = omega arith
few_names (e ∷ es) = omega (arith, length-map es (λ (e : Edge). e.lower))

-- what the tree so far refuses is a fault of the edge
pub refused : (T T' : TreeValue) (e : Edge) (kind : TreeKind) → AddsEdge T e T' (Err kind) → (E : ℕ) (es : List Edge) → HasEdges T es → IsEdgeCount E → length es < E → IsBadEdge E es e
refused T T' e UnknownParent h E es has count less = inr (inl (subst (λ (names : List (List ℕ)). LacksUpper names e.upper) has.names h))
refused T T' e RepeatedName h E es has count less = inr (inr (inl (subst (λ (names : List (List ℕ)). RepeatsLower names e.upper e.lower) has.names h.1)))
refused T T' e TooManyNodes h E es has count less = absurd (omega (arith, h.2, ap length has.names, few_names es, count.1, less))
refused T T' e TreeTooLong h E es has count less = absurd h
refused T T' e BadJson h E es has count less = absurd h
refused T T' e BadShape h E es has count less = absurd h
refused T T' e BadByte h E es has count less = absurd h
refused T T' e WordCount h E es has count less = absurd h
refused T T' e BadName h E es has count less = absurd h
refused T T' e BadLength h E es has count less = absurd h
refused T T' e Empty h E es has count less = absurd h
refused T T' e RootIsLeaf h E es has count less = absurd h
refused T T' e TooManyLeaves h E es has count less = absurd h

-- the last edge was added, and the edges make no tree
module _ (T T' : TreeValue) (bytes : List ℕ) (added : FeedsEdge T bytes T' (Ok tt)) (growing : IsGrowing T') (E : ℕ) (es : List Edge) (has : HasEdges T es) (last : length es + 1 ≡ E) where
  has_all : HasEdges T' (es ++ added.0 ∷ [])
  has_all = added.3 es has

  some_edge : 2 ≤ length T'.parents
  some_edge = omega (arith, edge_count T' growing (es ++ added.0 ∷ []) has_all, length-append es (added.0 ∷ []), length-drop 1 T'.parents)

  no_tree : (root_children T' ≡ 1) ⊎ (most_leaves < leaf_count T') → IsFirstKind (AtEdge E es) bytes true BadTree
  no_tree fault = bad_tree E es bytes added.0 added.1 (inr (inr (inr (last, (T', has_all, fault)))))

  pub unfinished : (kind : TreeKind) → Finishes T' (Err kind) → IsFirstKind (AtEdge E es) bytes true BadTree
  unfinished Empty h = absurd (omega (arith, h, some_edge))
  unfinished RootIsLeaf h = no_tree (inl h)
  unfinished TooManyLeaves h = no_tree (inr h.1)
  unfinished TreeTooLong h = absurd h
  unfinished BadJson h = absurd h
  unfinished BadShape h = absurd h
  unfinished BadByte h = absurd h
  unfinished WordCount h = absurd h
  unfinished BadName h = absurd h
  unfinished BadLength h = absurd h
  unfinished UnknownParent h = absurd h
  unfinished RepeatedName h = absurd h
  unfinished TooManyNodes h = absurd h
