-- What bytes come to.
use Rattle.std.proofs.Common.{◌≡◌, ℕ, ◌≤◌, Bool, true, false, List, [], ◌∷◌, length, drop, ◌==◌, count_by, Ok, Err, refl, sym, ap, subst, arith}
use Rattle.std.proofs.lemmas.List.{length-drop, nil_from_length}
use Rattle.bp_base.specs.Limits.{most_tree_bytes}
use Rattle.bp_base.specs.Tree.{TreeValue, leaf_count}
use Rattle.bp_tree.specs.declared.edge.Edge.{Edge}
use Rattle.bp_tree.specs.declared.fault.TreeKind.{TreeKind}
use Rattle.bp_tree.specs.declared.fault.TreeKind.TheVariants.{TooLong, BadJson, BadShape, BadByte, WordCount, BadName, BadLength, UnknownParent, RepeatedName, TooManyNodes, Empty, RootIsLeaf, TooManyLeaves}
use Rattle.bp_tree.specs.declared.fault.TreeFault.{TreeFault}
use Rattle.bp_tree.specs.Edges.{HasEdges, IsGrowing, root_children}
use Rattle.bp_tree.specs.Text.{GivesEdges, TreeOf}
use Rattle.bp_tree.specs.Json.{is_json}
use Rattle.bp_tree.specs.Faults.{IsFirstIn, Makes, FaultIn, IsTreeFault, IsNoTree}
use Rattle.bp_tree.specs.Growing.{Finishes}
use Rattle.bp_tree.specs.Reading.{ReadsEdges}
use Rattle.bp_tree.proofs.Growth.{edge_count}
use Rattle.bp_tree.proofs.TwoLeaves.{growing_tree}
use Rattle.bp_tree.proofs.OneTree.{same_tree}
use Rattle.bp_tree.proofs.Given.{one_list_given, none_given_too, none_faulty, fault_in}

module _ (bytes : List ℕ) (T : TreeValue) (t : IsGrowing T) (u : Unit) (read : ReadsEdges (is_json bytes) bytes T (Ok u)) where
  makes : length bytes ≤ most_tree_bytes → Makes bytes T
  makes short = record { short = short; faultless = none_faulty bytes (is_json bytes) T t read.0 read.1 read.2; growing = t; given = read.0; gives = read.1; has = read.2 }

  no_edges : length T.parents ≤ 1 → GivesEdges bytes []
  no_edges few =
      let none : read.0 ≡ [] = nil_from_length read.0 (omega (arith, edge_count T t read.0 read.2, length-drop 1 T.parents)) in
      subst (GivesEdges bytes) none read.1

  pub end_fault : (kind : TreeKind) → length bytes ≤ most_tree_bytes → Finishes T (Err kind) → FaultIn bytes 0 kind
  end_fault Empty short few = (refl, short, no_edges few)
  end_fault RootIsLeaf short one = (refl, T, makes short, one)
  end_fault TooManyLeaves short many = (refl, T, makes short, many.0, many.1)
  end_fault TooLong short h = absurd h
  end_fault BadJson short h = absurd h
  end_fault BadShape short h = absurd h
  end_fault BadByte short h = absurd h
  end_fault WordCount short h = absurd h
  end_fault BadName short h = absurd h
  end_fault BadLength short h = absurd h
  end_fault UnknownParent short h = absurd h
  end_fault RepeatedName short h = absurd h
  end_fault TooManyNodes short h = absurd h

-- no line and no element has a fault of the whole
not_long : (bytes : List ℕ) (form : Bool) (n : ℕ) → IsFirstIn form bytes n TooLong → ⊥
not_long bytes true n (es, gives, first) = first.has.has
not_long bytes false n first = first.has.has

not_empty : (bytes : List ℕ) (form : Bool) (n : ℕ) → IsFirstIn form bytes n Empty → ⊥
not_empty bytes true n (es, gives, first) = first.has.has
not_empty bytes false n first = first.has.has

not_leaf : (bytes : List ℕ) (form : Bool) (n : ℕ) → IsFirstIn form bytes n RootIsLeaf → ⊥
not_leaf bytes true n (es, gives, first) = first.has.has
not_leaf bytes false n first = first.has.has

not_leaves : (bytes : List ℕ) (form : Bool) (n : ℕ) → IsFirstIn form bytes n TooManyLeaves → ⊥
not_leaves bytes true n (es, gives, first) = first.has.has
not_leaves bytes false n first = first.has.has

-- the first fault before the end
pub early_fault : (bytes : List ℕ) (n : ℕ) (kind : TreeKind) → length bytes ≤ most_tree_bytes → IsFirstIn (is_json bytes) bytes n kind → FaultIn bytes n kind
early_fault bytes n BadJson short first = (short, first)
early_fault bytes n BadShape short first = (short, first)
early_fault bytes n BadByte short first = (short, first)
early_fault bytes n WordCount short first = (short, first)
early_fault bytes n BadName short first = (short, first)
early_fault bytes n BadLength short first = (short, first)
early_fault bytes n UnknownParent short first = (short, first)
early_fault bytes n RepeatedName short first = (short, first)
early_fault bytes n TooManyNodes short first = (short, first)
early_fault bytes n TooLong short first = absurd (not_long bytes (is_json bytes) n first)
early_fault bytes n Empty short first = absurd (not_empty bytes (is_json bytes) n first)
early_fault bytes n RootIsLeaf short first = absurd (not_leaf bytes (is_json bytes) n first)
early_fault bytes n TooManyLeaves short first = absurd (not_leaves bytes (is_json bytes) n first)

-- bytes of a tree have no fault
module _ (bytes : List ℕ) (T : TreeValue) (text : TreeOf bytes T) where
  t : IsGrowing T
  t = growing_tree T text.tree

  first_none : (n : ℕ) (kind : TreeKind) → IsFirstIn (is_json bytes) bytes n kind → ⊥
  first_none n kind first = none_faulty bytes (is_json bytes) T t text.given text.gives text.has n kind (fault_in bytes (is_json bytes) text.given text.gives n kind first)

  some_edges : (es : List Edge) → HasEdges T es → 1 ≤ length es
  some_edges [] has = few (drop 1 T.parents) (edge_count T t [] has) text.tree.root_children
    where
      few : (ps : List ℕ) → length ps ≡ 0 → 2 ≤ count_by (λ p. p == 0) ps → 1 ≤ 0
      few [] none twice = absurd (omega arith)
      few (p ∷ ps) none twice = absurd (omega arith)
  some_edges (e ∷ es) has = omega arith

  -- all that they make is this tree
  made_is : (S : TreeValue) → Makes bytes S → S ≡ T
  made_is S made =
      let same : made.given ≡ text.given = one_list_given bytes (is_json bytes) S T made.growing t made.given text.given made.has text.has made.gives text.gives in
      same_tree S T made.growing t text.given (subst (HasEdges S) same made.has) text.has (some_edges text.given text.has)

  pub no_fault_in : (n : ℕ) (kind : TreeKind) → FaultIn bytes n kind → ⊥
  no_fault_in n TooLong long = omega (arith, long.1, text.short)
  no_fault_in n BadJson h = first_none n BadJson h.1
  no_fault_in n BadShape h = first_none n BadShape h.1
  no_fault_in n Empty none = omega (arith, none_given_too bytes (is_json bytes) text.given text.gives none.2, some_edges text.given text.has)
  no_fault_in n RootIsLeaf (zero_line, S, made, one) = omega (arith, one, ap root_children (made_is S made), text.tree.root_children)
  no_fault_in n TooManyLeaves (zero_line, S, made, twice, many) = omega (arith, many, ap leaf_count (made_is S made), text.tree.leaves_few)
  no_fault_in n BadByte h = first_none n BadByte h.1
  no_fault_in n WordCount h = first_none n WordCount h.1
  no_fault_in n BadName h = first_none n BadName h.1
  no_fault_in n BadLength h = first_none n BadLength h.1
  no_fault_in n UnknownParent h = first_none n UnknownParent h.1
  no_fault_in n RepeatedName h = first_none n RepeatedName h.1
  no_fault_in n TooManyNodes h = first_none n TooManyNodes h.1

pub no_tree : (bytes : List ℕ) (f : TreeFault) → IsTreeFault bytes f → IsNoTree bytes
no_tree bytes f fault T text = no_fault_in bytes T text f.line f.kind fault

-- bytes are those of one tree
pub one_tree : (bytes : List ℕ) (T U : TreeValue) → TreeOf bytes T → TreeOf bytes U → U ≡ T
one_tree bytes T U first second =
    made_is bytes T first U (makes bytes U (growing_tree U second.tree) tt (second.given, second.gives, second.has) second.short)

pub tree_found : (bytes : List ℕ) (T U : TreeValue) (u : Unit) → length bytes ≤ most_tree_bytes → ReadsEdges (is_json bytes) bytes T (Ok u) → Finishes T (Ok U) → TreeOf bytes U
tree_found bytes T U u short (es, given, has) (is, tree) =
    subst (TreeOf bytes) (sym is) (record { short = short; tree = tree; given = es; gives = given; has = has })
