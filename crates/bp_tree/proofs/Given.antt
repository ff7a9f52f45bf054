-- The edges that bytes give, in either form.
use Rattle.std.proofs.Common.{◌≡◌, ℕ, Bool, true, false, List, [], length, take, sym, ◌∙◌, ap, subst, arith}
use Rattle.std.proofs.lemmas.List.{length-map, take_all}
use Rattle.bp_base.specs.Tree.{TreeValue}
use Rattle.bp_tree.specs.declared.edge.Edge.{Edge}
use Rattle.bp_tree.specs.declared.fault.TreeKind.{TreeKind}
use Rattle.bp_tree.specs.Lines.{lines_of}
use Rattle.bp_tree.specs.Edges.{HasEdges, IsGrowing, edge_words}
use Rattle.bp_tree.specs.Text.{GivesIn}
use Rattle.bp_tree.specs.Faults.{HasFaultIn, IsFirstIn}
use Rattle.bp_tree.specs.Calls.{GrewFrom}
use Rattle.bp_tree.proofs.OneTree.{same_edges}
use Rattle.bp_tree.proofs.Faultless.{no_fault, no_element_fault}
use Rattle.bp_tree.proofs.JsonForm.{one_given, given_fault}

module _ (bytes : List ℕ) where
  -- bytes give one list of edges
  pub one_list_given : (form : Bool) (S T : TreeValue) → IsGrowing S → IsGrowing T → (es fs : List Edge) → HasEdges S es → HasEdges T fs → GivesIn form bytes es → GivesIn form bytes fs → es ≡ fs
  one_list_given true S T s t es fs has_s has_t first second = one_given bytes es fs first second
  one_list_given false S T s t es fs has_s has_t first second = same_edges S T s t es fs has_s has_t (sym first ∙ second)

  pub none_given_too : (form : Bool) (es : List Edge) → GivesIn form bytes es → GivesIn form bytes [] → length es ≡ 0
  none_given_too true es gives none = ap length (one_given bytes es [] gives none)
  none_given_too false es gives none = omega (arith, length-map es edge_words, ap length (sym gives ∙ none))

  -- edges of a growing tree have no fault
  pub none_faulty : (form : Bool) (T : TreeValue) → IsGrowing T → (es : List Edge) → GivesIn form bytes es → HasEdges T es → (n : ℕ) (kind : TreeKind) → HasFaultIn form bytes n kind → ⊥
  none_faulty true T t es gives has n kind (fs, given, fault) =
      let same : es ≡ fs = one_given bytes es fs gives given in
      let all : take (length fs) fs ≡ es = take_all (length fs) fs (omega arith) ∙ sym same in
      no_element_fault fs (length fs) T t (omega arith) (subst (HasEdges T) (sym all) has) n kind fault.0.1 fault
  none_faulty false T t es gives has n kind fault =
      let all : take (length (lines_of bytes)) (lines_of bytes) ≡ lines_of bytes = take_all (length (lines_of bytes)) (lines_of bytes) (omega arith) in
      no_fault (lines_of bytes) (length (lines_of bytes)) T t (omega arith) (subst (λ (ls : List (List ℕ)). GrewFrom ls T) (sym all) (es, gives, has)) n kind fault.0.to fault

  -- where edges are given, what is the first fault is a fault of a line or an element
  pub fault_in : (form : Bool) (es : List Edge) → GivesIn form bytes es → (n : ℕ) (kind : TreeKind) → IsFirstIn form bytes n kind → HasFaultIn form bytes n kind
  fault_in true es gives n kind first = given_fault bytes es n kind gives first
  fault_in false es gives n kind first = (first.row, first.has.has)
