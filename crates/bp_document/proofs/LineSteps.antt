-- The first fault of a point line and of a node line, and which leaf comes next.
use Rattle.std.proofs.Common.{◌≡◌, ◌≢◌, ℕ, zero, suc, ◌+◌, ◌-◌, ◌<◌, inl, inr, true, false, List, [], ◌∷◌, length, get_or, refl, ◌∙◌, ap, subst, arith, length-append, Option}
use Rattle.std.proofs.lemmas.Bool.{cases_Bool}
use Rattle.std.proofs.lemmas.List.{get_or_at, get_or_append_left}
use Rattle.bp_base.specs.Tree.{TreeValue, has_child, leaf_count, leaf_nodes, node_count}
use Rattle.bp_document.specs.declared.fault.DocKind.{DocKind}
use Rattle.bp_document.specs.declared.fault.DocKind.TheVariants.{TooLong, Trailing, Cut, BadForm, BadTree, BadPoint, BadDepth}
use Rattle.bp_document.specs.declared.form.PointForm.{PointForm}
use Rattle.bp_document.specs.declared.node_line.NodeLine.{NodeLine}
use Rattle.bp_document.specs.Forms.{IsPointForm}
use Rattle.bp_document.specs.Nodes.{IsNodeLine}
use Rattle.bp_document.specs.Places.{AtPoint, AtNode, DepthFits}
use Rattle.bp_document.specs.Faults.{HasKind, IsFirstKind, order}
use Rattle.bp_document.proofs.EdgeSteps.{bad_form}
use Rattle.bp_document.proofs.Leaves.{leaves_before, leaf_here, none_here}

module _ (name bytes : List ℕ) where
  pub no_point : ((f : PointForm) → IsPointForm bytes f.name f.point → ⊥) → IsFirstKind (AtPoint name) bytes true BadForm
  no_point none = bad_form (AtPoint name) bytes (λ h. h) (λ form. none (record { name = form.0; point = form.1 }) form.2)

  pub bad_point : (f : PointForm) → IsPointForm bytes f.name f.point → f.name ≢ name → IsFirstKind (AtPoint name) bytes true BadPoint
  bad_point f form other = record { has = (f.name, f.point, form, other); first = before }
    where
      before : (kind : DocKind) → order kind < 5 → HasKind (AtPoint name) bytes true kind → ⊥
      before TooLong less h = h
      before Trailing less h = h
      before Cut less h = h
      before BadForm less h = h (f.name, f.point, form)
      before BadTree less h = h
      before BadPoint less h = omega (arith, less)
      before BadDepth less h = omega (arith, less)

module _ (most : Option ℕ) (bytes : List ℕ) where
  pub no_node : ((l : NodeLine) → IsNodeLine bytes l → ⊥) → IsFirstKind (AtNode most) bytes true BadForm
  no_node none = bad_form (AtNode most) bytes (λ h. h) (λ form. none form.0 form.1)

  pub bad_depth : (l : NodeLine) → IsNodeLine bytes l → (DepthFits most l.depth → ⊥) → IsFirstKind (AtNode most) bytes true BadDepth
  bad_depth l form unfit = record { has = (l, form, unfit); first = before }
    where
      before : (kind : DocKind) → order kind < 6 → HasKind (AtNode most) bytes true kind → ⊥
      before TooLong less h = h
      before Trailing less h = h
      before Cut less h = h
      before BadForm less h = h (l, form)
      before BadTree less h = h
      before BadPoint less h = h
      before BadDepth less h = omega (arith, less)

-- later nodes leave the leaves before them where they are
kept : (T : TreeValue) (node more k : ℕ) → k < length (leaves_before T node) → (k < length (leaves_before T (node + more))) × (get_or (leaves_before T (node + more)) k 0 ≡ get_or (leaves_before T node) k 0)
kept T node zero k less = let e : node + 0 ≡ node = omega arith in rw e (less, refl)
kept T node (suc more) k less =
    let e : node + suc more ≡ node + more + 1 = omega arith in
    let h = kept T node more k less in
    rw e (elim (cases_Bool (has_child T (node + more))) [
      | inl inner ↦ rw (none_here T (node + more) inner) h
      | inr leaf ↦ rw (leaf_here T (node + more) leaf) (omega (arith, h.0, length-append (leaves_before T (node + more)) ((node + more) ∷ [])), get_or_append_left (leaves_before T (node + more)) ((node + more) ∷ []) 0 k h.0 ∙ h.1)
    ])

-- a leaf stands at the place of its number of leaves before
pub leaf_found : (T : TreeValue) (node place : ℕ) → node < node_count T → has_child T node ≡ false → length (leaves_before T node) ≡ place → (place < leaf_count T) × (get_or (leaf_nodes T) place 0 ≡ node)
leaf_found T node place within leaf count =
    let e : node + 1 + (node_count T - (node + 1)) ≡ node_count T = omega arith in
    let room : place < length (leaves_before T (node + 1)) = omega (arith, count, ap length (leaf_here T node leaf), length-append (leaves_before T node) (node ∷ [])) in
    let h = subst (λ (n : ℕ). (place < length (leaves_before T n)) × (get_or (leaves_before T n) place 0 ≡ get_or (leaves_before T (node + 1)) place 0)) e (kept T (node + 1) (node_count T - (node + 1)) place room) in
    (h.0, h.1 ∙ ap (λ (t : List ℕ). get_or t place 0) (leaf_here T node leaf) ∙ get_or_at (leaves_before T node) node [] 0 place count)

pub leaf_counted : (T : TreeValue) (node leaves : ℕ) → leaves ≡ length (leaves_before T node) → has_child T node ≡ false → leaves + 1 ≡ length (leaves_before T (node + 1))
leaf_counted T node leaves count leaf = omega (arith, count, ap length (leaf_here T node leaf), length-append (leaves_before T node) (node ∷ []))

pub none_counted : (T : TreeValue) (node leaves : ℕ) → leaves ≡ length (leaves_before T node) → has_child T node ≡ true → leaves ≡ length (leaves_before T (node + 1))
none_counted T node leaves count inner = omega (arith, count, ap length (none_here T node inner))
