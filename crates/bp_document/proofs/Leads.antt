-- What a stage stands for leads to its place, and what a line does there.
use Rattle.std.proofs.Common.{◌≡◌, ℕ, ◌<◌, true, false, List, [], ◌∷◌, ◌++◌, length, Bool, Option, None, Some, Result, Ok, Err, refl, sym, subst, arith}
use Rattle.std.specs.Prelude.{nat_lt, if◌then◌else◌}
use Rattle.std.proofs.lemmas.Bool.{ltb-true, ltb-false}
use Rattle.bp_base.specs.Tree.{leaf_count}
use Rattle.bp_tree.specs.declared.edge.Edge.{Edge}
use Rattle.bp_document.specs.declared.fault.DocKind.{DocKind}
use Rattle.bp_document.specs.declared.fault.DocKind.TheVariants.{TooLong, Trailing, Cut, BadForm, BadTree, BadPoint, BadDepth}
use Rattle.bp_document.specs.declared.head.Head.{Head}
use Rattle.bp_document.specs.declared.node_line.NodeLine.{NodeLine}
use Rattle.bp_document.specs.declared.stage.Parts.{Parts}
use Rattle.bp_document.specs.declared.stage.Step.{Step}
use Rattle.bp_document.specs.declared.stage.Fall.{Fall}
use Rattle.bp_document.specs.declared.stage.Stage.{Stage}
use Rattle.bp_document.specs.declared.stage.Stage.TheVariants.{Version, Sheet as SheetStage, Edges, Edge as EdgeStage, Side, Bound, Points, Proof, Nodes, Behind as BehindStage, Broken}
use Rattle.bp_document.specs.Places.{Place, AtPoint, AtFloor, AtNode, AtEnd, Behind, LeadsTo, next_leaf}
use Rattle.bp_document.specs.Faults.{HasKind, IsFirstKind, order}
use Rattle.bp_document.specs.Stages.{Stands, Steps, FeedsStage, GivesNode, IsBeforeNodes, IsOneMore, IsPlain, Cuts, place_of, told_head, head_of}

pub leads : (text : List ℕ) (es : List Edge) (ns : List NodeLine) (s : Stage) → Stands text es ns s → LeadsTo text (place_of s es)
leads text es ns (Version m) st = st.0
leads text es ns (SheetStage m) st = st.0
leads text es ns (Edges G m) st = (G, st.0)
leads text es ns (EdgeStage G count left m) st = (G, st.0, st.1, omega (arith, st.2, st.3), (m.grower, st.4, st.5))
leads text es ns (Side p) st = (head_of p 0 0, st.0, st.1)
leads text es ns (Bound p) st = (head_of p 0 0, st.0, st.1, st.2)
leads text es ns (Points p) st = points_lead (nat_lt (length p.points) (leaf_count p.tree)) refl
  where
    points_lead : (b : Bool) → nat_lt (length p.points) (leaf_count p.tree) ≡ b → LeadsTo text (if b then AtPoint (next_leaf (head_of p 0 0)) else AtFloor)
    points_lead true is = (head_of p 0 0, st.0, st.1, ltb-true (length p.points) (leaf_count p.tree) is, refl)
    points_lead false is = (head_of p 0 0, st.0, st.1, omega (arith, st.2, ltb-false (length p.points) (leaf_count p.tree) is))
leads text es ns (Proof p m side) st = (head_of p m side, st.0, st.1, st.2, st.3)
leads text es ns (Nodes H left most) st = nodes_lead (nat_lt 0 left) refl
  where
    nodes_lead : (b : Bool) → nat_lt 0 left ≡ b → LeadsTo text (if b then AtNode most else AtEnd)
    nodes_lead true is = (H, ns, st.0, st.1, st.2, omega (arith, st.3, ltb-true 0 left is), st.4)
    nodes_lead false is = (H, ns, st.0, st.1, st.2, omega (arith, st.3, ltb-false 0 left is))
leads text es ns (BehindStage H) st = (H, ns, st.0, st.1, st.2, st.3)
leads text es ns (Broken told) st = absurd st

module _ (place : Place) (bytes : List ℕ) (inside : HasKind place bytes false Trailing → ⊥) where
  pub cut_at : IsFirstKind place bytes false Cut
  cut_at = record { has = tt; first = before }
    where
      before : (other : DocKind) → order other < 2 → HasKind place bytes false other → ⊥
      before TooLong less h = h
      before Trailing less h = inside h
      before Cut less h = omega (arith, less)
      before BadForm less h = omega (arith, less)
      before BadTree less h = omega (arith, less)
      before BadPoint less h = omega (arith, less)
      before BadDepth less h = omega (arith, less)

pub trailing_at : (bytes : List ℕ) (ended : Bool) → IsFirstKind Behind bytes ended Trailing
trailing_at bytes ended = record { has = tt; first = before }
  where
    before : (other : DocKind) → order other < 1 → HasKind Behind bytes ended other → ⊥
    before TooLong less h = h
    before Trailing less h = omega (arith, less)
    before Cut less h = omega (arith, less)
    before BadForm less h = omega (arith, less)
    before BadTree less h = omega (arith, less)
    before BadPoint less h = omega (arith, less)
    before BadDepth less h = omega (arith, less)

pub inside_points : (name : List ℕ) (bytes : List ℕ) (b : Bool) → HasKind (if b then AtPoint name else AtFloor) bytes false Trailing → ⊥
inside_points name bytes true h = h
inside_points name bytes false h = h

pub inside_nodes : (most : Option ℕ) (bytes : List ℕ) (b : Bool) → HasKind (if b then AtNode most else AtEnd) bytes false Trailing → ⊥
inside_nodes most bytes true h = h
inside_nodes most bytes false h = h

-- the first fault of a line without LF
pub cuts : (s : Stage) (fall : Fall) → fall ≡ (record { head = told_head s; kind = Cut }) → ((es : List Edge) → (bytes : List ℕ) → HasKind (place_of s es) bytes false Trailing → ⊥) → Cuts s fall
cuts s fall is inside = subst (Cuts s) (sym is) (refl, λ bytes es. cut_at (place_of s es) bytes (inside es bytes))

pub cuts_behind : (s : Stage) (fall : Fall) → fall ≡ (record { head = told_head s; kind = Trailing }) → ((es : List Edge) → place_of s es ≡ Behind) → Cuts s fall
cuts_behind s fall is behind = subst (Cuts s) (sym is) (refl, λ bytes es. subst (λ (place : Place). IsFirstKind place bytes false Trailing) (sym (behind es)) (trailing_at bytes false))

pub cuts_points : (p : Parts) (fall : Fall) → fall ≡ (record { head = None; kind = Cut }) → Cuts (Points p) fall
cuts_points p fall is = cuts (Points p) fall is (λ es bytes. inside_points (next_leaf (head_of p 0 0)) bytes (nat_lt (length p.points) (leaf_count p.tree)))

pub cuts_nodes : (H : Head) (left : ℕ) (most : Option ℕ) (fall : Fall) → fall ≡ (record { head = Some H; kind = Cut }) → Cuts (Nodes H left most) fall
cuts_nodes H left most fall is = cuts (Nodes H left most) fall is (λ es bytes. inside_nodes most bytes (nat_lt 0 left))

pub gives_point : (name : List ℕ) (bytes : List ℕ) (b : Bool) → GivesNode (if b then AtPoint name else AtFloor) bytes None
gives_point name bytes true = tt
gives_point name bytes false = tt

-- a step of a stage before the nodes
pub plain_steps : (s : Stage) (bytes : List ℕ) (r : Result Stage DocKind) (out : Result Step Fall) → IsBeforeNodes s → told_head s ≡ None → ((es : List Edge) → GivesNode (place_of s es) bytes None) → FeedsStage s bytes r → IsOneMore s r → IsPlain r out → Steps s bytes true out
plain_steps s bytes (Ok s') out early none gives fed more plain = subst (Steps s bytes true) (sym plain) (
  refl,
  record {
    whole = more.0;
    before = λ h. (early, refl);
    within = more.1;
    on = λ text es ns stands empty.
        let no : ns ≡ [] = empty early in
        let next = fed text es (subst (λ (n : List NodeLine). Stands text es n s) no stands) in
        (next.0, next.1, gives es, subst (λ (n : List NodeLine). Stands (text ++ (bytes ++ 10 ∷ [])) next.0 n s') (sym no) next.2);
  },
)
plain_steps s bytes (Err kind) out early none gives fed more plain = subst (Steps s bytes true) (sym plain) (
  sym none,
  λ text es ns stands empty. fed text es (subst (λ (n : List NodeLine). Stands text es n s) (empty early) stands),
)

-- a step at the stage that it is
pub plain_at : (s t : Stage) (bytes : List ℕ) (ended : Bool) (out : Result Step Fall) → s ≡ t → ended ≡ true → Steps t bytes true out → Steps s bytes ended out
plain_at s t bytes ended out same is steps = subst (λ (u : Stage). Steps u bytes ended out) (sym same) (subst (λ (b : Bool). Steps t bytes b out) (sym is) steps)

-- a line without its LF
pub cut_steps : (s : Stage) (bytes : List ℕ) (ended : Bool) (fall : Fall) → ended ≡ false → Cuts s fall → Steps s bytes ended (Err fall)
cut_steps s bytes ended fall is cut =
    (cut.0, λ text es ns stands empty. subst (λ (b : Bool). IsFirstKind (place_of s es) bytes b fall.kind) (sym is) (cut.1 bytes es))
