-- A text without fault, line by line: each line leads from what the lines before it told to one thing more.
use Rattle.std.proofs.Common.{◌≡◌, ℕ, ◌+◌, ◌<◌, ◌≤◌, ◌⊎◌, inl, inr, true, List, [], ◌∷◌, ◌++◌, length, Bool, Option, None, refl, sym, ◌∙◌, ap, subst, arith, length-append}
use Rattle.std.specs.Prelude.{codes, nat_lt, if◌then◌else◌}
use Rattle.std.specs.List.{flat_map}
use Rattle.std.proofs.lemmas.Bool.{lt-ltb, le-ltb}
use Rattle.std.proofs.lemmas.Grind.{flat_map-append}
use Rattle.std.proofs.lemmas.List.{append-nil}
use Rattle.bp_base.specs.declared.point.Floor.{Floor}
use Rattle.bp_base.specs.declared.point.Point.{Point}
use Rattle.bp_base.specs.declared.point.Sheet.{Sheet}
use Rattle.bp_base.specs.declared.point.Sheet.TheVariants.{Square}
use Rattle.bp_base.specs.Tree.{TreeValue, IsTree, leaf_count}
use Rattle.bp_tree.specs.declared.edge.Edge.{Edge}
use Rattle.bp_tree.specs.Edges.{HasEdges}
use Rattle.bp_tree.proofs.OneTree.{same_tree}
use Rattle.bp_tree.proofs.TwoLeaves.{growing_tree}
use Rattle.bp_document.specs.declared.fault.DocKind.{DocKind}
use Rattle.bp_document.specs.declared.fault.DocKind.TheVariants.{TooLong, Trailing, Cut, BadForm, BadTree, BadPoint, BadDepth}
use Rattle.bp_document.specs.declared.head.Head.{Head}
use Rattle.bp_document.specs.declared.node_line.NodeLine.{NodeLine}
use Rattle.bp_document.specs.Lines.{line, word}
use Rattle.bp_document.specs.Forms.{IsLine, IsSheetLine, IsField, IsEdgeCount, IsEdgeForm, IsPointForm, IsFloorForm, IsProofForm, version_line, end_line}
use Rattle.bp_document.specs.Nodes.{IsNodeLine}
use Rattle.bp_document.specs.Places.{Place, AtVersion, AtSheet, AtEdges, AtEdge, AtSide, AtBound, AtPoint, AtFloor, AtProof, AtNode, AtEnd, Behind, DepthFits, deepest_behind, next_leaf, count_of}
use Rattle.bp_document.specs.Faults.{HasForm, HasKind, IsBadEdge}
use Rattle.bp_document.proofs.Spelling.{IsTidy, tidy_code, form_short, IsShortLine}
use Rattle.bp_document.proofs.OneForm.{version_differs, field_one, sheet_one, edge_one, point_one, floor_one, proof_one, node_one}

-- What the lines so far told. A head has 0 or nothing where no line told yet.
pub data State : Type 0 where
  SVersion : State
  SSheet : State
  SEdges : Sheet → State
  SEdge : Sheet → ℕ → List Edge → State
  SSide : Head → State
  SBound : Head → State
  SPoints : Head → State
  SProof : Head → State
  SNodes : Head → List NodeLine → State
  SBehind : Head → List NodeLine → State

abbrev pub tree_head : Sheet → TreeValue → Head
tree_head G T = record { tree = T; side = 0; bound = 0; points = []; floor = record { m = 0; leaves = []; side = 0 }; proof = None; sheet = G }

abbrev point_place : Head → Bool → Place
point_place H b = if b then AtPoint (next_leaf H) else AtFloor

abbrev node_place : List NodeLine → Bool → Place
node_place ns b = if b then AtNode (deepest_behind None ns) else AtEnd

abbrev pub place_at : State → Place
place_at SVersion = AtVersion
place_at SSheet = AtSheet
place_at (SEdges G) = AtEdges
place_at (SEdge G E es) = AtEdge E es
place_at (SSide H) = AtSide
place_at (SBound H) = AtBound
place_at (SPoints H) = point_place H (nat_lt (length H.points) (leaf_count H.tree))
place_at (SProof H) = AtProof
place_at (SNodes H ns) = node_place ns (nat_lt (length ns) (count_of H.proof))
place_at (SBehind H ns) = Behind

-- the next edge, or the side behind the last one
abbrev pub EdgeNext : Sheet → ℕ → List Edge → Edge → State → Type 0
EdgeNext G E es e S =
    ((length es + 1 < E) × (S ≡ SEdge G E (es ++ e ∷ [])))
    ⊎ ((length es + 1 ≡ E) × (T : TreeValue) × IsTree T × HasEdges T (es ++ e ∷ []) × (S ≡ SSide (tree_head G T)))

-- the line has no fault, and leads from one state to the next
abbrev pub Goes : State → List ℕ → State → Type 0
Goes SVersion b S = (IsLine b (version_line 1) × (S ≡ SEdges Square)) ⊎ (IsLine b (version_line 2) × (S ≡ SSheet))
Goes SSheet b S = (G : Sheet) × IsSheetLine b G × (S ≡ SEdges G)
Goes (SEdges G) b S = (E : ℕ) × IsField (codes "edges") b E × IsEdgeCount E × (S ≡ SEdge G E [])
Goes (SEdge G E es) b S = (e : Edge) × IsEdgeForm b e × (IsBadEdge E es e → ⊥) × EdgeNext G E es e S
Goes (SSide H) b S = (n : ℕ) × IsField (codes "side") b n × (S ≡ SBound (record H { side = n }))
Goes (SBound H) b S = (n : ℕ) × IsField (codes "bound") b n × (S ≡ SPoints (record H { bound = n }))
Goes (SPoints H) b S =
    ((length H.points < leaf_count H.tree) × (p : Point) × IsPointForm b (next_leaf H) p × (S ≡ SPoints (record H { points = H.points ++ p ∷ [] })))
    ⊎ ((leaf_count H.tree ≤ length H.points) × (f : Floor) × IsFloorForm b f × (S ≡ SProof (record H { floor = f })))
Goes (SProof H) b S = (c : Option ℕ) × IsProofForm b c × (S ≡ SNodes (record H { proof = c }) [])
Goes (SNodes H ns) b S =
    ((length ns < count_of H.proof) × (l : NodeLine) × IsNodeLine b l × DepthFits (deepest_behind None ns) l.depth × (S ≡ SNodes H (ns ++ l ∷ [])))
    ⊎ ((count_of H.proof ≤ length ns) × IsLine b end_line × (S ≡ SBehind H ns))
Goes (SBehind H ns) b S = ⊥

key_edges : IsTidy 9 (codes "edges")
key_edges = tidy_code (codes "edges") refl refl (omega arith)

key_side : IsTidy 9 (codes "side")
key_side = tidy_code (codes "side") refl refl (omega arith)

key_bound : IsTidy 9 (codes "bound")
key_bound = tidy_code (codes "bound") refl refl (omega arith)

-- a line leads to one state
module _ (b : List ℕ) (S U : State) where
  one_edge_next : (G : Sheet) (E : ℕ) (es : List Edge) (e : Edge) → EdgeNext G E es e S → EdgeNext G E es e U → S ≡ U
  one_edge_next G E es e (inl x) (inl y) = x.1 ∙ sym y.1
  one_edge_next G E es e (inl x) (inr y) = absurd (omega (arith, x.0, y.0))
  one_edge_next G E es e (inr x) (inl y) = absurd (omega (arith, x.0, y.0))
  one_edge_next G E es e (inr x) (inr y) =
      let same : x.1 ≡ y.1 = same_tree x.1 y.1 (growing_tree x.1 x.2) (growing_tree y.1 y.2) (es ++ e ∷ []) x.3 y.3 (omega (arith, length-append es (e ∷ []))) in
      x.4 ∙ ap (λ (T : TreeValue). SSide (tree_head G T)) same ∙ sym y.4

  pub one_next : (R : State) → Goes R b S → Goes R b U → S ≡ U
  one_next SVersion (inl x) (inl y) = x.1 ∙ sym y.1
  one_next SVersion (inl x) (inr y) = absurd (version_differs b x.0 y.0)
  one_next SVersion (inr x) (inl y) = absurd (version_differs b y.0 x.0)
  one_next SVersion (inr x) (inr y) = x.1 ∙ sym y.1
  one_next SSheet x y = x.2 ∙ ap SEdges (sheet_one b x.0 y.0 x.1 y.1) ∙ sym y.2
  one_next (SEdges G) x y = x.3 ∙ ap (λ (E : ℕ). SEdge G E []) (field_one b (codes "edges") key_edges x.0 y.0 x.1 y.1) ∙ sym y.3
  one_next (SEdge G E es) x y =
      one_edge_next G E es x.0 x.3 (subst (λ (e : Edge). EdgeNext G E es e U) (edge_one b y.0 x.0 y.1 x.1) y.3)
  one_next (SSide H) x y = x.2 ∙ ap (λ (n : ℕ). SBound (record H { side = n })) (field_one b (codes "side") key_side x.0 y.0 x.1 y.1) ∙ sym y.2
  one_next (SBound H) x y = x.2 ∙ ap (λ (n : ℕ). SPoints (record H { bound = n })) (field_one b (codes "bound") key_bound x.0 y.0 x.1 y.1) ∙ sym y.2
  one_next (SPoints H) (inl x) (inl y) = x.3 ∙ ap (λ (p : Point). SPoints (record H { points = H.points ++ p ∷ [] })) (point_one b (next_leaf H) (next_leaf H) x.1 y.1 x.2 y.2).1 ∙ sym y.3
  one_next (SPoints H) (inl x) (inr y) = absurd (omega (arith, x.0, y.0))
  one_next (SPoints H) (inr x) (inl y) = absurd (omega (arith, x.0, y.0))
  one_next (SPoints H) (inr x) (inr y) = x.3 ∙ ap (λ (f : Floor). SProof (record H { floor = f })) (floor_one b x.1 y.1 x.2 y.2) ∙ sym y.3
  one_next (SProof H) x y = x.2 ∙ ap (λ (c : Option ℕ). SNodes (record H { proof = c }) []) (proof_one b x.0 y.0 x.1 y.1) ∙ sym y.2
  one_next (SNodes H ns) (inl x) (inl y) = x.4 ∙ ap (λ (l : NodeLine). SNodes H (ns ++ l ∷ [])) (node_one b x.1 y.1 x.2 y.2) ∙ sym y.4
  one_next (SNodes H ns) (inl x) (inr y) = absurd (omega (arith, x.0, y.0))
  one_next (SNodes H ns) (inr x) (inl y) = absurd (omega (arith, x.0, y.0))
  one_next (SNodes H ns) (inr x) (inr y) = x.2 ∙ sym y.2
  one_next (SBehind H ns) x y = absurd x

-- A line of its form that has no fault of its own kind has none.
module _ (place : Place) (b : List ℕ) (form : HasForm place b) (inside : HasKind place b true Trailing → ⊥) (tree : HasKind place b true BadTree → ⊥) (point : HasKind place b true BadPoint → ⊥) (depth : HasKind place b true BadDepth → ⊥) where
  faultless : (kind : DocKind) → HasKind place b true kind → ⊥
  faultless TooLong h = h
  faultless Trailing h = inside h
  faultless Cut h = h
  faultless BadForm h = h form
  faultless BadTree h = tree h
  faultless BadPoint h = point h
  faultless BadDepth h = depth h

module _ (b : List ℕ) (S : State) where
  abbrev IsFineAt : Place → Type 0
  IsFineAt place = HasForm place b × ((kind : DocKind) → HasKind place b true kind → ⊥)

  version_fine : Goes SVersion b S → IsFineAt AtVersion
  version_fine (inl x) = let form : HasForm AtVersion b = inl x.0 in (form, faultless AtVersion b form (λ h. h) (λ h. h) (λ h. h) (λ h. h))
  version_fine (inr x) = let form : HasForm AtVersion b = inr x.0 in (form, faultless AtVersion b form (λ h. h) (λ h. h) (λ h. h) (λ h. h))

  edge_fine : (G : Sheet) (E : ℕ) (es : List Edge) → Goes (SEdge G E es) b S → IsFineAt (AtEdge E es)
  edge_fine G E es x =
      let form : HasForm (AtEdge E es) b = (x.0, x.1) in
      (form, faultless (AtEdge E es) b form (λ h. h) (λ h. x.2 (subst (IsBadEdge E es) (edge_one b h.0 x.0 h.1 x.1) h.2)) (λ h. h) (λ h. h))

  points_fine : (H : Head) → Goes (SPoints H) b S → IsFineAt (place_at (SPoints H))
  points_fine H (inl x) =
      let place : Place = AtPoint (next_leaf H) in
      let form : HasForm (AtPoint (next_leaf H)) b = (next_leaf H, x.1, x.2) in
      subst IsFineAt (sym (ap (point_place H) (lt-ltb (length H.points) (leaf_count H.tree) x.0)))
      (form, faultless (AtPoint (next_leaf H)) b form (λ h. h) (λ h. h) (λ h. h.3 (point_one b h.0 (next_leaf H) h.1 x.1 h.2 x.2).0) (λ h. h))
  points_fine H (inr x) =
      let form : HasForm AtFloor b = (x.1, x.2) in
      subst IsFineAt (sym (ap (point_place H) (le-ltb (length H.points) (leaf_count H.tree) x.0)))
      (form, faultless AtFloor b form (λ h. h) (λ h. h) (λ h. h) (λ h. h))

  nodes_fine : (H : Head) (ns : List NodeLine) → Goes (SNodes H ns) b S → IsFineAt (place_at (SNodes H ns))
  nodes_fine H ns (inl x) =
      let most : Option ℕ = deepest_behind None ns in
      let form : HasForm (AtNode (deepest_behind None ns)) b = (x.1, x.2) in
      subst IsFineAt (sym (ap (node_place ns) (lt-ltb (length ns) (count_of H.proof) x.0)))
      (form, faultless (AtNode (deepest_behind None ns)) b form (λ h. h) (λ h. h) (λ h. h) (λ h. h.2 (subst (λ (l : NodeLine). DepthFits (deepest_behind None ns) l.depth) (node_one b x.1 h.0 x.2 h.1) x.3)))
  nodes_fine H ns (inr x) =
      let form : HasForm AtEnd b = x.1 in
      subst IsFineAt (sym (ap (node_place ns) (le-ltb (length ns) (count_of H.proof) x.0)))
      (form, faultless AtEnd b form (λ h. h) (λ h. h) (λ h. h) (λ h. h))

  -- a line that leads on has its form, and no fault
  pub fine : (R : State) → Goes R b S → IsFineAt (place_at R)
  fine SVersion x = version_fine x
  fine SSheet x = let form : HasForm AtSheet b = (x.0, x.1) in (form, faultless AtSheet b form (λ h. h) (λ h. h) (λ h. h) (λ h. h))
  fine (SEdges G) x = let form : HasForm AtEdges b = (x.0, x.1, x.2) in (form, faultless AtEdges b form (λ h. h) (λ h. h) (λ h. h) (λ h. h))
  fine (SEdge G E es) x = edge_fine G E es x
  fine (SSide H) x = let form : HasForm AtSide b = (x.0, x.1) in (form, faultless AtSide b form (λ h. h) (λ h. h) (λ h. h) (λ h. h))
  fine (SBound H) x = let form : HasForm AtBound b = (x.0, x.1) in (form, faultless AtBound b form (λ h. h) (λ h. h) (λ h. h) (λ h. h))
  fine (SPoints H) x = points_fine H x
  fine (SProof H) x = let form : HasForm AtProof b = (x.0, x.1) in (form, faultless AtProof b form (λ h. h) (λ h. h) (λ h. h) (λ h. h))
  fine (SNodes H ns) x = nodes_fine H ns x
  fine (SBehind H ns) x = absurd x

  pub goes_short : (R : State) → Goes R b S → IsShortLine b
  goes_short R x = form_short (place_at R) b (fine R x).0

-- lines one behind the other
abbrev pub unlines : List (List ℕ) → List ℕ
unlines bs = flat_map (λ (b : List ℕ). b ++ 10 ∷ []) bs

abbrev pub Run : State → List (List ℕ) → State → Type 0
Run S [] U = S ≡ U
Run S (b ∷ bs) U = (M : State) × Goes S b M × Run M bs U

-- the lines of the text lead to this state
pub record Reaches (text : List ℕ) (S : State) : Type 0 where
  pub lines : List (List ℕ)
  pub run : Run SVersion lines S
  pub is : text ≡ unlines lines

run_more : (bs : List (List ℕ)) (S M U : State) (b : List ℕ) → Run S bs M → Goes M b U → Run S (bs ++ b ∷ []) U
run_more [] S M U b same goes = (U, subst (λ (X : State). Goes X b U) (sym same) goes, refl)
run_more (c ∷ bs) S M U b run goes = (run.0, run.1, run_more bs run.0 M U b run.2 goes)

-- a line more
pub reach_more : (text : List ℕ) (S : State) (b : List ℕ) (U : State) (l : List ℕ) → Reaches text S → Goes S b U → b ++ 10 ∷ [] ≡ l → Reaches (text ++ l) U
reach_more text S b U l reaches goes here =
    record {
      lines = reaches.lines ++ b ∷ [];
      run = run_more reaches.lines SVersion S U b reaches.run goes;
      is =
          ap (λ (t : List ℕ). t ++ l) reaches.is ∙ ap (λ (t : List ℕ). unlines reaches.lines ++ t) (sym here ∙ sym (append-nil (b ++ 10 ∷ [])))
          ∙ sym (flat_map-append (λ (c : List ℕ). c ++ 10 ∷ []) reaches.lines (b ∷ []));
    }

pub moved : (t u : List ℕ) (S U : State) → t ≡ u → S ≡ U → Reaches t S → Reaches u U
moved t u S U same is reaches = subst (λ (v : List ℕ). Reaches v U) same (subst (Reaches t) is reaches)

-- a line without its LF
abbrev pub bare : List ℕ → List (List ℕ) → List ℕ
bare k ws = k ++ flat_map word ws

pub bare_line : (k : List ℕ) (ws : List (List ℕ)) → IsLine (bare k ws) (line k ws)
unfolding line
bare_line k ws = refl
