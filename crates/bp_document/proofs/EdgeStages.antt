-- An edge line leads on to the next, and the last one to the side.
use Rattle.std.proofs.Common.{◌≡◌, ℕ, ◌-◌, ◌<◌, ◌≤◌, List, [], ◌∷◌, ◌++◌, length, decimal, Ok, Err, sym, ◌∙◌, ap, arith, append_assoc}
use Rattle.std.specs.Prelude.{codes}
use Rattle.std.specs.List.{flat_map}
use Rattle.std.proofs.lemmas.Grind.{flat_map-append}
use Rattle.std.proofs.lemmas.List.{append-nil, length-append, length-drop, length-map}
use Rattle.std.proofs.lemmas.List.Folds.{flat_map-map}
use Rattle.bp_base.specs.declared.point.Sheet.{Sheet}
use Rattle.bp_base.specs.Tree.{TreeValue, IsTree, edges, node_count}
use Rattle.bp_tree.specs.declared.edge.Edge.{Edge}
use Rattle.bp_tree.specs.Edges.{HasEdges, IsGrowing}
use Rattle.bp_tree.proofs.ReadBack.{edges_are, edge_of}
use Rattle.bp_document.specs.declared.fault.DocKind.{DocKind}
use Rattle.bp_document.specs.declared.stage.Memory.{Memory}
use Rattle.bp_document.specs.declared.stage.Stage.{Stage}
use Rattle.bp_document.specs.Lines.{line}
use Rattle.bp_document.specs.Text.{edge_lines}
use Rattle.bp_document.specs.Forms.{edge_text}
use Rattle.bp_document.specs.Places.{edges_part}
use Rattle.bp_document.specs.Feeding.{FeedsEdge, FeedsLastEdge}
use Rattle.bp_document.specs.Stages.{FeedsStage}
use Rattle.bp_document.proofs.BodySteps.{extended}

-- one edge more
edges_more : (E : ℕ) (es : List Edge) (e : Edge) → edges_part E es ++ edge_text e ≡ edges_part E (es ++ e ∷ [])
edges_more E es e =
    append_assoc (line (codes "edges") (decimal E ∷ [])) (flat_map edge_text es) (edge_text e)
    ∙ ap (λ (t : List ℕ). line (codes "edges") (decimal E ∷ []) ++ t)
    (ap (λ (t : List ℕ). flat_map edge_text es ++ t) (sym (append-nil (edge_text e))) ∙ sym (flat_map-append edge_text es (e ∷ [])))

-- all edges are the lines of their tree
pub edges_whole : (T : TreeValue) → IsTree T → (E : ℕ) (es : List Edge) → HasEdges T es → node_count T - 1 ≡ E → edges_part E es ≡ edge_lines T
unfolding edge_lines
edges_whole T is E es has count =
    ap (λ (n : ℕ). line (codes "edges") (decimal n ∷ []) ++ flat_map edge_text es) (sym count)
    ∙ ap (λ (t : List ℕ). line (codes "edges") (decimal (node_count T - 1) ∷ []) ++ t)
    (ap (flat_map edge_text) (edges_are T is es has) ∙ flat_map-map edge_text (edge_of T is) (edges T))

module _ (G : Sheet) (count left : ℕ) (m : Memory) (bytes : List ℕ) where
  pub edge_fed : (T : TreeValue) → FeedsEdge m.grower bytes T (Ok tt) → IsGrowing T → 1 < left → FeedsStage (Stage.Edge G count left m) bytes (Ok (Stage.Edge G count (left - 1) (record { grower = T; points = m.points; leaves = m.leaves })))
  edge_fed T fed growing more text es stands =
      let start = stands.0 in
      let e = fed.0 in
      let here : text ++ (bytes ++ 10 ∷ []) ≡ start.0 ++ edges_part count (es ++ e ∷ []) =
      extended text start.0 (edges_part count es) (bytes ++ 10 ∷ []) (edge_text e) start.2 fed.1.text ∙ ap (λ (t : List ℕ). start.0 ++ t) (edges_more count es e) in
      (es ++ e ∷ [], (e, fed.1), ((start.0, start.1, here), stands.1, omega (arith, more), omega (arith, more, stands.3, length-append es (e ∷ [])), fed.3 es stands.4, growing, stands.6, stands.7))

  pub edge_refused : (T : TreeValue) (kind : DocKind) → FeedsEdge m.grower bytes T (Err kind) → 1 < left → FeedsStage (Stage.Edge G count left m) bytes (Err kind)
  edge_refused T kind fed more text es stands = fed count es stands.4 stands.1 (omega (arith, more, stands.3))

  pub last_refused : (kind : DocKind) → FeedsLastEdge m.grower bytes (Err kind) → left ≤ 1 → FeedsStage (Stage.Edge G count left m) bytes (Err kind)
  last_refused kind fed last text es stands = fed count es stands.4 stands.1 (omega (arith, last, stands.2, stands.3))

  pub last_fed : (T : TreeValue) → FeedsLastEdge m.grower bytes (Ok T) → left ≤ 1 → FeedsStage (Stage.Edge G count left m) bytes (Ok (Stage.Side (record { sheet = G; tree = T; side = 0; bound = 0; points = m.points; leaves = m.leaves })))
  last_fed T fed last text es stands =
      let start = stands.0 in
      let e = fed.0 in
      let has : HasEdges T (es ++ e ∷ []) = fed.4 es stands.4 in
      let all : node_count T - 1 ≡ count = omega (arith, ap length has.lengths, last, stands.2, stands.3, length-append es (e ∷ []), length-drop 1 T.lengths, fed.3.lengths_as_parents, length-map (es ++ e ∷ []) (λ (e : Edge). e.length)) in
      let here : text ++ (bytes ++ 10 ∷ []) ≡ start.0 ++ edge_lines T =
      extended text start.0 (edges_part count es) (bytes ++ 10 ∷ []) (edge_text e) start.2 fed.1.text
      ∙ ap (λ (t : List ℕ). start.0 ++ t) (edges_more count es e ∙ edges_whole T fed.3 count (es ++ e ∷ []) has all) in
      ([], (e, fed.1), ((start.0, start.1, here), fed.3, (stands.6, stands.7)))
