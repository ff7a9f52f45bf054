-- A text that leads to a place has lines that lead there.
use Rattle.std.proofs.Common.{◌≡◌, ℕ, suc, ◌+◌, ◌-◌, ◌<◌, ◌≤◌, inl, inr, List, [], ◌∷◌, ◌++◌, length, get_or, take, drop, map, ◌==◌, All, Option, None, Some, refl, sym, ◌∙◌, ap, subst, arith, append_assoc, length-append}
use Rattle.std.specs.Prelude.{codes, decimal}
use Rattle.std.specs.List.{flat_map}
use Rattle.std.proofs.lemmas.Grind.{flat_map-append}
use Rattle.std.proofs.lemmas.List.{append-nil, length-drop, length-take-le}
use Rattle.std.proofs.lemmas.List.Sums.{count_by-le-length}
use Rattle.std.proofs.lemmas.List.Elements.{All-get_or}
use Rattle.bp_base.specs.declared.point.Point.{Point}
use Rattle.bp_base.specs.declared.point.Sheet.{Sheet}
use Rattle.bp_base.specs.declared.point.Sheet.TheVariants.{Square, Strip}
use Rattle.bp_base.specs.Limits.{most_number}
use Rattle.bp_base.specs.Name.{IsName}
use Rattle.bp_base.specs.Tree.{TreeValue, IsTree, edges, leaf_count, leaf_nodes, name_of, node_count}
use Rattle.bp_metric.proofs.Distances.{leaf_nodes_within}
use Rattle.bp_tree.specs.declared.edge.Edge.{Edge}
use Rattle.bp_tree.specs.Edges.{HasEdges, IsGrowing}
use Rattle.bp_tree.proofs.Faultless.{good_upper, good_lower}
use Rattle.bp_tree.proofs.Growth.{edge_count}
use Rattle.bp_tree.proofs.ReadBack.{edge_of, has_edges}
use Rattle.bp_tree.proofs.TwoLeaves.{growing_tree}
use Rattle.bp_document.specs.declared.head.Head.{Head}
use Rattle.bp_document.specs.declared.node_line.NodeLine.{NodeLine}
use Rattle.bp_document.specs.Lines.{line, sheet_line, point_line}
use Rattle.bp_document.specs.Text.{edge_lines, point_lines}
use Rattle.bp_base.specs.Point.{IsSmallPoint}
use Rattle.bp_document.specs.Forms.{IsLine, IsEdgeCount, IsEdgeForm, IsPointForm, edge_text, version_line, end_line}
use Rattle.bp_document.specs.FormWords.{sheet_words}
use Rattle.bp_document.specs.NodeWords.{kind_words}
use Rattle.bp_document.specs.Nodes.{IsKindOfNumbers, IsNodeLine, node_text}
use Rattle.bp_document.specs.Places.{IsStart, DepthFits, Follow, deepest, deepest_behind, next_leaf, count_of}
use Rattle.bp_document.proofs.NodeLines.{kind_line_is}
use Rattle.bp_document.proofs.EdgeStages.{edges_whole}
use Rattle.bp_document.proofs.HeadSteps.{point_lines_more}
use Rattle.bp_document.proofs.EdgeGoes.{good_edge, small_length, makes_tree, last_edge}
use Rattle.bp_document.proofs.Runs.{SVersion, SSheet, SEdges, SEdge, SSide, SBound, SPoints, SNodes, SBehind, tree_head, Reaches, reach_more, moved, bare, bare_line}

pub reach_nothing : Reaches [] SVersion
reach_nothing = record { lines = []; run = refl; is = refl }

sheet_line_is : (G : Sheet) → sheet_line G ≡ line (codes "sheet") (sheet_words G)
sheet_line_is Square = refl
sheet_line_is (Strip width) = refl

pub reach_version : Reaches (version_line 2) SSheet
reach_version = reach_more [] SVersion (bare (codes "boxpleat") (decimal 2 ∷ [])) SSheet (version_line 2) reach_nothing (inr (bare_line (codes "boxpleat") (decimal 2 ∷ []), refl)) (bare_line (codes "boxpleat") (decimal 2 ∷ []))

pub reach_start : (text : List ℕ) (G : Sheet) → IsStart text G → Reaches text (SEdges G)
reach_start text G (inl first) =
    let here = bare_line (codes "boxpleat") (decimal 1 ∷ []) in
    moved (version_line 1) text (SEdges Square) (SEdges G) (sym first.0) (ap SEdges (sym first.1))
    (reach_more [] SVersion (bare (codes "boxpleat") (decimal 1 ∷ [])) (SEdges Square) (version_line 1) reach_nothing (inl (here, refl)) here)
reach_start text G (inr second) =
    let here : IsLine (bare (codes "sheet") (sheet_words G)) (sheet_line G) = bare_line (codes "sheet") (sheet_words G) ∙ sym (sheet_line_is G) in
    moved (version_line 2 ++ sheet_line G) text (SEdges G) (SEdges G) (sym second.0) refl
    (reach_more (version_line 2) SSheet (bare (codes "sheet") (sheet_words G)) (SEdges G) (sheet_line G) reach_version (G, record { text = here; sheet = second.1 }, refl) here)

abbrev edge_bare : Edge → List ℕ
edge_bare e = bare (codes "edge") (e.upper ∷ e.lower ∷ decimal e.length ∷ [])

edge_bare_line : (e : Edge) → IsLine (edge_bare e) (edge_text e)
edge_bare_line e = bare_line (codes "edge") (e.upper ∷ e.lower ∷ decimal e.length ∷ [])

pub reach_count : (t : List ℕ) (G : Sheet) (E : ℕ) → Reaches t (SEdges G) → IsEdgeCount E → Reaches (t ++ line (codes "edges") (decimal E ∷ [])) (SEdge G E [])
reach_count t G E reaches count =
    let here = bare_line (codes "edges") (decimal E ∷ []) in
    reach_more t (SEdges G) (bare (codes "edges") (decimal E ∷ [])) (SEdge G E []) (line (codes "edges") (decimal E ∷ [])) reaches (E, record { text = here; small = omega (arith, count.1) }, count, refl) here

module _ (T : TreeValue) (t : IsGrowing T) (G : Sheet) (E : ℕ) (rest : List Edge) where
  -- edges that aren't the last
  pub reach_edges : (text : List ℕ) (front back : List Edge) → HasEdges T (front ++ (back ++ rest)) → length front + length back < E → Reaches text (SEdge G E front) → Reaches (text ++ flat_map edge_text back) (SEdge G E (front ++ back))
  reach_edges text front [] has less reaches = moved text (text ++ []) (SEdge G E front) (SEdge G E (front ++ [])) (sym (append-nil text)) (ap (SEdge G E) (sym (append-nil front))) reaches
  reach_edges text front (e ∷ back) has less reaches =
      let fine = good_edge T t front (back ++ rest) e has E (λ last bad. omega (arith, last, less)) in
      let form : IsEdgeForm (edge_bare e) e = record {
        text = edge_bare_line e;
        upper = good_upper T t front (back ++ rest) e has;
        lower = good_lower T t front (back ++ rest) e has;
        small = small_length T t front (back ++ rest) e has;
      } in
      let one = reach_more text (SEdge G E front) (edge_bare e) (SEdge G E (front ++ e ∷ [])) (edge_text e) reaches (e, form, fine, inl (omega (arith, less), refl)) (edge_bare_line e) in
      let has' : HasEdges T ((front ++ e ∷ []) ++ (back ++ rest)) = subst (HasEdges T) (sym (append_assoc front (e ∷ []) (back ++ rest))) has in
      moved ((text ++ edge_text e) ++ flat_map edge_text back) (text ++ (edge_text e ++ flat_map edge_text back)) (SEdge G E ((front ++ e ∷ []) ++ back)) (SEdge G E (front ++ e ∷ back))
      (append_assoc text (edge_text e) (flat_map edge_text back)) (ap (SEdge G E) (append_assoc front (e ∷ []) back))
      (reach_edges (text ++ edge_text e) (front ++ e ∷ []) back has' (omega (arith, less, length-append front (e ∷ []))) one)

-- a root with two children has two edges
two_edges : (T : TreeValue) → IsTree T → 2 ≤ node_count T - 1
two_edges T t = omega (arith, t.root_children, count_by-le-length (λ p. p == 0) (drop 1 T.parents), length-drop 1 T.parents)

no_edge : Edge
no_edge = record { upper = []; lower = []; length = 0 }

-- all edges, up to the last
module _ (start : List ℕ) (G : Sheet) (T : TreeValue) (t : IsTree T) (reaches : Reaches start (SEdges G)) where
  abbrev es : List Edge
  es = map (edge_of T t) (edges T)

  abbrev E : ℕ
  E = node_count T - 1

  has : HasEdges T es
  has = has_edges T t

  g : IsGrowing T
  g = growing_tree T t

  count : length es ≡ E
  count = sym (edge_count T g es has) ∙ length-drop 1 T.parents

  some : 2 ≤ E
  some = two_edges T t

  abbrev front : List Edge
  front = take (length es - 1) es

  abbrev last : Edge
  last = get_or es (length es - 1) no_edge

  parted : es ≡ front ++ last ∷ []
  parted = last_edge es no_edge (omega (arith, some, count))

  fronts : length front + 1 ≡ E
  fronts = omega (arith, length-take-le (length es - 1) es (omega arith), some, count)

  has_parts : HasEdges T (front ++ last ∷ [])
  has_parts = subst (HasEdges T) parted has

  reach_front : Reaches ((start ++ line (codes "edges") (decimal E ∷ [])) ++ flat_map edge_text front) (SEdge G E front)
  reach_front =
      reach_edges T g G E (last ∷ []) (start ++ line (codes "edges") (decimal E ∷ [])) [] front has_parts (omega (arith, fronts))
      (reach_count start G E reaches (some, omega (arith, t.nodes, some)))

  pub reach_tree : Reaches (start ++ edge_lines T) (SSide (tree_head G T))
  reach_tree =
      let fine = good_edge T g front [] last has_parts E (λ here bad. makes_tree T t (front ++ last ∷ []) has_parts bad) in
      let form : IsEdgeForm (edge_bare last) last = record {
        text = edge_bare_line last;
        upper = good_upper T g front [] last has_parts;
        lower = good_lower T g front [] last has_parts;
        small = small_length T g front [] last has_parts;
      } in
      let first : List ℕ = line (codes "edges") (decimal E ∷ []) in
      let all : flat_map edge_text es ≡ flat_map edge_text front ++ edge_text last = ap (flat_map edge_text) parted ∙ flat_map-append edge_text front (last ∷ []) ∙ ap (λ (u : List ℕ). flat_map edge_text front ++ u) (append-nil (edge_text last)) in
      let text : ((start ++ first) ++ flat_map edge_text front) ++ edge_text last ≡ start ++ edge_lines T =
      append_assoc (start ++ first) (flat_map edge_text front) (edge_text last) ∙ ap (λ (u : List ℕ). (start ++ first) ++ u) (sym all) ∙ append_assoc start first (flat_map edge_text es) ∙ ap (λ (u : List ℕ). start ++ u) (edges_whole T t E es has refl) in
      moved (((start ++ first) ++ flat_map edge_text front) ++ edge_text last) (start ++ edge_lines T) (SSide (tree_head G T)) (SSide (tree_head G T)) text refl
      (reach_more ((start ++ first) ++ flat_map edge_text front) (SEdge G E front) (edge_bare last) (SSide (tree_head G T)) (edge_text last) reach_front (last, form, fine, inr (fronts, T, t, has_parts, refl)) (edge_bare_line last))

-- a line of a keyword and a number
module _ (t : List ℕ) (H : Head) where
  pub reach_side : (n : ℕ) → n ≤ most_number → Reaches t (SSide H) → Reaches (t ++ line (codes "side") (decimal n ∷ [])) (SBound (record H { side = n }))
  reach_side n small reaches =
      let here = bare_line (codes "side") (decimal n ∷ []) in
      reach_more t (SSide H) (bare (codes "side") (decimal n ∷ [])) (SBound (record H { side = n })) (line (codes "side") (decimal n ∷ [])) reaches (n, record { text = here; small = small }, refl) here

  pub reach_bound : (n : ℕ) → n ≤ most_number → Reaches t (SBound H) → Reaches (t ++ line (codes "bound") (decimal n ∷ [])) (SPoints (record H { bound = n }))
  reach_bound n small reaches =
      let here = bare_line (codes "bound") (decimal n ∷ []) in
      reach_more t (SBound H) (bare (codes "bound") (decimal n ∷ [])) (SPoints (record H { bound = n })) (line (codes "bound") (decimal n ∷ [])) reaches (n, record { text = here; small = small }, refl) here

module _ (t : List ℕ) (H : Head) (tree : IsTree H.tree) where
  leaf_named : (k : ℕ) → k < leaf_count H.tree → IsName (name_of H.tree (get_or (leaf_nodes H.tree) k 0))
  leaf_named k less =
      let within : get_or (leaf_nodes H.tree) k 0 < node_count H.tree = leaf_nodes_within H.tree k 0 less in
      All-get_or IsName H.tree.names (get_or (leaf_nodes H.tree) k 0) [] (omega (arith, within, tree.names_as_parents)) tree.names_spelled

  abbrev with_points : List Point → Head
  with_points P = record H { points = P }

  -- the points, one leaf after the other
  pub reach_points : (front back : List Point) → length front + length back ≤ leaf_count H.tree → All IsSmallPoint back → Reaches (t ++ point_lines H.tree front) (SPoints (with_points front)) → Reaches (t ++ point_lines H.tree (front ++ back)) (SPoints (with_points (front ++ back)))
  reach_points front [] few small reaches =
      let same : front ≡ front ++ [] = sym (append-nil front) in
      subst (λ (P : List Point). Reaches (t ++ point_lines H.tree P) (SPoints (with_points P))) same reaches
  reach_points front (p ∷ back) few small reaches =
      let k : ℕ = length front in
      let n : k + 1 - 1 ≡ k = omega arith in
      let less : length front < leaf_count H.tree = omega (arith, few) in
      let name : List ℕ = name_of H.tree (get_or (leaf_nodes H.tree) (length front) 0) in
      let is_name : next_leaf (with_points front) ≡ name = ap (λ (i : ℕ). name_of H.tree (get_or (leaf_nodes H.tree) i 0)) n in
      let b : List ℕ = bare (codes "point") (name ∷ decimal p.x ∷ decimal p.y ∷ []) in
      let here : IsLine b (point_line name p) = bare_line (codes "point") (name ∷ decimal p.x ∷ decimal p.y ∷ []) in
      let form : IsPointForm b name p = record { text = here; name_spelled = leaf_named (length front) less; small = small 0 p (omega arith) } in
      let form' : IsPointForm b (next_leaf (with_points front)) p = subst (λ (m : List ℕ). IsPointForm b m p) (sym is_name) form in
      let text : (t ++ point_lines H.tree front) ++ point_line name p ≡ t ++ point_lines H.tree (front ++ p ∷ []) =
      append_assoc t (point_lines H.tree front) (point_line name p) ∙ ap (λ (u : List ℕ). t ++ u) (point_lines_more H.tree front p less) in
      let one = moved ((t ++ point_lines H.tree front) ++ point_line name p) (t ++ point_lines H.tree (front ++ p ∷ [])) (SPoints (with_points (front ++ p ∷ []))) (SPoints (with_points (front ++ p ∷ []))) text refl
      (reach_more (t ++ point_lines H.tree front) (SPoints (with_points front)) b (SPoints (with_points (front ++ p ∷ []))) (point_line name p) reaches (inl (less, p, form', refl)) here) in
      subst (λ (P : List Point). Reaches (t ++ point_lines H.tree P) (SPoints (with_points P))) (append_assoc front (p ∷ []) back)
      (reach_points (front ++ p ∷ []) back (omega (arith, few, length-append front (p ∷ []))) (λ i d l. small (suc i) d (omega (arith, l))) one)

-- the first of those that follow fits behind the ones before it
pub follow_at : (most : Option ℕ) (front back : List NodeLine) (l : NodeLine) → Follow most (front ++ l ∷ back) → IsKindOfNumbers l.kind × DepthFits (deepest_behind most front) l.depth
follow_at most [] back l follow = (follow.0, follow.1)
follow_at most (n ∷ front) back l follow = follow_at (Some (deepest n.kind n.depth)) front back l follow.2

low_depth : (most : Option ℕ) (depth : ℕ) → DepthFits most depth → depth ≤ most_number
low_depth None depth fits = omega (arith, fits)
low_depth (Some most) depth fits = omega (arith, fits.2)

module _ (H : Head) where
  pub reach_nodes : (t : List ℕ) (front back : List NodeLine) → length front + length back ≤ count_of H.proof → Follow None (front ++ back) → Reaches t (SNodes H front) → Reaches (t ++ flat_map node_text back) (SNodes H (front ++ back))
  reach_nodes t front [] few follow reaches = moved t (t ++ []) (SNodes H front) (SNodes H (front ++ [])) (sym (append-nil t)) (ap (SNodes H) (sym (append-nil front))) reaches
  reach_nodes t front (l ∷ back) few follow reaches =
      let fits = follow_at None front back l follow in
      let b : List ℕ = bare (decimal l.depth) (kind_words l.kind) in
      let here : IsLine b (node_text l) = bare_line (decimal l.depth) (kind_words l.kind) ∙ sym (kind_line_is l.depth l.kind) in
      let form : IsNodeLine b l = record { text = here; depth = low_depth (deepest_behind None front) l.depth fits.1; kind = fits.0 } in
      let one = reach_more t (SNodes H front) b (SNodes H (front ++ l ∷ [])) (node_text l) reaches (inl (omega (arith, few), l, form, fits.1, refl)) here in
      moved ((t ++ node_text l) ++ flat_map node_text back) (t ++ (node_text l ++ flat_map node_text back)) (SNodes H ((front ++ l ∷ []) ++ back)) (SNodes H (front ++ l ∷ back))
      (append_assoc t (node_text l) (flat_map node_text back)) (ap (SNodes H) (append_assoc front (l ∷ []) back))
      (reach_nodes (t ++ node_text l) (front ++ l ∷ []) back (omega (arith, few, length-append front (l ∷ []))) (subst (Follow None) (sym (append_assoc front (l ∷ []) back)) follow) one)

  pub reach_end : (t : List ℕ) (ns : List NodeLine) → length ns ≡ count_of H.proof → Reaches t (SNodes H ns) → Reaches (t ++ end_line) (SBehind H ns)
  reach_end t ns all reaches = reach_more t (SNodes H ns) (bare (codes "end") []) (SBehind H ns) end_line reaches (inr (omega (arith, all), bare_line (codes "end") [], refl)) (bare_line (codes "end") [])
