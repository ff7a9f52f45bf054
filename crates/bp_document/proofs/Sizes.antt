-- How long lines are at most, and with them the text of a document whose claims name leaves.
use Rattle.std.proofs.Common.{◌≡◌, inl, inr, ℕ, ◌+◌, ◌*◌, ◌-◌, ◌≤◌, List, [], ◌∷◌, ◌++◌, length, get_or, map, All, decimal, Option, None, Some, refl, ◌∙◌, ap, subst, arith, length-append}
use Rattle.std.specs.Prelude.{codes}
use Rattle.std.specs.List.{flat_map, zip, AllByRecursion}
use Rattle.std.proofs.lemmas.Bool.{cases_lt}
use Rattle.std.proofs.lemmas.List.{get_or_past}
use Rattle.std.proofs.lemmas.List.FromFn.{length-range_with_len}
use Rattle.std.proofs.lemmas.Fmt.{length-decimal-le}
use Rattle.bp_base.specs.declared.point.Axis.{Axis}
use Rattle.bp_base.specs.declared.point.Axis.TheVariants.{X, Y}
use Rattle.bp_base.specs.declared.point.Floor.{Floor}
use Rattle.bp_base.specs.declared.point.Point.{Point}
use Rattle.bp_base.specs.declared.point.Sheet.{Sheet}
use Rattle.bp_base.specs.declared.point.Sheet.TheVariants.{Square, Strip}
use Rattle.bp_base.specs.declared.path.Pair.{Pair}
use Rattle.bp_base.specs.declared.chain.Claim.{Claim}
use Rattle.bp_base.specs.declared.chain.Claim.TheVariants.{Walk, Cycle}
use Rattle.bp_base.specs.declared.refutation.Refutation.{Refutation}
use Rattle.bp_base.specs.declared.refutation.Refutation.TheVariants.{Split}
use Rattle.bp_base.specs.Limits.{most_number, most_steps, most_document_bytes}
use Rattle.bp_base.specs.Chain.{IsChainList}
use Rattle.bp_base.specs.Name.{IsName}
use Rattle.bp_base.specs.Tree.{TreeValue, IsTree, edges, name_of, parent, length_of, node_count, leaf_nodes}
use Rattle.bp_metric.specs.Metric.{IsSheet}
use Rattle.bp_metric.specs.Nodes.{Part, SplitOf, ClosedBy, OpenBy, parts_of, node_count_of}
use Rattle.bp_metric.proofs.Refutations.{parts-split, parts-closed, parts-open}
use Rattle.bp_document.specs.declared.document.Document.{Document}
use Rattle.bp_document.specs.Lines.{word, line, sheet_line, edge_line, point_line, floor_line, axis_word, chain_words, split_line, closed_line, open_line}
use Rattle.bp_base.specs.Point.{IsSmallPoint}
use Rattle.bp_document.specs.Ranges.{IsDocument, IsFloorLine, IsSmallPart, IsChainOf, HasProof, one_deeper, depth_of}
use Rattle.bp_document.specs.Sizes.{IsClaimUpTo, IsPartUpTo, IsProofUpTo, NamesLeaves}
use Rattle.bp_document.specs.Text.{doc_text, body_text, edge_lines, point_lines, proof_lines, node_lines}
use Rattle.bp_document.proofs.Nodes.{lines_at, lines-split, lines-closed, lines-open, depth-split}
use Rattle.bp_document.proofs.NodeLists.{by_nodes, all_left, all_right, all_given}

-- lines and words
line_length : (k : List ℕ) (ws : List (List ℕ)) → length (line k ws) ≡ length k + length (flat_map word ws) + 1
unfolding line
line_length k ws = length-append (k ++ flat_map word ws) (10 ∷ []) ∙ ap (λ n. n + 1) (length-append k (flat_map word ws))

words_length : (w : List ℕ) (ws : List (List ℕ)) → length (flat_map word (w ∷ ws)) ≡ 1 + length w + length (flat_map word ws)
words_length w ws = omega (arith, length-append (word w) (flat_map word ws))

number_length : (n : ℕ) → n ≤ most_number → length (decimal n) ≤ 9
number_length n small = length-decimal-le 9 n (omega arith) (omega arith) (omega arith)

numbers_length : (ks : List ℕ) → AllByRecursion (λ k. k ≤ most_number) ks → length (flat_map word (map decimal ks)) ≤ 10 * length ks
numbers_length [] small = omega arith
numbers_length (k ∷ ks) small = omega (arith, words_length (decimal k) (map decimal ks), number_length k small.0, numbers_length ks small.1)

leaf_length : (n : ℕ) → n ≤ 32 → length (decimal n) ≤ 2
leaf_length n small = length-decimal-le 2 n (omega arith) (omega arith) (omega arith)

leaves_length : (ks : List ℕ) → AllByRecursion (λ k. k ≤ 32) ks → length (flat_map word (map decimal ks)) ≤ 3 * length ks
leaves_length [] small = omega arith
leaves_length (k ∷ ks) small = omega (arith, words_length (decimal k) (map decimal ks), leaf_length k small.0, leaves_length ks small.1)

-- node lines: a depth of three digits, and a chain of 32 leaves
axis_length : (axis : Axis) → length (axis_word axis) ≡ 1
axis_length X = refl
axis_length Y = refl

depth_length : (n : ℕ) → n ≤ most_steps → length (decimal n) ≤ 3
depth_length n small = length-decimal-le 3 n (omega arith) (omega arith) (omega arith)

chain_length : (axis : Axis) (ks : List ℕ) → IsChainList ks → All (λ k. k ≤ 32) ks → length (flat_map word (chain_words axis ks)) ≤ 98
chain_length axis ks is small =
    omega (arith, words_length (axis_word axis) (map decimal ks), axis_length axis, leaves_length ks (all_given (λ k. k ≤ 32) ks small), is.short)

split_length : (depth : ℕ) (p : Pair) → depth ≤ most_steps → p.i ≤ most_number → p.j ≤ most_number → length (split_line depth p) ≤ 113
split_length depth p low i j =
    omega (arith, line_length (decimal depth) (codes "split" ∷ decimal p.i ∷ decimal p.j ∷ []), words_length (codes "split") (decimal p.i ∷ decimal p.j ∷ []), words_length (decimal p.i) (decimal p.j ∷ []), words_length (decimal p.j) [], depth_length depth low, number_length p.i i, number_length p.j j)

closed_length : (depth : ℕ) (claim : Claim) → depth ≤ most_steps → IsChainOf claim → IsClaimUpTo 32 claim → length (closed_line depth claim) ≤ 113
closed_length depth (Walk axis ks) low is small =
    omega (arith, line_length (decimal depth) (codes "walk" ∷ chain_words axis ks), words_length (codes "walk") (chain_words axis ks), chain_length axis ks is small, depth_length depth low)
closed_length depth (Cycle axis ks) low is small =
    omega (arith, line_length (decimal depth) (codes "cycle" ∷ chain_words axis ks), words_length (codes "cycle") (chain_words axis ks), chain_length axis ks is small, depth_length depth low)

open_length : (depth : ℕ) (claim : Claim) → depth ≤ most_steps → IsChainOf claim → IsClaimUpTo 32 claim → length (open_line depth claim) ≤ 113
open_length depth (Walk axis ks) low is small =
    omega (arith, line_length (decimal depth) (codes "open" ∷ chain_words axis ks), words_length (codes "open") (chain_words axis ks), chain_length axis ks is small, depth_length depth low)
open_length depth (Cycle axis ks) low is small =
    omega (arith, line_length (decimal depth) (codes "open" ∷ codes "cycle" ∷ chain_words axis ks), words_length (codes "open") (codes "cycle" ∷ chain_words axis ks), words_length (codes "cycle") (chain_words axis ks), chain_length axis ks is small, depth_length depth low)

-- the lines of a refutation
abbrev IsShortPart : Part → Type 0
IsShortPart part = IsSmallPart part × IsPartUpTo 32 part

abbrev HasSize : Refutation → Type 0
HasSize r = (depth : ℕ) → depth_of r + depth ≤ most_steps → AllByRecursion IsShortPart (parts_of r) → length (node_lines r depth) ≤ 113 * node_count_of r

forest_size : (rs : List Refutation) (depth : ℕ) → AllByRecursion HasSize rs → one_deeper (map depth_of rs) + depth ≤ most_steps → AllByRecursion IsShortPart (flat_map parts_of rs) → length (flat_map (lines_at (depth + 1)) rs) ≤ 113 * length (flat_map parts_of rs)
forest_size [] depth all low parts = omega arith
forest_size (r ∷ rs) depth all low parts =
    let one = all.0 (depth + 1) (omega (arith, low)) (all_left IsShortPart (parts_of r) (flat_map parts_of rs) parts) in
    let rest = forest_size rs depth all.1 (omega (arith, low)) (all_right IsShortPart (parts_of r) (flat_map parts_of rs) parts) in
    omega (arith, one, rest, length-append (node_lines r (depth + 1)) (flat_map (lines_at (depth + 1)) rs), length-append (parts_of r) (flat_map parts_of rs))

split_size : (p : Pair) (rs : List Refutation) → AllByRecursion HasSize rs → HasSize (Split p rs)
split_size p rs all depth low parts =
    let mine : AllByRecursion IsShortPart (SplitOf p (length rs) ∷ flat_map parts_of rs) = subst (AllByRecursion IsShortPart) (parts-split p rs) parts in
    let rest = forest_size rs depth all (omega (arith, low, depth-split p rs)) mine.1 in
    omega (arith, rest, split_length depth p (omega (arith, low)) mine.0.0.0 mine.0.0.1, ap length (lines-split p rs depth), length-append (split_line depth p) (flat_map (lines_at (depth + 1)) rs), ap length (parts-split p rs))

has_size : (r : Refutation) → HasSize r
has_size = by_nodes HasSize split_size
    (λ claim depth low parts.
    let mine : AllByRecursion IsShortPart (ClosedBy claim ∷ []) = subst (AllByRecursion IsShortPart) (parts-closed claim) parts in
    omega (arith, closed_length depth claim (omega (arith, low)) mine.0.0 mine.0.1, ap length (lines-closed claim depth), ap length (parts-closed claim)))
    (λ claim depth low parts.
    let mine : AllByRecursion IsShortPart (OpenBy claim ∷ []) = subst (AllByRecursion IsShortPart) (parts-open claim) parts in
    omega (arith, open_length depth claim (omega (arith, low)) mine.0.0 mine.0.1, ap length (lines-open claim depth), ap length (parts-open claim)))

weaker_claim : (n : ℕ) (claim : Claim) → n ≤ 32 → IsClaimUpTo n claim → IsClaimUpTo 32 claim
weaker_claim n (Walk axis ks) few is = λ k d less. omega (arith, is k d less, few)
weaker_claim n (Cycle axis ks) few is = λ k d less. omega (arith, is k d less, few)

short_part : (n : ℕ) (part : Part) → n ≤ 32 → IsSmallPart part → IsPartUpTo n part → IsShortPart part
short_part n (SplitOf p children) few small is = (small, is)
short_part n (ClosedBy claim) few small is = (small, weaker_claim n claim few is)
short_part n (OpenBy claim) few small is = (small, weaker_claim n claim few is)

field_length : (k : List ℕ) (n : ℕ) → n ≤ most_number → length k ≤ 9 → length (line k (decimal n ∷ [])) ≤ 20
field_length k n small key = omega (arith, line_length k (decimal n ∷ []), words_length (decimal n) [], number_length n small)

none_length : length (line (codes "proof") (codes "none" ∷ [])) ≤ 20
none_length = omega (arith, line_length (codes "proof") (codes "none" ∷ []), words_length (codes "none") [])

proof_size : (n : ℕ) (proof : Option Refutation) → n ≤ 32 → HasProof proof → IsProofUpTo n proof → length (proof_lines proof) ≤ 20 + 113 * 800001
unfolding proof_lines
proof_size n None few is names = omega (arith, none_length)
proof_size n (Some r) few is names =
    let parts : AllByRecursion IsShortPart (parts_of r) = all_given IsShortPart (parts_of r) (λ k d less. short_part n (get_or (parts_of r) k d) few (is.parts k d less) (names k d less)) in
    let nodes = has_size r 0 (omega (arith, is.depth)) parts in
    omega (arith, nodes, is.lines, field_length (codes "proof") (node_count_of r) (omega (arith, is.lines)) (omega arith), length-append (line (codes "proof") (decimal (node_count_of r) ∷ [])) (node_lines r 0))

-- the lines before the proof
name_length : (names : List (List ℕ)) (k : ℕ) → All IsName names → length (get_or names k []) ≤ 32
name_length names k named = elim (cases_lt k (length names)) [
  | inl less ↦ omega (arith, (named k [] less).short)
  | inr past ↦ omega (arith, ap length (get_or_past names k [] past))
]

module _ (T : TreeValue) (tree : IsTree T) where
  edge_length : (e : ℕ) → length (edge_line T e) ≤ 84
  edge_length e =
      omega (arith, line_length (codes "edge") (name_of T (parent T e) ∷ name_of T e ∷ decimal (length_of T e) ∷ []), words_length (name_of T (parent T e)) (name_of T e ∷ decimal (length_of T e) ∷ []), words_length (name_of T e) (decimal (length_of T e) ∷ []), words_length (decimal (length_of T e)) [], name_length T.names (parent T e) tree.names_spelled, name_length T.names e tree.names_spelled, number_length (length_of T e) (omega (arith, tree.lengths_small e)))

  all_edges : (es : List ℕ) → length (flat_map (edge_line T) es) ≤ 84 * length es
  all_edges [] = omega arith
  all_edges (e ∷ es) = omega (arith, edge_length e, all_edges es, length-append (edge_line T e) (flat_map (edge_line T) es))

  edges_size : length (edge_lines T) ≤ 20 + 84 * 64
  unfolding edge_lines
  edges_size =
      omega (arith, field_length (codes "edges") (node_count T - 1) (omega (arith, tree.nodes)) (omega arith), all_edges (edges T), length-range_with_len 1 (node_count T - 1), tree.nodes, length-append (line (codes "edges") (decimal (node_count T - 1) ∷ [])) (flat_map (edge_line T) (edges T)))

  point_length : (k : ℕ) (p : Point) → IsSmallPoint p → length (point_line (name_of T k) p) ≤ 59
  point_length k p small =
      omega (arith, line_length (codes "point") (name_of T k ∷ decimal p.x ∷ decimal p.y ∷ []), words_length (name_of T k) (decimal p.x ∷ decimal p.y ∷ []), words_length (decimal p.x) (decimal p.y ∷ []), words_length (decimal p.y) [], name_length T.names k tree.names_spelled, number_length p.x small.0, number_length p.y small.1)

  all_points : (ks : List ℕ) (ps : List Point) → AllByRecursion IsSmallPoint ps → length (flat_map (λ (p : ℕ × Point). point_line (name_of T p.0) p.1) (zip ks ps)) ≤ 59 * length ks
  all_points [] ps small = omega arith
  all_points (k ∷ ks) [] small = omega arith
  all_points (k ∷ ks) (p ∷ ps) small =
      omega (arith, point_length k p small.0, all_points ks ps small.1, length-append (point_line (name_of T k) p) (flat_map (λ (q : ℕ × Point). point_line (name_of T q.0) q.1) (zip ks ps)))

  points_size : (P : List Point) → All IsSmallPoint P → length (point_lines T P) ≤ 59 * 32
  unfolding point_lines
  points_size P small = omega (arith, all_points (leaf_nodes T) P (all_given IsSmallPoint P small), tree.leaves_few)

floor_size : (f : Floor) → IsFloorLine f → length (floor_line f) ≤ 346
floor_size f is =
    omega (arith, line_length (codes "floor") (decimal f.m ∷ decimal f.side ∷ map decimal f.leaves), words_length (decimal f.m) (decimal f.side ∷ map decimal f.leaves), words_length (decimal f.side) (map decimal f.leaves), numbers_length f.leaves (all_given (λ k. k ≤ most_number) f.leaves is.leaves.small), number_length f.m is.m, number_length f.side is.side, is.leaves.short)

sheet_size : (G : Sheet) → IsSheet G → length (sheet_line G) ≤ 40
sheet_size Square is = omega (arith, line_length (codes "sheet") (codes "square" ∷ []), words_length (codes "square") [])
sheet_size (Strip width) is = omega (arith, line_length (codes "sheet") (codes "strip" ∷ decimal width ∷ []), words_length (codes "strip") (decimal width ∷ []), words_length (decimal width) [], number_length width (omega (arith, is)))

end_size : length (line (codes "end") []) ≤ 20
end_size = omega (arith, line_length (codes "end") [])

two : (x y : List ℕ) (m n : ℕ) → length x ≤ m → length y ≤ n → length (x ++ y) ≤ m + n
two x y m n short rest = omega (arith, length-append x y)

pub short_text : (D : Document) → IsDocument D → NamesLeaves D → length (doc_text D) ≤ most_document_bytes
unfolding doc_text body_text
short_text D is names =
    let side = two (edge_lines D.tree) (line (codes "side") (decimal D.side ∷ [])) _ _ (edges_size D.tree is.tree) (field_length (codes "side") D.side is.side (omega arith)) in
    let bound = two _ (line (codes "bound") (decimal D.bound ∷ [])) _ _ side (field_length (codes "bound") D.bound is.bound (omega arith)) in
    let points = two _ (point_lines D.tree D.points) _ _ bound (points_size D.tree is.tree D.points is.points) in
    let floor = two _ (floor_line D.floor) _ _ points (floor_size D.floor is.floor) in
    let proof = two _ (proof_lines D.proof) _ _ floor (proof_size _ D.proof is.tree.leaves_few is.proof names) in
    let body = two _ (line (codes "end") []) _ _ proof end_size in
    let start = two (line (codes "boxpleat") (decimal 2 ∷ [])) (sheet_line D.sheet) _ _ (field_length (codes "boxpleat") 2 (omega arith) (omega arith)) (sheet_size D.sheet is.sheet) in
    let all = two _ _ _ _ start body in
    omega (arith, all)
