-- The leaves and their lines, up to a node.
use Rattle.std.proofs.Common.{◌≡◌, ℕ, zero, suc, ◌+◌, ◌-◌, ◌<◌, ◌≤◌, inl, inr, true, false, not, List, [], ◌∷◌, ◌++◌, length, filter, get_or, zip, refl, sym, ap, ◌∙◌, subst, arith, length-append, append_assoc, Result, Ok, Err}
use Rattle.std.specs.Prelude.{if◌then◌else◌}
use Rattle.std.specs.List.{flat_map, range_with_len}
use Rattle.std.specs.Result.{IsErr}
use Rattle.std.specs.declared.option.Option.{Option}
use Rattle.std.proofs.lemmas.Bool.{cases_Bool}
use Rattle.std.proofs.lemmas.List.{append-nil}
use Rattle.bp_base.specs.declared.point.Point.{Point}
use Rattle.bp_base.specs.Point.{origin}
use Rattle.bp_base.specs.Tree.{TreeValue, has_child, leaf_count, name_of, node_count}
use Rattle.bp_base.specs.declared.outside.Failed.{Failed}
use Rattle.bp_base.specs.Causes.{Appends}
use Rattle.bp_metric.proofs.Ranges.{filter_range_more}
use Rattle.bp_text.specs.Puts.{Puts}
use Rattle.bp_text.proofs.Puts.{puts_exit, puts_done, writes_more}
use Rattle.bp_document.specs.Lines.{point_line}
use Rattle.bp_document.specs.Text.{point_lines}

abbrev pub leaves_before : TreeValue → ℕ → List ℕ
leaves_before T node = filter (λ k. not (has_child T k)) (range_with_len 0 node)

abbrev pub line_for : TreeValue → ℕ × Point → List ℕ
line_for T p = point_line (name_of T p.0) p.1

-- the lines of the leaves before a node
abbrev pub lines_before : TreeValue → List Point → ℕ → List ℕ
lines_before T P node = flat_map (line_for T) (zip (leaves_before T node) P)

abbrev pub step_of : TreeValue → List Point → ℕ → ℕ → List ℕ
step_of T P leaves node = if has_child T node then [] else point_line (name_of T node) (get_or P leaves origin)

zip_more : (xs : List ℕ) (P : List Point) (x : ℕ) → length xs < length P → zip (xs ++ x ∷ []) P ≡ zip xs P ++ (x, get_or P (length xs) origin) ∷ []
zip_more [] [] x less = absurd (omega arith)
zip_more [] (p ∷ P) x less = refl
zip_more (y ∷ xs) [] x less = absurd (omega arith)
zip_more (y ∷ xs) (p ∷ P) x less = λ i. (y, p) ∷ zip_more xs P x (omega arith) i

lines_more : (T : TreeValue) (xs : List (ℕ × Point)) (x : ℕ × Point) → flat_map (line_for T) (xs ++ x ∷ []) ≡ flat_map (line_for T) xs ++ line_for T x
lines_more T [] x = append-nil (line_for T x)
lines_more T (y ∷ xs) x = ap (λ (t : List ℕ). line_for T y ++ t) (lines_more T xs x) ∙ sym (append_assoc (line_for T y) (flat_map (line_for T) xs) (line_for T x))

pub leaf_here : (T : TreeValue) (node : ℕ) → has_child T node ≡ false → leaves_before T (node + 1) ≡ leaves_before T node ++ node ∷ []
leaf_here T node leaf =
    let one : filter (λ k. not (has_child T k)) (node ∷ []) ≡ node ∷ [] = rw leaf refl in
    filter_range_more (λ k. not (has_child T k)) node ∙ ap (λ (t : List ℕ). leaves_before T node ++ t) one

pub none_here : (T : TreeValue) (node : ℕ) → has_child T node ≡ true → leaves_before T (node + 1) ≡ leaves_before T node
none_here T node inner =
    let none : filter (λ k. not (has_child T k)) (node ∷ []) ≡ [] = rw inner refl in
    filter_range_more (λ k. not (has_child T k)) node ∙ ap (λ (t : List ℕ). leaves_before T node ++ t) none ∙ append-nil (leaves_before T node)

-- there are no more leaves before a node than before a later one
grow_by : (T : TreeValue) (node more : ℕ) → length (leaves_before T node) ≤ length (leaves_before T (node + more))
grow_by T node zero = let e : node + 0 ≡ node = omega arith in rw e (omega arith)
grow_by T node (suc more) =
    let e : node + suc more ≡ node + more + 1 = omega arith in
    let h = grow_by T node more in
    let step : length (leaves_before T (node + more)) ≤ length (leaves_before T (node + more + 1)) = elim (cases_Bool (has_child T (node + more))) [
      | inl inner ↦ omega (arith, ap length (none_here T (node + more) inner))
      | inr leaf ↦ omega (arith, ap length (leaf_here T (node + more) leaf), length-append (leaves_before T (node + more)) ((node + more) ∷ []))
    ] in
    rw e (omega (arith, h, step))

-- a leaf has a point
pub has_point : (T : TreeValue) (node : ℕ) → node < node_count T → has_child T node ≡ false → length (leaves_before T node) < leaf_count T
has_point T node within leaf =
    let e : node + 1 + (node_count T - (node + 1)) ≡ node_count T = omega arith in
    let h = subst (λ (n : ℕ). length (leaves_before T (node + 1)) ≤ length (leaves_before T n)) e (grow_by T (node + 1) (node_count T - (node + 1))) in
    omega (arith, h, ap length (leaf_here T node leaf), length-append (leaves_before T node) (node ∷ []))

-- the lines up to the next node
pub lines_next : (T : TreeValue) (P : List Point) (node leaves : ℕ) → leaves ≡ length (leaves_before T node) → (has_child T node ≡ false → leaves < length P) → lines_before T P (node + 1) ≡ lines_before T P node ++ step_of T P leaves node
lines_next T P node leaves count room = elim (cases_Bool (has_child T node)) [
  | inl inner ↦
      let step : step_of T P leaves node ≡ [] = rw inner refl in
      ap (λ (l : List ℕ). flat_map (line_for T) (zip l P)) (none_here T node inner) ∙ sym (append-nil (lines_before T P node)) ∙ ap (λ (t : List ℕ). lines_before T P node ++ t) (sym step)
  | inr leaf ↦
      let step : step_of T P leaves node ≡ point_line (name_of T node) (get_or P leaves origin) = rw leaf refl in
      let less : length (leaves_before T node) < length P = omega (arith, room leaf, count) in
      ap (λ (l : List ℕ). flat_map (line_for T) (zip l P)) (leaf_here T node leaf)
      ∙ ap (flat_map (line_for T)) (zip_more (leaves_before T node) P node less)
      ∙ lines_more T (zip (leaves_before T node) P) (node, get_or P (length (leaves_before T node)) origin)
      ∙ ap (λ (n : ℕ). lines_before T P node ++ point_line (name_of T node) (get_or P n origin)) (sym count)
      ∙ ap (λ (t : List ℕ). lines_before T P node ++ t) (sym step)
]

-- the count of leaves up to the next node
pub count_next : (T : TreeValue) (node leaves next : ℕ) → leaves ≡ length (leaves_before T node) → next ≡ (if has_child T node then leaves else leaves + 1) → next ≡ length (leaves_before T (node + 1))
count_next T node leaves next count is = elim (cases_Bool (has_child T node)) [
  | inl inner ↦ let e : next ≡ leaves = is ∙ rw inner refl in omega (arith, e, count, ap length (none_here T node inner))
  | inr leaf ↦ let e : next ≡ leaves + 1 = is ∙ rw leaf refl in omega (arith, e, count, ap length (leaf_here T node leaf), length-append (leaves_before T node) (node ∷ []))
]

-- the lines from a node on go on from those before it
lines_front : (T : TreeValue) (P : List Point) (node more : ℕ) → length P ≡ leaf_count T → node + more ≤ node_count T → (rest : List ℕ) × (lines_before T P (node + more) ≡ lines_before T P node ++ rest)
lines_front T P node zero each within = let e : node + 0 ≡ node = omega arith in ([], ap (lines_before T P) e ∙ sym (append-nil (lines_before T P node)))
lines_front T P node (suc more) each within =
    let h = lines_front T P node more each (omega arith) in
    let at = node + more in
    let e : node + suc more ≡ at + 1 = omega arith in
    let leaves = length (leaves_before T at) in
    let step = step_of T P leaves at in
    let next = lines_next T P at leaves refl (λ leaf. omega (arith, has_point T at (omega arith) leaf, each)) in
    (h.0 ++ step, ap (lines_before T P) e ∙ next ∙ ap (λ (t : List ℕ). t ++ step) h.1 ∙ append_assoc (lines_before T P node) h.0 step)

lines_whole : (T : TreeValue) (P : List Point) → lines_before T P (node_count T) ≡ point_lines T P
unfolding point_lines
lines_whole T P = refl

module _ (T : TreeValue) (P : List Point) (node leaves : ℕ) (each : length P ≡ leaf_count T) (count : leaves ≡ length (leaves_before T node)) where
  pub room : node < node_count T → has_child T node ≡ false → leaves < length P
  room within leaf = omega (arith, has_point T node within leaf, each, count)

  -- one more node
  pub points_more : {U : Type 0} (a b c : Option (List ℕ)) (u : U) → node < node_count T → Appends a b (lines_before T P node) → Puts b c (Ok u) (step_of T P leaves node) → Appends a c (lines_before T P (node + 1))
  points_more a b c u within first puts =
      subst (λ (t : List ℕ). Appends a c t) (sym (lines_next T P node leaves count (room within))) (writes_more a b c u (lines_before T P node) (step_of T P leaves node) first puts)

  -- an exit at a node
  pub points_exit : {U V : Type 0} (a b c : Option (List ℕ)) (r : Result V Failed) (e : Failed) → node < node_count T → IsErr r → Appends a b (lines_before T P node) → Puts {T = U} b c (Err e) (step_of T P leaves node) → Puts a c r (point_lines T P)
  points_exit a b c r e within err first puts =
      let n = node_count T in
      let h = lines_front T P (node + 1) (n - (node + 1)) each (omega arith) in
      let at : node + 1 + (n - (node + 1)) ≡ n = omega arith in
      let text : point_lines T P ≡ lines_before T P node ++ (step_of T P leaves node ++ h.0) =
      sym (lines_whole T P) ∙ ap (lines_before T P) (sym at) ∙ h.1 ∙ ap (λ (t : List ℕ). t ++ h.0) (lines_next T P node leaves count (room within)) ∙ append_assoc (lines_before T P node) (step_of T P leaves node) h.0 in
      puts_exit h.0 a b c r e (lines_before T P node) (step_of T P leaves node) (point_lines T P) err first puts text

pub points_all : {U : Type 0} (T : TreeValue) (P : List Point) (node : ℕ) (a b : Option (List ℕ)) (u : U) → node ≡ node_count T → Appends a b (lines_before T P node) → Puts a b (Ok u) (point_lines T P)
points_all T P node a b u done first = puts_done a b u (lines_before T P node) (point_lines T P) first (sym (lines_whole T P) ∙ ap (lines_before T P) (sym done))
