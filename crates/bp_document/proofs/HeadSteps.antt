-- The lines of points, floor and proof lead on, or have their first fault.
use Rattle.std.proofs.Common.{◌≡◌, ℕ, ◌+◌, ◌-◌, ◌<◌, ◌≤◌, true, List, [], ◌∷◌, ◌++◌, length, get_or, zip, Bool, Option, None, Some, Ok, Err, refl, sym, ◌∙◌, ap, subst, arith, append_assoc, length-append}
use Rattle.std.specs.Prelude.{codes, decimal, nat_lt, unwrap_or, if◌then◌else◌}
use Rattle.std.specs.List.{flat_map}
use Rattle.std.proofs.lemmas.Bool.{lt-ltb, le-ltb}
use Rattle.std.proofs.lemmas.Grind.{flat_map-append}
use Rattle.std.proofs.lemmas.List.{append-nil}
use Rattle.std.proofs.lemmas.List.Elements.{All-append, All-cons, All-nil}
use Rattle.bp_base.specs.declared.point.Point.{Point}
use Rattle.bp_base.specs.declared.point.Floor.{Floor}
use Rattle.bp_base.specs.Tree.{TreeValue, leaf_count, leaf_nodes, name_of}
use Rattle.bp_document.specs.declared.fault.DocKind.{DocKind}
use Rattle.bp_document.specs.declared.fault.DocKind.TheVariants.{BadForm}
use Rattle.bp_document.specs.declared.form.FloorForm.{FloorForm}
use Rattle.bp_document.specs.declared.head.Head.{Head}
use Rattle.bp_document.specs.declared.stage.Parts.{Parts}
use Rattle.bp_document.specs.declared.stage.Stage.{Stage}
use Rattle.bp_document.specs.Lines.{line, point_line, floor_line}
use Rattle.bp_document.specs.Text.{point_lines}
use Rattle.bp_base.specs.Point.{IsSmallPoint}
use Rattle.bp_document.specs.Words.{words}
use Rattle.bp_document.specs.Forms.{IsFloorForm, IsProofForm, proof_line}
use Rattle.bp_document.specs.FormWords.{ReadsFloorForm, ReadsProofForm}
use Rattle.bp_document.specs.Places.{Place, AtPoint, AtFloor, AtProof, next_leaf, side_part, points_part, floor_part, count_of}
use Rattle.bp_document.specs.Feeding.{FeedsPoint}
use Rattle.bp_document.specs.Faults.{HasForm, IsFirstKind}
use Rattle.bp_tree.specs.declared.edge.Edge.{Edge}
use Rattle.bp_document.specs.Stages.{Stands, FeedsStage, head_of}
use Rattle.bp_document.proofs.Forms.{floor_exact, proof_exact}
use Rattle.bp_document.proofs.EdgeSteps.{bad_form}
use Rattle.bp_document.proofs.BodySteps.{extended}

zip_more_right : (xs : List ℕ) (P : List Point) (p : Point) → length P < length xs → zip xs (P ++ p ∷ []) ≡ zip xs P ++ (get_or xs (length P) 0, p) ∷ []
zip_more_right [] P p less = absurd (omega arith)
zip_more_right (x ∷ []) [] p less = refl
zip_more_right (x ∷ y ∷ xs) [] p less = refl
zip_more_right (x ∷ xs) (q ∷ P) p less = λ i. (x, q) ∷ zip_more_right xs P p (omega arith) i

-- one point more
pub point_lines_more : (T : TreeValue) (P : List Point) (p : Point) → length P < leaf_count T → point_lines T P ++ point_line (name_of T (get_or (leaf_nodes T) (length P) 0)) p ≡ point_lines T (P ++ p ∷ [])
unfolding point_lines
point_lines_more T P p less =
    let f : ℕ × Point → List ℕ = λ q. point_line (name_of T q.0) q.1 in
    let last : ℕ × Point = (get_or (leaf_nodes T) (length P) 0, p) in
    ap (λ (t : List ℕ). flat_map f (zip (leaf_nodes T) P) ++ t) (sym (append-nil (f last)))
    ∙ sym (flat_map-append f (zip (leaf_nodes T) P) (last ∷ []))
    ∙ ap (flat_map f) (sym (zip_more_right (leaf_nodes T) P p less))

module _ (p : Parts) (bytes : List ℕ) where
  abbrev place_if : Bool → Place
  place_if b = if b then AtPoint (next_leaf (head_of p 0 0)) else AtFloor

  pub at_point : (node : ℕ) → length p.points < leaf_count p.tree → get_or (leaf_nodes p.tree) (length p.points) 0 ≡ node → place_if (nat_lt (length p.points) (leaf_count p.tree)) ≡ AtPoint (name_of p.tree node)
  at_point node less is =
      let n : length p.points + 1 - 1 ≡ length p.points = omega arith in
      ap place_if (lt-ltb (length p.points) (leaf_count p.tree) less)
      ∙ ap (λ (k : ℕ). AtPoint (name_of p.tree (get_or (leaf_nodes p.tree) k 0))) n
      ∙ ap (λ (k : ℕ). AtPoint (name_of p.tree k)) is

  pub at_floor : leaf_count p.tree ≤ length p.points → place_if (nat_lt (length p.points) (leaf_count p.tree)) ≡ AtFloor
  at_floor all = ap place_if (le-ltb (length p.points) (leaf_count p.tree) all)

  module _ (node : ℕ) (less : length p.points < leaf_count p.tree) (is_node : get_or (leaf_nodes p.tree) (length p.points) 0 ≡ node) where
    pub point_refused : (kind : DocKind) → FeedsPoint (name_of p.tree node) bytes (Err kind) → FeedsStage (Stage.Points p) bytes (Err kind)
    point_refused kind fault text es stands = subst (λ (place : Place). IsFirstKind place bytes true kind) (sym (at_point node less is_node)) fault

    pub point_fed : (q : Point) → FeedsPoint (name_of p.tree node) bytes (Ok q) → FeedsStage (Stage.Points p) bytes (Ok (Stage.Points (record p { points = p.points ++ q ∷ [] })))
    point_fed q form text es stands =
        let start = stands.0 in
        let has = stands.1 in
        let front : List ℕ = side_part (head_of p 0 0) ++ line (codes "bound") (decimal p.bound ∷ []) in
        let name : point_line (name_of p.tree node) q ≡ point_line (name_of p.tree (get_or (leaf_nodes p.tree) (length p.points) 0)) q = ap (λ (k : ℕ). point_line (name_of p.tree k) q) (sym is_node) in
        let here : text ++ (bytes ++ 10 ∷ []) ≡ start.0 ++ (front ++ point_lines p.tree (p.points ++ q ∷ [])) =
        extended text start.0 (front ++ point_lines p.tree p.points) (bytes ++ 10 ∷ []) (point_line (name_of p.tree (get_or (leaf_nodes p.tree) (length p.points) 0)) q) start.2 (form.text ∙ name)
        ∙ ap (λ (t : List ℕ). start.0 ++ t) (append_assoc front (point_lines p.tree p.points) (point_line (name_of p.tree (get_or (leaf_nodes p.tree) (length p.points) 0)) q)
        ∙ ap (λ (t : List ℕ). front ++ t) (point_lines_more p.tree p.points q less)) in (
          [],
          subst (λ (place : Place). HasForm place bytes) (sym (at_point node less is_node)) (name_of p.tree node, q, form),
          (
            (start.0, start.1, here),
            record { tree = has.tree; side = has.side; bound = has.bound; points = All-append IsSmallPoint p.points (q ∷ []) has.points (All-cons IsSmallPoint q [] form.small (All-nil IsSmallPoint)) },
            omega (arith, less, length-append p.points (q ∷ [])),
            stands.3,
          ),
        )

  module _ (all : leaf_count p.tree ≤ length p.points) where
    pub floor_refused : ReadsFloorForm (words bytes) None → FeedsStage (Stage.Points p) bytes (Err BadForm)
    floor_refused reads text es stands =
        subst (λ (place : Place). IsFirstKind place bytes true BadForm) (sym (at_floor all)) (bad_form AtFloor bytes (λ h. h) (λ form. floor_exact bytes None reads form.0 form.1))

    pub floor_fed : (f : FloorForm) → ReadsFloorForm (words bytes) (Some f) → FeedsStage (Stage.Points p) bytes (Ok (Stage.Proof (record p { leaves = f.leaves }) f.m f.side))
    floor_fed f reads text es stands =
        let start = stands.0 in
        let has = stands.1 in
        let floor : Floor = record { m = f.m; leaves = f.leaves; side = f.side } in
        let is : IsFloorForm bytes floor = floor_exact bytes (Some f) reads in
        let here : text ++ (bytes ++ 10 ∷ []) ≡ start.0 ++ (points_part (head_of p 0 0) ++ floor_line floor) =
        extended text start.0 (points_part (head_of p 0 0)) (bytes ++ 10 ∷ []) (floor_line floor) start.2 is.text in (
          [],
          subst (λ (place : Place). HasForm place bytes) (sym (at_floor all)) (floor, is),
          (
            (start.0, start.1, here),
            record { tree = has.tree; side = has.side; bound = has.bound; points = has.points },
            omega (arith, all, stands.2),
            is.small,
          ),
        )

  module _ (m side : ℕ) where
    pub no_proof : ReadsProofForm (words bytes) None → FeedsStage (Stage.Proof p m side) bytes (Err BadForm)
    no_proof reads text es stands = bad_form AtProof bytes (λ h. h) (λ form. proof_exact bytes None reads form.0 form.1)

    pub proof_read : (count : Option ℕ) (left : ℕ) (H : Head) → ReadsProofForm (words bytes) (Some count) → H ≡ record (head_of p m side) { proof = count } → left ≡ count_of count → FeedsStage (Stage.Proof p m side) bytes (Ok (Stage.Nodes H left None))
    proof_read count left H reads same none text es stands =
        let start = stands.0 in
        let has = stands.1 in
        let is : IsProofForm bytes count = proof_exact bytes (Some count) reads in
        let floor : List ℕ = floor_part (head_of p m side) in
        let here : text ++ (bytes ++ 10 ∷ []) ≡ start.0 ++ ((floor ++ proof_line count) ++ []) =
        extended text start.0 floor (bytes ++ 10 ∷ []) (proof_line count) start.2 is.text
        ∙ ap (λ (t : List ℕ). start.0 ++ t) (sym (append-nil (floor ++ proof_line count))) in
        subst (λ (K : Head). (next : List Edge) × HasForm AtProof bytes × Stands (text ++ (bytes ++ 10 ∷ [])) next [] (Stage.Nodes K left None)) (sym same) (
          [],
          (count, is),
          (
            (start.0, start.1, here),
            record {
              points = record { tree = has.tree; side = has.side; bound = has.bound; points = has.points };
              each = stands.2;
              floor = stands.3;
              proof = is.range;
            },
            tt,
            omega (arith, none),
            refl,
          ),
        )

pub left_of : (count : Option ℕ) → unwrap_or count 0 ≡ count_of count
left_of None = refl
left_of (Some n) = refl
