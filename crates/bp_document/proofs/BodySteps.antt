-- The lines of side and bound lead on, or have their first fault.
use Rattle.std.proofs.Common.{◌≡◌, ℕ, List, [], ◌∷◌, ◌++◌, length, zip, All, decimal, None, Some, Ok, Err, refl, sym, ◌∙◌, ap, subst, arith, append_assoc}
use Rattle.std.specs.Prelude.{codes}
use Rattle.std.specs.List.{flat_map}
use Rattle.std.proofs.lemmas.List.{append-nil}
use Rattle.std.proofs.lemmas.List.Elements.{All-nil}
use Rattle.bp_base.specs.declared.point.Point.{Point}
use Rattle.bp_base.specs.Limits.{most_number}
use Rattle.bp_base.specs.Tree.{TreeValue, leaf_nodes, name_of}
use Rattle.bp_document.specs.declared.fault.DocKind.TheVariants.{BadForm}
use Rattle.bp_document.specs.declared.stage.Parts.{Parts}
use Rattle.bp_document.specs.declared.stage.Stage.{Stage}
use Rattle.bp_document.specs.Lines.{line, point_line}
use Rattle.bp_document.specs.Text.{edge_lines, point_lines}
use Rattle.bp_base.specs.Point.{IsSmallPoint}
use Rattle.bp_document.specs.Words.{words}
use Rattle.bp_document.specs.FormWords.{ReadsField}
use Rattle.bp_document.specs.Places.{AtSide, AtBound, side_part}
use Rattle.bp_document.specs.Stages.{FeedsStage, head_of}
use Rattle.bp_document.proofs.NodeLines.{spelled_word}
use Rattle.bp_document.proofs.Forms.{field_exact}
use Rattle.bp_document.proofs.EdgeSteps.{bad_form}

-- a line more behind a part
pub extended : (text start part l l' : List ℕ) → text ≡ start ++ part → l ≡ l' → text ++ l ≡ start ++ (part ++ l')
extended text start part l l' is here =
    ap (λ (t : List ℕ). t ++ l) is ∙ append_assoc start part l ∙ ap (λ (t : List ℕ). start ++ (part ++ t)) here

no_lines : (f : ℕ × Point → List ℕ) (xs : List ℕ) → flat_map f (zip xs []) ≡ []
no_lines f [] = refl
no_lines f (x ∷ xs) = refl

pub no_point_lines : (T : TreeValue) (P : List Point) → P ≡ [] → point_lines T P ≡ []
unfolding point_lines
no_point_lines T P none = ap (point_lines T) none ∙ no_lines (λ (p : ℕ × Point). point_line (name_of T p.0) p.1) (leaf_nodes T)

module _ (bytes : List ℕ) (p : Parts) where
  pub no_side : ReadsField (codes "side") 0 most_number (words bytes) None → FeedsStage (Stage.Side p) bytes (Err BadForm)
  no_side reads text es stands = bad_form AtSide bytes (λ h. h) (λ form. field_exact bytes (codes "side") (spelled_word (codes "side") refl) None reads form.0 form.1)

  pub side_read : (n : ℕ) → ReadsField (codes "side") 0 most_number (words bytes) (Some n) → FeedsStage (Stage.Side p) bytes (Ok (Stage.Bound (record { sheet = p.sheet; tree = p.tree; side = n; bound = p.bound; points = p.points; leaves = p.leaves })))
  side_read n reads text es stands =
      let is = field_exact bytes (codes "side") (spelled_word (codes "side") refl) (Some n) reads in
      let start = stands.0 in
      ([], (n, is), ((start.0, start.1, extended text start.0 (edge_lines p.tree) (bytes ++ 10 ∷ []) (line (codes "side") (decimal n ∷ [])) start.2 is.text), stands.1, is.small, stands.2))

  pub no_bound : ReadsField (codes "bound") 0 most_number (words bytes) None → FeedsStage (Stage.Bound p) bytes (Err BadForm)
  no_bound reads text es stands = bad_form AtBound bytes (λ h. h) (λ form. field_exact bytes (codes "bound") (spelled_word (codes "bound") refl) None reads form.0 form.1)

  pub bound_read : (n : ℕ) → ReadsField (codes "bound") 0 most_number (words bytes) (Some n) → FeedsStage (Stage.Bound p) bytes (Ok (Stage.Points (record { sheet = p.sheet; tree = p.tree; side = p.side; bound = n; points = p.points; leaves = p.leaves })))
  bound_read n reads text es stands =
      let is = field_exact bytes (codes "bound") (spelled_word (codes "bound") refl) (Some n) reads in
      let start = stands.0 in
      let part : List ℕ = side_part (head_of p 0 0) in
      let bound : List ℕ = line (codes "bound") (decimal n ∷ []) in
      let here : text ++ (bytes ++ 10 ∷ []) ≡ start.0 ++ ((part ++ bound) ++ point_lines p.tree p.points) =
      extended text start.0 part (bytes ++ 10 ∷ []) bound start.2 is.text
      ∙ ap (λ (t : List ℕ). start.0 ++ t) (sym (append-nil (part ++ bound)))
      ∙ ap (λ (t : List ℕ). start.0 ++ ((part ++ bound) ++ t)) (sym (no_point_lines p.tree p.points stands.3.0)) in (
        [],
        (n, is),
        (
          (start.0, start.1, here),
          record { tree = stands.1; side = stands.2; bound = is.small; points = subst (λ (P : List Point). All IsSmallPoint P) (sym stands.3.0) (All-nil IsSmallPoint) },
          omega (arith, ap length stands.3.0),
          stands.3.1,
        ),
      )
