-- The body of a document in the parts in which it is written.
use Rattle.std.proofs.Common.{◌≡◌, ◌∷◌, [], ◌++◌, ◌-◌, List, ℕ, length, ap, append_assoc, refl, sym, subst, Result}
use Rattle.std.specs.declared.option.Option.{Option}
use Rattle.bp_base.specs.declared.outside.Failed.{Failed}
use Rattle.bp_base.specs.declared.point.Point.{Point}
use Rattle.bp_base.specs.Tree.{TreeValue, edges}
use Rattle.bp_base.specs.declared.refutation.Refutation.{Refutation}
use Rattle.bp_metric.specs.Nodes.{node_count_of}
use Rattle.bp_text.specs.Puts.{Puts}
use Rattle.std.specs.Prelude.{codes, decimal}
use Rattle.bp_document.specs.declared.document.Document.{Document}
use Rattle.std.specs.List.{flat_map}
use Rattle.bp_document.specs.Lines.{line, floor_line, edge_line}
use Rattle.bp_document.specs.Text.{body_text, edge_lines, node_lines, point_lines, proof_lines}

seven : (a b c d e f g : List ℕ) → a ++ b ++ c ++ d ++ e ++ f ++ g ≡ (a ++ b ++ c) ++ (d ++ (e ++ f ++ g))
seven a b c d e f g = simp append_assoc refl

seven_last : (a b c d e f g : List ℕ) → a ++ b ++ c ++ d ++ e ++ f ++ g ≡ ((a ++ b ++ c) ++ d) ++ (e ++ f ++ g)
seven_last a b c d e f g = simp append_assoc refl

module _ (D : Document) where
  pub body_first : body_text D ≡ (edge_lines D.tree ++ line (codes "side") (decimal D.side ∷ []) ++ line (codes "bound") (decimal D.bound ∷ [])) ++ (point_lines D.tree D.points ++ (floor_line D.floor ++ proof_lines D.proof ++ line (codes "end") []))
  unfolding body_text
  body_first = seven (edge_lines D.tree) (line (codes "side") (decimal D.side ∷ [])) (line (codes "bound") (decimal D.bound ∷ [])) (point_lines D.tree D.points) (floor_line D.floor) (proof_lines D.proof) (line (codes "end") [])

  pub body_last : body_text D ≡ ((edge_lines D.tree ++ line (codes "side") (decimal D.side ∷ []) ++ line (codes "bound") (decimal D.bound ∷ [])) ++ point_lines D.tree D.points) ++ (floor_line D.floor ++ proof_lines D.proof ++ line (codes "end") [])
  unfolding body_text
  body_last = seven_last (edge_lines D.tree) (line (codes "side") (decimal D.side ∷ [])) (line (codes "bound") (decimal D.bound ∷ [])) (point_lines D.tree D.points) (floor_line D.floor) (proof_lines D.proof) (line (codes "end") [])

-- the lines of the points, with the list as the code has it
pub point_lines_of : {T : Type 0} (a c : Option (List ℕ)) (r : Result T Failed) (tree : TreeValue) (read points : List Point) → read ≡ points → Puts a c r (point_lines tree read) → Puts a c r (point_lines tree points)
point_lines_of a c r tree read points same puts = subst (λ (P : List Point). Puts a c r (point_lines tree P)) same puts

-- the lines of the edges, with the list as the code has it
pub edge_lines_of : (T : TreeValue) (parents : List ℕ) → parents ≡ T.parents → edge_lines T ≡ line (codes "edges") (decimal (length parents - 1) ∷ []) ++ flat_map (edge_line T) (edges T)
unfolding edge_lines
edge_lines_of T parents same = ap (λ (l : List ℕ). line (codes "edges") (decimal (length l - 1) ∷ []) ++ flat_map (edge_line T) (edges T)) (sym same)

-- the lines of a proof, with the count as the code has it
pub refutation_lines : (r : Refutation) (count : ℕ) → count ≡ node_count_of r → line (codes "proof") (decimal (node_count_of r) ∷ []) ++ node_lines r 0 ≡ line (codes "proof") (decimal count ∷ []) ++ node_lines r 0
refutation_lines r count same = ap (λ (n : ℕ). line (codes "proof") (decimal n ∷ []) ++ node_lines r 0) (sym same)
