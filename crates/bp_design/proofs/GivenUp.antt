-- A bound below the side comes of open leaves, and of a budget that was spent.
use Rattle.std.proofs.Common.{◌≡◌, ℕ, ◌<◌, ◌≤◌, inl, inr, Bool, true, false, List, [], ◌∷◌, length, filter, map, All, Option, None, Some, refl, sym, ap, cond, subst, arith}
use Rattle.std.specs.List.{AllByRecursion}
use Rattle.std.proofs.lemmas.Bool.{cases_lt, true≢false}
use Rattle.std.proofs.lemmas.List.Elements.{recursion_from_All}
use Rattle.bp_base.specs.declared.point.Sheet.{Sheet}
use Rattle.bp_base.specs.declared.path.Step.{Step}
use Rattle.bp_base.specs.declared.refutation.Refutation.{Refutation}
use Rattle.bp_base.specs.Tree.{TreeValue}
use Rattle.bp_metric.specs.Nodes.{Node, Part, SplitOf, ClosedBy, OpenBy, counted_part, nodes_of, parts_of, weighs}
use Rattle.bp_metric.specs.Opening.{side_of}
use Rattle.bp_document.specs.declared.document.Document.{Document}
use Rattle.bp_check.specs.Written.{CountsFrom, HasWrittenProof, IsWrittenNode, IsWrittenPart, IsWrittenProof, IsWritten, is_open, examined_count, open_count}
use Rattle.bp_design.specs.Design.{IsGivenUp}
use Rattle.bp_written.proofs.Bounds.{all_from, bound_whole}
use Rattle.bp_written.proofs.NodeParts.{parts_same}

abbrev IsClosed : Node → Type 0
IsClosed n = is_open n.part ≡ false

kept : (n : Node) (nodes : List Node) (b : Bool) → is_open n.part ≡ b → open_count (n ∷ nodes) ≡ length (cond b (n ∷ filter (λ (m : Node). is_open m.part) nodes) (filter (λ (m : Node). is_open m.part) nodes))
kept n nodes b is = ap (λ (c : Bool). length (cond c (n ∷ filter (λ (m : Node). is_open m.part) nodes) (filter (λ (m : Node). is_open m.part) nodes))) is

none_open_more : (n : Node) (nodes : List Node) → (open_count nodes ≡ 0 → AllByRecursion IsClosed nodes) → (b : Bool) → is_open n.part ≡ b → open_count (n ∷ nodes) ≡ 0 → AllByRecursion IsClosed (n ∷ nodes)
none_open_more n nodes more true is none = absurd (omega (arith, none, kept n nodes true is))
none_open_more n nodes more false is none = (is, more (omega (arith, none, kept n nodes false is)))

none_open : (nodes : List Node) → open_count nodes ≡ 0 → AllByRecursion IsClosed nodes
none_open [] none = tt
none_open (n ∷ nodes) none = none_open_more n nodes (none_open nodes) (is_open n.part) refl none

part_counts : (T : TreeValue) (G : Sheet) (u side : ℕ) (path : List Step) (part : Part) → IsWrittenPart T G u side path part → is_open part ≡ false → CountsFrom side (counted_part T G part)
part_counts T G u side path (SplitOf p children) w closed = tt
part_counts T G u side path (ClosedBy claim) w closed = w.1
part_counts T G u side path (OpenBy claim) w closed = absurd (true≢false closed)

parts_count : (T : TreeValue) (G : Sheet) (u side : ℕ) (nodes : List Node) → AllByRecursion (IsWrittenNode T G u side) nodes → AllByRecursion IsClosed nodes → AllByRecursion (λ (p : Part). CountsFrom side (counted_part T G p)) (map (λ (n : Node). n.part) nodes)
parts_count T G u side [] w closed = tt
parts_count T G u side (n ∷ nodes) w closed = (part_counts T G u side n.path n.part w.0 closed.0, parts_count T G u side nodes w.1 closed.1)

weighs_whole : (T : TreeValue) (G : Sheet) (u side : ℕ) (r : Refutation) → All (IsWrittenNode T G u side) (nodes_of T G r) → open_count (nodes_of T G r) ≡ 0 → CountsFrom side (weighs T G r)
unfolding weighs
weighs_whole T G u side r written none =
    let nodes = nodes_of T G r in
    let each = parts_count T G u side nodes (recursion_from_All (IsWrittenNode T G u side) nodes written) (none_open nodes none) in
    all_from side (counted_part T G) (parts_of r) (subst (AllByRecursion (λ (p : Part). CountsFrom side (counted_part T G p))) (parts_same T G r) each)

some_open : (T : TreeValue) (G : Sheet) (B u floor side bound : ℕ) (r : Refutation) → IsWrittenProof T G B u floor side bound r → bound < side → 1 ≤ open_count (nodes_of T G r)
some_open T G B u floor side bound r w less = elim (cases_lt 0 (open_count (nodes_of T G r))) [
  | inl some ↦ omega (arith, some)
  | inr none ↦ absurd (omega (arith, less, w.bound_is, bound_whole side floor (weighs T G r) (weighs_whole T G u side r w.nodes (omega (arith, none)))))
]

pub is_given_up : (T : TreeValue) (B : ℕ) (D : Document) → IsWritten T B false D → D.bound < D.side → IsGivenUp B D
is_given_up T B D w less = go D.proof refl w.proof
  where
    go : (proof : Option Refutation) → D.proof ≡ proof → HasWrittenProof T D.sheet B (side_of D.sheet w.opening) D proof → IsGivenUp B D
    go None is has = absurd (omega (arith, less, has.1))
    go (Some r) is has =
        let some = some_open T D.sheet B (side_of D.sheet w.opening) D.floor.side D.side D.bound r has.1 less in
        record {
          refutation = r;
          proof = is;
          left = subst (λ (t : TreeValue). 1 ≤ open_count (nodes_of t D.sheet r)) (sym w.checks.tree) some;
          spent = subst (λ (t : TreeValue). examined_count (nodes_of t D.sheet r) ≡ B) (sym w.checks.tree) (has.1.budget_spent some);
        }
