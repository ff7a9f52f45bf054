-- What a document tells of a search that replays.
use Rattle.std.proofs.Common.{◌≡◌, ℕ, false, ◌<◌, ◌≤◌, List, Option, refl, sym, ap, ◌∙◌, subst, arith}
use Rattle.bp_core.specs.Settled.{IsSettled}
use Rattle.bp_machine.specs.Runs.{Scheduled}
use Rattle.bp_base.specs.declared.point.Floor.{Floor}
use Rattle.bp_base.specs.declared.point.Placement.{Placement}
use Rattle.bp_base.specs.declared.point.Point.{Point}
use Rattle.bp_base.specs.declared.point.Sheet.{Sheet}
use Rattle.bp_base.specs.declared.record.Settled.{Settled}
use Rattle.bp_base.specs.declared.refutation.Refutation.{Refutation}
use Rattle.bp_base.specs.Tree.{TreeValue}
use Rattle.bp_metric.specs.Floor.{IsFloor, IsFloorSide}
use Rattle.bp_metric.specs.Opening.{IsOpening, IsOpeningSide, side_of}
use Rattle.bp_document.specs.declared.document.Document.{Document}
use Rattle.bp_written.specs.Told.{HasProofOf, IsDocumentOf, IsProofOf}
use Rattle.bp_design.specs.Replayed.{IsCountedReplay, IsToldOf}
use Rattle.bp_design.proofs.Searches.{floor_most, records_many}

pub told_joined : (T : TreeValue) (G : Sheet) (Z : Settled) (f : Floor) (D : Document) → IsDocumentOf T G Z f D → IsToldOf T G Z false D
told_joined T G Z f D told = record {
  side = told.side;
  points = λ plain. told.points;
  proof = λ r is. let proof : IsProofOf T G Z f.side D.bound r = subst (λ (p : Option Refutation). HasProofOf T G Z f p D.bound) is told.proof in proof.joined;
}

-- of an opening and a floor of the tree, the sides
module _ (T : TreeValue) (G : Sheet) (p : Placement) (f : Floor) (is : IsOpening T G p.points) (side : p.side ≡ side_of G p.points) (floor : IsFloor T G f) (openings : (P Q : List Point) → IsOpening T G P → IsOpening T G Q → P ≡ Q) where
  opening_side : (u : ℕ) → IsOpeningSide T G u → u ≡ p.side
  opening_side u is_u = is_u.is_side ∙ ap (side_of G) (openings is_u.opening p.points is_u.is_opening is) ∙ sym side

  floor_side : (l : ℕ) → IsFloorSide T G l → l ≡ f.side
  floor_side l is_l =
      omega (
        arith,
        is_l.is_side,
        floor_most T G is_l.floor is_l.is_floor f.side (record { floor = f; is_floor = floor; is_side = refl }),
        floor_most T G f floor l is_l,
      )

  module _ (hands budget seed : ℕ) (D : Document) where
    -- where the opening meets the floor nothing is replayed
    pub none_counted : p.side ≤ f.side → IsCountedReplay T G hands budget seed D 0
    none_counted meets = record {
      searched = λ u l is_u is_l less. absurd (omega (arith, opening_side u is_u, floor_side l is_l, meets, less));
      unsearched = λ u l is_u is_l most. refl;
    }

    -- and else what the run comes to
    pub search_counted : f.side < p.side → (Z : Settled) → IsSettled T G budget Z → Scheduled T G hands budget seed Z → IsToldOf T G Z false D → IsCountedReplay T G hands budget seed D Z.examined
    search_counted apart Z settled scheduled told = record {
      searched = λ u l is_u is_l less. (Z, scheduled, told, sym (records_many T G budget Z settled));
      unsearched = λ u l is_u is_l most. absurd (omega (arith, opening_side u is_u, floor_side l is_l, apart, most));
    }
