-- The document of a revision that has ended.
use Rattle.std.proofs.Common.{◌≡◌, ℕ, Option, None, Some, refl, ◌∙◌, subst, arith}
use Rattle.bp_base.specs.declared.point.Floor.{Floor}
use Rattle.bp_base.specs.declared.point.Placement.{Placement}
use Rattle.bp_base.specs.declared.point.Sheet.{Sheet}
use Rattle.bp_base.specs.declared.record.Settled.{Settled}
use Rattle.bp_base.specs.declared.refutation.Refutation.{Refutation}
use Rattle.bp_base.specs.Tree.{TreeValue, IsTree}
use Rattle.bp_metric.specs.Floor.{IsFloor}
use Rattle.bp_metric.specs.Nodes.{nodes_of}
use Rattle.bp_document.specs.declared.document.Document.{Document}
use Rattle.bp_document.specs.Ranges.{IsDocument}
use Rattle.bp_check.specs.Checks.{Checks}
use Rattle.bp_written.specs.Told.{CanBeTold, HasProofOf, IsDocumentOf, IsFloorOf}
use Rattle.bp_written.proofs.Documents.{document, of_told}
use Rattle.bp_revise.specs.Apart.{open_paths}
use Rattle.bp_revise.specs.Course.{IsEnded, IsWrittenFrom}
use Rattle.bp_revise.specs.Keep.{kept_of}
use Rattle.bp_revise.specs.Revised.{AreSolvedPoints, HasRevisedProof, IsRevised}
use Rattle.bp_revise.specs.Start.{IsStart}
use Rattle.bp_revise.proofs.Finals.{can_tell, revised_proof}

module _ (T : TreeValue) (t : IsTree T) (G : Sheet) (f : Floor) (Z : Settled) (B : ℕ) (start : Placement) (kept : Refutation) (e : IsEnded T G B f.side start kept Z) where
  pub can_be_told : CanBeTold T G Z
  can_be_told = can_tell T t G kept e.fits start e.counts e.base e.first e.begun Z e.course B e.end.0 e.few (omega (arith, e.small))

  has_revised : (proof : Option Refutation) (bound : ℕ) → HasProofOf T G Z f proof bound → HasRevisedProof T G B start.side kept (document T G Z f proof bound) proof
  has_revised None bound has = has
  has_revised (Some r) bound is = (
    λ meets. absurd (omega (arith, meets, is.above)),
    revised_proof T t G kept e.fits start e.counts e.base e.first e.begun Z e.course r is.joined f.side B bound e.end is,
  )

  pub is_written : IsFloorOf T G f → (D : Document) → IsDocumentOf T G Z f D → Checks T D → IsDocument D → IsWrittenFrom T G B start kept D
  is_written is_floor =
      of_told T G Z f (IsWrittenFrom T G B start kept) (λ proof bound has checks ranges. record {
        checks = checks;
        ranges = ranges;
        sheet = refl;
        floor = is_floor.floor;
        no_worse = e.course.no_worse;
        points = e.course.points;
        solved = e.course.solved;
        proof = has_revised proof bound has;
      })

pub is_revised : (T : TreeValue) (G : Sheet) (old : Document) (B : ℕ) (start : Placement) (D : Document) → G ≡ old.sheet → IsStart T G old.points start → IsWrittenFrom T G B start (kept_of T G start.side old.proof) D → IsRevised T old B D
is_revised T G old B start D on begins w = record {
  checks = w.checks;
  sheet = w.sheet ∙ on;
  floor = subst (λ (H : Sheet). IsFloor T H D.floor) on w.floor;
  start = start;
  is_start = subst (λ (H : Sheet). IsStart T H old.points start) on begins;
  no_worse = w.no_worse;
  start_points = w.points;
  solved_points =
      λ less. subst (λ (H : Sheet). AreSolvedPoints T H start.side (open_paths (nodes_of T H (kept_of T H start.side old.proof))) D.side D.points) on (w.solved less);
  proof = subst (λ (H : Sheet). HasRevisedProof T H B start.side (kept_of T H start.side old.proof) D D.proof) on w.proof;
}
