-- A design with the steady points in place of its own.
use Rattle.std.proofs.Common.{◌≡◌, ℕ, ◌≤◌, ◌<◌, List, length, refl, sym, subst, arith}
use Rattle.std.specs.Prelude.{true, false}
use Rattle.std.proofs.lemmas.Bool.{true≢false}
use Rattle.bp_base.specs.declared.point.Point.{Point}
use Rattle.bp_base.specs.declared.point.Sheet.{Sheet}
use Rattle.bp_base.specs.declared.record.Settled.{Settled}
use Rattle.bp_base.specs.Limits.{most_document_bytes}
use Rattle.bp_base.specs.Tree.{TreeValue, leaf_count}
use Rattle.bp_metric.specs.Metric.{IsSheet}
use Rattle.bp_metric.specs.Steady.{IsSteady}
use Rattle.bp_metric.specs.Valid.{Valid}
use Rattle.bp_document.specs.declared.document.Document.{Document}
use Rattle.bp_document.specs.Ranges.{IsDocument}
use Rattle.bp_document.specs.Text.{doc_text}
use Rattle.bp_check.specs.Checks.{Checks}
use Rattle.bp_design.specs.Design.{IsDesign}
use Rattle.bp_design.specs.Replayed.{IsToldOf}
use Rattle.bp_design.specs.Steadied.{IsSteadyOf}
use Rattle.bp_written.proofs.Documents.{points_small}

abbrev pub with_points : Document → List Point → Document
with_points D P = record { tree = D.tree; side = D.side; bound = D.bound; points = P; floor = D.floor; proof = D.proof; sheet = D.sheet }

told_steady : (T : TreeValue) (G : Sheet) (D : Document) (P : List Point) (Z : Settled) → IsToldOf T G Z false D → IsToldOf T G Z true (with_points D P)
told_steady T G D P Z told = record { side = told.side; points = λ plain. absurd (true≢false plain); proof = told.proof }

-- where the bound is below the side nothing changes
pub stays : (T : TreeValue) (G : Sheet) (D : Document) → D.bound < D.side → IsSteadyOf T G D D
stays T G D less = record {
  side = refl;
  bound = refl;
  design = λ B d. record {
    proved = d.proved;
    complete = d.complete;
    written = record {
      checks = d.written.checks;
      floor = d.written.floor;
      opening = d.written.opening;
      is_opening = d.written.is_opening;
      no_worse = d.written.no_worse;
      opening_points = λ plain. absurd (true≢false plain);
      steady_points = λ steady same. absurd (omega (arith, less, same));
      proof = d.written.proof;
    };
    given_up = d.given_up;
  };
  told = λ Z told. record { side = told.side; points = λ plain. absurd (true≢false plain); proof = told.proof };
}

module _ (short : (T : TreeValue) (D : Document) → IsDocument D → Checks T D → length (doc_text D) ≤ most_document_bytes) (T : TreeValue) (G : Sheet) (D : Document) (P : List Point) (steady : IsSteady T G D.side P) where
  module _ (B : ℕ) (d : IsDesign T G B false D) where
    ranges : IsDocument (with_points D P)
    ranges =
        let r = d.proved.ranges in
        record {
          tree = r.tree;
          side = r.side;
          bound = r.bound;
          each = subst (λ (t : TreeValue). length P ≡ leaf_count t) (sym d.proved.tree) steady.valid.each;
          points = points_small T G D.side P (subst IsSheet d.proved.sheet r.sheet) r.side steady.valid;
          floor = r.floor;
          proof = r.proof;
          sheet = r.sheet;
        }

    checks : Checks T (with_points D P)
    checks =
        let c = d.proved.checks in
        record {
          tree = c.tree;
          valid = subst (λ (g : Sheet). Valid T g 1 D.side P) (sym d.proved.sheet) steady.valid;
          floor = c.floor;
          fits = c.fits;
          bound = c.bound;
        }

    at_steady : IsDesign T G B true (with_points D P)
    at_steady = record {
      proved = record {
        tree = d.proved.tree;
        sheet = d.proved.sheet;
        ranges = ranges;
        checks = checks;
        short = short T (with_points D P) ranges checks;
        no_more = d.proved.no_more;
        none_below = d.proved.none_below;
        smallest = d.proved.smallest;
      };
      complete = d.complete;
      written = record {
        checks = checks;
        floor = d.written.floor;
        opening = d.written.opening;
        is_opening = d.written.is_opening;
        no_worse = d.written.no_worse;
        opening_points = λ plain. absurd (true≢false plain);
        steady_points = λ is same. subst (λ (g : Sheet). IsSteady T g D.side P) (sym d.proved.sheet) steady;
        proof = d.written.proof;
      };
      given_up = λ less. record {
        refutation = (d.given_up less).refutation;
        proof = (d.given_up less).proof;
        left = (d.given_up less).left;
        spent = (d.given_up less).spent;
      };
    }

  pub made_steady : IsSteadyOf T G D (with_points D P)
  made_steady = record {
    side = refl;
    bound = refl;
    design = at_steady;
    told = told_steady T G D P;
  }
