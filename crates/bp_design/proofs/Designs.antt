-- A tree is designed: by its opening where that meets its floor, or else by a search.
use Rattle.std.proofs.Common.{◌≡◌, inl, inr, ℕ, ◌≤◌, length, refl, sym, subst, arith}
use Rattle.std.specs.Prelude.{None, false}
use Rattle.std.proofs.lemmas.Bool.{cases_lt, false≢true}
use Rattle.bp_base.specs.declared.point.Floor.{Floor}
use Rattle.bp_base.specs.declared.point.Placement.{Placement}
use Rattle.bp_base.specs.declared.point.Sheet.{Sheet}
use Rattle.bp_base.specs.Limits.{most_document_bytes}
use Rattle.bp_base.specs.Tree.{TreeValue, IsTree}
use Rattle.bp_metric.specs.Metric.{IsMetric, IsSheet, MetricValue}
use Rattle.bp_metric.specs.Valid.{Valid, NoneBelow}
use Rattle.bp_metric.specs.Opening.{IsOpening, side_of}
use Rattle.bp_metric.specs.Floor.{FloorHolds, IsFloor}
use Rattle.bp_opening.specs.Small as opening
use Rattle.bp_floor.specs.Small as floor
use Rattle.bp_document.specs.declared.document.Document.{Document}
use Rattle.bp_document.specs.Ranges.{IsDocument}
use Rattle.bp_document.specs.Text.{doc_text}
use Rattle.bp_check.specs.Checks.{Checks}
use Rattle.bp_check.specs.Written.{IsWanted}
use Rattle.bp_design.specs.Design.{IsDesign}
use Rattle.bp_design.specs.Searched.{IsSearched}
use Rattle.bp_design.proofs.GivenUp.{is_given_up}

module _ (T : TreeValue) (G : Sheet) (p : Placement) (f : Floor) (o : IsOpening T G p.points) (side : p.side ≡ side_of G p.points) (valid : Valid T G 1 p.side p.points) (fl : IsFloor T G f) (holds : FloorHolds T G f) (none : NoneBelow T G f.side) where
  -- the opening's side isn't below the floor's
  meeting : p.side ≤ f.side → p.side ≡ f.side
  meeting most = elim (cases_lt p.side f.side) [
    | inl less ↦ absurd (none 1 p.side p.points (omega arith) (omega (arith, less)) valid)
    | inr no_less ↦ omega (arith, no_less, most)
  ]

  module _ (t : IsTree T) (sheet : IsSheet G) (small : opening.IsSmall p) (few : floor.IsSmall f) (most : p.side ≤ f.side) where
    meets : p.side ≡ f.side
    meets = meeting most

    ranges : IsDocument (record { tree = T; side = p.side; bound = p.side; points = p.points; floor = f; proof = None; sheet = G })
    ranges = record {
      tree = t;
      side = omega (arith, small.side);
      bound = omega (arith, small.side);
      each = valid.each;
      points = λ k d within. let h = small.points k d within in (omega (arith, h.0), omega (arith, h.1));
      floor = record {
        m = omega (arith, few.m);
        side = omega (arith, few.side);
        leaves = record { some = holds.some; short = few.few; small = λ k d within. omega (arith, few.leaves k d within) };
      };
      proof = tt;
      sheet = sheet;
    }

    pub at_floor : (B : ℕ) → IsSearched T G B (record { tree = T; side = p.side; bound = p.side; points = p.points; floor = f; proof = None; sheet = G })
    at_floor B = record {
      tree = refl;
      sheet = refl;
      ranges = ranges;
      written = record {
        checks = record { tree = refl; valid = valid; floor = holds; fits = tt; bound = inl (omega (arith, meets)) };
        floor = fl;
        opening = p.points;
        is_opening = o;
        no_worse = omega (arith, side);
        opening_points = λ plain meet. refl;
        steady_points = λ steady. absurd (false≢true steady);
        proof = (meets, refl);
      };
      complete = λ covers. refl;
    }

-- what is known of documents that check
module _ (M : MetricValue) (none : (D : Document) → D.sheet ≡ M.sheet → Checks M.tree D → NoneBelow M.tree D.sheet D.bound) (bound : (D : Document) → D.sheet ≡ M.sheet → Checks M.tree D → D.bound ≤ D.side) (wanted : (D : Document) → D.sheet ≡ M.sheet → Checks M.tree D → D.bound ≡ D.side → IsWanted M.tree D.sheet D.side) (short : (T : TreeValue) (D : Document) → IsDocument D → Checks T D → length (doc_text D) ≤ most_document_bytes) where
  pub is_design : (B : ℕ) (D : Document) → IsSearched M.tree M.sheet B D → IsDesign M.tree M.sheet B false D
  is_design B D s = record {
    proved = record {
      tree = s.tree;
      sheet = s.sheet;
      ranges = s.ranges;
      checks = s.written.checks;
      short = short M.tree D s.ranges s.written.checks;
      no_more = bound D s.sheet s.written.checks;
      none_below = subst (λ (g : Sheet). NoneBelow M.tree g D.bound) s.sheet (none D s.sheet s.written.checks);
      smallest = λ same. subst (λ (g : Sheet). IsWanted M.tree g D.side) s.sheet (wanted D s.sheet s.written.checks same);
    };
    complete = s.complete;
    written = s.written;
    given_up = is_given_up M.tree B D s.written;
  }

  -- the opening, where it meets the floor
  pub opening_design : (m : IsMetric M) (p : Placement) (f : Floor) (o : IsOpening M.tree M.sheet p.points) (side : p.side ≡ side_of M.sheet p.points) (valid : Valid M.tree M.sheet 1 p.side p.points) (fl : IsFloor M.tree M.sheet f) (holds : FloorHolds M.tree M.sheet f) (law : (g : Floor) → FloorHolds M.tree M.sheet g → NoneBelow M.tree M.sheet g.side) → opening.IsSmall p → floor.IsSmall f → p.side ≤ f.side → (B : ℕ) (T : TreeValue) → T ≡ M.tree → (G : Sheet) → G ≡ M.sheet → IsDesign M.tree M.sheet B false (record { tree = T; side = p.side; bound = p.side; points = p.points; floor = f; proof = None; sheet = G })
  opening_design m p f o side valid fl holds law small few most B T same G on =
      is_design B (record { tree = T; side = p.side; bound = p.side; points = p.points; floor = f; proof = None; sheet = G })
      (subst (IsSearched M.tree M.sheet B) (λ i. record { tree = sym same i; side = p.side; bound = p.side; points = p.points; floor = f; proof = None; sheet = sym on i })
      (at_floor M.tree M.sheet p f o side valid fl holds (law f holds) m.tree m.sheet small few most B))
