-- The lines from the number of lemmas to the last swap lead on, or have their first fault.
use Rattle.std.proofs.Common.{◌≡◌, ℕ, ◌+◌, ◌≤◌, inl, inr, List, [], ◌∷◌, ◌++◌, length, All, Option, None, Some, Ok, Err, refl, sym, ◌∙◌, ap, subst, arith, append_assoc, length-append}
use Rattle.std.specs.Prelude.{codes}
use Rattle.std.specs.List.{flat_map}
use Rattle.std.proofs.lemmas.Grind.{flat_map-append}
use Rattle.std.proofs.lemmas.List.{append-nil}
use Rattle.std.proofs.lemmas.List.Elements.{All-append, All-cons, All-nil}
use Rattle.bp_base.specs.declared.path.Pair.{Pair}
use Rattle.bp_tree.specs.declared.edge.Edge.{Edge}
use Rattle.bp_document.specs.declared.fault.DocKind.TheVariants.{BadForm}
use Rattle.bp_document.specs.declared.head.Head.{Head}
use Rattle.bp_document.specs.Words.{words}
use Rattle.bp_document.specs.Forms.{IsLine}
use Rattle.bp_document.specs.FormWords.{ReadsField}
use Rattle.bp_document.proofs.NodeLines.{spelled_word}
use Rattle.bp_document.proofs.StartSteps.{field_line, no_field}
use Rattle.bp_certificate.specs.declared.certificate.Lemma.{Lemma}
use Rattle.bp_certificate.specs.declared.certificate.Plan.{Plan}
use Rattle.bp_certificate.specs.declared.stage.Halt.TheVariants.{Fault}
use Rattle.bp_certificate.specs.declared.stage.Stage.{Stage}
use Rattle.bp_certificate.specs.Lines.{lemma_line, swap_line, swaps_line}
use Rattle.bp_certificate.specs.Ranges.{IsLemma, IsSwapLine, most_swaps}
use Rattle.bp_certificate.specs.Words.{IsCountForm, IsSwapForm, ReadsCorner, ReadsCount, ReadsSwap}
use Rattle.bp_certificate.specs.Places.{AtCount, AtCorner, AtSwapCount, AtSwap, IsDesign, IsPlan, LeadsToLemmas, LeadsToSwaps, cornered_part, counted_part, design_of, design_part, head_of, plan_part, swaps_part}
use Rattle.bp_certificate.specs.Stages.{IsAtSwaps, IsWhole, IsWithin, Stands, Steps}
use Rattle.bp_certificate.proofs.FirstKinds.{bad_form}
use Rattle.bp_certificate.proofs.LineForms.{corner_read, count_read, no_corner, no_count, no_swap, swap_read}
use Rattle.bp_certificate.proofs.OpeningSteps.{on, untold}

abbrev plan_of : ℕ → Option Pair → List (List Pair) → Plan
plan_of count corner swaps = record { count = count; corner = corner; swaps = swaps }

same_plan : (D : Head) (plan : Option Plan) → plan_part D plan ≡ plan_part (design_of (head_of D plan)) plan
same_plan D None = refl
same_plan D (Some p) = refl

-- the lemmas may begin
module _ (D : Head) (plan : Option Plan) (text : List ℕ) (ls : List Lemma) where
  pub begins : text ≡ plan_part D plan → ls ≡ [] → IsDesign D → IsPlan plan → LeadsToLemmas text (head_of D plan) ls
  begins is none design planned = record {
    is =
        is ∙ same_plan D plan ∙ sym (append-nil (plan_part (design_of (head_of D plan)) plan))
        ∙ ap (λ (t : List Lemma). plan_part (design_of (head_of D plan)) plan ++ flat_map lemma_line t) (sym none);
    head = record {
      design = record {
        sheet = design.sheet;
        points = record { tree = design.points.tree; side = design.points.side; bound = design.points.bound; points = design.points.points };
        each = design.each;
        floor = design.floor;
      };
      plan = planned;
    };
    each = subst (All IsLemma) (sym none) (All-nil IsLemma);
  }

module _ (bytes : List ℕ) (D : Head) where
  abbrev ended_line : List ℕ
  ended_line = bytes ++ 10 ∷ []

  pub count_refused : ReadsCount (words bytes) None → Steps (Stage.Count D) bytes (Err (Fault BadForm))
  count_refused reads text es ls stands = bad_form AtCount tt bytes (λ form. no_count bytes reads form.0 form.1)

  counted : (count : Option ℕ) (text : List ℕ) → IsCountForm bytes count → text ≡ design_part D → text ++ ended_line ≡ counted_part D count
  counted count text is here = ap (λ (t : List ℕ). t ++ ended_line) here ∙ ap (λ (t : List ℕ). design_part D ++ t) is.text

  pub no_lemmas : ReadsCount (words bytes) (Some None) → Steps (Stage.Count D) bytes (Ok (on (Stage.End (head_of D None))))
  no_lemmas reads =
      let is = count_read bytes None reads in
      record {
        whole = tt;
        head = untold (Stage.Count D) (Stage.End (head_of D None)) refl;
        within = λ lines within. omega (arith, within);
        on = λ text es ls stands. (
          [],
          (None, is),
          tt,
          record { leads = begins D None (text ++ ended_line) ls (counted None text is stands.0) stands.1 stands.2 tt; rest = omega (arith, ap length stands.1) },
        );
      }

  pub some_lemmas : (count : ℕ) → ReadsCount (words bytes) (Some (Some count)) → Steps (Stage.Count D) bytes (Ok (on (Stage.Corner D count)))
  some_lemmas count reads =
      let is = count_read bytes (Some count) reads in
      record {
        whole = tt;
        head = untold (Stage.Count D) (Stage.Corner D count) refl;
        within = λ lines within. omega (arith, within, is.range.1);
        on = λ text es ls stands. ([], (Some count, is), tt, (counted (Some count) text is stands.0, stands.1, stands.2, is.range));
      }

  module _ (count : ℕ) where
    pub corner_refused : ReadsCorner (words bytes) None → Steps (Stage.Corner D count) bytes (Err (Fault BadForm))
    corner_refused reads text es ls stands = bad_form AtCorner tt bytes (λ form. no_corner bytes reads form.0 form.1)

    pub corner_fed : (corner : Option Pair) → ReadsCorner (words bytes) (Some corner) → Steps (Stage.Corner D count) bytes (Ok (on (Stage.SwapCount D count corner)))
    corner_fed corner reads =
        let is = corner_read bytes corner reads in
        record {
          whole = tt;
          head = untold (Stage.Corner D count) (Stage.SwapCount D count corner) refl;
          within = λ lines within. omega (arith, within);
          on = λ text es ls stands. (
            [],
            (corner, is),
            tt,
            (ap (λ (t : List ℕ). t ++ ended_line) stands.0 ∙ ap (λ (t : List ℕ). counted_part D (Some count) ++ t) is.text, stands.1, stands.2, stands.3, is.small),
          );
        }

    module _ (corner : Option Pair) where
      -- behind some swaps of so many
      module _ (total : ℕ) (swaps : List (List Pair)) (t : Stage) (next : IsAtSwaps D count corner total swaps t) where
        abbrev lemmas_stage : Stage
        lemmas_stage = Stage.Lemmas (head_of D (Some (plan_of count corner swaps))) count

        swaps_stand : (text : List ℕ) (es : List Edge) (ls : List Lemma) → LeadsToSwaps text D count corner total swaps → ls ≡ [] → Stands text es ls t
        swaps_stand text es ls leads none = elim next [
          | inl more ↦ subst (Stands text es ls) (sym more.1) (leads, none, more.0)
          | inr all ↦
              let same : total ≡ length swaps = omega (arith, all.0, leads.few) in
              let is : text ≡ plan_part D (Some (plan_of count corner swaps)) = leads.is ∙ ap (λ (n : ℕ). swaps_part D count corner n swaps) same in
              let planned : IsPlan (Some (plan_of count corner swaps)) = (leads.counted, leads.cornered, record { few = omega (arith, leads.few, leads.within); each = leads.each }) in
              subst (Stands text es ls) (sym all.1) (
                record { leads = begins D (Some (plan_of count corner swaps)) text ls is none leads.design planned; rest = omega (arith, ap length none) },
                leads.counted.0,
              )
        ]

        swaps_within : (lines : ℕ) → lines + count ≤ 3000003 + length swaps → length swaps ≤ total → total ≤ most_swaps → IsWithin t lines
        swaps_within lines within few small = elim next [
          | inl more ↦ subst (λ (u : Stage). IsWithin u lines) (sym more.1) (within, more.0, small)
          | inr all ↦ subst (λ (u : Stage). IsWithin u lines) (sym all.1) (omega (arith, within, few, small))
        ]

        swaps_whole : IsWhole t
        swaps_whole = elim next [
          | inl more ↦ subst IsWhole (sym more.1) tt
          | inr all ↦ subst IsWhole (sym all.1) tt
        ]

      pub swap_count_refused : ReadsField (codes "swaps") 0 most_swaps (words bytes) None → Steps (Stage.SwapCount D count corner) bytes (Err (Fault BadForm))
      swap_count_refused reads text es ls stands = bad_form AtSwapCount tt bytes (λ form.
          no_field (codes "swaps") bytes (spelled_word (codes "swaps") refl) 0 most_swaps (omega arith) reads form.0 (omega arith) form.1 form.2)

      pub swap_count_fed : (total : ℕ) (t : Stage) → ReadsField (codes "swaps") 0 most_swaps (words bytes) (Some total) → IsAtSwaps D count corner total [] t → Steps (Stage.SwapCount D count corner) bytes (Ok (on t))
      swap_count_fed total t reads next =
          let here : IsLine bytes (swaps_line total) = field_line (codes "swaps") bytes (spelled_word (codes "swaps") refl) 0 most_swaps (omega arith) total reads in
          record {
            whole = swaps_whole total [] t next;
            head = untold (Stage.SwapCount D count corner) t refl;
            within = λ lines within. swaps_within total [] t next (lines + 1) (omega (arith, within)) (omega arith) reads.1;
            on = λ text es ls stands. (
              es,
              (total, reads.1, here),
              tt,
              swaps_stand total [] t next (text ++ ended_line) es ls (record {
                is =
                    ap (λ (u : List ℕ). u ++ ended_line) stands.0 ∙ ap (λ (u : List ℕ). cornered_part D count corner ++ u) here
                    ∙ sym (append-nil (cornered_part D count corner ++ swaps_line total));
                design = stands.2;
                counted = stands.3;
                cornered = stands.4;
                within = reads.1;
                each = All-nil IsSwapLine;
                few = omega arith;
              }) stands.1,
            );
          }

      module _ (total : ℕ) (swaps : List (List Pair)) where
        pub swap_refused : ReadsSwap (words bytes) (Ok None) → Steps (Stage.Swaps D count corner total swaps) bytes (Err (Fault BadForm))
        swap_refused reads text es ls stands = bad_form AtSwap tt bytes (λ form. no_swap bytes reads form.0 form.1)

        -- one swap more
        swaps_more : (swap : List Pair) (text : List ℕ) → IsSwapForm bytes swap → text ≡ swaps_part D count corner total swaps → text ++ ended_line ≡ swaps_part D count corner total (swaps ++ swap ∷ [])
        swaps_more swap text is here =
            ap (λ (u : List ℕ). u ++ ended_line) here ∙ append_assoc (cornered_part D count corner ++ swaps_line total) (flat_map swap_line swaps) ended_line
            ∙ ap (λ (u : List ℕ). (cornered_part D count corner ++ swaps_line total) ++ (flat_map swap_line swaps ++ u)) (is.text ∙ sym (append-nil (swap_line swap)))
            ∙ ap (λ (u : List ℕ). (cornered_part D count corner ++ swaps_line total) ++ u) (sym (flat_map-append swap_line swaps (swap ∷ [])))

        pub swap_fed : (swap : List Pair) (more : List (List Pair)) (t : Stage) → ReadsSwap (words bytes) (Ok (Some swap)) → more ≡ swaps ++ swap ∷ [] → IsAtSwaps D count corner total more t → Steps (Stage.Swaps D count corner total swaps) bytes (Ok (on t))
        swap_fed swap more t reads longer next =
            let is = swap_read bytes swap reads in
            let count_more : length more ≡ length swaps + 1 = ap length longer ∙ length-append swaps (swap ∷ []) in
            record {
              whole = swaps_whole total more t next;
              head = untold (Stage.Swaps D count corner total swaps) t refl;
              within = λ lines within. swaps_within total more t next (lines + 1) (omega (arith, within.0, count_more)) (omega (arith, within.1, count_more)) within.2;
              on = λ text es ls stands. (
                es,
                (swap, is),
                tt,
                swaps_stand total more t next (text ++ ended_line) es ls (record {
                  is = swaps_more swap text is stands.0.is ∙ ap (λ (u : List (List Pair)). swaps_part D count corner total u) (sym longer);
                  design = stands.0.design;
                  counted = stands.0.counted;
                  cornered = stands.0.cornered;
                  within = stands.0.within;
                  each = subst (All IsSwapLine) (sym longer) (All-append IsSwapLine swaps (swap ∷ []) stands.0.each (All-cons IsSwapLine swap [] is.small (All-nil IsSwapLine)));
                  few = omega (arith, stands.2, count_more);
                }) stands.1,
              );
            }
