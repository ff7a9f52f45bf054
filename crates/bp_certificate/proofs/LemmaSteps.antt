-- Lemma lines and the end lead on, or have their first fault.
use Rattle.std.proofs.Common.{◌≡◌, ℕ, ◌+◌, ◌≤◌, inl, inr, true, List, [], ◌∷◌, ◌++◌, None, Some, Ok, Err, sym, ◌∙◌, ap, subst, arith, append_assoc, length-append}
use Rattle.std.specs.Prelude.{codes}
use Rattle.std.specs.List.{flat_map}
use Rattle.std.proofs.lemmas.Grind.{flat_map-append}
use Rattle.std.proofs.lemmas.List.{append-nil}
use Rattle.std.proofs.lemmas.List.Elements.{All-append, All-cons, All-nil}
use Rattle.bp_tree.specs.declared.edge.Edge.{Edge}
use Rattle.bp_document.specs.declared.fault.DocKind.TheVariants.{BadForm, Trailing}
use Rattle.bp_certificate.specs.declared.certificate.CertificateHead.{CertificateHead}
use Rattle.bp_certificate.specs.declared.certificate.Lemma.{Lemma}
use Rattle.bp_certificate.specs.declared.stage.Halt.TheVariants.{Fault}
use Rattle.bp_certificate.specs.declared.stage.Stage.{Stage}
use Rattle.bp_certificate.specs.Lines.{lemma_line}
use Rattle.bp_certificate.specs.Ranges.{IsLemma}
use Rattle.bp_certificate.specs.Words.{IsLemmaForm, ReadsLemma}
use Rattle.bp_certificate.specs.Places.{AtLemma, AtEnd, LeadsToLemmas, design_of, plan_part}
use Rattle.bp_certificate.specs.Stages.{IsBehindLemma, IsWhole, IsWithin, Stands, StandsAtLemmas, Steps, told_head}
use Rattle.bp_certificate.proofs.FirstKinds.{bad_form, trailing_at}
use Rattle.bp_certificate.proofs.OpeningSteps.{is_end, no_end, on}

module _ (bytes : List ℕ) (H : CertificateHead) where
  abbrev ended_line : List ℕ
  ended_line = bytes ++ 10 ∷ []

  -- one lemma more
  lemma_more : (text : List ℕ) (ls : List Lemma) (l : Lemma) → IsLemmaForm bytes l → LeadsToLemmas text H ls → LeadsToLemmas (text ++ ended_line) H (ls ++ l ∷ [])
  lemma_more text ls l is leads = record {
    is =
        ap (λ (t : List ℕ). t ++ ended_line) leads.is ∙ append_assoc (plan_part (design_of H) H.plan) (flat_map lemma_line ls) ended_line
        ∙ ap (λ (t : List ℕ). plan_part (design_of H) H.plan ++ (flat_map lemma_line ls ++ t)) (is.text ∙ sym (append-nil (lemma_line l)))
        ∙ ap (λ (t : List ℕ). plan_part (design_of H) H.plan ++ t) (sym (flat_map-append lemma_line ls (l ∷ [])));
    head = leads.head;
    each = All-append IsLemma ls (l ∷ []) leads.each (All-cons IsLemma l [] is.small (All-nil IsLemma));
  }

  module _ (left : ℕ) where
    pub lemma_refused : ReadsLemma bytes (Ok None) → Steps (Stage.Lemmas H left) bytes (Err (Fault BadForm))
    lemma_refused reads text es ls stands = bad_form AtLemma tt bytes (λ form. reads form.0 form.1)

    module _ (t : Stage) (next : IsBehindLemma H left t) where
      lemma_whole : IsWhole t
      lemma_whole = elim next [
        | inl more ↦ subst IsWhole (sym more.1) tt
        | inr last ↦ subst IsWhole (sym last.1) tt
      ]

      lemma_head : told_head t ≡ Some H
      lemma_head = elim next [
        | inl more ↦ ap told_head more.1
        | inr last ↦ ap told_head last.1
      ]

      lemma_within : (lines : ℕ) → lines + left ≤ 3001000 → IsWithin t (lines + 1)
      lemma_within lines within = elim next [
        | inl more ↦ subst (λ (u : Stage). IsWithin u (lines + 1)) (sym more.1) (omega (arith, within, more.0))
        | inr last ↦ subst (λ (u : Stage). IsWithin u (lines + 1)) (sym last.1) (omega (arith, within))
      ]

      lemma_stands : (text : List ℕ) (es : List Edge) (ls : List Lemma) (l : Lemma) → IsLemmaForm bytes l → StandsAtLemmas text ls H left × (1 ≤ left) → Stands (text ++ ended_line) es (ls ++ l ∷ []) t
      lemma_stands text es ls l is stands = elim next [
        | inl more ↦ subst (Stands (text ++ ended_line) es (ls ++ l ∷ [])) (sym more.1) (
          record { leads = lemma_more text ls l is stands.0.leads; rest = omega (arith, stands.0.rest, stands.1, more.0, length-append ls (l ∷ [])) },
          omega (arith, more.0),
        )
        | inr last ↦ subst (Stands (text ++ ended_line) es (ls ++ l ∷ [])) (sym last.1)
            (record { leads = lemma_more text ls l is stands.0.leads; rest = omega (arith, stands.0.rest, stands.1, last.0, length-append ls (l ∷ [])) })
      ]

      pub lemma_fed : (l : Lemma) → ReadsLemma bytes (Ok (Some l)) → Steps (Stage.Lemmas H left) bytes (Ok (record { stage = t; lemma = Some l }))
      lemma_fed l is = record {
        whole = lemma_whole;
        head = λ K same. lemma_head ∙ same;
        within = lemma_within;
        on = λ text es ls stands. (es, (l, is), is, lemma_stands text es ls l is stands);
      }

  pub end_fed : bytes ≡ codes "end" → Steps (Stage.End H) bytes (Ok (on (Stage.Behind H)))
  end_fed is =
      let here = is_end bytes is in
      record {
        whole = tt;
        head = λ K same. same;
        within = λ lines within. omega (arith, within);
        on = λ text es ls stands. (es, here, tt, (text, ap (λ (t : List ℕ). text ++ t) here, stands));
      }

  pub end_refused : (bytes ≡ codes "end" → ⊥) → Steps (Stage.End H) bytes (Err (Fault BadForm))
  end_refused other text es ls stands = bad_form AtEnd tt bytes (no_end bytes other)

  pub trailing : Steps (Stage.Behind H) bytes (Err (Fault Trailing))
  trailing text es ls stands = trailing_at bytes true
