-- The lines up to the number of edges lead on, or have their first fault.
use Rattle.std.proofs.Common.{◌≡◌, ℕ, ◌-◌, ◌≤◌, inl, inr, List, [], ◌∷◌, ◌++◌, decimal, None, Some, Ok, Err, refl, sym, ◌∙◌, ap, subst, arith}
use Rattle.std.specs.Prelude.{codes}
use Rattle.std.proofs.lemmas.List.{append-nil}
use Rattle.bp_base.specs.declared.point.Sheet.{Sheet}
use Rattle.bp_base.specs.declared.point.Sheet.TheVariants.{Square}
use Rattle.bp_base.specs.Limits.{most_number, most_nodes}
use Rattle.bp_base.specs.Tree.{TreeValue}
use Rattle.bp_tree.specs.Edges.{HasEdges}
use Rattle.bp_tree.specs.Growing.{no_nodes}
use Rattle.bp_document.specs.declared.fault.DocKind.TheVariants.{BadForm}
use Rattle.bp_document.specs.declared.stage.Memory.{Memory}
use Rattle.bp_document.specs.declared.stage.Stage.{Stage}
use Rattle.bp_document.specs.Lines.{line}
use Rattle.bp_document.specs.Words.{words}
use Rattle.bp_document.specs.Forms.{IsLine}
use Rattle.bp_document.specs.FormWords.{ReadsField, ReadsSheet}
use Rattle.bp_document.specs.Places.{AtVersion, AtSheet, AtEdges}
use Rattle.bp_document.specs.Stages.{FeedsStage}
use Rattle.bp_document.proofs.NodeLines.{IsWord, spelled_word, number_word, line_of_words, words_of_line}
use Rattle.bp_document.proofs.Forms.{one, sheet_exact}
use Rattle.bp_document.proofs.EdgeSteps.{bad_form}

module _ (keyword bytes : List ℕ) (spelled : IsWord keyword) (least most : ℕ) (small : most ≤ most_number) where
  pub no_field : ReadsField keyword least most (words bytes) None → (n : ℕ) → least ≤ n → n ≤ most → IsLine bytes (line keyword (decimal n ∷ [])) → ⊥
  no_field reads n from to text = reads n from to (words_of_line bytes keyword (decimal n ∷ []) spelled (one (decimal n) (number_word n (omega (arith, to, small)))) text)

  pub field_line : (n : ℕ) → ReadsField keyword least most (words bytes) (Some n) → IsLine bytes (line keyword (decimal n ∷ []))
  field_line n reads = line_of_words bytes keyword (decimal n ∷ []) reads.2

no_edges_yet : HasEdges no_nodes []
no_edges_yet = record { names = refl; uppers = refl; lengths = refl }

module _ (bytes : List ℕ) (m : Memory) where
  pub no_version : ReadsField (codes "boxpleat") 1 2 (words bytes) None → FeedsStage (Stage.Version m) bytes (Err BadForm)
  no_version reads text es stands = bad_form AtVersion bytes (λ h. h) (λ form. elim form [
    | inl first ↦ no_field (codes "boxpleat") bytes (spelled_word (codes "boxpleat") refl) 1 2 (omega arith) reads 1 (omega arith) (omega arith) first
    | inr second ↦ no_field (codes "boxpleat") bytes (spelled_word (codes "boxpleat") refl) 1 2 (omega arith) reads 2 (omega arith) (omega arith) second
  ])

  version_at : (n k : ℕ) → n ≡ k → ReadsField (codes "boxpleat") 1 2 (words bytes) (Some n) → IsLine bytes (line (codes "boxpleat") (decimal k ∷ []))
  version_at n k same reads =
      field_line (codes "boxpleat") bytes (spelled_word (codes "boxpleat") refl) 1 2 (omega arith) n reads ∙ ap (λ (v : ℕ). line (codes "boxpleat") (decimal v ∷ [])) same

  pub first_version : (n : ℕ) → n ≡ 1 → ReadsField (codes "boxpleat") 1 2 (words bytes) (Some n) → FeedsStage (Stage.Version m) bytes (Ok (Stage.Edges Square m))
  first_version n same reads text es stands =
      ([], inl (version_at n 1 same reads), (inl (ap (λ (t : List ℕ). t ++ (bytes ++ 10 ∷ [])) stands.0 ∙ version_at n 1 same reads, refl), stands.1))

  pub second_version : (n : ℕ) → (n ≡ 1 → ⊥) → ReadsField (codes "boxpleat") 1 2 (words bytes) (Some n) → FeedsStage (Stage.Version m) bytes (Ok (Stage.Sheet m))
  second_version n other reads text es stands =
      let here = version_at n 2 (omega (arith, other, reads.0, reads.1)) reads in
      ([], inr here, (ap (λ (t : List ℕ). t ++ (bytes ++ 10 ∷ [])) stands.0 ∙ here, stands.1))

  pub no_sheet : ReadsSheet (words bytes) None → FeedsStage (Stage.Sheet m) bytes (Err BadForm)
  no_sheet reads text es stands = bad_form AtSheet bytes (λ h. h) (λ form. sheet_exact bytes None reads form.0 form.1)

  pub sheet_read : (G : Sheet) → ReadsSheet (words bytes) (Some G) → FeedsStage (Stage.Sheet m) bytes (Ok (Stage.Edges G m))
  sheet_read G reads text es stands =
      let is = sheet_exact bytes (Some G) reads in
      ([], (G, is), (inr (ap (λ (t : List ℕ). t ++ (bytes ++ 10 ∷ [])) stands.0 ∙ ap (λ (t : List ℕ). line (codes "boxpleat") (decimal 2 ∷ []) ++ t) is.text, is.sheet), stands.1))

  module _ (G : Sheet) where
    pub no_count : ReadsField (codes "edges") 2 (most_nodes - 1) (words bytes) None → FeedsStage (Stage.Edges G m) bytes (Err BadForm)
    no_count reads text es stands = bad_form AtEdges bytes (λ h. h) (λ form.
        no_field (codes "edges") bytes (spelled_word (codes "edges") refl) 2 (most_nodes - 1) (omega arith) reads form.0 form.2.0 (omega (arith, form.2.1)) form.1.text)

    pub count_read : (E : ℕ) → ReadsField (codes "edges") 2 (most_nodes - 1) (words bytes) (Some E) → FeedsStage (Stage.Edges G m) bytes (Ok (Stage.Edge G E E m))
    count_read E reads text es stands =
        let here = field_line (codes "edges") bytes (spelled_word (codes "edges") refl) 2 (most_nodes - 1) (omega arith) E reads in
        let fresh = stands.1 in (
          [],
          (E, record { text = here; small = omega (arith, reads.1) }, (reads.0, omega (arith, reads.1))),
          (
            (text, stands.0, ap (λ (t : List ℕ). text ++ t) (here ∙ sym (append-nil (line (codes "edges") (decimal E ∷ []))))),
            (reads.0, omega (arith, reads.1)),
            omega (arith, reads.0),
            omega arith,
            subst (λ (T : TreeValue). HasEdges T []) (sym fresh.0) no_edges_yet,
            fresh.1,
            fresh.2,
            fresh.3,
          ),
        )
