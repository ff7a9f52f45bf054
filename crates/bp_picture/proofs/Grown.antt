-- A list of outlines with one more.
use Rattle.std.proofs.Common.{◌≡◌, ℕ, ◌+◌, ◌-◌, ◌<◌, ◌≤◌, List, [], ◌∷◌, ◌++◌, length, get_or, inl, inr, sym, ap, subst, ◌∙◌, arith, length-append}
use Rattle.std.proofs.Math.Seq.{get_or-append_seam}
use Rattle.std.proofs.lemmas.Bool.{cases_eq}
use Rattle.std.proofs.lemmas.List.{get_or_append_left}
use Rattle.bp_picture.specs.declared.outline.Outline.{Outline}
use Rattle.bp_picture.specs.Outlines.{outline_at}

abbrev none : Outline
none = record { loops = [] }

module _ (Is : ℕ → Outline → Type 0) (xs : List Outline) (x : Outline) (e : ℕ) (long : length xs + 1 ≡ e) where
  at_end : outline_at (xs ++ x ∷ []) e ≡ x
  at_end =
      let here : e - 1 ≡ length xs = omega (arith, long) in
      ap (λ (k : ℕ). get_or (xs ++ x ∷ []) k none) here ∙ get_or-append_seam xs x [] none

  before_end : (k : ℕ) → 1 ≤ k → k < e → outline_at (xs ++ x ∷ []) k ≡ outline_at xs k
  before_end k some less = get_or_append_left xs (x ∷ []) none (k - 1) (omega (arith, some, less, long))

  each : ((k : ℕ) → 1 ≤ k → k < e → Is k (outline_at xs k)) → Is e x → (k : ℕ) → 1 ≤ k → k < e + 1 → Is k (outline_at (xs ++ x ∷ []) k)
  each before last k some less = elim (cases_eq k e) [
    | inl same ↦ subst (λ (m : ℕ). Is m (outline_at (xs ++ x ∷ []) m)) (sym same) (subst (λ (o : Outline). Is e o) (sym at_end) last)
    | inr apart ↦
        let early : k < e = omega (arith, less, apart) in
        subst (λ (o : Outline). Is k o) (sym (before_end k some early)) (before k some early)
  ]

  pub one_more : (ys : List Outline) → ys ≡ xs ++ x ∷ [] → ((k : ℕ) → 1 ≤ k → k < e → Is k (outline_at xs k)) → Is e x → (length ys + 1 ≡ e + 1) × ((k : ℕ) → 1 ≤ k → k < e + 1 → Is k (outline_at ys k))
  one_more ys is before last = (
    omega (arith, ap length is, length-append xs (x ∷ []), long),
    λ k some less. subst (λ (os : List Outline). Is k (outline_at os k)) (sym is) (each before last k some less),
  )
