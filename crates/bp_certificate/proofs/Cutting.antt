-- Bytes are cut before the first marked one in one way.
use Rattle.std.proofs.Common.{◌≡◌, ℕ, suc, ◌+◌, ◌-◌, ◌<◌, true, false, List, [], ◌∷◌, ◌++◌, length, get_or, take, drop, All, refl, sym, ◌∙◌, ap, subst, arith, append_assoc}
use Rattle.std.proofs.lemmas.Bool.{false≢true}
use Rattle.std.proofs.lemmas.List.{length-take-le, get_or-take, take-append-drop, drop_more, drop_all, take_rest, append-nil}
use Rattle.std.proofs.lemmas.List.Elements.{All-from_get_or}
use Rattle.bp_document.proofs.Spelling.{NoEnd}
use Rattle.bp_certificate.specs.declared.mark.Mark.{Mark}
use Rattle.bp_certificate.specs.Words.{Begins, IsCut, is_marked}

-- no byte before place i is marked
abbrev pub IsFreeTo : Mark → List ℕ → ℕ → Type 0
IsFreeTo mark bs i = (k : ℕ) → k < i → is_marked mark (get_or bs k 0) ≡ false

module _ (mark : Mark) where
  pub cut_here : (bs : List ℕ) (i : ℕ) → i < length bs → IsFreeTo mark bs i → is_marked mark (get_or bs i 0) ≡ true → IsCut mark bs (take i bs) (take (length bs - i) (drop i bs))
  cut_here bs i less free here =
      let rest : take (length bs - i) (drop i bs) ≡ get_or bs i 0 ∷ drop (i + 1) bs = take_rest bs i ∙ drop_more bs i 0 less in
      record {
        whole = sym (take-append-drop i bs) ∙ ap (λ (t : List ℕ). take i bs ++ t) (sym (take_rest bs i));
        free = All-from_get_or (λ b. is_marked mark b ≡ false) (take i bs) 0 (λ k l. let m : k < i = omega (arith, l, length-take-le i bs (omega (arith, less))) in subst (λ (b : ℕ). is_marked mark b ≡ false) (sym (get_or-take i bs k 0 m)) (free k m));
        begins = subst (Begins mark) (sym rest) here;
      }

  pub cut_none : (bs : List ℕ) → IsFreeTo mark bs (length bs) → IsCut mark bs bs (take (length bs - length bs) (drop (length bs) bs))
  cut_none bs free =
      let rest : take (length bs - length bs) (drop (length bs) bs) ≡ [] = take_rest bs (length bs) ∙ drop_all (length bs) bs (omega arith) in
      record {
        whole = sym (append-nil bs) ∙ ap (λ (t : List ℕ). bs ++ t) (sym rest);
        free = All-from_get_or (λ b. is_marked mark b ≡ false) bs 0 free;
        begins = subst (Begins mark) (sym rest) tt;
      }

  first : (b : ℕ) (bs : List ℕ) → All (λ c. is_marked mark c ≡ false) (b ∷ bs) → is_marked mark b ≡ false
  first b bs free = free 0 0 (omega arith)

  others : (b : ℕ) (bs : List ℕ) → All (λ c. is_marked mark c ≡ false) (b ∷ bs) → All (λ c. is_marked mark c ≡ false) bs
  others b bs free k d less = free (suc k) d (omega (arith, less))

  -- two cuts of the same bytes
  pub one_cut : (a b x y : List ℕ) → All (λ c. is_marked mark c ≡ false) a → All (λ c. is_marked mark c ≡ false) b → Begins mark x → Begins mark y → a ++ x ≡ b ++ y → (a ≡ b) × (x ≡ y)
  one_cut [] [] x y free free' begins begins' same = (refl, same)
  one_cut [] (c ∷ b) x y free free' begins begins' same = absurd (false≢true (sym (first c b free') ∙ subst (Begins mark) same begins))
  one_cut (c ∷ a) [] x y free free' begins begins' same = absurd (false≢true (sym (first c a free) ∙ subst (Begins mark) (sym same) begins'))
  one_cut (c ∷ a) (d ∷ b) x y free free' begins begins' same =
      let rest = one_cut a b x y (others c a free) (others d b free') begins begins' (ap (drop 1) same) in
      let head : c ≡ d = ap (λ (l : List ℕ). get_or l 0 0) same in
      (λ i. head i ∷ rest.0 i, rest.1)

-- two ways to cut off a line
pub cut_line : (b c x y : List ℕ) → NoEnd b → NoEnd c → b ++ 10 ∷ x ≡ c ++ 10 ∷ y → (b ≡ c) × (x ≡ y)
cut_line [] [] x y free free' same = (refl, ap (drop 1) same)
cut_line [] (d ∷ c) x y free free' same = absurd (free' 0 0 (omega arith) (sym (ap (λ (l : List ℕ). get_or l 0 0) same)))
cut_line (a ∷ b) [] x y free free' same = absurd (free 0 0 (omega arith) (ap (λ (l : List ℕ). get_or l 0 0) same))
cut_line (a ∷ b) (d ∷ c) x y free free' same =
    let head : a ≡ d = ap (λ (l : List ℕ). get_or l 0 0) same in
    let rest = cut_line b c x y (λ k e less. free (suc k) e (omega (arith, less))) (λ k e less. free' (suc k) e (omega (arith, less))) (ap (drop 1) same) in
    (λ i. head i ∷ rest.0 i, rest.1)

-- what follows the first of some lines
pub cut_first : (b lines rest : List ℕ) → ((b ++ 10 ∷ []) ++ lines) ++ rest ≡ b ++ 10 ∷ (lines ++ rest)
cut_first b lines rest = append_assoc (b ++ 10 ∷ []) lines rest ∙ append_assoc b (10 ∷ []) (lines ++ rest)
