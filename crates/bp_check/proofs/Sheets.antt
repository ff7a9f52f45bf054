-- A text begins as one for one sheet only.
use Rattle.std.proofs.Common.{◌≡◌, ◌≢◌, ℕ, suc, ◌≤◌, inl, inr, List, [], ◌∷◌, ◌++◌, get_or, drop, decimal, All, refl, sym, ◌∙◌, ap, subst, arith, append_assoc}
use Rattle.std.specs.Prelude.{codes}
use Rattle.bp_base.specs.declared.point.Sheet.{Sheet}
use Rattle.bp_base.specs.declared.point.Sheet.TheVariants.{Square, Strip}
use Rattle.bp_metric.specs.Metric.{IsSheet}
use Rattle.bp_document.specs.Lines.{sheet_line}
use Rattle.bp_document.specs.Forms.{IsLine, IsSheetLine, version_line}
use Rattle.bp_document.specs.FormWords.{sheet_words}
use Rattle.bp_document.specs.Places.{IsStart}
use Rattle.bp_document.proofs.OneForm.{version_differs, sheet_one}
use Rattle.bp_document.proofs.Runs.{bare, bare_line}
use Rattle.bp_document.proofs.Spelling.{version_spelled, sheet_spelled}
use Rattle.bp_check.specs.Intake.{Starts}

-- two texts that begin with a line are the same, so the lines are, and what follows them
pub one_line : (a b p q : List ℕ) → All (λ x. x ≢ 10) a → All (λ x. x ≢ 10) b → a ++ 10 ∷ p ≡ b ++ 10 ∷ q → (a ≡ b) × (p ≡ q)
one_line [] [] p q free free' same = (refl, ap (drop 1) same)
one_line [] (y ∷ b) p q free free' same = absurd (free' 0 0 (omega arith) (sym (ap (λ (l : List ℕ). get_or l 0 0) same)))
one_line (x ∷ a) [] p q free free' same = absurd (free 0 0 (omega arith) (ap (λ (l : List ℕ). get_or l 0 0) same))
one_line (x ∷ a) (y ∷ b) p q free free' same =
    let first : x ≡ y = ap (λ (l : List ℕ). get_or l 0 0) same in
    let rest = one_line a b p q (λ k d less. free (suc k) d (omega (arith, less))) (λ k d less. free' (suc k) d (omega (arith, less))) (ap (drop 1) same) in
    (λ i. first i ∷ rest.0 i, rest.1)

-- a line in front, without its LF
front : (a text rest : List ℕ) → IsLine a text → a ++ 10 ∷ rest ≡ text ++ rest
front a text rest is = sym (append_assoc a (10 ∷ []) rest) ∙ ap (λ (t : List ℕ). t ++ rest) is

abbrev version_bare : ℕ → List ℕ
version_bare n = bare (codes "boxpleat") (decimal n ∷ [])

version_is : (n : ℕ) → IsLine (version_bare n) (version_line n)
version_is n = bare_line (codes "boxpleat") (decimal n ∷ [])

version_meet : (n m : ℕ) (p q : List ℕ) → n ≤ 2 → m ≤ 2 → version_line n ++ p ≡ version_line m ++ q → (version_bare n ≡ version_bare m) × (p ≡ q)
version_meet n m p q small small' same =
    one_line (version_bare n) (version_bare m) p q (version_spelled (version_bare n) n small (version_is n)).free (version_spelled (version_bare m) m small' (version_is m)).free
    (front (version_bare n) (version_line n) p (version_is n) ∙ same ∙ sym (front (version_bare m) (version_line m) q (version_is m)))

versions_differ : (p q : List ℕ) → version_line 1 ++ p ≡ version_line 2 ++ q → ⊥
versions_differ p q same =
    let one = (version_meet 1 2 p q (omega arith) (omega arith) same).0 in
    version_differs (version_bare 2) (subst (λ (b : List ℕ). IsLine b (version_line 1)) one (version_is 1)) (version_is 2)

abbrev sheet_bare : Sheet → List ℕ
sheet_bare G = bare (codes "sheet") (sheet_words G)

sheet_is : (G : Sheet) → IsLine (sheet_bare G) (sheet_line G)
sheet_is Square = bare_line (codes "sheet") (sheet_words Square)
sheet_is (Strip width) = bare_line (codes "sheet") (sheet_words (Strip width))

sheet_form : (G : Sheet) → IsSheet G → IsSheetLine (sheet_bare G) G
sheet_form G small = record { text = sheet_is G; sheet = small }

sheets_meet : (G F : Sheet) (p q : List ℕ) → IsSheet G → IsSheet F → sheet_line G ++ p ≡ sheet_line F ++ q → G ≡ F
sheets_meet G F p q small small' same =
    let one = one_line (sheet_bare G) (sheet_bare F) p q (sheet_spelled (sheet_bare G) G (sheet_form G small)).free (sheet_spelled (sheet_bare F) F (sheet_form F small')).free
    (front (sheet_bare G) (sheet_line G) p (sheet_is G) ∙ same ∙ sym (front (sheet_bare F) (sheet_line F) q (sheet_is F))) in
    sheet_one (sheet_bare F) G F (subst (λ (b : List ℕ). IsSheetLine b G) one.0 (sheet_form G small)) (sheet_form F small')

starts_meet : (s t p q : List ℕ) (G F : Sheet) → IsStart s G → IsStart t F → s ++ p ≡ t ++ q → G ≡ F
starts_meet s t p q G F (inl x) (inl y) same = x.1 ∙ sym y.1
starts_meet s t p q G F (inl x) (inr y) same =
    absurd (versions_differ p (sheet_line F ++ q) (ap (λ (u : List ℕ). u ++ p) (sym x.0) ∙ same ∙ ap (λ (u : List ℕ). u ++ q) y.0 ∙ append_assoc (version_line 2) (sheet_line F) q))
starts_meet s t p q G F (inr x) (inl y) same =
    absurd (versions_differ q (sheet_line G ++ p) (ap (λ (u : List ℕ). u ++ q) (sym y.0) ∙ sym same ∙ ap (λ (u : List ℕ). u ++ p) x.0 ∙ append_assoc (version_line 2) (sheet_line G) p))
starts_meet s t p q G F (inr x) (inr y) same =
    let both : version_line 2 ++ (sheet_line G ++ p) ≡ version_line 2 ++ (sheet_line F ++ q) =
    sym (append_assoc (version_line 2) (sheet_line G) p) ∙ ap (λ (u : List ℕ). u ++ p) (sym x.0) ∙ same ∙ ap (λ (u : List ℕ). u ++ q) y.0 ∙ append_assoc (version_line 2) (sheet_line F) q in
    sheets_meet G F p q x.1 y.1 (version_meet 2 2 (sheet_line G ++ p) (sheet_line F ++ q) (omega arith) (omega arith) both).1

pub one_sheet : (text : List ℕ) (G F : Sheet) → Starts text G → Starts text F → G ≡ F
one_sheet text G F here there = starts_meet here.1.0 there.1.0 here.0 there.0 G F here.1.1 there.1.1 (sym here.1.2 ∙ there.1.2)

pub starts_more : (text more : List ℕ) (G : Sheet) → Starts text G → Starts (text ++ more) G
starts_more text more G here = (here.0 ++ more, (here.1.0, here.1.1, ap (λ (t : List ℕ). t ++ more) here.1.2 ∙ append_assoc here.1.0 here.0 more))
