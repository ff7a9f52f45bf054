-- Texts of parts one after another, and what one call of `put_parts` wrote of them.
use Rattle.std.proofs.Common.{◌≡◌, ℕ, List, [], ◌++◌, Result, refl, sym, ap, ◌∙◌, append_assoc}
use Rattle.std.specs.declared.option.Option.{Option}
use Rattle.std.proofs.lemmas.List.{append-nil}
use Rattle.bp_base.specs.declared.outside.Failed.{Failed}
use Rattle.bp_text.specs.Puts.{Puts}
use Rattle.bp_text.proofs.Puts.{puts_same}

pub four : (a b c d : List ℕ) → a ++ b ++ c ++ d ≡ a ++ (b ++ (c ++ d))
four a b c d = simp append_assoc refl

in_four : (a x b y : List ℕ) → a ++ x ++ b ++ y ≡ a ++ (x ++ (b ++ (y ++ [])))
in_four a x b y = simp (append_assoc, append-nil) refl

in_five : (a x b y d : List ℕ) → a ++ x ++ b ++ y ++ d ≡ a ++ (x ++ (b ++ (y ++ (d ++ []))))
in_five a x b y d = simp (append_assoc, append-nil) refl

in_seven : (a x b y d z f : List ℕ) → a ++ x ++ b ++ y ++ d ++ z ++ f ≡ a ++ (x ++ (b ++ (y ++ (d ++ (z ++ (f ++ []))))))
in_seven a x b y d z f = simp (append_assoc, append-nil) refl

module _ {T : Type 0} (before after : Option (List ℕ)) (r : Result T Failed) where
  pub puts_four : (a x b y u v : List ℕ) → u ≡ x → v ≡ y → Puts before after r (a ++ (u ++ (b ++ (v ++ [])))) → Puts before after r (a ++ x ++ b ++ y)
  puts_four a x b y u v x_is y_is puts =
      puts_same before after r (a ++ (u ++ (b ++ (v ++ [])))) (a ++ x ++ b ++ y) puts
      (in_four a x b y ∙ ap (λ (t : List ℕ). a ++ (t ++ (b ++ (y ++ [])))) (sym x_is) ∙ ap (λ (t : List ℕ). a ++ (u ++ (b ++ (t ++ [])))) (sym y_is))

  pub puts_five : (a x b y d u v : List ℕ) → u ≡ x → v ≡ y → Puts before after r (a ++ (u ++ (b ++ (v ++ (d ++ []))))) → Puts before after r (a ++ x ++ b ++ y ++ d)
  puts_five a x b y d u v x_is y_is puts =
      puts_same before after r (a ++ (u ++ (b ++ (v ++ (d ++ []))))) (a ++ x ++ b ++ y ++ d) puts
      (in_five a x b y d ∙ ap (λ (t : List ℕ). a ++ (t ++ (b ++ (y ++ (d ++ []))))) (sym x_is) ∙ ap (λ (t : List ℕ). a ++ (u ++ (b ++ (t ++ (d ++ []))))) (sym y_is))

  pub puts_seven : (a x b y d z f u v w : List ℕ) → u ≡ x → v ≡ y → w ≡ z → Puts before after r (a ++ (u ++ (b ++ (v ++ (d ++ (w ++ (f ++ []))))))) → Puts before after r (a ++ x ++ b ++ y ++ d ++ z ++ f)
  puts_seven a x b y d z f u v w x_is y_is z_is puts =
      puts_same before after r (a ++ (u ++ (b ++ (v ++ (d ++ (w ++ (f ++ []))))))) (a ++ x ++ b ++ y ++ d ++ z ++ f) puts
      (in_seven a x b y d z f ∙ ap (λ (t : List ℕ). a ++ (t ++ (b ++ (y ++ (d ++ (z ++ (f ++ []))))))) (sym x_is) ∙ ap (λ (t : List ℕ). a ++ (u ++ (b ++ (t ++ (d ++ (z ++ (f ++ []))))))) (sym y_is) ∙ ap (λ (t : List ℕ). a ++ (u ++ (b ++ (v ++ (d ++ (t ++ (f ++ []))))))) (sym z_is))
