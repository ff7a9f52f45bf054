-- The number that a text of an option is read as.
use Rattle.std.proofs.Common.{◌≡◌, ◌<◌, ◌≤◌, ◌^◌, ℕ, List, Option, Some, Result, Ok, sym, ◌∙◌, ap, subst}
use Rattle.std.specs.Str.Parse.{ParsesUnsigned, digits_value, without_leading_plus}
use Rattle.clap.specs.Lexer.{without_minus}
use Rattle.clap.specs.Matches.{ReadsOne, one_text}
use Rattle.clap.specs.Walk.{Row, one_of, rows_of}
use Rattle.clap.specs.declared.parser.matches.Found.{Found}
use Rattle.clap.proofs.CallerReads.{signed_reads}
use Rattle.clap.proofs.WalkLemmas.{one_text-rows}
use Rattle.boxpleat_batch.specs.Numbers.{HasNumber}

module _ {E : Type 0} (G : List ℕ → Result ℕ E → Type 0) (only : (u : List ℕ) (x : Result ℕ E) → G u x → ParsesUnsigned 16 10 u x) (f : Found) (name : List ℕ) (r : Option ℕ)
    (read : (t : List ℕ) → one_text f name ≡ Some t → ReadsOne G t r) where
  -- the number lies within its bounds
  pub within : (most : ℕ) → most < 2 ^ 16 → HasNumber f name most → (n : ℕ) × (r ≡ Some n) × (1 ≤ n) × (n ≤ most)
  within most small has = signed_reads E G 16 1 most has.0 r (read (without_minus has.0) has.1) only small has.2

  -- and is that of the text
  pub of_text : (most n : ℕ) → HasNumber f name most → r ≡ Some n → (t : List ℕ) × (one_text f name ≡ Some t) × (n ≡ digits_value 10 (without_leading_plus t))
  of_text most n has is =
      let text = without_minus has.0 in
      let parsed = only text (Ok n) (subst (λ (o : Option ℕ). ReadsOne G text o) is (read text has.1)) in
      (text, has.1, parsed.1)

-- what stands among the matches stands among the rows
pub among_rows : (f : Found) (name t : List ℕ) (rows : List Row) → one_text f name ≡ Some t → rows_of f ≡ rows → one_of name rows ≡ Some t
among_rows f name t rows is same = sym (one_text-rows f name ∙ ap (one_of name) same) ∙ is
