-- Bytes that are read as canonical decimal.
use Rattle.std.proofs.Common.{◌≡◌, inl, inr, ℕ, ◌+◌, ◌-◌, ◌*◌, ◌^◌, ◌<◌, ◌≤◌, List, length, get_or, take, decimal, sym, ◌∙◌, ap, subst, arith}
use Rattle.std.specs.Char.{digit_value}
use Rattle.std.specs.Int.{IsInRange}
use Rattle.std.specs.Str.Parse.{digits_value, AllDigits}
use Rattle.std.proofs.Math.Nat.{one-le-pow, pow-le-pow_right}
use Rattle.std.proofs.lemmas.Bool.{cases_eq}
use Rattle.std.proofs.lemmas.List.{take_all, length-take-le}
use Rattle.std.proofs.lemmas.Str.{digit_value_digit}
use Rattle.std.proofs.lemmas.Int.Digits.{digits_value-lt, digits_value_more, digits_more}
use Rattle.std.proofs.lemmas.Str.Parse.{IsNumeralModel, numerals_by_value, tells_digits, digit_at}
use Rattle.std.proofs.lemmas.Fmt.{decimal_is_IsNumeral, decimal_nonempty, length-decimal-le, first_decimal, decimal_digit, decimal_injective, decimal-digits_value}
use Rattle.bp_text.specs.Numbers.{IsDecimal}

numerals : IsNumeralModel (AllDigits 10) (digits_value 10)
numerals = numerals_by_value (AllDigits 10) tells_digits

module _ (digits : ℕ) (some : 1 ≤ digits) (few : digits ≤ 10) where
  below : (n : ℕ) → n ≤ 10 ^ digits - 1 → n < 10 ^ digits
  below n small = omega (arith, one-le-pow digits 10 (omega arith))

  below_word : (n : ℕ) → n ≤ 10 ^ digits - 1 → n < 2 ^ 64
  below_word n small = let most : 10 ^ digits ≤ 10 ^ 10 = pow-le-pow_right (omega arith) few in omega (arith, below n small)

  one_zero : (n : ℕ) → n < 2 ^ 64 → get_or (decimal n) 0 0 ≡ 48 → length (decimal n) ≡ 1
  one_zero n word first = elim (cases_eq n 0) [
    | inl is ↦ ap (λ (m : ℕ). length (decimal m)) is ∙ ap length (decimal_digit 0 (omega arith))
    | inr not ↦ absurd (omega (arith, first_decimal n (omega arith) word))
  ]

  pub short : (bytes : List ℕ) (n : ℕ) → IsDecimal (10 ^ digits - 1) bytes n → (1 ≤ length bytes) × (length bytes ≤ digits) × (get_or bytes 0 0 ≡ 48 → length bytes ≡ 1)
  short bytes n is =
      let word = below_word n is.1 in
      let same = is.0 in
      rw same (decimal_nonempty n word, length-decimal-le digits n some (below n is.1) word, one_zero n word)

  pub digit_in : (bytes : List ℕ) (n i : ℕ) → IsDecimal (10 ^ digits - 1) bytes n → i < length bytes → (48 ≤ get_or bytes i 0) × (get_or bytes i 0 ≤ 57)
  digit_in bytes n i is less =
      let word = below_word n is.1 in
      digit_at bytes i (subst (AllDigits 10) (sym is.0) (decimal_is_IsNumeral n word).0.1) less

  -- digits of which each was read are the decimal of their value
  pub read : (bytes : List ℕ) (n : ℕ) → (1 ≤ length bytes) × (length bytes ≤ digits) × (get_or bytes 0 0 ≡ 48 → length bytes ≡ 1) → AllDigits 10 bytes → n ≡ digits_value 10 bytes → IsDecimal (10 ^ digits - 1) bytes n
  read bytes n form all is =
      let small : digits_value 10 bytes < 10 ^ length bytes = digits_value-lt 10 bytes all in
      let most : 10 ^ length bytes ≤ 10 ^ digits = pow-le-pow_right (omega arith) form.1 in
      let fits : n ≤ 10 ^ digits - 1 = omega (arith, small, most, is) in
      let word = below_word n fits in
      let text : decimal (digits_value 10 bytes) ≡ bytes = decimal-digits_value numerals bytes all form.0 form.2 (omega (arith, word, is)) in
      (sym text ∙ ap decimal (sym is), fits)

  -- a digit more, which still fits
  pub fits : (bytes : List ℕ) (i value : ℕ) → length bytes ≤ digits → i < length bytes → AllDigits 10 (take i bytes) → value ≡ digits_value 10 (take i bytes) → value * 10 + 10 < 2 ^ 64
  fits bytes i value short_enough less all is =
      let small : digits_value 10 (take i bytes) < 10 ^ length (take i bytes) = digits_value-lt 10 (take i bytes) all in
      let long : length (take i bytes) ≤ 10 = omega (arith, length-take-le i bytes (omega arith)) in
      let most : 10 ^ length (take i bytes) ≤ 10 ^ 10 = pow-le-pow_right (omega arith) long in
      omega (arith, small, most, is)

pub more : (bytes : List ℕ) (i value read d : ℕ) → i < length bytes → IsInRange 48 57 (get_or bytes i 0) → AllDigits 10 (take i bytes) → value ≡ digits_value 10 (take i bytes) → d ≡ get_or bytes i 0 - 48 → read ≡ d → (value * 10 + read ≡ digits_value 10 (take (i + 1) bytes)) × AllDigits 10 (take (i + 1) bytes)
more bytes i value read d less range all is diff same =
    let digit : digit_value (get_or bytes i 0) + 48 ≡ get_or bytes i 0 = digit_value_digit (get_or bytes i 0) range in
    (omega (arith, digits_value_more 10 bytes i less, digit, is, diff, same), digits_more 10 bytes i less all (omega (arith, digit, range.1)))

pub whole : (bytes : List ℕ) (i value : ℕ) → length bytes ≤ i → (value ≡ digits_value 10 (take i bytes)) × AllDigits 10 (take i bytes) → AllDigits 10 bytes × (value ≡ digits_value 10 bytes)
whole bytes i value done so_far = (subst (AllDigits 10) (take_all i bytes done) so_far.1, so_far.0 ∙ ap (digits_value 10) (take_all i bytes done))

-- bytes are the decimal of one number
pub one_decimal : (most : ℕ) (bytes : List ℕ) (m n : ℕ) → most < 2 ^ 64 → IsDecimal most bytes m → IsDecimal most bytes n → m ≡ n
one_decimal most bytes m n word first second =
    decimal_injective m n (omega (arith, first.1)) (omega (arith, second.1)) (sym first.0 ∙ second.0)
