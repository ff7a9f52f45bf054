-- More bytes of a line of which the first bytes are held.
use Rattle.std.proofs.Common.{◌≡◌, ℕ, ◌+◌, ◌-◌, inl, inr, min, List, ◌++◌, length, take, sym, ap, ◌∙◌, arith}
use Rattle.std.proofs.lemmas.Bool.{cases_lt}
use Rattle.std.proofs.lemmas.List.{take_all, take-append-le, length-take, append-nil}
use Rattle.std.proofs.Math.Seq.{take-append-add}
use Rattle.bp_verify.specs.Held.{most_held}

take_min : (m : ℕ) (part : List ℕ) → take (min (length part) m) part ≡ take m part
take_min m part = elim (cases_lt m (length part)) [
  | inl less ↦ ap (λ (n : ℕ). take n part) (omega (arith, less))
  | inr all ↦ take_all (min (length part) m) part (omega (arith, all)) ∙ sym (take_all m part all)
]

-- the bytes that are held, and as many more as there is room for
pub held_more : (held line part : List ℕ) → held ≡ take most_held line → held ++ take (min (length part) (most_held - length held)) part ≡ take most_held (line ++ part)
held_more held line part is = elim (cases_lt (length line) most_held) [
  | inr long ↦
      let full : length held ≡ most_held = omega (arith, long, ap length is, length-take most_held line) in
      let none : min (length part) (most_held - length held) ≡ 0 = omega (arith, full) in
      ap (λ (n : ℕ). held ++ take n part) none ∙ append-nil held ∙ is ∙ sym (take-append-le most_held line part long)
  | inl short ↦
      let whole : held ≡ line = is ∙ take_all most_held line (omega (arith, short)) in
      let room : length line + (most_held - length line) ≡ most_held = omega (arith, short) in
      ap (λ (l : List ℕ). l ++ take (min (length part) (most_held - length l)) part) whole ∙ ap (λ (l : List ℕ). line ++ l) (take_min (most_held - length line) part)
      ∙ sym (take-append-add line part (most_held - length line)) ∙ ap (λ (n : ℕ). take n (line ++ part)) room
]

-- as the code has it
pub held_after : (held line part now : List ℕ) (count : ℕ) → count ≡ min (length part) (most_held - length held) → now ≡ held ++ take count part → held ≡ take most_held line → now ≡ take most_held (line ++ part)
held_after held line part now count few more is = more ∙ ap (λ (n : ℕ). held ++ take n part) few ∙ held_more held line part is
