-- More bytes of a line of which the first bytes are held.
use Rattle.std.proofs.Common.{◌≡◌, ℕ, ◌+◌, ◌-◌, ◌≤◌, inl, inr, min, List, ◌++◌, length, take, sym, ap, ◌∙◌, arith}
use Rattle.std.proofs.lemmas.Bool.{cases_lt}
use Rattle.std.proofs.lemmas.List.{take_all, take-append-le, length-take, length-take-le, append-nil}
use Rattle.std.proofs.lemmas.Slice.{take-put_mid}
use Rattle.std.proofs.Math.Seq.{take-append-add}
use borrow.Rule.Slice.PartMut.{put_mid}
use Rattle.bp_check.specs.Held.{most_held}

take_min : (m : ℕ) (part : List ℕ) → take (min (length part) m) part ≡ take m part
take_min m part = elim (cases_lt m (length part)) [
  | inl less ↦ ap (λ (n : ℕ). take n part) (omega (arith, less))
  | inr all ↦ take_all (min (length part) m) part (omega (arith, all)) ∙ sym (take_all m part all)
]

-- the bytes that are held, and as many more as there is room for
held_more : (held line part : List ℕ) → held ≡ take most_held line → held ++ take (min (length part) (most_held - length held)) part ≡ take most_held (line ++ part)
held_more held line part is = elim (cases_lt (length line) most_held) [
  | inr long ↦
      let full : length held ≡ most_held = omega (arith, long, ap length is, length-take most_held line) in
      let none : min (length part) (most_held - length held) ≡ 0 = omega (arith, full) in
      ap (λ (n : ℕ). held ++ take n part) none ∙ append-nil held ∙ is ∙ sym (take-append-le most_held line part long)
  | inl short ↦
      let whole : held ≡ line = is ∙ take_all most_held line (omega (arith, short)) in
      let room : length line + (most_held - length line) ≡ most_held = omega (arith, short) in
      ap (λ (l : List ℕ). l ++ take (min (length part) (most_held - length l)) part) whole ∙ ap (λ (l : List ℕ). line ++ l) (take_min (most_held - length line) part)
      ∙ sym (take-append-add line part (most_held - length line)) ∙ ap (λ (n : ℕ). take n (line ++ part)) room
]

-- as the code has it: a part of the bytes is written
pub held_after : (held line part bytes new : List ℕ) (len count k : ℕ) → held ≡ take len bytes → len ≤ most_held → length bytes ≡ most_held → count ≡ min (length part) (most_held - len) → new ≡ take count part → held ≡ take most_held line → take (len + count) (put_mid len k bytes new) ≡ take most_held (line ++ part)
held_after held line part bytes new len count k view within all few written is =
    let long : length held ≡ len = ap length view ∙ length-take-le len bytes (omega (arith, all, within)) in
    let more : length new ≡ count = ap length written ∙ length-take-le count part (omega (arith, few)) in
    let same : count ≡ min (length part) (most_held - length held) = omega (arith, few, long) in
    take-put_mid len k bytes new (len + count) (omega (arith, more)) (omega (arith, all, within)) ∙ ap (λ (l : List ℕ). l ++ new) (sym view) ∙ ap (λ (l : List ℕ). held ++ l) (written ∙ ap (λ (n : ℕ). take n part) same)
    ∙ held_more held line part is
