-- A name of bytes that were copied to the front of zeros.
use Rattle.std.proofs.Common.{◌≡◌, ℕ, ◌-◌, ◌≤◌, List, ◌++◌, length, take, drop, replicate, sym, ap, ◌∙◌, subst, arith, length-append}
use Rattle.std.proofs.lemmas.List.{take_at, drop_at, drop-replicate, length-replicate}
use Rattle.bp_base.specs.Name.{IsName}

pub padded : (bytes copied zeros : List ℕ) → length bytes ≤ 32 → copied ≡ bytes → zeros ≡ replicate 32 0 → IsName bytes → (length bytes ≤ 32) × (length (copied ++ drop (length bytes) zeros) ≡ 32) × (drop (length bytes) (copied ++ drop (length bytes) zeros) ≡ replicate (32 - length bytes) 0) × IsName (take (length bytes) (copied ++ drop (length bytes) zeros))
padded bytes copied zeros short same zero name =
    let long : length copied ≡ length bytes = ap length same in
    let rest : drop (length bytes) zeros ≡ replicate (32 - length bytes) 0 = ap (λ (z : List ℕ). drop (length bytes) z) zero ∙ drop-replicate (length bytes) 32 0 in (
      short,
      omega (arith, length-append copied (drop (length bytes) zeros), long, ap length rest, length-replicate {A = ℕ} (32 - length bytes) 0, short),
      drop_at copied (drop (length bytes) zeros) (length bytes) long ∙ rest,
      subst IsName (sym (take_at copied (drop (length bytes) zeros) (length bytes) long ∙ same)) name,
    )
