-- Names of nodes are names, and differ.
use Rattle.std.proofs.Common.{◌≡◌, ◌≢◌, ℕ, zero, suc, ◌+◌, ◌%◌, ◌^◌, ◌<◌, List, [], ◌∷◌, map, decimal, get_or, All, AllPairs, IsTrue, refl, sym, ◌∙◌, ap, subst, arith}
use Rattle.std.specs.List.{range_with_len}
use Rattle.std.proofs.lemmas.Fmt.{decimal_by_steps, decimal_injective, length-decimal-le}
use Rattle.std.proofs.lemmas.List.Elements.{All-append}
use Rattle.std.proofs.lemmas.List.FromFn.{length-map-range_with_len, get_or-map-range_with_len}
use Rattle.bp_base.specs.Name.{IsName, is_name_byte}
use Rattle.bp_made.specs.Made.{node_name}

abbrev Spelled : List ℕ → Type 0
Spelled = All (λ b. IsTrue (is_name_byte b))

digit : (m : ℕ) → m < 10 → IsTrue (is_name_byte (48 + m))
digit zero l = refl
digit (suc zero) l = refl
digit (suc (suc zero)) l = refl
digit (suc (suc (suc zero))) l = refl
digit (suc (suc (suc (suc zero)))) l = refl
digit (suc (suc (suc (suc (suc zero))))) l = refl
digit (suc (suc (suc (suc (suc (suc zero)))))) l = refl
digit (suc (suc (suc (suc (suc (suc (suc zero))))))) l = refl
digit (suc (suc (suc (suc (suc (suc (suc (suc zero)))))))) l = refl
digit (suc (suc (suc (suc (suc (suc (suc (suc (suc zero))))))))) l = refl
digit (suc (suc (suc (suc (suc (suc (suc (suc (suc (suc m)))))))))) l = absurd (omega arith)

one : (b : ℕ) → IsTrue (is_name_byte b) → Spelled (b ∷ [])
one b h i d less =
    let first : i ≡ 0 = omega arith in subst (λ (x : ℕ). IsTrue (is_name_byte (get_or (b ∷ []) x d))) (sym first) h

spelled : (n : ℕ) → n < 2 ^ 64 → Spelled (decimal n)
spelled = decimal_by_steps (λ m ds. Spelled ds) (λ m l. one (48 + m) (digit m l)) (λ m ds l h. All-append (λ b. IsTrue (is_name_byte b)) ds ((48 + m % 10) ∷ []) h (one (48 + m % 10) (digit (m % 10) (omega arith))))

pub is_name : (n : ℕ) → n < 2 ^ 64 → IsName (node_name n)
is_name n small = record {
  some = omega arith;
  short = omega (arith, length-decimal-le 20 n (omega arith) (omega arith) small);
  spelled = All-append (λ b. IsTrue (is_name_byte b)) (110 ∷ []) (decimal n) (one 110 refl) (spelled n small);
}

pub names_spelled : (n : ℕ) → n < 2 ^ 64 → All IsName (map node_name (range_with_len 0 n))
names_spelled n few k d less =
    let within : k < n = omega (arith, length-map-range_with_len node_name 0 n) in
    subst IsName (sym (get_or-map-range_with_len node_name 0 n k k d within (omega arith))) (is_name k (omega arith))

abbrev tail : List ℕ → List ℕ
tail [] = []
tail (x ∷ xs) = xs

pub names_differ : (n : ℕ) → n < 2 ^ 64 → AllPairs (λ a b. a ≢ b) (map node_name (range_with_len 0 n))
names_differ n few i j d ij less same =
    let within : j < n = omega (arith, length-map-range_with_len node_name 0 n) in
    let a = get_or-map-range_with_len node_name 0 n i i d (omega arith) (omega arith) in
    let b = get_or-map-range_with_len node_name 0 n j j d within (omega arith) in
    let tails : decimal i ≡ decimal j = ap tail (sym a ∙ same ∙ b) in
    absurd (omega (arith, decimal_injective i j (omega arith) (omega arith) tails))
