-- No two edges have one fill.
use Rattle.std.proofs.Common.{◌≡◌, ℕ, ◌+◌, ◌-◌, ◌*◌, ◌/◌, ◌%◌, ◌<◌, Bool, true, false, if◌then◌else◌, ap, sym, arith}
use Rattle.bp_picture.specs.declared.fill.Fill.{Fill}
use Rattle.bp_picture.specs.Fills.{flap_fill, river_fill, shade_of}

by_digits : (s t : ℕ) → s < 64 → t < 64 → s / 16 ≡ t / 16 → s / 4 % 4 ≡ t / 4 % 4 → s % 4 ≡ t % 4 → s ≡ t
by_digits s t s_less t_less high middle low = omega arith

by_shade : (e f : ℕ) → e < 64 → f < 64 → 25 * e % 64 ≡ 25 * f % 64 → e ≡ f
by_shade e f e_less f_less same = omega arith

shade_less : (e : ℕ) → shade_of e < 64
shade_less e = omega arith

flap_shade : (s t : ℕ) → s < 64 → t < 64 → flap_fill s ≡ flap_fill t → s ≡ t
flap_shade s t s_less t_less same =
    let red : 255 - 8 * (s / 16) ≡ 255 - 8 * (t / 16) = ap (λ (f : Fill). f.red) same in
    let green : 242 - 16 * (s / 4 % 4) ≡ 242 - 16 * (t / 4 % 4) = ap (λ (f : Fill). f.green) same in
    let blue : 190 - 20 * (s % 4) ≡ 190 - 20 * (t % 4) = ap (λ (f : Fill). f.blue) same in
    by_digits s t s_less t_less (omega arith) (omega arith) (omega arith)

river_shade : (s t : ℕ) → s < 64 → t < 64 → river_fill s ≡ river_fill t → s ≡ t
river_shade s t s_less t_less same =
    let red : 140 + 18 * (s / 16) ≡ 140 + 18 * (t / 16) = ap (λ (f : Fill). f.red) same in
    let green : 182 + 14 * (s / 4 % 4) ≡ 182 + 14 * (t / 4 % 4) = ap (λ (f : Fill). f.green) same in
    let blue : 252 - 10 * (s % 4) ≡ 252 - 10 * (t % 4) = ap (λ (f : Fill). f.blue) same in
    by_digits s t s_less t_less (omega arith) (omega arith) (omega arith)

never_both : (s t : ℕ) → s < 64 → t < 64 → river_fill s ≡ flap_fill t → ⊥
never_both s t s_less t_less same =
    let red : 140 + 18 * (s / 16) ≡ 255 - 8 * (t / 16) = ap (λ (f : Fill). f.red) same in
    omega arith

pub one_fill : (b c : Bool) (e f : ℕ) → e < 64 → f < 64 → (if b then river_fill (shade_of e) else flap_fill (shade_of e)) ≡ (if c then river_fill (shade_of f) else flap_fill (shade_of f)) → e ≡ f
one_fill true true e f e_less f_less same = by_shade e f e_less f_less (river_shade (shade_of e) (shade_of f) (shade_less e) (shade_less f) same)
one_fill false false e f e_less f_less same = by_shade e f e_less f_less (flap_shade (shade_of e) (shade_of f) (shade_less e) (shade_less f) same)
one_fill true false e f e_less f_less same = absurd (never_both (shade_of e) (shade_of f) (shade_less e) (shade_less f) same)
one_fill false true e f e_less f_less same = absurd (never_both (shade_of f) (shade_of e) (shade_less f) (shade_less e) (sym same))
