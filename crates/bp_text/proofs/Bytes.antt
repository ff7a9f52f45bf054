-- Bytes that are appended, one piece after another.
use Rattle.std.proofs.Common.{◌≡◌, ℕ, ◌+◌, ◌≤◌, List, [], ◌++◌, length, take, drop, refl, sym, ap, subst, ◌∙◌, arith, length-append, append_assoc}
use Rattle.std.specs.declared.option.Option.{Option}
use Rattle.std.specs.declared.option.Option.TheVariants.{None, Some}
use Rattle.std.proofs.lemmas.List.{take_all, take_at, drop_at, take-append-le, append-nil}
use Rattle.std.proofs.Math.Seq.{take-add}
use Rattle.bp_base.specs.Causes.{Rose, Appends, AppendsFront}

pub rose_later : (a b c : ℕ) → a ≤ b → Rose b c → Rose a c
rose_later a b c le rose = omega arith

pub appends_none : (a : Option (List ℕ)) → Appends a a []
appends_none None = refl
appends_none (Some h) = ap (λ (t : List ℕ). Some t) (sym (append-nil h))

pub appends_more : (a b c : Option (List ℕ)) (x y : List ℕ) → Appends a b x → Appends b c y → Appends a c (x ++ y)
appends_more None b c x y first second = subst (λ (o : Option (List ℕ)). Appends o c y) first second
appends_more (Some h) b c x y first second =
    let step = subst (λ (o : Option (List ℕ)). Appends o c y) first second in
    step ∙ ap (λ (t : List ℕ). Some t) (append_assoc h x y)

-- a write of k bytes from a place on
pub put_more : (a b c : Option (List ℕ)) (bytes : List ℕ) (at k : ℕ) → Appends a b (take at bytes) → Appends b c (take k (drop at bytes)) → Appends a c (take (at + k) bytes)
put_more a b c bytes at k first second = subst (λ (t : List ℕ). Appends a c t) (sym (take-add at k bytes)) (appends_more a b c (take at bytes) (take k (drop at bytes)) first second)

pub put_all : (a b : Option (List ℕ)) (bytes : List ℕ) (at : ℕ) → length bytes ≤ at → Appends a b (take at bytes) → Appends a b bytes
put_all a b bytes at done first = subst (λ (t : List ℕ). Appends a b t) (take_all at bytes done) first

pub put_front : (a b c : Option (List ℕ)) (bytes : List ℕ) (at : ℕ) → at ≤ length bytes → Appends a b (take at bytes) → c ≡ b → AppendsFront a c bytes
put_front a b c bytes at within first same = (at, within, subst (λ (o : Option (List ℕ)). Appends a o (take at bytes)) (sym same) first)

take_past : (x y : List ℕ) (k : ℕ) → take (length x + k) (x ++ y) ≡ x ++ take k y
take_past x y k = take-add (length x) k (x ++ y) ∙ ap (λ (t : List ℕ). t ++ take k (drop (length x) (x ++ y))) (take_at x y (length x) refl) ∙ ap (λ (t : List ℕ). x ++ take k t) (drop_at x y (length x) refl)

-- after x, a front of y
pub front_after : (a b c : Option (List ℕ)) (x y : List ℕ) → Appends a b x → AppendsFront b c y → AppendsFront a c (x ++ y)
front_after a b c x y first (k, fits, more) =
    (length x + k, omega (arith, length-append x y, fits), subst (λ (t : List ℕ). Appends a c t) (sym (take_past x y k)) (appends_more a b c x (take k y) first more))

-- a front of x is one of x and what follows
pub front_early : (a b : Option (List ℕ)) (x y : List ℕ) → AppendsFront a b x → AppendsFront a b (x ++ y)
front_early a b x y (k, fits, front) = (k, omega (arith, length-append x y, fits), subst (λ (t : List ℕ). Appends a b t) (sym (take-append-le k x y fits)) front)

pub whole_front : (a b : Option (List ℕ)) (x : List ℕ) → Appends a b x → AppendsFront a b x
whole_front a b x all = (length x, omega arith, subst (λ (t : List ℕ). Appends a b t) (sym (take_all (length x) x (omega arith))) all)
