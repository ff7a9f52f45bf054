-- Parts with commas between them, one after another.
use Rattle.std.proofs.Common.{◌≡◌, ℕ, suc, ◌+◌, ◌<◌, ◌≤◌, List, [], ◌∷◌, ◌++◌, length, get_or, take, drop, map, Result, Ok, Err, refl, sym, ap, subst, ◌∙◌, arith, append_assoc}
use Rattle.std.specs.declared.option.Option.{Option}
use Rattle.std.specs.List.{flat_map}
use Rattle.std.specs.Result.{IsErr}
use Rattle.std.proofs.lemmas.Bool.{ne_eqb}
use Rattle.std.proofs.lemmas.List.{append-nil, take_more, take_all, take-append-drop, length-take-le, map-append}
use Rattle.std.proofs.lemmas.List.Concat.{flat_map-append}
use Rattle.bp_base.specs.declared.outside.Failed.{Failed}
use Rattle.bp_base.specs.Causes.{Appends}
use Rattle.bp_text.specs.Puts.{Puts}
use Rattle.bp_text.proofs.Puts.{puts_done, puts_exit, writes_more}
use Rattle.bp_fold.specs.FoldText.{commas, lead_text}

lead_later : (n : ℕ) → lead_text (suc n) ≡ 44 ∷ []
lead_later n = rw (ne_eqb (suc n) 0 (omega arith)) refl

commas_cons : (p : List ℕ) (ps : List (List ℕ)) → commas (p ∷ ps) ≡ p ++ flat_map (λ (q : List ℕ). 44 ∷ q) ps
commas_cons p [] = sym (append-nil p)
commas_cons p (q ∷ qs) = ap (λ (t : List ℕ). p ++ 44 ∷ t) (commas_cons q qs)

module _ {X : Type 0} (f : X → List ℕ) where
  commas_append : (y : X) (ys zs : List X) → commas (map f ((y ∷ ys) ++ zs)) ≡ commas (map f (y ∷ ys)) ++ flat_map (λ (q : List ℕ). 44 ∷ q) (map f zs)
  commas_append y ys zs =
      commas_cons (f y) (map f (ys ++ zs))
      ∙ ap (λ (l : List (List ℕ)). f y ++ flat_map (λ (q : List ℕ). 44 ∷ q) l) (map-append f ys zs)
      ∙ ap (λ (t : List ℕ). f y ++ t) (flat_map-append (λ (q : List ℕ). 44 ∷ q) (map f ys) (map f zs))
      ∙ sym (append_assoc (f y) (flat_map (λ (q : List ℕ). 44 ∷ q) (map f ys)) (flat_map (λ (q : List ℕ). 44 ∷ q) (map f zs)))
      ∙ ap (λ (t : List ℕ). t ++ flat_map (λ (q : List ℕ). 44 ∷ q) (map f zs)) (sym (commas_cons (f y) (map f ys)))

  commas_push : (xs : List X) (x : X) → commas (map f (xs ++ x ∷ [])) ≡ commas (map f xs) ++ (lead_text (length xs) ++ f x)
  commas_push [] x = refl
  commas_push (y ∷ ys) x =
      commas_append y ys (x ∷ [])
      ∙ ap (λ (t : List ℕ). commas (map f (y ∷ ys)) ++ 44 ∷ t) (append-nil (f x))
      ∙ ap (λ (t : List ℕ). commas (map f (y ∷ ys)) ++ (t ++ f x)) (sym (lead_later (length ys)))

  commas_more : (xs : List X) (i : ℕ) (d : X) → i < length xs → commas (map f (take (i + 1) xs)) ≡ commas (map f (take i xs)) ++ (lead_text i ++ f (get_or xs i d))
  commas_more xs i d less =
      ap (λ (l : List X). commas (map f l)) (take_more xs i d less)
      ∙ commas_push (take i xs) (get_or xs i d)
      ∙ ap (λ (n : ℕ). commas (map f (take i xs)) ++ (lead_text n ++ f (get_or xs i d))) (length-take-le i xs (omega (arith, less)))

  front_rest : (front back : List X) → 1 ≤ length front → commas (map f (front ++ back)) ≡ commas (map f front) ++ flat_map (λ (q : List ℕ). 44 ∷ q) (map f back)
  front_rest [] back some = absurd (omega (arith, some))
  front_rest (y ∷ ys) back some = commas_append y ys back

  commas_around : (xs : List X) (i : ℕ) (d : X) → i < length xs → commas (map f xs) ≡ commas (map f (take i xs)) ++ ((lead_text i ++ f (get_or xs i d)) ++ flat_map (λ (q : List ℕ). 44 ∷ q) (map f (drop (i + 1) xs)))
  commas_around xs i d less =
      let back = flat_map (λ (q : List ℕ). 44 ∷ q) (map f (drop (i + 1) xs)) in
      let len : length (take (i + 1) xs) ≡ i + 1 = length-take-le (i + 1) xs (omega (arith, less)) in
      ap (λ (l : List X). commas (map f l)) (sym (take-append-drop (i + 1) xs))
      ∙ front_rest (take (i + 1) xs) (drop (i + 1) xs) (omega (arith, len))
      ∙ ap (λ (t : List ℕ). t ++ back) (commas_more xs i d less)
      ∙ append_assoc (commas (map f (take i xs))) (lead_text i ++ f (get_or xs i d)) back

  pub parts_more : {U : Type 0} (a b c : Option (List ℕ)) (u : U) (xs : List X) (i : ℕ) (d : X) (lead : List ℕ) → i < length xs → lead ≡ lead_text i → Appends a b (commas (map f (take i xs))) → Puts b c (Ok u) (lead ++ f (get_or xs i d)) → Appends a c (commas (map f (take (i + 1) xs)))
  parts_more a b c u xs i d lead less is first puts =
      subst (λ (t : List ℕ). Appends a c t) (sym (commas_more xs i d less)) (writes_more a b c u (commas (map f (take i xs))) (lead_text i ++ f (get_or xs i d)) first (subst (λ (t : List ℕ). Puts b c (Ok u) (t ++ f (get_or xs i d))) is puts))

  pub parts_exit : {T U : Type 0} (a b c : Option (List ℕ)) (r : Result T Failed) (e : Failed) (xs : List X) (i : ℕ) (d : X) (lead : List ℕ) → i < length xs → IsErr r → lead ≡ lead_text i → Appends a b (commas (map f (take i xs))) → Puts {T = U} b c (Err e) (lead ++ f (get_or xs i d)) → Puts a c r (commas (map f xs))
  parts_exit {U = U} a b c r e xs i d lead less err is first puts =
      puts_exit (flat_map (λ (q : List ℕ). 44 ∷ q) (map f (drop (i + 1) xs))) a b c r e (commas (map f (take i xs))) (lead_text i ++ f (get_or xs i d)) (commas (map f xs)) err first (subst (λ (t : List ℕ). Puts {T = U} b c (Err e) (t ++ f (get_or xs i d))) is puts) (commas_around xs i d less)

  pub parts_all : {T : Type 0} (a b : Option (List ℕ)) (t : T) (xs : List X) (i : ℕ) → length xs ≤ i → Appends a b (commas (map f (take i xs))) → Puts a b (Ok t) (commas (map f xs))
  parts_all a b t xs i done all = puts_done a b t (commas (map f (take i xs))) (commas (map f xs)) all (sym (ap (λ (l : List X). commas (map f l)) (take_all i xs done)))

-- the whole text in its three parts
pub three_parts : (h p e q k r z : List ℕ) → h ++ p ++ e ++ q ++ k ++ r ++ z ≡ (h ++ p) ++ ((e ++ q) ++ (k ++ r ++ z))
three_parts h p e q k r z = simp append_assoc refl

pub two_and_one : (h p e q k r z : List ℕ) → h ++ p ++ e ++ q ++ k ++ r ++ z ≡ ((h ++ p) ++ (e ++ q)) ++ (k ++ r ++ z)
two_and_one h p e q k r z = simp append_assoc refl
