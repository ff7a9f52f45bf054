-- A star of five leaves, c p a/c q b/c r d/c s e/c t f/, is a tree: tests are built on it.
use Rattle.std.proofs.Common.{◌≡◌, ◌≢◌, true, IsTrue, ℕ, zero, suc, ◌<◌, ◌≤◌, List, [], ◌∷◌, get_or, refl, sym, ◌∙◌, ap, subst, arith}
use Rattle.std.specs.List.{All, AllPairs}
use Rattle.std.specs.List.Sorted.{IsStrictlyIncreasing}
use Rattle.std.proofs.lemmas.List.{get_or-map}
use Rattle.std.proofs.lemmas.List.Kept.{AllPairs-from_increasing}
use Rattle.bp_base.specs.Limits.{most_length}
use Rattle.bp_base.specs.Name.{IsName, is_name_byte}
use Rattle.bp_base.specs.Tree.{IsTree}

-- 1 to 1000
abbrev pub IsLength : ℕ → Type 0
IsLength n = (1 ≤ n) × (n ≤ most_length)

-- the bytes of the six names
abbrev letters : List ℕ
letters = 99 ∷ 112 ∷ 113 ∷ 114 ∷ 115 ∷ 116 ∷ []

abbrev pub star_names : List (List ℕ)
star_names = (99 ∷ []) ∷ (112 ∷ []) ∷ (113 ∷ []) ∷ (114 ∷ []) ∷ (115 ∷ []) ∷ (116 ∷ []) ∷ []

abbrev pub star_parents : List ℕ
star_parents = 0 ∷ 0 ∷ 0 ∷ 0 ∷ 0 ∷ 0 ∷ []

abbrev one_letter : ℕ → List ℕ
one_letter b = b ∷ []

parents_none : (k : ℕ) → get_or star_parents k 0 ≡ 0
parents_none zero = refl
parents_none (suc zero) = refl
parents_none (suc (suc zero)) = refl
parents_none (suc (suc (suc zero))) = refl
parents_none (suc (suc (suc (suc zero)))) = refl
parents_none (suc (suc (suc (suc (suc zero))))) = refl
parents_none (suc (suc (suc (suc (suc (suc k)))))) = refl

letters_rise : IsStrictlyIncreasing letters
letters_rise zero less = omega arith
letters_rise (suc zero) less = omega arith
letters_rise (suc (suc zero)) less = omega arith
letters_rise (suc (suc (suc zero))) less = omega arith
letters_rise (suc (suc (suc (suc zero)))) less = omega arith
letters_rise (suc (suc (suc (suc (suc k))))) less = absurd (omega arith)

star_names_differ : AllPairs (λ a b. a ≢ b) star_names
star_names_differ i j d less within same =
    let i_is : get_or star_names i d ≡ one_letter (get_or letters i 0) = get_or-map one_letter letters i 0 d (omega arith) in
    let j_is : get_or star_names j d ≡ one_letter (get_or letters j 0) = get_or-map one_letter letters j 0 d (omega arith) in
    let one : get_or letters i 0 ≡ get_or letters j 0 = ap (λ (l : List ℕ). get_or l 0 0) (sym i_is ∙ same ∙ j_is) in
    let rise : get_or letters i 0 < get_or letters j 0 = AllPairs-from_increasing letters letters_rise i j 0 less within in
    omega (arith, one, rise)

one_spelled : (x : ℕ) → is_name_byte x ≡ true → All (λ b. IsTrue (is_name_byte b)) (one_letter x)
one_spelled x is zero d less = is
one_spelled x is (suc k) d less = absurd (omega arith)

one_name : (x : ℕ) → is_name_byte x ≡ true → IsName (one_letter x)
one_name x is = record { some = omega arith; short = omega arith; spelled = one_spelled x is }

star_names_spelled : All IsName star_names
star_names_spelled zero d less = one_name 99 refl
star_names_spelled (suc zero) d less = one_name 112 refl
star_names_spelled (suc (suc zero)) d less = one_name 113 refl
star_names_spelled (suc (suc (suc zero))) d less = one_name 114 refl
star_names_spelled (suc (suc (suc (suc zero)))) d less = one_name 115 refl
star_names_spelled (suc (suc (suc (suc (suc zero))))) d less = one_name 116 refl
star_names_spelled (suc (suc (suc (suc (suc (suc k)))))) d less = absurd (omega arith)

module _ (a b d e f : ℕ) (a_is : IsLength a) (b_is : IsLength b) (d_is : IsLength d) (e_is : IsLength e) (f_is : IsLength f) where
  abbrev pub star_lengths : List ℕ
  star_lengths = 0 ∷ a ∷ b ∷ d ∷ e ∷ f ∷ []

  lengths_at : (k : ℕ) → 0 < k → k < 6 → IsLength (get_or star_lengths k 0)
  lengths_at zero above less = absurd (omega arith)
  lengths_at (suc zero) above less = a_is
  lengths_at (suc (suc zero)) above less = b_is
  lengths_at (suc (suc (suc zero))) above less = d_is
  lengths_at (suc (suc (suc (suc zero)))) above less = e_is
  lengths_at (suc (suc (suc (suc (suc zero))))) above less = f_is
  lengths_at (suc (suc (suc (suc (suc (suc k)))))) above less = absurd (omega arith)

  lengths_small : (k : ℕ) → get_or star_lengths k 0 ≤ most_length
  lengths_small zero = omega arith
  lengths_small (suc zero) = a_is.1
  lengths_small (suc (suc zero)) = b_is.1
  lengths_small (suc (suc (suc zero))) = d_is.1
  lengths_small (suc (suc (suc (suc zero)))) = e_is.1
  lengths_small (suc (suc (suc (suc (suc zero))))) = f_is.1
  lengths_small (suc (suc (suc (suc (suc (suc k)))))) = omega arith

  pub star_tree : IsTree (record { parents = star_parents; lengths = star_lengths; names = star_names })
  star_tree = record {
    lengths_as_parents = refl;
    names_as_parents = refl;
    root_parent = refl;
    root_length = refl;
    parents_before = λ k above less. omega (arith, parents_none k);
    lengths_positive = λ k above less. (lengths_at k above less).0;
    lengths_small = lengths_small;
    names_spelled = star_names_spelled;
    names_differ = star_names_differ;
    nodes = omega arith;
    root_children = omega arith;
    leaves_enough = omega arith;
    leaves_few = omega arith;
  }

  -- the lists as the code has them
  pub star_read : (parents lengths : List ℕ) (names : List (List ℕ)) (c p q r s t : List ℕ) → parents ≡ star_parents → lengths ≡ star_lengths → names ≡ c ∷ p ∷ q ∷ r ∷ s ∷ t ∷ [] → c ≡ one_letter 99 → p ≡ one_letter 112 → q ≡ one_letter 113 → r ≡ one_letter 114 → s ≡ one_letter 115 → t ≡ one_letter 116 → IsTree (record { parents = parents; lengths = lengths; names = names })
  star_read parents lengths names c p q r s t parents_is lengths_is names_is c_is p_is q_is r_is s_is t_is =
      let named : names ≡ star_names = names_is ∙ (λ i. c_is i ∷ p_is i ∷ q_is i ∷ r_is i ∷ s_is i ∷ t_is i ∷ []) in
      let whole : record { parents = star_parents; lengths = star_lengths; names = star_names } ≡ record { parents = parents; lengths = lengths; names = names } = λ i. record { parents = sym parents_is i; lengths = sym lengths_is i; names = sym named i } in
      subst IsTree whole star_tree
