-- Words that are numbers.
use Rattle.std.proofs.Common.{◌≡◌, ℕ, ◌<◌, ◌≤◌, List, [], ◌∷◌, ◌++◌, length, get_or, map, All, decimal, Option, None, Some, refl, sym, ◌∙◌, ap, subst, arith, append_assoc, length-append}
use Rattle.std.proofs.lemmas.List.{map-append, length-map, append-nil, get_or-map, get_or_at}
use Rattle.std.proofs.lemmas.List.Elements.{All-append, All-cons, All-nil}
use Rattle.bp_base.specs.Limits.{most_number, most_leaves}
use Rattle.bp_base.specs.Chain.{IsChainList, ChainsExactly}
use Rattle.bp_text.specs.Numbers.{IsDecimal}
use Rattle.bp_document.specs.NodeWords.{ReadsChain}

-- the words begin with these numbers
pub record BeginsWith (ws : List (List ℕ)) (done : List ℕ) (rest : List (List ℕ)) : Type 0 where
  pub words : ws ≡ map decimal done ++ rest
  pub short : length done ≤ most_leaves
  pub small : All (λ k. k ≤ most_number) done

pub no_numbers_yet : (ws : List (List ℕ)) → BeginsWith ws [] ws
no_numbers_yet ws = record { words = refl; short = omega arith; small = λ k d less. absurd (omega arith) }

module _ (ws : List (List ℕ)) (done : List ℕ) where
  pub next_number : (rest more : List (List ℕ)) (w : List ℕ) (n : ℕ) → BeginsWith ws done rest → rest ≡ w ∷ more → IsDecimal most_number w n → length done < most_leaves → BeginsWith ws (done ++ n ∷ []) more
  next_number rest more w n begins here is room =
      record {
        words =
            begins.words ∙ ap (λ (t : List (List ℕ)). map decimal done ++ t) (here ∙ ap (λ (v : List ℕ). v ∷ more) is.0)
            ∙ sym (append_assoc (map decimal done) (decimal n ∷ []) more)
            ∙ ap (λ (t : List (List ℕ)). t ++ more) (sym (map-append decimal done (n ∷ [])));
        short = omega (arith, length-append done (n ∷ []));
        small = All-append (λ k. k ≤ most_number) done (n ∷ []) begins.small (All-cons (λ k. k ≤ most_number) n [] is.1 (All-nil (λ k. k ≤ most_number)));
      }

  module _ (rest more : List (List ℕ)) (w : List ℕ) (begins : BeginsWith ws done rest) (here : rest ≡ w ∷ more) (ks : List ℕ) (is : IsChainList ks) (same : ws ≡ map decimal ks) where
    whole : map decimal ks ≡ map decimal done ++ w ∷ more
    whole = sym same ∙ begins.words ∙ ap (λ (t : List (List ℕ)). map decimal done ++ t) here

    within : length done < length ks
    within =
        omega (arith, ap length whole, length-map ks decimal, length-map done decimal, length-append (map decimal done) (w ∷ more))

    -- the word behind the numbers is a number too
    behind : w ≡ decimal (get_or ks (length done) 0)
    behind =
        sym (get_or_at (map decimal done) w more [] (length done) (omega (arith, length-map done decimal)))
        ∙ ap (λ (t : List (List ℕ)). get_or t (length done) []) (sym whole)
        ∙ get_or-map decimal ks (length done) 0 [] within

    no_number_in : ((n : ℕ) → IsDecimal most_number w n → ⊥) → ⊥
    no_number_in none = none (get_or ks (length done) 0) (behind, is.small (length done) 0 within)

    too_many_in : length done ≡ most_leaves → ⊥
    too_many_in full = omega (arith, within, is.short)

  pub no_number : (rest more : List (List ℕ)) (w : List ℕ) → BeginsWith ws done rest → rest ≡ w ∷ more → ((n : ℕ) → IsDecimal most_number w n → ⊥) → ReadsChain ws None
  no_number rest more w begins here none ks is same = no_number_in rest more w begins here ks is same none

  pub too_many : (rest more : List (List ℕ)) (w : List ℕ) → BeginsWith ws done rest → rest ≡ w ∷ more → length done ≡ most_leaves → ReadsChain ws None
  too_many rest more w begins here full ks is same = too_many_in rest more w begins here ks is same full

  module _ (rest : List (List ℕ)) (begins : BeginsWith ws done rest) (end : rest ≡ []) where
    words_done : ws ≡ map decimal done
    words_done = begins.words ∙ ap (λ (t : List (List ℕ)). map decimal done ++ t) end ∙ append-nil (map decimal done)

    is_chain : (ks : List ℕ) → IsChainList ks → ws ≡ map decimal ks → IsChainList done
    is_chain ks is same =
        record {
          some = omega (arith, is.some, ap length (sym same ∙ words_done), length-map ks decimal, length-map done decimal);
          short = begins.short;
          small = begins.small;
        }

  pub all_numbers : (rest : List (List ℕ)) (result : Option (List ℕ)) → BeginsWith ws done rest → rest ≡ [] → ChainsExactly done result → ReadsChain ws result
  all_numbers rest None begins end exact = λ ks is same. exact (is_chain rest begins end ks is same)
  all_numbers rest (Some c) begins end exact = (subst IsChainList (sym exact.1) exact.0, words_done rest begins end ∙ ap (map decimal) (sym exact.1))
