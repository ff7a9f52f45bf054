-- A line whose words are those of an edge has no bad byte.
use Rattle.std.proofs.Common.{◌≡◌, ℕ, ◌≤◌, Bool, true, false, cond, List, [], ◌∷◌, length, get_or, filter, IsTrue, All, decimal, refl, sym, subst, arith}
use Rattle.std.specs.List.{slice_split, onto_first, AllByRecursion}
use Rattle.std.proofs.lemmas.Bool.{lt-ltb}
use Rattle.std.proofs.lemmas.Bool.Decides.{nat_tests}
use Rattle.std.proofs.lemmas.List.Elements.{All-from_recursion, recursion_from_All, All-from_get_or}
use Rattle.std.proofs.lemmas.Fmt.{decimal_is_IsNumeral}
use Rattle.std.proofs.lemmas.Str.Parse.{digit_at}
use Rattle.bp_base.specs.Name.{IsName, is_name_byte}
use Rattle.bp_tree.specs.declared.edge.Edge.{Edge}
use Rattle.bp_tree.specs.Lines.{words, is_blank, is_some_word, is_text_byte}
use Rattle.bp_tree.specs.Edges.{edge_words, IsLength}

abbrev IsText : ℕ → Type 0
IsText b = is_text_byte b ≡ true

abbrev IsTextWord : List ℕ → Type 0
IsTextWord w = AllByRecursion IsText w

blank_text : (b : ℕ) → is_blank b ≡ true → IsText b
blank_text b blank = grind (arith, nat_tests)

name_text : (b : ℕ) → is_name_byte b ≡ true → IsText b
name_text b named = grind (arith, nat_tests)

digit_text : (b : ℕ) → 48 ≤ b → b ≤ 57 → IsText b
digit_text b from to = grind (arith, nat_tests)

-- each byte is a blank, or stands in a part
from_parts : (bs : List ℕ) → AllByRecursion IsTextWord (slice_split is_blank bs) → IsTextWord bs
from_parts [] all = tt
from_parts (b ∷ bs) all = go (is_blank b) refl (slice_split is_blank bs) (from_parts bs) all
  where
    go : (x : Bool) → is_blank b ≡ x → (parts : List (List ℕ)) → (AllByRecursion IsTextWord parts → IsTextWord bs) → AllByRecursion IsTextWord (cond (is_blank b) ([] ∷ parts) (onto_first b parts)) → IsTextWord (b ∷ bs)
    go true blank parts rest each =
        let each' : AllByRecursion IsTextWord ([] ∷ parts) = subst (λ (y : Bool). AllByRecursion IsTextWord (cond y ([] ∷ parts) (onto_first b parts))) blank each in
        (blank_text b blank, rest each'.1)
    go false other [] rest each =
        let each' : AllByRecursion IsTextWord ((b ∷ []) ∷ []) = subst (λ (y : Bool). AllByRecursion IsTextWord (cond y ([] ∷ []) (onto_first b []))) other each in
        (each'.0.0, rest tt)
    go false other (part ∷ parts) rest each =
        let each' : AllByRecursion IsTextWord ((b ∷ part) ∷ parts) = subst (λ (y : Bool). AllByRecursion IsTextWord (cond y ([] ∷ part ∷ parts) (onto_first b (part ∷ parts)))) other each in
        (each'.0.0, rest (each'.0.1, each'.1))

-- parts without bytes may be left out
from_some : (parts : List (List ℕ)) → AllByRecursion IsTextWord (filter is_some_word parts) → AllByRecursion IsTextWord parts
from_some [] all = tt
from_some ([] ∷ parts) all = (tt, from_some parts all)
from_some ((b ∷ bs) ∷ parts) all =
    let passes : is_some_word (b ∷ bs) ≡ true = lt-ltb 0 (length (b ∷ bs)) (omega arith) in
    let each : AllByRecursion IsTextWord ((b ∷ bs) ∷ filter is_some_word parts) = subst (λ (y : Bool). AllByRecursion IsTextWord (cond y ((b ∷ bs) ∷ filter is_some_word parts) (filter is_some_word parts))) passes all in
    (each.0, from_some parts each.1)

from_words : (bs : List ℕ) → AllByRecursion IsTextWord (words bs) → IsTextWord bs
unfolding words
from_words bs all = from_parts bs (from_some (slice_split is_blank bs) all)

name_word : (w : List ℕ) → IsName w → IsTextWord w
name_word w is = recursion_from_All IsText w (λ k d less. name_text (get_or w k d) (is.spelled k d less))

length_word : (n : ℕ) → IsLength n → IsTextWord (decimal n)
length_word n is =
    let numeral = (decimal_is_IsNumeral n (omega (arith, is.1))).0.1 in
    recursion_from_All IsText (decimal n) (All-from_get_or IsText (decimal n) 0 (λ k less. let d = digit_at (decimal n) k numeral less in digit_text (get_or (decimal n) k 0) d.0 d.1))

pub text_bytes : (bs : List ℕ) (e : Edge) → words bs ≡ edge_words e → IsName e.upper → IsName e.lower → IsLength e.length → All (λ b. IsTrue (is_text_byte b)) bs
text_bytes bs e is upper lower long =
    let each : AllByRecursion IsTextWord (edge_words e) = (name_word e.upper upper, (name_word e.lower lower, (length_word e.length long, tt))) in
    All-from_recursion IsText bs (from_words bs (subst (AllByRecursion IsTextWord) (sym is) each))
