-- The rows of lines, and edges that are rows.
use Rattle.std.proofs.Common.{◌≡◌, ℕ, suc, ◌+◌, ◌^◌, ◌<◌, Bool, true, List, [], ◌∷◌, ◌++◌, length, get_or, take, map, filter, All, decimal, ltb, refl, ◌∙◌, ap, arith}
use Rattle.std.proofs.lemmas.Bool.{lt-ltb}
use Rattle.std.proofs.lemmas.List.{map-append, take_more}
use Rattle.std.proofs.lemmas.List.Elements.{filter-append}
use Rattle.std.proofs.lemmas.Fmt.{decimal_injective}
use Rattle.bp_tree.specs.declared.edge.Edge.{Edge}
use Rattle.bp_tree.specs.Lines.{words_of, rows, word}
use Rattle.bp_tree.specs.Edges.{edge_words, uppers, lowers}
use Rattle.bp_tree.specs.Faults.{names_in}

abbrev has_words : List (List ℕ) → Bool
has_words ws = ltb 0 (length ws)

pub rows_append : (xs ys : List (List ℕ)) → rows (xs ++ ys) ≡ rows xs ++ rows ys
rows_append xs ys = ap (filter has_words) (map-append words_of xs ys) ∙ filter-append has_words (map words_of xs) (map words_of ys)

pub rows_skipped : (line : List ℕ) → words_of line ≡ [] → rows (line ∷ []) ≡ []
rows_skipped line none = ap (λ (ws : List (List ℕ)). filter has_words (ws ∷ [])) none

some_words : (ws : List (List ℕ)) → (ws ≡ [] → ⊥) → has_words ws ≡ true
some_words [] some = absurd (some refl)
some_words (w ∷ ws) some = lt-ltb 0 (length (w ∷ ws)) (omega arith)

pub rows_cons : (line : List ℕ) (lines : List (List ℕ)) → (words_of line ≡ [] → ⊥) → rows (line ∷ lines) ≡ words_of line ∷ rows lines
rows_cons line lines some = rw (some_words (words_of line) some)

-- one more line
pub rows_more : (lines : List (List ℕ)) (n : ℕ) → n < length lines → rows (take (n + 1) lines) ≡ rows (take n lines) ++ rows (get_or lines n [] ∷ [])
rows_more lines n less = ap rows (take_more lines n [] less) ∙ rows_append (take n lines) (get_or lines n [] ∷ [])

-- the names of rows that are edges
pub names_edges : (es : List Edge) → names_in (map edge_words es) ≡ take 1 (uppers es) ++ lowers es
names_edges es = ap (λ (us : List (List ℕ)). take 1 us ++ map (λ words. word words 1) (map edge_words es)) (firsts es) ∙ ap (λ (ls : List (List ℕ)). take 1 (uppers es) ++ ls) (seconds es)
  where
    firsts : (fs : List Edge) → map (λ words. word words 0) (map edge_words fs) ≡ uppers fs
    firsts [] = refl
    firsts (f ∷ fs) = ap (λ (us : List (List ℕ)). f.upper ∷ us) (firsts fs)

    seconds : (fs : List Edge) → map (λ words. word words 1) (map edge_words fs) ≡ lowers fs
    seconds [] = refl
    seconds (f ∷ fs) = ap (λ (ls : List (List ℕ)). f.lower ∷ ls) (seconds fs)

-- edges before a row, its edge, and those behind it
pub record Parted (es : List Edge) (before after : List (List (List ℕ))) (row : List (List ℕ)) : Type 0 where
  pub front : List Edge
  pub here : Edge
  pub back : List Edge
  pub is : es ≡ front ++ here ∷ back
  pub front_is : before ≡ map edge_words front
  pub here_is : row ≡ edge_words here

pub parted : (es : List Edge) (before after : List (List (List ℕ))) (row : List (List ℕ)) → before ++ row ∷ after ≡ map edge_words es → Parted es before after row
parted [] [] after row same = absurd (let bad : ⊥ = cc in bad)
parted [] (b ∷ before) after row same = absurd (let bad : ⊥ = cc in bad)
parted (e ∷ es) [] after row same =
    let head : row ≡ edge_words e = cc in
    record { front = []; here = e; back = es; is = refl; front_is = refl; here_is = head }
parted (e ∷ es) (b ∷ before) after row same =
    let head : b ≡ edge_words e = cc in
    let tail : before ++ row ∷ after ≡ map edge_words es = cc in
    let rest = parted es before after row tail in
    let is = rest.is in
    let front_is = rest.front_is in
    record { front = e ∷ rest.front; here = rest.here; back = rest.back; is = λ i. e ∷ is i; front_is = λ i. head i ∷ front_is i; here_is = rest.here_is }

-- rows are the lines of one list of edges
pub one_list : (es fs : List Edge) → All (λ (e : Edge). e.length < 2 ^ 64) es → All (λ (f : Edge). f.length < 2 ^ 64) fs → map edge_words es ≡ map edge_words fs → es ≡ fs
one_list [] [] small_e small_f same = refl
one_list [] (f ∷ fs) small_e small_f same = absurd (omega (arith, ap length same))
one_list (e ∷ es) [] small_e small_f same = absurd (omega (arith, ap length same))
one_list (e ∷ es) (f ∷ fs) small_e small_f same =
    let head : edge_words e ≡ edge_words f = cc in
    let tail : map edge_words es ≡ map edge_words fs = cc in
    let upper : e.upper ≡ f.upper = cc in
    let lower : e.lower ≡ f.lower = cc in
    let text : decimal e.length ≡ decimal f.length = cc in
    let long : e.length ≡ f.length = decimal_injective e.length f.length (small_e 0 e (omega arith)) (small_f 0 f (omega arith)) text in
    let rest = one_list es fs (λ k d less. small_e (suc k) d (omega arith)) (λ k d less. small_f (suc k) d (omega arith)) tail in
    λ i. record { upper = upper i; lower = lower i; length = long i } ∷ rest i
