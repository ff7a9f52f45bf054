-- The canonical text of a tree is a text of it.
use Rattle.std.proofs.Common.{◌≡◌, ◌≢◌, ℕ, zero, suc, ◌+◌, ◌-◌, ◌*◌, ◌^◌, ◌<◌, ◌≤◌, Bool, true, false, cond, ◌==◌, List, [], ◌∷◌, ◌++◌, length, get_or, take, drop, map, All, decimal, refl, sym, ◌∙◌, ap, subst, arith}
use Rattle.std.specs.List.{flat_map, range_with_len, before_first, AllByRecursion}
use Rattle.std.specs.Str.Lines.{strip_carriage_return}
use Rattle.std.proofs.lemmas.Bool.{ne_eqb}
use Rattle.std.proofs.lemmas.Bool.Decides.{nat_tests}
use Rattle.std.proofs.lemmas.List.{append_assoc, length-append, length-drop, get_or-drop, get_or_default, take_all, take_at, drop_at, get_or_at, get_or_append_left, same_lists}
use Rattle.std.proofs.lemmas.List.Elements.{All-append, All-cons, All-get_or, All-weaker, All-from_get_or}
use Rattle.std.proofs.lemmas.List.Sums.{position_or_len_is}
use Rattle.std.proofs.lemmas.List.FromFn.{length-range_with_len, get_or-map-range_with_len, length-map-range_with_len}
use Rattle.std.proofs.lemmas.Fmt.{decimal_is_IsNumeral, decimal_nonempty, length-decimal-le}
use Rattle.std.proofs.lemmas.Str.Parse.{digit_at}
use Rattle.bp_base.specs.Name.{IsName, is_name_byte}
use Rattle.bp_base.specs.Tree.{TreeValue, IsTree, edges, parent, length_of, name_of}
use Rattle.bp_tree.specs.declared.edge.Edge.{Edge}
use Rattle.bp_tree.specs.Lines.{lines_of, content, words, words_of, rows, is_blank}
use Rattle.bp_tree.specs.Edges.{HasEdges, IsLength, edge_words, uppers, lowers}
use Rattle.bp_tree.specs.Text.{GivesIn, TreeOf, tree_line, tree_text}
use Rattle.bp_tree.specs.Json.{is_space, is_json}
use Rattle.bp_tree.proofs.JsonForm.{json_first}
use Rattle.bp_tree.proofs.LineLists.{lines_lf, lines_none}
use Rattle.bp_tree.proofs.WordLists.{word_then, word_last, words_blank}
use Rattle.bp_tree.proofs.Rows.{rows_cons}
use Rattle.bp_tree.proofs.OneTree.{one_edges}
use Rattle.bp_tree.proofs.TwoLeaves.{some_nodes}

-- a byte of a word: no blank, no line end and no mark of a comment
abbrev IsPlain : ℕ → Type 0
IsPlain b = (is_blank b ≡ false) × (b ≢ 10) × (b ≢ 13) × (b ≢ 35)

-- a byte of a line, which may be a blank
abbrev IsInLine : ℕ → Type 0
IsInLine b = (b ≢ 10) × (b ≢ 13) × (b ≢ 35)

name_plain : (b : ℕ) → is_name_byte b ≡ true → IsPlain b
name_plain b named = (grind (arith, nat_tests), λ is. grind (arith, nat_tests), λ is. grind (arith, nat_tests), λ is. grind (arith, nat_tests))

digit_plain : (b : ℕ) → 48 ≤ b → b ≤ 57 → IsPlain b
digit_plain b from to = (grind (arith, nat_tests), omega arith, omega arith, omega arith)

plain_name : (w : List ℕ) → IsName w → All IsPlain w
plain_name w is = λ k d less. name_plain (get_or w k d) (is.spelled k d less)

plain_length : (n : ℕ) → IsLength n → All IsPlain (decimal n)
plain_length n is =
    let numeral = (decimal_is_IsNumeral n (omega (arith, is.1))).0.1 in
    All-from_get_or IsPlain (decimal n) 0 (λ k less. let d = digit_at (decimal n) k numeral less in digit_plain (get_or (decimal n) k 0) d.0 d.1)

not_blank : (w : List ℕ) → All IsPlain w → All (λ b. is_blank b ≡ false) w
not_blank w plain = All-weaker IsPlain (λ b. is_blank b ≡ false) (λ b p. p.0) w plain

in_line : (w : List ℕ) → All IsPlain w → All IsInLine w
in_line w plain = All-weaker IsPlain IsInLine (λ b p. (p.1, p.2, p.3)) w plain

-- an edge's line, without its LF
abbrev body : Edge → List ℕ
body e = e.upper ++ 32 ∷ (e.lower ++ 32 ∷ decimal e.length)

module _ (e : Edge) (upper : IsName e.upper) (lower : IsName e.lower) (long : IsLength e.length) where
  word : e.length < 2 ^ 64
  word = omega (arith, long.1)

  body_bytes : All IsInLine (body e)
  body_bytes =
      All-append IsInLine e.upper (32 ∷ (e.lower ++ 32 ∷ decimal e.length)) (in_line e.upper (plain_name e.upper upper)) (All-cons IsInLine 32 (e.lower ++ 32 ∷ decimal e.length) (omega arith, omega arith, omega arith)
      (All-append IsInLine e.lower (32 ∷ decimal e.length) (in_line e.lower (plain_name e.lower lower)) (All-cons IsInLine 32 (decimal e.length) (omega arith, omega arith, omega arith) (in_line (decimal e.length) (plain_length e.length long)))))

  body_words : words (body e) ≡ edge_words e
  body_words =
      word_then e.upper 32 (e.lower ++ 32 ∷ decimal e.length) (omega (arith, upper.some)) (not_blank e.upper (plain_name e.upper upper)) refl
      ∙ ap (λ (ws : List (List ℕ)). e.upper ∷ ws) (words_blank 32 (e.lower ++ 32 ∷ decimal e.length) refl
      ∙ word_then e.lower 32 (decimal e.length) (omega (arith, lower.some)) (not_blank e.lower (plain_name e.lower lower)) refl
      ∙ ap (λ (ws : List (List ℕ)). e.lower ∷ ws) (words_blank 32 (decimal e.length) refl
      ∙ word_last (decimal e.length) (decimal_nonempty e.length word) (not_blank (decimal e.length) (plain_length e.length long))))

  no_return : strip_carriage_return (body e) ≡ body e
  no_return = ap (λ (b : Bool). cond b (take (length (body e) - 1) (body e)) (body e)) (ne_eqb (get_or (body e) (length (body e) - 1) 0) 13 last)
    where
      last : get_or (body e) (length (body e) - 1) 0 ≢ 13
      last = (All-get_or IsInLine (body e) (length (body e) - 1) 0 (omega (arith, length-append e.upper (32 ∷ (e.lower ++ 32 ∷ decimal e.length)))) body_bytes).1

  no_comment : before_first (λ b. b == 35) (body e) ≡ body e
  no_comment =
      let end = position_or_len_is (λ (b : ℕ). b == 35) (body e) (length (body e)) 0 (omega arith) (λ k less. ne_eqb (get_or (body e) k 0) 35 (All-get_or IsInLine (body e) k 0 less body_bytes).2) (λ less. absurd (omega arith)) in
      ap (λ (n : ℕ). take n (body e)) end ∙ take_all (length (body e)) (body e) (omega arith)

  body_content : content (body e) ≡ body e
  unfolding content
  body_content = ap (before_first (λ b. b == 35)) no_return ∙ no_comment

  line_words : words_of (body e) ≡ edge_words e
  line_words = ap words body_content ∙ body_words

  line_first : (rest : List ℕ) → lines_of (body e ++ 10 ∷ rest) ≡ body e ∷ lines_of rest
  line_first rest =
      let free : (k : ℕ) → k < length (body e) → get_or (body e ++ 10 ∷ rest) k 0 ≢ 10 = λ k less is. (All-get_or IsInLine (body e) k 0 less body_bytes).0 (sym (get_or_append_left (body e) (10 ∷ rest) 0 k less) ∙ is) in
      let cut = lines_lf (body e ++ 10 ∷ rest) (length (body e)) (omega (arith, length-append (body e) (10 ∷ rest))) free (get_or_at (body e) 10 rest 0 (length (body e)) refl) in
      cut ∙ ap (λ (x : List ℕ). x ∷ lines_of (drop (suc (length (body e))) (body e ++ 10 ∷ rest))) (take_at (body e) (10 ∷ rest) (length (body e)) refl) ∙ ap (λ (t : List ℕ). body e ∷ lines_of t) behind
    where
      behind : drop (suc (length (body e))) (body e ++ 10 ∷ rest) ≡ rest
      behind = ap (drop (suc (length (body e)))) (sym (append_assoc (body e) (10 ∷ []) rest)) ∙ drop_at (body e ++ 10 ∷ []) rest (suc (length (body e))) (omega (arith, length-append (body e) (10 ∷ [])))

  line_rows : (rest : List ℕ) → rows (lines_of (body e ++ 10 ∷ rest)) ≡ edge_words e ∷ rows (lines_of rest)
  line_rows rest =
      ap rows (line_first rest) ∙ rows_cons (body e) (lines_of rest) (λ none. omega (arith, ap length (sym line_words ∙ none))) ∙ ap (λ (w : List (List ℕ)). w ∷ rows (lines_of rest)) line_words

  line_long : length (body e) ≤ 70
  line_long =
      omega (arith, length-append e.upper (32 ∷ (e.lower ++ 32 ∷ decimal e.length)), length-append e.lower (32 ∷ decimal e.length), upper.short, lower.short, length-decimal-le 4 e.length (omega arith) (omega (arith, long.1)) word)

twice : {A B C : Type 0} (f : B → C) (g : A → B) (xs : List A) → map f (map g xs) ≡ map (λ x. f (g x)) xs
twice f g [] = refl
twice f g (x ∷ xs) = ap (λ ys. f (g x) ∷ ys) (twice f g xs)

-- what begins with a name is no JSON
name_first : (w rest : List ℕ) → IsName w → is_json (w ++ rest) ≡ false
name_first [] rest is = absurd (omega (arith, is.some))
name_first (b ∷ w) rest is =
    let named : is_name_byte b ≡ true = is.spelled 0 0 (omega arith) in
    let space : is_space b ≡ false = grind (arith, nat_tests) in
    let other : (b == 123) ≡ false = grind (arith, nat_tests) in
    json_first b (w ++ rest) space ∙ other

head_names : (names : List (List ℕ)) → 1 ≤ length names → names ≡ get_or names 0 [] ∷ drop 1 names
head_names [] some = absurd (omega arith)
head_names (n ∷ ns) some = refl

module _ (T : TreeValue) (t : IsTree T) where
  abbrev pub edge_of : ℕ → Edge
  edge_of k = record { upper = name_of T (parent T k); lower = name_of T k; length = length_of T k }

  nodes : 2 ≤ length T.parents
  nodes = some_nodes T t

  -- lines of edges
  lines_edges : (ks : List ℕ) → AllByRecursion (λ k. (1 ≤ k) × (k < length T.parents)) ks → (rows (lines_of (flat_map (tree_line T) ks)) ≡ map edge_words (map edge_of ks)) × (length (flat_map (tree_line T) ks) ≤ 71 * length ks)
  lines_edges [] all = (ap rows lines_none, omega arith)
  lines_edges (k ∷ ks) all =
      let upper : IsName (name_of T (parent T k)) = All-get_or IsName T.names (parent T k) [] (omega (arith, t.parents_before k (omega (arith, all.0)) all.0.1, t.names_as_parents, all.0.1)) t.names_spelled in
      let lower : IsName (name_of T k) = All-get_or IsName T.names k [] (omega (arith, t.names_as_parents, all.0.1)) t.names_spelled in
      let long : IsLength (length_of T k) = (t.lengths_positive k (omega (arith, all.0)) all.0.1, t.lengths_small k) in
      let e = edge_of k in
      let more = flat_map (tree_line T) ks in
      let text : tree_line T k ++ more ≡ body e ++ 10 ∷ more = simp append_assoc in
      let rest = lines_edges ks all.1 in (
        ap (λ (b : List ℕ). rows (lines_of b)) text ∙ line_rows e upper lower long more ∙ ap (λ (r : List (List (List ℕ))). edge_words e ∷ r) rest.0,
        omega (arith, ap length text, length-append (body e) (10 ∷ more), line_long e upper lower long, rest.1),
      )

  -- the edges of T, from its first node on
  abbrev ks : List ℕ
  ks = edges T

  all_edges : (from n : ℕ) → 1 ≤ from → from + n ≤ length T.parents → AllByRecursion (λ k. (1 ≤ k) × (k < length T.parents)) (range_with_len from n)
  all_edges from zero low high = tt
  all_edges from (suc n) low high = ((low, omega arith), all_edges (from + 1) n (omega arith) (omega arith))

  -- what stands at the edges' numbers
  at_edges : {A : Type 0} (xs : List A) (f : ℕ → A) (d : A) → length xs ≡ length T.parents → ((k : ℕ) → get_or xs k d ≡ f k) → drop 1 xs ≡ map f ks
  at_edges {A} xs f d long each =
      same_lists (drop 1 xs) (map f ks) (omega (arith, length-drop 1 xs, length-map-range_with_len f 1 (length T.parents - 1), long)) (λ k c less.
      let in_range : k < length T.parents - 1 = omega (arith, length-drop 1 xs, long) in
      get_or-drop 1 xs k c ∙ get_or_default xs (1 + k) c d (omega (arith, long)) ∙ each (1 + k) ∙ sym (get_or-map-range_with_len f 1 (length T.parents - 1) k (1 + k) c in_range refl))

  abbrev es : List Edge
  es = map edge_of ks

  lower_names : drop 1 T.names ≡ lowers es
  lower_names = at_edges T.names (name_of T) [] t.names_as_parents (λ k. refl) ∙ sym (twice (λ (e : Edge). e.lower) edge_of ks)

  root_name : take 1 (uppers es) ≡ name_of T 0 ∷ []
  root_name =
      let many : length T.parents - 1 ≡ suc (length T.parents - 2) = omega (arith, nodes) in
      let falls : parent T 1 < 1 = t.parents_before 1 (omega arith) (omega (arith, nodes)) in
      let root : parent T 1 ≡ 0 = omega (arith, falls) in
      ap (λ (n : ℕ). take 1 (uppers (map edge_of (range_with_len 1 n)))) many ∙ ap (λ (p : ℕ). name_of T p ∷ []) root

  pub has_edges : HasEdges T (map edge_of (edges T))
  has_edges = record {
    names = head_names T.names (omega (arith, nodes, t.names_as_parents)) ∙ ap (λ (ns : List (List ℕ)). name_of T 0 ∷ ns) lower_names ∙ ap (λ (ns : List (List ℕ)). ns ++ lowers es) (sym root_name);
    uppers = ap (map (name_of T)) (at_edges T.parents (parent T) 0 refl (λ k. refl)) ∙ twice (name_of T) (parent T) ks ∙ sym (twice (λ (e : Edge). e.upper) edge_of ks);
    lengths = at_edges T.lengths (length_of T) 0 t.lengths_as_parents (λ k. refl) ∙ sym (twice (λ (e : Edge). e.length) edge_of ks);
  }

  -- the text begins with a name
  not_json : is_json (tree_text T) ≡ false
  unfolding tree_text
  not_json =
      let many : length T.parents - 1 ≡ suc (length T.parents - 2) = omega (arith, nodes) in
      let root : parent T 1 < length T.names = omega (arith, t.parents_before 1 (omega arith) (omega (arith, nodes)), t.names_as_parents, nodes) in
      let more = flat_map (tree_line T) (range_with_len 2 (length T.parents - 2)) in
      let behind = 32 ∷ (name_of T 1 ++ 32 ∷ (decimal (length_of T 1) ++ 10 ∷ more)) in
      let text : tree_line T 1 ++ more ≡ name_of T (parent T 1) ++ behind = simp append_assoc in
      ap (λ (n : ℕ). is_json (flat_map (tree_line T) (range_with_len 1 n))) many ∙ ap is_json text
      ∙ name_first (name_of T (parent T 1)) behind (All-get_or IsName T.names (parent T 1) [] root t.names_spelled)

  -- the edges of T are these
  pub edges_are : (fs : List Edge) → HasEdges T fs → fs ≡ map edge_of (edges T)
  edges_are fs has = one_edges T fs (map edge_of (edges T)) has has_edges

  pub reads_back : TreeOf (tree_text T) T
  unfolding tree_text
  reads_back =
      let text = lines_edges ks (all_edges 1 (length T.parents - 1) (omega arith) (omega (arith, nodes))) in
      record {
        short = omega (arith, text.1, length-range_with_len 1 (length T.parents - 1), t.nodes);
        tree = t;
        given = es;
        gives = subst (λ (form : Bool). GivesIn form (tree_text T) es) (sym not_json) text.0;
        has = has_edges;
      }
