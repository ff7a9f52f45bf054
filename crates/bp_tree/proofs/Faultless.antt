-- Lines that give the edges of a growing tree have no fault.
use Rattle.std.proofs.Common.{◌≡◌, inl, inr, ℕ, ◌+◌, ◌-◌, ◌<◌, ◌≤◌, List, [], ◌∷◌, ◌++◌, length, get_or, take, drop, map, refl, sym, ◌∙◌, ap, subst, arith}
use Rattle.std.proofs.lemmas.List.{append_assoc, length-append, length-map, length-drop, map-append, get_or-drop, get_or-map, get_or_at, get_or_append_left, get_or_default, get_or-take, take-take, take-append-drop, drop_more, length-take-le}
use Rattle.std.proofs.lemmas.List.Elements.{All-get_or}
use Rattle.bp_base.specs.Name.{IsName}
use Rattle.bp_base.specs.Tree.{TreeValue, name_of, parent, length_of}
use Rattle.bp_tree.specs.declared.edge.Edge.{Edge}
use Rattle.bp_tree.specs.declared.fault.TreeKind.{TreeKind}
use Rattle.bp_tree.specs.declared.fault.TreeKind.TheVariants.{TooLong, BadJson, BadShape, BadByte, WordCount, BadName, BadLength, UnknownParent, RepeatedName, TooManyNodes, Empty, RootIsLeaf, TooManyLeaves}
use Rattle.bp_tree.specs.Lines.{content, words_of, rows, word}
use Rattle.bp_tree.specs.Edges.{HasEdges, IsGrowing, IsLength, edge_words, uppers, lowers, lengths}
use Rattle.bp_tree.specs.Faults.{HasKind, HasFault, IsElementKind, IsFirstElementFault, LacksUpper, RepeatsLower, IsFull, line_at, names_in, HasElementKind, HasElementFault, element_at}
use Rattle.bp_tree.specs.Calls.{GrewFrom}
use Rattle.bp_tree.proofs.Rows.{rows_append, rows_cons, names_edges, Parted, parted}
use Rattle.bp_tree.proofs.TextBytes.{text_bytes}
use Rattle.bp_tree.proofs.Growth.{edge_count}

-- an edge of a growing tree, with those before it and behind it
module _ (T : TreeValue) (t : IsGrowing T) (front back : List Edge) (e : Edge) (has : HasEdges T (front ++ e ∷ back)) where
  abbrev k : ℕ
  k = length front

  count : length (drop 1 T.parents) ≡ k + 1 + length back
  count = edge_count T t (front ++ e ∷ back) has ∙ length-append front (e ∷ back) ∙ omega arith

  nodes : length T.parents ≡ k + 2 + length back
  nodes = omega (arith, count, length-drop 1 T.parents)

  -- the names up to this edge's lower node
  abbrev names : List (List ℕ)
  names = take 1 (uppers front) ++ lowers front

  uppers_are : uppers (front ++ e ∷ back) ≡ uppers front ++ e.upper ∷ uppers back
  uppers_are = map-append (λ (x : Edge). x.upper) front (e ∷ back)

  lowers_are : lowers (front ++ e ∷ back) ≡ lowers front ++ e.lower ∷ lowers back
  lowers_are = map-append (λ (x : Edge). x.lower) front (e ∷ back)

  lengths_are : lengths (front ++ e ∷ back) ≡ lengths front ++ e.length ∷ lengths back
  lengths_are = map-append (λ (x : Edge). x.length) front (e ∷ back)

  upper_is : e.upper ≡ name_of T (parent T (1 + k))
  upper_is =
      let there : get_or (uppers (front ++ e ∷ back)) k [] ≡ e.upper = ap (λ (l : List (List ℕ)). get_or l k []) uppers_are ∙ get_or_at (uppers front) e.upper (uppers back) [] k (length-map front (λ (x : Edge). x.upper)) in
      let at : get_or (map (name_of T) (drop 1 T.parents)) k [] ≡ name_of T (get_or (drop 1 T.parents) k 0) = get_or-map (name_of T) (drop 1 T.parents) k 0 [] (omega (arith, count)) in
      sym there ∙ sym (ap (λ (l : List (List ℕ)). get_or l k []) has.uppers) ∙ at ∙ ap (name_of T) (get_or-drop 1 T.parents k 0)

  length_is : e.length ≡ length_of T (1 + k)
  length_is =
      let there : get_or (lengths (front ++ e ∷ back)) k 0 ≡ e.length = ap (λ (l : List ℕ). get_or l k 0) lengths_are ∙ get_or_at (lengths front) e.length (lengths back) 0 k (length-map front (λ (x : Edge). x.length)) in
      sym there ∙ sym (ap (λ (l : List ℕ). get_or l k 0) has.lengths) ∙ get_or-drop 1 T.lengths k 0

  pub good_length : IsLength e.length
  good_length = omega (arith, length_is, t.lengths_positive (1 + k) (omega arith) (omega (arith, nodes)), t.lengths_small (1 + k))

  falls : parent T (1 + k) < 1 + k
  falls = t.parents_before (1 + k) (omega arith) (omega (arith, nodes))

  pub good_upper : IsName e.upper
  good_upper = subst IsName (sym upper_is) (All-get_or IsName T.names (parent T (1 + k)) [] (omega (arith, falls, nodes, t.names_as_parents)) t.names_spelled)

  -- the names of the tree, where some edge stands before
  names_are : (f : Edge) (fs : List Edge) → front ≡ f ∷ fs → T.names ≡ names ++ e.lower ∷ lowers back
  names_are f fs some =
      let first : take 1 (uppers (front ++ e ∷ back)) ≡ take 1 (uppers front) = ap (λ (l : List Edge). take 1 (uppers (l ++ e ∷ back))) some ∙ sym (ap (λ (l : List Edge). take 1 (uppers l)) some) in
      has.names ∙ ap (λ (l : List (List ℕ)). l ++ lowers (front ++ e ∷ back)) first ∙ ap (λ (l : List (List ℕ)). take 1 (uppers front) ++ l) lowers_are ∙ sym (append_assoc (take 1 (uppers front)) (lowers front) (e.lower ∷ lowers back))

  names_first : front ≡ [] → T.names ≡ e.upper ∷ e.lower ∷ lowers back
  names_first none = has.names ∙ ap (λ (l : List Edge). take 1 (uppers (l ++ e ∷ back)) ++ lowers (l ++ e ∷ back)) none

  name_count : (f : Edge) (fs : List Edge) → front ≡ f ∷ fs → length names ≡ 1 + k
  name_count f fs some =
      omega (arith, length-append (take 1 (uppers front)) (lowers front), length-map front (λ (x : Edge). x.lower), ap (λ (l : List Edge). length (take 1 (uppers l))) some)

  lower_is : (d : List ℕ) → get_or T.names (1 + k) d ≡ e.lower
  lower_is d = go front refl
    where
      go : (fs : List Edge) → front ≡ fs → get_or T.names (1 + k) d ≡ e.lower
      go [] none =
          let zero_k : 1 + k ≡ 1 = ap (λ (l : List Edge). 1 + length l) none in
          ap (λ (l : List (List ℕ)). get_or l (1 + k) d) (names_first none) ∙ ap (λ (i : ℕ). get_or (e.upper ∷ e.lower ∷ lowers back) i d) zero_k
      go (f ∷ fs) some = ap (λ (l : List (List ℕ)). get_or l (1 + k) d) (names_are f fs some) ∙ get_or_at names e.lower (lowers back) d (1 + k) (name_count f fs some)

  pub good_lower : IsName e.lower
  good_lower = subst IsName (lower_is []) (All-get_or IsName T.names (1 + k) [] (omega (arith, nodes, t.names_as_parents)) t.names_spelled)

  no_names : front ≡ [] → names ≡ []
  no_names none = ap (λ (l : List Edge). take 1 (uppers l) ++ lowers l) none

  known : LacksUpper names e.upper → ⊥
  known lacks = go front refl
    where
      go : (fs : List Edge) → front ≡ fs → ⊥
      go [] none = lacks.0 (no_names none)
      go (f ∷ fs) some =
          let within : parent T (1 + k) < length names = omega (arith, falls, name_count f fs some) in
          let there : get_or T.names (parent T (1 + k)) [] ≡ get_or names (parent T (1 + k)) [] = ap (λ (l : List (List ℕ)). get_or l (parent T (1 + k)) []) (names_are f fs some) ∙ get_or_append_left names (e.lower ∷ lowers back) [] (parent T (1 + k)) within in
          lacks.1 (parent T (1 + k), within, get_or_default names (parent T (1 + k)) e.upper [] within ∙ sym there ∙ sym upper_is)

  -- the place of a name before that of the lower node
  differs : (i : ℕ) → i < 1 + k → get_or T.names i [] ≡ e.lower → ⊥
  differs i less same = t.names_differ i (1 + k) [] less (omega (arith, nodes, t.names_as_parents)) (same ∙ sym (lower_is []))

  new : RepeatsLower names e.upper e.lower → ⊥
  new repeats = go front refl repeats
    where
      go : (fs : List Edge) → front ≡ fs → RepeatsLower names e.upper e.lower → ⊥
      go [] none (inl (i, less, is)) = omega (arith, less, ap length (no_names none))
      go [] none (inr (empty, same)) = differs 0 (omega arith) (ap (λ (l : List (List ℕ)). get_or l 0 []) (names_first none) ∙ sym same)
      go (f ∷ fs) some (inl (i, less, is)) =
          let there : get_or T.names i [] ≡ get_or names i [] = ap (λ (l : List (List ℕ)). get_or l i []) (names_are f fs some) ∙ get_or_append_left names (e.lower ∷ lowers back) [] i less in
          differs i (omega (arith, less, name_count f fs some)) (there ∙ get_or_default names i [] e.lower less ∙ is)
      go (f ∷ fs) some (inr (empty, same)) = omega (arith, name_count f fs some, ap length empty)

  room : IsFull names → ⊥
  room full = go front refl
    where
      go : (fs : List Edge) → front ≡ fs → ⊥
      go [] none = omega (arith, full, ap length (no_names none))
      go (f ∷ fs) some = omega (arith, full, name_count f fs some, nodes, t.nodes)

  pub element_faultless : (kind : TreeKind) → HasElementKind names e kind → ⊥
  element_faultless BadName bad = bad (good_upper, good_lower)
  element_faultless BadLength bad = bad good_length
  element_faultless UnknownParent bad = known bad
  element_faultless RepeatedName bad = new bad
  element_faultless TooManyNodes bad = room bad
  element_faultless TooLong bad = bad
  element_faultless BadJson bad = bad
  element_faultless BadShape bad = bad
  element_faultless BadByte bad = bad
  element_faultless WordCount bad = bad
  element_faultless Empty bad = bad
  element_faultless RootIsLeaf bad = bad
  element_faultless TooManyLeaves bad = bad

  module _ (line : List ℕ) (is : words_of line ≡ edge_words e) where
    word_is : (i : ℕ) → word (words_of line) i ≡ word (edge_words e) i
    word_is i = ap (λ (ws : List (List ℕ)). word ws i) is

    pub faultless : (kind : TreeKind) → HasKind names line kind → ⊥
    faultless BadByte bad = bad (text_bytes (content line) e is good_upper good_lower good_length)
    faultless WordCount bad = bad (ap length is)
    faultless BadName bad = bad (subst IsName (sym (word_is 0)) good_upper, subst IsName (sym (word_is 1)) good_lower)
    faultless BadLength bad = bad e.length (word_is 2, omega (arith, good_length.1)) good_length
    faultless UnknownParent bad = known (subst (LacksUpper names) (word_is 0) bad)
    faultless RepeatedName bad = new (subst (λ (w : List ℕ). RepeatsLower names w e.lower) (word_is 0) (subst (RepeatsLower names (word (words_of line) 0)) (word_is 1) bad))
    faultless TooManyNodes bad = room bad
    faultless TooLong bad = bad
    faultless BadJson bad = bad
    faultless BadShape bad = bad
    faultless Empty bad = bad
    faultless RootIsLeaf bad = bad
    faultless TooManyLeaves bad = bad

-- what stands at a place, among what was taken
around : {A : Type 0} (xs : List A) (n j : ℕ) (d : A) → n ≤ length xs → j < n → take n xs ≡ take j xs ++ get_or xs j d ∷ drop (j + 1) (take n xs)
around {A} xs n j d fits less =
    let long : j < length (take n xs) = omega (arith, length-take-le n xs fits, less) in
    sym (take-append-drop j (take n xs)) ∙ ap (λ (l : List A). l ++ drop j (take n xs)) (take-take j n xs (omega arith))
    ∙ ap (λ (l : List A). take j xs ++ l) (drop_more (take n xs) j d long ∙ ap (λ (x : A). x ∷ drop (j + 1) (take n xs)) (get_or-take n xs j d less))

-- an edge's line has no fault behind the edges before it
line_faultless : (T : TreeValue) → IsGrowing T → (es : List Edge) → HasEdges T es → (before after : List (List ℕ)) (x : List ℕ) → rows before ++ words_of x ∷ rows after ≡ map edge_words es → (kind : TreeKind) → HasKind (names_in (rows before)) x kind → ⊥
line_faultless T t es has before after x given kind fault = go (parted es (rows before) (rows after) (words_of x) given)
  where
    go : Parted es (rows before) (rows after) (words_of x) → ⊥
    go p =
        let names_is = ap names_in p.front_is ∙ names_edges p.front in
        faultless T t p.front p.back p.here (subst (HasEdges T) p.is has) x p.here_is kind (subst (λ (ns : List (List ℕ)). HasKind ns x kind) names_is fault)

-- none of the first n lines has a fault, where they give the edges of a growing tree
pub no_fault : (lines : List (List ℕ)) (n : ℕ) (T : TreeValue) → IsGrowing T → n ≤ length lines → GrewFrom (take n lines) T → (m : ℕ) (kind : TreeKind) → m ≤ n → HasFault lines m kind → ⊥
no_fault lines n T t fits (es, given, has) m kind before (row, fault) = go (m - 1) refl (omega (arith, row.from))
  where
    go : (j : ℕ) → m - 1 ≡ j → j < n → ⊥
    go j is less =
        let x_is : line_at lines m ≡ get_or lines j [] = ap (λ (i : ℕ). get_or lines i []) is in
        let some : words_of (get_or lines j []) ≡ [] → ⊥ = λ none. row.worded (ap words_of x_is ∙ none) in
        let split : rows (take n lines) ≡ rows (take j lines) ++ words_of (get_or lines j []) ∷ rows (drop (j + 1) (take n lines)) =
        ap rows (around lines n j [] fits less) ∙ rows_append (take j lines) (get_or lines j [] ∷ drop (j + 1) (take n lines)) ∙ ap (λ (r : List (List (List ℕ))). rows (take j lines) ++ r) (rows_cons (get_or lines j []) (drop (j + 1) (take n lines)) some) in
        let fault' = subst (λ (i : ℕ). HasKind (names_in (rows (take i lines))) (get_or lines i []) kind) is fault in
        line_faultless T t es has (take j lines) (drop (j + 1) (take n lines)) (get_or lines j []) (sym split ∙ given) kind fault'

-- none of the first n elements has a fault, where they are the edges of a growing tree
pub no_element_fault : (es : List Edge) (n : ℕ) (T : TreeValue) → IsGrowing T → n ≤ length es → HasEdges T (take n es) → (m : ℕ) (kind : TreeKind) → m ≤ n → HasElementFault es m kind → ⊥
no_element_fault es n T t fits has m kind before (within, fault) =
    let j = m - 1 in
    let less : m - 1 < n = omega (arith, within.0) in
    element_faultless T t (take j es) (drop (j + 1) (take n es)) (element_at es m) (subst (HasEdges T) (around es n j (record { upper = []; lower = []; length = 0 }) fits less) has) kind fault

-- the first fault of elements, behind those that are the edges of a growing tree
pub first_element_fault : (es : List Edge) (k n : ℕ) (T : TreeValue) (kind : TreeKind) (e : Edge) → IsGrowing T → k < length es → n ≡ k + 1 → HasEdges T (take k es) → get_or es k (record { upper = []; lower = []; length = 0 }) ≡ e → IsElementKind T.names e kind → IsFirstElementFault es n kind
first_element_fault es k n T kind e t less count has here bad =
    let back : k ≡ n - 1 = omega arith in
    let has' : HasEdges T (take (n - 1) es) = subst (λ (j : ℕ). HasEdges T (take j es)) back has in
    let at : IsElementKind T.names (element_at es n) kind = subst (λ (x : Edge). IsElementKind T.names x kind) (sym here ∙ ap (λ (j : ℕ). get_or es j (record { upper = []; lower = []; length = 0 })) back) bad in
    record {
      element = (omega arith, omega arith);
      has = subst (λ (ns : List (List ℕ)). IsElementKind ns (element_at es n) kind) has'.names at;
      before = λ m other earlier had. no_element_fault es k T t (omega arith) has m other (omega arith) had;
    }
