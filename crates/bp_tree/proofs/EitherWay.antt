-- Bytes without a tree have a first fault: it can't be that they have neither. What leads to a contradiction either way may be taken as decided.
use Rattle.std.proofs.Common.{◌≡◌, inl, inr, ℕ, zero, suc, ◌+◌, ◌-◌, ◌<◌, ◌≤◌, Bool, true, false, List, [], ◌∷◌, ◌++◌, length, get_or, take, map, All, Ok, Err, refl, sym, ◌∙◌, ap, subst, arith}
use Rattle.std.specs.Prelude.{Contains, IsTrue}
use Rattle.std.proofs.lemmas.Bool.{cases_lt}
use Rattle.std.proofs.lemmas.List.{append-nil, get_or_default, map_push, nil_from_length, take_all, take_more}
use Rattle.bp_base.specs.Limits.{most_nodes, most_leaves, most_tree_bytes}
use Rattle.bp_base.specs.Name.{IsName}
use Rattle.bp_base.specs.Tree.{TreeValue, leaf_count}
use Rattle.bp_text.specs.Numbers.{IsNumber}
use Rattle.bp_tree.specs.declared.edge.Edge.{Edge}
use Rattle.bp_tree.specs.declared.fault.TreeKind.{TreeKind}
use Rattle.bp_tree.specs.declared.fault.TreeKind.TheVariants.{TooLong, BadJson, BadShape, BadByte, WordCount, BadName, BadLength, UnknownParent, RepeatedName, TooManyNodes, Empty, RootIsLeaf, TooManyLeaves}
use Rattle.bp_tree.specs.declared.fault.TreeFault.{TreeFault}
use Rattle.bp_tree.specs.Lines.{lines_of, content, words_of, rows, word, is_text_byte}
use Rattle.bp_tree.specs.Edges.{HasEdges, IsGrowing, IsLength, edge_words, root_children}
use Rattle.bp_tree.specs.Json.{is_json, HasElements, HasNoValue}
use Rattle.bp_tree.specs.Text.{GivesEdges, GivesIn}
use Rattle.bp_tree.specs.Faults.{HasKind, IsKind, HasElementKind, IsElementKind, IsFirstFault, IsFirstElementFault, IsFirstIn, IsJsonFault, IsFull, IsTreeFault, IsNoTree, names_in, names_before, line_at, order}
use Rattle.bp_tree.specs.Growing.{no_nodes, AddsEdge}
use Rattle.bp_tree.specs.Calls.{with_node, IsPlaceFor, IsEdgeLine, GrewFrom}
use Rattle.bp_tree.proofs.Adding.{line_added, element_added}
use Rattle.bp_tree.proofs.Faultless.{no_fault, first_element_fault}
use Rattle.bp_tree.proofs.Growth.{added, extends, edge_first, first_added, root_added, growing_none}
use Rattle.bp_tree.proofs.Rows.{rows_more, rows_skipped, rows_cons, names_edges}
use Rattle.bp_tree.proofs.TwoLeaves.{one_child, tree_grown}
use Rattle.bp_tree.proofs.Whole.{early_fault, end_fault}

decided : (P : Type 0) → (P → ⊥) → ((P → ⊥) → ⊥) → ⊥
decided P holds fails = fails holds

-- A well spelled edge is added, or it has a fault.
module _ (T : TreeValue) (t : IsGrowing T) (e : Edge) (upper : IsName e.upper) (lower : IsName e.lower) (long : IsLength e.length)
    (grows : (T' : TreeValue) → IsGrowing T' → AddsEdge T e T' (Ok tt) → ⊥) (refused : (kind : TreeKind) → AddsEdge T e T (Err kind) → ⊥) where
  first_edge : T.names ≡ [] → ⊥
  first_edge none =
      decided (e.upper ≡ e.lower) (λ same. refused RepeatedName ((λ lacks. lacks.0 none), inr (none, sym same)))
      (λ differ. grows (with_node (with_node T 0 0 e.upper) 0 e.length e.lower) (first_added T t none e (with_node T 0 0 e.upper) refl (root_added T t none e.upper upper) lower long differ) (λ es has. edge_first T t es e has none))

  placed : (T.names ≡ [] → ⊥) → Contains T.names e.upper → (Contains T.names e.lower → ⊥) → (IsFull T.names → ⊥) → ⊥
  placed some (p, within, is) new room =
      let free : length T.names < most_nodes = elim (cases_lt (length T.names) most_nodes) [ inl less ↦ less | inr full ↦ absurd (room full) ] in
      let place : IsPlaceFor T.names e p = record { within = within; upper = get_or_default T.names p [] e.upper within ∙ is; new = new; room = free; lower = lower } in
      let there : length T.names ≡ 0 → ⊥ = λ none. some (nil_from_length T.names none) in
      grows (with_node T p e.length e.lower) (added T T refl t T.names refl there e p place long) (λ es has. extends T T refl t T.names refl there e p place es has)

  later_edge : (T.names ≡ [] → ⊥) → ⊥
  later_edge some =
      decided (Contains T.names e.upper)
      (λ has. decided (Contains T.names e.lower) (λ again. refused RepeatedName ((λ lacks. lacks.1 has), inl again))
      (λ new. decided (IsFull T.names) (λ full. refused TooManyNodes ((λ lacks. lacks.1 has), (λ repeats. elim repeats [ inl again ↦ new again | inr first ↦ some first.0 ]), full)) (placed some has new)))
      (λ lacks. refused UnknownParent (some, lacks))

  grow : ⊥
  grow = decided (T.names ≡ []) first_edge later_edge

-- An element is added, or it has a fault.
abbrev no_edge : Edge
no_edge = record { upper = []; lower = []; length = 0 }

before_element : (names : List (List ℕ)) (e : Edge) (k : ℕ) → k ≤ 4 → (4 ≤ k → IsName e.upper × IsName e.lower) → (other : TreeKind) → order other < k → HasElementKind names e other → ⊥
before_element names e k few named BadName early bad = bad (named (omega (arith, early)))
before_element names e k few named BadLength early bad = omega (arith, early, few)
before_element names e k few named UnknownParent early bad = omega (arith, early, few)
before_element names e k few named RepeatedName early bad = omega (arith, early, few)
before_element names e k few named TooManyNodes early bad = omega (arith, early, few)
before_element names e k few named BadByte early bad = bad
before_element names e k few named WordCount early bad = bad
before_element names e k few named TooLong early bad = bad
before_element names e k few named BadJson early bad = bad
before_element names e k few named BadShape early bad = bad
before_element names e k few named Empty early bad = bad
before_element names e k few named RootIsLeaf early bad = bad
before_element names e k few named TooManyLeaves early bad = bad

module _ (es : List Edge) (free : (m : ℕ) (kind : TreeKind) → IsFirstElementFault es m kind → ⊥) where
  module _ (k : ℕ) (less : k < length es) (T : TreeValue) (t : IsGrowing T) (has : HasEdges T (take k es)) (more : (T' : TreeValue) → IsGrowing T' → HasEdges T' (take (k + 1) es) → ⊥) where
    abbrev here : Edge
    here = get_or es k no_edge

    element_fault : (kind : TreeKind) → IsElementKind T.names here kind → ⊥
    element_fault kind bad = free (k + 1) kind (first_element_fault es k (k + 1) T kind here t less refl has refl bad)

    element_after : ⊥
    element_after =
        decided (IsName here.upper × IsName here.lower)
        (λ named. decided (IsLength here.length)
        (λ long. grow T t here named.0 named.1 long (λ T' t' adds. more T' t' (subst (HasEdges T') (sym (take_more es k no_edge less)) (adds (take k es) has))) (λ kind h. element_fault kind (element_added T T here here (Err kind) (refl, named.0, named.1, long) h)))
        (λ bad. element_fault BadLength (record { has = bad; first = before_element T.names here 4 (omega arith) (λ all. named) })))
        (λ bad. element_fault BadName (record { has = bad; first = before_element T.names here 3 (omega arith) (λ all. absurd (omega (arith, all))) }))

  elements : (k : ℕ) → k ≤ length es → ((T : TreeValue) → IsGrowing T → HasEdges T (take k es) → ⊥) → ⊥
  elements zero within none = none no_nodes growing_none (record { names = refl; uppers = refl; lengths = refl })
  elements (suc k) within none =
      let next : k + 1 ≡ suc k = omega arith in
      elements k (omega (arith, within)) (λ T t has. element_after k (omega (arith, within)) T t has (λ T' t' has'. none T' t' (subst (λ (n : ℕ). HasEdges T' (take n es)) next has')))

-- A line is skipped, or its edge is added, or it has a fault.
before_line : (names : List (List ℕ)) (line : List ℕ) (k : ℕ) → k ≤ 4 → (2 ≤ k → All (λ b. IsTrue (is_text_byte b)) (content line)) → (3 ≤ k → length (words_of line) ≡ 3) → (4 ≤ k → IsName (word (words_of line) 0) × IsName (word (words_of line) 1)) → (other : TreeKind) → order other < k → HasKind names line other → ⊥
before_line names line k few text three named BadByte early bad = bad (text (omega (arith, early)))
before_line names line k few text three named WordCount early bad = bad (three (omega (arith, early)))
before_line names line k few text three named BadName early bad = bad (named (omega (arith, early)))
before_line names line k few text three named BadLength early bad = omega (arith, early, few)
before_line names line k few text three named UnknownParent early bad = omega (arith, early, few)
before_line names line k few text three named RepeatedName early bad = omega (arith, early, few)
before_line names line k few text three named TooManyNodes early bad = omega (arith, early, few)
before_line names line k few text three named TooLong early bad = bad
before_line names line k few text three named BadJson early bad = bad
before_line names line k few text three named BadShape early bad = bad
before_line names line k few text three named Empty early bad = bad
before_line names line k few text three named RootIsLeaf early bad = bad
before_line names line k few text three named TooManyLeaves early bad = bad

module _ (lines : List (List ℕ)) (free : (m : ℕ) (kind : TreeKind) → IsFirstFault lines m kind → ⊥) where
  module _ (k : ℕ) (less : k < length lines) (T : TreeValue) (t : IsGrowing T) (grew : GrewFrom (take k lines) T) (more : (T' : TreeValue) → IsGrowing T' → GrewFrom (take (k + 1) lines) T' → ⊥) where
    abbrev line : List ℕ
    line = get_or lines k []

    fault : (kind : TreeKind) → (words_of line ≡ [] → ⊥) → IsKind T.names line kind → ⊥
    fault kind some bad =
        let back : k + 1 - 1 ≡ k = omega arith in
        let here : line_at lines (k + 1) ≡ line = ap (λ (i : ℕ). get_or lines i []) back in
        let names : names_before lines (k + 1) ≡ T.names = ap (λ (i : ℕ). names_in (rows (take i lines))) back ∙ ap names_in grew.1 ∙ names_edges grew.0 ∙ sym grew.2.names in
        free (k + 1) kind (record {
          row = record { from = omega arith; to = omega (arith, less); worded = λ none. some (ap words_of (sym here) ∙ none) };
          has = subst (λ (x : List ℕ). IsKind (names_before lines (k + 1)) x kind) (sym here) (subst (λ (ns : List (List ℕ)). IsKind ns line kind) (sym names) bad);
          before = λ m other earlier had. no_fault lines k T t (omega (arith, less)) grew m other (omega (arith, earlier)) had;
        })

    skipped : words_of line ≡ [] → ⊥
    skipped none =
        more T t (grew.0, rows_more lines k less ∙ ap (λ (r : List (List (List ℕ))). rows (take k lines) ++ r) (rows_skipped line none) ∙ append-nil (rows (take k lines)) ∙ grew.1, grew.2)

    edge_line : (some : words_of line ≡ [] → ⊥) (e : Edge) → IsEdgeLine line e → ⊥
    edge_line some e is =
        grow T t e is.upper is.lower is.length
        (λ T' t' adds.
        let row : rows (line ∷ []) ≡ edge_words e ∷ [] = rows_cons line [] some ∙ ap (λ (w : List (List ℕ)). w ∷ []) is.words in
        more T' t' (grew.0 ++ e ∷ [], rows_more lines k less ∙ ap (λ (r : List (List (List ℕ))). r ++ rows (line ∷ [])) grew.1 ∙ ap (λ (r : List (List (List ℕ))). map edge_words grew.0 ++ r) row ∙ sym (map_push edge_words grew.0 e), adds grew.0 grew.2))
        (λ kind h. let refused = line_added T T line e (Err kind) is h in fault kind refused.0 refused.1)

    module _ (some : words_of line ≡ [] → ⊥) (text : All (λ b. IsTrue (is_text_byte b)) (content line)) where
      miscounted : (length (words_of line) ≡ 3 → ⊥) → ⊥
      miscounted other = fault WordCount some (record { has = other; first = before_line T.names line 2 (omega arith) (λ all. text) (λ all. absurd (omega (arith, all))) (λ all. absurd (omega (arith, all))) })

      three_words : (a b c : List ℕ) → words_of line ≡ a ∷ b ∷ c ∷ [] → ⊥
      three_words a b c is =
          let three : length (words_of line) ≡ 3 = ap length is in
          let at_zero : word (words_of line) 0 ≡ a = ap (λ (ws : List (List ℕ)). word ws 0) is in
          let at_one : word (words_of line) 1 ≡ b = ap (λ (ws : List (List ℕ)). word ws 1) is in
          let at_two : word (words_of line) 2 ≡ c = ap (λ (ws : List (List ℕ)). word ws 2) is in
          decided (IsName a × IsName b)
          (λ named. decided ((n : ℕ) × IsNumber c n × IsLength n)
          (λ number. edge_line some (record { upper = a; lower = b; length = number.0 }) (record {
            words = is ∙ ap (λ (w : List ℕ). a ∷ b ∷ w ∷ []) number.1.0;
            upper = named.0;
            lower = named.1;
            length = number.2;
            text = text;
          }))
          (λ none. fault BadLength some (record {
            has = λ n number long. none (n, (sym at_two ∙ number.0, number.1), long);
            first = before_line T.names line 4 (omega arith) (λ all. text) (λ all. three) (λ all. (subst IsName (sym at_zero) named.0, subst IsName (sym at_one) named.1));
          })))
          (λ bad. fault BadName some (record {
            has = λ named. bad (subst IsName at_zero named.0, subst IsName at_one named.1);
            first = before_line T.names line 3 (omega arith) (λ all. text) (λ all. three) (λ all. absurd (omega (arith, all)));
          }))

      worded : (ws : List (List ℕ)) → words_of line ≡ ws → ⊥
      worded [] is = some is
      worded (a ∷ []) is = miscounted (λ three. omega (arith, three, ap length is))
      worded (a ∷ b ∷ []) is = miscounted (λ three. omega (arith, three, ap length is))
      worded (a ∷ b ∷ c ∷ []) is = three_words a b c is
      worded (a ∷ b ∷ c ∷ d ∷ ws) is = miscounted (λ three. omega (arith, three, ap length is))

    line_after : ⊥
    line_after =
        decided (words_of line ≡ []) skipped
        (λ some. decided (All (λ b. IsTrue (is_text_byte b)) (content line)) (λ text. worded some text (words_of line) refl)
        (λ bad. fault BadByte some (record { has = bad; first = before_line T.names line 1 (omega arith) (λ all. absurd (omega (arith, all))) (λ all. absurd (omega (arith, all))) (λ all. absurd (omega (arith, all))) })))

  all_lines : (k : ℕ) → k ≤ length lines → ((T : TreeValue) → IsGrowing T → GrewFrom (take k lines) T → ⊥) → ⊥
  all_lines zero within none = none no_nodes growing_none ([], refl, record { names = refl; uppers = refl; lengths = refl })
  all_lines (suc k) within none =
      let next : k + 1 ≡ suc k = omega arith in
      all_lines k (omega (arith, within)) (λ T t grew. line_after k (omega (arith, within)) T t grew (λ T' t' grew'. none T' t' (subst (λ (n : ℕ). GrewFrom (take n lines) T') next grew')))

json_fault : (bytes : List ℕ) (es : List Edge) (n : ℕ) (kind : TreeKind) → GivesIn true bytes es → IsFirstElementFault es n kind → IsJsonFault bytes n kind
json_fault bytes es n BadJson gives first = absurd first.has.has
json_fault bytes es n BadShape gives first = absurd first.has.has
json_fault bytes es n TooLong gives first = (es, gives, first)
json_fault bytes es n BadByte gives first = (es, gives, first)
json_fault bytes es n WordCount gives first = (es, gives, first)
json_fault bytes es n BadName gives first = (es, gives, first)
json_fault bytes es n BadLength gives first = (es, gives, first)
json_fault bytes es n UnknownParent gives first = (es, gives, first)
json_fault bytes es n RepeatedName gives first = (es, gives, first)
json_fault bytes es n TooManyNodes gives first = (es, gives, first)
json_fault bytes es n Empty gives first = (es, gives, first)
json_fault bytes es n RootIsLeaf gives first = (es, gives, first)
json_fault bytes es n TooManyLeaves gives first = (es, gives, first)

module _ (bytes : List ℕ) (no_tree : IsNoTree bytes) (no_first : (f : TreeFault) → IsTreeFault bytes f → ⊥) where
  abbrev at_line : ℕ → TreeKind → TreeFault
  at_line n kind = record { line = n; kind = kind }

  module _ (short : length bytes ≤ most_tree_bytes) where
    ends : (T : TreeValue) → IsGrowing T → (es : List Edge) → GivesEdges bytes es → HasEdges T es → ⊥
    ends T t es gives has =
        let end = end_fault bytes T t tt (es, gives, has) in
        elim (cases_lt 1 (length T.parents)) [
          | inr few ↦ no_first (at_line 0 Empty) (end Empty short few)
          | inl many ↦ elim (cases_lt (root_children T) 2) [
            | inl one ↦ no_first (at_line 0 RootIsLeaf) (end RootIsLeaf short (omega (arith, one, one_child T t many)))
            | inr two ↦ elim (cases_lt most_leaves (leaf_count T)) [
              | inl crowd ↦ no_first (at_line 0 TooManyLeaves) (end TooManyLeaves short (two, crowd))
              | inr few ↦ no_tree T (record { short = short; tree = tree_grown T t two few; given = es; gives = gives; has = has })
            ]
          ]
        ]

    in_form : (form : Bool) → is_json bytes ≡ form → (n : ℕ) (kind : TreeKind) → IsFirstIn form bytes n kind → ⊥
    in_form form is n kind first = no_first (at_line n kind) (early_fault bytes n kind short (subst (λ (b : Bool). IsFirstIn b bytes n kind) (sym is) first))

    of_form : (form : Bool) → is_json bytes ≡ form → ⊥
    of_form false is =
        all_lines (lines_of bytes) (λ m kind first. in_form false is m kind first) (length (lines_of bytes)) (omega arith)
        (λ T t grew.
        let whole = subst (λ (ls : List (List ℕ)). GrewFrom ls T) (take_all (length (lines_of bytes)) (lines_of bytes) (omega arith)) grew in
        ends T t whole.0 (subst (λ (b : Bool). GivesIn b bytes whole.0) (sym is) whole.1) whole.2)
    of_form true is =
        decided (HasNoValue bytes) (λ none. in_form true is 0 BadJson (refl, none))
        (λ valued. valued (λ d value. decided ((es : List Edge) × HasElements d es)
        (λ listed.
        let es = listed.0 in
        let gives : GivesIn true bytes es = (d, value, listed.1) in
        elements es (λ m kind first. in_form true is m kind (json_fault bytes es m kind gives first)) (length es) (omega arith)
        (λ T t has. ends T t es (subst (λ (b : Bool). GivesIn b bytes es) (sym is) gives) (subst (HasEdges T) (take_all (length es) es (omega arith)) has)))
        (λ none. in_form true is 0 BadShape (refl, (d, value, λ es has. none (es, has))))))

  pub not_neither : ⊥
  not_neither = elim (cases_lt most_tree_bytes (length bytes)) [ inl long ↦ no_first (at_line 0 TooLong) (refl, long) | inr short ↦ of_form short (is_json bytes) refl ]
