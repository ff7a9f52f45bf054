-- A tree grows by a node at its end.
use Rattle.std.proofs.Common.{◌≡◌, ◌≢◌, inl, inr, ℕ, zero, suc, ◌+◌, ◌<◌, ◌≤◌, Bool, true, false, cond, List, [], ◌∷◌, ◌++◌, length, get_or, take, drop, map, filter, Contains, Err, refl, sym, ◌∙◌, ap, subst, arith}
use Rattle.std.specs.List.{range_with_len}
use Rattle.std.proofs.lemmas.Bool.{cases_lt, cases_eq}
use Rattle.std.proofs.lemmas.List.{append_assoc, length_push, length-append, length-map, length-drop, get_or_append_left, get_or_push, get_or_past, get_or-drop, get_or_default, drop-append-le, take-append-le, map-append, map_push, nil_from_length}
use Rattle.std.proofs.lemmas.List.Elements.{All-push, filter-append}
use Rattle.std.proofs.lemmas.List.FromFn.{length-range_with_len}
use Rattle.std.proofs.lemmas.List.Quantifiers.{all_pairs_push}
use Rattle.std.proofs.lemmas.List.Sums.{length-filter, count_by-le-length}
use Rattle.bp_text.proofs.Puts.{range_push}
use Rattle.bp_base.specs.Limits.{most_nodes, most_length}
use Rattle.bp_base.specs.Name.{IsName}
use Rattle.bp_base.specs.Tree.{TreeValue, parent, name_of}
use Rattle.bp_tree.specs.declared.edge.Edge.{Edge}
use Rattle.bp_tree.specs.Edges.{HasEdges, IsGrowing, IsLength, uppers, lowers, lengths}
use Rattle.bp_tree.specs.declared.fault.TreeKind.{TreeKind}
use Rattle.bp_tree.specs.declared.fault.TreeKind.TheVariants.{TooLong, BadJson, BadShape, BadByte, WordCount, BadName, BadLength, UnknownParent, RepeatedName, TooManyNodes, Empty, RootIsLeaf, TooManyLeaves}
use Rattle.bp_tree.specs.Calls.{with_node, IsPlaceFor, FindsParent}
use Rattle.bp_tree.specs.Growing.{no_nodes, AddsEdge}

module _ (T : TreeValue) (t : IsGrowing T) (p l : ℕ) (name : List ℕ) where
  -- the first node is the root; each other has a parent and a length
  pub node_added : (length T.parents ≡ 0 → (p ≡ 0) × (l ≡ 0)) → (0 < length T.parents → (p < length T.parents) × IsLength l) → IsName name → (Contains T.names name → ⊥) → length T.parents < most_nodes → IsGrowing (with_node T p l name)
  node_added first later spelled new room =
      let small : l ≤ most_length = elim (cases_eq (length T.parents) 0) [ inl none ↦ omega (arith, (first none).1) | inr some ↦ (later (omega arith)).1.1 ] in
      record {
        lengths_as_parents = omega (arith, length_push T.lengths l, length_push T.parents p, t.lengths_as_parents);
        names_as_parents = omega (arith, length_push T.names name, length_push T.parents p, t.names_as_parents);
        root_parent = elim (cases_eq (length T.parents) 0) [
          | inl none ↦ get_or_push T.parents p 0 0 none ∙ (first none).0
          | inr some ↦ get_or_append_left T.parents (p ∷ []) 0 0 (omega arith) ∙ t.root_parent
        ];
        root_length = elim (cases_eq (length T.parents) 0) [
          | inl none ↦ get_or_push T.lengths l 0 0 (omega (arith, none, t.lengths_as_parents)) ∙ (first none).1
          | inr some ↦ get_or_append_left T.lengths (l ∷ []) 0 0 (omega (arith, t.lengths_as_parents)) ∙ t.root_length
        ];
        parents_before = λ k above less. elim (cases_lt k (length T.parents)) [
          | inl old ↦ omega (arith, get_or_append_left T.parents (p ∷ []) 0 k old, t.parents_before k above old)
          | inr last ↦
              let is : length T.parents ≡ k = omega (arith, length_push T.parents p) in
              omega (arith, get_or_push T.parents p 0 k is, (later (omega arith)).0)
        ];
        lengths_positive = λ k above less. elim (cases_lt k (length T.parents)) [
          | inl old ↦ omega (arith, get_or_append_left T.lengths (l ∷ []) 0 k (omega (arith, t.lengths_as_parents)), t.lengths_positive k above old)
          | inr last ↦
              let is : length T.lengths ≡ k = omega (arith, length_push T.parents p, t.lengths_as_parents) in
              omega (arith, get_or_push T.lengths l 0 k is, (later (omega arith)).1.0)
        ];
        lengths_small = λ k. elim (cases_lt k (length T.lengths)) [
          | inl old ↦ omega (arith, get_or_append_left T.lengths (l ∷ []) 0 k old, t.lengths_small k)
          | inr behind ↦ elim (cases_eq (length T.lengths) k) [
            | inl is ↦ omega (arith, get_or_push T.lengths l 0 k is, small)
            | inr past ↦ omega (arith, get_or_past (T.lengths ++ l ∷ []) k 0 (omega (arith, length_push T.lengths l)))
          ]
        ];
        names_spelled = All-push IsName T.names name t.names_spelled spelled;
        names_differ = all_pairs_push (λ a b. a ≢ b) T.names name t.names_differ (λ k d less same. new (k, less, get_or_default T.names k name d less ∙ same));
        nodes = omega (arith, length_push T.parents p);
      }

-- the names at places, where names were added behind
names_kept : (names more : List (List ℕ)) (places : List ℕ) → ((k : ℕ) → k < length places → get_or places k 0 < length names) → map (λ q. get_or (names ++ more) q []) places ≡ map (λ q. get_or names q []) places
names_kept names more [] within = refl
names_kept names more (q ∷ places) within =
    let here : get_or (names ++ more) q [] ≡ get_or names q [] = get_or_append_left names more [] q (within 0 (omega arith)) in
    let rest = names_kept names more places (λ k less. within (suc k) (omega arith)) in
    λ i. here i ∷ rest i

-- the parents of all nodes but the root are nodes
pub parents_in : (T : TreeValue) → IsGrowing T → (k : ℕ) → k < length (drop 1 T.parents) → get_or (drop 1 T.parents) k 0 < length T.names
parents_in T t k less =
    let at : get_or (drop 1 T.parents) k 0 ≡ parent T (1 + k) = get_or-drop 1 T.parents k 0 in
    let falls = t.parents_before (1 + k) (omega arith) (omega (arith, length-drop 1 T.parents)) in
    omega (arith, at, falls, t.names_as_parents, length-drop 1 T.parents)

module _ (T : TreeValue) (t : IsGrowing T) (es : List Edge) (has : HasEdges T es) where
  pub edge_count : length (drop 1 T.parents) ≡ length es
  edge_count = sym (length-map (drop 1 T.parents) (name_of T)) ∙ ap length has.uppers ∙ length-map es (λ (e : Edge). e.upper)

  -- an edge more, to a node that is there
  pub edge_added : (e : Edge) (p : ℕ) → 1 ≤ length es → p < length T.names → get_or T.names p [] ≡ e.upper → HasEdges (with_node T p e.length e.lower) (es ++ e ∷ [])
  edge_added e p some within is =
      let new_uppers : uppers (es ++ e ∷ []) ≡ uppers es ++ e.upper ∷ [] = map_push (λ (x : Edge). x.upper) es e in
      let new_lowers : lowers (es ++ e ∷ []) ≡ lowers es ++ e.lower ∷ [] = map_push (λ (x : Edge). x.lower) es e in
      let new_lengths : lengths (es ++ e ∷ []) ≡ lengths es ++ e.length ∷ [] = map_push (λ (x : Edge). x.length) es e in
      let root : take 1 (uppers (es ++ e ∷ [])) ≡ take 1 (uppers es) = ap (take 1) new_uppers ∙ take-append-le 1 (uppers es) (e.upper ∷ []) (omega (arith, length-map es (λ (x : Edge). x.upper))) in
      let parents : drop 1 (T.parents ++ p ∷ []) ≡ drop 1 T.parents ++ p ∷ [] = drop-append-le 1 T.parents (p ∷ []) (omega (arith, edge_count, length-drop 1 T.parents)) in
      record {
        names = ap (λ (n : List (List ℕ)). n ++ e.lower ∷ []) has.names ∙ append_assoc (take 1 (uppers es)) (lowers es) (e.lower ∷ []) ∙ ap (λ (n : List (List ℕ)). take 1 (uppers es) ++ n) (sym new_lowers) ∙ ap (λ (n : List (List ℕ)). n ++ lowers (es ++ e ∷ [])) (sym root);
        uppers = ap (map (λ q. get_or (T.names ++ e.lower ∷ []) q [])) parents ∙ map-append (λ q. get_or (T.names ++ e.lower ∷ []) q []) (drop 1 T.parents) (p ∷ [])
            ∙ ap (λ (n : List (List ℕ)). n ++ get_or (T.names ++ e.lower ∷ []) p [] ∷ []) (names_kept T.names (e.lower ∷ []) (drop 1 T.parents) (parents_in T t) ∙ has.uppers)
            ∙ ap (λ (n : List ℕ). uppers es ++ n ∷ []) (get_or_append_left T.names (e.lower ∷ []) [] p within ∙ is) ∙ sym new_uppers;
        lengths = drop-append-le 1 T.lengths (e.length ∷ []) (omega (arith, edge_count, length-drop 1 T.parents, t.lengths_as_parents)) ∙ ap (λ (n : List ℕ). n ++ e.length ∷ []) has.lengths ∙ sym new_lengths;
      }

-- the first edge, which makes the root too
first_of_none : (e : Edge) → HasEdges (with_node (with_node no_nodes 0 0 e.upper) 0 e.length e.lower) (e ∷ [])
first_of_none e = record { names = refl; uppers = refl; lengths = refl }

pub no_nodes_is : (T : TreeValue) → IsGrowing T → T.names ≡ [] → T ≡ no_nodes
no_nodes_is T t none =
    let parents : T.parents ≡ [] = nil_from_length T.parents (omega (arith, t.names_as_parents, ap length none)) in
    let ls : T.lengths ≡ [] = nil_from_length T.lengths (omega (arith, t.names_as_parents, t.lengths_as_parents, ap length none)) in
    λ i. record { parents = parents i; lengths = ls i; names = none i }

no_edges : (T : TreeValue) (es : List Edge) → HasEdges T es → T.names ≡ [] → es ≡ []
no_edges T [] has none = refl
no_edges T (e ∷ es) has none = absurd (omega (arith, ap length (sym none ∙ has.names)))

pub edge_first : (T : TreeValue) → IsGrowing T → (es : List Edge) (e : Edge) → HasEdges T es → T.names ≡ [] → HasEdges (with_node (with_node T 0 0 e.upper) 0 e.length e.lower) (es ++ e ∷ [])
edge_first T t es e has none =
    let is = no_nodes_is T t none in
    let no = no_edges T es has none in
    rw (is, no) (first_of_none e)

-- counting the numbers below one more that pass
passing : (p : ℕ → Bool) (n : ℕ) → filter p (range_with_len 0 (n + 1)) ≡ filter p (range_with_len 0 n) ++ filter p (n ∷ [])
passing p n =
    let e : 0 + n ≡ n = omega arith in
    ap (filter p) (range_push 0 n ∙ ap (λ (k : ℕ). range_with_len 0 n ++ k ∷ []) e) ∙ filter-append p (range_with_len 0 n) (n ∷ [])

pub count_more : (p : ℕ → Bool) (n c d : ℕ) (b : Bool) → b ≡ p n → c ≡ length (filter p (range_with_len 0 n)) → d ≡ c + cond b 1 0 → d ≡ length (filter p (range_with_len 0 (n + 1)))
count_more p n c d b test so_far more =
    let one : length (filter p (n ∷ [])) ≡ cond b 1 0 = ap (λ (x : Bool). length (cond x (n ∷ []) [])) (sym test) ∙ picked b in
    omega (arith, ap length (passing p n), length-append (filter p (range_with_len 0 n)) (filter p (n ∷ [])), one, so_far, more)
  where
    picked : (x : Bool) → length (cond x (n ∷ []) []) ≡ cond x 1 0
    picked true = refl
    picked false = refl

pub count_small : (p : ℕ → Bool) (n : ℕ) → length (filter p (range_with_len 0 n)) ≤ n
count_small p n = omega (arith, length-filter p (range_with_len 0 n), count_by-le-length p (range_with_len 0 n), length-range_with_len 0 n)

pub growing_none : IsGrowing no_nodes
growing_none = record {
  lengths_as_parents = refl;
  names_as_parents = refl;
  root_parent = refl;
  root_length = refl;
  parents_before = λ k above less. absurd (omega arith);
  lengths_positive = λ k above less. absurd (omega arith);
  lengths_small = λ k. omega arith;
  names_spelled = λ k d less. absurd (omega arith);
  names_differ = λ i j d before less. absurd (omega arith);
  nodes = omega arith;
}

module _ (T : TreeValue) (t : IsGrowing T) (none : T.names ≡ []) where
  no_parents : length T.parents ≡ 0
  no_parents = omega (arith, t.names_as_parents, ap length none)

  pub root_added : (name : List ℕ) → IsName name → IsGrowing (with_node T 0 0 name)
  root_added name spelled =
      node_added T t 0 0 name (λ first. (refl, refl)) (λ some. absurd (omega (arith, no_parents))) spelled
      (λ has. omega (arith, has.1, ap length none)) (omega (arith, no_parents))

  pub first_added : (e : Edge) (S : TreeValue) → S ≡ with_node T 0 0 e.upper → IsGrowing S → IsName e.lower → IsLength e.length → (e.upper ≡ e.lower → ⊥) → IsGrowing (with_node S 0 e.length e.lower)
  first_added e S is s spelled long differ =
      let parents : length S.parents ≡ 1 = ap (λ (U : TreeValue). length U.parents) is ∙ length_push T.parents 0 ∙ omega (arith, no_parents) in
      let names : S.names ≡ e.upper ∷ [] = ap (λ (U : TreeValue). U.names) is ∙ ap (λ (ns : List (List ℕ)). ns ++ e.upper ∷ []) none in
      node_added S s 0 e.length e.lower (λ first. absurd (omega (arith, parents))) (λ some. (omega (arith, parents), long)) spelled
      (λ has. new (subst (λ (ns : List (List ℕ)). Contains ns e.lower) names has)) (omega (arith, parents))
    where
      new : Contains (e.upper ∷ []) e.lower → ⊥
      new (zero, less, is) = differ is
      new (suc k, less, is) = omega arith

adds_err : (T T' : TreeValue) (e : Edge) (kind : TreeKind) → (T.names ≡ [] → ⊥) → FindsParent T.names e (Err kind) → AddsEdge T e T' (Err kind)
adds_err T T' e UnknownParent some lacks = (some, lacks)
adds_err T T' e RepeatedName some (has, again) = (λ lacks. lacks.1 has, inl again)
adds_err T T' e TooManyNodes some (has, new, full) =
    (λ lacks. lacks.1 has, λ repeats. elim repeats [ inl again ↦ new again | inr first ↦ some first.0 ], full)
adds_err T T' e TooLong some h = absurd h
adds_err T T' e BadJson some h = absurd h
adds_err T T' e BadShape some h = absurd h
adds_err T T' e BadByte some h = absurd h
adds_err T T' e WordCount some h = absurd h
adds_err T T' e BadName some h = absurd h
adds_err T T' e BadLength some h = absurd h
adds_err T T' e Empty some h = absurd h
adds_err T T' e RootIsLeaf some h = absurd h
adds_err T T' e TooManyLeaves some h = absurd h

-- with the view of what is open
module _ (T U : TreeValue) (view : U ≡ T) (t : IsGrowing U) (names : List (List ℕ)) (are : names ≡ U.names) (some : length names ≡ 0 → ⊥) (e : Edge) where
  growing : IsGrowing T
  growing = subst IsGrowing view t

  names_are : names ≡ T.names
  names_are = are ∙ ap (λ (V : TreeValue). V.names) view

  pub added : (p : ℕ) → IsPlaceFor names e p → IsLength e.length → IsGrowing (with_node T p e.length e.lower)
  added p place long =
      let h : IsPlaceFor T.names e p = subst (λ (ns : List (List ℕ)). IsPlaceFor ns e p) names_are place in
      let many : length T.names ≡ length T.parents = growing.names_as_parents in
      node_added T growing p e.length e.lower (λ none. absurd (some (omega (arith, ap length names_are, many, none)))) (λ more. (omega (arith, h.within, many), long)) h.lower h.new (omega (arith, h.room, many))

  pub extends : (p : ℕ) → IsPlaceFor names e p → (es : List Edge) → HasEdges T es → HasEdges (with_node T p e.length e.lower) (es ++ e ∷ [])
  extends p place es has =
      let h : IsPlaceFor T.names e p = subst (λ (ns : List (List ℕ)). IsPlaceFor ns e p) names_are place in
      edge_added T growing es has e p (edges_some es has) h.within h.upper
    where
      edges_some : (fs : List Edge) → HasEdges T fs → 1 ≤ length fs
      edges_some [] none = absurd (some (ap length (names_are ∙ none.names)))
      edges_some (f ∷ fs) more = omega arith

  pub refuses : (T' : TreeValue) (kind : TreeKind) → FindsParent names e (Err kind) → AddsEdge T e T' (Err kind)
  refuses T' kind finds =
      adds_err T T' e kind (λ none. some (ap length (names_are ∙ none))) (subst (λ (ns : List (List ℕ)). FindsParent ns e (Err kind)) names_are finds)
