-- The edges of a tree have no fault, each behind those before it.
use Rattle.std.proofs.Common.{◌≡◌, ◌≢◌, ℕ, suc, ◌+◌, ◌-◌, ◌<◌, ◌≤◌, inl, inr, not, ◌==◌, List, [], ◌∷◌, ◌++◌, length, get_or, take, drop, map, filter, All, AllPairs, refl, sym, ◌∙◌, ap, arith}
use Rattle.std.specs.List.{count_by, list_any, range_with_len}
use Rattle.std.proofs.lemmas.Bool.{cases_order, cases_lt}
use Rattle.std.proofs.lemmas.List.{get_or_past, length-drop, take_all, take_more}
use Rattle.std.proofs.lemmas.List.Elements.{All-get_or}
use Rattle.bp_base.specs.Limits.{most_leaves, most_number}
use Rattle.bp_base.specs.Name.{IsName}
use Rattle.bp_base.specs.Tree.{TreeValue, IsTree, leaf_count, name_of}
use Rattle.bp_tree.specs.declared.edge.Edge.{Edge}
use Rattle.bp_tree.specs.declared.fault.TreeKind.TheVariants.{UnknownParent, RepeatedName}
use Rattle.bp_tree.specs.Edges.{HasEdges, IsGrowing, IsLength, root_children}
use Rattle.bp_tree.proofs.Faultless.{good_length, element_faultless}
use Rattle.bp_tree.proofs.Growth.{parents_in}
use Rattle.bp_tree.proofs.TwoLeaves.{growing_tree, some_nodes}
use Rattle.bp_document.specs.Faults.{IsBadEdge, MakesNoTree}

module _ (T : TreeValue) (t : IsGrowing T) (front back : List Edge) (e : Edge) (has : HasEdges T (front ++ e ∷ back)) where
  pub good_edge : (E : ℕ) → (length front + 1 ≡ E → MakesNoTree (front ++ e ∷ []) → ⊥) → IsBadEdge E front e → ⊥
  good_edge E whole bad = elim bad [
    | inl long ↦ long (good_length T t front back e has)
    | inr (inl lacks) ↦ element_faultless T t front back e has UnknownParent lacks
    | inr (inr (inl repeats)) ↦ element_faultless T t front back e has RepeatedName repeats
    | inr (inr (inr last)) ↦ whole last.0 last.1
  ]

  pub small_length : e.length ≤ most_number
  small_length = let long : IsLength e.length = good_length T t front back e has in omega (arith, long.1)

-- names that differ have one place each
place_one : (names : List (List ℕ)) → AllPairs (λ a b. a ≢ b) names → All IsName names → (p q : ℕ) → q < length names → get_or names p [] ≡ get_or names q [] → p ≡ q
place_one names differ spelled p q q_in same = elim (cases_lt p (length names)) [
  | inr past ↦
      let named : IsName (get_or names q []) = All-get_or IsName names q [] q_in spelled in
      let none : length (get_or names q []) ≡ 0 = ap length (sym same ∙ get_or_past names p [] past) in
      absurd (omega (arith, named.some, none))
  | inl p_in ↦ elim (cases_order p q) [
    | inl is ↦ is
    | inr (inl less) ↦ absurd (differ p q [] less q_in same)
    | inr (inr more) ↦ absurd (differ q p [] more p_in (sym same))
  ]
]

places_one : (names : List (List ℕ)) → AllPairs (λ a b. a ≢ b) names → All IsName names → (ps qs : List ℕ) → ((k : ℕ) → k < length qs → get_or qs k 0 < length names) → map (λ p. get_or names p []) ps ≡ map (λ p. get_or names p []) qs → ps ≡ qs
places_one names differ spelled [] [] qs_in same = refl
places_one names differ spelled [] (q ∷ qs) qs_in same = absurd (omega (arith, ap length same))
places_one names differ spelled (p ∷ ps) [] qs_in same = absurd (omega (arith, ap length same))
places_one names differ spelled (p ∷ ps) (q ∷ qs) qs_in same =
    let first = place_one names differ spelled p q (qs_in 0 (omega arith)) (ap (λ (l : List (List ℕ)). get_or l 0 []) same) in
    let rest = places_one names differ spelled ps qs (λ k less. qs_in (suc k) (omega arith)) (ap (λ (l : List (List ℕ)). drop 1 l) same) in
    λ i. first i ∷ rest i

-- how many leaves there are, by the parents and the number of nodes
abbrev leaves_by : List ℕ → ℕ → ℕ
leaves_by ps n = length (filter (λ k. not (list_any (λ p. p == k) ps)) (range_with_len 0 n))

-- whatever has the edges of a tree has its counts
module _ (T U : TreeValue) (t : IsTree T) (es : List Edge) (has : HasEdges T es) (other : HasEdges U es) where
  g : IsGrowing T
  g = growing_tree T t

  same_parents : drop 1 U.parents ≡ drop 1 T.parents
  same_parents =
      let names : U.names ≡ T.names = other.names ∙ sym has.names in
      let mine : map (name_of T) (drop 1 U.parents) ≡ map (name_of T) (drop 1 T.parents) =
      ap (λ (ns : List (List ℕ)). map (λ p. get_or ns p []) (drop 1 U.parents)) (sym names) ∙ other.uppers ∙ sym has.uppers in
      places_one T.names t.names_differ t.names_spelled (drop 1 U.parents) (drop 1 T.parents) (parents_in T g) mine

  same_count : length U.parents ≡ length T.parents
  same_count =
      omega (arith, ap length same_parents, length-drop 1 U.parents, length-drop 1 T.parents, some_nodes T t)

  pub no_fault : ((root_children U ≡ 1) → ⊥) × ((most_leaves < leaf_count U) → ⊥)
  no_fault = (
    λ one. omega (arith, one, ap (count_by (λ p. p == 0)) same_parents, t.root_children),
    λ many.
        let leaves : leaf_count U ≡ leaf_count T = ap (λ (ps : List ℕ). leaves_by ps (length U.parents)) same_parents ∙ ap (leaves_by (drop 1 T.parents)) same_count in
        omega (arith, many, leaves, t.leaves_few),
  )

pub makes_tree : (T : TreeValue) → IsTree T → (es : List Edge) → HasEdges T es → MakesNoTree es → ⊥
makes_tree T t es has bad = elim bad.2 [
  | inl one ↦ (no_fault T bad.0 t es has bad.1).0 one
  | inr many ↦ (no_fault T bad.0 t es has bad.1).1 many
]

-- edges parted into the last and those before it
pub last_edge : (es : List Edge) (d : Edge) → 1 ≤ length es → es ≡ take (length es - 1) es ++ get_or es (length es - 1) d ∷ []
last_edge es d some =
    let e : length es ≡ length es - 1 + 1 = omega (arith, some) in
    sym (take_all (length es) es (omega arith)) ∙ ap (λ (n : ℕ). take n es) e ∙ take_more es (length es - 1) d (omega (arith, some))
