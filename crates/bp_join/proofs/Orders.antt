-- The order of paths by their choices.
use Rattle.std.proofs.Common.{◌≡◌, ◌⊎◌, inl, inr, ℕ, suc, ◌+◌, ◌<◌, ◌≤◌, min, length, get_or, take, drop, reverse, Some, Bool, true, false, if◌then◌else◌, List, [], ◌∷◌, ◌++◌, map, refl, sym, ◌∙◌, ap, subst, arith}
use Rattle.std.specs.List.{AllByRecursion, slice_get}
use Rattle.std.specs.List.Sorted.{IsSortedBy}
use Rattle.std.specs.Cmp.{IsStrictWeakOrder}
use Rattle.std.specs.Fn.{ComparesAs, Called}
use Rattle.std.proofs.lemmas.Fn.{always_returns_same}
use denote.Param.Members.{Mut}
use denote.Ref.{Bor}
use Rattle.std.specs.Cmp.Lexicographic.{slice_cmp}
use Rattle.std.specs.Ordering.{is_lt, nat_cmp, ordering_then}
use Rattle.std.specs.declared.cmp.Ordering.{Ordering}
use Rattle.std.proofs.lemmas.Cmp.{tied_itself, nat_cmp_total, back_total, nat_list_cmp_total}
use Rattle.std.proofs.lemmas.List.{drop_more, length-drop, map-append, reverse-append, take-append-drop}
use Rattle.std.proofs.lemmas.List.Elements.{recursion_from_All}
use Rattle.std.proofs.lemmas.List.Sorted.{ranks_by, sorted_far}
use Rattle.std.proofs.lemmas.Bool.{cases_lt}
use Rattle.std.proofs.lemmas.Option.{get_or_from_slice_get, slice_get_within}
use Rattle.std.proofs.lemmas.Bool.Decides.{nat_tests}
use Rattle.bp_base.specs.declared.path.Choice.{Choice}
use Rattle.bp_base.specs.declared.path.Choice.TheVariants.{Left, Right, Below}
use Rattle.bp_base.specs.declared.path.Pair.{Pair}
use Rattle.bp_base.specs.declared.path.Step.{Step}
use Rattle.bp_base.specs.declared.point.Sheet.{Sheet}
use Rattle.bp_base.specs.declared.point.Sheet.TheVariants.{Square, Strip}
use Rattle.bp_base.specs.Bags.{choice_number}
use Rattle.bp_base.specs.Tree.{TreeValue}
use Rattle.bp_metric.specs.Choices.{allowed, allowed_later, are_late_twins, is_pair_of}
use Rattle.bp_metric.specs.Nodes.{Node}
use Rattle.bp_join.specs.declared.entry.Entry.{Entry}
use Rattle.bp_join.specs.Entries.{entry_node, stacked}
use Rattle.bp_join.specs.Trees.{path_cmp, choice_numbers, AreInOrder, AreRising, under}
use Rattle.bp_join.proofs.Sums.{each-append, each-map, each_front, each_mapped, each_weaker}

-- the same step in front changes nothing
pub cmp_under : (s : Step) (p q : List Step) → path_cmp (s ∷ p) (s ∷ q) ≡ path_cmp p q
cmp_under s p q = ap (λ o. ordering_then o (slice_cmp nat_cmp (choice_numbers p) (choice_numbers q))) (tied_itself nat_cmp_total (choice_number s.choice))

-- by a lesser choice a path stands before
pub cmp_less : (s t : Step) (p q : List Step) → choice_number s.choice < choice_number t.choice → is_lt (path_cmp (s ∷ p) (t ∷ q)) ≡ true
cmp_less s t p q less = ap (λ o. is_lt (ordering_then o (slice_cmp nat_cmp (choice_numbers p) (choice_numbers q)))) (first (choice_number s.choice) (choice_number t.choice) less)
  where
    first : (m n : ℕ) → m < n → nat_cmp m n ≡ Ordering.Less
    first m n below = grind (arith, nat_tests)

pub in_order_front : (ns ms : List Node) → AreInOrder (ns ++ ms) → AreInOrder ns
in_order_front [] ms all = tt
in_order_front (n ∷ ns) ms all = (each_front (λ (m : Node). is_lt (path_cmp m.path n.path) ≡ false) ns ms all.0, in_order_front ns ms all.1)

pub in_order_back : (ns ms : List Node) → AreInOrder (ns ++ ms) → AreInOrder ms
in_order_back [] ms all = all
in_order_back (n ∷ ns) ms all = in_order_back ns ms all.1

pub in_order_under : (s : Step) (ns : List Node) → AreInOrder (map (under (s ∷ [])) ns) → AreInOrder ns
in_order_under s [] all = tt
in_order_under s (n ∷ ns) all =
    (each_weaker (λ (m : Node). is_lt (path_cmp (s ∷ m.path) (s ∷ n.path)) ≡ false) (λ (m : Node). is_lt (path_cmp m.path n.path) ≡ false) ns (λ m later. sym (ap is_lt (cmp_under s m.path n.path)) ∙ later) (each_mapped (λ (m : Node). is_lt (path_cmp m.path (s ∷ n.path)) ≡ false) (under (s ∷ [])) ns all.0), in_order_under s ns all.1)

rising-if : (b : Bool) (xs ys : List Choice) → AreRising xs → AreRising ys → AreRising (if b then xs else ys)
rising-if true xs ys first second = first
rising-if false xs ys first second = second

pub rising_allowed : (T : TreeValue) (G : Sheet) (p : Pair) → AreRising (allowed T G p)
unfolding allowed
rising_allowed T Square p = rising-if (is_pair_of 1 2 p) _ _ ((tt, tt)) (rising-if (is_pair_of 1 3 p) _ _ three (later T p))
  where
    three : AreRising (Left ∷ Right ∷ Below ∷ [])
    three = ((omega arith, (omega arith, tt)), ((omega arith, tt), (tt, tt)))

    later : (T : TreeValue) (p : Pair) → AreRising (allowed_later T p)
    later T p = rising-if (are_late_twins T p) _ _ ((omega arith, tt), (tt, tt)) ((omega arith, (omega arith, (omega arith, tt))), ((omega arith, (omega arith, tt)), ((omega arith, tt), (tt, tt))))
rising_allowed T (Strip width) p = rising-if (is_pair_of 1 2 p) _ _ ((omega arith, tt), (tt, tt)) (later T p)
  where
    later : (T : TreeValue) (p : Pair) → AreRising (allowed_later T p)
    later T p = rising-if (are_late_twins T p) _ _ ((omega arith, tt), (tt, tt)) ((omega arith, (omega arith, (omega arith, tt))), ((omega arith, (omega arith, tt)), ((omega arith, tt), (tt, tt))))

-- How a comparison goes along two paths.

cmp_rest : (path : List Step) (k : ℕ) (s : Step) → slice_get path k ≡ Some s → drop k path ≡ s ∷ drop (k + 1) path
cmp_rest path k s at = drop_more path k s (slice_get_within path k s at) ∙ ap (λ (r : Step). r ∷ drop (k + 1) path) (get_or_from_slice_get path k s s at)

pub cmp_step : (ps qs : List Step) (k : ℕ) (s t : Step) (o : Ordering) → slice_get ps k ≡ Some s → slice_get qs k ≡ Some t → o ≡ nat_cmp (choice_number s.choice) (choice_number t.choice) → slice_cmp nat_cmp (choice_numbers (drop k ps)) (choice_numbers (drop k qs)) ≡ ordering_then o (slice_cmp nat_cmp (choice_numbers (drop (k + 1) ps)) (choice_numbers (drop (k + 1) qs)))
cmp_step ps qs k s t o at_p at_q is =
    (λ i. slice_cmp nat_cmp (choice_numbers (cmp_rest ps k s at_p i)) (choice_numbers (cmp_rest qs k t at_q i)))
    ∙ ap (λ (r : Ordering). ordering_then r (slice_cmp nat_cmp (choice_numbers (drop (k + 1) ps)) (choice_numbers (drop (k + 1) qs)))) (sym is)

cmp_front : (ps p q : List Step) → path_cmp (ps ++ p) (ps ++ q) ≡ path_cmp p q
cmp_front [] p q = refl
cmp_front (s ∷ ps) p q = cmp_under s (ps ++ p) (ps ++ q) ∙ cmp_front ps p q

-- past the steps that both have in common
pub cmp_common : (p q : List Step) (k : ℕ) → take k p ≡ take k q → path_cmp p q ≡ path_cmp (drop k p) (drop k q)
cmp_common p q k same =
    (λ i. path_cmp (sym (take-append-drop k p) i) (sym (take-append-drop k q) i))
    ∙ ap (λ (ps : List Step). path_cmp (take k p ++ drop k p) (ps ++ drop k q)) (sym same)
    ∙ cmp_front (take k p) (drop k p) (drop k q)

pub decided : (o r : Ordering) → (o ≡ Ordering.Equal → ⊥) → ordering_then o r ≡ o
decided Ordering.Less r not = refl
decided Ordering.Equal r not = absurd (not refl)
decided Ordering.Greater r not = refl

-- where one of them ends, their lengths decide
cmp_ends : (ps qs : List Step) (m n k : ℕ) → k + length ps ≡ m → k + length qs ≡ n → (length ps ≡ 0) ⊎ (length qs ≡ 0) → slice_cmp nat_cmp (choice_numbers ps) (choice_numbers qs) ≡ nat_cmp m n
cmp_ends [] [] m n k long_p long_q ends = let e : m ≡ n = omega arith in grind (arith, nat_tests)
cmp_ends [] (t ∷ qs) m n k long_p long_q ends = let e : m < n = omega arith in grind (arith, nat_tests)
cmp_ends (s ∷ ps) [] m n k long_p long_q ends = let e : n < m = omega arith in grind (arith, nat_tests)
cmp_ends (s ∷ ps) (t ∷ qs) m n k long_p long_q (inl e) = absurd (omega (arith, e))
cmp_ends (s ∷ ps) (t ∷ qs) m n k long_p long_q (inr e) = absurd (omega (arith, e))

pub cmp_end : (ps qs : List Step) (k : ℕ) → k ≤ min (length ps) (length qs) → min (length ps) (length qs) ≤ k → slice_cmp nat_cmp (choice_numbers (drop k ps)) (choice_numbers (drop k qs)) ≡ nat_cmp (length ps) (length qs)
cmp_end ps qs k most least =
    cmp_ends (drop k ps) (drop k qs) (length ps) (length qs) k (omega (arith, length-drop k ps)) (omega (arith, length-drop k qs)) ends
  where
    ends : (length (drop k ps) ≡ 0) ⊎ (length (drop k qs) ≡ 0)
    ends = elim (cases_lt (length ps) (length qs)) [
      | inl first ↦ inl (omega (arith, length-drop k ps, first, least))
      | inr second ↦ inr (omega (arith, length-drop k qs, second, least))
    ]

-- Entries in descending order are a stack in order.

abbrev stack_lt : Entry → Entry → Bool
stack_lt a b = is_lt (path_cmp b.path.now a.path.now)

pub stack_order : IsStrictWeakOrder stack_lt
stack_order = ranks_by (back_total nat_list_cmp_total) (λ (e : Entry). choice_numbers e.path.now)

abbrev Descends : List Entry → Type 0
Descends [] = Unit {0}
Descends (x ∷ xs) = AllByRecursion (λ (e : Entry). is_lt (path_cmp x.path.now e.path.now) ≡ false) xs × Descends xs

descends : (xs : List Entry) → ((i j : ℕ) (d : Entry) → i ≤ j → j < length xs → stack_lt (get_or xs j d) (get_or xs i d) ≡ false) → Descends xs
descends [] far = tt
descends (x ∷ xs) far = (
  recursion_from_All (λ (e : Entry). is_lt (path_cmp x.path.now e.path.now) ≡ false) xs (λ k d less. far 0 (suc k) d (omega arith) (omega (arith, less))),
  descends xs (λ i j d upto less. far (suc i) (suc j) d (omega (arith, upto)) (omega (arith, less))),
)

each-reverse : {X : Type 0} (P : X → Type 0) (xs : List X) → AllByRecursion P xs → AllByRecursion P (reverse xs)
each-reverse P [] all = tt
each-reverse P (x ∷ xs) all = subst (AllByRecursion P) (sym (reverse-append (x ∷ []) xs)) (each-append P (reverse xs) (x ∷ []) (each-reverse P xs all.1) (all.0, tt))

in_order_push : (ns : List Node) (x : Node) → AreInOrder ns → AllByRecursion (λ (n : Node). is_lt (path_cmp x.path n.path) ≡ false) ns → AreInOrder (ns ++ x ∷ [])
in_order_push [] x order later = (tt, tt)
in_order_push (n ∷ ns) x order later = (each-append (λ (m : Node). is_lt (path_cmp m.path n.path) ≡ false) ns (x ∷ []) order.0 (later.0, tt), in_order_push ns x order.1 later.1)

module _ (T : TreeValue) (G : Sheet) where
  pub stacked_push : (xs : List Entry) (e : Entry) → stacked T G (xs ++ e ∷ []) ≡ entry_node T G e ∷ stacked T G xs
  stacked_push xs e = ap (map (entry_node T G)) (reverse-append xs (e ∷ []))

  stacked_cons : (x : Entry) (xs : List Entry) → stacked T G (x ∷ xs) ≡ stacked T G xs ++ entry_node T G x ∷ []
  stacked_cons x xs = ap (map (entry_node T G)) (reverse-append (x ∷ []) xs) ∙ map-append (entry_node T G) (reverse xs) (x ∷ [])

  stack_in_order : (xs : List Entry) → Descends xs → AreInOrder (stacked T G xs)
  stack_in_order [] down = tt
  stack_in_order (x ∷ xs) down = subst AreInOrder (sym (stacked_cons x xs)) (in_order_push (stacked T G xs) (entry_node T G x) (stack_in_order xs down.1) (each-map (λ (n : Node). is_lt (path_cmp x.path.now n.path) ≡ false) (entry_node T G) (reverse xs) (each-reverse (λ (e : Entry). is_lt (path_cmp x.path.now e.path.now) ≡ false) xs down.0)))

  -- from the clause `sorted` of a sort by a closure that compares the second path with the first
  pub sorted_stack : {F : Type 0} {g : Mut F (Bor Entry × (Bor Entry × Unit {0})) Ordering} {f : F} (xs : List Entry) → ((lt : Entry → Entry → Bool) → IsStrictWeakOrder lt → ComparesAs g lt f → IsSortedBy lt xs) → ((a : Bor Entry × (Bor Entry × Unit {0})) (r : Ordering) (f' : F) → Called g f a r f' → (r ≡ path_cmp a.1.0.now.path.now a.0.now.path.now) × (f' ≡ f)) → AreInOrder (stacked T G xs)
  sorted_stack {g = g} {f = f} xs sorted h =
      let up = sorted stack_lt stack_order (always_returns_same g (λ a r. is_lt r ≡ stack_lt a.0.now a.1.0.now) f (λ a r f' k. (ap is_lt (h a r f' k).0, (h a r f' k).1))) in
      stack_in_order xs (descends xs (sorted_far stack_lt stack_order xs up))
