-- Worked rows: a star of four tips, each two of which are 2 apart, with two pairs, and with one pair and two tips on the line.
use Rattle.std.proofs.Common.{◌≡◌, ◌≢◌, ℕ, zero, suc, ◌+◌, ◌*◌, ◌<◌, ◌≤◌, true, false, List, [], ◌∷◌, map, All, AllPairs, refl, ap, arith, inr}
use Rattle.std.specs.List.{Contains}
use Rattle.std.proofs.lemmas.List.Elements.{All-nil, All-cons}
use Rattle.std.proofs.lemmas.List.Kept.{AllPairs-cons}
use Rattle.bp_base.specs.declared.path.Pair.{Pair}
use Rattle.bp_base.specs.declared.point.Axis.TheVariants.{X, Y}
use Rattle.bp_base.specs.declared.point.Point.{Point}
use Rattle.bp_base.specs.declared.point.Sheet.TheVariants.{Square}
use Rattle.bp_base.specs.Point.{point_at, gap}
use Rattle.bp_base.specs.Tree.{TreeValue, IsLeaf}
use Rattle.bp_metric.specs.Distance.{dist, share, is_below, leaf_dist}
use Rattle.bp_metric.specs.Samples.{sample}
use Rattle.bp_metric.specs.Valid.{Lies}
use Rattle.bp_metric.proofs.Sampled.{sample_tree}
use Rattle.bp_arrangement.specs.declared.fact.Fact.TheVariants.{NotBefore}
use Rattle.bp_arrangement.specs.declared.fact.Hint.{Hint}
use Rattle.bp_arrangement.specs.declared.fact.Hint.TheVariants.{Pair as Both}
use Rattle.bp_arrangement.specs.Swaps.{sent}
use Rattle.bp_lemmas.specs.Systems.{Order, apart, facing, facing_itself, never, Lasting, System, group}
use Rattle.bp_lemmas.specs.Knowledge.{Knowledge, raised, lowered, with_order, without_order, pushed, is_refuted, with_fact}
use Rattle.bp_lemmas.specs.Hints.{push_known, leant, knows_order, pair_pushed, open_orders, now, after, Closes}
use Rattle.bp_lemmas.specs.Standing.{Lemma, IsNamed, IsHint, EachStands, root_after}
use Rattle.bp_lemmas.specs.Trees.{number, leaf_of}
use Rattle.bp_mirror.specs.declared.kind.MirrorKind.TheVariants.{Book, Diagonal}
use Rattle.bp_mirror.specs.Mirror.{IsMirror, IsOnAxis}
use Rattle.bp_mirror.specs.Mirrored.{Mirrored, NoneBelowMirrored, TiesPair}
use Rattle.bp_mirror.specs.Readings.{plain, turned, half, reading}
use Rattle.bp_mirror.specs.Swaps.{sent_pair, IsMirrorSwap}
use Rattle.bp_mirror.specs.Systems.{variable_before, variables_face, mirror_order, mirror_lasting, mirror_system}
use Rattle.bp_mirror.specs.Proves.{ProvesMirrored}
use Rattle.bp_mirror.proofs.Bounding.{mirrored_law}

abbrev star : TreeValue
star = sample (0 ∷ 0 ∷ 0 ∷ 0 ∷ 0 ∷ []) (0 ∷ 1 ∷ 1 ∷ 1 ∷ 1 ∷ [])

abbrev pair : ℕ → ℕ → Pair
pair i j = record { i = i; j = j }

abbrev two_pairs : List Pair
two_pairs = pair 1 2 ∷ pair 3 4 ∷ []

abbrev one_pair : List Pair
one_pair = pair 1 2 ∷ []

-- x and y of leaf k are variables 2k and 2k + 1
book_readings : map (reading Book one_pair X) (1 ∷ 2 ∷ 3 ∷ []) ≡ plain 2 ∷ turned 2 ∷ half ∷ []
unfolding reading number
book_readings = refl

book_heights : map (reading Book one_pair Y) (1 ∷ 2 ∷ 3 ∷ []) ≡ plain 3 ∷ plain 3 ∷ plain 7 ∷ []
unfolding reading number
book_heights = refl

diagonal_readings : map (reading Diagonal one_pair X) (1 ∷ 2 ∷ 3 ∷ []) ≡ plain 2 ∷ plain 3 ∷ plain 6 ∷ []
unfolding reading number
diagonal_readings = refl

diagonal_heights : map (reading Diagonal one_pair Y) (1 ∷ 2 ∷ 3 ∷ []) ≡ plain 3 ∷ plain 2 ∷ plain 6 ∷ []
unfolding reading number
diagonal_heights = refl

-- Orders of book designs. Distances are 4 half units.
abbrev book_x : ℕ → ℕ → Order
book_x i j = mirror_order star Book two_pairs X i j

-- a left leaf before its own right one, one way alone
own_pair : book_x 1 2 ∷ book_x 2 1 ∷ [] ≡ facing_itself 2 4 ∷ never ∷ []
unfolding mirror_order reading variables_face number dist share is_below
own_pair = refl

-- left leaves, and their right ones the other way round
same_side : book_x 1 3 ∷ book_x 4 2 ∷ book_x 3 1 ∷ book_x 2 4 ∷ [] ≡ apart 2 6 4 ∷ apart 2 6 4 ∷ apart 6 2 4 ∷ apart 6 2 4 ∷ []
unfolding mirror_order reading variable_before number leaf_of dist share is_below
same_side = refl

-- a left leaf before another's right one
other_side : book_x 1 4 ∷ book_x 3 2 ∷ book_x 4 1 ∷ book_x 2 3 ∷ [] ≡ facing 2 6 4 ∷ facing 2 6 4 ∷ never ∷ never ∷ []
unfolding mirror_order reading variables_face number dist share is_below
other_side = refl

-- heights
abbrev book_y : ℕ → ℕ → Order
book_y i j = mirror_order star Book two_pairs Y i j

heights : book_y 1 2 ∷ book_y 2 1 ∷ book_y 1 3 ∷ book_y 2 4 ∷ book_y 1 4 ∷ [] ≡ never ∷ never ∷ apart 3 7 4 ∷ apart 3 7 4 ∷ apart 3 7 4 ∷ []
unfolding mirror_order reading variable_before number leaf_of dist share is_below
heights = refl

-- leaves on the line
abbrev book_line : ℕ → ℕ → Order
book_line i j = mirror_order star Book one_pair X i j

to_the_line : book_line 1 3 ∷ book_line 3 2 ∷ book_line 3 1 ∷ book_line 2 3 ∷ book_line 3 4 ∷ [] ≡ facing_itself 2 8 ∷ facing_itself 2 8 ∷ never ∷ never ∷ never ∷ []
unfolding mirror_order reading number dist share is_below
to_the_line = refl

-- Orders of diagonal designs. Distances are 2 grid units.
abbrev diagonal_x : ℕ → ℕ → Order
diagonal_x i j = mirror_order star Diagonal one_pair X i j

abbrev diagonal_y : ℕ → ℕ → Order
diagonal_y i j = mirror_order star Diagonal one_pair Y i j

own_diagonal : diagonal_x 1 2 ∷ diagonal_y 2 1 ∷ diagonal_x 2 1 ∷ diagonal_y 1 2 ∷ [] ≡ apart 2 3 2 ∷ apart 2 3 2 ∷ never ∷ never ∷ []
unfolding mirror_order reading variable_before number leaf_of dist share is_below
own_diagonal = refl

line_diagonal : diagonal_x 1 3 ∷ diagonal_y 2 3 ∷ diagonal_y 1 3 ∷ diagonal_x 2 3 ∷ diagonal_x 3 4 ∷ diagonal_y 3 4 ∷ [] ≡ apart 2 6 2 ∷ apart 2 6 2 ∷ apart 3 6 2 ∷ apart 3 6 2 ∷ apart 6 8 2 ∷ apart 6 8 2 ∷ []
unfolding mirror_order reading variable_before number leaf_of dist share is_below
line_diagonal = refl

-- Orders that hold for good. A head's first leaf isn't right of its second: of two right leaves the variables go the other way round.
abbrev lies_no_farther : ℕ → ℕ → Lasting
lies_no_farther u v = record { earlier = u; later = v }

left_head : mirror_lasting Book two_pairs (pair 1 3 ∷ []) 1 3 ≡ lies_no_farther 2 6 ∷ []
unfolding reading number
left_head = refl

right_head : mirror_lasting Book (pair 2 1 ∷ pair 4 3 ∷ []) (pair 1 3 ∷ []) 1 3 ≡ lies_no_farther 8 4 ∷ []
unfolding reading number
right_head = refl

line_head : mirror_lasting Book one_pair (pair 3 4 ∷ []) 3 4 ≡ []
unfolding reading number
line_head = refl

diagonal_pair : mirror_lasting Diagonal (pair 2 1 ∷ pair 4 3 ∷ []) (pair 1 3 ∷ []) 1 2 ≡ lies_no_farther 4 5 ∷ []
unfolding reading number
diagonal_pair = refl

diagonal_head : mirror_lasting Diagonal (pair 2 1 ∷ pair 4 3 ∷ []) (pair 1 3 ∷ []) 1 3 ≡ lies_no_farther 5 9 ∷ []
unfolding reading number
diagonal_head = refl

-- bounds speak of the x of left leaves alone in book designs
abbrev book : ℕ → System
book bound = mirror_system star Book one_pair bound []

bounded_x : map ((book 4).has_coordinate X) (0 ∷ 1 ∷ 2 ∷ 3 ∷ 5 ∷ []) ≡ false ∷ true ∷ false ∷ false ∷ false ∷ []
unfolding mirror_system reading
bounded_x = refl

bounded_y : map ((book 4).has_coordinate Y) (0 ∷ 1 ∷ 2 ∷ 3 ∷ 5 ∷ []) ≡ false ∷ true ∷ true ∷ true ∷ false ∷ []
unfolding mirror_system reading
bounded_y = refl

-- what holds of each leaf, and of each two in order
four : (C : ℕ → Type 0) → C 1 → C 2 → C 3 → C 4 → (i : ℕ) → 1 ≤ i → i ≤ 4 → C i
four C a b c d zero from to = absurd (omega (arith, from))
four C a b c d (suc zero) from to = a
four C a b c d (suc (suc zero)) from to = b
four C a b c d (suc (suc (suc zero))) from to = c
four C a b c d (suc (suc (suc (suc zero)))) from to = d
four C a b c d (suc (suc (suc (suc (suc i))))) from to = absurd (omega (arith, to))

abbrev Later : (ℕ → ℕ → Type 0) → ℕ → Type 0
Later C i = (j : ℕ) → 1 ≤ j → j ≤ 4 → i < j → C i j

six : (C : ℕ → ℕ → Type 0) → C 1 2 → C 1 3 → C 1 4 → C 2 3 → C 2 4 → C 3 4 → (i j : ℕ) → 1 ≤ i → i < j → j ≤ 4 → C i j
six C ab ac ad bc bd cd i j from less to =
    let of_one : Later C 1 = four (λ j. 1 < j → C 1 j) (λ less. absurd (omega (arith, less))) (λ less. ab) (λ less. ac) (λ less. ad) in
    let of_two : Later C 2 = four (λ j. 2 < j → C 2 j) (λ less. absurd (omega (arith, less))) (λ less. absurd (omega (arith, less))) (λ less. bc) (λ less. bd) in
    let of_three : Later C 3 = four (λ j. 3 < j → C 3 j) (λ less. absurd (omega (arith, less))) (λ less. absurd (omega (arith, less))) (λ less. absurd (omega (arith, less))) (λ less. cd) in
    let of_four : Later C 4 = λ j from to less. absurd (omega (arith, less, to)) in
    four (Later C) of_one of_two of_three of_four i from (omega (arith, less, to)) j (omega (arith, from, less)) to less

-- both lists of pairs keep all distances
abbrev Keeps : List Pair → ℕ → ℕ → Type 0
Keeps swap i j = leaf_dist star (sent swap i) (sent swap j) ≡ leaf_dist star i j

two_pairs_keep : (i : ℕ) → 1 ≤ i → i ≤ 4 → (j : ℕ) → 1 ≤ j → j ≤ 4 → Keeps two_pairs i j
unfolding sent dist share is_below
two_pairs_keep = four (λ i. (j : ℕ) → 1 ≤ j → j ≤ 4 → Keeps two_pairs i j)
    (four (Keeps two_pairs 1) refl refl refl refl)
    (four (Keeps two_pairs 2) refl refl refl refl)
    (four (Keeps two_pairs 3) refl refl refl refl)
    (four (Keeps two_pairs 4) refl refl refl refl)

abbrev Different : ℕ → ℕ → Type 0
Different i j = i ≢ j

four_leaves : (a b c d : ℕ) → IsLeaf star a → IsLeaf star b → IsLeaf star c → IsLeaf star d → All (IsLeaf star) (a ∷ b ∷ c ∷ d ∷ [])
four_leaves a b c d one two three four = All-cons (IsLeaf star) a (b ∷ c ∷ d ∷ []) one (All-cons (IsLeaf star) b (c ∷ d ∷ []) two (All-cons (IsLeaf star) c (d ∷ []) three (All-cons (IsLeaf star) d [] four (All-nil (IsLeaf star)))))

four_differ : (a b c d : ℕ) → a ≢ b → a ≢ c → a ≢ d → b ≢ c → b ≢ d → c ≢ d → AllPairs Different (a ∷ b ∷ c ∷ d ∷ [])
four_differ a b c d ab ac ad bc bd cd =
    let none : AllPairs Different (d ∷ []) = AllPairs-cons Different d [] (All-nil (Different d)) (λ i j e less within. absurd (omega (arith, within))) in
    let last : AllPairs Different (c ∷ d ∷ []) = AllPairs-cons Different c (d ∷ []) (All-cons (Different c) d [] cd (All-nil (Different c))) none in
    let later : AllPairs Different (b ∷ c ∷ d ∷ []) = AllPairs-cons Different b (c ∷ d ∷ []) (All-cons (Different b) c (d ∷ []) bc (All-cons (Different b) d [] bd (All-nil (Different b)))) last in
    AllPairs-cons Different a (b ∷ c ∷ d ∷ []) (All-cons (Different a) b (c ∷ d ∷ []) ab (All-cons (Different a) c (d ∷ []) ac (All-cons (Different a) d [] ad (All-nil (Different a))))) later

apart_by : (a k : ℕ) → (a ≢ suc (a + k)) × (suc (a + k) ≢ a)
apart_by a k = ((λ same. omega (arith, same)), (λ same. omega (arith, same)))

two_pairs_mirror : IsMirror star two_pairs
two_pairs_mirror = record {
  few = omega arith;
  leaves = four_leaves 1 2 3 4 (omega arith, omega arith) (omega arith, omega arith) (omega arith, omega arith) (omega arith, omega arith);
  differ = four_differ 1 2 3 4 (apart_by 1 0).0 (apart_by 1 1).0 (apart_by 1 2).0 (apart_by 2 0).0 (apart_by 2 1).0 (apart_by 3 0).0;
  keeps = λ i j first second. two_pairs_keep i first.0 first.1 j second.0 second.1;
}

-- no leaf is in neither pair
none_on_axis : (k : ℕ) → 1 ≤ k → k ≤ 4 → IsOnAxis two_pairs k → ⊥
none_on_axis = four (λ k. IsOnAxis two_pairs k → ⊥) (λ on. on 0 0 (omega arith) refl) (λ on. on 1 0 (omega arith) refl) (λ on. on 2 0 (omega arith) refl) (λ on. on 3 0 (omega arith) refl)

-- the pairs change places
abbrev pairs_exchanged : List Pair
pairs_exchanged = pair 1 3 ∷ pair 2 4 ∷ []

pairs_exchanged_keep : (i : ℕ) → 1 ≤ i → i ≤ 4 → (j : ℕ) → 1 ≤ j → j ≤ 4 → Keeps pairs_exchanged i j
unfolding sent dist share is_below
pairs_exchanged_keep = four (λ i. (j : ℕ) → 1 ≤ j → j ≤ 4 → Keeps pairs_exchanged i j)
    (four (Keeps pairs_exchanged 1) refl refl refl refl)
    (four (Keeps pairs_exchanged 2) refl refl refl refl)
    (four (Keeps pairs_exchanged 3) refl refl refl refl)
    (four (Keeps pairs_exchanged 4) refl refl refl refl)

mirror_swap : IsMirrorSwap star two_pairs pairs_exchanged
unfolding sent
mirror_swap = record {
  swaps = record {
    some = omega arith;
    few = omega arith;
    leaves = four_leaves 1 3 2 4 (omega arith, omega arith) (omega arith, omega arith) (omega arith, omega arith) (omega arith, omega arith);
    differ = four_differ 1 3 2 4 (apart_by 1 1).0 (apart_by 1 0).0 (apart_by 1 2).0 (apart_by 2 0).1 (apart_by 3 0).0 (apart_by 2 1).0;
    keeps = λ i j first second. pairs_exchanged_keep i first.0 first.1 j second.0 second.1;
  };
  pairs = All-cons (λ p. Contains two_pairs (sent_pair pairs_exchanged p)) (pair 1 2) (pair 3 4 ∷ []) (1, omega arith, refl)
      (All-cons (λ p. Contains two_pairs (sent_pair pairs_exchanged p)) (pair 3 4) [] (0, omega arith, refl) (All-nil (λ p. Contains two_pairs (sent_pair pairs_exchanged p))));
  axis = λ k leaf on. absurd (none_on_axis k leaf.0 leaf.1 on);
}

-- one that takes a left leaf to its own right one keeps no mirror of two pairs
turned_pair : IsMirrorSwap star two_pairs (pair 1 2 ∷ []) → ⊥
unfolding sent
turned_pair is = not_there (is.pairs 0 (pair 0 0) (omega arith))
  where
    not_there : Contains two_pairs (pair 2 1) → ⊥
    not_there (zero, within, same) = absurd (omega (arith, ap (λ (p : Pair). p.i) same))
    not_there (suc zero, within, same) = absurd (omega (arith, ap (λ (p : Pair). p.i) same))
    not_there (suc (suc k), within, same) = omega (arith, within)

-- Book: the corners of a square of side 4, in half units.
abbrev corners : List Point
corners = record { x = 0; y = 0 } ∷ record { x = 4; y = 0 } ∷ record { x = 0; y = 4 } ∷ record { x = 4; y = 4 } ∷ []

abbrev IsFar : ℕ → List Point → ℕ → ℕ → Type 0
IsFar q P i j = q * leaf_dist star i j ≤ gap (point_at P i) (point_at P j)

corners_far : (i j : ℕ) → 1 ≤ i → i < j → j ≤ 4 → IsFar 2 corners i j
unfolding dist share is_below
corners_far = six (IsFar 2 corners) (omega arith) (omega arith) (omega arith) (omega arith) (omega arith) (omega arith)

corners_mirrored : Mirrored star Book two_pairs 2 4 corners
corners_mirrored = record {
  valid = record {
    each = refl;
    inside = λ i leaf. four (λ i. Lies Square 2 4 (point_at corners i)) (omega arith, omega arith) (omega arith, omega arith) (omega arith, omega arith) (omega arith, omega arith) i leaf.0 leaf.1;
    far = λ i j is. corners_far i j is.0 is.1 is.2;
  };
  pairs = All-cons (TiesPair Book 4 corners) (pair 1 2) (pair 3 4 ∷ []) (refl, refl, omega arith) (All-cons (TiesPair Book 4 corners) (pair 3 4) [] (refl, refl, omega arith) (All-nil (TiesPair Book 4 corners)));
  axis = λ k leaf on. absurd (none_on_axis k leaf.0 leaf.1 on);
}

abbrev first_pair : Hint
first_pair = Both (record { i = 1; j = 2 })

-- a leaf and its right one face one another by 4, so below 4 there is no room
abbrev book_lemma : Lemma
book_lemma = record { facts = []; hints = first_pair ∷ [] }

book_hint : All (IsHint (mirror_system star Book two_pairs 4 []) 0) (first_pair ∷ [])
unfolding mirror_system
book_hint zero d within = refl
book_hint (suc k) d within = absurd (omega (arith, within))

book_closes : Closes (mirror_system star Book two_pairs 4 []) [] (first_pair ∷ []) (root_after (mirror_system star Book two_pairs 4 []) [])
unfolding mirror_system mirror_order reading variable_before variables_face after pair_pushed push_known knows_order pushed leant raised lowered with_order is_refuted number leaf_of dist share is_below
book_closes = inr tt

book_proved : ProvesMirrored star Book two_pairs 4 [] (book_lemma ∷ [])
book_proved = record {
  is_mirror = two_pairs_mirror;
  admissible = λ k d within. absurd (omega (arith, within));
  stand = (record { facts = λ k d within. absurd (omega (arith, within)); hints = book_hint; closed = book_closes }, tt);
  ends = refl;
}

-- so the corners are a least design: 4 half units
book_least : NoneBelowMirrored star Book two_pairs 4
book_least = mirrored_law star (sample_tree (0 ∷ 0 ∷ 0 ∷ 0 ∷ 0 ∷ []) (0 ∷ 1 ∷ 1 ∷ 1 ∷ 1 ∷ []) refl) Book two_pairs 4 [] (book_lemma ∷ []) book_proved

-- Diagonal: a side of 4 grid units.
abbrev beside : List Point
beside = record { x = 0; y = 2 } ∷ record { x = 2; y = 0 } ∷ record { x = 2; y = 4 } ∷ record { x = 4; y = 2 } ∷ []

beside_far : (i j : ℕ) → 1 ≤ i → i < j → j ≤ 4 → IsFar 1 beside i j
unfolding dist share is_below
beside_far = six (IsFar 1 beside) (omega arith) (omega arith) (omega arith) (omega arith) (omega arith) (omega arith)

beside_mirrored : Mirrored star Diagonal two_pairs 1 4 beside
beside_mirrored = record {
  valid = record {
    each = refl;
    inside = λ i leaf. four (λ i. Lies Square 1 4 (point_at beside i)) (omega arith, omega arith) (omega arith, omega arith) (omega arith, omega arith) (omega arith, omega arith) i leaf.0 leaf.1;
    far = λ i j is. beside_far i j is.0 is.1 is.2;
  };
  pairs = All-cons (TiesPair Diagonal 4 beside) (pair 1 2) (pair 3 4 ∷ []) (refl, refl, omega arith) (All-cons (TiesPair Diagonal 4 beside) (pair 3 4) [] (refl, refl, omega arith) (All-nil (TiesPair Diagonal 4 beside)));
  axis = λ k leaf on. absurd (none_on_axis k leaf.0 leaf.1 on);
}

abbrev diagonal : System
diagonal = mirror_system star Diagonal two_pairs 4 []

abbrev known_first : System → Knowledge
known_first S = root_after S []

-- The two leaves of a pair have one order, by two names: a pair's hint counts it once, and takes it.
taken_of_pair : after diagonal [] (known_first diagonal) first_pair ≡ now (pushed diagonal (with_order (leant (known_first diagonal) (lies_no_farther 2 3)) (apart 2 3 2)) (apart 2 3 2))
unfolding mirror_system mirror_order reading variable_before after pair_pushed push_known knows_order pushed leant raised lowered with_order is_refuted number leaf_of dist share is_below
taken_of_pair = refl

-- Leaves on the line have two orders, each by two names. Where one is known not to hold the hint takes the other.
abbrev lined : System
lined = mirror_system star Diagonal one_pair 4 []

abbrev not_before : Knowledge
not_before = with_fact lined (known_first lined) (NotBefore X 3 4)

open_on_line : open_orders lined (known_first lined) (group lined 3 4) ∷ open_orders lined not_before (group lined 3 4) ∷ [] ≡ (apart 6 8 2 ∷ apart 8 6 2 ∷ []) ∷ (apart 8 6 2 ∷ []) ∷ []
unfolding mirror_system mirror_order reading variable_before with_fact without_order is_refuted number leaf_of dist share is_below
open_on_line = refl

idle_on_line : after lined [] (known_first lined) (Both (record { i = 3; j = 4 })) ≡ now (known_first lined)
unfolding mirror_system mirror_order reading variable_before after pair_pushed push_known knows_order is_refuted number leaf_of dist share is_below
idle_on_line = refl

taken_on_line : after lined [] not_before (Both (record { i = 3; j = 4 })) ≡ now (pushed lined (with_order not_before (apart 8 6 2)) (apart 8 6 2))
unfolding mirror_system mirror_order reading variable_before after pair_pushed push_known knows_order with_fact without_order is_refuted number leaf_of dist share is_below
taken_on_line = refl

-- each pair's order leaves its leaves' x half of the side, and so no room between the pairs
abbrev diagonal_lemma : Lemma
diagonal_lemma = record { facts = []; hints = first_pair ∷ Both (record { i = 3; j = 4 }) ∷ Both (record { i = 1; j = 3 }) ∷ [] }

diagonal_stand : EachStands diagonal [] (diagonal_lemma ∷ [])
unfolding mirror_system mirror_order reading variable_before after pair_pushed push_known knows_order pushed leant raised lowered with_order is_refuted number leaf_of dist share is_below
diagonal_stand = (
  record {
    facts = All-nil (IsNamed diagonal);
    hints = All-cons (IsHint diagonal 0) first_pair (Both (record { i = 3; j = 4 }) ∷ Both (record { i = 1; j = 3 }) ∷ []) refl
        (All-cons (IsHint diagonal 0) (Both (record { i = 3; j = 4 })) (Both (record { i = 1; j = 3 }) ∷ []) refl
        (All-cons (IsHint diagonal 0) (Both (record { i = 1; j = 3 })) [] refl (All-nil (IsHint diagonal 0))));
    closed = inr (inr (inr tt));
  },
  tt,
)

diagonal_least : NoneBelowMirrored star Diagonal two_pairs 4
diagonal_least = mirrored_law star (sample_tree (0 ∷ 0 ∷ 0 ∷ 0 ∷ 0 ∷ []) (0 ∷ 1 ∷ 1 ∷ 1 ∷ 1 ∷ []) refl) Diagonal two_pairs 4 [] (diagonal_lemma ∷ []) (record {
  is_mirror = two_pairs_mirror;
  admissible = λ k d within. absurd (omega (arith, within));
  stand = diagonal_stand;
  ends = refl;
})
