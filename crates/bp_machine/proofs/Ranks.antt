-- How many steps a run can still take at most: tickets left below the budget, and for each hand a rank of its place.
use Rattle.std.proofs.Common.{◌≡◌, ◌≢◌, inl, inr, ℕ, zero, suc, ◌+◌, ◌-◌, ◌*◌, ◌<◌, ◌≤◌, nat_lt, ltb, cond, List, [], ◌∷◌, ◌++◌, Option, None, Some, length, set, refl, sym, ap, ◌∙◌, subst, arith}
use Rattle.std.specs.List.{slice_get}
use Rattle.std.proofs.lemmas.Bool.{cond_both}
use Rattle.std.proofs.lemmas.Bool.Decides.{nat_tests}
use Rattle.std.proofs.lemmas.List.{length-append, length-map, length-set}
use Rattle.std.proofs.lemmas.Option.{get_or_from_slice_get, slice_get_within}
use Rattle.bp_base.specs.declared.path.Choice.{Choice}
use Rattle.bp_base.specs.declared.path.Choice.TheVariants.{Left, Right, Below, Above}
use Rattle.bp_base.specs.declared.path.Pair.{Pair}
use Rattle.bp_base.specs.declared.path.Step.{Step}
use Rattle.bp_base.specs.declared.point.Placement.{Placement}
use Rattle.bp_base.specs.declared.point.Sheet.{Sheet}
use Rattle.bp_base.specs.declared.point.Sheet.TheVariants.{Square, Strip}
use Rattle.bp_base.specs.declared.record.Left.TheVariants.{AtFloor, Idle}
use Rattle.bp_base.specs.declared.record.RecordKind.{RecordKind}
use Rattle.bp_base.specs.declared.record.RecordKind.TheVariants.{Split, Closed}
use Rattle.bp_base.specs.declared.record.Task.{Task}
use Rattle.bp_base.specs.Tree.{TreeValue}
use Rattle.bp_turn.specs.declared.examining.Turn.{Turn}
use Rattle.bp_turn.specs.Turns.{IsTurn, child, tasks_of}
use Rattle.bp_metric.specs.Choices.{allowed, allowed_later, are_late_twins, is_pair_of}
use Rattle.bp_machine.specs.declared.place.Place.{Place}
use Rattle.bp_machine.specs.declared.place.Place.TheVariants.{Ready, Taking, Trying, Holding, Drawn, Offering, Pushing, Leaving, Gone}
use Rattle.bp_machine.specs.State.{HandValue, IsHand, StateValue}
use Rattle.bp_machine.specs.Steps.{EndsTake, Pops, Pushes, TriesNext, examined, holds, idles, loaded, next_hand, offered, place_after, place_with}

-- a number for each hand, by its place in the list too
abbrev pub sums : (ℕ → HandValue → ℕ) → ℕ → List HandValue → ℕ
sums f i [] = 0
sums f i (h ∷ hands) = f i h + sums f (i + 1) hands

pub same_at : (f : ℕ → HandValue → ℕ) (i j : ℕ) (v w : HandValue) → i ≡ j → v ≡ w → f i v ≡ f j w
same_at f i j v w a b = λ k. f (a k) (b k)

pub sums_set : (f : ℕ → HandValue → ℕ) (i : ℕ) (hands : List HandValue) (k : ℕ) (v w : HandValue) → slice_get hands k ≡ Some v → sums f i (set hands k w) + f (i + k) v ≡ sums f i hands + f (i + k) w
sums_set f i [] k v w at = absurd (omega (arith, slice_get_within [] k v at))
sums_set f i (h ∷ hands) zero v w at =
    let same : v ≡ h = sym (get_or_from_slice_get (h ∷ hands) 0 v v at) in
    omega (arith, same_at f (i + 0) i v h (omega arith) same, same_at f (i + 0) i w w (omega arith) refl)
sums_set f i (h ∷ hands) (suc k) v w at =
    omega (
      arith,
      sums_set f (i + 1) hands k v w at,
      same_at f (i + suc k) (i + 1 + k) v v (omega arith) refl,
      same_at f (i + suc k) (i + 1 + k) w w (omega arith) refl,
    )

-- so many hands are still to be tried
abbrev pub tries : ℕ → ℕ → ℕ → ℕ
tries n i g = cond (nat_lt g i) (i - g) (n + i - g)

abbrev pub rank_at : ℕ → ℕ → HandValue → Place → ℕ
rank_at n i h Ready = 3 + (64 - h.empty_takes) * 20
rank_at n i h Taking = 2 + (64 - h.empty_takes) * 20
rank_at n i h (Trying g) = 3 + (63 - h.empty_takes) * 20 + tries n i g
rank_at n i h (Holding t) = 2
rank_at n i h (Drawn t ticket) = 1289
rank_at n i h (Offering p) = 1284
rank_at n i h Pushing = 1283 + length h.unplaced
rank_at n i h (Leaving left) = 1
rank_at n i h (Gone left) = 0

abbrev pub rank : ℕ → ℕ → HandValue → ℕ
rank n i h = rank_at n i h h.place

abbrev pub steps_left : StateValue → ℕ
steps_left S = (S.budget - S.tickets) * 1400 + sums (rank (length S.hands)) 1 S.hands

tries_some : (n i g : ℕ) → 1 ≤ i → i ≤ n → g ≤ n → g ≢ i → 1 ≤ tries n i g
tries_some n i g some within there other = grind (arith, nat_tests)

tries_fall : (n i g : ℕ) → 1 ≤ i → i ≤ n → 1 ≤ g → g ≤ n → g ≢ i → next_hand n g ≢ i → tries n i (next_hand n g) < tries n i g
tries_fall n i g some within one there other next = grind (arith, nat_tests)

tries_begin : (n i : ℕ) → 1 ≤ i → i ≤ n → n ≤ 16 → tries n i (next_hand n i) ≤ 16
tries_begin n i some within few = grind (arith, nat_tests)

idles_low : (n i : ℕ) (h : HandValue) → h.empty_takes < 64 → rank n i (idles h) ≤ 3 + (63 - h.empty_takes) * 20
idles_low n i h few =
    cond_both (ltb (h.empty_takes + 1) 64) Ready (Leaving Idle) (λ (q : Place). rank_at n i (record h { place = q; empty_takes = h.empty_takes + 1 }) q ≤ 3 + (63 - h.empty_takes) * 20) (λ more. omega arith) (λ last. omega arith)

ends_low : (n i : ℕ) (h to : HandValue) → h.empty_takes < 64 → EndsTake h to → rank n i to ≤ 3 + (63 - h.empty_takes) * 20
ends_low n i h to few (inl (none, is)) = subst (λ (x : HandValue). rank n i x ≤ 3 + (63 - h.empty_takes) * 20) (sym is) (idles_low n i h few)
ends_low n i h to few (inr (rest, t, kept, is)) = subst (λ (x : HandValue). rank n i x ≤ 3 + (63 - h.empty_takes) * 20) (sym is) (omega arith)

few_later : (T : TreeValue) (p : Pair) → length (allowed_later T p) ≤ 4
few_later T p =
    cond_both (are_late_twins T p) (Left ∷ Below ∷ []) (Left ∷ Right ∷ Below ∷ Above ∷ []) (λ (cs : List Choice). length cs ≤ 4) (λ twins. omega arith) (λ others. omega arith)

few_allowed : (T : TreeValue) (G : Sheet) (p : Pair) → length (allowed T G p) ≤ 4
unfolding allowed
few_allowed T Square p =
    cond_both (is_pair_of 1 2 p) (Left ∷ []) (cond (is_pair_of 1 3 p) (Left ∷ Right ∷ Below ∷ []) (allowed_later T p)) (λ (cs : List Choice). length cs ≤ 4) (λ first. omega arith) (λ others. cond_both (is_pair_of 1 3 p) (Left ∷ Right ∷ Below ∷ []) (allowed_later T p) (λ (cs : List Choice). length cs ≤ 4) (λ second. omega arith) (λ rest. few_later T p))
few_allowed T (Strip width) p =
    cond_both (is_pair_of 1 2 p) (Left ∷ Below ∷ []) (allowed_later T p) (λ (cs : List Choice). length cs ≤ 4) (λ first. omega arith) (λ others. few_later T p)

few_tasks : (T : TreeValue) (G : Sheet) (path : List Step) (bound : ℕ) (kind : RecordKind) → length (tasks_of T G path bound kind) ≤ 4
few_tasks T G path bound (Split p) = omega (arith, few_allowed T G p, length-map {A = Choice} (allowed T G p) (child path bound p))
few_tasks T G path bound (Closed claim) = omega arith

after_low : (n i : ℕ) (h : HandValue) (kind : RecordKind) (placement : Option Placement) → length h.unplaced ≤ 4 → rank_at n i h (place_after kind placement) < 1289
after_low n i h (Split p) placement few = omega (arith, few)
after_low n i h (Closed claim) None few = omega arith
after_low n i h (Closed claim) (Some placement) few = omega arith

module _ (n i : ℕ) (some : 1 ≤ i) (within : i ≤ n) (few_hands : n ≤ 16) (h to : HandValue) where
  abbrev Lower : ℕ → HandValue → Type 0
  Lower r x = rank n i x < r

  pub load_lower : (side floor : ℕ) → to ≡ loaded side floor h → Lower (rank_at n i h Ready) to
  load_lower side floor is =
      subst (Lower (rank_at n i h Ready)) (sym is) (cond_both (ltb floor side) Taking (Leaving AtFloor) (λ (q : Place). rank_at n i (record h { known = side; place = q }) q < rank_at n i h Ready) (λ above. omega arith) (λ below. omega arith))

  pub pop_lower : h.empty_takes < 64 → Pops n i h to → Lower (rank_at n i h Taking) to
  pop_lower few (inl (none, inl (last, ends))) = omega (arith, ends_low n i h to few ends)
  pop_lower few (inl (none, inr (other, is))) = subst (Lower (rank_at n i h Taking)) (sym is) (omega (arith, tries_begin n i some within few_hands))
  pop_lower few (inr (rest, t, deque, is)) = subst (Lower (rank_at n i h Taking)) (sym is) (omega arith)

  pub try_lower : (g : ℕ) → h.empty_takes < 64 → 1 ≤ g → g ≤ n → g ≢ i → TriesNext n i g h to → Lower (rank_at n i h (Trying g)) to
  try_lower g few one there other (inl (last, ends)) = omega (arith, ends_low n i h to few ends, tries_some n i g some within there other)
  try_lower g few one there other (inr (next, is)) = subst (Lower (rank_at n i h (Trying g))) (sym is) (omega (arith, tries_fall n i g some within one there other next))

  pub hold_lower : (g : ℕ) (t : Task) → to ≡ holds h t → Lower (rank_at n i h (Trying g)) to
  hold_lower g t is = subst (Lower (rank_at n i h (Trying g))) (sym is) (omega arith)

  pub examine_lower : (T : TreeValue) (G : Sheet) (t : Task) (known ticket : ℕ) (children : List Task) (turn : Turn) → IsTurn T G t known ticket children turn → to ≡ examined h turn children → Lower 1289 to
  examine_lower T G t known ticket children turn judged is =
      let few : length children ≤ 4 = omega (arith, ap length judged.children, few_tasks T G t.path turn.record.bound turn.record.kind) in
      subst (Lower 1289) (sym is) (after_low n i (examined h turn children) turn.record.kind turn.placement few)

  pub offer_lower : (p : Placement) → to ≡ offered h p → Lower 1284 to
  offer_lower p is = subst (Lower 1284) (sym is) (omega arith)

  pub push_lower : Pushes h to → Lower (rank_at n i h Pushing) to
  push_lower (rest, t, unplaced, is) = subst (Lower (rank_at n i h Pushing)) (sym is) (after rest (ap length unplaced ∙ length-append rest (t ∷ [])))
    where
      after : (left : List Task) → length h.unplaced ≡ length left + 1 → rank n i (record h { place = place_with left; unplaced = left; deque = h.deque ++ t ∷ [] }) < rank_at n i h Pushing
      after [] is = omega (arith, is)
      after (u ∷ us) is = omega (arith, is)

-- one hand moves, and words change: what is left falls where this does
pub falls : (S : StateValue) (i : ℕ) (h next : HandValue) (side tickets : ℕ) → IsHand S i h → (S.budget - tickets) * 1400 + rank (length S.hands) i next < (S.budget - S.tickets) * 1400 + rank (length S.hands) i h → steps_left (record S { hands = set S.hands (i - 1) next; side = side; tickets = tickets }) < steps_left S
falls S i h next side tickets at less =
    let f : ℕ → HandValue → ℕ = rank (length S.hands) in
    let same : length (set S.hands (i - 1) next) ≡ length S.hands = length-set S.hands (i - 1) next in
    let told : sums (rank (length (set S.hands (i - 1) next))) 1 (set S.hands (i - 1) next) ≡ sums f 1 (set S.hands (i - 1) next) = ap (λ (n : ℕ). sums (rank n) 1 (set S.hands (i - 1) next)) same in
    let number : 1 + (i - 1) ≡ i = omega (arith, at.0) in
    omega (arith, told, sums_set f 1 S.hands (i - 1) h next at.1, same_at f (1 + (i - 1)) i h h number refl, same_at f (1 + (i - 1)) i next next number refl, less)

-- the rank of a hand doesn't hang on its deque
rank_deque : (n i : ℕ) (h : HandValue) (deque : List Task) (p : Place) → rank_at n i (record h { deque = deque }) p ≡ rank_at n i h p
rank_deque n i h deque Ready = refl
rank_deque n i h deque Taking = refl
rank_deque n i h deque (Trying g) = refl
rank_deque n i h deque (Holding t) = refl
rank_deque n i h deque (Drawn t ticket) = refl
rank_deque n i h deque (Offering p) = refl
rank_deque n i h deque Pushing = refl
rank_deque n i h deque (Leaving l) = refl
rank_deque n i h deque (Gone l) = refl

pub same_left : (S : StateValue) (g : ℕ) (other : HandValue) (deque : List Task) → IsHand S g other → steps_left (record S { hands = set S.hands (g - 1) (record other { deque = deque }) }) ≡ steps_left S
same_left S g other deque at =
    let f : ℕ → HandValue → ℕ = rank (length S.hands) in
    let next : HandValue = record other { deque = deque } in
    let same : length (set S.hands (g - 1) next) ≡ length S.hands = length-set S.hands (g - 1) next in
    let told : sums (rank (length (set S.hands (g - 1) next))) 1 (set S.hands (g - 1) next) ≡ sums f 1 (set S.hands (g - 1) next) = ap (λ (n : ℕ). sums (rank n) 1 (set S.hands (g - 1) next)) same in
    omega (arith, told, sums_set f 1 S.hands (g - 1) other next at.1, rank_deque (length S.hands) (1 + (g - 1)) other deque other.place)
