-- The rule of the side table, and what each step on it tells.
use Rattle.std.specs.Prelude.{◌≡◌, ℕ, ◌+◌, ◌<◌, ◌≤◌, ◌⊎◌, List, [], ◌∷◌, ◌++◌, drop, take, All}
use Rattle.std.specs.List.{sum_by, flat_map, Contains, range_with_len}
use Rattle.atomic_table.specs.Table.{State, Me}
use Rattle.bp_incumbent.specs.Entries.{one_at, times, at_first, numbered}
use Rattle.bp_incumbent.specs.declared.side.SideKey.{SideKey}
use Rattle.bp_incumbent.specs.declared.side.Offers.{Offers}
use Rattle.bp_incumbent.specs.declared.side.SideView.{SideView}

abbrev pub offers_of : SideView → List ℕ
offers_of v = flat_map (λ (p : Offers). p.sides) v.passes

-- the sides that were seen or offered
abbrev pub sides_of : SideView → List ℕ
sides_of v = v.seen ++ offers_of v

-- Sums over all views: the numbers, weighed; how often a side was seen; how often it was offered.
abbrev pub all_numbers : (ℕ → ℕ) → List SideView → ℕ
all_numbers h views = sum_by (λ (v : SideView). sum_by (λ (p : Offers). h p.number) v.passes) views

abbrev pub all_seen : ℕ → List SideView → ℕ
all_seen y views = sum_by (λ (v : SideView). times y v.seen) views

abbrev pub all_offers : ℕ → List SideView → ℕ
all_offers y views = sum_by (λ (v : SideView). sum_by (λ (p : Offers). times y p.sides) v.passes) views

-- Each number stands in one view. The word is at most the opening side and every side seen or offered. The word, and each side seen, is the opening side or was offered.
pub record KeepsSide (opening passes word : ℕ) (views : List SideView) : Type 0 where
  pub numbers : (h : ℕ → ℕ) → all_numbers h views ≡ sum_by h (range_with_len 1 passes)
  pub lower : (y : ℕ) → y < word → all_seen y views + all_offers y views ≡ 0
  pub start : word ≤ opening
  pub word_from : 0 < one_at word opening + all_offers word views
  pub seen_from : (y : ℕ) → 0 < all_seen y views → 0 < one_at y opening + all_offers y views

abbrev pub SideHolds : {S : Type 0} → SideKey → State S SideView → Type 0
SideHolds key s = (word : ℕ) × (s.words ≡ word ∷ []) × KeepsSide key.opening key.passes word s.views

abbrev pub side_view : List Offers → List ℕ → SideView
side_view passes seen = record { passes = passes; seen = seen }

abbrev pub offers : ℕ → List ℕ → Offers
offers number sides = record { number = number; sides = sides }

-- the passes from number k on, n of them, with nothing offered
abbrev pub unoffered : ℕ → ℕ → List Offers
unoffered k n = numbered (λ number. offers number []) k n

-- The first seat has all numbers. Each split of `open` cuts one off.
abbrev pub dealt : SideKey → SideView
dealt key = side_view (unoffered 1 key.passes) (key.opening ∷ [])

abbrev pub dealt_rest : SideView → SideView
dealt_rest v = side_view (drop 1 v.passes) v.seen

abbrev pub dealt_one : SideView → SideView
dealt_one v = side_view (take 1 v.passes) v.seen

-- a note knows what its pass had seen and offered, and stands for no pass
abbrev pub noted : SideView → SideView
noted v = side_view [] (sides_of v)

abbrev pub both : SideView → SideView → SideView
both v w = side_view (v.passes ++ w.passes) (v.seen ++ w.seen)

abbrev pub none : SideView
none = side_view [] []

abbrev pub one_more : ℕ → Offers → Offers
one_more side p = offers p.number (p.sides ++ side ∷ [])

abbrev pub with_offer : SideView → ℕ → SideView
with_offer v side = side_view (at_first (one_more side) v.passes) v.seen

abbrev pub with_seen : SideView → ℕ → SideView
with_seen v side = side_view v.passes (v.seen ++ side ∷ [])

-- the view stands for one pass
abbrev pub NamesOne : SideView → Type 0
NamesOne v = (p : Offers) × (v.passes ≡ p ∷ [])

abbrev pub Loaded : {S : Type 0} → Me S SideView → ℕ → Me S SideView → Type 0
Loaded me found after = (after ≡ (with_seen me.0 found, me.1)) × All (λ y. found ≤ y) (sides_of me.0)

abbrev pub Lowered : {S : Type 0} → Me S SideView → ℕ → ℕ → Me S SideView → Type 0
Lowered me side found after = (after ≡ (with_seen (with_offer me.0 side) found, me.1)) × All (λ y. found ≤ y) (sides_of me.0)

-- the least of the opening side and the offers
pub record IsLeast (side opening : ℕ) (offers : List ℕ) : Type 0 where
  pub below_opening : side ≤ opening
  pub below_offers : All (λ y. side ≤ y) offers
  pub is_one : (side ≡ opening) ⊎ Contains offers side

-- the opening side, or one of the offers
abbrev pub IsKnown : ℕ → List ℕ → ℕ → Type 0
IsKnown opening offers side = (side ≡ opening) ⊎ Contains offers side
