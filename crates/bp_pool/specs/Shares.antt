-- The rule of a deque of tasks.
use Rattle.std.specs.Prelude.{◌≡◌, ◌≢◌, ℕ, zero, suc, ◌+◌, ◌<◌, ◌≤◌, List, [], ◌∷◌, ◌++◌, length, drop, take, All, slice_get, Some}
use Rattle.std.specs.List.{sum_by, flat_map}
use mathlib.Core.Option.{some}
use lib.ListN.{get_elem?}
use Rattle.bp_base.specs.Bags.{AreSame}
use Rattle.bp_base.specs.Path.{IsPairOf}
use Rattle.bp_base.specs.declared.record.Task.{Task}
use Rattle.bp_base.specs.declared.path.Step.{Step}
use Rattle.bp_pool.specs.declared.deque.Facts.{Facts}
use Rattle.bp_pool.specs.declared.deque.Deeds.{Deeds}
use Rattle.bp_pool.specs.declared.deque.Rights.{Rights}

abbrev pub share : List Task → List Task → Deeds
share pushed taken = record { pushed = pushed; taken = taken }

abbrev pub rights : Facts → List Deeds → Rights
rights facts deeds = record { facts = facts; deeds = deeds }

abbrev pub facts_of : ℕ → ℕ → Task → List Task → Facts
facts_of leaves total root given = record { leaves = leaves; total = total; root = root; given = given }

-- what a deque knows before it is told: it has one right
abbrev pub untold : Facts
untold = facts_of 0 1 (record { path = []; bound = 0 }) []

abbrev pub none : Rights
none = rights untold []

-- no two steps of the path are of the same pair
abbrev pub HasDifferentPairs : List Step → Type 0
HasDifferentPairs path = (i j : ℕ) (s t : Step) → i < j → slice_get path i ≡ Some s → slice_get path j ≡ Some t → s.pair ≢ t.pair

-- the path's pairs are different pairs of that many leaves
pub record IsTaskOf (leaves : ℕ) (t : Task) : Type 0 where
  pub pairs : All (λ (s : Step). IsPairOf leaves s.pair) t.path
  pub different : HasDifferentPairs t.path

abbrev pub untouched : ℕ → List Deeds
untouched zero = []
untouched (suc n) = share [] [] ∷ untouched n

-- so many rights, with nothing done
abbrev pub fresh : Facts → Rights
fresh facts = rights facts (untouched facts.total)

abbrev pub pushed_of : Rights → List Task
pushed_of v = flat_map (λ (d : Deeds). d.pushed) v.deeds

abbrev pub taken_of : Rights → List Task
taken_of v = flat_map (λ (d : Deeds). d.taken) v.deeds

abbrev pub count_of : Rights → ℕ
count_of v = length v.deeds

abbrev pub all_rights : List Rights → ℕ
all_rights views = sum_by (λ (v : Rights). length v.deeds) views

abbrev pub all_pushed : (Task → ℕ) → List Rights → ℕ
all_pushed h views = sum_by (λ (v : Rights). sum_by h (pushed_of v)) views

abbrev pub all_taken : (Task → ℕ) → List Rights → ℕ
all_taken h views = sum_by (λ (v : Rights). sum_by h (taken_of v)) views

-- The rights are as many as was told. What the deque was given and what was pushed is what was taken and what the deque holds
pub record KeepsTasks (items : List Task) (views : List Rights) : Type 0 where
  pub facts : Facts
  pub total : all_rights views ≡ facts.total
  pub known : (i : ℕ) (v : Rights) → get_elem? views i ≡ some v → 0 < length v.deeds → v.facts ≡ facts
  pub good : All (IsTaskOf facts.leaves) items
  pub same : (h : Task → ℕ) → sum_by h facts.given + all_pushed h views ≡ all_taken h views + sum_by h items

abbrev pub pushed_by_first : List Deeds → List Task → List Deeds
pushed_by_first [] xs = []
pushed_by_first (d ∷ ds) xs = share (d.pushed ++ xs) d.taken ∷ ds

abbrev pub taken_by_first : List Deeds → List Task → List Deeds
taken_by_first [] xs = []
taken_by_first (d ∷ ds) xs = share d.pushed (d.taken ++ xs) ∷ ds

abbrev pub with_pushed : Rights → List Task → Rights
with_pushed v xs = rights v.facts (pushed_by_first v.deeds xs)

abbrev pub with_taken : Rights → List Task → Rights
with_taken v xs = rights v.facts (taken_by_first v.deeds xs)

abbrev pub with_given : Rights → List Task → Rights
with_given v xs = rights (facts_of v.facts.leaves v.facts.total v.facts.root xs) v.deeds

-- the pass has a right, the first, to push and take under
abbrev pub Works : Rights → Type 0
Works v = 0 < length v.deeds

-- the pass has a right beside its first
abbrev pub Deals : Rights → Type 0
Deals v = 1 < length v.deeds

abbrev pub rest_of : List Deeds → List Deeds
rest_of [] = []
rest_of (d ∷ ds) = d ∷ drop 1 ds

abbrev pub dealt_rest : Rights → Rights
dealt_rest v = rights v.facts (rest_of v.deeds)

abbrev pub dealt_one : Rights → Rights
dealt_one v = rights v.facts (take 1 (drop 1 v.deeds))

-- a pass without a right
abbrev pub dealt_none : Rights → Rights
dealt_none v = rights v.facts []

abbrev pub both : Rights → Rights → Rights
both v w = rights v.facts (v.deeds ++ w.deeds)

-- all rights are here, and there is one at least
abbrev pub HasAll : Rights → Type 0
HasAll v = (0 < length v.deeds) × (length v.deeds ≡ v.facts.total)

-- with all rights here, all that was given and pushed was taken
abbrev pub IsDone : Rights → Type 0
IsDone v = HasAll v → AreSame (v.facts.given ++ pushed_of v) (taken_of v)

-- what was taken is of the pass's number of leaves
abbrev pub Takes : Rights → List Task → Rights → Type 0
Takes v xs w = (w ≡ with_taken v xs) × All (IsTaskOf v.facts.leaves) xs

-- one more was taken, and with all rights here no more than was given and pushed
abbrev pub Drains : Rights → List Task → Rights → Type 0
Drains v xs w = (w ≡ with_taken v xs) × All (IsTaskOf v.facts.leaves) xs × (HasAll v → length (taken_of w) ≤ length v.facts.given + length (pushed_of w))
