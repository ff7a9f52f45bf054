-- The rule of the halt table, and what each step on it tells.
use Rattle.std.specs.Prelude.{◌≡◌, ℕ, ◌<◌, ◌≤◌, min, Bool, true, false, not, ◌||◌, ◌==◌, List, [], ◌∷◌, ◌++◌, drop, take}
use Rattle.std.specs.List.{sum_by, range_with_len}
use Rattle.atomic_table.specs.Table.{State, Me}
use Rattle.bp_incumbent.specs.Entries.{flag, at_first, numbered}
use Rattle.bp_incumbent.specs.declared.halt.HaltKey.{HaltKey}
use Rattle.bp_incumbent.specs.declared.halt.Halts.{Halts}
use Rattle.bp_incumbent.specs.declared.halt.HaltView.{HaltView}

-- Sums over all views: the numbers, weighed; the passes that halted; those that read halt as set.
abbrev pub all_numbers : (ℕ → ℕ) → List HaltView → ℕ
all_numbers h views = sum_by (λ (v : HaltView). sum_by (λ (p : Halts). h p.number) v.passes) views

abbrev pub halts_in : HaltView → ℕ
halts_in v = sum_by (λ (p : Halts). flag p.halted) v.passes

abbrev pub all_halts : List HaltView → ℕ
all_halts views = sum_by halts_in views

abbrev pub reads_in : HaltView → ℕ
reads_in v = sum_by (λ (p : Halts). flag p.was_read) v.passes

abbrev pub all_reads : List HaltView → ℕ
all_reads views = sum_by reads_in views

-- Each number stands in one view. The word is 1 exactly where a pass has halted, and else 0. A pass has read it as set only where it is.
pub record KeepsHalt (passes word : ℕ) (views : List HaltView) : Type 0 where
  pub numbers : (h : ℕ → ℕ) → all_numbers h views ≡ sum_by h (range_with_len 1 passes)
  pub is_set : word ≡ min 1 (all_halts views)
  pub was_read : min 1 (all_reads views) ≤ word

abbrev pub HaltHolds : {S : Type 0} → HaltKey → State S HaltView → Type 0
HaltHolds key s = (word : ℕ) × (s.words ≡ word ∷ []) × KeepsHalt key.passes word s.views

abbrev pub halts : ℕ → Bool → Bool → Halts
halts number halted was_read = record { number = number; halted = halted; was_read = was_read }

abbrev pub halt_view : List Halts → HaltView
halt_view passes = record { passes = passes }

-- the passes from number k on, n of them, which have neither halted nor read
abbrev pub running : ℕ → ℕ → List Halts
running k n = numbered (λ number. halts number false false) k n

-- The first seat has all numbers. Each split of `open` cuts one off.
abbrev pub dealt : HaltKey → HaltView
dealt key = halt_view (running 1 key.passes)

abbrev pub dealt_rest : HaltView → HaltView
dealt_rest v = halt_view (drop 1 v.passes)

abbrev pub dealt_one : HaltView → HaltView
dealt_one v = halt_view (take 1 v.passes)

abbrev pub both : HaltView → HaltView → HaltView
both v w = halt_view (v.passes ++ w.passes)

abbrev pub none : HaltView
none = halt_view []

-- the word as it was found, taken as set or not
abbrev pub as_set : ℕ → Bool
as_set found = not (found == 0)

abbrev pub reading : ℕ → Halts → Halts
reading found p = halts p.number p.halted (p.was_read || as_set found)

abbrev pub halting : Halts → Halts
halting p = halts p.number true p.was_read

abbrev pub with_read : HaltView → ℕ → HaltView
with_read v found = halt_view (at_first (reading found) v.passes)

abbrev pub with_halt : HaltView → HaltView
with_halt v = halt_view (at_first halting v.passes)

-- the view stands for one pass
abbrev pub NamesOne : HaltView → Type 0
NamesOne v = (p : Halts) × (v.passes ≡ p ∷ [])

abbrev pub Loaded : {S : Type 0} → Me S HaltView → ℕ → Me S HaltView → Type 0
Loaded me found after = (after ≡ (with_read me.0 found, me.1)) × (0 < halts_in me.0 → 0 < found)

abbrev pub Halted : {S : Type 0} → Me S HaltView → ℕ → Me S HaltView → Type 0
Halted me found after = after ≡ (with_halt me.0, me.1)
