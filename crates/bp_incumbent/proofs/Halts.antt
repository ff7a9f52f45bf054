-- Each step on the halt table keeps its rule, and that at the end halt was read only where a pass halted.
use Rattle.std.proofs.Common.{◌≡◌, ℕ, zero, suc, ◌+◌, ◌<◌, ◌≤◌, min, bit_or, Bool, true, false, ◌||◌, List, [], ◌∷◌, length, set, slice_set, slice_index, sym, refl, ap, ◌∙◌, subst, arith}
use Rattle.std.specs.List.{sum_by}
use Rattle.std.proofs.lemmas.List.Sums.{sum_by-cons, sum_by-append, sum_by_push}
use mathlib.Core.Option.{some}
use mathlib.Core.Logic.{dite}
use native.Mathlib.Decide.{dec_le}
use lib.ListN.{get_elem?}
use Rattle.atomic_table.specs.Table.{State, Me, Allows, Splits, Joins, keeps, Final, Seen}
use Rattle.bp_base.proofs.Bags.{total_set, total_at}
use Rattle.bp_incumbent.specs.Entries.{flag}
use Rattle.bp_incumbent.specs.declared.halt.HaltKey.{HaltKey}
use Rattle.bp_incumbent.specs.declared.halt.Halts.{Halts}
use Rattle.bp_incumbent.specs.declared.halt.HaltView.{HaltView}
use Rattle.bp_incumbent.specs.Halt.{halts_in, all_halts, reads_in, all_reads, KeepsHalt, HaltHolds, halts, halt_view, running, dealt_rest, dealt_one, both, none, as_set, reading, halting, with_read, with_halt, NamesOne, Loaded, Halted}
use Rattle.bp_incumbent.proofs.Entries.{cut, only, only_changed, unchanged, new_numbers, new_none, all_here, ones_up_to}

-- What a view adds to each sum.

abbrev numbers : (ℕ → ℕ) → HaltView → ℕ
numbers h v = sum_by (λ (p : Halts). h p.number) v.passes

abbrev halted_entry : Halts → ℕ
halted_entry p = flag p.halted

abbrev read_entry : Halts → ℕ
read_entry p = flag p.was_read

-- after a load of the word, more have read it as set only where it is set
read_bound : (word old new : ℕ) (b : Bool) → new + flag b ≡ old + flag (b || as_set word) → min 1 old ≤ word → min 1 new ≤ word
read_bound zero old new true e le = omega (arith, e, le)
read_bound zero old new false e le = omega (arith, e, le)
read_bound (suc word) old new b e le = omega arith

loads : (p word i : ℕ) (views : List HaltView) (v : HaltView) → NamesOne v → KeepsHalt p word views → get_elem? views i ≡ some v → KeepsHalt p word (set views i (with_read v word))
loads p word i views v named kept at =
    let w = with_read v word in record {
      numbers = λ h. omega (arith, total_set (numbers h) views i v w at, unchanged (λ (q : Halts). h q.number) (reading word) (λ q. refl) v.passes, kept.numbers h);
      is_set = let e : all_halts (set views i w) ≡ all_halts views = omega (arith, total_set halts_in views i v w at, unchanged halted_entry (reading word) (λ q. refl) v.passes) in kept.is_set ∙ sym (ap (min 1) e);
      was_read = read_bound word (all_reads views) (all_reads (set views i w)) named.0.was_read
          (omega (arith, total_set reads_in views i v w at, only read_entry v.passes named.0 named.1, only_changed read_entry (reading word) v.passes named.0 named.1)) kept.was_read;
    }

sets : (p word i : ℕ) (views : List HaltView) (v : HaltView) → NamesOne v → KeepsHalt p word views → get_elem? views i ≡ some v → KeepsHalt p 1 (set views i (with_halt v))
sets p word i views v named kept at =
    let w = with_halt v in record {
      numbers = λ h. omega (arith, total_set (numbers h) views i v w at, unchanged (λ (q : Halts). h q.number) halting (λ q. refl) v.passes, kept.numbers h);
      is_set = omega (arith, total_set halts_in views i v w at, total_at halts_in views i v at, only halted_entry v.passes named.0 named.1, only_changed halted_entry halting v.passes named.0 named.1);
      was_read = omega arith;
    }

-- The one word of a table whose rule holds.

abbrev the_word : {S : Type 0} → State S HaltView → ℕ
the_word s = slice_index s.words 0

kept_of : {S : Type 0} (key : HaltKey) (s : State S HaltView) → HaltHolds key s → KeepsHalt key.passes (the_word s) s.views
kept_of key s holds = subst (λ (k : ℕ). KeepsHalt key.passes k s.views) (sym (ap (λ (l : List ℕ). slice_index l 0) holds.1)) holds.2

word_set : {S : Type 0} (key : HaltKey) (s : State S HaltView) (n : ℕ) → HaltHolds key s → slice_set s.words 0 n ≡ n ∷ []
word_set key s n holds = ap (λ (l : List ℕ). slice_set l 0 n) holds.1

pub loads_allowed : {S : Type 0} (key : HaltKey) (slots id : ℕ) (me : Me S HaltView) → NamesOne me.0 → Allows (HaltHolds key) slots id me 0 (λ n. n) (λ found after. Loaded me found after)
loads_allowed key slots id me named s holds _ at _ =
    let n : ℕ = the_word s in
    let kept = kept_of key s holds in
    (with_read me.0 n, keeps, tt, (n, word_set key s n holds, loads key.passes n id s.views me.0 named kept at), (refl, λ own. omega (arith, own, kept.is_set, total_at halts_in s.views id me.0 at)))

set_once : (n a : ℕ) → n ≡ min 1 a → bit_or n 1 ≡ 1
set_once n a is = dite (dec_le 1 a) (λ some_halted. let e : n ≡ 1 = omega arith in ap (λ (k : ℕ). bit_or k 1) e) (λ no_one. let e : n ≡ 0 = omega arith in ap (λ (k : ℕ). bit_or k 1) e)

pub sets_allowed : {S : Type 0} (key : HaltKey) (slots id : ℕ) (me : Me S HaltView) → NamesOne me.0 → Allows (HaltHolds key) slots id me 0 (λ n. bit_or n 1) (λ found after. Halted me found after)
sets_allowed key slots id me named s holds _ at _ =
    let n : ℕ = the_word s in
    let kept = kept_of key s holds in
    let next = set_once n (all_halts s.views) kept.is_set in
    (with_halt me.0, keeps, tt, (bit_or n 1, word_set key s (bit_or n 1) holds, subst (λ (k : ℕ). KeepsHalt key.passes k (set s.views id (with_halt me.0))) (sym next) (sets key.passes n id s.views me.0 named kept at)), refl)

pub deals : {S : Type 0} (key : HaltKey) (id : ℕ) (v : HaltView) → Splits {S = S} (HaltHolds key) id v (dealt_rest v) (dealt_one v)
deals key id v s holds at =
    let l = dealt_rest v in let r = dealt_one v in let vs = set s.views id l in let kept = holds.2 in (
      holds.0,
      holds.1,
      record {
        numbers = λ h. omega (arith, total_set (numbers h) s.views id v l at, sum_by_push (numbers h) vs r, cut (λ (p : Halts). h p.number) v.passes, kept.numbers h);
        is_set = omega (arith, total_set halts_in s.views id v l at, sum_by_push halts_in vs r, cut halted_entry v.passes, kept.is_set);
        was_read = omega (arith, total_set reads_in s.views id v l at, sum_by_push reads_in vs r, cut read_entry v.passes, kept.was_read);
      },
    )

pub adds : {S : Type 0} (key : HaltKey) (id : ℕ) (v : HaltView) (other : ℕ) (w : HaltView) → Joins {S = S} (HaltHolds key) id v other w (both v w) none
adds key id v other w s holds at _ at_other =
    let b = both v w in let vs = set s.views id b in let kept = holds.2 in (
      holds.0,
      holds.1,
      record {
        numbers = λ h. omega (arith, total_set (numbers h) s.views id v b at, total_set (numbers h) vs other w none at_other, sum_by-append (λ (p : Halts). h p.number) v.passes w.passes, kept.numbers h);
        is_set = omega (arith, total_set halts_in s.views id v b at, total_set halts_in vs other w none at_other, sum_by-append halted_entry v.passes w.passes, kept.is_set);
        was_read = omega (arith, total_set reads_in s.views id v b at, total_set reads_in vs other w none at_other, sum_by-append read_entry v.passes w.passes, kept.was_read);
      },
    )

pub ends_read : {S : Type 0} (key : HaltKey) (id : ℕ) (v : HaltView) (ws : List ℕ) (xs : List S) → Final {S = S} (Seen (HaltHolds key) id v) ws xs → length v.passes ≡ key.passes → 0 < reads_in v → 0 < halts_in v
ends_read key id v ws xs end all more =
    let s = end.0 in let at = end.1.1 in let kept = end.1.0.2 in
    let here = all_here (λ (v : HaltView). v.passes) halted_entry s.views id v (kept.numbers (λ x. 1) ∙ ones_up_to key.passes ∙ sym all) at in
    omega (arith, more, kept.was_read, kept.is_set, total_at reads_in s.views id v at, here)

pub begins : (p : ℕ) → KeepsHalt p 0 (halt_view (running 1 p) ∷ [])
begins p = let v = halt_view (running 1 p) in let entry : ℕ → Halts = λ number. halts number false false in record {
  numbers = λ h. omega (arith, sum_by-cons (numbers h) v [], new_numbers (λ (q : Halts). h q.number) entry h 1 p (λ i. refl));
  is_set = omega (arith, sum_by-cons halts_in v [], new_none halted_entry entry 1 p (λ i. refl));
  was_read = omega (arith, sum_by-cons reads_in v [], new_none read_entry entry 1 p (λ i. refl));
}
