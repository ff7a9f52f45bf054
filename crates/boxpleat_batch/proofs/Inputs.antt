-- Bytes that were read of an input.
use Rattle.std.proofs.Common.{inl, inr, ◌≡◌, ◌≤◌, ◌<◌, ◌+◌, ℕ, List, length, drop, ap, sym, ◌∙◌, arith}
use Rattle.std.specs.declared.option.Option.{Option}
use Rattle.std.specs.declared.option.Option.TheVariants.{None, Some}
use Rattle.std.proofs.lemmas.List.{drop_all, length-take, take_all}
use Rattle.bp_base.specs.Reading.{IsReadTo}
use Rattle.boxpleat_batch.specs.declared.status.BatchFault.TheVariants.{TooLong}
use Rattle.boxpleat_batch.specs.declared.status.BatchStatus.TheVariants.{Refused}
use Rattle.boxpleat_batch.specs.Inputs.{IsInput, IsNoInput}
use Rattle.boxpleat_batch.specs.Pieces.{most_batch_bytes}

pub all_read : (left after : Option (List ℕ)) (bytes : List ℕ) → IsReadTo (most_batch_bytes + 1) left after bytes → length bytes ≤ most_batch_bytes → IsInput left after bytes
all_read None after bytes read short = record { read = tt; short = short }
all_read (Some l) after bytes read short =
    let same : bytes ≡ l = elim read.1 [
      | inl full ↦ absurd (omega (arith, full, short))
      | inr all ↦ read.0.1 ∙ take_all (length bytes) l (omega (arith, all.1))
    ] in
    let past : length l ≤ length bytes = omega (arith, ap length same) in
    record {
      read = (sym same, read.0.0 ∙ ap (λ (t : List ℕ). Some t) (drop_all (length bytes) l past));
      short = short;
    }

pub read_past : (left after : Option (List ℕ)) (bytes : List ℕ) → IsReadTo (most_batch_bytes + 1) left after bytes → most_batch_bytes < length bytes → IsNoInput left after (Refused TooLong)
read_past None after bytes read long = tt
read_past (Some l) after bytes read long =
    let full : length bytes ≡ most_batch_bytes + 1 = elim read.1 [
      | inl is ↦ is
      | inr all ↦ omega (arith, all.0, long)
    ] in
    let more : most_batch_bytes < length l = omega (arith, long, ap length read.0.1, length-take (length bytes) l) in
    (more, read.0.0 ∙ ap (λ (n : ℕ). Some (drop n l)) full)
