-- A source that is read piece by piece, and what is answered for it.
use Rattle.std.proofs.Common.{◌≡◌, ◌⊎◌, inl, inr, ℕ, ◌≤◌, List, [], ◌∷◌, length, take, drop, Result, Ok, Err, sym, ap, subst, ◌∙◌, arith}
use Rattle.std.specs.declared.option.Option.{Option}
use Rattle.std.specs.declared.option.Option.TheVariants.{None, Some}
use Rattle.std.proofs.lemmas.List.{take_all, length-drop, nil_from_length}
use Rattle.bp_base.specs.Tree.{TreeValue}
use Rattle.bp_document.specs.declared.fault.DocFault.{DocFault}
use Rattle.bp_verify.specs.declared.fault.VerifyFault.{VerifyFault}
use Rattle.bp_verify.specs.declared.fault.VerifyFault.TheVariants.{Doc, Read, NoMemory}
use Rattle.bp_verify.specs.declared.fault.Verified.{Verified}
use Rattle.bp_verify.specs.declared.intake.Intake.{Intake}
use Rattle.bp_verify.specs.Intake.{AnswersText, Takes}
use Rattle.bp_base.specs.Reading.{HasRead, IsReadTo, TakesEach, joined}
use Rattle.bp_check.specs.Streams.{most_read}
use Rattle.bp_verify.specs.Streams.{IsRefused, Verifies, VerifiesText}
use Rattle.bp_verify.proofs.Intakes.{takes_then, takes_none_more}

-- an intake that took some pieces took their bytes
pub taken_each : (p q : Intake) (pieces : List (List ℕ)) → TakesEach (λ (p : Intake) (bytes : List ℕ) (q : Intake). Takes p q bytes) p pieces q → Takes p q (joined pieces)
taken_each p q [] same = subst (λ (r : Intake). Takes p r []) same (takes_none_more p)
taken_each p q (piece ∷ pieces) each = takes_then p each.0 q piece (joined pieces) each.1 (taken_each each.0 q pieces each.2)

-- What is answered, where the bytes are told.
module _ (T : TreeValue) (l bytes : List ℕ) (after : Option (List ℕ)) (read : HasRead (Some l) after bytes) where
  all_read : length l ≡ length bytes → (bytes ≡ l) × (after ≡ Some [])
  all_read same = (
    read.1 ∙ take_all (length bytes) l (omega (arith, same)),
    read.0 ∙ ap (λ (t : List ℕ). Some t) (nil_from_length (drop (length bytes) l) (omega (arith, length-drop (length bytes) l, same))),
  )

  whole_text : (v : Verified) → (length bytes ≡ most_read) ⊎ ((length bytes ≤ most_read) × (length l ≡ length bytes)) → VerifiesText T bytes v → (l ≡ bytes) × (after ≡ Some [])
  whole_text v (inl full) checks = absurd (omega (arith, full, checks.text.short))
  whole_text v (inr all) checks = let whole = all_read all.1 in (sym whole.0, whole.1)

  first_bytes : (length bytes ≡ most_read) ⊎ ((length bytes ≤ most_read) × (length l ≡ length bytes)) → (bytes ≡ take most_read l) × (after ≡ Some (drop most_read l))
  first_bytes (inl full) = (read.1 ∙ ap (λ (n : ℕ). take n l) full, read.0 ∙ ap (λ (n : ℕ). Some (drop n l)) full)
  first_bytes (inr all) =
      let whole = all_read all.1 in (
        whole.0 ∙ sym (take_all most_read l (omega (arith, all.0, all.1))),
        whole.1 ∙ ap (λ (t : List ℕ). Some t) (sym (nil_from_length (drop most_read l) (omega (arith, length-drop most_read l, all.0, all.1)))),
      )

  refused_text : (f : DocFault) → (length bytes ≡ most_read) ⊎ ((length bytes ≤ most_read) × (length l ≡ length bytes)) → IsRefused bytes f → IsRefused (take most_read l) f × (after ≡ Some (drop most_read l))
  refused_text f all refused = let front = first_bytes all in (subst (λ (b : List ℕ). IsRefused b f) front.0 refused, front.1)

pub verifies : (T : TreeValue) (left after : Option (List ℕ)) (bytes : List ℕ) (r : Result Verified VerifyFault) → IsReadTo most_read left after bytes → AnswersText T bytes r → Verifies T left after r
verifies T None after bytes (Ok v) read answers = (bytes, answers, tt)
verifies T (Some l) after bytes (Ok v) read answers = (bytes, answers, whole_text T l bytes after read.0 v read.1 answers)
verifies T None after bytes (Err (Doc f)) read answers = tt
verifies T (Some l) after bytes (Err (Doc f)) read answers = refused_text T l bytes after read.0 f read.1 answers
verifies T left after bytes (Err Read) read answers = tt
verifies T left after bytes (Err NoMemory) read answers = tt
