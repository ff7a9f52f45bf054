-- What a document that checks shows.
use Rattle.std.proofs.Common.{◌≡◌, ◌⊎◌, inl, inr, ℕ, ◌≤◌, [], Option, None, Some, refl, sym, subst, arith}
use Rattle.std.proofs.Math.Nat.{mul-le-mul_left}
use Rattle.std.proofs.lemmas.Bool.{cases_lt}
use Rattle.bp_base.specs.declared.point.Floor.{Floor}
use Rattle.bp_base.specs.declared.point.Sheet.{Sheet}
use Rattle.bp_base.specs.declared.refutation.Refutation.{Refutation}
use Rattle.bp_base.specs.Tree.{TreeValue}
use Rattle.bp_metric.specs.Floor.{FloorHolds}
use Rattle.bp_metric.specs.Nodes.{weighs}
use Rattle.bp_metric.specs.Refutation.{Fits}
use Rattle.bp_metric.specs.Valid.{NoneBelow}
use Rattle.bp_document.specs.declared.document.Document.{Document}
use Rattle.bp_check.specs.Checks.{Checks, IsAtMost, ProofFits, ProofShows}
use Rattle.bp_check.specs.Written.{IsWanted}

-- the laws of floors and of refutations, as they are given
module _ (T : TreeValue) (G : Sheet) (floors : (f : Floor) → FloorHolds T G f → NoneBelow T G f.side) (refutations : (R : Refutation) (w : ℕ) → Fits T G R [] → weighs T G R ≡ Some w → NoneBelow T G w) where
  below_less : (L M : ℕ) → L ≤ M → NoneBelow T G M → NoneBelow T G L
  below_less L M less none q s P finer under = none q s P finer (omega (arith, under, mul-le-mul_left {m = L} {n = M} q less))

  weighed_below : (r : Refutation) (bound : ℕ) (w : Option ℕ) → Fits T G r [] → weighs T G r ≡ w → IsAtMost bound w → NoneBelow T G bound
  weighed_below r bound None fits is less = absurd less
  weighed_below r bound (Some w) fits is less = below_less bound w less (refutations r w fits is)

  proof_below : (proof : Option Refutation) (bound : ℕ) → ProofFits T G proof → ProofShows T G bound proof → NoneBelow T G bound
  proof_below None bound fits shows = absurd shows
  proof_below (Some r) bound fits shows = weighed_below r bound (weighs T G r) fits refl shows

  shown_below : (floor : Floor) (proof : Option Refutation) (bound : ℕ) → FloorHolds T G floor → ProofFits T G proof → (bound ≤ floor.side) ⊎ ProofShows T G bound proof → NoneBelow T G bound
  shown_below floor proof bound holds fits (inl less) = below_less bound floor.side less (floors floor holds)
  shown_below floor proof bound holds fits (inr shows) = proof_below proof bound fits shows

  checked_below : (D : Document) → D.sheet ≡ G → Checks T D → NoneBelow T G D.bound
  checked_below D is checks =
      shown_below D.floor D.proof D.bound (subst (λ (H : Sheet). FloorHolds T H D.floor) is checks.floor) (subst (λ (H : Sheet). ProofFits T H D.proof) is checks.fits)
      (subst (λ (H : Sheet). (D.bound ≤ D.floor.side) ⊎ ProofShows T H D.bound D.proof) is checks.bound)

  pub none_below : (D : Document) → D.sheet ≡ G → Checks T D → NoneBelow T D.sheet D.bound
  none_below D is checks = subst (λ (H : Sheet). NoneBelow T H D.bound) (sym is) (checked_below D is checks)

  -- the valid placement refutes a greater bound
  pub bound_small : (D : Document) → D.sheet ≡ G → Checks T D → D.bound ≤ D.side
  bound_small D is checks = elim (cases_lt D.side D.bound) [
    | inl above ↦ absurd (none_below D is checks 1 D.side D.points (omega arith) (omega (arith, above)) checks.valid)
    | inr within ↦ within
  ]

  pub is_wanted : (D : Document) → D.sheet ≡ G → Checks T D → D.bound ≡ D.side → IsWanted T D.sheet D.side
  is_wanted D is checks same = record {
    points = D.points;
    valid = checks.valid;
    none_below = subst (NoneBelow T D.sheet) same (none_below D is checks);
  }
