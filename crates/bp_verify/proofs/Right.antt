-- What a right certificate shows.
use Rattle.std.proofs.Common.{◌≡◌, ℕ, ◌≤◌, List, Option, None, Some, inl, inr, sym, subst, arith}
use Rattle.std.proofs.Math.Nat.{mul-le-mul_left}
use Rattle.std.proofs.lemmas.Bool.{cases_lt}
use Rattle.bp_base.specs.declared.path.Pair.{Pair}
use Rattle.bp_base.specs.declared.point.Floor.{Floor}
use Rattle.bp_base.specs.declared.point.Sheet.{Sheet}
use Rattle.bp_base.specs.Tree.{TreeValue}
use Rattle.bp_metric.specs.Floor.{FloorHolds}
use Rattle.bp_metric.specs.Valid.{NoneBelow}
use Rattle.bp_lemmas.specs.Standing.{Lemma}
use Rattle.bp_lemmas.specs.Proves.{Proves}
use Rattle.bp_certificate.specs.declared.certificate.Certificate.{Certificate}
use Rattle.bp_certificate.specs.declared.certificate.Lemmas.{Lemmas}
use Rattle.bp_verify.specs.Certifies.{Certifies, IsBoundProved, ProvesFrom, lemmas_of}

-- the laws of floors and of lemmas, as they are given
module _ (T : TreeValue) (G : Sheet) (floors : (f : Floor) → FloorHolds T G f → NoneBelow T G f.side) (lemmas : (bound a b : ℕ) (swaps : List (List Pair)) (ls : List Lemma) → Proves T G bound a b swaps ls → NoneBelow T G bound) where
  below_less : (L M : ℕ) → L ≤ M → NoneBelow T G M → NoneBelow T G L
  below_less L M less none q s P finer under = none q s P finer (omega (arith, under, mul-le-mul_left {m = L} {n = M} q less))

  proved_from : (bound : ℕ) (L : Lemmas) (corner : Option Pair) → ProvesFrom T G bound L corner → NoneBelow T G bound
  proved_from bound L None proves = absurd proves
  proved_from bound L (Some corner) proves = lemmas bound corner.i corner.j L.swaps (lemmas_of L) proves

  proved_below : (floor : Floor) (bound : ℕ) (ls : Option Lemmas) → FloorHolds T G floor → IsBoundProved T G bound floor.side ls → NoneBelow T G bound
  proved_below floor bound None holds less = below_less bound floor.side less (floors floor holds)
  proved_below floor bound (Some L) holds proves = proved_from bound L L.corner proves

  right_below : (C : Certificate) → C.sheet ≡ G → Certifies T C → NoneBelow T G C.bound
  right_below C is right =
      proved_below C.floor C.bound C.lemmas (subst (λ (H : Sheet). FloorHolds T H C.floor) is right.floor)
      (subst (λ (H : Sheet). IsBoundProved T H C.bound C.floor.side C.lemmas) is right.bound)

  pub none_below : (C : Certificate) → C.sheet ≡ G → Certifies T C → NoneBelow T C.sheet C.bound
  none_below C is right = subst (λ (H : Sheet). NoneBelow T H C.bound) (sym is) (right_below C is right)

  -- the valid placement refutes a greater bound
  pub bound_small : (C : Certificate) → C.sheet ≡ G → Certifies T C → C.bound ≤ C.side
  bound_small C is right = elim (cases_lt C.side C.bound) [
    | inl above ↦ absurd (none_below C is right 1 C.side C.points (omega arith) (omega (arith, above)) right.valid)
    | inr within ↦ within
  ]
