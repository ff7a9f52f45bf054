-- What makes a certificate a right design of a tree, as far as it says.
use Rattle.std.specs.Prelude.{◌≡◌, ℕ, ◌≤◌, List, map, Option, None, Some}
use Rattle.bp_base.specs.declared.path.Pair.{Pair}
use Rattle.bp_base.specs.declared.point.Sheet.{Sheet}
use Rattle.bp_base.specs.Tree.{TreeValue}
use Rattle.bp_metric.specs.Floor.{FloorHolds}
use Rattle.bp_metric.specs.Valid.{Valid}
use Rattle.bp_arrangement.specs.Swaps.{head}
use Rattle.bp_lemmas.specs.Systems.{System}
use Rattle.bp_lemmas.specs.Standing.{Lemma}
use Rattle.bp_lemmas.specs.Trees.{tree_system}
use Rattle.bp_lemmas.specs.Proves.{Proves}
use Rattle.bp_certificate.specs.declared.certificate.Certificate.{Certificate}
use Rattle.bp_certificate.specs.declared.certificate.Lemmas.{Lemmas}
use Rattle.bp_certificate.specs.declared.certificate.Lemma.{Lemma as LemmaLine}

abbrev pub lemma_of : LemmaLine → Lemma
lemma_of l = record { facts = l.facts; hints = l.hints }

-- the lemmas of a certificate, as the law of lemmas speaks of them
abbrev pub lemmas_of : Lemmas → List Lemma
lemmas_of L = map lemma_of L.lemmas

-- the system of a certificate with this corner
abbrev pub system_of : TreeValue → Sheet → ℕ → Pair → Lemmas → System
system_of T G bound corner L = tree_system T G bound corner.i corner.j (map head L.swaps)

-- the corner is told, and with it the swaps and lemmas prove the bound
abbrev pub ProvesFrom : TreeValue → Sheet → ℕ → Lemmas → Option Pair → Type 0
ProvesFrom T G bound L None = ⊥
ProvesFrom T G bound L (Some corner) = Proves T G bound corner.i corner.j L.swaps (lemmas_of L)

-- the bound is proved by the lemmas, where there are any, and else by a floor of this side
abbrev pub IsBoundProved : TreeValue → Sheet → ℕ → ℕ → Option Lemmas → Type 0
IsBoundProved T G bound floor None = bound ≤ floor
IsBoundProved T G bound floor (Some L) = ProvesFrom T G bound L L.corner

pub record Certifies (T : TreeValue) (C : Certificate) : Type 0 where
  pub tree : C.tree ≡ T
  pub valid : Valid T C.sheet 1 C.side C.points
  pub floor : FloorHolds T C.sheet C.floor
  pub bound : IsBoundProved T C.sheet C.bound C.floor.side C.lemmas
