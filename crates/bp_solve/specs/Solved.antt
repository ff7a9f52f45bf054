-- What `solve` answers: what its certificate proves to whoever reads it, how a run writes it, and why the bound is less than the side where
-- it is.
use Rattle.std.specs.Prelude.{◌≡◌, ℕ, ◌<◌, ◌≤◌, length, Option, None, Some}
use Rattle.bp_base.specs.declared.point.Sheet.{Sheet}
use Rattle.bp_base.specs.Limits.{most_document_bytes}
use Rattle.bp_base.specs.Tree.{TreeValue}
use Rattle.bp_metric.specs.Floor.{IsFloor}
use Rattle.bp_metric.specs.Opening.{IsOpeningSide}
use Rattle.bp_metric.specs.Valid.{NoneBelow}
use Rattle.bp_check.specs.Written.{IsWanted}
use Rattle.bp_certificate.specs.declared.certificate.Certificate.{Certificate}
use Rattle.bp_certificate.specs.declared.certificate.Lemmas.{Lemmas}
use Rattle.bp_certificate.specs.Ranges.{IsCertificate}
use Rattle.bp_certificate.specs.Text.{certificate_text}
use Rattle.bp_verify.specs.Certifies.{Certifies}
use Rattle.bp_solve.specs.declared.solved.Ending.{Ending}
use Rattle.bp_solve.specs.declared.solved.Ending.TheVariants.{Met, Spent, TooLong, Refused}
use Rattle.bp_solve.specs.declared.solved.Solved.{Solved}

-- the certificate has a text, which is short enough to be read
pub record IsReadable (C : Certificate) : Type 0 where
  pub ranges : IsCertificate C
  pub short : length (certificate_text C) ≤ most_document_bytes

-- C is a right certificate of T on this sheet, with the tree's floor. No side below its bound has a valid placement, on any finer grid either;
-- and where the bound is the side, no smaller sheet will do.
pub record IsProved (T : TreeValue) (G : Sheet) (C : Certificate) : Type 0 where
  pub tree : C.tree ≡ T
  pub sheet : C.sheet ≡ G
  pub readable : IsReadable C
  pub certifies : Certifies T C
  pub floor : IsFloor T G C.floor
  pub no_more : C.bound ≤ C.side
  pub no_less : C.floor.side ≤ C.bound
  pub none_below : NoneBelow T G C.bound
  pub smallest : C.bound ≡ C.side → IsWanted T G C.side

-- without lemmas the bound is the floor's side, and with lemmas it is greater
abbrev pub IsBoundBy : ℕ → ℕ → Option Lemmas → Type 0
IsBoundBy floor bound None = bound ≡ floor
IsBoundBy floor bound (Some L) = floor < bound

-- a right certificate on the same sheet has a greater bound, and is too long to be read
abbrev pub HasLonger : TreeValue → Certificate → Type 0
HasLonger T C = (D : Certificate) × (D.sheet ≡ C.sheet) × Certifies T D × (C.bound < D.bound) × (IsReadable D → ⊥)

-- Bound and side have met. Or the bound is less: since as many lemmas were learned as the budget says; or since lemmas were given up, a
-- certificate with them being too long, or the checker having refused them.
abbrev pub EndsBy : TreeValue → ℕ → Certificate → ℕ → Ending → Type 0
EndsBy T B C conflicts Met = C.bound ≡ C.side
EndsBy T B C conflicts Spent = (C.bound < C.side) × (B ≤ conflicts)
EndsBy T B C conflicts TooLong = (C.bound < C.side) × (C.lemmas ≡ None) × HasLonger T C
EndsBy T B C conflicts Refused = (C.bound < C.side) × (C.lemmas ≡ None)

-- how a run writes it
pub record IsWritten (T : TreeValue) (G : Sheet) (B : ℕ) (s : Solved) : Type 0 where
  pub text : s.text ≡ certificate_text s.certificate
  pub bound : IsBoundBy s.certificate.floor.side s.certificate.bound s.certificate.lemmas
  pub at_floor : s.certificate.side ≡ s.certificate.floor.side → (s.certificate.lemmas ≡ None) × (s.certificate.bound ≡ s.certificate.side)
  -- no greater than the side of the opening
  pub no_worse : (u : ℕ) → IsOpeningSide T G u → s.certificate.side ≤ u
  pub ending : EndsBy T B s.certificate s.conflicts s.ending

-- s is an answer for T on this sheet with a budget of B lemmas
pub record IsSolved (T : TreeValue) (G : Sheet) (B : ℕ) (s : Solved) : Type 0 where
  pub proved : IsProved T G s.certificate
  pub written : IsWritten T G B s
