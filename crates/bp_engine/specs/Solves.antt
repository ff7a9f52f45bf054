-- What `solve` reads and writes.
use Rattle.std.specs.Prelude.{◌≡◌, ◌⊎◌, ℕ, ◌<◌, List, None}
use Rattle.std.specs.declared.option.Option.{Option}
use Rattle.bp_base.specs.Tree.{TreeValue}
use Rattle.bp_document.specs.declared.document.Document.{Document}
use Rattle.bp_check.specs.Written.{IsWanted}
use Rattle.bp_certificate.specs.declared.certificate.Certificate.{Certificate}
use Rattle.bp_certificate.specs.Text.{certificate_text}
use Rattle.bp_solve.specs.declared.solved.Solved.{Solved}
use Rattle.bp_solve.specs.Solved.{IsSolved}
use Rattle.bp_engine.specs.declared.design.Asked.{Asked}
use Rattle.bp_engine.specs.declared.status.Status.{Status}
use Rattle.bp_engine.specs.declared.status.Status.TheVariants.{Done, GaveUp, WriteFault, NoMemory}
use Rattle.bp_engine.specs.Designs.{Sinks, WritesAll, WritesFront}
use Rattle.bp_engine.specs.Reading.{ReadsNoTree, ReadsTree}

-- the document of a certificate's placement, whose regions are drawn
abbrev pub placed : Certificate → Document
placed C = record { tree = C.tree; side = C.side; bound = C.bound; points = C.points; floor = C.floor; proof = None; sheet = C.sheet }

-- Which answer is written with which status: one whose bound is its side, so that no smaller sheet will do, or one whose bound is less.
abbrev pub IsAnswered : TreeValue → Asked → Solved → Status → Type 0
IsAnswered T A s Done = IsSolved T A.sheet A.budget s × (s.certificate.bound ≡ s.certificate.side) × IsWanted T A.sheet s.certificate.side
IsAnswered T A s (GaveUp side bound) = IsSolved T A.sheet A.budget s × (s.certificate.bound < s.certificate.side) × (side ≡ s.certificate.side) × (bound ≡ s.certificate.bound)
IsAnswered T A s status = ⊥

-- What was written for a tree: the certificate whole, and behind it the drawing where one is asked for; or a front of them and a fault of
-- writing; or nothing for want of memory: what the sinks held before and after.
abbrev pub WritesSolved : TreeValue → Asked → Sinks → Sinks → Status → Type 0
WritesSolved T A held now status =
    ((s : Solved) × IsAnswered T A s status × WritesAll A.draws (certificate_text s.certificate) (placed s.certificate) held now)
    ⊎ (((status ≡ WriteFault) × ((s : Solved) × (meant : Status) × IsAnswered T A s meant × WritesFront A.draws (certificate_text s.certificate) (placed s.certificate) held now))
    ⊎ ((status ≡ NoMemory) × (now ≡ held)))

-- What `solve` has read and written: what was left of the source before and after, what the sinks held before and after. Either no tree came,
-- or it was solved.
abbrev pub Solves : Asked → Option (List ℕ) → Option (List ℕ) → Sinks → Sinks → Status → Type 0
Solves A left after held now status =
    (ReadsNoTree left after status × (now ≡ held))
    ⊎ ((T : TreeValue) × ReadsTree left after T × WritesSolved T A held now status)
