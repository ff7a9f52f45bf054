-- What a run promises of each command: what it has read and written, with which status, and what it leaves as it was. `solve` with a mirror
-- isn't built yet: it answers so, and uses nothing.
use Rattle.std.specs.Prelude.{◌≡◌, ◌⊎◌, ℕ, List, Bool, true, false}
use Rattle.std.specs.declared.option.Option.{Option}
use Rattle.std.specs.declared.option.Option.TheVariants.{None, Some}
use Rattle.bp_base.specs.declared.point.Sheet.{Sheet}
use Rattle.bp_base.specs.declared.point.Sheet.TheVariants.{Square, Strip}
use Rattle.bp_base.specs.Causes.{Rose, Appends, AppendsFront}
use Rattle.bp_base.specs.Tree.{TreeValue}
use Rattle.bp_tree.specs.declared.fault.TreeFault.{TreeFault}
use Rattle.bp_tree.specs.Text.{TreeOf}
use Rattle.bp_metric.specs.Stated.{CoversStated}
use Rattle.bp_document.specs.declared.document.Document.{Document}
use Rattle.bp_document.specs.declared.fault.DocFault.{DocFault}
use Rattle.bp_document.specs.Faults.{IsTextOf}
use Rattle.bp_check.specs.declared.verdict.Reason.{Reason}
use Rattle.bp_check.specs.Reasons.{IsFirstReason}
use Rattle.bp_check.specs.Written.{IsWanted}
use Rattle.bp_steady.specs.Sums.{IsMWithin}
use Rattle.bp_certificate.specs.declared.certificate.Certificate.{Certificate}
use Rattle.bp_certificate.specs.Faults.{IsTextOf as IsCertificateText}
use Rattle.bp_verify.specs.declared.verdict.Reason.{Reason as Flaw}
use Rattle.bp_words.specs.declared.words.Words.{Words}
use Rattle.bp_words.specs.declared.words.Words.TheVariants.{Design, Check, Contours, Help, Made, Picture, Pieces, Revise, Rewrite, Solve, Verify, Version, Trial}
use Rattle.bp_engine.specs.declared.design.Asked.{Asked}
use Rattle.bp_engine.specs.declared.status.Status.{Status}
use Rattle.bp_engine.specs.declared.status.Status.TheVariants.{Done, TreeRefused, DocRefused, Usage, GaveUp, ReadFault, WriteFault, NoMemory, No, NoCertificate, NotBuilt, Unsteady, ShapeDiffers}
use Rattle.bp_engine.specs.Checking.{ChecksBoth}
use Rattle.bp_engine.specs.Designs.{Designs, Sinks}
use Rattle.bp_engine.specs.declared.drawing.Drawing.TheVariants.{Loops, Parts, Layout}
use Rattle.bp_engine.specs.Documents.{Rewrites}
use Rattle.bp_engine.specs.Drawings.{Draws}
use Rattle.bp_engine.specs.Making.{Makes}
use Rattle.bp_engine.specs.Pages.{Shows, help_page, version_page}
use Rattle.bp_engine.specs.Reading.{ReadsTree}
use Rattle.bp_engine.specs.Revising.{CoversRevision, DiffersInShape, IsRevisable, RevisesBoth}
use Rattle.bp_engine.specs.Solves.{Solves}
use Rattle.bp_engine.specs.Texts.{MayWrite}
use Rattle.bp_engine.specs.Trials.{Tries}
use Rattle.bp_engine.specs.Verifying.{VerifiesBoth}

-- What is seen of the sources and sinks of a run: what is left of `tree` and `doc` and what `out` and `fold` hold, where that is told, and each
-- one's count of faults.
pub record View : Type 0 where
  pub tree : Option (List ℕ)
  pub doc : Option (List ℕ)
  pub out : Option (List ℕ)
  pub fold : Option (List ℕ)
  pub tree_faults : ℕ
  pub doc_faults : ℕ
  pub out_faults : ℕ
  pub fold_faults : ℕ

abbrev pub sinks_of : View → Sinks
sinks_of v = record { out = v.out; fold = v.fold }

-- Commands.

-- a square, or with `--strip` the strip of that width
abbrev pub sheet_of : Option ℕ → Sheet
sheet_of None = Square
sheet_of (Some width) = Strip width

-- a drawing is asked for by `--fold`
abbrev pub draws_of : Option ℕ → Bool
draws_of None = false
draws_of (Some place) = true

abbrev pub asked_of : ℕ → ℕ → Option ℕ → Option ℕ → Option ℕ → Option ℕ → Asked
asked_of workers budget replay fold strip steady = record {
  sheet = sheet_of strip;
  budget = budget;
  hands = workers;
  replay = replay;
  draws = draws_of fold;
  steady = steady;
}

-- `solve` has no hands, no replays and no steady answer
abbrev pub solve_asked_of : ℕ → Option ℕ → Option ℕ → Asked
solve_asked_of budget fold strip = asked_of 1 budget None fold strip None

-- What the command has read and written, by its status.
abbrev pub Answers : Words → View → View → Status → Type 0
Answers (Design workers budget replay fold strip steady) before after status =
    Designs (asked_of workers budget replay fold strip steady) before.tree after.tree (sinks_of before) (sinks_of after) status
Answers (Check place) before after status = ChecksBoth before.tree after.tree before.doc after.doc before.out after.out status
Answers Contours before after status = Draws Loops before.doc after.doc before.out after.out status
Answers Pieces before after status = Draws Parts before.doc after.doc before.out after.out status
Answers Picture before after status = Draws Layout before.doc after.doc before.out after.out status
Answers Help before after status = Shows help_page before.out after.out status
Answers Version before after status = Shows version_page before.out after.out status
Answers (Made leaves seed) before after status = Makes leaves seed before.out after.out status
Answers (Trial leaves seed) before after status = Tries leaves seed before.out after.out status
Answers Rewrite before after status = Rewrites before.doc after.doc before.out after.out status
Answers (Solve budget strip fold None) before after status =
    Solves (solve_asked_of budget fold strip) before.tree after.tree (sinks_of before) (sinks_of after) status
Answers (Verify place) before after status = VerifiesBoth before.tree after.tree before.doc after.doc before.out after.out status
Answers (Revise place budget) before after status = RevisesBoth budget before.tree after.tree before.doc after.doc before.out after.out status
Answers w before after status = status ≡ NotBuilt

-- the command reads a tree from the source `tree`
abbrev pub UsesTree : Words → Type 0
UsesTree (Design workers budget replay fold strip steady) = Unit {0}
UsesTree (Check place) = Unit {0}
UsesTree (Solve budget strip fold None) = Unit {0}
UsesTree (Verify place) = Unit {0}
UsesTree (Revise place budget) = Unit {0}
UsesTree w = ⊥

-- the command reads a document or a certificate from the source `doc`
abbrev pub UsesDoc : Words → Type 0
UsesDoc (Check place) = Unit {0}
UsesDoc Contours = Unit {0}
UsesDoc Pieces = Unit {0}
UsesDoc Picture = Unit {0}
UsesDoc Rewrite = Unit {0}
UsesDoc (Verify place) = Unit {0}
UsesDoc (Revise place budget) = Unit {0}
UsesDoc w = ⊥

-- the command writes a drawing on the sink `fold`
abbrev pub UsesFold : Words → Type 0
UsesFold (Design workers budget replay (Some place) strip steady) = Unit {0}
UsesFold (Solve budget strip (Some place) None) = Unit {0}
UsesFold w = ⊥

-- Which statuses come.

-- Done, or want of memory
abbrev pub IsDone : Status → Type 0
IsDone status = (status ≡ Done) ⊎ (status ≡ NoMemory)

-- one of these, or No
abbrev pub IsDoneOrNo : Status → Type 0
IsDoneOrNo status = IsDone status ⊎ ((reason : Reason) × (status ≡ No reason))

-- the tree or what is read behind it is refused
abbrev pub IsRefusal : Status → Type 0
IsRefusal status = ((f : TreeFault) × (status ≡ TreeRefused f)) ⊎ ((f : DocFault) × (status ≡ DocRefused f))

-- Done, No, want of memory, or the tree or the document is refused
abbrev pub IsJudged : Status → Type 0
IsJudged status = IsDoneOrNo status ⊎ IsRefusal status

-- Done, want of memory, or NoCertificate
abbrev pub IsDoneOrUncertified : Status → Type 0
IsDoneOrUncertified status = IsDone status ⊎ ((reason : Flaw) × (status ≡ NoCertificate reason))

-- done, or the search was given up
abbrev pub IsDoneOrGivenUp : Status → Type 0
IsDoneOrGivenUp status = IsDone status ⊎ ((side bound : ℕ) × (status ≡ GaveUp side bound))

-- done, or given up, or the budget of the steady answer, where it is asked for, was less than M
abbrev pub IsDesignEnd : Option ℕ → Status → Type 0
IsDesignEnd None status = IsDoneOrGivenUp status
IsDesignEnd (Some quota) status = IsDoneOrGivenUp status ⊎ (status ≡ Unsteady quota)

-- M of the least side is at most the budget of the steady answer, where it is asked for
abbrev pub IsEnough : TreeValue → Sheet → Option ℕ → Type 0
IsEnough T G None = Unit {0}
IsEnough T G (Some quota) = (S : ℕ) → IsWanted T G S → IsMWithin T G S quota

-- A document is drawn or answered by No; a certificate is too, or is answered by NoCertificate; or memory lacked.
abbrev pub IsDrawnToEnd : Option (List ℕ) → Status → Type 0
IsDrawnToEnd doc status =
    ((b : List ℕ) (D : Document) → doc ≡ Some b → IsTextOf b D → IsDoneOrNo status)
    × ((b : List ℕ) (C : Certificate) → doc ≡ Some b → IsCertificateText b C → IsDoneOrNo status ⊎ IsDoneOrUncertified status)

-- Which statuses come of an old document and a tree: where it doesn't check against its own tree, No; where its shape differs, ShapeDiffers; and
-- else a revision, which isn't given up where the budget covers it. Memory may lack.
pub record EndsRevision (T : TreeValue) (old : Document) (B : ℕ) (status : Status) : Type 0 where
  pub ends : IsDoneOrGivenUp status ⊎ ((reason : Reason) × (status ≡ No reason)) ⊎ (status ≡ ShapeDiffers)
  pub wrong : (reason : Reason) → IsFirstReason old.tree old reason → (status ≡ No reason) ⊎ (status ≡ NoMemory)
  pub differs : DiffersInShape T old → (status ≡ ShapeDiffers) ⊎ (status ≡ NoMemory)
  pub revisable : IsRevisable T old → IsDoneOrGivenUp status
  pub covered : IsRevisable T old → CoversRevision T old B → IsDone status

-- the same of the sources' bytes
abbrev pub IsRevisedToEnd : Option (List ℕ) → Option (List ℕ) → ℕ → Status → Type 0
IsRevisedToEnd tree doc B status =
    (b c : List ℕ) (T : TreeValue) (old : Document) → tree ≡ Some b → doc ≡ Some c → TreeOf b T → IsTextOf c old → EndsRevision T old B status

-- Which statuses come where the command's inputs are in their grammars and no count rose. A budget that covers the stated tree is never given
-- up, and one of the steady answer that is at least M is enough then.
abbrev pub Completes : Words → View → Status → Type 0
Completes (Design workers budget replay fold strip steady) before status =
    (b : List ℕ) (T : TreeValue) → before.tree ≡ Some b → TreeOf b T
    → IsDesignEnd steady status × (CoversStated T (sheet_of strip) budget → IsEnough T (sheet_of strip) steady → IsDone status)
Completes (Check place) before status =
    IsJudged status × ((b c : List ℕ) (T : TreeValue) (D : Document) → before.tree ≡ Some b → before.doc ≡ Some c → TreeOf b T → IsTextOf c D → IsDoneOrNo status)
Completes Contours before status = IsDrawnToEnd before.doc status
Completes Pieces before status = IsDrawnToEnd before.doc status
Completes Picture before status = IsDrawnToEnd before.doc status
Completes Help before status = status ≡ Done
Completes Version before status = status ≡ Done
Completes Rewrite before status = (b : List ℕ) (D : Document) → before.doc ≡ Some b → IsTextOf b D → IsDone status
Completes (Made leaves seed) before status = IsDone status
Completes (Trial leaves seed) before status = IsDone status
Completes (Solve budget strip fold None) before status = (b : List ℕ) (T : TreeValue) → before.tree ≡ Some b → TreeOf b T → IsDoneOrGivenUp status
Completes (Verify place) before status =
    (IsDoneOrUncertified status ⊎ IsRefusal status)
    × ((b c : List ℕ) (T : TreeValue) (C : Certificate) → before.tree ≡ Some b → before.doc ≡ Some c → TreeOf b T → IsCertificateText c C → IsDoneOrUncertified status)
Completes (Revise place budget) before status = IsRevisedToEnd before.tree before.doc budget status
Completes w before status = status ≡ NotBuilt

-- no count of faults rose
pub record IsQuiet (before after : View) : Type 0 where
  pub tree : Rose before.tree_faults after.tree_faults → ⊥
  pub doc : Rose before.doc_faults after.doc_faults → ⊥
  pub out : Rose before.out_faults after.out_faults → ⊥
  pub fold : Rose before.fold_faults after.fold_faults → ⊥

-- What a run does that is asked for w.
pub record Does (w : Words) (before after : View) (status : Status) : Type 0 where
  pub answers : Answers w before after status
  -- A fault comes only where its count rose: a fault of reading, where that of a source that the command reads did,
  pub read : status ≡ ReadFault → (UsesTree w × Rose before.tree_faults after.tree_faults) ⊎ (UsesDoc w × Rose before.doc_faults after.doc_faults)
  -- and a fault of writing, where that of a sink that it writes did.
  pub write : status ≡ WriteFault → Rose before.out_faults after.out_faults ⊎ (UsesFold w × Rose before.fold_faults after.fold_faults)
  pub complete : IsQuiet before after → Completes w before status

-- What a run leaves that is asked for w: its two sources and two sinks before and after.
pub record Leaves {T D K F : Type 0} (w : Words) (before after : View) (status : Status) (t t' : T) (d d' : D) (o o' : K) (f f' : F) : Type 0 where
  -- What the command doesn't use is as it was.
  pub tree : (UsesTree w → ⊥) → t' ≡ t
  pub doc : (UsesDoc w → ⊥) → d' ≡ d
  pub fold : (UsesFold w → ⊥) → f' ≡ f
  -- Where the tree is refused no document is touched,
  pub unread : (fault : TreeFault) → status ≡ TreeRefused fault → d' ≡ d
  -- and a command that reads both touches it only once the tree was read to its end.
  pub order : UsesTree w → UsesDoc w → (d' ≡ d) ⊎ ((read : TreeValue) × ReadsTree before.tree after.tree read)
  pub read_in_order : UsesTree w → UsesDoc w → status ≡ ReadFault → (Rose before.tree_faults after.tree_faults × (d' ≡ d)) ⊎ ((read : TreeValue) × ReadsTree before.tree after.tree read × Rose before.doc_faults after.doc_faults)
  -- Only some statuses come with something written.
  pub unwritten : (MayWrite status → ⊥) → (o' ≡ o) × (f' ≡ f)
  -- `out` is whole before `fold` begins: where writing it fails, `fold` is as it was, also where sinks tell no bytes.
  pub whole : status ≡ WriteFault → (f' ≡ f) ⊎ Rose before.fold_faults after.fold_faults

-- the statuses of which nothing is read or written
abbrev pub IsSilent : Status → Type 0
IsSilent Usage = Unit {0}
IsSilent NotBuilt = Unit {0}
IsSilent status = ⊥

-- A text was told on a sink: all of it where the sink's count didn't rise, and some front of it in any case.
pub record Tells (before after : Option (List ℕ)) (faults now : ℕ) (text : List ℕ) : Type 0 where
  pub front : AppendsFront before after text
  pub all : (Rose faults now → ⊥) → Appends before after text
