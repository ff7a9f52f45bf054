use Rattle.std.proofs.Common.{List, Some, sym, subst}
use Rattle.bp_document.specs.declared.document.Document.{Document}
use Rattle.bp_check.specs.Checks.{Checks}
use Rattle.bp_catalogue.specs.declared.entry.Entry.{Entry}
use Rattle.bp_catalogue.specs.Entries.{IsRight}
use Rattle.bp_catalogue.proofs.Keeping.{StandsAt, right_at}
use Rattle.bp_catalogue.proofs.catalogue.Catalogue.find.Goals as goal

pub returns-in_ok-copied-in-Some-clause-right : goal.returns-in_ok-copied-in-Some-clause-right
returns-in_ok-copied-in-Some-clause-right c =
    let at = c.in-Some.ensures.none in
    let es = c.self.inside.entries.items in
    let found = subst (λ (l : List Entry). StandsAt l c.args.tree.now c.args.budget (Some c.in-Some.k)) c.deref.ensures.value at in
    let r = right_at es c.args.tree.now c.args.budget c.in-Some.k found.0 c.index.result.now c.self.invariant found.1 found.2 c.index.ensures in
    subst (λ (D : Document). IsRight c.args.budget D) (sym c.in_ok-copied-in-Some.ensures) r.0

pub returns-in_ok-copied-in-Some-clause-checks : goal.returns-in_ok-copied-in-Some-clause-checks
returns-in_ok-copied-in-Some-clause-checks c =
    let at = c.in-Some.ensures.none in
    let es = c.self.inside.entries.items in
    let found = subst (λ (l : List Entry). StandsAt l c.args.tree.now c.args.budget (Some c.in-Some.k)) c.deref.ensures.value at in
    let r = right_at es c.args.tree.now c.args.budget c.in-Some.k found.0 c.index.result.now c.self.invariant found.1 found.2 c.index.ensures in
    subst (λ (D : Document). Checks c.args.tree.now D) (sym c.in_ok-copied-in-Some.ensures) r.1
