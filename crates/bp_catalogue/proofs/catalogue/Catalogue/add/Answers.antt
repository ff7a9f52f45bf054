use Rattle.std.proofs.Common.{◌∙◌, ◌∷◌, [], ◌++◌, List, refl, sym, ap, subst}
use Rattle.bp_catalogue.specs.declared.entry.Entry.{Entry}
use Rattle.bp_catalogue.specs.Entries.{AreKept}
use Rattle.bp_catalogue.proofs.Keeping.{StandsAt, any_of, kept_more, none_of}
use Rattle.bp_catalogue.proofs.catalogue.Catalogue.add.Goals as goal

pub returns-then-is_some-clause-adds : goal.returns-then-is_some-clause-adds
returns-then-is_some-clause-adds c =
    let at = subst (λ (es : List Entry). StandsAt es c.args.document.tree c.args.budget c.place_of.result) (c.deref.ensures.value ∙ c.self.view_is) c.place_of.ensures.none in
    (any_of c.args.self.now c.args.document.tree c.args.budget c.place_of.result at c.if-is_some.ensures, refl)

pub invariant_of-self-2 : goal.invariant_of-self-2
invariant_of-self-2 c =
    let at = subst (λ (es : List Entry). StandsAt es c.args.document.tree c.args.budget c.place_of.result) c.deref.ensures.value c.place_of.ensures.none in
    subst AreKept (sym c.in_ok-push.ensures.items)
    (kept_more c.self.inside.entries.items (record { budget = c.args.budget; document = c.args.document }) c.self.invariant c.requires
    (none_of c.self.inside.entries.items c.args.document.tree c.args.budget c.place_of.result at c.if-is_some.ensures))

pub returns-clause-adds : goal.returns-clause-adds
returns-clause-adds c =
    let at = subst (λ (es : List Entry). StandsAt es c.args.document.tree c.args.budget c.place_of.result) (c.deref.ensures.value ∙ c.self.view_is) c.place_of.ensures.none in (
      none_of c.args.self.now c.args.document.tree c.args.budget c.place_of.result at c.if-is_some.ensures,
      c.in_ok-push.ensures.items ∙ ap (λ (es : List Entry). es ++ (record { budget = c.args.budget; document = c.args.document }) ∷ []) c.self.view_is,
    )
