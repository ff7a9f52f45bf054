-- A catalogue without entries, and one with an entry more.
use Rattle.std.proofs.Common.{◌≡◌, ℕ, ◌<◌, List, [], ◌∷◌, ◌++◌, length, get_or, sym, ◌∙◌, ap, subst, arith, true, false, Option, Some, None, is_some, zero, suc}
use Rattle.std.specs.Prelude.{slice_get, MatchOption, unwrap_or}
use Rattle.std.specs.List.{Any}
use Rattle.std.proofs.lemmas.List.{get_or_default}
use Rattle.bp_base.specs.Tree.{TreeValue}
use Rattle.bp_check.specs.Checks.{Checks}
use Rattle.std.proofs.lemmas.List.Elements.{All-push}
use Rattle.std.proofs.lemmas.List.Quantifiers.{all_pairs_push}
use Rattle.bp_catalogue.specs.declared.entry.Entry.{Entry}
use Rattle.bp_catalogue.specs.Entries.{AreKept, IsOf, IsRight}

pub kept_none : AreKept []
kept_none = record {
  right = λ k d less. absurd (omega arith);
  apart = λ i j d before less. absurd (omega arith);
}

pub kept_more : (es : List Entry) (e : Entry) → AreKept es → IsRight e.budget e.document → (Any (IsOf e.document.tree e.budget) es → ⊥) → AreKept (es ++ e ∷ [])
kept_more es e kept right none = record {
  right = All-push (λ (f : Entry). IsRight f.budget f.document) es e kept.right right;
  apart = all_pairs_push (λ (f g : Entry). IsOf f.document.tree f.budget g → ⊥) es e kept.apart
      (λ k d less same. none (k, get_or es k d, less, get_or_default es k (get_or es k d) d less, (sym same.0, sym same.1)));
}

-- where an entry for a tree and a budget stands
abbrev pub StandsAt : List Entry → TreeValue → ℕ → Option ℕ → Type 0
StandsAt es T B place = MatchOption place (Any (IsOf T B) es → ⊥) (λ k. (e : Entry) × (slice_get es k ≡ Some e) × IsOf T B e)

-- an entry that is read at a place stands there
stands : (es : List Entry) (k : ℕ) (e : Entry) → slice_get es k ≡ Some e → (k < length es) × (get_or es k e ≡ e)
stands [] k e is = cc
stands (f ∷ es) zero e is = (omega arith, ap (λ (o : Option Entry). unwrap_or o e) is)
stands (f ∷ es) (suc k) e is =
    let more = stands es k e is in
    (omega (arith, more.0), more.1)

pub any_of : (es : List Entry) (T : TreeValue) (B : ℕ) (place : Option ℕ) → StandsAt es T B place → true ≡ is_some place → Any (IsOf T B) es
any_of es T B None at some =
    let bad : true ≡ false = some in
    cc
any_of es T B (Some k) at some =
    let s = stands es k at.0 at.1 in
    (k, at.0, s.0, s.1, at.2)

pub none_of : (es : List Entry) (T : TreeValue) (B : ℕ) (place : Option ℕ) → StandsAt es T B place → false ≡ is_some place → Any (IsOf T B) es → ⊥
none_of es T B None at none = at
none_of es T B (Some k) at none =
    let bad : false ≡ true = none in
    cc

-- the document at a place is right for the tree and the budget of its entry
pub right_at : (es : List Entry) (T : TreeValue) (B k : ℕ) (e f : Entry) → AreKept es → slice_get es k ≡ Some e → IsOf T B e → f ≡ get_or es k f → IsRight B f.document × Checks T f.document
right_at es T B k e f kept at of read =
    let s = stands es k e at in
    let same : f ≡ e = read ∙ get_or_default es k f e s.0 ∙ s.1 in
    let here = kept.right k e s.0 in
    let right : IsRight e.budget e.document = subst (λ (g : Entry). IsRight g.budget g.document) s.1 here in
    let for_budget : IsRight B e.document = subst (λ (n : ℕ). IsRight n e.document) of.1 right in
    let checks : Checks T e.document = subst (λ (U : TreeValue). Checks U e.document) of.0 right.written.checks in (
      subst (λ (g : Entry). IsRight B g.document) (sym same) for_budget,
      subst (λ (g : Entry). Checks T g.document) (sym same) checks,
    )
