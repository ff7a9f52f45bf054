-- Which entry of a catalogue is for a tree and a budget, what a catalogue keeps, and what its calls give.
use Rattle.std.specs.Prelude.{◌≡◌, ℕ, List, [], ◌∷◌, ◌++◌, All, AllPairs, Any, false}
use Rattle.std.specs.List.{Contains}
use Rattle.std.specs.declared.option.Option.{Option}
use Rattle.std.specs.declared.option.Option.TheVariants.{None, Some}
use Rattle.bp_base.specs.declared.point.Sheet.TheVariants.{Square}
use Rattle.bp_base.specs.Tree.{TreeValue}
use Rattle.bp_document.specs.declared.document.Document.{Document}
use Rattle.bp_document.specs.Ranges.{IsDocument}
use Rattle.bp_check.specs.Written.{IsWritten}
use Rattle.bp_catalogue.specs.declared.catalogue.Added.{Added}
use Rattle.bp_catalogue.specs.declared.catalogue.Added.TheVariants.{New, There}
use Rattle.bp_catalogue.specs.declared.entry.Entry.{Entry}

-- the entry's document is of this tree, and was designed with this budget
abbrev pub IsOf : TreeValue → ℕ → Entry → Type 0
IsOf T B e = (e.document.tree ≡ T) × (e.budget ≡ B)

-- a document of the square that can be told, as `design` writes it for its own tree with this budget
pub record IsRight (B : ℕ) (D : Document) : Type 0 where
  pub sheet : D.sheet ≡ Square
  pub ranges : IsDocument D
  pub written : IsWritten D.tree B false D

-- what a catalogue keeps: each document is right, and no two entries are for the same tree and budget
pub record AreKept (es : List Entry) : Type 0 where
  pub right : All (λ (e : Entry). IsRight e.budget e.document) es
  pub apart : AllPairs (λ (e f : Entry). IsOf e.document.tree e.budget f → ⊥) es

-- what is found is the document of the entry for this tree and budget; nothing, exactly where no entry is for them
abbrev pub FindsExactly : List Entry → TreeValue → ℕ → Option Document → Type 0
FindsExactly es T B None = Any (IsOf T B) es → ⊥
FindsExactly es T B (Some D) = (D.tree ≡ T) × Contains es (record { budget = B; document = D })

-- a new document stands last; there was one exactly where an entry is for its tree and this budget, and then nothing changed
abbrev pub AddsExactly : List Entry → List Entry → Document → ℕ → Added → Type 0
AddsExactly held now D B New = (Any (IsOf D.tree B) held → ⊥) × (now ≡ held ++ record { budget = B; document = D } ∷ [])
AddsExactly held now D B There = Any (IsOf D.tree B) held × (now ≡ held)
