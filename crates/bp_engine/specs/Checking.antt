-- What `check` reads and writes.
use Rattle.std.specs.Prelude.{◌≡◌, ◌⊎◌, ℕ, List, [], ◌∷◌, ◌++◌, codes, decimal}
use Rattle.std.specs.declared.option.Option.{Option}
use Rattle.bp_base.specs.Tree.{TreeValue}
use Rattle.bp_document.specs.declared.document.Document.{Document}
use Rattle.bp_check.specs.Checks.{Checks}
use Rattle.bp_check.specs.Reasons.{IsFirstReason}
use Rattle.bp_engine.specs.declared.status.Status.{Status}
use Rattle.bp_engine.specs.declared.status.Status.TheVariants.{Done, No}
use Rattle.bp_engine.specs.Documents.{Handles, no_text}
use Rattle.bp_engine.specs.Reading.{ReadsNoTree, ReadsTree}

unfoldable pub yes_text : ℕ → ℕ → List ℕ
yes_text side bound = codes "yes side " ++ decimal side ++ codes " bound " ++ decimal bound ++ 10 ∷ []

-- `check` answers a document that checks against the tree by yes, and each other by the first reason
abbrev pub IsChecked : TreeValue → Document → Status → List ℕ → Type 0
IsChecked T D Done text = Checks T D × (text ≡ yes_text D.side D.bound)
IsChecked T D (No reason) text = IsFirstReason T D reason × (text ≡ no_text reason)
IsChecked T D status text = ⊥

-- What `check` has read and written: what was left of `tree` and of `doc` before and after, what the sink held before and after. Either no tree
-- came, or the document was read behind it.
abbrev pub ChecksBoth : Option (List ℕ) → Option (List ℕ) → Option (List ℕ) → Option (List ℕ) → Option (List ℕ) → Option (List ℕ) → Status → Type 0
ChecksBoth tree tree_after doc doc_after held now status =
    (ReadsNoTree tree tree_after status × (now ≡ held))
    ⊎ ((T : TreeValue) × ReadsTree tree tree_after T × Handles (IsChecked T) doc doc_after held now status)
