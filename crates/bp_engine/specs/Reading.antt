-- What is read of a tree and of a document, and why none comes of a source.
use Rattle.std.specs.Prelude.{◌≡◌, ℕ, ◌+◌, List, [], take, drop}
use Rattle.std.specs.declared.option.Option.{Option}
use Rattle.std.specs.declared.option.Option.TheVariants.{Some}
use Rattle.bp_base.specs.Limits.{most_tree_bytes}
use Rattle.bp_base.specs.Tree.{TreeValue}
use Rattle.bp_tree.specs.declared.fault.TreeFault.{TreeFault}
use Rattle.bp_tree.specs.Faults.{IsTreeFault}
use Rattle.bp_tree.specs.Text.{TreeOf}
use Rattle.bp_document.specs.declared.document.Document.{Document}
use Rattle.bp_document.specs.Faults.{IsTextOf}
use Rattle.bp_base.specs.Reading.{Told}
use Rattle.bp_check.specs.Streams.{IsRefused as IsRefusedDoc, most_read as most_doc_read}
use Rattle.bp_engine.specs.declared.status.Status.{Status}
use Rattle.bp_engine.specs.declared.status.Status.TheVariants.{TreeRefused, DocRefused, ReadFault, NoMemory}

-- as many bytes as are read of a tree: one more than it may have
abbrev pub most_read : ℕ
most_read = most_tree_bytes + 1

-- The source was read to its end, and its bytes are a text of T, where it tells them: what was left of it before and after.
abbrev pub ReadsTree : Option (List ℕ) → Option (List ℕ) → TreeValue → Type 0
ReadsTree left after T = Told left (λ b. TreeOf b T × (after ≡ Some []))

-- the bytes are no tree, and this is their first fault
pub record IsRefused (bytes : List ℕ) (fault : TreeFault) : Type 0 where
  pub is_fault : IsTreeFault bytes fault
  pub no_tree : (T : TreeValue) → TreeOf bytes T → ⊥

-- Why no tree came of a source. A refused tree is judged by its bytes, read to the end or to one byte past the limit.
abbrev pub ReadsNoTree : Option (List ℕ) → Option (List ℕ) → Status → Type 0
ReadsNoTree left after (TreeRefused fault) = Told left (λ b. IsRefused (take most_read b) fault × (after ≡ Some (drop most_read b)))
ReadsNoTree left after ReadFault = Unit {0}
ReadsNoTree left after NoMemory = Unit {0}
ReadsNoTree left after status = ⊥

-- The source was read to its end, and its bytes are a text of D, where it tells them.
abbrev pub ReadsDoc : Option (List ℕ) → Option (List ℕ) → Document → Type 0
ReadsDoc left after D = Told left (λ b. IsTextOf b D × (after ≡ Some []))

-- Why no document came of a source. A refused document is judged by its bytes, read to the end or to one byte past the limit.
abbrev pub ReadsNoDoc : Option (List ℕ) → Option (List ℕ) → Status → Type 0
ReadsNoDoc left after (DocRefused fault) =
    Told left (λ b. IsRefusedDoc (take most_doc_read b) fault × (after ≡ Some (drop most_doc_read b)))
ReadsNoDoc left after ReadFault = Unit {0}
ReadsNoDoc left after NoMemory = Unit {0}
ReadsNoDoc left after status = ⊥
