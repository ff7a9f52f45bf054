-- Reading a document's lines from its bytes, and its proof from their nodes.
use Rattle.std.specs.Prelude.{◌≡◌, ℕ, List, [], ◌∷◌, ◌++◌, ◌≤◌, length, Bool, true, None, Result, Ok, Err}
use Rattle.bp_base.specs.Limits.{most_document_bytes}
use Rattle.bp_document.specs.declared.builder.Builder.{Builder}
use Rattle.bp_document.specs.declared.document.Document.{Document}
use Rattle.bp_document.specs.declared.fault.ReadDoc.{ReadDoc}
use Rattle.bp_document.specs.declared.fault.ReadDoc.TheVariants.{Fault, NoMemory}
use Rattle.bp_document.specs.declared.node_line.NodeLine.{NodeLine}
use Rattle.bp_document.specs.Places.{deepest_behind}
use Rattle.bp_document.specs.Faults.{IsDocFault, IsTextOf}
use Rattle.bp_document.specs.Built.{IsBuilt}
use Rattle.bp_document.specs.Scanning.{Progress, IsUnbroken, HasFed, IsFaultBehind}

abbrev pub IsShort : List ℕ → Type 0
IsShort bytes = length bytes ≤ most_document_bytes

-- The text was fed, and what is built has its nodes.
abbrev pub HasRead : Progress → Builder → List ℕ → Type 0
HasRead P b text = (ns : List NodeLine) × HasFed P text ns × IsBuilt b ns (deepest_behind None ns)

-- What a line does: it was read too, or it has this first fault.
abbrev pub ReadsLine : Progress → Builder → List ℕ → Bool → Progress → Builder → Result Unit ReadDoc → Type 0
ReadsLine P b line ended P' b' (Ok done) = (ended ≡ true) × IsUnbroken P' × ((text : List ℕ) → HasRead P b text → HasRead P' b' (text ++ (line ++ 10 ∷ [])))
ReadsLine P b line ended P' b' (Err (Fault f)) = (text : List ℕ) → HasRead P b text → IsFaultBehind text line ended f
ReadsLine P b line ended P' b' (Err NoMemory) = Unit {0}

-- What all lines do: they were read, or one has a first fault.
abbrev pub ReadsLines : List ℕ → Progress → Builder → Result Unit ReadDoc → Type 0
ReadsLines bytes P b (Ok done) = IsUnbroken P × HasRead P b bytes
ReadsLines bytes P b (Err (Fault f)) = IsDocFault bytes f
ReadsLines bytes P b (Err NoMemory) = Unit {0}

-- What the end of input does: the document of all, or a last fault.
abbrev pub EndsDocument : Progress → Builder → Result Document ReadDoc → Type 0
EndsDocument P b (Ok D) = (bytes : List ℕ) → IsShort bytes → HasRead P b bytes → IsTextOf bytes D
EndsDocument P b (Err (Fault f)) = (bytes : List ℕ) → IsShort bytes → HasRead P b bytes → IsDocFault bytes f
EndsDocument P b (Err NoMemory) = Unit {0}
