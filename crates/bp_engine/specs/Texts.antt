-- What each status tells on the error output, its number, and which ones come behind something written.
use Rattle.std.specs.Prelude.{ℕ, List, [], ◌++◌, ◌∷◌, codes, decimal}
use Rattle.bp_tree.specs.declared.fault.TreeKind.{TreeKind}
use Rattle.bp_tree.specs.declared.fault.TreeKind.TheVariants.{TooLong, BadJson, BadShape, BadByte, WordCount, BadName, BadLength, UnknownParent, RepeatedName, TooManyNodes, Empty, RootIsLeaf, TooManyLeaves}
use Rattle.bp_document.specs.declared.fault.DocKind.{DocKind}
use Rattle.bp_document.specs.declared.fault.DocKind.TheVariants as doc
use Rattle.bp_engine.specs.declared.status.Status.{Status}
use Rattle.bp_engine.specs.declared.status.Status.TheVariants.{Done, TreeRefused, DocRefused, Usage, GaveUp, ReadFault, WriteFault, NoMemory, No, NoCertificate, NotBuilt, Unsteady, ShapeDiffers}

abbrev pub kind_text : TreeKind → List ℕ
kind_text TooLong = codes "TooLong"
kind_text BadJson = codes "BadJson"
kind_text BadShape = codes "BadShape"
kind_text BadByte = codes "BadByte"
kind_text WordCount = codes "WordCount"
kind_text BadName = codes "BadName"
kind_text BadLength = codes "BadLength"
kind_text UnknownParent = codes "UnknownParent"
kind_text RepeatedName = codes "RepeatedName"
kind_text TooManyNodes = codes "TooManyNodes"
kind_text Empty = codes "Empty"
kind_text RootIsLeaf = codes "RootIsLeaf"
kind_text TooManyLeaves = codes "TooManyLeaves"

abbrev pub doc_kind_text : DocKind → List ℕ
doc_kind_text doc.TooLong = codes "TooLong"
doc_kind_text doc.Trailing = codes "Trailing"
doc_kind_text doc.Cut = codes "Cut"
doc_kind_text doc.BadForm = codes "BadForm"
doc_kind_text doc.BadTree = codes "BadTree"
doc_kind_text doc.BadPoint = codes "BadPoint"
doc_kind_text doc.BadDepth = codes "BadDepth"

-- Of No and NoCertificate nothing is told here: the reason is the command's text.
unfoldable pub text_of : Status → List ℕ
text_of Done = []
text_of (TreeRefused fault) = codes "tree: line " ++ decimal fault.line ++ codes ": " ++ kind_text fault.kind ++ 10 ∷ []
text_of (DocRefused fault) = codes "document: line " ++ decimal fault.line ++ codes ": " ++ doc_kind_text fault.kind ++ 10 ∷ []
text_of Usage = codes "usage: boxpleat design, check, contours, made or trial\n"
text_of (GaveUp side bound) = codes "gave up: side " ++ decimal side ++ codes " bound " ++ decimal bound ++ 10 ∷ []
text_of ReadFault = codes "read fault\n"
text_of WriteFault = codes "write fault\n"
text_of NoMemory = codes "no memory\n"
text_of (No reason) = []
text_of (NoCertificate reason) = []
text_of NotBuilt = codes "not built\n"
text_of (Unsteady budget) = codes "unsteady: budget " ++ decimal budget ++ 10 ∷ []
text_of ShapeDiffers = codes "shape differs\n"

-- the number that the program ends with
abbrev pub number_of : Status → ℕ
number_of Done = 0
number_of (TreeRefused fault) = 1
number_of (DocRefused fault) = 1
number_of Usage = 2
number_of (GaveUp side bound) = 3
number_of ReadFault = 4
number_of WriteFault = 5
number_of NoMemory = 6
number_of (No reason) = 7
number_of (NoCertificate reason) = 7
number_of NotBuilt = 8
number_of (Unsteady budget) = 9
number_of ShapeDiffers = 10

-- the statuses that come behind something written
abbrev pub MayWrite : Status → Type 0
MayWrite Done = Unit {0}
MayWrite (GaveUp side bound) = Unit {0}
MayWrite WriteFault = Unit {0}
MayWrite (No reason) = Unit {0}
MayWrite (NoCertificate reason) = Unit {0}
MayWrite status = ⊥
