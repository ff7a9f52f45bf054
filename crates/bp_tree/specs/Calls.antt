-- What the inner calls of reading answer: those that find an edge's place, and those that add the edge of a line or of an element.
use Rattle.std.specs.Prelude.{◌≡◌, ◌≢◌, ◌⊎◌, ℕ, ◌<◌, List, [], ◌∷◌, ◌++◌, length, map, slice_index_or, Contains, All, IsTrue, Option, None, Some, Result, Ok, Err}
use Rattle.bp_base.specs.Limits.{most_nodes}
use Rattle.bp_base.specs.Name.{IsName}
use Rattle.bp_base.specs.Tree.{TreeValue}
use Rattle.bp_tree.specs.declared.edge.Edge.{Edge}
use Rattle.bp_tree.specs.declared.fault.TreeKind.{TreeKind}
use Rattle.bp_tree.specs.declared.fault.TreeKind.TheVariants.{UnknownParent, RepeatedName, TooManyNodes}
use Rattle.bp_tree.specs.declared.fault.TreeFault.{TreeFault}
use Rattle.bp_tree.specs.Lines.{content, words_of, rows, is_text_byte}
use Rattle.bp_tree.specs.Edges.{HasEdges, IsLength, edge_words}
use Rattle.bp_tree.specs.Faults.{IsFull, IsKind, IsElementKind, IsFirstFault, IsFirstElementFault}

-- T with a node more
abbrev pub with_node : TreeValue → ℕ → ℕ → List ℕ → TreeValue
with_node T parent length name =
    record { parents = T.parents ++ parent ∷ []; lengths = T.lengths ++ length ∷ []; names = T.names ++ name ∷ [] }

-- an edge may be added under place p of these names
pub record IsPlaceFor (names : List (List ℕ)) (e : Edge) (p : ℕ) : Type 0 where
  pub within : p < length names
  pub upper : slice_index_or names p [] ≡ e.upper
  pub new : Contains names e.lower → ⊥
  pub room : length names < most_nodes
  pub lower : IsName e.lower

-- What looking for an edge's parent answers: its place, or the first fault that the edge has behind these names.
abbrev pub FindsParent : List (List ℕ) → Edge → Result ℕ TreeKind → Type 0
FindsParent names e (Ok p) = IsPlaceFor names e p
FindsParent names e (Err UnknownParent) = Contains names e.upper → ⊥
FindsParent names e (Err RepeatedName) = Contains names e.upper × Contains names e.lower
FindsParent names e (Err TooManyNodes) = Contains names e.upper × (Contains names e.lower → ⊥) × IsFull names
FindsParent names e (Err other) = ⊥

-- the line's words are those of the edge, without a fault of their own
pub record IsEdgeLine (line : List ℕ) (e : Edge) : Type 0 where
  pub words : words_of line ≡ edge_words e
  pub upper : IsName e.upper
  pub lower : IsName e.lower
  pub length : IsLength e.length
  pub text : All (λ b. IsTrue (is_text_byte b)) (content line)

-- What reading a line answers: no edge where it has no words, its edge, or the first fault that its words have.
abbrev pub ReadsEdge : List ℕ → Result (Option Edge) TreeKind → Type 0
ReadsEdge line (Ok None) = words_of line ≡ []
ReadsEdge line (Ok (Some e)) = IsEdgeLine line e
ReadsEdge line (Err kind) = (words_of line ≢ []) × ((names : List (List ℕ)) → IsKind names line kind)

-- What adding a line answers: nothing changed where it has no words, its edge was added, or the first fault that it has.
abbrev pub AddsLine : TreeValue → List ℕ → TreeValue → Result Unit TreeKind → Type 0
AddsLine T line T' (Ok done) =
    ((words_of line ≡ []) × (T' ≡ T))
    ⊎ ((e : Edge) × (words_of line ≡ edge_words e) × ((es : List Edge) → HasEdges T es → HasEdges T' (es ++ e ∷ [])))
AddsLine T line T' (Err kind) = (words_of line ≢ []) × IsKind T.names line kind

-- the lines give the edges of T
abbrev pub GrewFrom : List (List ℕ) → TreeValue → Type 0
GrewFrom lines T = (es : List Edge) × (rows lines ≡ map edge_words es) × HasEdges T es

-- What reading lines answers.
abbrev pub ReadsLines : List (List ℕ) → TreeValue → Result Unit TreeFault → Type 0
ReadsLines lines T (Ok done) = GrewFrom lines T
ReadsLines lines T (Err f) = IsFirstFault lines f.line f.kind

-- What judging an element answers: its edge, which is well spelled, or the first fault that it has.
abbrev pub JudgesElement : Edge → Result Edge TreeKind → Type 0
JudgesElement x (Ok e) = (e ≡ x) × IsName x.upper × IsName x.lower × IsLength x.length
JudgesElement x (Err kind) = (names : List (List ℕ)) → IsElementKind names x kind

-- What adding an element answers: its edge was added, or the first fault that it has.
abbrev pub AddsElement : TreeValue → Edge → TreeValue → Result Unit TreeKind → Type 0
AddsElement T e T' (Ok done) = (es : List Edge) → HasEdges T es → HasEdges T' (es ++ e ∷ [])
AddsElement T e T' (Err kind) = IsElementKind T.names e kind

-- What adding elements answers.
abbrev pub AddsElements : List Edge → TreeValue → Result Unit TreeFault → Type 0
AddsElements es T (Ok done) = HasEdges T es
AddsElements es T (Err f) = IsFirstElementFault es f.line f.kind
