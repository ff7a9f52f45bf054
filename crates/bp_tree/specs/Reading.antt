-- Reading the edges of bytes, in either form.
use Rattle.std.specs.Prelude.{◌≡◌, ℕ, List, map, Bool, Option, None, Some, Vec, Result, Ok, Err, codes}
use Rattle.std.specs.Borrow.{Bor}
use Rattle.std.specs.declared.alloc.Global.{Global}
use Rattle.serde_json.specs.Data.{Data, array}
use Rattle.serde_json.specs.Find.{get}
use Rattle.serde_json.specs.View.{view, items_view}
use Rattle.serde_json.specs.declared.value.Value.{Value}
use Rattle.bp_base.specs.Tree.{TreeValue}
use Rattle.bp_tree.specs.declared.edge.Edge.{Edge}
use Rattle.bp_tree.specs.declared.fault.TreeKind.{TreeKind}
use Rattle.bp_tree.specs.declared.fault.TreeKind.TheVariants.{BadJson, BadShape}
use Rattle.bp_tree.specs.declared.fault.TreeFault.{TreeFault}
use Rattle.bp_tree.specs.declared.fault.ReadTree.{ReadTree}
use Rattle.bp_tree.specs.declared.fault.ReadTree.TheVariants.{Fault, NoMemory}
use Rattle.bp_tree.specs.declared.json.Element.{Element}
use Rattle.bp_tree.specs.Edges.{HasEdges}
use Rattle.bp_tree.specs.Json.{IsValue, HasElements, HasNoValue, element}
use Rattle.bp_tree.specs.Text.{GivesIn}
use Rattle.bp_tree.specs.Faults.{IsFirstIn}

-- a fault of the whole
abbrev pub of_whole : TreeKind → TreeFault
of_whole kind = record { line = 0; kind = kind }

-- What reading a value answers: that of the bytes, or that there is none.
abbrev pub ReadsValue : List ℕ → Result Value ReadTree → Type 0
ReadsValue bytes (Ok v) = IsValue bytes (view v)
ReadsValue bytes (Err (Fault f)) = (f ≡ of_whole BadJson) × HasNoValue bytes
ReadsValue bytes (Err NoMemory) = Unit

-- the edge that the code holds as an element
abbrev pub edge_of : Element → Edge
edge_of x = record { upper = x.upper.now; lower = x.lower.now; length = x.length }

-- What reading an element answers: its edge, or that it is that of none.
abbrev pub ReadsElement : Data → Option Element → Type 0
ReadsElement d None = (e : Edge) → d ≡ element e → ⊥
ReadsElement d (Some x) = d ≡ element (edge_of x)

-- What looking for a value's list answers: that of the key `edges`, or that there are no elements.
abbrev pub HasList : Data → Option (Bor (List Value)) → Type 0
HasList d None = (es : List Edge) → HasElements d es → ⊥
HasList d (Some list) = get (codes "edges") d ≡ Some (array (items_view list.now))

-- What reading the elements answers: those of the value, or that it isn't one of elements.
abbrev pub ReadsElements : Data → Result (Vec Element Global) ReadTree → Type 0
ReadsElements d (Ok found) = HasElements d (map edge_of found.items)
ReadsElements d (Err (Fault f)) = (f ≡ of_whole BadShape) × ((es : List Edge) → HasElements d es → ⊥)
ReadsElements d (Err NoMemory) = Unit

-- What reading the edges of bytes answers, in the JSON form (true) or in lines (false): T has them, or the first fault before the end.
abbrev pub ReadsEdges : Bool → List ℕ → TreeValue → Result Unit ReadTree → Type 0
ReadsEdges form bytes T (Ok done) = (es : List Edge) × GivesIn form bytes es × HasEdges T es
ReadsEdges form bytes T (Err (Fault f)) = IsFirstIn form bytes f.line f.kind
ReadsEdges form bytes T (Err NoMemory) = Unit
