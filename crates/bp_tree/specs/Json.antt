-- The JSON form of a tree: an object whose key `edges` holds one element for each edge.
use Rattle.std.specs.Prelude.{◌≡◌, ◌==◌, ◌||◌, ℕ, List, [], ◌∷◌, map, Bool, false, Some, if◌then◌else◌, codes, IsUtf8}
use Rattle.serde_json.specs.Data.{Data, array, number, string, unsigned, no_items, item}
use Rattle.serde_json.specs.Find.{get}
use Rattle.serde_json.specs.Read.{read}
use Rattle.serde_json.specs.View.{items_of}
use Rattle.bp_tree.specs.declared.edge.Edge.{Edge}

-- a space, a tab, LF or CR
abbrev pub is_space : ℕ → Bool
is_space b = (b == 32) || (b == 9) || (b == 10) || (b == 13)

-- The first byte that is no space is `{`.
unfoldable pub is_json : List ℕ → Bool
is_json [] = false
is_json (b ∷ bs) = if is_space b then is_json bs else b == 123

-- The value of the bytes: which texts have one, and which, is the promise of `serde_json`.
unfoldable pub IsValue : List ℕ → Data → Type 0
IsValue bytes d = IsUtf8 bytes × (read bytes ≡ Some d)

-- An edge's element: a list of two texts, which needn't be names, and a number that `as_u64` gives, which needn't be a length.
abbrev pub element : Edge → Data
element e = array (item (string e.upper) (item (string e.lower) (item (number (unsigned e.length)) no_items)))

-- The value has a key `edges`, and its list is of these edges' elements.
unfoldable pub HasElements : Data → List Edge → Type 0
HasElements d es = get (codes "edges") d ≡ Some (array (items_of (map element es)))

-- The bytes have a value with these elements.
abbrev pub GivesElements : List ℕ → List Edge → Type 0
GivesElements bytes es = (d : Data) × IsValue bytes d × HasElements d es

-- The bytes have no value.
abbrev pub HasNoValue : List ℕ → Type 0
HasNoValue bytes = (d : Data) → IsValue bytes d → ⊥

-- The bytes have a value, and it isn't one of elements.
abbrev pub HasNoElements : List ℕ → Type 0
HasNoElements bytes = (d : Data) × IsValue bytes d × ((es : List Edge) → HasElements d es → ⊥)
