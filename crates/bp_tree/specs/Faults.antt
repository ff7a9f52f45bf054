-- The first fault of bytes that are no tree.
use Rattle.std.specs.Prelude.{◌≡◌, ◌≢◌, ◌⊎◌, ℕ, ◌-◌, ◌<◌, ◌≤◌, List, [], ◌++◌, length, map, take, Bool, true, false, IsTrue, slice_index_or, All, Contains, Result, Ok, Err}
use Rattle.bp_base.specs.Limits.{most_nodes, most_leaves, most_tree_bytes}
use Rattle.bp_base.specs.Name.{IsName}
use Rattle.bp_base.specs.Tree.{TreeValue, leaf_count}
use Rattle.bp_text.specs.Numbers.{IsNumber}
use Rattle.bp_tree.specs.declared.edge.Edge.{Edge}
use Rattle.bp_tree.specs.declared.fault.TreeKind.{TreeKind}
use Rattle.bp_tree.specs.declared.fault.TreeKind.TheVariants.{TooLong, BadJson, BadShape, BadByte, WordCount, BadName, BadLength, UnknownParent, RepeatedName, TooManyNodes, Empty, RootIsLeaf, TooManyLeaves}
use Rattle.bp_tree.specs.declared.fault.TreeFault.{TreeFault}
use Rattle.bp_tree.specs.declared.fault.ReadTree.{ReadTree}
use Rattle.bp_tree.specs.declared.fault.ReadTree.TheVariants.{Fault, NoMemory}
use Rattle.bp_tree.specs.Lines.{lines_of, content, words_of, rows, word, is_text_byte}
use Rattle.bp_tree.specs.Edges.{HasEdges, IsGrowing, IsLength, names_of, root_children}
use Rattle.bp_tree.specs.Json.{is_json, GivesElements, HasNoValue, HasNoElements}
use Rattle.bp_tree.specs.Text.{GivesEdges, TreeOf}

-- the line isn't the first with words, and its upper name is none of the names so far
abbrev pub LacksUpper : List (List ℕ) → List ℕ → Type 0
LacksUpper names upper = (names ≢ []) × (Contains names upper → ⊥)

-- its lower name is one of the names so far, or on the first line its upper name
abbrev pub RepeatsLower : List (List ℕ) → List ℕ → List ℕ → Type 0
RepeatsLower names upper lower = Contains names lower ⊎ ((names ≡ []) × (lower ≡ upper))

-- one more name would be one too many
abbrev pub IsFull : List (List ℕ) → Type 0
IsFull names = most_nodes ≤ length names

-- A line has this fault, where these are the names so far.
abbrev pub HasKind : List (List ℕ) → List ℕ → TreeKind → Type 0
HasKind names line BadByte = All (λ b. IsTrue (is_text_byte b)) (content line) → ⊥
HasKind names line WordCount = length (words_of line) ≢ 3
HasKind names line BadName = IsName (word (words_of line) 0) × IsName (word (words_of line) 1) → ⊥
HasKind names line BadLength = (n : ℕ) → IsNumber (word (words_of line) 2) n → IsLength n → ⊥
HasKind names line UnknownParent = LacksUpper names (word (words_of line) 0)
HasKind names line RepeatedName = RepeatsLower names (word (words_of line) 0) (word (words_of line) 1)
HasKind names line TooManyNodes = IsFull names
HasKind names line other = ⊥

-- the order of the kinds that a line can have
abbrev pub order : TreeKind → ℕ
order BadByte = 1
order WordCount = 2
order BadName = 3
order BadLength = 4
order UnknownParent = 5
order RepeatedName = 6
order TooManyNodes = 7
order other = 0

-- the first kind, in this order, that the line has
pub record IsKind (names : List (List ℕ)) (line : List ℕ) (kind : TreeKind) : Type 0 where
  pub has : HasKind names line kind
  pub first : (other : TreeKind) → order other < order kind → HasKind names line other → ⊥

-- the names that these rows make: the first upper name, and all lower names
abbrev pub names_in : List (List (List ℕ)) → List (List ℕ)
names_in rs = take 1 (map (λ words. word words 0) rs) ++ map (λ words. word words 1) rs

-- the line of number n, counted from 1
abbrev pub line_at : List (List ℕ) → ℕ → List ℕ
line_at lines n = slice_index_or lines (n - 1) []

-- the names that the lines before line n make
abbrev pub names_before : List (List ℕ) → ℕ → List (List ℕ)
names_before lines n = names_in (rows (take (n - 1) lines))

-- line n is one with words
pub record IsRow (lines : List (List ℕ)) (n : ℕ) : Type 0 where
  pub from : 1 ≤ n
  pub to : n ≤ length lines
  pub worded : words_of (line_at lines n) ≢ []

-- line n has this fault
abbrev pub HasFault : List (List ℕ) → ℕ → TreeKind → Type 0
HasFault lines n kind = IsRow lines n × HasKind (names_before lines n) (line_at lines n) kind

-- The first line with a fault is line n, and this kind is the first that it has.
pub record IsFirstFault (lines : List (List ℕ)) (n : ℕ) (kind : TreeKind) : Type 0 where
  pub row : IsRow lines n
  pub has : IsKind (names_before lines n) (line_at lines n) kind
  pub before : (m : ℕ) (other : TreeKind) → m < n → HasFault lines m other → ⊥

-- An element has this fault, where these are the names so far.
abbrev pub HasElementKind : List (List ℕ) → Edge → TreeKind → Type 0
HasElementKind names e BadName = IsName e.upper × IsName e.lower → ⊥
HasElementKind names e BadLength = IsLength e.length → ⊥
HasElementKind names e UnknownParent = LacksUpper names e.upper
HasElementKind names e RepeatedName = RepeatsLower names e.upper e.lower
HasElementKind names e TooManyNodes = IsFull names
HasElementKind names e other = ⊥

-- the first kind, in the same order, that the element has
pub record IsElementKind (names : List (List ℕ)) (e : Edge) (kind : TreeKind) : Type 0 where
  pub has : HasElementKind names e kind
  pub first : (other : TreeKind) → order other < order kind → HasElementKind names e other → ⊥

-- the element of number n, counted from 1
abbrev pub element_at : List Edge → ℕ → Edge
element_at es n = slice_index_or es (n - 1) (record { upper = []; lower = []; length = 0 })

abbrev pub IsElement : List Edge → ℕ → Type 0
IsElement es n = (1 ≤ n) × (n ≤ length es)

-- element n has this fault
abbrev pub HasElementFault : List Edge → ℕ → TreeKind → Type 0
HasElementFault es n kind = IsElement es n × HasElementKind (names_of (take (n - 1) es)) (element_at es n) kind

-- The first element with a fault is element n, and this kind is the first that it has.
pub record IsFirstElementFault (es : List Edge) (n : ℕ) (kind : TreeKind) : Type 0 where
  pub element : IsElement es n
  pub has : IsElementKind (names_of (take (n - 1) es)) (element_at es n) kind
  pub before : (m : ℕ) (other : TreeKind) → m < n → HasElementFault es m other → ⊥

-- the first fault of bytes in the JSON form: of the whole value in line 0, or else of an element
abbrev pub IsJsonFault : List ℕ → ℕ → TreeKind → Type 0
IsJsonFault bytes n BadJson = (n ≡ 0) × HasNoValue bytes
IsJsonFault bytes n BadShape = (n ≡ 0) × HasNoElements bytes
IsJsonFault bytes n kind = (es : List Edge) × GivesElements bytes es × IsFirstElementFault es n kind

-- A line or an element has this fault, in the JSON form (true) or in lines (false).
abbrev pub HasFaultIn : Bool → List ℕ → ℕ → TreeKind → Type 0
HasFaultIn true bytes n kind = (es : List Edge) × GivesElements bytes es × HasElementFault es n kind
HasFaultIn false bytes n kind = HasFault (lines_of bytes) n kind

-- This is the first fault before the end.
abbrev pub IsFirstIn : Bool → List ℕ → ℕ → TreeKind → Type 0
IsFirstIn true bytes n kind = IsJsonFault bytes n kind
IsFirstIn false bytes n kind = IsFirstFault (lines_of bytes) n kind

-- No line or element has a fault, and T is what they make, which needn't be a tree yet.
pub record Makes (bytes : List ℕ) (T : TreeValue) : Type 0 where
  pub short : length bytes ≤ most_tree_bytes
  pub faultless : (n : ℕ) (kind : TreeKind) → HasFaultIn (is_json bytes) bytes n kind → ⊥
  pub growing : IsGrowing T
  pub given : List Edge
  pub gives : GivesEdges bytes given
  pub has : HasEdges T given

-- The first fault of the bytes is of this kind, in line or element n, or in line 0 where it is of the whole.
abbrev pub FaultIn : List ℕ → ℕ → TreeKind → Type 0
FaultIn bytes n TooLong = (n ≡ 0) × (most_tree_bytes < length bytes)
FaultIn bytes n Empty = (n ≡ 0) × (length bytes ≤ most_tree_bytes) × GivesEdges bytes []
FaultIn bytes n RootIsLeaf = (n ≡ 0) × (T : TreeValue) × Makes bytes T × (root_children T ≡ 1)
FaultIn bytes n TooManyLeaves = (n ≡ 0) × (T : TreeValue) × Makes bytes T × (2 ≤ root_children T) × (most_leaves < leaf_count T)
FaultIn bytes n kind = (length bytes ≤ most_tree_bytes) × IsFirstIn (is_json bytes) bytes n kind

abbrev pub IsTreeFault : List ℕ → TreeFault → Type 0
IsTreeFault bytes f = FaultIn bytes f.line f.kind

-- the bytes are those of no tree
abbrev pub IsNoTree : List ℕ → Type 0
IsNoTree bytes = (T : TreeValue) → TreeOf bytes T → ⊥

-- What reading answers: the tree of the bytes, or their first fault, and then they are of no tree.
abbrev pub AnswersBytes : List ℕ → Result TreeValue ReadTree → Type 0
AnswersBytes bytes (Ok T) = TreeOf bytes T
AnswersBytes bytes (Err (Fault f)) = IsTreeFault bytes f × IsNoTree bytes
AnswersBytes bytes (Err NoMemory) = Unit

-- No other tree and no other fault is that of the bytes.
abbrev pub IsOnlyAnswer : List ℕ → Result TreeValue ReadTree → Type 0
IsOnlyAnswer bytes (Ok T) = ((U : TreeValue) → TreeOf bytes U → U ≡ T) × ((f : TreeFault) → IsTreeFault bytes f → ⊥)
IsOnlyAnswer bytes (Err (Fault f)) = (g : TreeFault) → IsTreeFault bytes g → g ≡ f
IsOnlyAnswer bytes (Err NoMemory) = Unit

-- Bytes are those of one tree or have one first fault, and not both; neither can't be.
pub record HasOneAnswer (bytes : List ℕ) : Type 0 where
  pub tree : (T U : TreeValue) → TreeOf bytes T → TreeOf bytes U → T ≡ U
  pub either : (T : TreeValue) (f : TreeFault) → TreeOf bytes T → IsTreeFault bytes f → ⊥
  pub fault : (f g : TreeFault) → IsTreeFault bytes f → IsTreeFault bytes g → f ≡ g
  pub some : IsNoTree bytes → ((f : TreeFault) → IsTreeFault bytes f → ⊥) → ⊥
