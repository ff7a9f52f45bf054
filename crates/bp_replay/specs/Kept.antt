-- What the tables of a kept knowledge show.
use Rattle.std.specs.Prelude.{◌≡◌, ◌≢◌, ℕ, ◌<◌, ◌≤◌, ◌^◌, List, [], ◌∷◌, Bool, true, false, IsTrue, length, slice_index_or}
use Rattle.bp_base.specs.declared.point.Axis.{Axis}
use Rattle.bp_base.specs.Tree.{TreeValue, IsLeaf}
use Rattle.bp_arrangement.specs.declared.fact.Fact.{Fact}
use Rattle.bp_lemmas.specs.Systems.{Order, never, System}
use Rattle.bp_lemmas.specs.Knowledge.{Knowledge, IsBroken}
use Rattle.bp_lemmas.specs.Hints.{Outcome, broken, now, bad}
use Rattle.bp_lemmas.specs.Standing.{IsNamed}
use Rattle.bp_replay.specs.declared.cell.Cell.{Cell}
use Rattle.bp_replay.specs.declared.known.Known.{Known}
use Rattle.bp_replay.specs.declared.unsure.Open.{Open}
use Rattle.bp_replay.specs.declared.unsure.Open.TheVariants.{None, One, Several}
use Rattle.bp_replay.specs.declared.unsure.Unsure.{Unsure}
use Rattle.bp_replay.specs.declared.unsure.Unsure.TheVariants.{Nothing, Single, More}
use Rattle.bp_replay.specs.Sets.{has}
use Rattle.bp_replay.specs.Cells.{places, rows, cell_of}
use Rattle.bp_replay.specs.Tasks.{Ties, cornered, mirrored, Task, system_of}

-- no upper code is greater
abbrev pub most_code : ℕ
most_code = 2 ^ 31

abbrev pub AreTwoLeaves : TreeValue → ℕ → ℕ → Type 0
AreTwoLeaves T i j = IsLeaf T i × IsLeaf T j × (i ≢ j)

-- the number of the cell is in the set of its row
abbrev pub has_at : List ℕ → Cell → Bool
has_at table cell = has (slice_index_or table cell.row 0) cell.column

-- of a mirror it is known that no coordinates meet an order that none meet
abbrev pub KnowsNever : Ties → (Order → Bool) → Type 0
KnowsNever (cornered corner) fails = Unit {0}
KnowsNever (mirrored kind mirror) fails = IsTrue (fails never)

-- the tables show the knowledge of the leaves' coordinates and orders
pub record Shows (t : Task) (S : Known) (K : Knowledge) : Type 0 where
  pub lowers : length S.lower ≡ places
  pub uppers : length S.upper ≡ places
  pub holdings : length S.holds ≡ places
  pub failings : length S.fails ≡ places
  pub lower : (u : ℕ) → u < places → slice_index_or S.lower u 0 ≡ K.lower u
  pub upper : (u : ℕ) → u < places → slice_index_or S.upper u 0 ≡ K.upper u
  pub small : (u : ℕ) → K.upper u ≤ most_code
  pub holds : (axis : Axis) (i j : ℕ) → AreTwoLeaves t.tree i j → has_at S.holds (cell_of t axis i j) ≡ K.holds ((system_of t).order axis i j)
  pub fails : (axis : Axis) (i j : ℕ) → AreTwoLeaves t.tree i j → has_at S.fails (cell_of t axis i j) ≡ K.fails ((system_of t).order axis i j)
  pub never : KnowsNever t.ties K.fails

-- A broken knowledge is kept by a flag alone.
abbrev pub KeptAs : Bool → Task → Known → Knowledge → Type 0
KeptAs true t S K = IsBroken (system_of t) K
KeptAs false t S K = Shows t S K × (IsBroken (system_of t) K → ⊥)

abbrev pub Keeps : Task → Known → Knowledge → Type 0
Keeps t S K = KeptAs S.broken t S K

-- how many facts are left, and which if it is one
abbrev pub IsLeft : Unsure → List Fact → Type 0
IsLeft Nothing [] = Unit {0}
IsLeft Nothing (f ∷ facts) = ⊥
IsLeft (Single f) [] = ⊥
IsLeft (Single f) (g ∷ []) = f ≡ g
IsLeft (Single f) (g ∷ h ∷ facts) = ⊥
IsLeft More [] = ⊥
IsLeft More (f ∷ []) = ⊥
IsLeft More (f ∷ g ∷ facts) = Unit {0}

-- how many orders are left, and which if it is one
abbrev pub AreOpen : System → Open → List Order → Type 0
AreOpen S None [] = Unit {0}
AreOpen S None (o ∷ orders) = ⊥
AreOpen S (One axis i j) [] = ⊥
AreOpen S (One axis i j) (o ∷ []) = S.order axis i j ≡ o
AreOpen S (One axis i j) (o ∷ p ∷ orders) = ⊥
AreOpen S Several [] = ⊥
AreOpen S Several (o ∷ []) = ⊥
AreOpen S Several (o ∷ p ∷ orders) = Unit {0}

abbrev pub NamesTwo : TreeValue → Open → Type 0
NamesTwo T None = Unit {0}
NamesTwo T (One axis i j) = AreTwoLeaves T i j
NamesTwo T Several = Unit {0}

-- the leaves of the corner have places
abbrev pub IsCornerWithin : Ties → Type 0
IsCornerWithin (cornered corner) = (corner.i < rows) × (corner.j < rows)
IsCornerWithin (mirrored kind mirror) = Unit {0}

abbrev pub IsNamedOne : Task → Unsure → Type 0
IsNamedOne t Nothing = Unit {0}
IsNamedOne t (Single f) = IsNamed (system_of t) f
IsNamedOne t More = Unit {0}

-- what a hint makes of the knowledge, where it serves and where it doesn't
abbrev pub Comes : Bool → Task → Known → Outcome → Type 0
Comes true t S broken = S.broken ≡ true
Comes true t S (now K) = Keeps t S K
Comes true t S bad = ⊥
Comes false t S broken = ⊥
Comes false t S (now K) = ⊥
Comes false t S bad = Unit {0}
