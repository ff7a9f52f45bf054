-- Bytes have one first fault.
use Rattle.std.proofs.Common.{◌≡◌, inl, inr, ℕ, zero, suc, ◌+◌, ◌-◌, ◌<◌, ◌≤◌, ◌==◌, Bool, true, false, List, [], ◌∷◌, ◌++◌, length, get_or, take, drop, count_by, Err, refl, sym, ◌∙◌, ap, subst, arith}
use Rattle.std.proofs.lemmas.Bool.{cases_order}
use Rattle.std.proofs.lemmas.List.{length-append, take-append-drop, drop_more}
use Rattle.bp_base.specs.Limits.{most_leaves, most_tree_bytes}
use Rattle.bp_base.specs.Tree.{TreeValue, leaf_count}
use Rattle.bp_tree.specs.declared.edge.Edge.{Edge}
use Rattle.bp_tree.specs.declared.fault.TreeKind.{TreeKind}
use Rattle.bp_tree.specs.declared.fault.TreeKind.TheVariants.{TooLong, BadJson, BadShape, BadByte, WordCount, BadName, BadLength, UnknownParent, RepeatedName, TooManyNodes, Empty, RootIsLeaf, TooManyLeaves}
use Rattle.bp_tree.specs.declared.fault.TreeFault.{TreeFault}
use Rattle.bp_tree.specs.declared.fault.ReadTree.{ReadTree}
use Rattle.bp_tree.specs.declared.fault.ReadTree.TheVariants.{Fault, NoMemory}
use Rattle.bp_tree.specs.Lines.{lines_of, words_of, rows}
use Rattle.bp_tree.specs.Edges.{HasEdges, root_children}
use Rattle.bp_tree.specs.Json.{is_json}
use Rattle.bp_tree.specs.Text.{GivesIn, GivesEdges}
use Rattle.bp_tree.specs.Faults.{HasKind, HasElementKind, IsRow, IsFirstFault, IsFirstElementFault, IsFirstIn, IsTreeFault, FaultIn, Makes, AnswersBytes, IsOnlyAnswer, order}
use Rattle.bp_tree.specs.Reading.{ReadsEdges}
use Rattle.bp_tree.proofs.Growth.{edge_count}
use Rattle.bp_tree.proofs.Rows.{rows_append, rows_cons}
use Rattle.bp_tree.proofs.OneTree.{same_tree}
use Rattle.bp_tree.proofs.JsonForm.{JsonStop, no_value, misshapen, at_element, json_stop, no_json, none_given, one_given, given_fault}
use Rattle.bp_tree.proofs.Given.{one_list_given, none_given_too, fault_in}
use Rattle.bp_tree.proofs.Whole.{early_fault, no_tree}

kind_of : ℕ → TreeKind
kind_of zero = TooLong
kind_of (suc zero) = BadByte
kind_of (suc (suc zero)) = WordCount
kind_of (suc (suc (suc zero))) = BadName
kind_of (suc (suc (suc (suc zero)))) = BadLength
kind_of (suc (suc (suc (suc (suc zero))))) = UnknownParent
kind_of (suc (suc (suc (suc (suc (suc zero)))))) = RepeatedName
kind_of (suc (suc (suc (suc (suc (suc (suc n))))))) = TooManyNodes

-- a kind that a line can have is told by its order
ordered : (names : List (List ℕ)) (line : List ℕ) (kind : TreeKind) → HasKind names line kind → kind_of (order kind) ≡ kind
unfolding kind_of
ordered names line BadByte has = refl
ordered names line WordCount has = refl
ordered names line BadName has = refl
ordered names line BadLength has = refl
ordered names line UnknownParent has = refl
ordered names line RepeatedName has = refl
ordered names line TooManyNodes has = refl
ordered names line TooLong has = absurd has
ordered names line BadJson has = absurd has
ordered names line BadShape has = absurd has
ordered names line Empty has = absurd has
ordered names line RootIsLeaf has = absurd has
ordered names line TooManyLeaves has = absurd has

ordered_element : (names : List (List ℕ)) (e : Edge) (kind : TreeKind) → HasElementKind names e kind → kind_of (order kind) ≡ kind
unfolding kind_of
ordered_element names e BadName has = refl
ordered_element names e BadLength has = refl
ordered_element names e UnknownParent has = refl
ordered_element names e RepeatedName has = refl
ordered_element names e TooManyNodes has = refl
ordered_element names e BadByte has = absurd has
ordered_element names e WordCount has = absurd has
ordered_element names e TooLong has = absurd has
ordered_element names e BadJson has = absurd has
ordered_element names e BadShape has = absurd has
ordered_element names e Empty has = absurd has
ordered_element names e RootIsLeaf has = absurd has
ordered_element names e TooManyLeaves has = absurd has

module _ (lines : List (List ℕ)) where
  same_kind : (n : ℕ) (kind other : TreeKind) → IsFirstFault lines n kind → IsFirstFault lines n other → kind ≡ other
  same_kind n kind other first second = elim (cases_order (order kind) (order other)) [
    | inl same ↦ sym (ordered _ _ kind first.has.has) ∙ ap kind_of same ∙ ordered _ _ other second.has.has
    | inr (inl less) ↦ absurd (second.has.first kind less first.has.has)
    | inr (inr more) ↦ absurd (first.has.first other more second.has.has)
  ]

  same_line : (n m : ℕ) (kind other : TreeKind) → IsFirstFault lines n kind → IsFirstFault lines m other → n ≡ m
  same_line n m kind other first second = elim (cases_order n m) [
    | inl same ↦ same
    | inr (inl less) ↦ absurd (second.before n kind less (first.row, first.has.has))
    | inr (inr more) ↦ absurd (first.before m other more (second.row, second.has.has))
  ]

module _ (es : List Edge) where
  same_element_kind : (n : ℕ) (kind other : TreeKind) → IsFirstElementFault es n kind → IsFirstElementFault es n other → kind ≡ other
  same_element_kind n kind other first second = elim (cases_order (order kind) (order other)) [
    | inl same ↦ sym (ordered_element _ _ kind first.has.has) ∙ ap kind_of same ∙ ordered_element _ _ other second.has.has
    | inr (inl less) ↦ absurd (second.has.first kind less first.has.has)
    | inr (inr more) ↦ absurd (first.has.first other more second.has.has)
  ]

  same_element : (n m : ℕ) (kind other : TreeKind) → IsFirstElementFault es n kind → IsFirstElementFault es m other → n ≡ m
  same_element n m kind other first second = elim (cases_order n m) [
    | inl same ↦ same
    | inr (inl less) ↦ absurd (second.before n kind less (first.element, first.has.has))
    | inr (inr more) ↦ absurd (first.before m other more (second.element, second.has.has))
  ]

one_json : (bytes : List ℕ) (n m : ℕ) (kind other : TreeKind) → JsonStop bytes n kind → JsonStop bytes m other → (n ≡ m) × (kind ≡ other)
one_json bytes n m kind other (no_value a) (no_value b) = (refl, refl)
one_json bytes n m kind other (no_value a) (misshapen b) = absurd (no_json bytes a b)
one_json bytes n m kind other (no_value a) (at_element fs gives g) = absurd (a gives.0 gives.1)
one_json bytes n m kind other (misshapen a) (no_value b) = absurd (no_json bytes b a)
one_json bytes n m kind other (misshapen a) (misshapen b) = (refl, refl)
one_json bytes n m kind other (misshapen a) (at_element fs gives g) = absurd (none_given bytes fs a gives)
one_json bytes n m kind other (at_element es given f) (no_value b) = absurd (b given.0 given.1)
one_json bytes n m kind other (at_element es given f) (misshapen b) = absurd (none_given bytes es b given)
one_json bytes n m kind other (at_element es given f) (at_element fs gives g) =
    let same : es ≡ fs = one_given bytes es fs given gives in
    let f' : IsFirstElementFault fs n kind = subst (λ (xs : List Edge). IsFirstElementFault xs n kind) same f in
    let place = same_element fs n m kind other f' g in
    (place, same_element_kind fs m kind other (subst (λ (k : ℕ). IsFirstElementFault fs k kind) place f') g)

-- in either form there is one first fault before the end
one_first : (bytes : List ℕ) (form : Bool) (n m : ℕ) (kind other : TreeKind) → IsFirstIn form bytes n kind → IsFirstIn form bytes m other → (n ≡ m) × (kind ≡ other)
one_first bytes true n m kind other f g = one_json bytes n m kind other (json_stop bytes n kind f) (json_stop bytes m other g)
one_first bytes false n m kind other f g =
    let line = same_line (lines_of bytes) n m kind other f g in
    (line, same_kind (lines_of bytes) m kind other (subst (λ (k : ℕ). IsFirstFault (lines_of bytes) k kind) line f) g)

-- where a line has words, there is a row
no_row : (lines : List (List ℕ)) (n : ℕ) → IsRow lines n → rows lines ≡ [] → ⊥
no_row lines n row none =
    let less : n - 1 < length lines = omega (arith, row.from, row.to) in
    let split : lines ≡ take (n - 1) lines ++ get_or lines (n - 1) [] ∷ drop (n - 1 + 1) lines =
    sym (take-append-drop (n - 1) lines) ∙ ap (λ (ls : List (List ℕ)). take (n - 1) lines ++ ls) (drop_more lines (n - 1) [] less) in
    let rs = ap rows split ∙ rows_append (take (n - 1) lines) (get_or lines (n - 1) [] ∷ drop (n - 1 + 1) lines) ∙ ap (λ (r : List (List (List ℕ))). rows (take (n - 1) lines) ++ r) (rows_cons (get_or lines (n - 1) []) (drop (n - 1 + 1) lines) row.worded) in
    omega (arith, ap length (sym none ∙ rs), length-append (rows (take (n - 1) lines)) (words_of (get_or lines (n - 1) []) ∷ rows (drop (n - 1 + 1) lines)))

-- where there is a fault before the end, there is an edge or a line for one
not_none : (bytes : List ℕ) (form : Bool) (n : ℕ) (kind : TreeKind) → IsFirstIn form bytes n kind → GivesIn form bytes [] → ⊥
not_none bytes true n kind first none =
    let (fs, given, fault) = given_fault bytes [] n kind none first in
    omega (arith, fault.0.0, fault.0.1, ap length (one_given bytes fs [] given none))
not_none bytes false n kind first none = no_row (lines_of bytes) n first.row none

-- how far the bytes come, and what stops them there
data Stops (bytes : List ℕ) : ℕ → TreeKind → Type 0 where
  long : most_tree_bytes < length bytes → Stops bytes 0 TooLong
  early : {n : ℕ} {kind : TreeKind} → length bytes ≤ most_tree_bytes → IsFirstIn (is_json bytes) bytes n kind → Stops bytes n kind
  empty : length bytes ≤ most_tree_bytes → GivesEdges bytes [] → Stops bytes 0 Empty
  one_child : (T : TreeValue) → Makes bytes T → root_children T ≡ 1 → Stops bytes 0 RootIsLeaf
  many : (T : TreeValue) → Makes bytes T → 2 ≤ root_children T → most_leaves < leaf_count T → Stops bytes 0 TooManyLeaves

stops : (bytes : List ℕ) (n : ℕ) (kind : TreeKind) → FaultIn bytes n kind → Stops bytes n kind
stops bytes n TooLong h = subst (λ (m : ℕ). Stops bytes m TooLong) (sym h.0) (long h.1)
stops bytes n Empty h = subst (λ (m : ℕ). Stops bytes m Empty) (sym h.0) (empty h.1 h.2)
stops bytes n RootIsLeaf (zero_line, T, made, one) = subst (λ (m : ℕ). Stops bytes m RootIsLeaf) (sym zero_line) (one_child T made one)
stops bytes n TooManyLeaves (zero_line, T, made, two, more) = subst (λ (m : ℕ). Stops bytes m TooManyLeaves) (sym zero_line) (many T made two more)
stops bytes n BadJson h = early h.0 h.1
stops bytes n BadShape h = early h.0 h.1
stops bytes n BadByte h = early h.0 h.1
stops bytes n WordCount h = early h.0 h.1
stops bytes n BadName h = early h.0 h.1
stops bytes n BadLength h = early h.0 h.1
stops bytes n UnknownParent h = early h.0 h.1
stops bytes n RepeatedName h = early h.0 h.1
stops bytes n TooManyNodes h = early h.0 h.1

module _ (bytes : List ℕ) where
  no_children : (T : TreeValue) → Makes bytes T → GivesEdges bytes [] → root_children T ≡ 0
  no_children T made none = zero_of (drop 1 T.parents) (omega (arith, edge_count T made.growing made.given made.has, none_given_too bytes (is_json bytes) made.given made.gives none))
    where
      zero_of : (ps : List ℕ) → length ps ≡ 0 → count_by (λ p. p == 0) ps ≡ 0
      zero_of [] few = refl
      zero_of (p ∷ ps) few = absurd (omega (arith, few))

  one_made : (S T : TreeValue) → Makes bytes S → Makes bytes T → 1 ≤ root_children T → S ≡ T
  one_made S T s t some =
      let same : s.given ≡ t.given = one_list_given bytes (is_json bytes) S T s.growing t.growing s.given t.given s.has t.has s.gives t.gives in
      same_tree S T s.growing t.growing t.given (subst (HasEdges S) same s.has) t.has (enough t.given refl)
    where
      enough : (es : List Edge) → t.given ≡ es → 1 ≤ length t.given
      enough [] none = absurd (omega (arith, some, no_children T t (subst (GivesEdges bytes) none t.gives)))
      enough (e ∷ es) is = omega (arith, ap length is)

  no_made : (T : TreeValue) (n : ℕ) (kind : TreeKind) → Makes bytes T → IsFirstIn (is_json bytes) bytes n kind → ⊥
  no_made T n kind made first = made.faultless n kind (fault_in bytes (is_json bytes) made.given made.gives n kind first)

  one_stop : (n m : ℕ) (kind other : TreeKind) → Stops bytes n kind → Stops bytes m other → (n ≡ m) × (kind ≡ other)
  one_stop n m kind other (long a) (long b) = (refl, refl)
  one_stop n m kind other (long a) (early b f) = absurd (omega arith)
  one_stop n m kind other (long a) (empty b f) = absurd (omega arith)
  one_stop n m kind other (long a) (one_child T made one) = absurd (omega (arith, made.short))
  one_stop n m kind other (long a) (many T made two more) = absurd (omega (arith, made.short))
  one_stop n m kind other (early a f) (long b) = absurd (omega arith)
  one_stop n m kind other (early a f) (early b g) = one_first bytes (is_json bytes) n m kind other f g
  one_stop n m kind other (early a f) (empty b none) = absurd (not_none bytes (is_json bytes) n kind f none)
  one_stop n m kind other (early a f) (one_child T made one) = absurd (no_made T n kind made f)
  one_stop n m kind other (early a f) (many T made two more) = absurd (no_made T n kind made f)
  one_stop n m kind other (empty a none) (long b) = absurd (omega arith)
  one_stop n m kind other (empty a none) (early b g) = absurd (not_none bytes (is_json bytes) m other g none)
  one_stop n m kind other (empty a none) (empty b also) = (refl, refl)
  one_stop n m kind other (empty a none) (one_child T made one) = absurd (omega (arith, one, no_children T made none))
  one_stop n m kind other (empty a none) (many T made two more) = absurd (omega (arith, two, no_children T made none))
  one_stop n m kind other (one_child T made one) (long b) = absurd (omega (arith, made.short))
  one_stop n m kind other (one_child T made one) (early b g) = absurd (no_made T m other made g)
  one_stop n m kind other (one_child T made one) (empty b none) = absurd (omega (arith, one, no_children T made none))
  one_stop n m kind other (one_child T made one) (one_child U also once) = (refl, refl)
  one_stop n m kind other (one_child T made one) (many U also two more) = absurd (omega (arith, one, two, ap root_children (one_made T U made also (omega arith))))
  one_stop n m kind other (many T made two more) (long b) = absurd (omega (arith, made.short))
  one_stop n m kind other (many T made two more) (early b g) = absurd (no_made T m other made g)
  one_stop n m kind other (many T made two more) (empty b none) = absurd (omega (arith, two, no_children T made none))
  one_stop n m kind other (many T made two more) (one_child U also one) = absurd (omega (arith, one, two, ap root_children (one_made U T also made (omega arith))))
  one_stop n m kind other (many T made two more) (many U also twice most) = (refl, refl)

pub one_fault : (bytes : List ℕ) (f g : TreeFault) → IsTreeFault bytes f → IsTreeFault bytes g → g ≡ f
one_fault bytes f g first second =
    let same = one_stop bytes g.line f.line g.kind f.kind (stops bytes g.line g.kind second) (stops bytes f.line f.kind first) in
    let line = same.0 in
    let kind = same.1 in
    λ i. record { line = line i; kind = kind i }

-- what is answered where the edges end with a fault
pub stopped : (bytes : List ℕ) (T : TreeValue) (e : ReadTree) → length bytes ≤ most_tree_bytes → ReadsEdges (is_json bytes) bytes T (Err e) → AnswersBytes bytes (Err e) × IsOnlyAnswer bytes (Err e)
stopped bytes T (Fault f) short first =
    let fault : IsTreeFault bytes f = early_fault bytes f.line f.kind short first in
    ((fault, no_tree bytes f fault), λ g. one_fault bytes f g fault)
stopped bytes T NoMemory short first = (tt, tt)
