-- Adding a line's edge, or not.
use Rattle.std.proofs.Common.{◌≡◌, inr, ℕ, ◌<◌, List, [], length, Result, Ok, Err, sym, ◌∙◌, ap, subst, arith}
use Rattle.bp_base.specs.Name.{IsName}
use Rattle.bp_base.specs.Tree.{TreeValue}
use Rattle.bp_tree.specs.declared.edge.Edge.{Edge}
use Rattle.bp_tree.specs.declared.fault.TreeKind.{TreeKind}
use Rattle.bp_tree.specs.declared.fault.TreeKind.TheVariants.{TooLong, BadJson, BadShape, BadByte, WordCount, BadName, BadLength, UnknownParent, RepeatedName, TooManyNodes, Empty, RootIsLeaf, TooManyLeaves}
use Rattle.bp_tree.specs.Lines.{words_of, word}
use Rattle.bp_tree.specs.Edges.{edge_words, IsLength}
use Rattle.bp_tree.specs.Faults.{HasKind, IsKind, HasElementKind, IsElementKind, LacksUpper, RepeatsLower, IsFull, order}
use Rattle.bp_tree.specs.Calls.{IsEdgeLine, AddsLine, JudgesElement, AddsElement}
use Rattle.bp_tree.specs.Growing.{AddsEdge}

module _ (line : List ℕ) (e : Edge) (is : IsEdgeLine line e) (names : List (List ℕ)) where
  word_is : (i : ℕ) → word (words_of line) i ≡ word (edge_words e) i
  word_is i = ap (λ (ws : List (List ℕ)). word ws i) is.words

  -- none of the first four kinds
  own : (kind : TreeKind) → order kind < 5 → HasKind names line kind → ⊥
  own BadByte early bad = bad is.text
  own WordCount early bad = bad (ap length is.words)
  own BadName early bad = bad (subst IsName (sym (word_is 0)) is.upper, subst IsName (sym (word_is 1)) is.lower)
  own BadLength early bad = bad e.length (word_is 2, omega (arith, is.length.1)) is.length
  own UnknownParent early bad = omega arith
  own RepeatedName early bad = omega arith
  own TooManyNodes early bad = omega arith
  own TooLong early bad = bad
  own BadJson early bad = bad
  own BadShape early bad = bad
  own Empty early bad = bad
  own RootIsLeaf early bad = bad
  own TooManyLeaves early bad = bad

  lacks : LacksUpper names (word (words_of line) 0) → LacksUpper names e.upper
  lacks h = subst (LacksUpper names) (word_is 0) h

  repeats : RepeatsLower names (word (words_of line) 0) (word (words_of line) 1) → RepeatsLower names e.upper e.lower
  repeats h = subst (λ (w : List ℕ). RepeatsLower names w e.lower) (word_is 0) (subst (RepeatsLower names (word (words_of line) 0)) (word_is 1) h)

  kind_unknown : LacksUpper names e.upper → IsKind names line UnknownParent
  kind_unknown h = record { has = subst (LacksUpper names) (sym (word_is 0)) h; first = λ other early bad. own other early bad }

  kind_repeated : (LacksUpper names e.upper → ⊥) → RepeatsLower names e.upper e.lower → IsKind names line RepeatedName
  kind_repeated known h = record {
    has = subst (RepeatsLower names (word (words_of line) 0)) (sym (word_is 1)) (subst (λ (w : List ℕ). RepeatsLower names w e.lower) (sym (word_is 0)) h);
    first = first;
  }
    where
      first : (other : TreeKind) → order other < 6 → HasKind names line other → ⊥
      first UnknownParent early bad = known (lacks bad)
      first BadByte early bad = own BadByte (omega arith) bad
      first WordCount early bad = own WordCount (omega arith) bad
      first BadName early bad = own BadName (omega arith) bad
      first BadLength early bad = own BadLength (omega arith) bad
      first RepeatedName early bad = omega arith
      first TooManyNodes early bad = omega arith
      first TooLong early bad = bad
      first BadJson early bad = bad
      first BadShape early bad = bad
      first Empty early bad = bad
      first RootIsLeaf early bad = bad
      first TooManyLeaves early bad = bad

  kind_many : (LacksUpper names e.upper → ⊥) → (RepeatsLower names e.upper e.lower → ⊥) → IsFull names → IsKind names line TooManyNodes
  kind_many known new full = record { has = full; first = first }
    where
      first : (other : TreeKind) → order other < 7 → HasKind names line other → ⊥
      first UnknownParent early bad = known (lacks bad)
      first RepeatedName early bad = new (repeats bad)
      first BadByte early bad = own BadByte (omega arith) bad
      first WordCount early bad = own WordCount (omega arith) bad
      first BadName early bad = own BadName (omega arith) bad
      first BadLength early bad = own BadLength (omega arith) bad
      first TooManyNodes early bad = omega arith
      first TooLong early bad = bad
      first BadJson early bad = bad
      first BadShape early bad = bad
      first Empty early bad = bad
      first RootIsLeaf early bad = bad
      first TooManyLeaves early bad = bad

pub line_added : (T T' : TreeValue) (line : List ℕ) (e : Edge) (r : Result Unit TreeKind) → IsEdgeLine line e → AddsEdge T e T' r → AddsLine T line T' r
line_added T T' line e (Ok done) is adds = inr (e, is.words, adds)
line_added T T' line e (Err kind) is adds = (some, go kind adds)
  where
    some : words_of line ≡ [] → ⊥
    some none = omega (arith, ap length (sym is.words ∙ none))

    go : (k : TreeKind) → AddsEdge T e T' (Err k) → IsKind T.names line k
    go UnknownParent h = kind_unknown line e is T.names h
    go RepeatedName h = kind_repeated line e is T.names h.0 h.1
    go TooManyNodes h = kind_many line e is T.names h.0 h.1 h.2
    go BadByte h = absurd h
    go WordCount h = absurd h
    go BadName h = absurd h
    go BadLength h = absurd h
    go TooLong h = absurd h
    go BadJson h = absurd h
    go BadShape h = absurd h
    go Empty h = absurd h
    go RootIsLeaf h = absurd h
    go TooManyLeaves h = absurd h

-- an element that is well spelled
module _ (names : List (List ℕ)) (e : Edge) (upper : IsName e.upper) (lower : IsName e.lower) (long : IsLength e.length) where
  spelled : (kind : TreeKind) → order kind < 5 → HasElementKind names e kind → ⊥
  spelled BadName early bad = bad (upper, lower)
  spelled BadLength early bad = bad long
  spelled UnknownParent early bad = omega arith
  spelled RepeatedName early bad = omega arith
  spelled TooManyNodes early bad = omega arith
  spelled BadByte early bad = bad
  spelled WordCount early bad = bad
  spelled TooLong early bad = bad
  spelled BadJson early bad = bad
  spelled BadShape early bad = bad
  spelled Empty early bad = bad
  spelled RootIsLeaf early bad = bad
  spelled TooManyLeaves early bad = bad

  before_repeated : (LacksUpper names e.upper → ⊥) → (kind : TreeKind) → order kind < 6 → HasElementKind names e kind → ⊥
  before_repeated known UnknownParent early bad = known bad
  before_repeated known BadName early bad = spelled BadName (omega arith) bad
  before_repeated known BadLength early bad = spelled BadLength (omega arith) bad
  before_repeated known RepeatedName early bad = omega arith
  before_repeated known TooManyNodes early bad = omega arith
  before_repeated known BadByte early bad = bad
  before_repeated known WordCount early bad = bad
  before_repeated known TooLong early bad = bad
  before_repeated known BadJson early bad = bad
  before_repeated known BadShape early bad = bad
  before_repeated known Empty early bad = bad
  before_repeated known RootIsLeaf early bad = bad
  before_repeated known TooManyLeaves early bad = bad

  before_many : (LacksUpper names e.upper → ⊥) → (RepeatsLower names e.upper e.lower → ⊥) → (kind : TreeKind) → order kind < 7 → HasElementKind names e kind → ⊥
  before_many known new RepeatedName early bad = new bad
  before_many known new UnknownParent early bad = known bad
  before_many known new BadName early bad = spelled BadName (omega arith) bad
  before_many known new BadLength early bad = spelled BadLength (omega arith) bad
  before_many known new TooManyNodes early bad = omega arith
  before_many known new BadByte early bad = bad
  before_many known new WordCount early bad = bad
  before_many known new TooLong early bad = bad
  before_many known new BadJson early bad = bad
  before_many known new BadShape early bad = bad
  before_many known new Empty early bad = bad
  before_many known new RootIsLeaf early bad = bad
  before_many known new TooManyLeaves early bad = bad

refused : (T T' : TreeValue) (e : Edge) (kind : TreeKind) → IsName e.upper → IsName e.lower → IsLength e.length → AddsEdge T e T' (Err kind) → IsElementKind T.names e kind
refused T T' e UnknownParent upper lower long h = record { has = h; first = spelled T.names e upper lower long }
refused T T' e RepeatedName upper lower long h = record { has = h.1; first = before_repeated T.names e upper lower long h.0 }
refused T T' e TooManyNodes upper lower long h = record { has = h.2; first = before_many T.names e upper lower long h.0 h.1 }
refused T T' e BadByte upper lower long h = absurd h
refused T T' e WordCount upper lower long h = absurd h
refused T T' e BadName upper lower long h = absurd h
refused T T' e BadLength upper lower long h = absurd h
refused T T' e TooLong upper lower long h = absurd h
refused T T' e BadJson upper lower long h = absurd h
refused T T' e BadShape upper lower long h = absurd h
refused T T' e Empty upper lower long h = absurd h
refused T T' e RootIsLeaf upper lower long h = absurd h
refused T T' e TooManyLeaves upper lower long h = absurd h

pub element_added : (T T' : TreeValue) (x e : Edge) (r : Result Unit TreeKind) → JudgesElement x (Ok e) → AddsEdge T e T' r → AddsElement T x T' r
element_added T T' x e (Ok done) (is, upper, lower, long) adds = subst (λ (y : Edge). AddsElement T y T' (Ok done)) is adds
element_added T T' x e (Err kind) (is, upper, lower, long) adds =
    refused T T' x kind upper lower long (subst (λ (y : Edge). AddsEdge T y T' (Err kind)) is adds)
