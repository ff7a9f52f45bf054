-- Lemmas over a system, when one stands on those before it, and when the last of a list says that nothing meets the system.
use Rattle.std.specs.Prelude.{◌≡◌, ℕ, ◌≤◌, ◌++◌, List, [], ◌∷◌, length, map, IsTrue, All}
use Rattle.bp_arrangement.specs.declared.fact.Fact.{Fact}
use Rattle.bp_arrangement.specs.declared.fact.Fact.TheVariants.{Before, NotBefore, Least, Below}
use Rattle.bp_arrangement.specs.declared.fact.Hint.{Hint}
use Rattle.bp_arrangement.specs.declared.fact.Hint.TheVariants as hint
use Rattle.bp_arrangement.specs.Facts.{denial}
use Rattle.bp_lemmas.specs.Systems.{System}
use Rattle.bp_lemmas.specs.Knowledge.{Knowledge, first_knowledge, with_fact, with_facts}
use Rattle.bp_lemmas.specs.Hints.{Closes}

-- nothing that meets the system meets all the facts together; the hints tell why
pub record Lemma : Type 0 where
  pub facts : List Fact
  pub hints : List Hint

-- the fact names what is there
abbrev pub IsNamed : System → Fact → Type 0
IsNamed S (Before axis first second) = IsTrue (S.has_order axis first second)
IsNamed S (NotBefore axis first second) = IsTrue (S.has_order axis first second)
IsNamed S (Least axis leaf code) = IsTrue (S.has_coordinate axis leaf)
IsNamed S (Below axis leaf code) = IsTrue (S.has_coordinate axis leaf)

-- the hint names a pair that is there, or one of so many earlier lemmas
abbrev pub IsHint : System → ℕ → Hint → Type 0
IsHint S count (hint.Pair pair) = IsTrue (S.has_pair pair.i pair.j)
IsHint S count (hint.Lemma number) = (1 ≤ number) × (number ≤ count)

-- behind a lemma with one fact the root knows its denial
abbrev pub grown : System → Knowledge → List Fact → Knowledge
grown S root [] = root
grown S root (f ∷ []) = with_fact S root (denial f)
grown S root (f ∷ g ∷ more) = root

abbrev pub grown_by : System → Knowledge → List (List Fact) → Knowledge
grown_by S root [] = root
grown_by S root (facts ∷ lemmas) = grown_by S (grown S root facts) lemmas

-- the root's knowledge behind lemmas with these facts
abbrev pub root_after : System → List (List Fact) → Knowledge
root_after S earlier = grown_by S (first_knowledge S) earlier

-- The lemma stands on earlier ones with these facts. All that it names is there, wherever it names it.
pub record Stands (S : System) (earlier : List (List Fact)) (l : Lemma) : Type 0 where
  pub facts : All (IsNamed S) l.facts
  pub hints : All (IsHint S (length earlier)) l.hints
  pub closed : Closes S earlier l.hints (with_facts S (root_after S earlier) l.facts)

-- each lemma stands on those before it
abbrev pub EachStands : System → List (List Fact) → List Lemma → Type 0
EachStands S earlier [] = Unit {0}
EachStands S earlier (l ∷ lemmas) = Stands S earlier l × EachStands S (earlier ++ l.facts ∷ []) lemmas

-- the last of at least one has no facts
abbrev pub EndsEmpty : List (List Fact) → Type 0
EndsEmpty [] = ⊥
EndsEmpty (facts ∷ []) = facts ≡ []
EndsEmpty (facts ∷ more ∷ lemmas) = EndsEmpty (more ∷ lemmas)

abbrev pub facts_of : List Lemma → List (List Fact)
facts_of lemmas = map (λ l. l.facts) lemmas
