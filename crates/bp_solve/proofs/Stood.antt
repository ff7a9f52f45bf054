-- Lemmas that stand one by one, as a replay is fed with them.
use Rattle.std.proofs.Common.{◌≡◌, ◌<◌, ◌≤◌, Option, None, Some, IfSome, Bool, true, IsTrue, if◌then◌else◌, List, [], ◌∷◌, ◌++◌, map, All, refl, sym, ap, ◌∙◌, subst, ℕ}
use Rattle.std.proofs.lemmas.List.{map-append}
use Rattle.bp_base.specs.declared.path.Pair.{Pair}
use Rattle.bp_base.specs.declared.point.Sheet.{Sheet}
use Rattle.bp_base.specs.Limits.{most_number}
use Rattle.bp_base.specs.Tree.{TreeValue}
use Rattle.bp_arrangement.specs.declared.fact.Fact.{Fact}
use Rattle.bp_arrangement.specs.declared.fact.Hint.{Hint}
use Rattle.bp_arrangement.specs.Swaps.{IsAdmissible, IsCorner, head}
use Rattle.bp_lemmas.specs.Standing.{Lemma as Standing, EachStands, EndsEmpty, Stands, facts_of}
use Rattle.bp_lemmas.specs.Proves.{Proves}
use Rattle.bp_certificate.specs.declared.certificate.Lemma.{Lemma}
use Rattle.bp_certificate.specs.declared.certificate.Lemmas.{Lemmas}
use Rattle.bp_verify.specs.Certifies.{ProvesFrom, lemma_of}
use Rattle.bp_replay.specs.Replays.{ReplayValue}
use Rattle.bp_replay.specs.Tasks.{Task, system_of}
use Rattle.bp_replay.proofs.Feeding.{each_last}
use Rattle.bp_solve.specs.Steps.{AreFed, AreShown, IsFed, task_of}

pub none_fed : (t : Task) (ls : List Lemma) (r : ReplayValue) → ls ≡ [] → r ≡ record { task = t; lemmas = [] } → AreFed t ls r
none_fed t ls r empty is =
    subst (λ (x : ReplayValue). AreFed t ls x) (sym is) (subst (λ (x : List Lemma). AreFed t x (record { task = t; lemmas = [] })) (sym empty) (record { replay = refl; stand = tt }))

facts_more : (ls : List Lemma) (l : Lemma) → facts_of (map lemma_of (ls ++ l ∷ [])) ≡ facts_of (map lemma_of ls) ++ l.facts ∷ []
facts_more ls l =
    ap facts_of (map-append lemma_of ls (l ∷ [])) ∙ map-append (λ (m : Standing). m.facts) (map lemma_of ls) (lemma_of l ∷ [])

pub one_fed : (t : Task) (ls more : List Lemma) (l : Lemma) (r next : ReplayValue) → AreFed t ls r → IsFed r l next → more ≡ ls ++ l ∷ [] → AreFed t more next
one_fed t ls more l r next fed one is =
    let S = system_of t in
    let here : Stands S (facts_of (map lemma_of ls)) (lemma_of l) = subst (λ (x : ReplayValue). Stands (system_of x.task) x.lemmas (lemma_of l)) fed.replay one.stands in
    let stand : EachStands S [] (map lemma_of ls ++ lemma_of l ∷ []) = each_last S [] (map lemma_of ls) (lemma_of l) fed.stand here in
    let was : next ≡ record { task = t; lemmas = facts_of (map lemma_of ls) ++ l.facts ∷ [] } = one.replay ∙ ap (λ (x : ReplayValue). record { task = x.task; lemmas = x.lemmas ++ l.facts ∷ [] }) fed.replay in
    let all : AreFed t (ls ++ l ∷ []) next = record {
      replay = was ∙ ap (λ (fs : List (List Fact)). record { task = t; lemmas = fs }) (sym (facts_more ls l));
      stand = subst (EachStands S []) (sym (map-append lemma_of ls (l ∷ []))) stand;
    } in
    subst (λ (x : List Lemma). AreFed t x next) (sym is) all

pub all_fed : (T : TreeValue) (G : Sheet) (bound : ℕ) (corner : Pair) (swaps : List (List Pair)) (ls : List Lemma) (r : ReplayValue) → IsCorner T corner.i corner.j → All (IsAdmissible T corner.i corner.j) swaps → AreFed (task_of T G bound corner (map head swaps)) ls r → EndsEmpty r.lemmas → Proves T G bound corner.i corner.j swaps (map lemma_of ls)
all_fed T G bound corner swaps ls r two admissible fed ends = record {
  corner = two;
  admissible = admissible;
  stand = fed.stand;
  ends = subst (λ (x : ReplayValue). EndsEmpty x.lemmas) fed.replay ends;
}

-- a lemma of these facts and hints, which stood
pub is_fed : (before after : ReplayValue) (facts : List Fact) (hints : List Hint) (fs : List Fact) (hs : List Hint) → fs ≡ facts → hs ≡ hints → (stood : Bool) → stood ≡ true → (IsTrue stood → Stands (system_of before.task) before.lemmas (record { facts = facts; hints = hints })) × (Stands (system_of before.task) before.lemmas (record { facts = facts; hints = hints }) → IsTrue stood) → after ≡ (if stood then record { task = before.task; lemmas = before.lemmas ++ facts ∷ [] } else before) → IsFed before (record { facts = fs; hints = hs }) after
is_fed before after facts hints fs hs same_facts same_hints stood so stands kept =
    let S = system_of before.task in
    let there : Stands S before.lemmas (record { facts = fs; hints = hs }) = subst (λ (l : Standing). Stands S before.lemmas l) (λ i. record { facts = sym same_facts i; hints = sym same_hints i }) (stands.0 so) in
    let now : after ≡ record { task = before.task; lemmas = before.lemmas ++ facts ∷ [] } = kept ∙ ap (λ (b : Bool). if b then record { task = before.task; lemmas = before.lemmas ++ facts ∷ [] } else before) so in
    record { stands = there; replay = now ∙ ap (λ (f : List Fact). record { task = before.task; lemmas = before.lemmas ++ f ∷ [] }) (sym same_facts) }

-- lemmas that prove a bound above the floor
pub shown_above : (T : TreeValue) (G : Sheet) (floor bound : ℕ) → floor < bound → bound ≤ most_number → (o : Option Lemmas) → IfSome o (λ L. ProvesFrom T G bound L L.corner) → AreShown T G floor bound o
shown_above T G floor bound less small None h = tt
shown_above T G floor bound less small (Some L) h = (less, small, h)
