-- A replay with a lemma more, and what one proves whose last lemma has no facts.
use Rattle.std.proofs.Common.{◌≡◌, ◌≢◌, ℕ, zero, suc, ◌-◌, ◌<◌, ◌≤◌, ◌==◌, ◌++◌, Bool, IsTrue, List, [], ◌∷◌, length, get_or, map, All, refl, sym, ◌∙◌, ap, subst, arith}
use Rattle.std.proofs.lemmas.Bool.{eqb-true, eq-eqb}
use Rattle.std.proofs.lemmas.List.{append-nil, append_assoc, map-append}
use Rattle.std.proofs.lemmas.List.Elements.{All-append, All-cons}
use Rattle.bp_base.specs.declared.path.Pair.{Pair}
use Rattle.bp_base.specs.declared.point.Sheet.{Sheet}
use Rattle.bp_base.specs.Tree.{TreeValue, IsTree, IsLeaf, leaf_count}
use Rattle.bp_arrangement.specs.Swaps.{head, leaves_of}
use Rattle.bp_arrangement.specs.declared.fact.Fact.{Fact}
use Rattle.bp_arrangement.specs.declared.fact.Fact.TheVariants.{Before, NotBefore, Least, Below}
use Rattle.bp_arrangement.specs.Facts.{denial}
use Rattle.bp_lemmas.specs.Systems.{System}
use Rattle.bp_lemmas.specs.Knowledge.{Knowledge, first_knowledge, with_fact}
use Rattle.bp_lemmas.specs.Standing.{Lemma, IsNamed, Stands, EachStands, EndsEmpty, facts_of, grown, root_after}
use Rattle.bp_lemmas.specs.Trees.{tree_system}
use Rattle.bp_lemmas.proofs.Law.{grown_last}
use Rattle.bp_lemmas.proofs.Trees.{lemmas_law}
use Rattle.bp_mirror.specs.Systems.{mirror_system}
use Rattle.bp_mirror.proofs.Bounding.{mirrored_law}
use Rattle.bp_replay.specs.Readings.{HavePlaces}
use Rattle.bp_replay.specs.declared.known.Known.{Known}
use Rattle.bp_replay.specs.declared.packed.Packed.{Packed}
use Rattle.bp_replay.specs.Tasks.{Ties, cornered, mirrored, Task, system_by, system_of, ShownBy, IsBelowShown}
use Rattle.bp_replay.specs.Cells.{rows}
use Rattle.bp_replay.specs.Kept.{Keeps}
use Rattle.bp_replay.specs.Stored.{IsSmall, facts_in}
use Rattle.bp_replay.specs.Replays.{IsSmallCode, IsTie, IsSwapOf, IsReplay}
use Rattle.bp_replay.proofs.Tied.{named_two, named_leaf}

-- facts that name leaves, and whose codes are small, can be packed
pub small_fact : (t : Task) → leaf_count t.tree < rows → (f : Fact) → IsNamed (system_of t) f → IsSmallCode f → IsSmall f
small_fact t few (Before axis i j) named code = let two = named_two t axis i j named in (omega (arith, two.0, few), omega (arith, two.1, few))
small_fact t few (NotBefore axis i j) named code = let two = named_two t axis i j named in (omega (arith, two.0, few), omega (arith, two.1, few))
small_fact t few (Least axis i bound) named code = let leaf = named_leaf t axis i named in (omega (arith, leaf, few), code)
small_fact t few (Below axis i bound) named code = let leaf = named_leaf t axis i named in (omega (arith, leaf, few), code)

-- the root behind a lemma with one fact, and behind another
pub after_one : (t : Task) (S : Known) (K : Knowledge) (facts : List Fact) (g d : Fact) → length facts ≡ 1 → g ≡ denial (get_or facts 0 d) → Keeps t S (with_fact (system_of t) K g) → Keeps t S (grown (system_of t) K facts)
after_one t S K [] g d one is keeps = absurd (omega (arith, one))
after_one t S K (f ∷ []) g d one is keeps = subst (λ (h : Fact). Keeps t S (with_fact (system_of t) K h)) is keeps
after_one t S K (f ∷ h ∷ more) g d one is keeps = absurd (omega (arith, one))

pub after_other : (t : Task) (S : Known) (K : Knowledge) (facts : List Fact) → length facts ≢ 1 → Keeps t S K → Keeps t S (grown (system_of t) K facts)
after_other t S K [] other keeps = keeps
after_other t S K (f ∷ []) other keeps = absurd (other refl)
after_other t S K (f ∷ h ∷ more) other keeps = keeps

pub each_last : (S : System) (earlier : List (List Fact)) (ls : List Lemma) (l : Lemma) → EachStands S earlier ls → Stands S (earlier ++ facts_of ls) l → EachStands S earlier (ls ++ l ∷ [])
each_last S earlier [] l each stands = (subst (λ (e : List (List Fact)). Stands S e l) (append-nil earlier) stands, tt)
each_last S earlier (m ∷ ls) l each stands =
    (each.0, each_last S (earlier ++ m.facts ∷ []) ls l each.1 (subst (λ (e : List (List Fact)). Stands S e l) (sym (append_assoc earlier (m.facts ∷ []) (facts_of ls))) stands))

-- what lemmas show that stand and end empty
shown : (ties : Ties) (T : TreeValue) (G : Sheet) (bound : ℕ) (heads : List Pair) (swaps : List (List Pair)) (ls : List Lemma) → IsTree T → IsTie ties T G → All (IsSwapOf ties T) swaps → map head swaps ≡ heads → EachStands (system_by ties T G bound heads) [] ls → EndsEmpty (facts_of ls) → ShownBy ties T G bound
shown (cornered corner) T G bound heads swaps ls tree tie admissible same stand ends =
    lemmas_law T tree G bound corner.i corner.j swaps ls record {
      corner = tie;
      admissible = admissible;
      stand = subst (λ (hs : List Pair). EachStands (tree_system T G bound corner.i corner.j hs) [] ls) (sym same) stand;
      ends = ends;
    }
shown (mirrored kind mirror) T G bound heads swaps ls tree tie admissible same stand ends =
    mirrored_law T tree kind mirror bound swaps ls record {
      is_mirror = tie.0;
      admissible = admissible;
      stand = subst (λ (hs : List Pair). EachStands (mirror_system T kind mirror bound hs) [] ls) (sym same) stand;
      ends = ends;
    }

module _ (t : Task) (S : Known) (lemmas : List (List Fact)) (is : IsReplay t S lemmas) where
  pub next_replay : (R : Known) (next : List (List Fact)) (l : Lemma) → next ≡ lemmas ++ l.facts ∷ [] → Stands (system_of t) lemmas l → Keeps t R (grown (system_of t) (root_after (system_of t) lemmas) l.facts) → IsReplay t R next
  next_replay R next l more stands keeps =
      let C : List Fact → Type 0 = All (IsNamed (system_of t)) in
      let ls = is.stood.0 in
      let same = is.stood.1.1 in
      let here : Stands (system_of t) (facts_of ls) l = subst (λ (e : List (List Fact)). Stands (system_of t) e l) (sym same) stands in
      let replay : IsReplay t R (lemmas ++ l.facts ∷ []) = record {
        task = is.task;
        kept = subst (Keeps t R) (sym (grown_last (system_of t) (first_knowledge (system_of t)) lemmas l.facts)) keeps;
        named = All-append C lemmas (l.facts ∷ []) is.named (All-cons C l.facts [] stands.facts (λ k d within. absurd (omega (arith, within))));
        stood = (ls ++ l ∷ [], (each_last (system_of t) [] ls l is.stood.1.0 here, map-append (λ (m : Lemma). m.facts) ls (l ∷ []) ∙ ap (λ (e : List (List Fact)). e ++ l.facts ∷ []) same));
      } in
      subst (IsReplay t R) (sym more) replay

  pub replay_law : EndsEmpty lemmas → IsBelowShown t
  replay_law ends =
      let heads = is.task.heads in
      let ls = is.stood.0 in
      shown t.ties t.tree t.sheet t.bound t.heads heads.0 ls is.task.tree is.task.ties heads.1.0 heads.1.1 is.stood.1.0 (subst EndsEmpty (sym is.stood.1.1) ends)

-- the leaves of a mirror have places
pub mirror_places : (T : TreeValue) (pairs : List Pair) → leaf_count T < rows → All (IsLeaf T) (leaves_of pairs) → HavePlaces pairs
mirror_places T [] few leaves = λ k d within. absurd (omega (arith, within))
mirror_places T (p ∷ pairs) few leaves =
    let first : IsLeaf T p.i = leaves 0 0 (omega arith) in
    let second : IsLeaf T p.j = leaves 1 0 (omega arith) in
    All-cons (λ p. (p.i < rows) × (p.j < rows)) p pairs (omega (arith, first, few), omega (arith, second, few))
    (mirror_places T pairs few (λ k d within. leaves (suc (suc k)) d (omega (arith, within))))

-- the last lemma's facts
ends_last : (lemmas : List (List Fact)) (n : ℕ) → length lemmas ≡ suc n → (get_or lemmas n [] ≡ [] → EndsEmpty lemmas) × (EndsEmpty lemmas → get_or lemmas n [] ≡ [])
ends_last [] n long = absurd (omega (arith, long))
ends_last (facts ∷ []) zero long = (λ is. is, λ is. is)
ends_last (facts ∷ []) (suc n) long = absurd (omega (arith, long))
ends_last (facts ∷ more ∷ lemmas) zero long = absurd (omega (arith, long))
ends_last (facts ∷ more ∷ lemmas) (suc n) long = ends_last (more ∷ lemmas) n (omega (arith, long))

none_in : (ps : List Packed) → length ps ≡ 0 → facts_in ps ≡ []
none_in [] none = refl
none_in (p ∷ ps) none = absurd (omega (arith, none))

nothing_in : (ps : List Packed) → facts_in ps ≡ [] → length ps ≡ 0
nothing_in [] none = refl
nothing_in (p ∷ ps) none = absurd (omega (arith, ap length none))

pub ends_exactly : (lemmas : List (List Fact)) (n : ℕ) (ps : List Packed) (b : Bool) → n ≡ length lemmas → 1 ≤ n → facts_in ps ≡ get_or lemmas (n - 1) [] → b ≡ (length ps == 0) → (IsTrue b → EndsEmpty lemmas) × (EndsEmpty lemmas → IsTrue b)
ends_exactly lemmas n ps b all some facts is =
    let last = ends_last lemmas (n - 1) (omega (arith, all, some)) in (
      λ empty. last.0 (sym facts ∙ none_in ps (eqb-true (length ps) 0 (sym is ∙ empty))),
      λ ends. is ∙ eq-eqb (length ps) 0 (nothing_in ps (facts ∙ last.1 ends)),
    )
