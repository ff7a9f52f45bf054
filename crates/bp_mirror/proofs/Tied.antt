-- When leaves are tied, and when pairs are a mirror.
use Rattle.std.proofs.Common.{◌≡◌, ◌≢◌, ℕ, ◌<◌, ◌≤◌, List, [], ◌∷◌, length, get_or, All, AllPairs, refl, subst, arith, ◌∙◌}
use Rattle.std.specs.Prelude.{Contains}
use Rattle.std.proofs.lemmas.List.Elements.{All-nil, All-cons, All-head, All-tail}
use Rattle.bp_base.specs.declared.path.Pair.{Pair}
use Rattle.bp_base.specs.declared.point.Point.{Point}
use Rattle.bp_base.specs.declared.point.Sheet.TheVariants.{Square}
use Rattle.bp_base.specs.Tree.{TreeValue, IsLeaf, leaf_count}
use Rattle.bp_metric.specs.Distance.{leaf_dist}
use Rattle.bp_metric.specs.Valid.{Valid}
use Rattle.bp_arrangement.specs.Swaps.{IsSwap, IsAdmissible, leaves_of, sent}
use Rattle.bp_mirror.specs.declared.kind.MirrorKind.{MirrorKind}
use Rattle.bp_mirror.specs.Mirror.{IsMirror, IsOnAxis}
use Rattle.bp_mirror.specs.Mirrored.{TiesPair, TiesLeaf, Mirrored}
use Rattle.bp_mirror.specs.Flaws.{IsTied, AreTied, IsPlace, ArePlaces}
use Rattle.bp_mirror.proofs.Symmetric.{no_corner}

-- what holds of both leaves of each pair holds of each leaf of the mirror
pub pairs_leaves : (C : ℕ → Type 0) (mirror : List Pair) → All (λ (p : Pair). C p.i × C p.j) mirror → All C (leaves_of mirror)
pairs_leaves C [] each = All-nil C
pairs_leaves C (p ∷ rest) each =
    let both = All-head (λ (r : Pair). C r.i × C r.j) p rest each in
    let more = pairs_leaves C rest (All-tail (λ (r : Pair). C r.i × C r.j) p rest each) in
    All-cons C p.i (p.j ∷ leaves_of rest) both.0 (All-cons C p.j (leaves_of rest) both.1 more)

pub leaves_pairs : (C : ℕ → Type 0) (mirror : List Pair) → All C (leaves_of mirror) → All (λ (p : Pair). C p.i × C p.j) mirror
leaves_pairs C [] each = All-nil (λ (r : Pair). C r.i × C r.j)
leaves_pairs C (p ∷ rest) each =
    let more = All-tail C p.i (p.j ∷ leaves_of rest) each in
    All-cons (λ (r : Pair). C r.i × C r.j) p rest (All-head C p.i (p.j ∷ leaves_of rest) each, All-head C p.j (leaves_of rest) more) (leaves_pairs C rest (All-tail C p.j (leaves_of rest) more))

sent_none : (k : ℕ) → sent [] k ≡ k
unfolding sent
sent_none k = refl

no_pairs : (T : TreeValue) → IsMirror T []
no_pairs T = record {
  few = omega arith;
  leaves = All-nil (IsLeaf T);
  differ = λ i j d less within. absurd (omega (arith, less, within));
  keeps = λ i j first second. λ k. leaf_dist T (sent_none i k) (sent_none j k);
}

-- nothing but a swap of no leaf named 0, or no pairs at all, is a mirror
pub empty_mirror : (T : TreeValue) (mirror : List Pair) → length mirror ≡ 0 → IsMirror T mirror
empty_mirror T [] none = no_pairs T
empty_mirror T (p ∷ rest) none = absurd (omega (arith, none))

pub swap_mirror : (T : TreeValue) (mirror : List Pair) → IsAdmissible T 0 0 mirror → IsMirror T mirror
swap_mirror T mirror a = record { few = a.swaps.few; leaves = a.swaps.leaves; differ = a.swaps.differ; keeps = a.swaps.keeps }

pub mirror_swap : (T : TreeValue) (mirror : List Pair) → 1 ≤ length mirror → IsMirror T mirror → IsAdmissible T 0 0 mirror
mirror_swap T mirror some m =
    no_corner T mirror (record { some = some; few = m.few; leaves = m.leaves; differ = m.differ; keeps = m.keeps })

-- both leaves of each pair have a point
pub all_places : (T : TreeValue) (mirror : List Pair) (n : ℕ) → n ≡ leaf_count T → IsMirror T mirror → All (ArePlaces n) mirror
all_places T mirror n counted m k d less =
    let both = leaves_pairs (IsLeaf T) mirror m.leaves k d less in
    ((both.0.0, omega (arith, both.0.1, counted)), (both.1.0, omega (arith, both.1.1, counted)))

module _ (T : TreeValue) (kind : MirrorKind) (mirror : List Pair) (q s : ℕ) (P : List Point) where
  pub mirrored_from : IsMirror T mirror → Valid T Square q s P → AreTied T kind mirror s P → Mirrored T kind mirror q s P
  mirrored_from m valid tied = record {
    valid = valid;
    pairs = λ k d less. (tied (get_or mirror k d).i (leaves_pairs (IsLeaf T) mirror m.leaves k d less).0).pair k d less refl;
    axis = λ k leaf on. (tied k leaf).axis on;
  }

  pub mirrored_to : Mirrored T kind mirror q s P → AreTied T kind mirror s P
  mirrored_to m k leaf = record {
    pair = λ i d less same. m.pairs i d less;
    axis = m.axis k leaf;
  }
