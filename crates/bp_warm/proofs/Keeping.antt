-- What is kept when a step is added and taken off.
use Rattle.std.proofs.Common.{◌≡◌, ◌≢◌, ℕ, ◌+◌, ◌<◌, ◌≤◌, List, [], ◌∷◌, ◌++◌, length, get_or, set, take, Some, refl, sym, ◌∙◌, ap, subst, arith, inl, inr}
use Rattle.std.specs.List.{All, slice_get}
use Rattle.std.proofs.lemmas.List.{length-append, length-set, get_or-set_same, get_or-set_other, get_or_append_left, take_all, take-append-le}
use Rattle.std.proofs.lemmas.List.Elements.{All-get_or}
use Rattle.std.proofs.lemmas.Bool.{cases_eq}
use Rattle.std.proofs.lemmas.Option.{slice_get_read, slice_get_within, get_or_from_slice_get, same_Some}
use Rattle.bp_base.specs.declared.point.Axis.{Axis}
use Rattle.bp_base.specs.declared.point.Axis.TheVariants.{X, Y}
use Rattle.bp_base.specs.declared.point.Sheet.{Sheet}
use Rattle.bp_base.specs.declared.path.Step.{Step}
use Rattle.bp_base.specs.declared.record.Least.{Least}
use Rattle.bp_base.specs.Path.{IsPairOf}
use Rattle.bp_base.specs.Tree.{TreeValue, IsTree, leaf_count}
use Rattle.bp_metric.specs.Chains.{HasPairsOf}
use Rattle.bp_metric.specs.Coordinates.{IsLeast}
use Rattle.bp_metric.specs.Metric.{IsSheet}
use Rattle.bp_warm.specs.Links.{LinksValue}
use Rattle.bp_warm.specs.Warm.{pair_count}
use Rattle.bp_warm.specs.Kept.{IsHalf, IsFrame, IsLong, IsWarm}
use Rattle.bp_warm.proofs.Grown.{longer_pairs}

pub pairs_as : (T U : TreeValue) (p q : List Step) → U ≡ T → q ≡ p → HasPairsOf (leaf_count T) p → HasPairsOf (leaf_count U) q
pairs_as T U p q tree_is path_is pairs =
    subst (λ (V : TreeValue). HasPairsOf (leaf_count V) q) (sym tree_is) (subst (HasPairsOf (leaf_count T)) (sym path_is) pairs)

pub frame_as : (T U : TreeValue) (G H : Sheet) (p q : List Step) (l : Least) → T ≡ U → G ≡ H → p ≡ q → IsFrame T G p l → IsFrame U H q l
frame_as T U G H p q l tree_is sheet_is path_is f =
    subst (λ (V : TreeValue). IsFrame V H q l) tree_is (subst (λ (S : Sheet). IsFrame T S q l) sheet_is (subst (λ (r : List Step). IsFrame T G r l) path_is f))

module _ (T : TreeValue) (G : Sheet) (path : List Step) (capacity : ℕ) (xs ys : List ℕ) (xa xb ya yb : LinksValue) (frames : List Least) (w : IsWarm T G path capacity xs ys xa xb ya yb frames) where
  -- the frame at a place that was read
  pub frame_there : (i : ℕ) (l : Least) → i ≤ pair_count T → l ≡ get_or frames i l → slice_get frames i ≡ Some l
  frame_there i l less is = slice_get_read frames (length frames) i l refl (omega (arith, w.kept.each)) is

  pub frame_now : (i : ℕ) (l : Least) → i ≡ length path → l ≡ get_or frames i l → slice_get frames (length path) ≡ Some l
  frame_now i l same is = ap (slice_get frames) (sym same) ∙ frame_there i l (omega (arith, same, w.short)) is

  pub now_x : (i : ℕ) (l : Least) → i ≡ length path → l ≡ get_or frames i l → xs ≡ l.xs
  now_x i l same is = sym (w.now l (frame_now i l same is)).0

  pub now_y : (i : ℕ) (l : Least) → i ≡ length path → l ≡ get_or frames i l → ys ≡ l.ys
  now_y i l same is = sym (w.now l (frame_now i l same is)).1

  pub now_least : (i : ℕ) (l : Least) → i ≡ length path → l ≡ get_or frames i l → IsLeast T G path l
  now_least i l same is =
      let f = w.kept.frame (length path) l (omega arith) (frame_now i l same is) in
      subst (λ (p : List Step). IsLeast T G p l) (take_all (length path) path (omega arith)) f.least

  pub long_there : (i : ℕ) (l : Least) → i ≤ pair_count T → l ≡ get_or frames i l → IsLong T l
  long_there i l less is = w.kept.long i l (frame_there i l less is)

  -- with one more step
  module _ (s : Step) (pair : IsPairOf (leaf_count T) s.pair) (room : length path < pair_count T) (xs' ys' : List ℕ) (xa' xb' ya' yb' : LinksValue) (x : IsHalf T (path ++ s ∷ []) X xs' xa' xb') (y : IsHalf T (path ++ s ∷ []) Y ys' ya' yb') (f : Least) (filled : IsFrame T G (path ++ s ∷ []) f) (f_xs : f.xs ≡ xs') (f_ys : f.ys ≡ ys') where
    abbrev place : ℕ
    place = length path + 1

    abbrev new : List Least
    new = set frames place f

    long_path : length (path ++ s ∷ []) ≡ length path + 1
    long_path = length-append path (s ∷ [])

    at_place : (l : Least) → slice_get new place ≡ Some l → l ≡ f
    at_place l there =
        sym (get_or_from_slice_get new place l l there) ∙ get_or-set_same frames place f l (omega (arith, w.kept.each))

    elsewhere : (k : ℕ) (l : Least) → k ≢ place → slice_get new k ≡ Some l → slice_get frames k ≡ Some l
    elsewhere k l apart there =
        let within : k < length frames = omega (arith, slice_get_within new k l there, length-set frames place f) in
        slice_get_read frames (length frames) k l refl within (sym (sym (get_or-set_other frames place k f l apart) ∙ get_or_from_slice_get new k l l there))

    pub warm_more : (capacity' : ℕ) (path' : List Step) (i : ℕ) → capacity ≤ capacity' → path' ≡ path ++ s ∷ [] → i ≡ length path + 1 → IsWarm T G path' capacity' xs' ys' xa' xb' ya' yb' (set frames i f)
    warm_more capacity' path' i more path_is i_is =
        let whole : IsWarm T G (path ++ s ∷ []) capacity' xs' ys' xa' xb' ya' yb' new =
        record {
          tree = w.tree;
          sheet = w.sheet;
          pairs = longer_pairs (leaf_count T) path s w.pairs pair;
          short = omega (arith, long_path, room);
          room = omega (arith, w.room, more);
          x = x;
          y = y;
          kept = record {
            each = omega (arith, length-set frames place f, w.kept.each);
            long = λ k l there. elim (cases_eq k place) [
              | inl same ↦
                  let e = at_place l (ap (slice_get new) (sym same) ∙ there) in
                  subst (IsLong T) (sym e) (record { xs = filled.exact_x.each; ys = filled.exact_y.each })
              | inr apart ↦ w.kept.long k l (elsewhere k l apart there)
            ];
            frame = λ k l most there. elim (cases_eq k place) [
              | inl same ↦
                  let e = at_place l (ap (slice_get new) (sym same) ∙ there) in
                  let all : take k (path ++ s ∷ []) ≡ path ++ s ∷ [] = take_all k (path ++ s ∷ []) (omega (arith, long_path, same)) in
                  subst (IsFrame T G (take k (path ++ s ∷ []))) (sym e) (subst (λ (p : List Step). IsFrame T G p f) (sym all) filled)
              | inr apart ↦
                  let less : k ≤ length path = omega (arith, most, long_path, apart) in
                  subst (λ (p : List Step). IsFrame T G p l) (sym (take-append-le k path (s ∷ []) less)) (w.kept.frame k l less (elsewhere k l apart there))
            ];
          };
          now = λ l there.
              let e = at_place l (ap (slice_get new) (sym long_path) ∙ there) in
              (ap (λ (m : Least). m.xs) e ∙ f_xs, ap (λ (m : Least). m.ys) e ∙ f_ys);
        } in
        subst (λ (j : ℕ). IsWarm T G path' capacity' xs' ys' xa' xb' ya' yb' (set frames j f)) (sym i_is) (subst (λ (p : List Step). IsWarm T G p capacity' xs' ys' xa' xb' ya' yb' new) (sym path_is) whole)

-- with one step less
module _ (T : TreeValue) (G : Sheet) (path : List Step) (s : Step) (whole : List Step) (whole_is : whole ≡ path ++ s ∷ []) (capacity : ℕ) (xs ys : List ℕ) (xa xb ya yb : LinksValue) (frames : List Least) (w : IsWarm T G whole capacity xs ys xa xb ya yb frames) where
  warm : IsWarm T G (path ++ s ∷ []) capacity xs ys xa xb ya yb frames
  warm = subst (λ (p : List Step). IsWarm T G p capacity xs ys xa xb ya yb frames) whole_is w

  long_by : length (path ++ s ∷ []) ≡ length path + 1
  long_by = length-append path (s ∷ [])

  pub last_pair : IsPairOf (leaf_count T) s.pair
  last_pair = subst (λ (r : Step). IsPairOf (leaf_count T) r.pair) (last_is path) (All-get_or (λ (r : Step). IsPairOf (leaf_count T) r.pair) (path ++ s ∷ []) (length path) s (omega (arith, long_by)) warm.pairs)
    where
      last_is : (p : List Step) → get_or (p ++ s ∷ []) (length p) s ≡ s
      last_is [] = refl
      last_is (x ∷ p) = last_is p

  pub earlier_frame : (i : ℕ) (l : Least) → i ≡ length path → l ≡ get_or frames i l → IsFrame T G path l
  earlier_frame i l same is =
      let there : slice_get frames (length path) ≡ Some l = ap (slice_get frames) (sym same) ∙ slice_get_read frames (length frames) i l refl (omega (arith, same, warm.kept.each, warm.short, long_by)) is in
      let f = warm.kept.frame (length path) l (omega (arith, long_by)) there in
      subst (λ (p : List Step). IsFrame T G p l) (take-append-le (length path) path (s ∷ []) (omega arith) ∙ take_all (length path) path (omega arith)) f

  pub half_as_x : IsHalf T (path ++ s ∷ []) X xs xa xb
  half_as_x = warm.x

  pub half_as_y : IsHalf T (path ++ s ∷ []) Y ys ya yb
  half_as_y = warm.y

  pub warm_less : (capacity' i : ℕ) (l : Least) (xs' ys' : List ℕ) (xa' xb' ya' yb' : LinksValue) → capacity ≤ capacity' → i ≡ length path → l ≡ get_or frames i l → IsHalf T path X xs' xa' xb' → IsHalf T path Y ys' ya' yb' → xs' ≡ l.xs → ys' ≡ l.ys → IsWarm T G path capacity' xs' ys' xa' xb' ya' yb' frames
  warm_less capacity' i l xs' ys' xa' xb' ya' yb' more same is x y xs_is ys_is =
      let there : slice_get frames (length path) ≡ Some l = ap (slice_get frames) (sym same) ∙ slice_get_read frames (length frames) i l refl (omega (arith, same, warm.kept.each, warm.short, long_by)) is in
      record {
        tree = warm.tree;
        sheet = warm.sheet;
        pairs = λ k d less. subst (λ (r : Step). IsPairOf (leaf_count T) r.pair) (get_or_append_left path (s ∷ []) d k less) (warm.pairs k d (omega (arith, long_by)));
        short = omega (arith, warm.short, long_by);
        room = omega (arith, warm.room, more);
        x = x;
        y = y;
        kept = record {
          each = warm.kept.each;
          long = warm.kept.long;
          frame = λ k m most at.
              subst (λ (p : List Step). IsFrame T G p m) (take-append-le k path (s ∷ []) most) (warm.kept.frame k m (omega (arith, most, long_by)) at);
        };
        now = λ m at.
            let e : m ≡ l = same_Some m l (sym at ∙ there) in
            (ap (λ (n : Least). n.xs) e ∙ sym xs_is, ap (λ (n : Least). n.ys) e ∙ sym ys_is);
      }

-- the path without steps
pub warm_start : (T : TreeValue) (G : Sheet) (capacity : ℕ) (path : List Step) (xs ys : List ℕ) (xa xb ya yb : LinksValue) (frames : List Least) (f : Least) → IsTree T → IsSheet G → path ≡ [] → pair_count T ≤ capacity → IsHalf T [] X xs xa xb → IsHalf T [] Y ys ya yb → length frames ≡ pair_count T + 1 → All (IsLong T) frames → IsFrame T G [] f → f.xs ≡ xs → f.ys ≡ ys → IsWarm T G path capacity xs ys xa xb ya yb (set frames 0 f)
warm_start T G capacity path xs ys xa xb ya yb frames f t g path_is room x y each long filled f_xs f_ys =
    let at_zero : (l : Least) → slice_get (set frames 0 f) 0 ≡ Some l → l ≡ f = λ l there.
    sym (get_or_from_slice_get (set frames 0 f) 0 l l there) ∙ get_or-set_same frames 0 f l (omega (arith, each)) in
    let whole : IsWarm T G [] capacity xs ys xa xb ya yb (set frames 0 f) =
    record {
      tree = t;
      sheet = g;
      pairs = λ k d less. absurd (omega arith);
      short = omega arith;
      room = room;
      x = x;
      y = y;
      kept = record {
        each = omega (arith, length-set frames 0 f, each);
        long = λ k l there. elim (cases_eq k 0) [
          | inl same ↦
              subst (IsLong T) (sym (at_zero l (ap (slice_get (set frames 0 f)) (sym same) ∙ there))) (record { xs = filled.exact_x.each; ys = filled.exact_y.each })
          | inr apart ↦
              let within : k < length frames = omega (arith, slice_get_within (set frames 0 f) k l there, length-set frames 0 f) in
              subst (IsLong T) (sym (get_or-set_other frames 0 k f l apart) ∙ get_or_from_slice_get (set frames 0 f) k l l there) (All-get_or (IsLong T) frames k l within long)
        ];
        frame = λ k l most there.
            let zero_is : k ≡ 0 = omega arith in
            subst (λ (p : List Step). IsFrame T G p l) (sym (take_all k [] (omega arith))) (subst (IsFrame T G []) (sym (at_zero l (ap (slice_get (set frames 0 f)) (sym zero_is) ∙ there))) filled);
      };
      now = λ l there.
          let e = at_zero l there in
          (ap (λ (m : Least). m.xs) e ∙ f_xs, ap (λ (m : Least). m.ys) e ∙ f_ys);
    } in
    subst (λ (p : List Step). IsWarm T G p capacity xs ys xa xb ya yb (set frames 0 f)) (sym path_is) whole

pub half_as : (T U : TreeValue) (p q : List Step) (axis : Axis) (row : List ℕ) (xa xb : LinksValue) → T ≡ U → p ≡ q → IsHalf T p axis row xa xb → IsHalf U q axis row xa xb
half_as T U p q axis row xa xb tree_is path_is h =
    subst (λ (V : TreeValue). IsHalf V q axis row xa xb) tree_is (subst (λ (r : List Step). IsHalf T r axis row xa xb) path_is h)

pub warm_as : (T U : TreeValue) (G H : Sheet) (path : List Step) (capacity : ℕ) (xs ys : List ℕ) (xa xb ya yb : LinksValue) (frames : List Least) → T ≡ U → G ≡ H → IsWarm T G path capacity xs ys xa xb ya yb frames → IsWarm U H path capacity xs ys xa xb ya yb frames
warm_as T U G H path capacity xs ys xa xb ya yb frames tree_is sheet_is w =
    subst (λ (V : TreeValue). IsWarm V H path capacity xs ys xa xb ya yb frames) tree_is (subst (λ (S : Sheet). IsWarm T S path capacity xs ys xa xb ya yb frames) sheet_is w)
