-- What the balls of an edge hold, and that cells between the same cuts are alike.
use Rattle.std.proofs.Common.{◌≡◌, ℕ, zero, suc, ◌+◌, ◌-◌, ◌*◌, ◌<◌, ◌≤◌, ◌↔◌, Bool, true, List, [], ◌∷◌, ◌++◌, Option, None, Some, length, get_or, take, drop, map, Contains, if◌then◌else◌, refl, sym, ◌∙◌, ap, All, IsTrue, eqb, subst, arith, inl, inr, length-append, append_assoc}
use Rattle.std.specs.List.{flat_map, range_with_len}
use Rattle.std.specs.Option.{option_eq}
use Rattle.std.proofs.lemmas.Bool.{cases_Bool, cases_lt, eq-eqb, eqb-true, false≢true}
use Rattle.std.proofs.lemmas.List.Elements.{All-map}
use Rattle.std.proofs.lemmas.List.{append-nil, get_or-drop, get_or-take, get_or_append_left, get_or_push, get_or_read, length-drop, length-take-le}
use Rattle.std.proofs.Math.Seq.{take-append_seam, drop-append-add}
use Rattle.std.proofs.lemmas.List.Concat.{flat_map-append}
use Rattle.std.proofs.lemmas.List.FromFn.{length-range_with_len, get_or-range_with_len, length-map-range_with_len, get_or-map-range_with_len, map-range_with_len_more}
use Rattle.bp_base.specs.declared.point.Axis.{Axis}
use Rattle.bp_base.specs.declared.point.Axis.TheVariants.{X, Y}
use Rattle.bp_base.specs.declared.point.Point.{Point}
use Rattle.bp_base.specs.Point.{point_at}
use Rattle.bp_base.specs.Tree.{TreeValue, IsEdge, IsLeaf, IsTree, edges, leaf_count, leaf_node, node_count, parent}
use Rattle.bp_metric.specs.Distance.{leaf_below, radius}
use Rattle.bp_metric.specs.Distance.{most_distance}
use Rattle.bp_metric.proofs.Distances.{dist_small, le_from_below}
use Rattle.bp_metric.proofs.Ranges.{range_more}
use Rattle.bp_regions.specs.declared.ball.Ball.{Ball}
use Rattle.bp_regions.specs.declared.span.Span.{Span}
use Rattle.bp_regions.specs.Balls.{AreEnds, AreSpans, HoldsCell, IsSmallBall, IsSpan, ball_of, balls_of, no_ball, no_span, row_of}
use Rattle.bp_regions.specs.Cells.{IsCell, IsInBall, Own, Owner, Reach}
use Rattle.bp_regions.specs.Regions.{ArePlaced, RegionsValue}
use Rattle.bp_regions.specs.Cuts.{AreAlike, AreCuts, AreTogether}
use Rattle.bp_regions.proofs.Ends.{all_flat, contains_flat, first_cut, in_both, last_cut, on_sheet}

-- one more ball of a row
pub row_more : (f : ℕ → Ball) (init before after : List Ball) (b : Ball) (k : ℕ) → 1 ≤ k → before ≡ init ++ map f (range_with_len 1 (k - 1)) → after ≡ before ++ b ∷ [] → b ≡ f k → after ≡ init ++ map f (range_with_len 1 (k + 1 - 1))
row_more f init before after b k some so_far added is =
    let e : k + 1 - 1 ≡ k - 1 + 1 = omega (arith, some) in
    let row = map f (range_with_len 1 (k - 1)) in
    rw e (added ∙ ap (λ (l : List Ball). l ++ b ∷ []) so_far ∙ append_assoc init row (b ∷ []) ∙ ap (λ (x : Ball). init ++ (row ++ x ∷ [])) is ∙ ap (λ (l : List Ball). init ++ l) (sym (map-range_with_len_more f 1 (k - 1) k (omega (arith, some)))))

module _ (T : TreeValue) (P : List Point) where
  pub row_long : (e : ℕ) → length (row_of T P e) ≡ leaf_count T
  row_long e = length-map-range_with_len (ball_of T P e) 1 (leaf_count T)

  rows_long : (es : List ℕ) → length (flat_map (row_of T P) es) ≡ length es * leaf_count T
  rows_long [] = omega arith
  rows_long (e ∷ es) =
      omega (arith, length-append (row_of T P e) (flat_map (row_of T P) es), row_long e, rows_long es)

  ball_at : (e i : ℕ) (d : Ball) → IsLeaf T i → get_or (row_of T P e) (i - 1) d ≡ ball_of T P e i
  ball_at e i d leaf =
      get_or-map-range_with_len (ball_of T P e) 1 (leaf_count T) (i - 1) i d (omega (arith, leaf.0, leaf.1)) (omega (arith, leaf.0))

  -- one more row
  pub rows_more : (before after : List Ball) (k : ℕ) → 1 ≤ k → before ≡ flat_map (row_of T P) (range_with_len 1 (k - 1)) → after ≡ before ++ row_of T P k → after ≡ flat_map (row_of T P) (range_with_len 1 (k + 1 - 1))
  rows_more before after k some so_far added =
      let e : k + 1 - 1 ≡ k - 1 + 1 = omega (arith, some) in
      let last : 1 + (k - 1) ≡ k = omega (arith, some) in
      let more : flat_map (row_of T P) (range_with_len 1 (k - 1 + 1)) ≡ flat_map (row_of T P) (range_with_len 1 (k - 1)) ++ row_of T P k = ap (flat_map (row_of T P)) (range_more 1 (k - 1) ∙ ap (λ (m : ℕ). range_with_len 1 (k - 1) ++ m ∷ []) last) ∙ flat_map-append (row_of T P) (range_with_len 1 (k - 1)) (k ∷ []) ∙ ap (λ (l : List Ball). flat_map (row_of T P) (range_with_len 1 (k - 1)) ++ l) (append-nil (row_of T P k)) in
      rw e (added ∙ ap (λ (l : List Ball). l ++ row_of T P k) so_far ∙ sym more)

  pub rows_done : (balls : List Ball) (k : ℕ) → k - 1 ≡ node_count T - 1 → balls ≡ flat_map (row_of T P) (range_with_len 1 (k - 1)) → balls ≡ balls_of T P
  unfolding balls_of
  rows_done balls k done so_far = so_far ∙ ap (λ (n : ℕ). flat_map (row_of T P) (range_with_len 1 n)) done

  -- where the row of an edge stands among rows
  row_at : (es : List ℕ) (k d : ℕ) → k < length es → take (leaf_count T) (drop (k * leaf_count T) (flat_map (row_of T P) es)) ≡ row_of T P (get_or es k d)
  row_at [] k d less = absurd (omega (arith, less))
  row_at (e ∷ es) zero d less =
      let n : 0 * leaf_count T ≡ 0 = omega arith in
      rw n (ap (λ (m : ℕ). take m (row_of T P e ++ flat_map (row_of T P) es)) (sym (row_long e)) ∙ take-append_seam (row_of T P e) (flat_map (row_of T P) es))
  row_at (e ∷ es) (suc k) d less =
      let n : suc k * leaf_count T ≡ length (row_of T P e) + k * leaf_count T = omega (arith, row_long e) in
      rw n (ap (take (leaf_count T)) (drop-append-add (row_of T P e) (flat_map (row_of T P) es) (k * leaf_count T)) ∙ row_at es k d (omega (arith, less)))

  -- a ball of radius 0 holds no cell
  empty_ball : (p : Point) (x y : ℕ) → IsInBall p 0 x y → ⊥
  empty_ball p x y is = omega (arith, is.0, is.1)

  in_reach : (S e i x y : ℕ) → IsCell S x y → IsLeaf T i → IsInBall (ball_of T P e i).at (ball_of T P e i).radius x y → Reach T S P e x y
  in_reach S e i x y cell leaf near = elim (cases_Bool (leaf_below T i e)) [
    | inl below ↦ record {
      cell = cell;
      leaf = i;
      among = leaf;
      below = below;
      near = subst (λ (b : Bool). IsInBall (point_at P i) (if b then radius T i e else 0) x y) below near;
    }
    | inr off ↦
        absurd (empty_ball (point_at P i) x y (subst (λ (b : Bool). IsInBall (point_at P i) (if b then radius T i e else 0) x y) off near))
  ]

  -- the balls of an edge hold what the edge reaches
  pub row_reaches : (S e x y : ℕ) → IsCell S x y → (HoldsCell (row_of T P e) x y ↔ Reach T S P e x y)
  row_reaches S e x y cell = (
    λ h.
        let i : ℕ = h.at + 1 in
        let less : h.at < leaf_count T = omega (arith, h.within, row_long e) in
        let at : get_or (row_of T P e) h.at no_ball ≡ ball_of T P e i = get_or-map-range_with_len (ball_of T P e) 1 (leaf_count T) h.at i no_ball less (omega arith) in
        in_reach S e i x y cell (omega arith, omega (arith, less)) (subst (λ (b : Ball). IsInBall b.at b.radius x y) at h.near),
    λ r.
        let at : get_or (row_of T P e) (r.leaf - 1) no_ball ≡ ball_of T P e r.leaf = ball_at e r.leaf no_ball r.among in
        record {
          at = r.leaf - 1;
          within = omega (arith, row_long e, r.among.0, r.among.1);
          near = subst (λ (b : Ball). IsInBall b.at b.radius x y) (sym at) (subst (λ (b : Bool). IsInBall (point_at P r.leaf) (if b then radius T r.leaf e else 0) x y) (sym r.below) r.near);
        },
  )

  edge_at : (e d : ℕ) → IsEdge T e → get_or (edges T) (e - 1) d ≡ e
  edge_at e d edge = omega (arith, get_or-range_with_len 1 (node_count T - 1) (e - 1) d (omega (arith, edge.0, edge.1)), edge.0)

  edge_in : (e : ℕ) → IsEdge T e → e - 1 < length (edges T)
  edge_in e edge = omega (arith, length-range_with_len 1 (node_count T - 1), edge.0, edge.1)

  -- the row of an edge among all balls
  pub row_here : (e : ℕ) → IsEdge T e → take (leaf_count T) (drop ((e - 1) * leaf_count T) (balls_of T P)) ≡ row_of T P e
  unfolding balls_of
  row_here e edge = row_at (edges T) (e - 1) 0 (edge_in e edge) ∙ ap (row_of T P) (edge_at e 0 edge)

  room : (a b n : ℕ) → a < b → a * n + n ≤ b * n
  room a b n less = grind arith

  pub row_within : (e : ℕ) → IsEdge T e → (e - 1) * leaf_count T + leaf_count T ≤ length (balls_of T P)
  unfolding balls_of
  row_within e edge =
      omega (arith, rows_long (edges T), room (e - 1) (length (edges T)) (leaf_count T) (edge_in e edge))

  -- each ball stands among all
  in_balls : (e i : ℕ) → IsEdge T e → IsLeaf T i → leaf_below T i e ≡ true → Contains (balls_of T P) (record { at = point_at P i; radius = radius T i e })
  unfolding balls_of
  in_balls e i edge leaf below =
      let b = ball_of T P e i in
      let row : Contains (row_of T P (get_or (edges T) (e - 1) 0)) b = subst (λ (f : ℕ). Contains (row_of T P f) b) (sym (edge_at e 0 edge)) (i - 1, omega (arith, row_long e, leaf.0, leaf.1), ball_at e i b leaf) in
      subst (λ (o : Bool). Contains (balls_of T P) (record { at = point_at P i; radius = if o then radius T i e else 0 })) below (contains_flat (row_of T P) (edges T) (e - 1) 0 b (edge_in e edge) row)

  module _ (S : ℕ) where
    own_moved : (x y v w : ℕ) → ((e : ℕ) → IsEdge T e → Reach T S P e x y → Reach T S P e v w) → ((e : ℕ) → IsEdge T e → Reach T S P e v w → Reach T S P e x y) → (e : ℕ) → IsEdge T e → Own T S P e x y → Own T S P e v w
    own_moved x y v w there back e edge own = record {
      reach = there e edge own.reach;
      alone = λ f f_edge apart below in_f. own.alone f f_edge apart below (back f f_edge in_f);
    }

    owner_moved : (x y v w : ℕ) → ((e : ℕ) → IsEdge T e → Own T S P e x y → Own T S P e v w) → ((e : ℕ) → IsEdge T e → Own T S P e v w → Own T S P e x y) → (o : Option ℕ) → Owner T S P x y o → Owner T S P v w o
    owner_moved x y v w there back None h = λ e edge own. h e edge (back e edge own)
    owner_moved x y v w there back (Some e) h = (h.0, there e h.0 h.1)

    alike_from : (x y v w : ℕ) → ((e : ℕ) → IsEdge T e → Reach T S P e x y → Reach T S P e v w) → ((e : ℕ) → IsEdge T e → Reach T S P e v w → Reach T S P e x y) → AreAlike T S P x y v w
    alike_from x y v w there back =
        let own_there = own_moved x y v w there back in
        let own_back = own_moved v w x y back there in
        record {
          reach = λ e edge. (there e edge, back e edge);
          own = λ e edge. (own_there e edge, own_back e edge);
          owner = λ o. (owner_moved x y v w own_there own_back o, owner_moved v w x y own_back own_there o);
        }

    turned : (cuts : List ℕ) (a b : ℕ) → AreTogether cuts a b → AreTogether cuts b a
    turned cuts a b t = record { at = t.at; within = t.within; a_from = t.b_from; a_to = t.b_to; b_from = t.a_from; b_to = t.a_to }

    on_x : (cuts : List ℕ) → AreEnds S X (balls_of T P) cuts → (x v y : ℕ) → AreTogether cuts x v → (e : ℕ) → IsEdge T e → Reach T S P e x y → Reach T S P e v y
    on_x cuts h x v y t e edge r =
        let moved = in_both S X (balls_of T P) cuts h (point_at P r.leaf) (radius T r.leaf e) x v (in_balls e r.leaf edge r.among r.below) t r.near.0 r.near.1 in
        record {
          cell = ((on_sheet S X (balls_of T P) cuts h x v t).1, r.cell.1);
          leaf = r.leaf;
          among = r.among;
          below = r.below;
          near = (moved.0, moved.1, r.near.2, r.near.3);
        }

    on_y : (cuts : List ℕ) → AreEnds S Y (balls_of T P) cuts → (x y w : ℕ) → AreTogether cuts y w → (e : ℕ) → IsEdge T e → Reach T S P e x y → Reach T S P e x w
    on_y cuts h x y w t e edge r =
        let moved = in_both S Y (balls_of T P) cuts h (point_at P r.leaf) (radius T r.leaf e) y w (in_balls e r.leaf edge r.among r.below) t r.near.2 r.near.3 in
        record {
          cell = (r.cell.0, (on_sheet S Y (balls_of T P) cuts h y w t).1);
          leaf = r.leaf;
          among = r.among;
          below = r.below;
          near = (r.near.0, r.near.1, moved.0, moved.1);
        }

    pub cuts_x : (cuts : List ℕ) → AreEnds S X (balls_of T P) cuts → AreCuts T S P X cuts
    cuts_x cuts h x v y t = alike_from x y v y (on_x cuts h x v y t) (on_x cuts h v x y (turned cuts x v t))

    pub cuts_y : (cuts : List ℕ) → AreEnds S Y (balls_of T P) cuts → AreCuts T S P Y cuts
    cuts_y cuts h x y w t = alike_from x y x w (on_y cuts h x y w t) (on_y cuts h x w y (turned cuts y w t))

    -- the edge of the greatest number that reaches a cell owns it, since edges below have greater numbers
    pub first_found : IsTree T → (edge x y : ℕ) → 1 < edge → edge ≤ node_count T → ((f : ℕ) → IsEdge T f → edge ≤ f → Reach T S P f x y → ⊥) → Reach T S P (edge - 1) x y → Owner T S P x y (Some (edge - 1))
    first_found t edge x y some within none reach = (
      (omega (arith, some), omega (arith, some, within)),
      record {
        reach = reach;
        alone = λ f f_edge apart below in_f. none f f_edge (omega (arith, le_from_below T t f (edge - 1) below, apart)) in_f;
      },
    )

    pub only_none : (x y : ℕ) → Owner T S P x y None → (o : Option ℕ) → Owner T S P x y o → o ≡ None
    only_none x y none None h = refl
    only_none x y none (Some e) h = absurd (none e h.0 h.1)

    -- an edge owns a cell exactly where it is the owner
    pub own_is : (x y e : ℕ) (o : Option ℕ) (r : Bool) → IsEdge T e → r ≡ option_eq eqb o (Some e) → Owner T S P x y o → ((p : Option ℕ) → Owner T S P x y p → p ≡ o) → (IsTrue r ↔ Own T S P e x y)
    own_is x y e None r edge is owner only =
        (λ h. absurd (false≢true (sym is ∙ h)), λ own. absurd (owner e edge own))
    own_is x y e (Some k) r edge is owner only = (
      λ h. subst (λ (m : ℕ). Own T S P m x y) (eqb-true k e (sym is ∙ h)) owner.1,
      λ own. is ∙ sym (ap (λ (p : Option ℕ). option_eq eqb p (Some e)) (only (Some e) (edge, own))) ∙ eq-eqb e e refl,
    )

    module _ (t : IsTree T) (h : ArePlaced T S P) where
      ball_small : (e i : ℕ) → IsLeaf T i → IsSmallBall (ball_of T P e i)
      ball_small e i leaf =
          let lies = h.valid.inside i leaf in
          let small = dist_small T t (leaf_node T i) (parent T e) in
          elim (cases_Bool (leaf_below T i e)) [
            | inl below ↦
                ((omega (arith, lies.0, h.small), omega (arith, lies.1, h.small)), subst (λ (b : Bool). (if b then radius T i e else 0) ≤ most_distance) (sym below) small)
            | inr off ↦
                ((omega (arith, lies.0, h.small), omega (arith, lies.1, h.small)), subst (λ (b : Bool). (if b then radius T i e else 0) ≤ most_distance) (sym off) (omega arith))
          ]

      pub row_small : (e : ℕ) → All IsSmallBall (row_of T P e)
      row_small e = All-map IsSmallBall (ball_of T P e) (range_with_len 1 (leaf_count T)) (λ k d less.
          let within : k < leaf_count T = omega (arith, less, length-range_with_len 1 (leaf_count T)) in
          let at : get_or (range_with_len 1 (leaf_count T)) k d ≡ k + 1 = omega (arith, get_or-range_with_len 1 (leaf_count T) k d within) in
          subst (λ (i : ℕ). IsSmallBall (ball_of T P e i)) (sym at) (ball_small e (k + 1) (omega arith, omega (arith, within))))

      pub balls_small : All IsSmallBall (balls_of T P)
      unfolding balls_of
      balls_small = all_flat IsSmallBall (row_of T P) (edges T) row_small

-- the balls that the code has made are small
pub made_small : (T : TreeValue) (S : ℕ) (P points : List Point) (balls list : List Ball) → IsTree T → ArePlaced T S P → points ≡ P → balls ≡ balls_of T points → list ≡ balls → All IsSmallBall list
made_small T S P points balls list t h copied made same =
    subst (All IsSmallBall) (sym (same ∙ made ∙ ap (balls_of T) copied)) (balls_small T P S t h)

-- parts of a list

part_long : (list : List Ball) (s c : ℕ) → s + c ≤ length list → length (take c (drop s list)) ≡ c
part_long list s c within = length-take-le c (drop s list) (omega (arith, length-drop s list, within))

part_at : (list : List Ball) (s c k : ℕ) (d : Ball) → k < c → get_or (take c (drop s list)) k d ≡ get_or list (s + k) d
part_at list s c k d less = get_or-take c (drop s list) k d less ∙ get_or-drop s list k d

-- a ball that holds a cell isn't empty
not_empty : (b : Ball) (x y : ℕ) → IsInBall b.at b.radius x y → b.radius ≡ 0 → ⊥
not_empty b x y near none = omega (arith, near.0, near.1, none)

module _ (list : List Ball) (start each : ℕ) (s : Span) (within : start + each ≤ length list) (is : IsSpan list start each s) where
  span_in : s.start + s.count ≤ length list
  span_in = omega (arith, is.before, within)

  -- the span holds what all of the balls hold
  span_holds : (x y : ℕ) → (HoldsCell (take s.count (drop s.start list)) x y → HoldsCell (take each (drop start list)) x y) × (HoldsCell (take each (drop start list)) x y → HoldsCell (take s.count (drop s.start list)) x y)
  span_holds x y = (
    λ h.
        let less : h.at < s.count = omega (arith, h.within, part_long list s.start s.count span_in) in
        let k : ℕ = s.start - start + h.at in
        let there : k < each = omega (arith, less, is.after, is.before) in
        let same : start + k ≡ s.start + h.at = omega (arith, is.after) in
        let at : get_or (take s.count (drop s.start list)) h.at no_ball ≡ get_or (take each (drop start list)) k no_ball =
        part_at list s.start s.count h.at no_ball less ∙ ap (λ (m : ℕ). get_or list m no_ball) (sym same) ∙ sym (part_at list start each k no_ball there) in
        record {
          at = k;
          within = omega (arith, there, part_long list start each within);
          near = subst (λ (b : Ball). IsInBall b.at b.radius x y) at h.near;
        },
    λ h.
        let less : h.at < each = omega (arith, h.within, part_long list start each within) in
        let here : get_or (take each (drop start list)) h.at no_ball ≡ get_or list (start + h.at) no_ball = part_at list start each h.at no_ball less in
        let near : IsInBall (get_or list (start + h.at) no_ball).at (get_or list (start + h.at) no_ball).radius x y = subst (λ (b : Ball). IsInBall b.at b.radius x y) here h.near in
        let from : s.start ≤ start + h.at = not_before (start + h.at) (λ less'. not_empty _ x y near (is.first (start + h.at) (omega arith) less')) in
        let to : start + h.at < s.start + s.count = not_after (start + h.at) (λ more. not_empty _ x y near (is.last (start + h.at) more (omega (arith, less)))) in
        let k : ℕ = start + h.at - s.start in
        let there : k < s.count = omega (arith, from, to) in
        let same : s.start + k ≡ start + h.at = omega (arith, from) in
        record {
          at = k;
          within = omega (arith, there, part_long list s.start s.count span_in);
          near = subst (λ (b : Ball). IsInBall b.at b.radius x y) (sym (part_at list s.start s.count k no_ball there ∙ ap (λ (m : ℕ). get_or list m no_ball) same)) near;
        },
  )
    where
      not_before : (m : ℕ) → (m < s.start → ⊥) → s.start ≤ m
      not_before m never = elim (cases_lt m s.start) [ inl less' ↦ absurd (never less') | inr more ↦ omega (arith, more) ]

      not_after : (m : ℕ) → (s.start + s.count ≤ m → ⊥) → m < s.start + s.count
      not_after m never = elim (cases_lt m (s.start + s.count)) [ inl less' ↦ omega (arith, less') | inr more ↦ absurd (never (omega (arith, more))) ]

-- spans of one row after another

above : (a b n : ℕ) → a ≤ b → a * n ≤ b * n
above a b n less = grind arith

pub spans_more : (balls : List Ball) (each start : ℕ) (spans after : List Span) (s : Span) → start ≡ length spans * each → ((k : ℕ) → k < length spans → IsSpan balls (k * each) each (get_or spans k no_span)) → IsSpan balls start each s → after ≡ spans ++ s ∷ [] → (start + each ≡ length after * each) × ((k : ℕ) → k < length after → IsSpan balls (k * each) each (get_or after k no_span))
spans_more balls each start spans after s at is one added = (next (length spans) (length after) at long, all)
  where
    long : length after ≡ length spans + 1
    long = omega (arith, ap length added, length-append spans (s ∷ []))

    next : (a b : ℕ) → start ≡ a * each → b ≡ a + 1 → start + each ≡ b * each
    next a b from more =
        let same : b ≡ suc a = omega (arith, more) in
        subst (λ (m : ℕ). start + each ≡ m * each) (sym same) (omega (arith, from))

    all : (k : ℕ) → k < length after → IsSpan balls (k * each) each (get_or after k no_span)
    all k less = elim (cases_lt k (length spans)) [
      | inl old ↦ subst (IsSpan balls (k * each) each) (sym (ap (λ (l : List Span). get_or l k no_span) added ∙ get_or_append_left spans (s ∷ []) no_span k old)) (is k old)
      | inr last ↦
          let e : length spans ≡ k = omega (arith, long, less, last) in
          let here : get_or after k no_span ≡ s = ap (λ (l : List Span). get_or l k no_span) added ∙ get_or_push spans s no_span k e in
          subst (IsSpan balls (k * each) each) (sym here) (subst (λ (m : ℕ). IsSpan balls m each s) (at ∙ ap (λ (m : ℕ). m * each) e) one)
    ]

pub spans_done : (balls : List Ball) (each start : ℕ) (spans : List Span) → start ≡ length spans * each → ((k : ℕ) → k < length spans → IsSpan balls (k * each) each (get_or spans k no_span)) → start ≤ length balls → length balls - start < each → AreSpans balls each spans
spans_done balls each start spans at is within few k room' = elim (cases_lt k (length spans)) [
  | inl less ↦ (less, is k less)
  | inr more ↦ absurd (omega (arith, above (length spans) k each more, at, within, few, room'))
]

-- what the code reads, with the values as it has them
module _ (T : TreeValue) (S : ℕ) (P : List Point) (R : RegionsValue) (balls : List Ball) (view : record { tree = T; side = S; points = P } ≡ R) (h : ArePlaced T S P) (is : balls ≡ balls_of T P) where
  side_is : S ≡ R.side
  side_is = ap (λ (V : RegionsValue). V.side) view

  pub read_first : (axis : Axis) (cuts list : List ℕ) → AreEnds S axis balls cuts → list ≡ cuts → get_or list 0 0 ≡ 0
  read_first axis cuts list ends same = ap (λ (l : List ℕ). get_or l 0 0) same ∙ first_cut S axis balls cuts ends

  pub read_last : (axis : Axis) (cuts list : List ℕ) → AreEnds S axis balls cuts → list ≡ cuts → get_or list (length list - 1) 0 ≡ R.side
  read_last axis cuts list ends same = ap (λ (l : List ℕ). get_or l (length l - 1) 0) same ∙ last_cut S axis balls cuts ends ∙ side_is

  pub read_x : (axis : Axis) (cuts list : List ℕ) → AreEnds S X balls cuts → list ≡ cuts → axis ≡ X → AreCuts R.tree R.side R.points axis list
  read_x axis cuts list ends same on =
      subst (λ (a : Axis). AreCuts R.tree R.side R.points a list) (sym on) (subst (λ (V : RegionsValue). AreCuts V.tree V.side V.points X list) view (subst (AreCuts T S P X) (sym same) (cuts_x T P S cuts (subst (λ (b : List Ball). AreEnds S X b cuts) is ends))))

  pub read_y : (axis : Axis) (cuts list : List ℕ) → AreEnds S Y balls cuts → list ≡ cuts → axis ≡ Y → AreCuts R.tree R.side R.points axis list
  read_y axis cuts list ends same on =
      subst (λ (a : Axis). AreCuts R.tree R.side R.points a list) (sym on) (subst (λ (V : RegionsValue). AreCuts V.tree V.side V.points Y list) view (subst (AreCuts T S P Y) (sym same) (cuts_y T P S cuts (subst (λ (b : List Ball). AreEnds S Y b cuts) is ends))))

  module _ (list : List Ball) (n e : ℕ) (same : list ≡ balls) (long : n ≡ length P) (edge : IsEdge R.tree e) where
    edge_here : IsEdge T e
    edge_here = subst (λ (V : RegionsValue). IsEdge V.tree e) (sym view) edge

    count : n ≡ leaf_count T
    count = long ∙ h.valid.each

    pub read_within : (e - 1) * n + n ≤ length list
    read_within = rw (same ∙ is, count) (row_within T P e edge_here)

    read_row : (row : List Ball) → row ≡ take n (drop ((e - 1) * n) list) → row ≡ row_of T P e
    read_row row at = at ∙ ap (λ (m : ℕ). take m (drop ((e - 1) * m) list)) count ∙ ap (λ (l : List Ball). take (leaf_count T) (drop ((e - 1) * leaf_count T) l)) (same ∙ is) ∙ row_here T P e edge_here

    pub read_small : (row : List Ball) → row ≡ take n (drop ((e - 1) * n) list) → IsTree T → All IsSmallBall row
    read_small row at t = subst (All IsSmallBall) (sym (read_row row at)) (row_small T P S t h e)

    pub read_reach : (row : List Ball) (x y : ℕ) (r : Bool) → row ≡ take n (drop ((e - 1) * n) list) → IsCell R.side x y → (IsTrue r ↔ HoldsCell row x y) → (IsTrue r ↔ Reach R.tree R.side R.points e x y)
    read_reach row x y r at cell holds =
        let here : HoldsCell row x y ↔ Reach T S P e x y = subst (λ (l : List Ball). HoldsCell l x y ↔ Reach T S P e x y) (sym (read_row row at)) (row_reaches T P S e x y (subst (λ (s : ℕ). IsCell s x y) (sym side_is) cell)) in
        subst (λ (V : RegionsValue). IsTrue r ↔ Reach V.tree V.side V.points e x y) view (λ so. here.0 (holds.0 so), λ reach. holds.1 (here.1 reach))

    module _ (spans : List Span) (all : AreSpans balls (length P) spans) where
      short : (e - 1) * length P + length P ≤ length balls
      short = subst (λ (l : List Ball). (e - 1) * length P + length P ≤ length l) same (subst (λ (m : ℕ). (e - 1) * m + m ≤ length list) long read_within)

      pub span_there : e - 1 < length spans
      span_there = (all (e - 1) short).0

      module _ (s : Span) (here : s ≡ get_or spans (e - 1) s) where
        is_span : IsSpan list ((e - 1) * n) n s
        is_span =
            let there : get_or spans (e - 1) no_span ≡ s = sym (get_or_read spans (e - 1) s span_there here no_span) in
            subst (λ (m : ℕ). IsSpan list ((e - 1) * m) m s) (sym long) (subst (λ (l : List Ball). IsSpan l ((e - 1) * length P) (length P) s) (sym same) (subst (IsSpan balls ((e - 1) * length P) (length P)) there (all (e - 1) short).1))

        pub span_within : s.start + s.count ≤ length list
        span_within = span_in list ((e - 1) * n) n s read_within is_span

        pub span_small : (row : List Ball) → row ≡ take s.count (drop s.start list) → IsTree T → All IsSmallBall row
        span_small row at t =
            let small : All IsSmallBall list = subst (All IsSmallBall) (sym (same ∙ is)) (balls_small T P S t h) in
            subst (All IsSmallBall) (sym at) (λ k d less.
            let within : k < s.count = omega (arith, less, part_long list s.start s.count span_within) in
            subst IsSmallBall (sym (part_at list s.start s.count k d within)) (small (s.start + k) d (omega (arith, within, span_within))))

        pub span_reach : (row : List Ball) (x y : ℕ) (r : Bool) → row ≡ take s.count (drop s.start list) → IsCell R.side x y → (IsTrue r ↔ HoldsCell row x y) → (IsTrue r ↔ Reach R.tree R.side R.points e x y)
        span_reach row x y r at cell holds =
            let there = span_holds list ((e - 1) * n) n s read_within is_span x y in
            read_reach (take n (drop ((e - 1) * n) list)) x y r refl cell
            (λ so. there.0 (subst (λ (l : List Ball). HoldsCell l x y) at (holds.0 so)), λ h'. holds.1 (subst (λ (l : List Ball). HoldsCell l x y) (sym at) (there.1 h')))
