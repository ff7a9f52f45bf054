-- Labels of cells, and what lowering one does.
use Rattle.std.proofs.Common.{◌≡◌, ℕ, zero, suc, ◌+◌, ◌*◌, ◌<◌, ◌≤◌, min, List, [], ◌∷◌, ◌++◌, length, get_or, set, refl, sym, ◌∙◌, ap, subst, arith, inl, inr}
use Rattle.std.specs.List.{range_with_len, sum}
use Rattle.std.proofs.lemmas.Bool.{cases_eq, cases_lt, cases_order}
use Rattle.std.proofs.lemmas.List.FromFn.{length-range_with_len, get_or-range_with_len}
use Rattle.std.proofs.lemmas.List.Sums.{sum_by-set}
use Rattle.std.proofs.lemmas.List.{get_or-set_same, get_or-set_other, length-set}
use Rattle.bp_contour.specs.Table.{TableValue}
use Rattle.bp_contour.proofs.Tables.{held_within, in_table, row_below}
use Rattle.bp_pieces.specs.declared.kind.Kind.{Kind}
use Rattle.bp_pieces.specs.declared.kind.Kind.TheVariants.{Outside, Reached}
use Rattle.bp_pieces.specs.Labels.{Among, HasLabels, IsFound, IsLowest, IsPlaceFor, Near, label_at}
use Rattle.bp_pieces.specs.Pieces.{IsJoined, Meet}
use Rattle.bp_pieces.specs.Pieces.IsJoined.{alone, onward}
use Rattle.bp_pieces.proofs.Joined.{joined_back, joined_on, last_in, meet_back, touch_back}

pub among_within : (C : TableValue) (kind : Kind) (x y : ℕ) → Among C kind x y → (x < C.width) × (y < C.height)
among_within C Reached x y a = held_within C x y a
among_within C Outside x y a = (a.0, a.1)

pub near_back : (kind : Kind) (x y u v : ℕ) → Near kind x y u v → Near kind u v x y
near_back Reached x y u v n = touch_back x y u v n
near_back Outside x y u v n = meet_back x y u v n

pub near_range : (kind : Kind) (x y u v : ℕ) → Near kind x y u v → Meet x y u v
near_range Outside x y u v n = n
near_range Reached x y u v (inl (e, inl n)) = (omega arith, omega arith, omega arith, omega arith)
near_range Reached x y u v (inl (e, inr n)) = (omega arith, omega arith, omega arith, omega arith)
near_range Reached x y u v (inr (e, inl n)) = (omega arith, omega arith, omega arith, omega arith)
near_range Reached x y u v (inr (e, inr n)) = (omega arith, omega arith, omega arith, omega arith)

pub same_place : (w x y u v : ℕ) → x < w → u < w → y * w + x ≡ v * w + u → (x ≡ u) × (y ≡ v)
same_place w x y u v x_in u_in e = elim (cases_order y v) [
  | inl same ↦
      let f : y * w ≡ v * w = ap (λ (k : ℕ). k * w) same in
      (omega (arith, e, f), same)
  | inr (inl less) ↦ absurd (omega (arith, e, row_below y v w less, x_in))
  | inr (inr more) ↦ absurd (omega (arith, e, row_below v y w more, u_in))
]

module _ (In : ℕ → ℕ → Type 0) (Close : ℕ → ℕ → ℕ → ℕ → Type 0) (back : (x y u v : ℕ) → Close x y u v → Close u v x y) (w h : ℕ) (inside : (x y : ℕ) → In x y → (x < w) × (y < h)) where
  place_below : (x y : ℕ) → In x y → y * w + x < w * h
  place_below x y i = let (a, b) = inside x y i in in_table w h x y a b

  pub own_labels : (labels : List ℕ) → labels ≡ range_with_len 0 (w * h) → HasLabels In Close w h labels
  own_labels labels is = record {
    long = ap length is ∙ length-range_with_len 0 (w * h);
    place = λ x y i.
        let at : label_at w labels x y ≡ y * w + x = ap (λ (l : List ℕ). get_or l (y * w + x) 0) is ∙ get_or-range_with_len 0 (w * h) (y * w + x) 0 (place_below x y i) ∙ (omega arith) in
        record {
          u = x;
          v = y;
          joined = alone i;
          is = sym at;
          before = omega (arith, at);
        };
  }

  -- a label of a cell that a chain joins is one for the cell too, where it isn't greater than its place
  pub place_on : (x y u v label : ℕ) → IsJoined In Close x y u v → IsPlaceFor In Close w u v label → label ≤ y * w + x → IsPlaceFor In Close w x y label
  place_on x y u v label joined p before = record {
    u = p.u;
    v = p.v;
    joined = joined_on In Close x y u v p.u p.v joined p.joined;
    is = p.is;
    before = before;
  }

  module _ (labels : List ℕ) (has : HasLabels In Close w h labels) where
    pub set_kept : (a b label : ℕ) → In a b → IsPlaceFor In Close w a b label → HasLabels In Close w h (set labels (b * w + a) label)
    set_kept a b label i p = record {
      long = length-set labels (b * w + a) label ∙ has.long;
      place = λ x y j. elim (cases_eq (y * w + x) (b * w + a)) [
        | inl same ↦
            let (x_is, y_is) = same_place w x y a b (inside x y j).0 (inside a b i).0 same in
            let at : label_at w (set labels (b * w + a) label) x y ≡ label = ap (λ (k : ℕ). get_or (set labels (b * w + a) label) k 0) same ∙ get_or-set_same labels (b * w + a) label 0 (omega (arith, has.long, place_below a b i)) in
            subst (IsPlaceFor In Close w x y) (sym at) (subst (λ (k : ℕ). IsPlaceFor In Close w k y label) (sym x_is) (subst (λ (k : ℕ). IsPlaceFor In Close w a k label) (sym y_is) p))
        | inr apart ↦ subst (IsPlaceFor In Close w x y) (sym (get_or-set_other labels (b * w + a) (y * w + x) label 0 apart)) (has.place x y j)
      ];
    }

    -- What is known where the label at (x,y) is lowered by that of the place that a near label names.
    module _ (x y near : ℕ) (i : In x y) (found : IsFound In Close w labels x y near) (own : near ≤ label_at w labels x y) where
      old : IsPlaceFor In Close w x y (label_at w labels x y)
      old = has.place x y i

      at_near : IsPlaceFor In Close w found.u found.v near
      at_near = subst (IsPlaceFor In Close w found.u found.v) found.is (has.place found.u found.v (last_in In Close x y found.u found.v found.joined))

      to_near : IsJoined In Close x y at_near.u at_near.v
      to_near = joined_on In Close x y found.u found.v at_near.u at_near.v found.joined at_near.joined

      pub near_within : near < length labels
      near_within = omega (arith, has.long, at_near.is, place_below at_near.u at_near.v (last_in In Close x y at_near.u at_near.v to_near))

      at_least : IsPlaceFor In Close w at_near.u at_near.v (get_or labels near 0)
      at_least = subst (λ (k : ℕ). IsPlaceFor In Close w at_near.u at_near.v (get_or labels k 0)) at_near.is (has.place at_near.u at_near.v (last_in In Close x y at_near.u at_near.v to_near))

      -- the label at the near label's place is no greater
      pub least_low : get_or labels near 0 ≤ near
      least_low = omega (arith, at_least.before, at_near.is)

      pub old_within : label_at w labels x y < length labels
      old_within = omega (arith, has.long, old.is, place_below old.u old.v (last_in In Close x y old.u old.v old.joined))

      place_of_least : IsPlaceFor In Close w x y (get_or labels near 0)
      place_of_least = place_on x y at_near.u at_near.v (get_or labels near 0) to_near at_least (omega (arith, least_low, own, old.before))

      -- what stands at the old label's place
      there : IsPlaceFor In Close w old.u old.v (get_or labels (label_at w labels x y) 0)
      there = subst (λ (k : ℕ). IsPlaceFor In Close w old.u old.v (get_or labels k 0)) old.is (has.place old.u old.v (last_in In Close x y old.u old.v old.joined))

      pub hooked : (low : ℕ) → low ≡ min (get_or labels (label_at w labels x y) 0) (get_or labels near 0) → HasLabels In Close w h (set labels (label_at w labels x y) low)
      hooked low is =
          let here = last_in In Close x y old.u old.v old.joined in
          let turn = joined_back In Close back x y old.u old.v old.joined in
          let p : IsPlaceFor In Close w old.u old.v low = elim (cases_lt (get_or labels near 0) (get_or labels (label_at w labels x y) 0)) [
            | inl less ↦
                let e : get_or labels near 0 ≡ low = omega (arith, is, less) in
                subst (IsPlaceFor In Close w old.u old.v) e (place_on old.u old.v x y (get_or labels near 0) turn place_of_least (omega (arith, less, there.before)))
            | inr more ↦
                let e : get_or labels (label_at w labels x y) 0 ≡ low = omega (arith, is, more) in
                subst (IsPlaceFor In Close w old.u old.v) e there
          ] in
          subst (λ (k : ℕ). HasLabels In Close w h (set labels k low)) old.is (set_kept old.u old.v low here p)

      pub place_for_least : IsPlaceFor In Close w x y (get_or labels near 0)
      place_for_least = place_of_least

pub sum_set : (xs : List ℕ) (i v : ℕ) → i < length xs → sum (set xs i v) + get_or xs i 0 ≡ sum xs + v
sum_set xs i v less = sum_by-set (λ (x : ℕ). x) xs i v 0 less

-- The least label found so far.
module _ (In : ℕ → ℕ → Type 0) (Close : ℕ → ℕ → ℕ → ℕ → Type 0) (w : ℕ) (labels : List ℕ) (x y : ℕ) where
  pub own_found : In x y → IsFound In Close w labels x y (label_at w labels x y)
  own_found i = record {
    u = x;
    v = y;
    joined = alone i;
    is = refl;
  }

  pub near_found : (u v least label : ℕ) → In x y → In u v → Close x y u v → label ≡ label_at w labels u v → IsFound In Close w labels x y least → IsFound In Close w labels x y (min least label)
  near_found u v least label i j close at found = elim (cases_lt label least) [
    | inl less ↦
        record {
          u = u;
          v = v;
          joined = onward (alone i) u v close j;
          is = omega (arith, at, less);
        }
    | inr more ↦
        record {
          u = found.u;
          v = found.v;
          joined = found.joined;
          is = omega (arith, found.is, more);
        }
  ]

pub lesser_found : (In : ℕ → ℕ → Type 0) (Close : ℕ → ℕ → ℕ → ℕ → Type 0) (w : ℕ) (labels : List ℕ) (x y u v least label place low : ℕ) → In x y → In u v → Close x y u v → IsFound In Close w labels x y least → place ≡ v * w + u → label ≡ get_or labels place 0 → low ≡ min least label → IsFound In Close w labels x y low
lesser_found In Close w labels x y u v least label place low i j close found at read is =
    subst (IsFound In Close w labels x y) (sym is) (near_found In Close w labels x y u v least label i j close (read ∙ ap (λ (k : ℕ). get_or labels k 0) at) found)

pub one_more : (a n : ℕ) → range_with_len a (n + 1) ≡ range_with_len a n ++ (a + n) ∷ []
one_more a zero = ap (λ (x : ℕ). x ∷ []) (omega arith)
one_more a (suc n) =
    let more = one_more (a + 1) n in
    let e : a + 1 + n ≡ a + suc n = omega arith in
    let f : suc n + 1 ≡ suc (n + 1) = omega arith in
    rw f (ap (λ (l : List ℕ). a ∷ l) (more ∙ ap (λ (x : ℕ). range_with_len (a + 1) n ++ x ∷ []) e))

pub place_more : (n : ℕ) (before after : List ℕ) → before ≡ range_with_len 0 n → after ≡ before ++ n ∷ [] → after ≡ range_with_len 0 (n + 1)
place_more n before after now is =
    let e : n ≡ 0 + n = omega arith in
    is ∙ ap (λ (l : List ℕ). l ++ n ∷ []) now ∙ ap (λ (k : ℕ). range_with_len 0 n ++ k ∷ []) e ∙ sym (one_more 0 n)

-- lowering makes the sum of all labels less
pub sum_less : (labels : List ℕ) (place low least : ℕ) → place < length labels → get_or labels place 0 < length labels → low ≤ get_or labels (get_or labels place 0) 0 → least < get_or labels place 0 → sum (set (set labels (get_or labels place 0) low) place least) < sum labels
sum_less labels place low least p_in o_in lower less =
    let old = get_or labels place 0 in
    let once = set labels old low in
    let first = sum_set labels old low o_in in
    let second = sum_set once place least (omega (arith, length-set labels old low, p_in)) in
    elim (cases_eq place old) [
      | inl same ↦
          let at : get_or once place 0 ≡ low = ap (λ (k : ℕ). get_or once k 0) same ∙ get_or-set_same labels old low 0 o_in in
          let here : get_or labels old 0 ≡ old = ap (λ (k : ℕ). get_or labels k 0) (sym same) in
          omega (arith, first, second, at, here, less)
      | inr apart ↦
          let at : get_or once place 0 ≡ old = get_or-set_other labels old place low 0 apart in
          omega (arith, first, second, at, lower, less)
    ]

module _ (C : TableValue) (kind : Kind) (labels : List ℕ) (has : HasLabels (Among C kind) (Near kind) C.width C.height labels) (x y near place : ℕ) (i : Among C kind x y) (found : IsFound (Among C kind) (Near kind) C.width labels x y near) (own : near ≤ label_at C.width labels x y) (place_is : place ≡ y * C.width + x) where
  at_place : get_or labels place 0 ≡ label_at C.width labels x y
  at_place = ap (λ (k : ℕ). get_or labels k 0) place_is

  pub near_there : near < length labels
  near_there = near_within (Among C kind) (Near kind) (near_back kind) C.width C.height (among_within C kind) labels has x y near i found own

  pub old_there : get_or labels place 0 < length labels
  old_there = omega (arith, at_place, old_within (Among C kind) (Near kind) (near_back kind) C.width C.height (among_within C kind) labels has x y near i found own)

  pub place_there : place < length labels
  place_there = omega (arith, place_is, has.long, place_below (Among C kind) (Near kind) (near_back kind) C.width C.height (among_within C kind) x y i)

  pub lowered_has : (low : ℕ) → low ≡ min (get_or labels (get_or labels place 0) 0) (get_or labels near 0) → HasLabels (Among C kind) (Near kind) C.width C.height (set (set labels (get_or labels place 0) low) place (get_or labels near 0))
  lowered_has low is =
      let is' : low ≡ min (get_or labels (label_at C.width labels x y) 0) (get_or labels near 0) = is ∙ ap (λ (k : ℕ). min (get_or labels k 0) (get_or labels near 0)) at_place in
      let once = hooked (Among C kind) (Near kind) (near_back kind) C.width C.height (among_within C kind) labels has x y near i found own low is' in
      let p = place_for_least (Among C kind) (Near kind) (near_back kind) C.width C.height (among_within C kind) labels has x y near i found own in
      let twice = set_kept (Among C kind) (Near kind) (near_back kind) C.width C.height (among_within C kind) (set labels (label_at C.width labels x y) low) once x y (get_or labels near 0) i p in
      subst (λ (k : ℕ). HasLabels (Among C kind) (Near kind) C.width C.height (set (set labels (get_or labels k 0) low) k (get_or labels near 0))) (sym place_is) twice

  pub settled : get_or labels place 0 ≤ get_or labels near 0 → ((u v : ℕ) → Among C kind u v → Near kind x y u v → near ≤ label_at C.width labels u v) → IsLowest (Among C kind) (Near kind) C.width labels x y
  settled stays low u v j close =
      omega (arith, at_place, stays, low u v j close, least_low (Among C kind) (Near kind) (near_back kind) C.width C.height (among_within C kind) labels has x y near i found own)

-- a label is the place of a cell
pub label_below : (C : TableValue) (kind : Kind) (labels : List ℕ) → HasLabels (Among C kind) (Near kind) C.width C.height labels → (x y : ℕ) → Among C kind x y → label_at C.width labels x y < C.width * C.height
label_below C kind labels has x y i =
    let p = has.place x y i in
    let (u_in, v_in) = among_within C kind p.u p.v (last_in (Among C kind) (Near kind) x y p.u p.v p.joined) in
    omega (arith, p.is, in_table C.width C.height p.u p.v u_in v_in)
