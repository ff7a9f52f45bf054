-- Steps as they are kept: each is small, and what two paths have in common.
use Rattle.std.proofs.Common.{◌≡◌, ◌∙◌, ℕ, ◌<◌, List, Option, None, Some, length, map, take, get_or, sym, ap, subst, arith}
use Rattle.std.specs.List.{All, slice_get}
use Rattle.std.specs.Option.{option_map}
use Rattle.std.proofs.lemmas.List.{take-map}
use Rattle.std.proofs.lemmas.Option.{none-some, slice_get-map}
use Rattle.std.proofs.Math.ListN.{get_or-map}
use Rattle.std.proofs.lemmas.List.Elements.{All-get_or}
use Rattle.bp_base.specs.declared.path.Packed.{Packed}
use Rattle.bp_base.specs.declared.path.Step.{Step}
use Rattle.bp_base.specs.Path.{IsSmallPair}

pub small_at : (unpack : Packed → Step) (items read : List Packed) (path : List Step) (k : ℕ) (d : Packed) (r : Step) → All (λ (s : Step). IsSmallPair s.pair) (map unpack items) → map unpack items ≡ path → k < length path → read ≡ items → r ≡ unpack (get_or read k d) → IsSmallPair r.pair
small_at unpack items read path k d r all view less same is =
    let within : k < length (map unpack items) = omega (arith, ap length view, less) in
    let there = All-get_or (λ (s : Step). IsSmallPair s.pair) (map unpack items) k (unpack d) within all in
    let e : get_or (map unpack items) k (unpack d) ≡ r = get_or-map unpack items k d ∙ sym (is ∙ ap (λ (l : List Packed). unpack (get_or l k d)) same) in
    subst (λ (s : Step). IsSmallPair s.pair) e there

-- a step as it is seen
abbrev pub seen : Packed → Step
seen s = record { pair = record { i = s.i; j = s.j }; choice = s.choice }

-- what the kept steps have in common the paths do
pub common_seen : (items others read read' : List Packed) (p q : List Step) (k : ℕ) → map seen items ≡ p → map seen others ≡ q → read ≡ items → read' ≡ others → take k read ≡ take k read' → take k p ≡ take k q
common_seen items others read read' p q k view view' is is' same =
    sym (of_items items read p view is) ∙ ap (map seen) same ∙ of_items others read' q view' is'
  where
    of_items : (xs ys : List Packed) (r : List Step) → map seen xs ≡ r → ys ≡ xs → map seen (take k ys) ≡ take k r
    of_items xs ys r view is = ap (λ (l : List Packed). map seen (take k l)) is ∙ sym (take-map seen k xs) ∙ ap (take k) view

seen_injective : (s t : Packed) → seen s ≡ seen t → s ≡ t
seen_injective s t same = λ n. record { i = (same n).pair.i; j = (same n).pair.j; choice = (same n).choice }

abbrev step_in : Option Step → Step → Step
step_in None d = d
step_in (Some s) d = s

apart_by : (a b : Option Packed) (s : Step) → ((t : Packed) → a ≡ Some t → b ≡ Some t → ⊥) → option_map seen a ≡ Some s → option_map seen b ≡ Some s → ⊥
apart_by None b s apart is is' = none-some s is
apart_by (Some t) None s apart is is' = none-some s is'
apart_by (Some t) (Some u) s apart is is' =
    apart t (λ n. Some t) (ap Some (sym (seen_injective t u (ap (λ (o : Option Step). step_in o (seen t)) (is ∙ sym is')))))

-- where the kept steps differ the paths do
pub apart_seen : (items others read read' : List Packed) (p q : List Step) (k : ℕ) → map seen items ≡ p → map seen others ≡ q → read ≡ items → read' ≡ others → ((t : Packed) → slice_get read k ≡ Some t → slice_get read' k ≡ Some t → ⊥) → (s : Step) → slice_get p k ≡ Some s → slice_get q k ≡ Some s → ⊥
apart_seen items others read read' p q k view view' is is' apart s here there =
    apart_by (slice_get read k) (slice_get read' k) s apart (of_items items read p view is ∙ here) (of_items others read' q view' is' ∙ there)
  where
    of_items : (xs ys : List Packed) (r : List Step) → map seen xs ≡ r → ys ≡ xs → option_map seen (slice_get ys k) ≡ slice_get r k
    of_items xs ys r view is = ap (λ (l : List Packed). option_map seen (slice_get l k)) is ∙ sym (slice_get-map seen xs k) ∙ ap (λ (l : List Step). slice_get l k) view
