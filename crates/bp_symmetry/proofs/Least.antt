-- The least weight of the walks that count, of a split and its children.
use Rattle.std.proofs.Common.{◌≡◌, ℕ, ◌*◌, ◌≤◌, min, List, [], ◌∷◌, ◌++◌, map, Option, Some, None, refl, ◌∙◌, ap, arith}
use Rattle.std.specs.List.{flat_map}
use Rattle.std.proofs.lemmas.List.{map-append}
use Rattle.std.proofs.Math.Nat.{mul-le-mul_left}
use Rattle.bp_base.specs.declared.point.Sheet.{Sheet}
use Rattle.bp_base.specs.declared.path.Pair.{Pair}
use Rattle.bp_base.specs.declared.chain.Claim.{Claim}
use Rattle.bp_base.specs.declared.refutation.Refutation.{Refutation}
use Rattle.bp_base.specs.declared.refutation.Refutation.TheVariants.{Split, Closed, Open}
use Rattle.bp_base.specs.Tree.{TreeValue}
use Rattle.bp_metric.specs.Nodes.{parts_of, counted, counted_part, lesser, least_of, weighs}
use Rattle.bp_metric.proofs.Refutations.{parts-split, parts-closed, parts-open}

lesser_assoc : (u v w : Option ℕ) → lesser u (lesser v w) ≡ lesser (lesser u v) w
lesser_assoc None v w = refl
lesser_assoc (Some a) None w = refl
lesser_assoc (Some a) (Some b) None = refl
lesser_assoc (Some a) (Some b) (Some c) = let same : min a (min b c) ≡ min (min a b) c = omega arith in ap Some same

lesser_none : (w : Option ℕ) → lesser w None ≡ w
lesser_none None = refl
lesser_none (Some a) = refl

least-append : (us ws : List (Option ℕ)) → least_of (us ++ ws) ≡ lesser (least_of us) (least_of ws)
least-append [] ws = refl
least-append (u ∷ us) ws = ap (lesser u) (least-append us ws) ∙ lesser_assoc u (least_of us) (least_of ws)

module _ (T : TreeValue) (G : Sheet) where
  least-children : (rs : List Refutation) → least_of (map (counted_part T G) (flat_map parts_of rs)) ≡ least_of (map (weighs T G) rs)
  unfolding weighs
  least-children [] = refl
  least-children (r ∷ rs) =
      ap least_of (map-append (counted_part T G) (parts_of r) (flat_map parts_of rs))
      ∙ least-append (map (counted_part T G) (parts_of r)) (map (counted_part T G) (flat_map parts_of rs))
      ∙ ap (lesser (weighs T G r)) (least-children rs)

  -- a split weighs as much as the lightest of its children
  pub weighs-split : (p : Pair) (rs : List Refutation) → weighs T G (Split p rs) ≡ least_of (map (weighs T G) rs)
  unfolding weighs
  weighs-split p rs = ap (λ parts. least_of (map (counted_part T G) parts)) (parts-split p rs) ∙ least-children rs

  pub weighs-closed : (claim : Claim) → weighs T G (Closed claim) ≡ counted T G claim
  unfolding weighs
  weighs-closed claim = ap (λ parts. least_of (map (counted_part T G) parts)) (parts-closed claim) ∙ lesser_none (counted T G claim)

  pub weighs-open : (claim : Claim) → weighs T G (Open claim) ≡ counted T G claim
  unfolding weighs
  weighs-open claim = ap (λ parts. least_of (map (counted_part T G) parts)) (parts-open claim) ∙ lesser_none (counted T G claim)

-- there is a weight, and a sheet of side s has room for it on a grid q times finer
pub record HasRoom (q s : ℕ) (w : Option ℕ) : Type 0 where
  pub weight : ℕ
  pub is : w ≡ Some weight
  pub room : q * weight ≤ s

lighter : (q s a b : ℕ) → b ≤ a → q * a ≤ s → q * b ≤ s
lighter q s a b less room = omega (arith, mul-le-mul_left {m = b} {n = a} q less, room)

module _ (q s : ℕ) where
  pub room_first : (u w : Option ℕ) → HasRoom q s u → HasRoom q s (lesser u w)
  room_first None w has = absurd (cc (has.is))
  room_first (Some a) None has = has
  room_first (Some a) (Some b) has =
      let same : a ≡ has.weight = cc in
      record { weight = min a b; is = refl; room = lighter q s has.weight (min a b) (omega (arith, same)) has.room }

  pub room_rest : (u w : Option ℕ) → HasRoom q s w → HasRoom q s (lesser u w)
  room_rest None w has = has
  room_rest (Some a) None has = absurd (cc (has.is))
  room_rest (Some a) (Some b) has =
      let same : b ≡ has.weight = cc in
      record { weight = min a b; is = refl; room = lighter q s has.weight (min a b) (omega (arith, same)) has.room }
