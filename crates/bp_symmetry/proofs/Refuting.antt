-- The law of refutations: in settled points some branch is obeyed to its end, and the walk there has room.
use Rattle.std.proofs.Common.{◌≡◌, ℕ, zero, suc, ◌*◌, ◌-◌, ◌<◌, ◌≤◌, false, nat_lt, List, [], ◌∷◌, length, map, get_or, Some, refl, sym, ap, subst, arith}
use Rattle.std.proofs.Math.Nat.{le_of_mul-le-mul_left}
use Rattle.std.proofs.lemmas.Bool.{le-ltb}
use Rattle.bp_base.specs.declared.point.Axis.{Axis}
use Rattle.bp_base.specs.declared.point.Axis.TheVariants.{X, Y}
use Rattle.bp_base.specs.declared.path.Choice.{Choice}
use Rattle.bp_base.specs.declared.path.Pair.{Pair}
use Rattle.bp_base.specs.declared.path.Step.{Step}
use Rattle.bp_base.specs.declared.point.Point.{Point}
use Rattle.bp_base.specs.declared.point.Sheet.{Sheet}
use Rattle.bp_base.specs.declared.point.Sheet.TheVariants.{Square, Strip}
use Rattle.bp_base.specs.declared.chain.Claim.{Claim}
use Rattle.bp_base.specs.declared.chain.Claim.TheVariants.{Walk, Cycle}
use Rattle.bp_base.specs.declared.refutation.Refutation.{Refutation, roll-Refutation, ind-Refutation}
use Rattle.bp_base.specs.declared.refutation.Refutation.TheOpen.{Refutation-F}
use Rattle.bp_base.specs.declared.refutation.Refutation.TheVariants.{Split, Closed, Open, rolls-Split, rolls-Closed, rolls-Open}
use Rattle.bp_base.specs.declared.refutation.Refutation.TheFolds.{map-Refutation}
use Rattle.bp_base.specs.Point.{point_at}
use Rattle.bp_base.specs.Tree.{TreeValue, IsTree, leaf_count}
use Rattle.bp_metric.specs.Chains.{ClaimHolds, IsChain, chain_weight, last_of}
use Rattle.bp_metric.specs.Choices.{allowed}
use Rattle.bp_metric.specs.Distance.{most_distance}
use Rattle.bp_metric.specs.Nodes.{counted, least_of, weighs}
use Rattle.bp_metric.specs.Refutation.{extended, CanSplit, EachFits, Fits}
use Rattle.bp_metric.specs.Valid.{Lies, Valid, NoneBelow}
use Rattle.bp_metric.proofs.Refutations.{fits-split, fits-closed, fits-open}
use Rattle.bp_symmetry.specs.Settled.{EachHasAllowed}
use Rattle.bp_symmetry.proofs.FarApart.{far_points, far_valid}
use Rattle.bp_symmetry.proofs.Least.{HasRoom, room_first, room_rest, weighs-split, weighs-closed, weighs-open}
use Rattle.bp_symmetry.proofs.Obeyed.{Obeys, coordinate, obeys_extended, chain_reaches, no_cycle}
use Rattle.bp_symmetry.proofs.SettlingLaw.{settling}

module _ (T : TreeValue) (t : IsTree T) (q s : ℕ) (finer : 1 ≤ q) (P : List Point) where
  walk_reaches : (path : List Step) (axis : Axis) (chain : List ℕ) → Obeys T q P path → IsChain (leaf_count T) path axis chain → q * chain_weight T chain ≤ coordinate axis (point_at P (last_of chain))
  walk_reaches path axis chain obeys is = omega (arith, chain_reaches T t q P path axis chain obeys is)

  last_inside : (G : Sheet) (path : List Step) (axis : Axis) (chain : List ℕ) → Valid T G q s P → IsChain (leaf_count T) path axis chain → Lies G q s (point_at P (last_of chain))
  last_inside G path axis chain v is = v.inside (last_of chain) (is.are_leaves (length chain - 1) 0 (omega (arith, is.some)))

  -- a walk counts, and has room
  walk_room : (G : Sheet) (path : List Step) (axis : Axis) (chain : List ℕ) → Valid T G q s P → Obeys T q P path → IsChain (leaf_count T) path axis chain → HasRoom q s (counted T G (Walk axis chain))
  walk_room Square path X chain v obeys is =
      record { weight = chain_weight T chain; is = refl; room = omega (arith, walk_reaches path X chain obeys is, (last_inside Square path X chain v is).0) }
  walk_room Square path Y chain v obeys is =
      record { weight = chain_weight T chain; is = refl; room = omega (arith, walk_reaches path Y chain obeys is, (last_inside Square path Y chain v is).1) }
  walk_room (Strip width) path X chain v obeys is =
      let scaled : q * chain_weight T chain ≤ q * width = omega (arith, walk_reaches path X chain obeys is, (last_inside (Strip width) path X chain v is).0) in
      let within : chain_weight T chain ≤ width = le_of_mul-le-mul_left {m = chain_weight T chain} {n = width} {k = q} scaled finer in
      let narrow : nat_lt width (chain_weight T chain) ≡ false = le-ltb width (chain_weight T chain) within in
      record { weight = 0; is = rw narrow refl; room = omega arith }
  walk_room (Strip width) path Y chain v obeys is =
      record { weight = chain_weight T chain; is = refl; room = omega (arith, walk_reaches path Y chain obeys is, (last_inside (Strip width) path Y chain v is).1) }

  claim_room : (G : Sheet) (path : List Step) (claim : Claim) → Valid T G q s P → Obeys T q P path → ClaimHolds (leaf_count T) path claim → HasRoom q s (counted T G claim)
  claim_room G path (Walk axis chain) v obeys is = walk_room G path axis chain v obeys is
  claim_room G path (Cycle axis chain) v obeys is = absurd (no_cycle T t q P path axis chain finer obeys is)

-- Down a refutation.
module _ (T : TreeValue) (t : IsTree T) (G : Sheet) (q s : ℕ) (finer : 1 ≤ q) (P : List Point) (v : Valid T G q s P) (settled : EachHasAllowed T G q P) where
  abbrev Rooms : Refutation → Type 0
  Rooms r = (path : List Step) → Fits T G r path → Obeys T q P path → HasRoom q s (weighs T G r)

  abbrev Known : Type 0
  Known = (r : Refutation) × Rooms r

  abbrev known : List Known → List Refutation
  known rs = map (λ (r : Known). r.0) rs

  -- the child of the choice that holds
  child_room : (path : List Step) (p : Pair) (choices : List Choice) (k : ℕ) (c : Choice) (rs : List Known) → k < length choices → get_or choices k c ≡ c → EachFits (Fits T G) path p choices (known rs) → Obeys T q P (extended path p c) → HasRoom q s (least_of (map (weighs T G) (known rs)))
  child_room path p [] k c rs less is each obeys = absurd (omega arith)
  child_room path p (d ∷ choices) k c [] less is each obeys = absurd each
  child_room path p (d ∷ choices) zero c (r ∷ rs) less is each obeys =
      let fits : Fits T G r.0 (extended path p c) = subst (λ (e : Choice). Fits T G r.0 (extended path p e)) is each.0 in
      room_first q s (weighs T G r.0) (least_of (map (weighs T G) (known rs))) (r.1 (extended path p c) fits obeys)
  child_room path p (d ∷ choices) (suc k) c (r ∷ rs) less is each obeys =
      room_rest q s (weighs T G r.0) (least_of (map (weighs T G) (known rs))) (child_room path p choices k c rs (omega arith) is each.1 obeys)

  split_room : (p : Pair) (rs : List Known) → Rooms (Split p (known rs))
  split_room p rs path fits obeys =
      let e = fits-split T G p (known rs) path in
      let parts : CanSplit T path p × EachFits (Fits T G) path p (allowed T G p) (known rs) = coe 0 1 (i. e i) fits in
      let has = settled p parts.0.pair in
      let longer = obeys_extended T q P path p has.choice parts.0.pair has.holds obeys in
      subst (HasRoom q s) (sym (weighs-split T G p (known rs))) (child_room path p (allowed T G p) has.allowed.0 has.choice rs has.allowed.1 has.allowed.2 parts.1 longer)

  closed_room : (claim : Claim) → Rooms (Closed claim)
  closed_room claim path fits obeys =
      let e = fits-closed T G claim path in
      let holds : ClaimHolds (leaf_count T) path claim = coe 0 1 (i. e i) fits in
      subst (HasRoom q s) (sym (weighs-closed T G claim)) (claim_room T t q s finer P G path claim v obeys holds)

  open_room : (claim : Claim) → Rooms (Open claim)
  open_room claim path fits obeys =
      let e = fits-open T G claim path in
      let holds : ClaimHolds (leaf_count T) path claim = coe 0 1 (i. e i) fits in
      subst (HasRoom q s) (sym (weighs-open T G claim)) (claim_room T t q s finer P G path claim v obeys holds)

  node_room : (x : Refutation-F Refutation) (y : Refutation-F Known) → map-Refutation Known Refutation (λ (r : Known). r.0) y ≡ x → Rooms (roll-Refutation x)
  node_room x (Refutation-F.Split p rs) is = subst (λ z. Rooms (roll-Refutation z)) is (subst Rooms (sym (rolls-Split p (known rs))) (split_room p rs))
  node_room x (Refutation-F.Closed claim) is = subst (λ z. Rooms (roll-Refutation z)) is (subst Rooms (sym (rolls-Closed claim)) (closed_room claim))
  node_room x (Refutation-F.Open claim) is = subst (λ z. Rooms (roll-Refutation z)) is (subst Rooms (sym (rolls-Open claim)) (open_room claim))

  each_room : (r : Refutation) → Rooms r
  each_room = ind-Refutation Rooms node_room

-- A valid placement has room for what a refutation weighs.
has_room : (T : TreeValue) → IsTree T → (G : Sheet) (q s : ℕ) (P : List Point) (R : Refutation) → 1 ≤ q → Valid T G q s P → Fits T G R [] → HasRoom q s (weighs T G R)
has_room T t G q s P R finer v fits =
    let settled = settling T t G q s P v in
    each_room T t G q s finer settled.0 settled.1.valid settled.1.allowed R [] fits tt

pub refutations : (T : TreeValue) → IsTree T → (G : Sheet) (R : Refutation) (w : ℕ) → Fits T G R [] → weighs T G R ≡ Some w → NoneBelow T G w
refutations T t G R w fits is q s P finer less v =
    let has = has_room T t G q s P R finer v fits in
    let same : has.weight ≡ w = cc (has.is, is) in
    omega (arith, has.room, less, ap (λ (n : ℕ). q * n) same)

pub counts : (T : TreeValue) → IsTree T → (G : Sheet) (R : Refutation) → Fits T G R [] → (w : ℕ) × (weighs T G R ≡ Some w)
counts T t G R fits =
    let has = has_room T t G 1 (leaf_count T * most_distance) (far_points (leaf_count T)) R (omega arith) (far_valid T t G) fits in
    (has.weight, has.is)
