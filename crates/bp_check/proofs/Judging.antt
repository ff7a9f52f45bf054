-- What is found of a refutation's nodes: the least bad split, the least bad chain, or that it fits and what it weighs.
use Rattle.std.proofs.Common.{◌≡◌, ◌==◌, ◌&&◌, ◌⊎◌, inl, inr, ℕ, zero, suc, ◌+◌, ◌<◌, Bool, true, false, cond, List, [], ◌∷◌, ◌++◌, length, map, Option, None, Some, refl, sym, ap, ◌∙◌, subst, arith}
use Rattle.std.specs.List.{flat_map}
use Rattle.std.proofs.lemmas.Bool.{true≢false}
use Rattle.std.proofs.lemmas.Bool.Decides.{Decides-eqb}
use Rattle.std.proofs.lemmas.List.{map-append}
use Rattle.std.proofs.lemmas.Option.{none-some}
use Rattle.bp_base.specs.declared.path.Choice.{Choice}
use Rattle.bp_base.specs.declared.path.Choice.TheVariants.{Left}
use Rattle.bp_base.specs.declared.path.Pair.{Pair}
use Rattle.bp_base.specs.declared.path.Step.{Step}
use Rattle.bp_base.specs.declared.point.Sheet.{Sheet}
use Rattle.bp_base.specs.declared.chain.Claim.{Claim}
use Rattle.bp_base.specs.declared.refutation.Refutation.{Refutation, roll-Refutation, ind-Refutation}
use Rattle.bp_base.specs.declared.refutation.Refutation.TheOpen.{Refutation-F}
use Rattle.bp_base.specs.declared.refutation.Refutation.TheVariants.{Split, Closed, Open, rolls-Split, rolls-Closed, rolls-Open}
use Rattle.bp_base.specs.declared.refutation.Refutation.TheFolds.{map-Refutation}
use Rattle.bp_base.specs.Tree.{TreeValue, leaf_count}
use Rattle.bp_metric.specs.Choices.{allowed}
use Rattle.bp_metric.specs.Chains.{ClaimHolds}
use Rattle.bp_metric.specs.Refutation.{CanSplit, EachFits, Fits, extended}
use Rattle.bp_metric.specs.Nodes.{Node, Part, SplitOf, ClosedBy, OpenBy, parts_of, child_nodes, nodes_of, counted, counted_part, least_of, lesser, weighs}
use Rattle.bp_metric.proofs.Refutations.{parts-split, parts-closed, parts-open, fits-split, fits-closed, fits-open}
use Rattle.bp_check.specs.declared.found.Found.{Found}
use Rattle.bp_check.specs.declared.found.Found.TheVariants.{Sound, WrongChain, WrongSplit}
use Rattle.bp_check.specs.Tests.{claim_passes, may_split}
use Rattle.bp_check.specs.Found.{joined, found_claim, judged, found_of, found_proof}
use Rattle.bp_check.specs.Checks.{ProofFits}
use Rattle.bp_check.specs.Reasons.{IsLeast, IsBadSplit, IsBadChain, HasAt, HasBadSplit, HasBadChain}
use Rattle.bp_check.specs.Verdicts.{IsFoundOf}
use Rattle.bp_check.proofs.Tested.{claim_is, split_is}
use Rattle.bp_check.proofs.Joined.{IsFrom, split_stays, found_from}
use Rattle.bp_check.proofs.Claims.{claim_sound, claim_wrong}
use Rattle.bp_check.proofs.Kept.{cases_bool, eqb-is}
use Rattle.bp_check.proofs.Reading.{nodes_from, nodes-whole, nodes-split, nodes-closed, nodes-open}

module _ (T : TreeValue) (G : Sheet) where
  claim_decided : (path : List Step) (claim : Claim) → ClaimHolds (leaf_count T) path claim ⊎ (ClaimHolds (leaf_count T) path claim → ⊥)
  claim_decided path claim = elim (cases_bool (claim_passes (leaf_count T) path claim)) [
    | inl is ↦ inl ((claim_is (leaf_count T) path claim).0 is)
    | inr is ↦ inr (λ holds. true≢false (sym ((claim_is (leaf_count T) path claim).1 holds) ∙ is))
  ]

  split_decided : (path : List Step) (p : Pair) → ((may_split (leaf_count T) path p ≡ true) × CanSplit T path p) ⊎ ((may_split (leaf_count T) path p ≡ false) × (CanSplit T path p → ⊥))
  split_decided path p = elim (cases_bool (may_split (leaf_count T) path p)) [
    | inl is ↦ let both = (split_is (leaf_count T) path p).0 is in inl (is, record { pair = both.0; new = both.1 })
    | inr is ↦ inr (is, λ can. true≢false (sym ((split_is (leaf_count T) path p).1 (can.pair, can.new)) ∙ is))
  ]

  -- the node is neither a bad split nor a bad chain
  abbrev pub IsGood : List Step → Part → Type 0
  IsGood path (SplitOf p children) = CanSplit T path p × (children ≡ length (allowed T G p))
  IsGood path (ClosedBy claim) = ClaimHolds (leaf_count T) path claim
  IsGood path (OpenBy claim) = ClaimHolds (leaf_count T) path claim

  good_split : (path : List Step) (part : Part) → IsGood path part → IsBadSplit T G path part → ⊥
  good_split path (SplitOf p children) good (inl not) = not good.0
  good_split path (SplitOf p children) good (inr other) = other good.1
  good_split path (ClosedBy claim) good bad = bad
  good_split path (OpenBy claim) good bad = bad

  good_chain : (path : List Step) (part : Part) → IsGood path part → IsBadChain T G path part → ⊥
  good_chain path (SplitOf p children) good bad = bad
  good_chain path (ClosedBy claim) good bad = bad good
  good_chain path (OpenBy claim) good bad = bad good

  -- what is found of one node
  data Judged (k : ℕ) (path : List Step) (part : Part) : Type 0 where
    bad_split : IsBadSplit T G path part → judged T G k path part ≡ WrongSplit k → Judged k path part
    bad_chain : (IsBadSplit T G path part → ⊥) → IsBadChain T G path part → judged T G k path part ≡ WrongChain k → Judged k path part
    sound_node : IsGood path part → judged T G k path part ≡ Sound (counted_part T G part) → Judged k path part

  claim_judged : (k : ℕ) (path : List Step) (claim : Claim) → (ClaimHolds (leaf_count T) path claim × (found_claim T G k path claim ≡ Sound (counted T G claim))) ⊎ ((ClaimHolds (leaf_count T) path claim → ⊥) × (found_claim T G k path claim ≡ WrongChain k))
  claim_judged k path claim = elim (claim_decided path claim) [
    | inl holds ↦ inl (holds, claim_sound T G k path claim holds)
    | inr not ↦ inr (not, claim_wrong T G k path claim not)
  ]

  judging : (k : ℕ) (path : List Step) (part : Part) → Judged k path part
  judging k path (SplitOf p children) =
      let count = length (allowed T G p) in
      let own : Bool → Bool → Found = λ a b. cond (a && b) (Sound None) (WrongSplit k) in
      elim (split_decided path p) [
        | inr (is, not) ↦ bad_split (inl not) (ap (λ (a : Bool). own a (children == count)) is)
        | inl (is, can) ↦ elim (cases_bool (children == count)) [
          | inl same ↦ sound_node (can, (Decides-eqb children count).0 same) (ap (λ (a : Bool). own a (children == count)) is ∙ ap (own true) same)
          | inr other ↦ bad_split (inr (λ same. true≢false (sym (eqb-is children count same) ∙ other))) (ap (λ (a : Bool). own a (children == count)) is ∙ ap (own true) other)
        ]
      ]
  judging k path (ClosedBy claim) = elim (claim_judged k path claim) [ inl (holds, is) ↦ sound_node holds is | inr (not, is) ↦ bad_chain (λ bad. bad) not is ]
  judging k path (OpenBy claim) = elim (claim_judged k path claim) [ inl (holds, is) ↦ sound_node holds is | inr (not, is) ↦ bad_chain (λ bad. bad) not is ]

  abbrev AllGood : List Node → Type 0
  AllGood [] = Unit {0}
  AllGood (node ∷ nodes) = IsGood node.path node.part × AllGood nodes

  abbrev weigh : List Node → Option ℕ
  weigh nodes = least_of (map (λ (n : Node). counted_part T G n.part) nodes)

  abbrev NoSplit : List Node → Type 0
  NoSplit nodes = (l : ℕ) → HasAt (IsBadSplit T G) nodes l → ⊥

  abbrev NoChain : List Node → Type 0
  NoChain nodes = (l : ℕ) → HasAt (IsBadChain T G) nodes l → ⊥

  -- what is found of nodes that are numbered from k on
  abbrev Means : ℕ → List Node → Found → Type 0
  Means k nodes (WrongSplit a) = (j : ℕ) × (a ≡ k + j) × IsLeast (HasAt (IsBadSplit T G) nodes) j
  Means k nodes (WrongChain a) = NoSplit nodes × ((j : ℕ) × (a ≡ k + j) × IsLeast (HasAt (IsBadChain T G) nodes) j)
  Means k nodes (Sound w) = AllGood nodes × (w ≡ weigh nodes)

  module _ (P : List Step → Part → Type 0) (node : Node) (nodes : List Node) where
    at_first : P node.path node.part → HasAt P (node ∷ nodes) 0
    at_first is = (node, refl, is)

    first_is : HasAt P (node ∷ nodes) 0 → P node.path node.part
    first_is (found, at, is) = let same : node ≡ found = cc in subst (λ (n : Node). P n.path n.part) (sym same) is

    least_first : P node.path node.part → IsLeast (HasAt P (node ∷ nodes)) 0
    least_first is = (at_first is, λ l less at. absurd (omega (arith, less)))

    least_later : (P node.path node.part → ⊥) → (j : ℕ) → IsLeast (HasAt P nodes) j → IsLeast (HasAt P (node ∷ nodes)) (suc j)
    least_later not j (at, least) = (at, before)
      where
        before : (l : ℕ) → l < suc j → HasAt P (node ∷ nodes) l → ⊥
        before zero less here = not (first_is here)
        before (suc l) less here = least l (omega (arith, less)) here

    none_later : (P node.path node.part → ⊥) → ((l : ℕ) → HasAt P nodes l → ⊥) → (l : ℕ) → HasAt P (node ∷ nodes) l → ⊥
    none_later not none zero here = not (first_is here)
    none_later not none (suc l) here = none l here

  none_in_none : (P : List Step → Part → Type 0) (l : ℕ) → HasAt P [] l → ⊥
  none_in_none P l (node, at, is) = none-some node at

  no_split : (nodes : List Node) → AllGood nodes → NoSplit nodes
  no_split [] all l has = none_in_none (IsBadSplit T G) l has
  no_split (node ∷ nodes) all l has = none_later (IsBadSplit T G) node nodes (good_split node.path node.part all.0) (no_split nodes all.1) l has

  no_chain : (nodes : List Node) → AllGood nodes → NoChain nodes
  no_chain [] all l has = none_in_none (IsBadChain T G) l has
  no_chain (node ∷ nodes) all l has = none_later (IsBadChain T G) node nodes (good_chain node.path node.part all.0) (no_chain nodes all.1) l has

  one_on : (k j : ℕ) → k + 1 + j ≡ k + suc j
  one_on k j = omega arith

  -- one more node in front
  mean_split : (k : ℕ) (node : Node) (nodes : List Node) (f : Found) → IsBadSplit T G node.path node.part → IsFrom (k + 1) f → Means k (node ∷ nodes) (joined (WrongSplit k) f)
  mean_split k node nodes f bad from =
      subst (Means k (node ∷ nodes)) (sym (split_stays k (k + 1) f (omega arith) from)) (0, omega arith, least_first (IsBadSplit T G) node nodes bad)

  mean_chain : (k : ℕ) (node : Node) (nodes : List Node) (f : Found) → (IsBadSplit T G node.path node.part → ⊥) → IsBadChain T G node.path node.part → IsFrom (k + 1) f → Means (k + 1) nodes f → Means k (node ∷ nodes) (joined (WrongChain k) f)
  mean_chain k node nodes (WrongSplit a) not bad from (j, is, least) = (suc j, is ∙ one_on k j, least_later (IsBadSplit T G) node nodes not j least)
  mean_chain k node nodes (WrongChain a) not bad from (none, later) =
      (none_later (IsBadSplit T G) node nodes not none, (0, omega (arith, from), least_first (IsBadChain T G) node nodes bad))
  mean_chain k node nodes (Sound w) not bad from (all, is) =
      (none_later (IsBadSplit T G) node nodes not (no_split nodes all), (0, omega arith, least_first (IsBadChain T G) node nodes bad))

  mean_good : (k : ℕ) (node : Node) (nodes : List Node) (f : Found) → IsGood node.path node.part → Means (k + 1) nodes f → Means k (node ∷ nodes) (joined (Sound (counted_part T G node.part)) f)
  mean_good k node nodes (WrongSplit a) good (j, is, least) =
      (suc j, is ∙ one_on k j, least_later (IsBadSplit T G) node nodes (good_split node.path node.part good) j least)
  mean_good k node nodes (WrongChain a) good (none, (j, is, least)) =
      (none_later (IsBadSplit T G) node nodes (good_split node.path node.part good) none, (suc j, is ∙ one_on k j, least_later (IsBadChain T G) node nodes (good_chain node.path node.part good) j least))
  mean_good k node nodes (Sound w) good (all, is) = ((good, all), ap (lesser (counted_part T G node.part)) is)

  means : (k : ℕ) (nodes : List Node) → Means k nodes (found_of T G k nodes)
  means k [] = (tt, refl)
  means k (node ∷ nodes) =
      let rest = found_of T G (k + 1) nodes in
      let to : Found → Type 0 = λ f. Means k (node ∷ nodes) (joined f rest) in
      elim (judging k node.path node.part) [
        | bad_split bad is ↦ subst to (sym is) (mean_split k node nodes rest bad (found_from T G (k + 1) nodes))
        | bad_chain not bad is ↦ subst to (sym is) (mean_chain k node nodes rest not bad (found_from T G (k + 1) nodes) (means (k + 1) nodes))
        | sound_node fine is ↦ subst to (sym is) (mean_good k node nodes rest fine (means (k + 1) nodes))
      ]

  good_append : (xs ys : List Node) → AllGood xs → AllGood ys → AllGood (xs ++ ys)
  good_append [] ys front back = back
  good_append (x ∷ xs) ys front back = (front.0, good_append xs ys front.1 back)

  good_front : (xs ys : List Node) → AllGood (xs ++ ys) → AllGood xs
  good_front [] ys all = tt
  good_front (x ∷ xs) ys all = (all.0, good_front xs ys all.1)

  good_back : (xs ys : List Node) → AllGood (xs ++ ys) → AllGood ys
  good_back [] ys all = all
  good_back (x ∷ xs) ys all = good_back xs ys all.1

  abbrev parts : List Node → List Part
  parts nodes = map (λ (n : Node). n.part) nodes

  -- at each path: it fits exactly where its nodes are good, and these are its parts
  record IsKnown (r : Refutation) : Type 0 where
    fits_good : (path : List Step) → Fits T G r path → AllGood (nodes_from T G r path)
    good_fits : (path : List Step) → AllGood (nodes_from T G r path) → Fits T G r path
    same_parts : (path : List Step) → parts (nodes_from T G r path) ≡ parts_of r

  abbrev Known : Type 0
  Known = (r : Refutation) × IsKnown r

  abbrev known : List Known → List Refutation
  known rs = map (λ (r : Known). r.0) rs

  abbrev below : List Step → Pair → List Choice → List Known → List Node
  below path p cs rs = child_nodes path p cs (map (nodes_from T G) (known rs))

  each_good : (path : List Step) (p : Pair) (cs : List Choice) (rs : List Known) → EachFits (Fits T G) path p cs (known rs) → (length (known rs) ≡ length cs) × AllGood (below path p cs rs)
  each_good path p [] [] each = (refl, tt)
  each_good path p [] (r ∷ rs) each = absurd each
  each_good path p (c ∷ cs) [] each = absurd each
  each_good path p (c ∷ cs) (r ∷ rs) each =
      let rest = each_good path p cs rs each.1 in
      (ap suc rest.0, good_append (nodes_from T G r.0 (extended path p c)) (below path p cs rs) (r.1.fits_good (extended path p c) each.0) rest.1)

  each_fits : (path : List Step) (p : Pair) (cs : List Choice) (rs : List Known) → length (known rs) ≡ length cs → AllGood (below path p cs rs) → EachFits (Fits T G) path p cs (known rs)
  each_fits path p [] [] same all = tt
  each_fits path p [] (r ∷ rs) same all = absurd (omega (arith, same))
  each_fits path p (c ∷ cs) [] same all = absurd (omega (arith, same))
  each_fits path p (c ∷ cs) (r ∷ rs) same all = (
    r.1.good_fits (extended path p c) (good_front (nodes_from T G r.0 (extended path p c)) (below path p cs rs) all),
    each_fits path p cs rs (omega (arith, same)) (good_back (nodes_from T G r.0 (extended path p c)) (below path p cs rs) all),
  )

  each_part : (path : List Step) (p : Pair) (cs : List Choice) (rs : List Known) → parts (below path p cs rs) ≡ flat_map parts_of (known rs)
  each_part path p [] [] = refl
  each_part path p (c ∷ cs) [] = refl
  each_part path p [] (r ∷ rs) =
      map-append (λ (n : Node). n.part) (nodes_from T G r.0 (extended path p Left)) (below path p [] rs)
      ∙ (λ i. r.1.same_parts (extended path p Left) i ++ each_part path p [] rs i)
  each_part path p (c ∷ cs) (r ∷ rs) =
      map-append (λ (n : Node). n.part) (nodes_from T G r.0 (extended path p c)) (below path p cs rs)
      ∙ (λ i. r.1.same_parts (extended path p c) i ++ each_part path p cs rs i)

  split_known : (p : Pair) (rs : List Known) → IsKnown (Split p (known rs))
  split_known p rs = record {
    fits_good = λ path fits.
        let both : CanSplit T path p × EachFits (Fits T G) path p (allowed T G p) (known rs) = coe 0 1 (i. fits-split T G p (known rs) path i) fits in
        let each = each_good path p (allowed T G p) rs both.1 in
        subst AllGood (sym (nodes-split T G p (known rs) path)) ((both.0, each.0), each.1);
    good_fits = λ path all.
        let own = subst AllGood (nodes-split T G p (known rs) path) all in
        let both : CanSplit T path p × EachFits (Fits T G) path p (allowed T G p) (known rs) = (own.0.0, each_fits path p (allowed T G p) rs own.0.1 own.1) in
        coe 0 1 (i. sym (fits-split T G p (known rs) path) i) both;
    same_parts = λ path.
        ap parts (nodes-split T G p (known rs) path)
        ∙ ap (λ (ps : List Part). SplitOf p (length (known rs)) ∷ ps) (each_part path p (allowed T G p) rs)
        ∙ sym (parts-split p (known rs));
  }

  closed_known : (claim : Claim) → IsKnown (Closed claim)
  closed_known claim = record {
    fits_good = λ path fits.
        let holds : ClaimHolds (leaf_count T) path claim = coe 0 1 (i. fits-closed T G claim path i) fits in
        subst AllGood (sym (nodes-closed T G claim path)) (holds, tt);
    good_fits = λ path all. coe 0 1 (i. sym (fits-closed T G claim path) i) (subst AllGood (nodes-closed T G claim path) all).0;
    same_parts = λ path. ap parts (nodes-closed T G claim path) ∙ sym (parts-closed claim);
  }

  open_known : (claim : Claim) → IsKnown (Open claim)
  open_known claim = record {
    fits_good = λ path fits.
        let holds : ClaimHolds (leaf_count T) path claim = coe 0 1 (i. fits-open T G claim path i) fits in
        subst AllGood (sym (nodes-open T G claim path)) (holds, tt);
    good_fits = λ path all. coe 0 1 (i. sym (fits-open T G claim path) i) (subst AllGood (nodes-open T G claim path) all).0;
    same_parts = λ path. ap parts (nodes-open T G claim path) ∙ sym (parts-open claim);
  }

  node_known : (x : Refutation-F Refutation) (y : Refutation-F Known) → map-Refutation Known Refutation (λ (r : Known). r.0) y ≡ x → IsKnown (roll-Refutation x)
  node_known x (Refutation-F.Split p rs) is = subst (λ z. IsKnown (roll-Refutation z)) is (subst IsKnown (sym (rolls-Split p (known rs))) (split_known p rs))
  node_known x (Refutation-F.Closed claim) is = subst (λ z. IsKnown (roll-Refutation z)) is (subst IsKnown (sym (rolls-Closed claim)) (closed_known claim))
  node_known x (Refutation-F.Open claim) is = subst (λ z. IsKnown (roll-Refutation z)) is (subst IsKnown (sym (rolls-Open claim)) (open_known claim))

  each_known : (r : Refutation) → IsKnown r
  each_known = ind-Refutation IsKnown node_known

  weigh_parts : (nodes : List Node) → weigh nodes ≡ least_of (map (counted_part T G) (parts nodes))
  weigh_parts [] = refl
  weigh_parts (node ∷ nodes) = ap (lesser (counted_part T G node.part)) (weigh_parts nodes)

  weigh_is : (r : Refutation) → weigh (nodes_of T G r) ≡ weighs T G r
  unfolding weighs
  weigh_is r =
      ap weigh (nodes-whole T G r) ∙ weigh_parts (nodes_from T G r [])
      ∙ ap (λ (ps : List Part). least_of (map (counted_part T G) ps)) ((each_known r).same_parts [])

  from_zero : (P : ℕ → Type 0) (j a : ℕ) → a ≡ 0 + j → IsLeast P j → IsLeast P a
  from_zero P j a is least = let same : j ≡ a = omega (arith, is) in subst (IsLeast P) same least

  found_refutation : (r : Refutation) (f : Found) → Means 0 (nodes_of T G r) f → IsFoundOf T G (Some r) f
  found_refutation r (WrongSplit a) (j, is, least) = from_zero (HasAt (IsBadSplit T G) (nodes_of T G r)) j a is least
  found_refutation r (WrongChain a) (none, (j, is, least)) = (none, from_zero (HasAt (IsBadChain T G) (nodes_of T G r)) j a is least)
  found_refutation r (Sound w) (all, is) = ((each_known r).good_fits [] (subst AllGood (nodes-whole T G r) all), is ∙ weigh_is r)

  -- what is found is what the reasons say
  pub found_is : (proof : Option Refutation) → IsFoundOf T G proof (found_proof T G proof)
  found_is None = (tt, refl)
  found_is (Some r) = found_refutation r (found_of T G 0 (nodes_of T G r)) (means 0 (nodes_of T G r))

  -- a proof that fits has no bad node
  pub fits_split : (proof : Option Refutation) (k : ℕ) → ProofFits T G proof → HasBadSplit T G proof k → ⊥
  fits_split None k fits has = has
  fits_split (Some r) k fits has = no_split (nodes_of T G r) (subst AllGood (sym (nodes-whole T G r)) ((each_known r).fits_good [] fits)) k has

  pub fits_chain : (proof : Option Refutation) (k : ℕ) → ProofFits T G proof → HasBadChain T G proof k → ⊥
  fits_chain None k fits has = has
  fits_chain (Some r) k fits has = no_chain (nodes_of T G r) (subst AllGood (sym (nodes-whole T G r)) ((each_known r).fits_good [] fits)) k has
