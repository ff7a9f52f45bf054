-- Laws of what is found of groups of nodes.
use Rattle.std.proofs.Common.{◌≡◌, ◌==◌, ◌&&◌, ℕ, ◌+◌, ◌<◌, ◌≤◌, min, true, false, List, [], ◌∷◌, ◌++◌, length, Option, None, Some, refl, sym, ap, ◌∙◌, arith, cond}
use Rattle.bp_base.specs.declared.point.Sheet.{Sheet}
use Rattle.bp_base.specs.declared.path.Step.{Step}
use Rattle.bp_base.specs.declared.chain.Claim.{Claim}
use Rattle.bp_base.specs.Tree.{TreeValue, leaf_count}
use Rattle.bp_metric.specs.Choices.{allowed}
use Rattle.bp_metric.specs.Nodes.{Node, Part, SplitOf, ClosedBy, OpenBy, counted, lesser}
use Rattle.bp_check.specs.declared.found.Found.{Found}
use Rattle.bp_check.specs.declared.found.Found.TheVariants.{Sound, WrongChain, WrongSplit}
use Rattle.bp_check.specs.Tests.{claim_passes, may_split}
use Rattle.bp_check.specs.Found.{joined, found_claim, judged, found_of}
use Rattle.bp_check.specs.Stack.{is_wrong}

min_assoc : (a b c : ℕ) → min (min a b) c ≡ min a (min b c)
min_assoc a b c = omega arith

min_comm : (a b : ℕ) → min a b ≡ min b a
min_comm a b = omega arith

pub lesser_none : (v : Option ℕ) → lesser v None ≡ v
lesser_none None = refl
lesser_none (Some v) = refl

lesser_comm : (v w : Option ℕ) → lesser v w ≡ lesser w v
lesser_comm None None = refl
lesser_comm None (Some w) = refl
lesser_comm (Some v) None = refl
lesser_comm (Some v) (Some w) = ap (λ (k : ℕ). Some k) (min_comm v w)

pub lesser_assoc : (u v w : Option ℕ) → lesser (lesser u v) w ≡ lesser u (lesser v w)
lesser_assoc None v w = refl
lesser_assoc (Some u) None w = refl
lesser_assoc (Some u) (Some v) None = refl
lesser_assoc (Some u) (Some v) (Some w) = ap (λ (k : ℕ). Some k) (min_assoc u v w)

pub joined_none : (f : Found) → joined f (Sound None) ≡ f
joined_none (Sound v) = ap (λ (w : Option ℕ). Sound w) (lesser_none v)
joined_none (WrongChain k) = refl
joined_none (WrongSplit k) = refl

pub none_joined : (f : Found) → joined (Sound None) f ≡ f
none_joined (Sound v) = refl
none_joined (WrongChain k) = refl
none_joined (WrongSplit k) = refl

pub joined_comm : (f g : Found) → joined f g ≡ joined g f
joined_comm (Sound v) (Sound w) = ap (λ (k : Option ℕ). Sound k) (lesser_comm v w)
joined_comm (Sound v) (WrongChain b) = refl
joined_comm (Sound v) (WrongSplit b) = refl
joined_comm (WrongChain a) (Sound w) = refl
joined_comm (WrongChain a) (WrongChain b) = ap (λ (k : ℕ). WrongChain k) (min_comm a b)
joined_comm (WrongChain a) (WrongSplit b) = refl
joined_comm (WrongSplit a) (Sound w) = refl
joined_comm (WrongSplit a) (WrongChain b) = refl
joined_comm (WrongSplit a) (WrongSplit b) = ap (λ (k : ℕ). WrongSplit k) (min_comm a b)

pub joined_assoc : (f g h : Found) → joined (joined f g) h ≡ joined f (joined g h)
joined_assoc (Sound u) (Sound v) (Sound w) = ap (λ (k : Option ℕ). Sound k) (lesser_assoc u v w)
joined_assoc (Sound u) (Sound v) (WrongChain c) = refl
joined_assoc (Sound u) (Sound v) (WrongSplit c) = refl
joined_assoc (Sound u) (WrongChain b) (Sound w) = refl
joined_assoc (Sound u) (WrongChain b) (WrongChain c) = refl
joined_assoc (Sound u) (WrongChain b) (WrongSplit c) = refl
joined_assoc (Sound u) (WrongSplit b) (Sound w) = refl
joined_assoc (Sound u) (WrongSplit b) (WrongChain c) = refl
joined_assoc (Sound u) (WrongSplit b) (WrongSplit c) = refl
joined_assoc (WrongChain a) (Sound v) (Sound w) = refl
joined_assoc (WrongChain a) (Sound v) (WrongChain c) = refl
joined_assoc (WrongChain a) (Sound v) (WrongSplit c) = refl
joined_assoc (WrongChain a) (WrongChain b) (Sound w) = refl
joined_assoc (WrongChain a) (WrongChain b) (WrongChain c) = ap (λ (k : ℕ). WrongChain k) (min_assoc a b c)
joined_assoc (WrongChain a) (WrongChain b) (WrongSplit c) = refl
joined_assoc (WrongChain a) (WrongSplit b) (Sound w) = refl
joined_assoc (WrongChain a) (WrongSplit b) (WrongChain c) = refl
joined_assoc (WrongChain a) (WrongSplit b) (WrongSplit c) = refl
joined_assoc (WrongSplit a) (Sound v) (Sound w) = refl
joined_assoc (WrongSplit a) (Sound v) (WrongChain c) = refl
joined_assoc (WrongSplit a) (Sound v) (WrongSplit c) = refl
joined_assoc (WrongSplit a) (WrongChain b) (Sound w) = refl
joined_assoc (WrongSplit a) (WrongChain b) (WrongChain c) = refl
joined_assoc (WrongSplit a) (WrongChain b) (WrongSplit c) = refl
joined_assoc (WrongSplit a) (WrongSplit b) (Sound w) = refl
joined_assoc (WrongSplit a) (WrongSplit b) (WrongChain c) = refl
joined_assoc (WrongSplit a) (WrongSplit b) (WrongSplit c) = ap (λ (k : ℕ). WrongSplit k) (min_assoc a b c)

-- f, g and h in another order
pub joined_last : (f g h : Found) → joined (joined f g) h ≡ joined (joined f h) g
joined_last f g h = joined_assoc f g h ∙ ap (joined f) (joined_comm g h) ∙ sym (joined_assoc f h g)

-- the node that it names is numbered at least k
abbrev pub IsFrom : ℕ → Found → Type 0
IsFrom k (Sound w) = Unit {0}
IsFrom k (WrongChain a) = k ≤ a
IsFrom k (WrongSplit a) = k ≤ a

pub joined_from : (k : ℕ) (f g : Found) → IsFrom k f → IsFrom k g → IsFrom k (joined f g)
joined_from k (Sound v) (Sound w) f g = tt
joined_from k (Sound v) (WrongChain b) f g = g
joined_from k (Sound v) (WrongSplit b) f g = g
joined_from k (WrongChain a) (Sound w) f g = f
joined_from k (WrongChain a) (WrongChain b) f g = omega (arith, f, g)
joined_from k (WrongChain a) (WrongSplit b) f g = g
joined_from k (WrongSplit a) (Sound w) f g = f
joined_from k (WrongSplit a) (WrongChain b) f g = f
joined_from k (WrongSplit a) (WrongSplit b) f g = omega (arith, f, g)

pub from_less : (k l : ℕ) (f : Found) → k ≤ l → IsFrom l f → IsFrom k f
from_less k l (Sound w) less is = tt
from_less k l (WrongChain a) less is = omega (arith, less, is)
from_less k l (WrongSplit a) less is = omega (arith, less, is)

pub split_stays : (a k : ℕ) (f : Found) → a < k → IsFrom k f → joined (WrongSplit a) f ≡ WrongSplit a
split_stays a k (Sound w) less is = refl
split_stays a k (WrongChain b) less is = refl
split_stays a k (WrongSplit b) less is = ap (λ (l : ℕ). WrongSplit l) (omega (arith, less, is))

module _ (T : TreeValue) (G : Sheet) where
  claim_from : (k : ℕ) (path : List Step) (claim : Claim) → IsFrom k (found_claim T G k path claim)
  claim_from k path claim = elim (claim_passes (leaf_count T) path claim) as (λ b. IsFrom k (cond b (Sound (counted T G claim)) (WrongChain k))) [ true ↦ tt | false ↦ omega arith ]

  pub judged_from : (k : ℕ) (path : List Step) (part : Part) → IsFrom k (judged T G k path part)
  judged_from k path (SplitOf p children) = elim (may_split (leaf_count T) path p && (children == length (allowed T G p))) as (λ b. IsFrom k (cond b (Sound None) (WrongSplit k))) [ true ↦ tt | false ↦ omega arith ]
  judged_from k path (ClosedBy claim) = claim_from k path claim
  judged_from k path (OpenBy claim) = claim_from k path claim

  pub found_from : (k : ℕ) (nodes : List Node) → IsFrom k (found_of T G k nodes)
  found_from k [] = tt
  found_from k (node ∷ nodes) =
      joined_from k (judged T G k node.path node.part) (found_of T G (k + 1) nodes) (judged_from k node.path node.part)
      (from_less k (k + 1) (found_of T G (k + 1) nodes) (omega arith) (found_from (k + 1) nodes))

  pub found_append : (k m : ℕ) (xs ys : List Node) → m ≡ k + length xs → found_of T G k (xs ++ ys) ≡ joined (found_of T G k xs) (found_of T G m ys)
  found_append k m [] ys is = ap (λ (n : ℕ). found_of T G n ys) (sym (is ∙ (omega arith))) ∙ sym (none_joined (found_of T G m ys))
  found_append k m (x ∷ xs) ys is =
      ap (joined (judged T G k x.path x.part)) (found_append (k + 1) m xs ys (omega (arith, is)))
      ∙ sym (joined_assoc (judged T G k x.path x.part) (found_of T G (k + 1) xs) (found_of T G m ys))

-- a bad split that it names is numbered less than m
abbrev pub IsBefore : ℕ → Found → Type 0
IsBefore m (Sound w) = Unit {0}
IsBefore m (WrongChain a) = Unit {0}
IsBefore m (WrongSplit a) = a < m

pub joined_before : (m : ℕ) (f g : Found) → IsBefore m f → IsBefore m g → IsBefore m (joined f g)
joined_before m (Sound v) (Sound w) f g = tt
joined_before m (Sound v) (WrongChain b) f g = tt
joined_before m (Sound v) (WrongSplit b) f g = g
joined_before m (WrongChain a) (Sound w) f g = tt
joined_before m (WrongChain a) (WrongChain b) f g = tt
joined_before m (WrongChain a) (WrongSplit b) f g = g
joined_before m (WrongSplit a) (Sound w) f g = f
joined_before m (WrongSplit a) (WrongChain b) f g = f
joined_before m (WrongSplit a) (WrongSplit b) f g = omega (arith, f, g)

pub before_more : (m l : ℕ) (f : Found) → m ≤ l → IsBefore m f → IsBefore l f
before_more m l (Sound w) less is = tt
before_more m l (WrongChain a) less is = tt
before_more m l (WrongSplit a) less is = omega (arith, less, is)

-- what is joined is sound only where the first is
pub sound_first : (f g : Found) → is_wrong (joined f g) ≡ false → is_wrong f ≡ false
sound_first (Sound v) g is = refl
sound_first (WrongChain a) g is = refl
sound_first (WrongSplit a) (Sound w) is = is
sound_first (WrongSplit a) (WrongChain b) is = is
sound_first (WrongSplit a) (WrongSplit b) is = is

pub wrong_second : (f : Found) (k : ℕ) → is_wrong (joined f (WrongSplit k)) ≡ true
wrong_second (Sound v) k = refl
wrong_second (WrongChain a) k = refl
wrong_second (WrongSplit a) k = refl

module _ (T : TreeValue) (G : Sheet) where
  claim_before : (k : ℕ) (path : List Step) (claim : Claim) → IsBefore (k + 1) (found_claim T G k path claim)
  claim_before k path claim = elim (claim_passes (leaf_count T) path claim) as (λ b. IsBefore (k + 1) (cond b (Sound (counted T G claim)) (WrongChain k))) [ true ↦ tt | false ↦ tt ]

  judged_before : (k : ℕ) (path : List Step) (part : Part) → IsBefore (k + 1) (judged T G k path part)
  judged_before k path (SplitOf p children) = elim (may_split (leaf_count T) path p && (children == length (allowed T G p))) as (λ b. IsBefore (k + 1) (cond b (Sound None) (WrongSplit k))) [ true ↦ tt | false ↦ omega arith ]
  judged_before k path (ClosedBy claim) = claim_before k path claim
  judged_before k path (OpenBy claim) = claim_before k path claim

  pub found_before : (k : ℕ) (nodes : List Node) → IsBefore (k + length nodes) (found_of T G k nodes)
  found_before k [] = tt
  found_before k (node ∷ nodes) =
      joined_before (k + length (node ∷ nodes)) (judged T G k node.path node.part) (found_of T G (k + 1) nodes)
      (before_more (k + 1) (k + length (node ∷ nodes)) (judged T G k node.path node.part) (omega arith) (judged_before k node.path node.part))
      (before_more (k + 1 + length nodes) (k + length (node ∷ nodes)) (found_of T G (k + 1) nodes) (omega arith) (found_before (k + 1) nodes))
