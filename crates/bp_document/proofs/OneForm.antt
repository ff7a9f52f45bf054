-- What a line is the form of is one thing.
use Rattle.std.proofs.Common.{◌≡◌, ◌≢◌, ℕ, suc, ◌≤◌, List, [], ◌∷◌, length, get_or, drop, map, All, decimal, Option, None, Some, refl, sym, ◌∙◌, ap, arith}
use Rattle.std.specs.Prelude.{codes}
use Rattle.std.proofs.lemmas.Fmt.{decimal_is_IsNumeral, decimal_injective}
use Rattle.std.proofs.lemmas.Str.Parse.{digit_at}
use Rattle.bp_base.specs.declared.point.Axis.{Axis}
use Rattle.bp_base.specs.declared.point.Axis.TheVariants.{X, Y}
use Rattle.bp_base.specs.declared.point.Floor.{Floor}
use Rattle.bp_base.specs.declared.point.Point.{Point}
use Rattle.bp_base.specs.declared.point.Sheet.{Sheet}
use Rattle.bp_base.specs.declared.point.Sheet.TheVariants.{Square, Strip}
use Rattle.bp_base.specs.declared.chain.Claim.{Claim}
use Rattle.bp_base.specs.declared.chain.Claim.TheVariants.{Walk, Cycle}
use Rattle.bp_base.specs.Limits.{most_number}
use Rattle.bp_base.specs.Chain.{IsChainList}
use Rattle.bp_tree.specs.declared.edge.Edge.{Edge}
use Rattle.bp_document.specs.declared.node_line.NodeKind.{NodeKind}
use Rattle.bp_document.specs.declared.node_line.NodeLine.{NodeLine}
use Rattle.bp_document.specs.Lines.{axis_word, chain_words}
use Rattle.bp_document.specs.Ranges.{IsChainOf}
use Rattle.bp_document.specs.Forms.{IsLine, IsSheetLine, IsField, IsEdgeForm, IsPointForm, IsFloorForm, IsProofForm, version_line}
use Rattle.bp_document.specs.FormWords.{sheet_words, proof_words}
use Rattle.bp_document.specs.NodeWords.{open_words, closed_words, kind_words}
use Rattle.bp_document.specs.Nodes.{IsKindOfNumbers, IsNodeLine}
use Rattle.bp_document.proofs.Spelling.{IsTidy, version_spelled, sheet_spelled, field_spelled, edge_spelled, point_spelled, floor_spelled, proof_spelled, node_spelled}

abbrev at : ℕ → List (List ℕ) → List ℕ
at k ws = get_or ws k []

number_one : (n m : ℕ) → n ≤ most_number → m ≤ most_number → decimal n ≡ decimal m → n ≡ m
number_one n m small small' same = decimal_injective n m (omega (arith, small)) (omega (arith, small')) same

numbers_one : (ks js : List ℕ) → All (λ k. k ≤ most_number) ks → All (λ k. k ≤ most_number) js → map decimal ks ≡ map decimal js → ks ≡ js
numbers_one [] [] small small' same = refl
numbers_one [] (j ∷ js) small small' same = absurd (omega (arith, ap length same))
numbers_one (k ∷ ks) [] small small' same = absurd (omega (arith, ap length same))
numbers_one (k ∷ ks) (j ∷ js) small small' same =
    let first = number_one k j (small 0 0 (omega arith)) (small' 0 0 (omega arith)) (ap (at 0) same) in
    let rest = numbers_one ks js (λ i d less. small (suc i) d (omega arith)) (λ i d less. small' (suc i) d (omega arith)) (ap (drop 1) same) in
    λ i. first i ∷ rest i

module _ (bytes : List ℕ) where
  pub version_differs : IsLine bytes (version_line 1) → IsLine bytes (version_line 2) → ⊥
  version_differs first second =
      let same = sym (version_spelled bytes 1 (omega arith) first).words ∙ (version_spelled bytes 2 (omega arith) second).words in
      let one = number_one 1 2 (omega arith) (omega arith) (ap (at 1) same) in
      omega (arith, one)

  pub field_one : (keyword : List ℕ) → IsTidy 9 keyword → (n m : ℕ) → IsField keyword bytes n → IsField keyword bytes m → n ≡ m
  field_one keyword key n m is is' =
      let same = sym (field_spelled bytes keyword n key is).words ∙ (field_spelled bytes keyword m key is').words in
      number_one n m is.small is'.small (ap (at 1) same)

  pub sheet_one : (G F : Sheet) → IsSheetLine bytes G → IsSheetLine bytes F → G ≡ F
  sheet_one G F is is' = go G F is is' (sym (sheet_spelled bytes G is).words ∙ (sheet_spelled bytes F is').words)
    where
      go : (G F : Sheet) → IsSheetLine bytes G → IsSheetLine bytes F → codes "sheet" ∷ sheet_words G ≡ codes "sheet" ∷ sheet_words F → G ≡ F
      go Square Square is is' same = refl
      go Square (Strip v) is is' same = absurd (omega (arith, ap length same))
      go (Strip w) Square is is' same = absurd (omega (arith, ap length same))
      go (Strip w) (Strip v) is is' same = ap Strip (number_one w v (omega (arith, is.sheet)) (omega (arith, is'.sheet)) (ap (at 2) same))

  pub edge_one : (e f : Edge) → IsEdgeForm bytes e → IsEdgeForm bytes f → e ≡ f
  edge_one e f is is' =
      let same = sym (edge_spelled bytes e is).words ∙ (edge_spelled bytes f is').words in
      let upper : e.upper ≡ f.upper = ap (at 1) same in
      let lower : e.lower ≡ f.lower = ap (at 2) same in
      let long : e.length ≡ f.length = number_one e.length f.length is.small is'.small (ap (at 3) same) in
      λ i. record { upper = upper i; lower = lower i; length = long i }

  pub point_one : (name other : List ℕ) (p q : Point) → IsPointForm bytes name p → IsPointForm bytes other q → (name ≡ other) × (p ≡ q)
  point_one name other p q is is' =
      let same = sym (point_spelled bytes name p is).words ∙ (point_spelled bytes other q is').words in
      let x : p.x ≡ q.x = number_one p.x q.x is.small.0 is'.small.0 (ap (at 2) same) in
      let y : p.y ≡ q.y = number_one p.y q.y is.small.1 is'.small.1 (ap (at 3) same) in
      (ap (at 1) same, λ i. record { x = x i; y = y i })

  pub floor_one : (f g : Floor) → IsFloorForm bytes f → IsFloorForm bytes g → f ≡ g
  floor_one f g is is' =
      let same = sym (floor_spelled bytes f is).words ∙ (floor_spelled bytes g is').words in
      let m : f.m ≡ g.m = number_one f.m g.m is.small.m is'.small.m (ap (at 1) same) in
      let side : f.side ≡ g.side = number_one f.side g.side is.small.side is'.small.side (ap (at 2) same) in
      let leaves : f.leaves ≡ g.leaves = numbers_one f.leaves g.leaves is.small.leaves.small is'.small.leaves.small (ap (drop 3) same) in
      λ i. record { m = m i; leaves = leaves i; side = side i }

  pub proof_one : (c d : Option ℕ) → IsProofForm bytes c → IsProofForm bytes d → c ≡ d
  proof_one c d is is' =
      let mine = proof_spelled bytes c is in
      let other = proof_spelled bytes d is' in
      go c d is is' (mine.2 ∙ sym mine.1.words ∙ other.1.words ∙ sym other.2)
    where
      digit : (n : ℕ) → n ≤ most_number → decimal n ≡ codes "none" → ⊥
      digit n small same =
          let numeral = (decimal_is_IsNumeral n (omega (arith, small))).0.1 in
          let d = digit_at (decimal n) 0 numeral (omega (arith, ap length same)) in
          omega (arith, d.1, ap (λ (w : List ℕ). get_or w 0 0) same)

      go : (c d : Option ℕ) → IsProofForm bytes c → IsProofForm bytes d → proof_words c ≡ proof_words d → c ≡ d
      go None None is is' same = refl
      go None (Some m) is is' same = absurd (digit m (omega (arith, is'.range.1)) (sym (ap (at 1) same)))
      go (Some n) None is is' same = absurd (digit n (omega (arith, is.range.1)) (ap (at 1) same))
      go (Some n) (Some m) is is' same = ap Some (number_one n m (omega (arith, is.range.1)) (omega (arith, is'.range.1)) (ap (at 1) same))

axis_one : (a b : Axis) → axis_word a ≡ axis_word b → a ≡ b
axis_one X X same = refl
axis_one Y Y same = refl
axis_one X Y same = absurd (omega (arith, ap (λ (w : List ℕ). get_or w 0 0) same))
axis_one Y X same = absurd (omega (arith, ap (λ (w : List ℕ). get_or w 0 0) same))

-- the first byte of the word at a place
abbrev letter : ℕ → List (List ℕ) → ℕ
letter k ws = get_or (at k ws) 0 0

chain_one : (axis other : Axis) (ks js : List ℕ) → IsChainList ks → IsChainList js → chain_words axis ks ≡ chain_words other js → (axis ≡ other) × (ks ≡ js)
chain_one axis other ks js is is' same = (axis_one axis other (ap (at 0) same), numbers_one ks js is.small is'.small (ap (drop 1) same))

closed_one : (c d : Claim) → IsChainOf c → IsChainOf d → closed_words c ≡ closed_words d → c ≡ d
closed_one (Walk a ks) (Walk b js) is is' same = let one = chain_one a b ks js is is' (ap (drop 1) same) in λ i. Walk (one.0 i) (one.1 i)
closed_one (Cycle a ks) (Cycle b js) is is' same = let one = chain_one a b ks js is is' (ap (drop 1) same) in λ i. Cycle (one.0 i) (one.1 i)
closed_one (Walk a ks) (Cycle b js) is is' same = absurd (omega (arith, ap (letter 0) same))
closed_one (Cycle a ks) (Walk b js) is is' same = absurd (omega (arith, ap (letter 0) same))

axis_short : (axis : Axis) → length (axis_word axis) ≡ 1
axis_short X = refl
axis_short Y = refl

open_one : (c d : Claim) → IsChainOf c → IsChainOf d → open_words c ≡ open_words d → c ≡ d
open_one (Walk a ks) (Walk b js) is is' same = let one = chain_one a b ks js is is' same in λ i. Walk (one.0 i) (one.1 i)
open_one (Cycle a ks) (Cycle b js) is is' same = let one = chain_one a b ks js is is' (ap (drop 1) same) in λ i. Cycle (one.0 i) (one.1 i)
open_one (Walk a ks) (Cycle b js) is is' same = absurd (omega (arith, axis_short a, ap (λ (ws : List (List ℕ)). length (at 0 ws)) same))
open_one (Cycle a ks) (Walk b js) is is' same = absurd (omega (arith, axis_short b, ap (λ (ws : List (List ℕ)). length (at 0 ws)) same))

-- a closed claim begins with another letter than a split and an open one
closed_letter : (c : Claim) → (letter 0 (closed_words c) ≢ 115) × (letter 0 (closed_words c) ≢ 111)
closed_letter (Walk a ks) = (λ h. omega (arith, h), λ h. omega (arith, h))
closed_letter (Cycle a ks) = (λ h. omega (arith, h), λ h. omega (arith, h))

kind_one : (k j : NodeKind) → IsKindOfNumbers k → IsKindOfNumbers j → kind_words k ≡ kind_words j → k ≡ j
kind_one (NodeKind.Split p) (NodeKind.Split q) is is' same =
    let i : p.i ≡ q.i = number_one p.i q.i is.0 is'.0 (ap (at 1) same) in
    let j : p.j ≡ q.j = number_one p.j q.j is.1 is'.1 (ap (at 2) same) in
    λ t. NodeKind.Split (record { i = i t; j = j t })
kind_one (NodeKind.Closed c) (NodeKind.Closed d) is is' same = ap NodeKind.Closed (closed_one c d is is' same)
kind_one (NodeKind.Open c) (NodeKind.Open d) is is' same = ap NodeKind.Open (open_one c d is is' (ap (drop 1) same))
kind_one (NodeKind.Split p) (NodeKind.Closed d) is is' same = absurd ((closed_letter d).0 (sym (ap (letter 0) same)))
kind_one (NodeKind.Split p) (NodeKind.Open d) is is' same = absurd (omega (arith, ap (letter 0) same))
kind_one (NodeKind.Closed c) (NodeKind.Split q) is is' same = absurd ((closed_letter c).0 (ap (letter 0) same))
kind_one (NodeKind.Closed c) (NodeKind.Open d) is is' same = absurd ((closed_letter c).1 (ap (letter 0) same))
kind_one (NodeKind.Open c) (NodeKind.Split q) is is' same = absurd (omega (arith, ap (letter 0) same))
kind_one (NodeKind.Open c) (NodeKind.Closed d) is is' same = absurd ((closed_letter d).1 (sym (ap (letter 0) same)))

pub node_one : (bytes : List ℕ) (l m : NodeLine) → IsNodeLine bytes l → IsNodeLine bytes m → l ≡ m
node_one bytes l m is is' =
    let same = sym (node_spelled bytes l is).words ∙ (node_spelled bytes m is').words in
    let depth : l.depth ≡ m.depth = number_one l.depth m.depth is.depth is'.depth (ap (at 0) same) in
    let kind : l.kind ≡ m.kind = kind_one l.kind m.kind is.kind is'.kind (ap (drop 1) same) in
    λ i. record { depth = depth i; kind = kind i }
