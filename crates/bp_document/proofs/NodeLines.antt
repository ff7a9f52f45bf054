-- A line's words give it back, and a node's line has the node's words.
use Rattle.std.proofs.Common.{◌≡◌, ℕ, suc, ◌≤◌, ◌==◌, Bool, true, false, not, ◌&&◌, inl, inr, List, [], ◌∷◌, ◌++◌, length, get_or, drop, map, All, decimal, None, refl, sym, ◌∙◌, ap, arith}
use Rattle.std.specs.Prelude.{codes}
use Rattle.std.specs.List.{flat_map, join_with_byte, list_all}
use Rattle.std.proofs.lemmas.Bool.{ne_eqb, cases_Bool, false≢true}
use Rattle.std.proofs.lemmas.List.{append-nil, append_cancel_right}
use Rattle.std.proofs.lemmas.List.Splits.{join_with_byte-slice_split}
use Rattle.std.proofs.lemmas.List.Elements.{All-cons, All-nil, All-map, All-from_get_or}
use Rattle.std.proofs.lemmas.Fmt.{decimal_is_IsNumeral}
use Rattle.std.proofs.lemmas.Str.Parse.{digit_at}
use Rattle.bp_base.specs.declared.point.Axis.{Axis}
use Rattle.bp_base.specs.declared.point.Axis.TheVariants.{X, Y}
use Rattle.bp_base.specs.declared.chain.Claim.{Claim}
use Rattle.bp_base.specs.declared.chain.Claim.TheVariants.{Walk, Cycle}
use Rattle.bp_base.specs.Limits.{most_number}
use Rattle.bp_base.specs.Chain.{IsChainList}
use Rattle.bp_text.specs.Numbers.{IsDecimal}
use Rattle.bp_document.specs.declared.node_line.NodeKind.{NodeKind}
use Rattle.bp_document.specs.declared.node_line.NodeKind.TheVariants.{Split, Closed, Open}
use Rattle.bp_document.specs.declared.node_line.NodeLine.{NodeLine}
use Rattle.bp_document.specs.Lines.{word, line, axis_word, chain_words}
use Rattle.bp_document.specs.Ranges.{IsChainOf}
use Rattle.bp_document.specs.Words.{words}
use Rattle.bp_document.specs.NodeWords.{ReadsNode, open_words, closed_words, kind_words, ReadsChainOn, ReadsOpen}
use Rattle.bp_document.specs.Nodes.{kind_line, IsKindOfNumbers, IsNodeLine}
use Rattle.bp_document.proofs.Cuts.{words_then, words_last}

-- a word has no space
abbrev pub IsWord : List ℕ → Type 0
IsWord w = All (λ b. (b == 32) ≡ false) w

pub number_word : (n : ℕ) → n ≤ most_number → IsWord (decimal n)
number_word n small =
    let numeral = (decimal_is_IsNumeral n (omega arith)).0.1 in
    All-from_get_or (λ b. (b == 32) ≡ false) (decimal n) 0 (λ k less. let d = digit_at (decimal n) k numeral less in ne_eqb (get_or (decimal n) k 0) 32 (omega (arith, d.0)))

-- a word that is spelled out
pub spelled_word : (w : List ℕ) → list_all (λ b. not (b == 32)) w ≡ true → IsWord w
spelled_word [] spelled = All-nil (λ b. (b == 32) ≡ false)
spelled_word (b ∷ bs) spelled =
    let rest : Bool = list_all (λ b. not (b == 32)) bs in
    elim (cases_Bool (b == 32)) [
      | inl space ↦ absurd (false≢true (sym (ap (λ t. not t && rest) space) ∙ spelled))
      | inr other ↦ All-cons (λ b. (b == 32) ≡ false) b bs other (spelled_word bs (sym (ap (λ t. not t && rest) other) ∙ spelled))
    ]

words_joined : (w : List ℕ) (ws : List (List ℕ)) → IsWord w → All IsWord ws → words (w ++ flat_map word ws) ≡ w ∷ ws
words_joined w [] first rest = ap words (append-nil w) ∙ words_last w first
words_joined w (v ∷ vs) first rest =
    words_then w (v ++ flat_map word vs) first
    ∙ ap (λ (t : List (List ℕ)). w ∷ t) (words_joined v vs (rest 0 [] (omega arith)) (λ k d less. rest (suc k) d (omega arith)))

joined : (w : List ℕ) (ws : List (List ℕ)) → join_with_byte 32 (w ∷ ws) ≡ w ++ flat_map word ws
joined w [] = sym (append-nil w)
joined w (v ∷ vs) = ap (λ (t : List ℕ). w ++ 32 ∷ t) (joined v vs)

words_back : (bytes : List ℕ) → join_with_byte 32 (words bytes) ≡ bytes
unfolding words
words_back bytes = join_with_byte-slice_split 32 bytes

pub line_of_words : (bytes w : List ℕ) (ws : List (List ℕ)) → words bytes ≡ w ∷ ws → bytes ++ 10 ∷ [] ≡ line w ws
unfolding line
line_of_words bytes w ws same =
    ap (λ (t : List ℕ). t ++ 10 ∷ []) (sym (words_back bytes) ∙ ap (join_with_byte 32) same ∙ joined w ws)

pub words_of_line : (bytes w : List ℕ) (ws : List (List ℕ)) → IsWord w → All IsWord ws → bytes ++ 10 ∷ [] ≡ line w ws → words bytes ≡ w ∷ ws
unfolding line
words_of_line bytes w ws first rest same =
    ap words (append_cancel_right bytes (w ++ flat_map word ws) (10 ∷ []) same)
    ∙ words_joined w ws first rest

pub number_words : (ks : List ℕ) → All (λ k. k ≤ most_number) ks → All IsWord (map decimal ks)
number_words ks small = All-map IsWord decimal ks (λ k d less. number_word (get_or ks k d) (small k d less))

axis_is_word : (axis : Axis) → IsWord (axis_word axis)
axis_is_word X = spelled_word (codes "x") refl
axis_is_word Y = spelled_word (codes "y") refl

chain_is_words : (axis : Axis) (ks : List ℕ) → IsChainList ks → All IsWord (chain_words axis ks)
chain_is_words axis ks is = All-cons IsWord (axis_word axis) (map decimal ks) (axis_is_word axis) (number_words ks is.small)

open_is_words : (claim : Claim) → IsChainOf claim → All IsWord (open_words claim)
open_is_words (Walk axis ks) is = chain_is_words axis ks is
open_is_words (Cycle axis ks) is = All-cons IsWord (codes "cycle") (chain_words axis ks) (spelled_word (codes "cycle") refl) (chain_is_words axis ks is)

closed_is_words : (claim : Claim) → IsChainOf claim → All IsWord (closed_words claim)
closed_is_words (Walk axis ks) is = All-cons IsWord (codes "walk") (chain_words axis ks) (spelled_word (codes "walk") refl) (chain_is_words axis ks is)
closed_is_words (Cycle axis ks) is = All-cons IsWord (codes "cycle") (chain_words axis ks) (spelled_word (codes "cycle") refl) (chain_is_words axis ks is)

kind_is_words : (k : NodeKind) → IsKindOfNumbers k → All IsWord (kind_words k)
kind_is_words (Split p) is =
    All-cons IsWord (codes "split") (decimal p.i ∷ decimal p.j ∷ []) (spelled_word (codes "split") refl)
    (All-cons IsWord (decimal p.i) (decimal p.j ∷ []) (number_word p.i is.0)
    (All-cons IsWord (decimal p.j) [] (number_word p.j is.1) (All-nil IsWord)))
kind_is_words (Closed claim) is = closed_is_words claim is
kind_is_words (Open claim) is = All-cons IsWord (codes "open") (open_words claim) (spelled_word (codes "open") refl) (open_is_words claim is)

closed_line_is : (depth : ℕ) (claim : Claim) → kind_line depth (Closed claim) ≡ line (decimal depth) (closed_words claim)
closed_line_is depth (Walk axis ks) = refl
closed_line_is depth (Cycle axis ks) = refl

open_line_is : (depth : ℕ) (claim : Claim) → kind_line depth (Open claim) ≡ line (decimal depth) (codes "open" ∷ open_words claim)
open_line_is depth (Walk axis ks) = refl
open_line_is depth (Cycle axis ks) = refl

pub kind_line_is : (depth : ℕ) (k : NodeKind) → kind_line depth k ≡ line (decimal depth) (kind_words k)
kind_line_is depth (Split p) = refl
kind_line_is depth (Closed claim) = closed_line_is depth claim
kind_line_is depth (Open claim) = open_line_is depth claim

pub node_words : (bytes : List ℕ) (l : NodeLine) → IsNodeLine bytes l → words bytes ≡ decimal l.depth ∷ kind_words l.kind
node_words bytes l is =
    words_of_line bytes (decimal l.depth) (kind_words l.kind) (number_word l.depth is.depth) (kind_is_words l.kind is.kind) (is.text ∙ kind_line_is l.depth l.kind)

module _ (bytes w : List ℕ) (behind : List (List ℕ)) (here : words bytes ≡ w ∷ behind) where
  pub no_depth : ((n : ℕ) → IsDecimal most_number w n → ⊥) → ReadsNode bytes None
  no_depth none l is = none l.depth (ap (λ (ws : List (List ℕ)). get_or ws 0 []) (sym here ∙ node_words bytes l is), is.depth)

  pub no_kind : ((k : NodeKind) → IsKindOfNumbers k → behind ≡ kind_words k → ⊥) → ReadsNode bytes None
  no_kind none l is = none l.kind is.kind (ap (drop 1) (sym here ∙ node_words bytes l is))

  pub is_node : (depth : ℕ) (k : NodeKind) → IsDecimal most_number w depth → IsKindOfNumbers k × (behind ≡ kind_words k) → IsNodeLine bytes (record { depth = depth; kind = k })
  is_node depth k number kind =
      record {
        text =
            line_of_words bytes (decimal depth) (kind_words k) (here ∙ ap (λ (v : List ℕ). v ∷ behind) number.0 ∙ ap (λ (vs : List (List ℕ)). decimal depth ∷ vs) kind.1)
            ∙ sym (kind_line_is depth k);
        depth = number.1;
        kind = kind.0;
      }

-- words behind `open`
module _ (ws behind : List (List ℕ)) (w : List ℕ) (here : ws ≡ w ∷ behind) where
  axis_is_no_cycle : (axis : Axis) → axis_word axis ≡ codes "cycle" → ⊥
  axis_is_no_cycle X same = absurd (omega (arith, ap length same))
  axis_is_no_cycle Y same = absurd (omega (arith, ap length same))

  pub no_cycle : w ≡ codes "cycle" → ReadsChainOn behind None → ReadsOpen ws None
  no_cycle cycle none (Walk axis ks) is same = axis_is_no_cycle axis (ap (λ (vs : List (List ℕ)). get_or vs 0 []) (sym same ∙ here) ∙ cycle)
  no_cycle cycle none (Cycle axis ks) is same = none axis ks is (ap (drop 1) (sym here ∙ same))

  pub no_walk : (w ≡ codes "cycle" → ⊥) → ReadsChainOn ws None → ReadsOpen ws None
  no_walk other none (Walk axis ks) is same = none axis ks is same
  no_walk other none (Cycle axis ks) is same = other (ap (λ (vs : List (List ℕ)). get_or vs 0 []) (sym here ∙ same))
