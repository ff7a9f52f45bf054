-- Each form's line: its words, that it holds no LF, and how long it is at most; and what a line is the form of is one thing.
use Rattle.std.proofs.Common.{◌≡◌, ◌≢◌, ℕ, suc, ◌+◌, ◌*◌, ◌≤◌, ◌==◌, true, not, inl, inr, List, [], ◌∷◌, ◌++◌, length, get_or, map, All, decimal, Option, None, Some, refl, sym, ◌∙◌, ap, subst, arith, length-append}
use Rattle.std.specs.Prelude.{codes}
use Rattle.std.specs.List.{flat_map, list_all}
use Rattle.std.proofs.lemmas.Bool.Decides.{nat_tests}
use Rattle.std.proofs.lemmas.List.{append_cancel_right}
use Rattle.std.proofs.lemmas.List.Elements.{All-cons, All-nil, All-append, All-from_get_or}
use Rattle.std.proofs.lemmas.Fmt.{decimal_is_IsNumeral, length-decimal-le}
use Rattle.std.proofs.lemmas.Str.Parse.{digit_at}
use Rattle.bp_base.specs.declared.point.Axis.{Axis}
use Rattle.bp_base.specs.declared.point.Axis.TheVariants.{X, Y}
use Rattle.bp_base.specs.declared.point.Floor.{Floor}
use Rattle.bp_base.specs.declared.point.Point.{Point}
use Rattle.bp_base.specs.declared.point.Sheet.{Sheet}
use Rattle.bp_base.specs.declared.point.Sheet.TheVariants.{Square, Strip}
use Rattle.bp_base.specs.declared.chain.Claim.{Claim}
use Rattle.bp_base.specs.declared.chain.Claim.TheVariants.{Walk, Cycle}
use Rattle.bp_base.specs.Limits.{most_number}
use Rattle.bp_base.specs.Chain.{IsChainList}
use Rattle.bp_base.specs.Name.{IsName, is_name_byte}
use Rattle.bp_tree.specs.declared.edge.Edge.{Edge}
use Rattle.bp_document.specs.declared.node_line.NodeKind.{NodeKind}
use Rattle.bp_document.specs.declared.node_line.NodeLine.{NodeLine}
use Rattle.bp_document.specs.Lines.{word, line, axis_word, chain_words}
use Rattle.bp_document.specs.Ranges.{IsChainOf}
use Rattle.bp_document.specs.Words.{words}
use Rattle.bp_document.specs.Forms.{IsLine, IsSheetLine, IsField, IsEdgeForm, IsPointForm, IsFloorForm, IsProofForm, version_line, end_line}
use Rattle.bp_document.specs.FormWords.{sheet_words, proof_words}
use Rattle.bp_document.specs.NodeWords.{open_words, closed_words, kind_words}
use Rattle.bp_document.specs.Nodes.{IsKindOfNumbers, IsNodeLine}
use Rattle.bp_document.specs.Places.{Place, AtVersion, AtSheet, AtEdges, AtEdge, AtSide, AtBound, AtPoint, AtFloor, AtProof, AtNode, AtEnd, Behind}
use Rattle.bp_document.specs.Faults.{HasForm}
use Rattle.bp_document.proofs.NodeLines.{IsWord, spelled_word, number_word, words_of_line, kind_line_is}
use Rattle.bp_document.proofs.Forms.{name_word}

abbrev pub NoEnd : List ℕ → Type 0
NoEnd w = All (λ b. b ≢ 10) w

-- a word without space and LF, of at most so many bytes
pub record IsTidy (most : ℕ) (w : List ℕ) : Type 0 where
  pub word : IsWord w
  pub free : NoEnd w
  pub short : length w ≤ most

-- such words, whose bytes and spaces are at most so many
pub record AreTidy (most : ℕ) (ws : List (List ℕ)) : Type 0 where
  pub each : All IsWord ws
  pub free : NoEnd (flat_map word ws)
  pub short : length (flat_map word ws) ≤ most

tidy_nil : AreTidy 0 []
tidy_nil = record { each = All-nil IsWord; free = All-nil (λ b. b ≢ 10); short = omega arith }

tidy_cons : (m n : ℕ) (w : List ℕ) (ws : List (List ℕ)) → IsTidy m w → AreTidy n ws → AreTidy (n + m + 1) (w ∷ ws)
tidy_cons m n w ws is are =
    record {
      each = All-cons IsWord w ws is.word are.each;
      free = All-cons (λ b. b ≢ 10) 32 (w ++ flat_map word ws) (λ h. omega (arith, h)) (All-append (λ b. b ≢ 10) w (flat_map word ws) is.free are.free);
      short = omega (arith, is.short, are.short, length-append w (flat_map word ws));
    }

no_end : (w : List ℕ) → list_all (λ b. not (b == 10)) w ≡ true → NoEnd w
no_end [] spelled = All-nil (λ b. b ≢ 10)
no_end (b ∷ bs) spelled = All-cons (λ c. c ≢ 10) b bs (λ is. grind (arith, nat_tests)) (no_end bs (grind (arith, nat_tests)))

tidy_number : (n : ℕ) → n ≤ most_number → IsTidy 9 (decimal n)
tidy_number n small =
    let numeral = (decimal_is_IsNumeral n (omega arith)).0.1 in
    record {
      word = number_word n small;
      free = All-from_get_or (λ b. b ≢ 10) (decimal n) 0 (λ k less is. let d = digit_at (decimal n) k numeral less in omega (arith, d.0, is));
      short = length-decimal-le 9 n (omega arith) (omega arith) (omega arith);
    }

name_no_end : (b : ℕ) → is_name_byte b ≡ true → b ≢ 10
name_no_end b named is = grind (arith, nat_tests)

tidy_name : (w : List ℕ) → IsName w → IsTidy 32 w
tidy_name w is = record { word = name_word w is; free = λ k d less. name_no_end (get_or w k d) (is.spelled k d less); short = is.short }

tidy_numbers : (ks : List ℕ) → All (λ k. k ≤ most_number) ks → AreTidy (10 * length ks) (map decimal ks)
tidy_numbers [] small = tidy_nil
tidy_numbers (k ∷ ks) small =
    let first = tidy_number k (small 0 0 (omega arith)) in
    let rest = tidy_numbers ks (λ i d less. small (suc i) d (omega arith)) in
    let all = tidy_cons 9 (10 * length ks) (decimal k) (map decimal ks) first rest in
    record { each = all.each; free = all.free; short = omega (arith, all.short) }

-- what a line of a keyword and words is
pub record IsSpelled (bytes k : List ℕ) (ws : List (List ℕ)) : Type 0 where
  pub words : words bytes ≡ k ∷ ws
  pub free : NoEnd bytes
  pub short : length bytes ≤ 400

spelled : (m n : ℕ) (bytes k : List ℕ) (ws : List (List ℕ)) → IsTidy m k → AreTidy n ws → m + n ≤ 400 → IsLine bytes (line k ws) → IsSpelled bytes k ws
unfolding line
spelled m n bytes k ws key are few text =
    let is : bytes ≡ k ++ flat_map word ws = append_cancel_right bytes (k ++ flat_map word ws) (10 ∷ []) text in
    record {
      words = words_of_line bytes k ws key.word are.each text;
      free = subst NoEnd (sym is) (All-append (λ b. b ≢ 10) k (flat_map word ws) key.free are.free);
      short = omega (arith, ap length is, length-append k (flat_map word ws), key.short, are.short, few);
    }

pub tidy_code : (w : List ℕ) → list_all (λ b. not (b == 32)) w ≡ true → list_all (λ b. not (b == 10)) w ≡ true → length w ≤ 9 → IsTidy 9 w
tidy_code w spaces ends short = record { word = spelled_word w spaces; free = no_end w ends; short = short }

tidy_field : (n : ℕ) → n ≤ most_number → AreTidy 10 (decimal n ∷ [])
tidy_field n small = tidy_cons 9 0 (decimal n) [] (tidy_number n small) tidy_nil

module _ (bytes : List ℕ) where
  pub field_spelled : (keyword : List ℕ) (n : ℕ) → IsTidy 9 keyword → IsField keyword bytes n → IsSpelled bytes keyword (decimal n ∷ [])
  field_spelled keyword n key is = spelled 9 10 bytes keyword (decimal n ∷ []) key (tidy_field n is.small) (omega arith) is.text

  pub version_spelled : (n : ℕ) → n ≤ 2 → IsLine bytes (version_line n) → IsSpelled bytes (codes "boxpleat") (decimal n ∷ [])
  version_spelled n small is = spelled 9 10 bytes (codes "boxpleat") (decimal n ∷ []) (tidy_code (codes "boxpleat") refl refl (omega arith)) (tidy_field n (omega (arith, small))) (omega arith) is

  pub sheet_spelled : (G : Sheet) → IsSheetLine bytes G → IsSpelled bytes (codes "sheet") (sheet_words G)
  sheet_spelled Square is = spelled 9 10 bytes (codes "sheet") (codes "square" ∷ []) (tidy_code (codes "sheet") refl refl (omega arith)) (tidy_cons 9 0 (codes "square") [] (tidy_code (codes "square") refl refl (omega arith)) tidy_nil) (omega arith) is.text
  sheet_spelled (Strip width) is = spelled 9 20 bytes (codes "sheet") (codes "strip" ∷ decimal width ∷ []) (tidy_code (codes "sheet") refl refl (omega arith)) (tidy_cons 9 10 (codes "strip") (decimal width ∷ []) (tidy_code (codes "strip") refl refl (omega arith)) (tidy_field width (omega (arith, is.sheet)))) (omega arith) is.text

  pub edge_spelled : (e : Edge) → IsEdgeForm bytes e → IsSpelled bytes (codes "edge") (e.upper ∷ e.lower ∷ decimal e.length ∷ [])
  edge_spelled e is =
      spelled 9 76 bytes (codes "edge") (e.upper ∷ e.lower ∷ decimal e.length ∷ []) (tidy_code (codes "edge") refl refl (omega arith))
      (tidy_cons 32 43 e.upper (e.lower ∷ decimal e.length ∷ []) (tidy_name e.upper is.upper) (tidy_cons 32 10 e.lower (decimal e.length ∷ []) (tidy_name e.lower is.lower) (tidy_field e.length is.small))) (omega arith) is.text

  pub point_spelled : (name : List ℕ) (p : Point) → IsPointForm bytes name p → IsSpelled bytes (codes "point") (name ∷ decimal p.x ∷ decimal p.y ∷ [])
  point_spelled name p is =
      spelled 9 53 bytes (codes "point") (name ∷ decimal p.x ∷ decimal p.y ∷ []) (tidy_code (codes "point") refl refl (omega arith))
      (tidy_cons 32 20 name (decimal p.x ∷ decimal p.y ∷ []) (tidy_name name is.name_spelled) (tidy_cons 9 10 (decimal p.x) (decimal p.y ∷ []) (tidy_number p.x is.small.0) (tidy_field p.y is.small.1))) (omega arith) is.text

  pub floor_spelled : (f : Floor) → IsFloorForm bytes f → IsSpelled bytes (codes "floor") (decimal f.m ∷ decimal f.side ∷ map decimal f.leaves)
  floor_spelled f is =
      let n = 10 * length f.leaves in
      spelled 9 (n + 9 + 1 + 9 + 1) bytes (codes "floor") (decimal f.m ∷ decimal f.side ∷ map decimal f.leaves) (tidy_code (codes "floor") refl refl (omega arith))
      (tidy_cons 9 (n + 9 + 1) (decimal f.m) (decimal f.side ∷ map decimal f.leaves) (tidy_number f.m is.small.m) (tidy_cons 9 n (decimal f.side) (map decimal f.leaves) (tidy_number f.side is.small.side) (tidy_numbers f.leaves is.small.leaves.small))) (omega (arith, is.small.leaves.short)) is.text

  pub proof_spelled : (count : Option ℕ) → IsProofForm bytes count → (w : List ℕ) × IsSpelled bytes (codes "proof") (w ∷ []) × (proof_words count ≡ codes "proof" ∷ w ∷ [])
  proof_spelled None is = (codes "none", spelled 9 10 bytes (codes "proof") (codes "none" ∷ []) (tidy_code (codes "proof") refl refl (omega arith)) (tidy_cons 9 0 (codes "none") [] (tidy_code (codes "none") refl refl (omega arith)) tidy_nil) (omega arith) is.text, refl)
  proof_spelled (Some n) is = (decimal n, spelled 9 10 bytes (codes "proof") (decimal n ∷ []) (tidy_code (codes "proof") refl refl (omega arith)) (tidy_field n (omega (arith, is.range.1))) (omega arith) is.text, refl)

  pub end_spelled : IsLine bytes end_line → IsSpelled bytes (codes "end") []
  end_spelled is = spelled 9 0 bytes (codes "end") [] (tidy_code (codes "end") refl refl (omega arith)) tidy_nil (omega arith) is

axis_tidy : (axis : Axis) → IsTidy 9 (axis_word axis)
axis_tidy X = tidy_code (codes "x") refl refl (omega arith)
axis_tidy Y = tidy_code (codes "y") refl refl (omega arith)

chain_tidy : (axis : Axis) (ks : List ℕ) → IsChainList ks → AreTidy 330 (chain_words axis ks)
chain_tidy axis ks is =
    let all = tidy_cons 9 (10 * length ks) (axis_word axis) (map decimal ks) (axis_tidy axis) (tidy_numbers ks is.small) in
    record { each = all.each; free = all.free; short = omega (arith, all.short, is.short) }

closed_tidy : (claim : Claim) → IsChainOf claim → AreTidy 340 (closed_words claim)
closed_tidy (Walk axis ks) is = tidy_cons 9 330 (codes "walk") (chain_words axis ks) (tidy_code (codes "walk") refl refl (omega arith)) (chain_tidy axis ks is)
closed_tidy (Cycle axis ks) is = tidy_cons 9 330 (codes "cycle") (chain_words axis ks) (tidy_code (codes "cycle") refl refl (omega arith)) (chain_tidy axis ks is)

longer : (m n : ℕ) (ws : List (List ℕ)) → m ≤ n → AreTidy m ws → AreTidy n ws
longer m n ws less are = record { each = are.each; free = are.free; short = omega (arith, are.short, less) }

open_tidy : (claim : Claim) → IsChainOf claim → AreTidy 340 (open_words claim)
open_tidy (Walk axis ks) is = longer 330 340 (chain_words axis ks) (omega arith) (chain_tidy axis ks is)
open_tidy (Cycle axis ks) is = tidy_cons 9 330 (codes "cycle") (chain_words axis ks) (tidy_code (codes "cycle") refl refl (omega arith)) (chain_tidy axis ks is)

kind_tidy : (k : NodeKind) → IsKindOfNumbers k → AreTidy 350 (kind_words k)
kind_tidy (NodeKind.Split p) is = longer 30 350 (kind_words (NodeKind.Split p)) (omega arith) (tidy_cons 9 20 (codes "split") (decimal p.i ∷ decimal p.j ∷ []) (tidy_code (codes "split") refl refl (omega arith)) (tidy_cons 9 10 (decimal p.i) (decimal p.j ∷ []) (tidy_number p.i is.0) (tidy_field p.j is.1)))
kind_tidy (NodeKind.Closed claim) is = longer 340 350 (closed_words claim) (omega arith) (closed_tidy claim is)
kind_tidy (NodeKind.Open claim) is = tidy_cons 9 340 (codes "open") (open_words claim) (tidy_code (codes "open") refl refl (omega arith)) (open_tidy claim is)

pub node_spelled : (bytes : List ℕ) (l : NodeLine) → IsNodeLine bytes l → IsSpelled bytes (decimal l.depth) (kind_words l.kind)
node_spelled bytes l is = spelled 9 350 bytes (decimal l.depth) (kind_words l.kind) (tidy_number l.depth is.depth) (kind_tidy l.kind is.kind) (omega arith) (is.text ∙ kind_line_is l.depth l.kind)

-- Of any form a line holds no LF, and is short.
abbrev pub IsShortLine : List ℕ → Type 0
IsShortLine bytes = NoEnd bytes × (length bytes ≤ 400)

short_line : (bytes k : List ℕ) (ws : List (List ℕ)) → IsSpelled bytes k ws → IsShortLine bytes
short_line bytes k ws is = (is.free, is.short)

pub form_short : (place : Place) (bytes : List ℕ) → HasForm place bytes → IsShortLine bytes
form_short AtVersion bytes form = elim form [
  | inl first ↦ short_line bytes (codes "boxpleat") (decimal 1 ∷ []) (version_spelled bytes 1 (omega arith) first)
  | inr second ↦ short_line bytes (codes "boxpleat") (decimal 2 ∷ []) (version_spelled bytes 2 (omega arith) second)
]
form_short AtSheet bytes form = short_line bytes (codes "sheet") (sheet_words form.0) (sheet_spelled bytes form.0 form.1)
form_short AtEdges bytes form = short_line bytes (codes "edges") (decimal form.0 ∷ []) (field_spelled bytes (codes "edges") form.0 (tidy_code (codes "edges") refl refl (omega arith)) form.1)
form_short (AtEdge E es) bytes form = short_line bytes (codes "edge") (form.0.upper ∷ form.0.lower ∷ decimal form.0.length ∷ []) (edge_spelled bytes form.0 form.1)
form_short AtSide bytes form = short_line bytes (codes "side") (decimal form.0 ∷ []) (field_spelled bytes (codes "side") form.0 (tidy_code (codes "side") refl refl (omega arith)) form.1)
form_short AtBound bytes form = short_line bytes (codes "bound") (decimal form.0 ∷ []) (field_spelled bytes (codes "bound") form.0 (tidy_code (codes "bound") refl refl (omega arith)) form.1)
form_short (AtPoint name) bytes form = short_line bytes (codes "point") (form.0 ∷ decimal form.1.x ∷ decimal form.1.y ∷ []) (point_spelled bytes form.0 form.1 form.2)
form_short AtFloor bytes form = short_line bytes (codes "floor") (decimal form.0.m ∷ decimal form.0.side ∷ map decimal form.0.leaves) (floor_spelled bytes form.0 form.1)
form_short AtProof bytes form =
    let is = proof_spelled bytes form.0 form.1 in
    short_line bytes (codes "proof") (is.0 ∷ []) is.1
form_short (AtNode most) bytes form = short_line bytes (decimal form.0.depth) (kind_words form.0.kind) (node_spelled bytes form.0 form.1)
form_short AtEnd bytes form = short_line bytes (codes "end") [] (end_spelled bytes form)
form_short Behind bytes form = absurd form
