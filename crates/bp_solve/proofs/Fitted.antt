-- How long texts are that were written in memory, and that a certificate without lemmas is never too long.
use Rattle.std.proofs.Common.{◌≡◌, ℕ, ◌+◌, ◌≤◌, List, [], ◌∷◌, ◌++◌, length, replicate, take, map, decimal, All, None, Some, Result, Ok, Err, refl, sym, ap, ◌∙◌, subst, arith, length-append}
use Rattle.std.specs.Prelude.{codes}
use Rattle.std.specs.List.{flat_map}
use Rattle.std.proofs.lemmas.List.{get_or-replicate, length-take}
use Rattle.std.proofs.lemmas.Fmt.{length-decimal-le}
use Rattle.std.proofs.lemmas.List.Elements.{All-cons, All-nil}
use Rattle.std.proofs.lemmas.Option.{same_Some}
use Rattle.bp_base.specs.declared.outside.Failed.{Failed}
use Rattle.bp_base.specs.declared.point.Axis.TheVariants.{X}
use Rattle.bp_base.specs.declared.chain.Claim.{Claim}
use Rattle.bp_base.specs.declared.chain.Claim.TheVariants.{Walk}
use Rattle.bp_base.specs.declared.refutation.Refutation.{fold-roll-Refutation}
use Rattle.bp_base.specs.declared.refutation.Refutation.TheOpen.{Refutation-F}
use Rattle.bp_base.specs.declared.refutation.Refutation.TheVariants.{Open, rolls-Open}
use Rattle.bp_base.specs.Limits.{most_document_bytes}
use Rattle.bp_text.specs.Puts.{Puts}
use Rattle.bp_base.specs.Tree.{leaf_count}
use Rattle.bp_metric.specs.Nodes.{Part, OpenBy, node_count_of, parts_of}
use Rattle.bp_metric.proofs.Refutations.{parts-open}
use Rattle.bp_document.specs.declared.document.Document.{Document}
use Rattle.bp_document.specs.Forms.{version_line, end_line}
use Rattle.bp_document.specs.Lines.{line, word, sheet_line, floor_line, open_line}
use Rattle.bp_document.specs.Ranges.{IsDocument, IsSmallPart, depth_at, depth_of}
use Rattle.bp_document.specs.Sizes.{IsPartUpTo, NamesLeaves}
use Rattle.bp_document.specs.Text.{doc_text, body_text, edge_lines, point_lines, proof_lines, node_lines}
use Rattle.bp_document.proofs.Nodes.{lines-open}
use Rattle.bp_certificate.specs.declared.certificate.Certificate.{Certificate}
use Rattle.bp_certificate.specs.Lines.{count_line, mirror_line}
use Rattle.bp_certificate.specs.Ranges.{IsCertificate}
use Rattle.bp_certificate.specs.Text.{certificate_text, opening_text, places_text, lemmas_text}

-- what was written of a text is no longer than it, and at Ok it is the text
pub within_text : {T : Type 0} (r : Result T Failed) (before after text : List ℕ) → Puts (Some before) (Some after) r text → before ≡ [] → length after ≤ length text
within_text (Ok x) before after text puts empty =
    omega (arith, ap length (same_Some after (before ++ text) puts.all), length-append before text, ap length empty)
within_text (Err e) before after text puts empty =
    let k = puts.front.0 in
    omega (arith, ap length (same_Some after (before ++ take k text) puts.front.2), length-append before (take k text), ap length empty, length-take k text)

pub whole_text : {T : Type 0} (r : Result T Failed) (x : T) (before after text : List ℕ) → r ≡ Ok x → Puts (Some before) (Some after) r text → before ≡ [] → after ≡ text
whole_text {T} r x before after text ok puts empty =
    let all : Puts (Some before) (Some after) (Ok x) text = subst (λ (o : Result T Failed). Puts (Some before) (Some after) o text) ok puts in
    same_Some after (before ++ text) all.all ∙ ap (λ (b : List ℕ). b ++ text) empty

-- Lines.

line_length : (k : List ℕ) (ws : List (List ℕ)) → length (line k ws) ≡ length k + length (flat_map word ws) + 1
unfolding line
line_length k ws = length-append (k ++ flat_map word ws) (10 ∷ []) ∙ ap (λ (n : ℕ). n + 1) (length-append k (flat_map word ws))

words_length : (w : List ℕ) (ws : List (List ℕ)) → length (flat_map word (w ∷ ws)) ≡ 1 + length w + length (flat_map word ws)
words_length w ws = omega (arith, length-append (word w) (flat_map word ws))

numbers_length : (ks : List ℕ) → length ks ≤ length (flat_map word (map decimal ks))
numbers_length [] = omega arith
numbers_length (k ∷ ks) = omega (arith, words_length (decimal k) (map decimal ks), numbers_length ks)

-- The text of a certificate without lemmas is shorter than that of a document with a proof of one open node, which is short enough.
abbrev ones : List ℕ
ones = replicate 20 1

abbrev claim : Claim
claim = Walk X ones

abbrev document_of : Certificate → Document
document_of C = record { tree = C.tree; side = C.side; bound = C.bound; points = C.points; floor = C.floor; proof = Some (Open claim); sheet = C.sheet }

ones_length : length ones ≡ 20
ones_length = refl

ones_small : (n : ℕ) → 1 ≤ n → All (λ k. k ≤ n) ones
ones_small n some = λ k d less. subst (λ (m : ℕ). m ≤ n) (sym (get_or-replicate 20 k 1 d (omega (arith, less, ones_length)))) some

depth_open : depth_of (Open claim) ≡ 0
unfolding depth_of
depth_open = ap depth_of (sym (rolls-Open claim)) ∙ fold-roll-Refutation ℕ depth_at (Refutation-F.Open claim)

one_part : (P : Part → Type 0) → P (OpenBy claim) → All P (parts_of (Open claim))
one_part P is = subst (All P) (sym (parts-open claim)) (All-cons P (OpenBy claim) [] is (All-nil P))

one_node : node_count_of (Open claim) ≡ 1
one_node = ap length (parts-open claim)

module _ (C : Certificate) (is : IsCertificate C) where
  is_document : IsDocument (document_of C)
  is_document = record {
    tree = is.tree;
    side = is.side;
    bound = is.bound;
    each = is.each;
    points = is.points;
    floor = is.floor;
    proof = record {
      lines = omega (arith, one_node);
      depth = omega (arith, depth_open);
      parts = one_part IsSmallPart (record { some = omega (arith, ones_length); short = omega (arith, ones_length); small = ones_small 999999999 (omega arith) });
    };
    sheet = is.sheet;
  }

  names : NamesLeaves (document_of C)
  names = one_part (IsPartUpTo (leaf_count C.tree)) (ones_small (leaf_count C.tree) (omega (arith, is.tree.leaves_enough)))

  more : (x y : List ℕ) (n : ℕ) → length x ≡ n → length (x ++ y) ≡ n + length y
  more x y n long = length-append x y ∙ ap (λ (k : ℕ). k + length y) long

  count_length : 7 ≤ length (line (codes "proof") (decimal (node_count_of (Open claim)) ∷ []))
  count_length = omega (arith, line_length (codes "proof") (decimal (node_count_of (Open claim)) ∷ []), words_length (decimal (node_count_of (Open claim))) [])

  open_length : 28 ≤ length (open_line 0 claim)
  open_length =
      omega (arith, line_length (decimal 0) (codes "open" ∷ codes "x" ∷ map decimal ones), words_length (codes "open") (codes "x" ∷ map decimal ones), words_length (codes "x") (map decimal ones), numbers_length ones, ones_length)

  proof_length : 35 ≤ length (proof_lines (Some (Open claim)))
  unfolding proof_lines
  proof_length =
      omega (arith, length-append (line (codes "proof") (decimal (node_count_of (Open claim)) ∷ [])) (node_lines (Open claim) 0), ap length (lines-open claim 0), count_length, open_length)

  version_length : length (version_line 3) ≤ length (version_line 2) + 1
  version_length =
      omega (arith, line_length (codes "boxpleat") (decimal 3 ∷ []), line_length (codes "boxpleat") (decimal 2 ∷ []), words_length (decimal 3) [], words_length (decimal 2) [], length-decimal-le 1 3 (omega arith) (omega arith) (omega arith))

  none_length : length (count_line None) ≤ 12
  none_length = omega (arith, line_length (codes "lemmas") (codes "none" ∷ []), words_length (codes "none") [])

  mirror_length : length mirror_line ≤ 12
  mirror_length = omega (arith, line_length (codes "mirror") (codes "none" ∷ []), words_length (codes "none") [])

  abbrev side_line : List ℕ
  side_line = line (codes "side") (decimal C.side ∷ [])

  abbrev bound_line : List ℕ
  bound_line = line (codes "bound") (decimal C.bound ∷ [])

  abbrev points_of : List ℕ
  points_of = point_lines C.tree C.points

  abbrev places : ℕ
  places = length (edge_lines C.tree) + length side_line + length bound_line + length points_of + length (floor_line C.floor)

  doc_length : length (doc_text (document_of C)) ≡ (length (version_line 2) + length (sheet_line C.sheet)) + (places + length (proof_lines (Some (Open claim))) + length end_line)
  unfolding doc_text body_text
  doc_length =
      let side = more (edge_lines C.tree) side_line _ refl in
      let bound = more _ bound_line _ side in
      let points = more _ points_of _ bound in
      let floor = more _ (floor_line C.floor) _ points in
      let proof = more _ (proof_lines (Some (Open claim))) _ floor in
      let body = more _ end_line _ proof in
      let start = more (version_line 2) (sheet_line C.sheet) _ refl in
      more _ _ _ start ∙ ap (λ (n : ℕ). length (version_line 2) + length (sheet_line C.sheet) + n) body

  certificate_length : C.lemmas ≡ None → length (certificate_text C) ≡ length (version_line 3) + length (sheet_line C.sheet) + length mirror_line + (places + length (count_line None) + length end_line)
  unfolding certificate_text opening_text places_text
  certificate_length none =
      omega (arith, length-append (version_line 3 ++ (sheet_line C.sheet ++ mirror_line)) ((edge_lines C.tree ++ (side_line ++ (bound_line ++ points_of))) ++ (floor_line C.floor ++ (lemmas_text C.lemmas ++ end_line))), length-append (version_line 3) (sheet_line C.sheet ++ mirror_line), length-append (sheet_line C.sheet) mirror_line, length-append (edge_lines C.tree ++ (side_line ++ (bound_line ++ points_of))) (floor_line C.floor ++ (lemmas_text C.lemmas ++ end_line)), length-append (edge_lines C.tree) (side_line ++ (bound_line ++ points_of)), length-append side_line (bound_line ++ points_of), length-append bound_line points_of, length-append (floor_line C.floor) (lemmas_text C.lemmas ++ end_line), length-append (lemmas_text C.lemmas) end_line, ap (λ L. length (lemmas_text L)) none)

  pub short_plain : ((D : Document) → IsDocument D → NamesLeaves D → length (doc_text D) ≤ most_document_bytes) → C.lemmas ≡ None → length (certificate_text C) ≤ most_document_bytes
  short_plain law none =
      omega (arith, law (document_of C) is_document names, doc_length, certificate_length none, proof_length, version_length, none_length, mirror_length)
