-- The text of a head, its lemmas and the end is that of their certificate.
use Rattle.std.proofs.Common.{◌≡◌, ℕ, List, [], ◌∷◌, ◌++◌, length, All, Option, None, Some, refl, sym, ◌∙◌, ap, subst, arith, append_assoc}
use Rattle.std.specs.Prelude.{codes, decimal}
use Rattle.std.specs.List.{flat_map}
use Rattle.bp_document.specs.Lines.{floor_line, line}
use Rattle.bp_document.specs.Text.{edge_lines, point_lines}
use Rattle.bp_document.specs.Forms.{end_line}
use Rattle.bp_certificate.specs.declared.certificate.CertificateHead.{CertificateHead}
use Rattle.bp_certificate.specs.declared.certificate.Lemma.{Lemma}
use Rattle.bp_certificate.specs.declared.certificate.Plan.{Plan}
use Rattle.bp_certificate.specs.Lines.{corner_line, count_line, lemma_line, swap_line, swaps_line}
use Rattle.bp_certificate.specs.Text.{certificate_text, lemmas_text, opening_text, places_text, search_text, swap_lines}
use Rattle.bp_certificate.specs.Ranges.{AreLemmas, IsCertificate, IsLemma, IsLemmaCount}
use Rattle.bp_certificate.specs.Places.{IsHead, IsPlan, certificate_of, count_of, design_of, lemmas_of, lemmas_part, plan_part}

group_none : (o e s b p f c n : List ℕ) → (((o ++ ((((e ++ s) ++ b) ++ p) ++ f)) ++ c) ++ []) ++ n ≡ o ++ ((e ++ (s ++ (b ++ p))) ++ (f ++ (c ++ n)))
group_none o e s b p f c n = simp append_assoc refl

group_some : (o e s b p f c k w ws l n : List ℕ) → ((((((o ++ ((((e ++ s) ++ b) ++ p) ++ f)) ++ c) ++ k) ++ w) ++ ws) ++ l) ++ n ≡ o ++ ((e ++ (s ++ (b ++ p))) ++ (f ++ ((c ++ (k ++ ((w ++ ws) ++ l))) ++ n)))
group_some o e s b p f c k w ws l n = simp append_assoc refl

none_of : (ls : List Lemma) → length ls ≡ 0 → ls ≡ []
none_of [] none = refl
none_of (l ∷ ls) none = absurd (omega (arith, none))

module _ (H : CertificateHead) (ls : List Lemma) where
  abbrev side : List ℕ
  side = line (codes "side") (decimal H.side ∷ [])

  abbrev bound : List ℕ
  bound = line (codes "bound") (decimal H.bound ∷ [])

  abbrev places : List ℕ
  places = edge_lines H.tree ++ (side ++ (bound ++ point_lines H.tree H.points))

  parts : (plan : Option Plan) → length ls ≡ count_of plan → (plan_part (design_of H) plan ++ flat_map lemma_line ls) ++ end_line ≡ opening_text H.sheet ++ (places ++ (floor_line H.floor ++ (lemmas_text (lemmas_of plan ls) ++ end_line)))
  unfolding search_text swap_lines
  parts None count =
      ap (λ (t : List Lemma). (plan_part (design_of H) None ++ flat_map lemma_line t) ++ end_line) (none_of ls count)
      ∙ group_none (opening_text H.sheet) (edge_lines H.tree) side bound (point_lines H.tree H.points) (floor_line H.floor) (count_line None) end_line
  parts (Some p) count =
      group_some (opening_text H.sheet) (edge_lines H.tree) side bound (point_lines H.tree H.points) (floor_line H.floor) (count_line (Some p.count)) (corner_line p.corner) (swaps_line (length p.swaps)) (flat_map swap_line p.swaps) (flat_map lemma_line ls) end_line
      ∙ ap (λ (n : ℕ). opening_text H.sheet ++ (places ++ (floor_line H.floor ++ ((count_line (Some n) ++ (corner_line p.corner ++ ((swaps_line (length p.swaps) ++ flat_map swap_line p.swaps) ++ flat_map lemma_line ls))) ++ end_line)))) (sym count)

  pub whole_text : length ls ≡ count_of H.plan → lemmas_part H ls ++ end_line ≡ certificate_text (certificate_of H ls)
  unfolding certificate_text places_text
  whole_text count = parts H.plan count

  lemmas_in : (plan : Option Plan) → IsPlan plan → All IsLemma ls → length ls ≡ count_of plan → AreLemmas (lemmas_of plan ls)
  lemmas_in None planned each count = tt
  lemmas_in (Some p) planned each count = (planned.1, planned.2, subst IsLemmaCount (sym count) planned.0, each)

  pub is_certificate : IsHead H → All IsLemma ls → length ls ≡ count_of H.plan → IsCertificate (certificate_of H ls)
  is_certificate head each count = record {
    tree = head.design.points.tree;
    sheet = head.design.sheet;
    side = head.design.points.side;
    bound = head.design.points.bound;
    each = head.design.each;
    points = head.design.points.points;
    floor = head.design.floor;
    lemmas = lemmas_in H.plan head.plan each count;
  }
