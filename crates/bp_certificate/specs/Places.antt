-- Where a line of a certificate stands, and which text leads there.
use Rattle.std.specs.Prelude.{◌≡◌, ℕ, ◌<◌, ◌≤◌, List, [], ◌++◌, length, All, Option, None, Some}
use Rattle.std.specs.List.{flat_map}
use Rattle.bp_base.specs.declared.path.Pair.{Pair}
use Rattle.bp_base.specs.declared.point.Sheet.{Sheet}
use Rattle.bp_base.specs.Tree.{leaf_count}
use Rattle.bp_metric.specs.Metric.{IsSheet}
use Rattle.bp_document.specs.declared.head.Head.{Head}
use Rattle.bp_document.specs.Lines.{sheet_line}
use Rattle.bp_document.specs.Forms.{version_line, end_line}
use Rattle.bp_document.specs.Places.{Place as DocPlace, AtVersion as DocVersion, AtSheet as DocSheet, AtProof as DocProof, AtNode as DocNode, AtEnd as DocEnd, Behind as DocBehind, LeadsTo as LeadsInDocument, HasPoints, floor_part}
use Rattle.bp_document.specs.Ranges.{IsFloorLine}
use Rattle.bp_certificate.specs.declared.certificate.Certificate.{Certificate}
use Rattle.bp_certificate.specs.declared.certificate.CertificateHead.{CertificateHead}
use Rattle.bp_certificate.specs.declared.certificate.Lemma.{Lemma}
use Rattle.bp_certificate.specs.declared.certificate.Lemmas.{Lemmas}
use Rattle.bp_certificate.specs.declared.certificate.Plan.{Plan}
use Rattle.bp_certificate.specs.Lines.{lemma_line, swap_line, swaps_line, corner_line, count_line}
use Rattle.bp_certificate.specs.Text.{opening_text}
use Rattle.bp_certificate.specs.Ranges.{IsLemma, IsSwapLine, IsCornerLine, IsLemmaCount, AreSwaps, most_swaps}

-- The place of a line, with what its form and its faults hang on.
pub data Place : Type 0 where
  AtVersion : Place
  AtSheet : Place
  AtMirror : Place
  -- from the number of edges to the floor, where lines stand as in a document
  InBody : DocPlace → Place
  AtCount : Place
  AtCorner : Place
  AtSwapCount : Place
  AtSwap : Place
  AtLemma : Place
  AtEnd : Place
  -- behind the line `end`
  Behind : Place

abbrev pub IsBodyPlace : DocPlace → Type 0
IsBodyPlace DocVersion = ⊥
IsBodyPlace DocSheet = ⊥
IsBodyPlace DocProof = ⊥
IsBodyPlace (DocNode most) = ⊥
IsBodyPlace DocEnd = ⊥
IsBodyPlace DocBehind = ⊥
IsBodyPlace place = Unit {0}

-- the lines before those of the edges, in a document
abbrev pub document_opening : Sheet → List ℕ
document_opening G = version_line 2 ++ sheet_line G

-- A design is what the lines from the sheet's to the floor's tell, as the head of a document.
pub record IsDesign (D : Head) : Type 0 where
  pub sheet : IsSheet D.sheet
  pub points : HasPoints D
  pub each : length D.points ≡ leaf_count D.tree
  pub floor : IsFloorLine D.floor

-- the design of a head, and the head of a design
abbrev pub design_of : CertificateHead → Head
design_of H = record { tree = H.tree; side = H.side; bound = H.bound; points = H.points; floor = H.floor; proof = None; sheet = H.sheet }

abbrev pub head_of : Head → Option Plan → CertificateHead
head_of D plan = record { tree = D.tree; sheet = D.sheet; side = D.side; bound = D.bound; points = D.points; floor = D.floor; plan = plan }

-- the texts up to the floor, the number of lemmas, the corner, some swaps of so many, and some lemmas
abbrev pub design_part : Head → List ℕ
design_part D = opening_text D.sheet ++ floor_part D

abbrev pub counted_part : Head → Option ℕ → List ℕ
counted_part D count = design_part D ++ count_line count

abbrev pub cornered_part : Head → ℕ → Option Pair → List ℕ
cornered_part D count corner = counted_part D (Some count) ++ corner_line corner

abbrev pub swaps_part : Head → ℕ → Option Pair → ℕ → List (List Pair) → List ℕ
swaps_part D count corner total swaps = (cornered_part D count corner ++ swaps_line total) ++ flat_map swap_line swaps

abbrev pub plan_part : Head → Option Plan → List ℕ
plan_part D None = counted_part D None
plan_part D (Some plan) = swaps_part D plan.count plan.corner (length plan.swaps) plan.swaps

abbrev pub lemmas_part : CertificateHead → List Lemma → List ℕ
lemmas_part H ls = plan_part (design_of H) H.plan ++ flat_map lemma_line ls

abbrev pub IsPlan : Option Plan → Type 0
IsPlan None = Unit {0}
IsPlan (Some plan) = IsLemmaCount plan.count × IsCornerLine plan.corner × AreSwaps plan.swaps

pub record IsHead (H : CertificateHead) : Type 0 where
  pub design : IsDesign (design_of H)
  pub plan : IsPlan H.plan

abbrev pub count_of : Option Plan → ℕ
count_of None = 0
count_of (Some plan) = plan.count

-- The text is that up to some swaps of so many.
pub record LeadsToSwaps (text : List ℕ) (D : Head) (count : ℕ) (corner : Option Pair) (total : ℕ) (swaps : List (List Pair)) : Type 0 where
  pub is : text ≡ swaps_part D count corner total swaps
  pub design : IsDesign D
  pub counted : IsLemmaCount count
  pub cornered : IsCornerLine corner
  pub within : total ≤ most_swaps
  pub each : All IsSwapLine swaps
  pub few : length swaps ≤ total

-- The text is that up to some lemmas.
pub record LeadsToLemmas (text : List ℕ) (H : CertificateHead) (ls : List Lemma) : Type 0 where
  pub is : text ≡ lemmas_part H ls
  pub head : IsHead H
  pub each : All IsLemma ls

-- The text is a certificate's up to the floor, and in a document's place leads to this place.
abbrev pub LeadsToBody : List ℕ → DocPlace → Type 0
LeadsToBody text place =
    (G : Sheet) × (part : List ℕ) × IsSheet G × IsBodyPlace place × (text ≡ opening_text G ++ part) × LeadsInDocument (document_opening G ++ part) place

-- The text has no fault so far, and leads to this place.
abbrev pub LeadsTo : List ℕ → Place → Type 0
LeadsTo text AtVersion = text ≡ []
LeadsTo text AtSheet = text ≡ version_line 3
LeadsTo text AtMirror = (G : Sheet) × IsSheet G × (text ≡ version_line 3 ++ sheet_line G)
LeadsTo text (InBody place) = LeadsToBody text place
LeadsTo text AtCount = (D : Head) × IsDesign D × (text ≡ design_part D)
LeadsTo text AtCorner = (D : Head) × (count : ℕ) × IsDesign D × IsLemmaCount count × (text ≡ counted_part D (Some count))
LeadsTo text AtSwapCount =
    (D : Head) × (count : ℕ) × (corner : Option Pair) × IsDesign D × IsLemmaCount count × IsCornerLine corner × (text ≡ cornered_part D count corner)
LeadsTo text AtSwap =
    (D : Head) × (count : ℕ) × (corner : Option Pair) × (total : ℕ) × (swaps : List (List Pair)) × LeadsToSwaps text D count corner total swaps × (length swaps < total)
LeadsTo text AtLemma = (H : CertificateHead) × (ls : List Lemma) × LeadsToLemmas text H ls × (length ls < count_of H.plan)
LeadsTo text AtEnd = (H : CertificateHead) × (ls : List Lemma) × LeadsToLemmas text H ls × (length ls ≡ count_of H.plan)
LeadsTo text Behind = (H : CertificateHead) × (ls : List Lemma) × (before : List ℕ) × (text ≡ before ++ end_line) × LeadsToLemmas before H ls × (length ls ≡ count_of H.plan)

-- the certificate of a head and its lemmas
abbrev pub lemmas_of : Option Plan → List Lemma → Option Lemmas
lemmas_of None ls = None
lemmas_of (Some plan) ls = Some (record { corner = plan.corner; swaps = plan.swaps; lemmas = ls })

abbrev pub certificate_of : CertificateHead → List Lemma → Certificate
certificate_of H ls = record { tree = H.tree; sheet = H.sheet; side = H.side; bound = H.bound; points = H.points; floor = H.floor; lemmas = lemmas_of H.plan ls }
