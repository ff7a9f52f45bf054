-- Bytes have one answer: the text of one certificate, or one first fault.
use Rattle.std.proofs.Common.{◌≡◌, ℕ, ◌+◌, ◌<◌, ◌==◌, ◌⊎◌, inl, inr, true, false, List, [], ◌∷◌, ◌++◌, length, get_or, Bool, Option, None, Some, refl, sym, ◌∙◌, ap, subst, arith, append_assoc, length-append}
use Rattle.std.specs.Prelude.{if◌then◌else◌}
use Rattle.std.specs.List.{count_by}
use Rattle.std.proofs.lemmas.Bool.{cases_order}
use Rattle.std.proofs.lemmas.List.{append-nil, get_or_at}
use Rattle.bp_document.specs.declared.fault.DocKind.{DocKind}
use Rattle.bp_document.specs.declared.fault.DocKind.TheVariants.{TooLong, Trailing, Cut, BadForm, BadTree, BadPoint, BadDepth}
use Rattle.bp_document.specs.declared.fault.DocFault.{DocFault}
use Rattle.bp_document.specs.Forms.{end_line}
use Rattle.bp_document.specs.Faults.{HasLine, order}
use Rattle.bp_document.proofs.Runs.{unlines}
use Rattle.bp_document.proofs.Spelling.{NoEnd}
use Rattle.bp_certificate.specs.declared.certificate.Certificate.{Certificate}
use Rattle.bp_certificate.specs.declared.certificate.CertificateHead.{CertificateHead}
use Rattle.bp_certificate.specs.declared.certificate.Lemma.{Lemma}
use Rattle.bp_certificate.specs.declared.certificate.Lemmas.{Lemmas}
use Rattle.bp_certificate.specs.declared.certificate.Plan.{Plan}
use Rattle.bp_certificate.specs.Text.{certificate_text}
use Rattle.bp_certificate.specs.Ranges.{AreLemmas, IsCertificate, IsLemma}
use Rattle.bp_certificate.specs.Places.{Place, Behind, IsHead, IsPlan, LeadsToLemmas, certificate_of, count_of, lemmas_of, lemmas_part}
use Rattle.bp_certificate.specs.Faults.{HasKind, HasOneAnswer, IsCertificateFault, IsFaultAt, IsFirstKind, IsTextOf}
use Rattle.bp_certificate.proofs.Cutting.{cut_first, cut_line}
use Rattle.bp_certificate.proofs.Reach.{ReachesPlace, reach_behind, reaches}
use Rattle.bp_certificate.proofs.Runs.{State, SVersion, SSheet, SMirror, SBody, SCount, SCorner, SSwapCount, SSwaps, SLemmas, SBehind, Goes, Reaches, Run, fine, goes_free, one_next, place_at}
use Rattle.bp_certificate.proofs.WholeText.{whole_text}

-- One run goes on where the other ends, or both end together.
abbrev Meets : State → State → List ℕ → List ℕ → List (List ℕ) → List (List ℕ) → Type 0
Meets S U rest more bs cs =
    ((S ≡ U) × (rest ≡ more) × (bs ≡ cs))
    ⊎ ((b : List ℕ) × (M : State) × (tail : List ℕ) × Goes S b M × (rest ≡ b ++ 10 ∷ tail))
    ⊎ ((b : List ℕ) × (M : State) × (tail : List ℕ) × Goes U b M × (more ≡ b ++ 10 ∷ tail))

meet : (bs cs : List (List ℕ)) (R S U : State) (rest more : List ℕ) → Run R bs S → Run R cs U → unlines bs ++ rest ≡ unlines cs ++ more → Meets S U rest more bs cs
meet [] [] R S U rest more run run' same = inl (sym run ∙ run', same, refl)
meet [] (c ∷ cs) R S U rest more run run' same =
    inr (inl (c, run'.0, unlines cs ++ more, subst (λ (X : State). Goes X c run'.0) run run'.1, same ∙ cut_first c (unlines cs) more))
meet (b ∷ bs) [] R S U rest more run run' same =
    inr (inr (b, run.0, unlines bs ++ rest, subst (λ (X : State). Goes X b run.0) run' run.1, sym same ∙ cut_first b (unlines bs) rest))
meet (b ∷ bs) (c ∷ cs) R S U rest more run run' same =
    let cut = cut_line b c (unlines bs ++ rest) (unlines cs ++ more) (goes_free b run.0 R run.1) (goes_free c run'.0 R run'.1) (sym (cut_first b (unlines bs) rest) ∙ same ∙ cut_first c (unlines cs) more) in
    let next : run'.0 ≡ run.0 = one_next c run'.0 run.0 R run'.1 (subst (λ (d : List ℕ). Goes R d run.0) cut.0 run.1) in
    let tail = meet bs cs run.0 S U rest more run.2 (subst (λ (X : State). Run X cs U) next run'.2) cut.1 in
    elim tail [
      | inl all ↦ inl (all.0, all.1, λ i. cut.0 i ∷ all.2 i)
      | inr (inl first) ↦ inr (inl first)
      | inr (inr second) ↦ inr (inr second)
    ]

-- what stands behind a text is this line, and more where it is ended
abbrev RestIs : List ℕ → List ℕ → Bool → Type 0
RestIs rest b true = (more : List ℕ) × (rest ≡ b ++ 10 ∷ more)
RestIs rest b false = rest ≡ b

rest_of : (bytes text b : List ℕ) (ended : Bool) → HasLine bytes text b ended → (rest : List ℕ) × (bytes ≡ text ++ rest) × RestIs rest b ended
rest_of bytes text b true has = (b ++ 10 ∷ has.0, has.1 ∙ append_assoc text b (10 ∷ has.0), (has.0, refl))
rest_of bytes text b false has = (b, has, refl)

-- a line without its LF is none that has it
not_both : (l m more : List ℕ) → NoEnd m → m ≡ l ++ 10 ∷ more → ⊥
not_both l m more free is =
    let less : length l < length m = omega (arith, ap length is, length-append l (10 ∷ more)) in
    free (length l) 0 less (ap (λ (x : List ℕ). get_or x (length l) 0) is ∙ get_or_at l 10 more 0 (length l) refl)

-- the line that goes on has no fault
no_fault : (S M : State) (b tail rest l : List ℕ) (ended : Bool) (kind : DocKind) → Goes S b M → rest ≡ b ++ 10 ∷ tail → RestIs rest l ended → NoEnd l → IsFirstKind (place_at S) l ended kind → ⊥
no_fault S M b tail rest l true kind goes here is free first =
    let cut = cut_line b l tail is.0 (goes_free b M S goes) free (sym here ∙ is.1) in
    (fine b M S goes).1 kind (subst (λ (c : List ℕ). HasKind (place_at S) c true kind) (sym cut.0) first.has)
no_fault S M b tail rest l false kind goes here is free first = not_both b l tail free (sym is ∙ here)

same_line : (rest l m : List ℕ) (e f : Bool) → NoEnd l → NoEnd m → RestIs rest l e → RestIs rest m f → (l ≡ m) × (e ≡ f)
same_line rest l m true true free free' is is' = ((cut_line l m is.0 is'.0 free free' (sym is.1 ∙ is'.1)).0, refl)
same_line rest l m false false free free' is is' = (sym is ∙ is', refl)
same_line rest l m true false free free' is is' = absurd (not_both l m is.0 free' (sym is' ∙ is.1))
same_line rest l m false true free free' is is' = absurd (not_both m l is'.0 free (sym is ∙ is'.1))

abbrev kind_at : ℕ → DocKind
kind_at n = if n == 0 then TooLong else if n == 1 then Trailing else if n == 2 then Cut else if n == 3 then BadForm else if n == 4 then BadTree else if n == 5 then BadPoint else BadDepth

kind_back : (k : DocKind) → kind_at (order k) ≡ k
kind_back TooLong = refl
kind_back Trailing = refl
kind_back Cut = refl
kind_back BadForm = refl
kind_back BadTree = refl
kind_back BadPoint = refl
kind_back BadDepth = refl

one_kind : (place : Place) (b : List ℕ) (ended : Bool) (k j : DocKind) → IsFirstKind place b ended k → IsFirstKind place b ended j → k ≡ j
one_kind place b ended k j first first' = elim (cases_order (order k) (order j)) [
  | inl same ↦ sym (kind_back k) ∙ ap kind_at same ∙ kind_back j
  | inr (inl less) ↦ absurd (first'.first k less first.has)
  | inr (inr more) ↦ absurd (first.first j more first'.has)
]

-- A fault, with the lines before it.
module _ (bytes : List ℕ) (f : DocFault) (is : IsFaultAt bytes f) where
  before : ReachesPlace is.text is.place
  before = reaches is.text is.place is.leads

  rest : (rest : List ℕ) × (bytes ≡ is.text ++ rest) × RestIs rest is.line is.ended
  rest = rest_of bytes is.text is.line is.ended is.stands

  whole : bytes ≡ unlines before.1.lines ++ rest.0
  whole = rest.1 ∙ ap (λ (t : List ℕ). t ++ rest.0) before.1.is

  kind_there : IsFirstKind (place_at before.0) is.line is.ended f.kind
  kind_there = subst (λ (place : Place). IsFirstKind place is.line is.ended f.kind) (sym before.2) is.kind

one_fault_at : (bytes : List ℕ) (f g : DocFault) → IsFaultAt bytes f → IsFaultAt bytes g → f ≡ g
one_fault_at bytes f g is is' =
    let mine = before bytes f is in
    let other = before bytes g is' in
    let r = rest bytes f is in
    let r' = rest bytes g is' in
    elim (meet mine.1.lines other.1.lines SVersion mine.0 other.0 r.0 r'.0 mine.1.run other.1.run (sym (whole bytes f is) ∙ whole bytes g is')) [
      | inl all ↦
          let text : is.text ≡ is'.text = mine.1.is ∙ ap unlines all.2 ∙ sym other.1.is in
          let same = same_line r.0 is.line is'.line is.ended is'.ended is.free is'.free r.2 (subst (λ (x : List ℕ). RestIs x is'.line is'.ended) (sym all.1) r'.2) in
          let place : place_at mine.0 ≡ place_at other.0 = ap place_at all.0 in
          let moved_kind : IsFirstKind (place_at mine.0) is.line is.ended g.kind =
          subst (λ (p : Place). IsFirstKind p is.line is.ended g.kind) (sym place)
          (subst (λ (l : List ℕ). IsFirstKind (place_at other.0) l is.ended g.kind) (sym same.0)
          (subst (λ (e : Bool). IsFirstKind (place_at other.0) is'.line e g.kind) (sym same.1) (kind_there bytes g is'))) in
          let kind : f.kind ≡ g.kind = one_kind (place_at mine.0) is.line is.ended f.kind g.kind (kind_there bytes f is) moved_kind in
          let number : f.line ≡ g.line = is.number ∙ ap (λ (t : List ℕ). count_by (λ b. b == 10) t + 1) text ∙ sym is'.number in
          λ i. record { line = number i; kind = kind i }
      | inr (inl first) ↦ absurd (no_fault mine.0 first.1 first.0 first.2 r.0 is.line is.ended f.kind first.3 first.4 r.2 is.free (kind_there bytes f is))
      | inr (inr second) ↦ absurd (no_fault other.0 second.1 second.0 second.2 r'.0 is'.line is'.ended g.kind second.3 second.4 r'.2 is'.free (kind_there bytes g is'))
    ]

-- the head and the lemmas of a certificate
abbrev plan_in : Option Lemmas → Option Plan
plan_in None = None
plan_in (Some L) = Some (record { count = length L.lemmas; corner = L.corner; swaps = L.swaps })

abbrev lemmas_in : Option Lemmas → List Lemma
lemmas_in None = []
lemmas_in (Some L) = L.lemmas

abbrev head_in : Certificate → CertificateHead
head_in C = record { tree = C.tree; sheet = C.sheet; side = C.side; bound = C.bound; points = C.points; floor = C.floor; plan = plan_in C.lemmas }

parted : (o : Option Lemmas) → lemmas_of (plan_in o) (lemmas_in o) ≡ o
parted None = refl
parted (Some L) = refl

is_parted : (C : Certificate) → certificate_of (head_in C) (lemmas_in C.lemmas) ≡ C
is_parted C = λ i. record { tree = C.tree; sheet = C.sheet; side = C.side; bound = C.bound; points = C.points; floor = C.floor; lemmas = parted C.lemmas i }

count_is : (o : Option Lemmas) → length (lemmas_in o) ≡ count_of (plan_in o)
count_is None = refl
count_is (Some L) = refl

plan_of : (o : Option Lemmas) → AreLemmas o → IsPlan (plan_in o)
plan_of None are = tt
plan_of (Some L) are = (are.2, are.0, are.1)

each_of : (o : Option Lemmas) → AreLemmas o → (k : ℕ) (d : Lemma) → k < length (lemmas_in o) → IsLemma (get_or (lemmas_in o) k d)
each_of None are k d less = absurd (omega (arith, less))
each_of (Some L) are k d less = are.3 k d less

module _ (bytes : List ℕ) (C : Certificate) (is : IsTextOf bytes C) where
  head : IsHead (head_in C)
  head = record {
    design = record {
      sheet = is.certificate.sheet;
      points = record { tree = is.certificate.tree; side = is.certificate.side; bound = is.certificate.bound; points = is.certificate.points };
      each = is.certificate.each;
      floor = is.certificate.floor;
    };
    plan = plan_of C.lemmas is.certificate.lemmas;
  }

  reach_whole : Reaches bytes (SBehind (head_in C) (lemmas_in C.lemmas))
  reach_whole =
      let ls = lemmas_in C.lemmas in
      let before = lemmas_part (head_in C) ls in
      let text : bytes ≡ before ++ end_line = is.text ∙ ap certificate_text (sym (is_parted C)) ∙ sym (whole_text (head_in C) ls (count_is C.lemmas)) in
      let leads : LeadsToLemmas before (head_in C) ls = record { is = refl; head = head; each = each_of C.lemmas is.certificate.lemmas } in
      reach_behind (head_in C) bytes before ls text leads (count_is C.lemmas)

abbrev head_of_state : CertificateHead → State → CertificateHead
head_of_state H (SBehind K ls) = K
head_of_state H s = H

abbrev lemmas_of_state : State → List Lemma
lemmas_of_state (SBehind K ls) = ls
lemmas_of_state s = []

unlines_whole : (bytes : List ℕ) (bs : List (List ℕ)) → bytes ≡ unlines bs → bytes ≡ unlines bs ++ []
unlines_whole bytes bs is = is ∙ sym (append-nil (unlines bs))

one_certificate : (bytes : List ℕ) (C E : Certificate) → IsTextOf bytes C → IsTextOf bytes E → C ≡ E
one_certificate bytes C E is is' =
    let a = reach_whole bytes C is in
    let b = reach_whole bytes E is' in
    elim (meet a.lines b.lines SVersion (SBehind (head_in C) (lemmas_in C.lemmas)) (SBehind (head_in E) (lemmas_in E.lemmas)) [] [] a.run b.run (sym (unlines_whole bytes a.lines a.is) ∙ unlines_whole bytes b.lines b.is)) [
      | inl all ↦
          let head : head_in C ≡ head_in E = ap (head_of_state (head_in C)) all.0 in
          let lemmas : lemmas_in C.lemmas ≡ lemmas_in E.lemmas = ap lemmas_of_state all.0 in
          sym (is_parted C) ∙ (λ i. certificate_of (head i) (lemmas i)) ∙ is_parted E
      | inr (inl first) ↦ absurd first.3
      | inr (inr second) ↦ absurd second.3
    ]

empty_rest : (l : List ℕ) (ended : Bool) → RestIs [] l ended → (l ≡ []) × (ended ≡ false)
empty_rest l true is = absurd (omega (arith, ap length is.1, length-append l (10 ∷ is.0)))
empty_rest l false is = (sym is, refl)

no_fault_of_certificate : (bytes : List ℕ) (C : Certificate) (f : DocFault) → IsTextOf bytes C → IsFaultAt bytes f → ⊥
no_fault_of_certificate bytes C f is at =
    let a = reach_whole bytes C is in
    let b = before bytes f at in
    let r = rest bytes f at in
    elim (meet a.lines b.1.lines SVersion (SBehind (head_in C) (lemmas_in C.lemmas)) b.0 [] r.0 a.run b.1.run (sym (unlines_whole bytes a.lines a.is) ∙ whole bytes f at)) [
      | inl all ↦
          let none = empty_rest at.line at.ended (subst (λ (x : List ℕ). RestIs x at.line at.ended) (sym all.1) r.2) in
          let place : at.place ≡ Behind = sym b.2 ∙ ap place_at (sym all.0) in
          at.wanted (place, none.0, none.1)
      | inr (inl first) ↦ first.3
      | inr (inr second) ↦ no_fault b.0 second.1 second.0 second.2 r.0 at.line at.ended f.kind second.3 second.4 r.2 at.free (kind_there bytes f at)
    ]

pub has_one_answer : (bytes : List ℕ) → HasOneAnswer bytes
has_one_answer bytes = record {
  certificate = one_certificate bytes;
  either = λ C f is fault. elim fault [
    | inl long ↦ omega (arith, long.0, is.short)
    | inr at ↦ no_fault_of_certificate bytes C f is at
  ];
  fault = one_fault;
}
  where
    one_fault : (f g : DocFault) → IsCertificateFault bytes f → IsCertificateFault bytes g → f ≡ g
    one_fault f g (inl long) (inl long') = long.1 ∙ sym long'.1
    one_fault f g (inl long) (inr at) = absurd (omega (arith, long.0, at.short))
    one_fault f g (inr at) (inl long) = absurd (omega (arith, long.0, at.short))
    one_fault f g (inr at) (inr at') = one_fault_at bytes f g at at'
