-- A line before the nodes has the form that its words say.
use Rattle.std.proofs.Common.{◌≡◌, ℕ, ◌==◌, true, false, List, [], ◌∷◌, get_or, map, All, decimal, Option, None, Some, MatchOption, refl, arith}
use Rattle.std.specs.Prelude.{codes}
use Rattle.std.proofs.lemmas.Bool.Decides.{nat_tests}
use Rattle.std.proofs.lemmas.List.Elements.{All-cons, All-nil}
use Rattle.bp_base.specs.declared.point.Floor.{Floor}
use Rattle.bp_base.specs.declared.point.Sheet.{Sheet}
use Rattle.bp_base.specs.declared.point.Sheet.TheVariants.{Square, Strip}
use Rattle.bp_base.specs.Limits.{most_number}
use Rattle.bp_base.specs.Name.{IsName, is_name_byte}
use Rattle.bp_tree.specs.declared.edge.Edge.{Edge}
use Rattle.bp_document.specs.declared.form.FloorForm.{FloorForm}
use Rattle.bp_document.specs.declared.form.PointForm.{PointForm}
use Rattle.bp_document.specs.Words.{words}
use Rattle.bp_document.specs.Forms.{IsSheetLine, IsField, IsEdgeForm, IsPointForm, IsFloorForm, IsProofForm}
use Rattle.bp_document.specs.FormWords.{ReadsField, ReadsSheet, ReadsEdgeForm, ReadsPointForm, ReadsFloorForm, ReadsProofForm, sheet_words, proof_words}
use Rattle.bp_document.proofs.NodeLines.{IsWord, spelled_word, number_word, number_words, line_of_words, words_of_line}

no_space : (b : ℕ) → is_name_byte b ≡ true → (b == 32) ≡ false
no_space b named = grind (arith, nat_tests)

pub name_word : (w : List ℕ) → IsName w → IsWord w
name_word w is = λ k d less. no_space (get_or w k d) (is.spelled k d less)

pub one : (v : List ℕ) → IsWord v → All IsWord (v ∷ [])
one v is = All-cons IsWord v [] is (All-nil IsWord)

pub more : (v : List ℕ) (vs : List (List ℕ)) → IsWord v → All IsWord vs → All IsWord (v ∷ vs)
more v vs is rest = All-cons IsWord v vs is rest

module _ (bytes : List ℕ) where
  pub edge_exact : (r : Option Edge) → ReadsEdgeForm (words bytes) r → MatchOption r ((e : Edge) → IsEdgeForm bytes e → ⊥) (λ e. IsEdgeForm bytes e)
  edge_exact None reads = λ e is. reads e is.upper is.lower is.small
      (words_of_line bytes (codes "edge") (e.upper ∷ e.lower ∷ decimal e.length ∷ []) (spelled_word (codes "edge") refl)
      (more e.upper (e.lower ∷ decimal e.length ∷ []) (name_word e.upper is.upper) (more e.lower (decimal e.length ∷ []) (name_word e.lower is.lower) (one (decimal e.length) (number_word e.length is.small)))) is.text)
  edge_exact (Some e) reads =
      record {
        text = line_of_words bytes (codes "edge") (e.upper ∷ e.lower ∷ decimal e.length ∷ []) reads.3;
        upper = reads.0;
        lower = reads.1;
        small = reads.2;
      }

  pub point_exact : (r : Option PointForm) → ReadsPointForm (words bytes) r → MatchOption r ((f : PointForm) → IsPointForm bytes f.name f.point → ⊥) (λ f. IsPointForm bytes f.name f.point)
  point_exact None reads = λ f is. reads f is.name_spelled is.small
      (words_of_line bytes (codes "point") (f.name ∷ decimal f.point.x ∷ decimal f.point.y ∷ []) (spelled_word (codes "point") refl)
      (more f.name (decimal f.point.x ∷ decimal f.point.y ∷ []) (name_word f.name is.name_spelled) (more (decimal f.point.x) (decimal f.point.y ∷ []) (number_word f.point.x is.small.0) (one (decimal f.point.y) (number_word f.point.y is.small.1)))) is.text)
  point_exact (Some f) reads =
      record { text = line_of_words bytes (codes "point") (f.name ∷ decimal f.point.x ∷ decimal f.point.y ∷ []) reads.2; name_spelled = reads.0; small = reads.1 }

  pub sheet_exact : (r : Option Sheet) → ReadsSheet (words bytes) r → MatchOption r ((G : Sheet) → IsSheetLine bytes G → ⊥) (λ G. IsSheetLine bytes G)
  sheet_exact None reads = λ G is. reads G is.sheet (no_sheet G is)
    where
      no_sheet : (G : Sheet) → IsSheetLine bytes G → words bytes ≡ codes "sheet" ∷ sheet_words G
      no_sheet Square is = words_of_line bytes (codes "sheet") (codes "square" ∷ []) (spelled_word (codes "sheet") refl) (one (codes "square") (spelled_word (codes "square") refl)) is.text
      no_sheet (Strip width) is =
          words_of_line bytes (codes "sheet") (codes "strip" ∷ decimal width ∷ []) (spelled_word (codes "sheet") refl)
          (more (codes "strip") (decimal width ∷ []) (spelled_word (codes "strip") refl) (one (decimal width) (number_word width (omega (arith, is.sheet))))) is.text
  sheet_exact (Some Square) reads = record { text = line_of_words bytes (codes "sheet") (codes "square" ∷ []) reads.1; sheet = reads.0 }
  sheet_exact (Some (Strip width)) reads = record { text = line_of_words bytes (codes "sheet") (codes "strip" ∷ decimal width ∷ []) reads.1; sheet = reads.0 }

  pub proof_exact : (r : Option (Option ℕ)) → ReadsProofForm (words bytes) r → MatchOption r ((c : Option ℕ) → IsProofForm bytes c → ⊥) (λ c. IsProofForm bytes c)
  proof_exact None reads = λ c is. reads c is.range (no_proof c is)
    where
      no_proof : (c : Option ℕ) → IsProofForm bytes c → words bytes ≡ proof_words c
      no_proof None is = words_of_line bytes (codes "proof") (codes "none" ∷ []) (spelled_word (codes "proof") refl) (one (codes "none") (spelled_word (codes "none") refl)) is.text
      no_proof (Some count) is = words_of_line bytes (codes "proof") (decimal count ∷ []) (spelled_word (codes "proof") refl) (one (decimal count) (number_word count (omega (arith, is.range.1)))) is.text
  proof_exact (Some None) reads = record { text = line_of_words bytes (codes "proof") (codes "none" ∷ []) reads.1; range = reads.0 }
  proof_exact (Some (Some count)) reads = record { text = line_of_words bytes (codes "proof") (decimal count ∷ []) reads.1; range = reads.0 }

  -- the floor of the parts of its line
  pub floor_exact : (r : Option FloorForm) → ReadsFloorForm (words bytes) r → MatchOption r ((f : Floor) → IsFloorForm bytes f → ⊥) (λ f. IsFloorForm bytes (record { m = f.m; leaves = f.leaves; side = f.side }))
  floor_exact None reads = λ f is. reads (record { m = f.m; side = f.side; leaves = f.leaves }) is.small.m is.small.side is.small.leaves
      (words_of_line bytes (codes "floor") (decimal f.m ∷ decimal f.side ∷ map decimal f.leaves) (spelled_word (codes "floor") refl)
      (more (decimal f.m) (decimal f.side ∷ map decimal f.leaves) (number_word f.m is.small.m) (more (decimal f.side) (map decimal f.leaves) (number_word f.side is.small.side) (number_words f.leaves is.small.leaves.small))) is.text)
  floor_exact (Some f) reads =
      record {
        text = line_of_words bytes (codes "floor") (decimal f.m ∷ decimal f.side ∷ map decimal f.leaves) reads.3;
        small = record { m = reads.0; side = reads.1; leaves = reads.2 };
      }

  module _ (keyword : List ℕ) (spelled : IsWord keyword) where
    pub field_exact : (r : Option ℕ) → ReadsField keyword 0 most_number (words bytes) r → MatchOption r ((n : ℕ) → IsField keyword bytes n → ⊥) (λ n. IsField keyword bytes n)
    field_exact None reads = λ n is. reads n (omega arith) is.small (words_of_line bytes keyword (decimal n ∷ []) spelled (one (decimal n) (number_word n is.small)) is.text)
    field_exact (Some n) reads = record { text = line_of_words bytes keyword (decimal n ∷ []) reads.2; small = reads.1 }
