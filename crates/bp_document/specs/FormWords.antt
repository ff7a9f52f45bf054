-- The words of a document's lines before its nodes.
use Rattle.std.specs.Prelude.{◌≡◌, ℕ, ◌≤◌, List, [], ◌∷◌, map, decimal, codes, Option, None, Some}
use Rattle.bp_base.specs.declared.point.Sheet.{Sheet}
use Rattle.bp_base.specs.declared.point.Sheet.TheVariants.{Square, Strip}
use Rattle.bp_base.specs.Limits.{most_number}
use Rattle.bp_base.specs.Chain.{IsChainList}
use Rattle.bp_base.specs.Name.{IsName}
use Rattle.bp_metric.specs.Metric.{IsSheet}
use Rattle.bp_tree.specs.declared.edge.Edge.{Edge}
use Rattle.bp_document.specs.declared.form.FloorForm.{FloorForm}
use Rattle.bp_document.specs.declared.form.PointForm.{PointForm}
use Rattle.bp_document.specs.Forms.{IsProofCount}
use Rattle.bp_base.specs.Point.{IsSmallPoint}

-- What reading words answers, each time exactly.
abbrev pub ReadsNumber : ℕ → ℕ → List ℕ → Option ℕ → Type 0
ReadsNumber least most w None = (n : ℕ) → least ≤ n → n ≤ most → w ≡ decimal n → ⊥
ReadsNumber least most w (Some n) = (least ≤ n) × (n ≤ most) × (w ≡ decimal n)

abbrev pub ReadsField : List ℕ → ℕ → ℕ → List (List ℕ) → Option ℕ → Type 0
ReadsField keyword least most ws None = (n : ℕ) → least ≤ n → n ≤ most → ws ≡ keyword ∷ decimal n ∷ [] → ⊥
ReadsField keyword least most ws (Some n) = (least ≤ n) × (n ≤ most) × (ws ≡ keyword ∷ decimal n ∷ [])

abbrev pub sheet_words : Sheet → List (List ℕ)
sheet_words Square = codes "square" ∷ []
sheet_words (Strip width) = codes "strip" ∷ decimal width ∷ []

-- the words behind `sheet`
abbrev pub ReadsSheetWords : List (List ℕ) → Option Sheet → Type 0
ReadsSheetWords ws None = (G : Sheet) → IsSheet G → ws ≡ sheet_words G → ⊥
ReadsSheetWords ws (Some G) = IsSheet G × (ws ≡ sheet_words G)

abbrev pub ReadsSheet : List (List ℕ) → Option Sheet → Type 0
ReadsSheet ws None = (G : Sheet) → IsSheet G → ws ≡ codes "sheet" ∷ sheet_words G → ⊥
ReadsSheet ws (Some G) = IsSheet G × (ws ≡ codes "sheet" ∷ sheet_words G)

abbrev pub form_of_edge : Edge → List (List ℕ)
form_of_edge e = codes "edge" ∷ e.upper ∷ e.lower ∷ decimal e.length ∷ []

abbrev pub ReadsEdgeForm : List (List ℕ) → Option Edge → Type 0
ReadsEdgeForm ws None = (e : Edge) → IsName e.upper → IsName e.lower → e.length ≤ most_number → ws ≡ form_of_edge e → ⊥
ReadsEdgeForm ws (Some e) = IsName e.upper × IsName e.lower × (e.length ≤ most_number) × (ws ≡ form_of_edge e)

abbrev pub form_of_point : PointForm → List (List ℕ)
form_of_point f = codes "point" ∷ f.name ∷ decimal f.point.x ∷ decimal f.point.y ∷ []

abbrev pub ReadsPointForm : List (List ℕ) → Option PointForm → Type 0
ReadsPointForm ws None = (f : PointForm) → IsName f.name → IsSmallPoint f.point → ws ≡ form_of_point f → ⊥
ReadsPointForm ws (Some f) = IsName f.name × IsSmallPoint f.point × (ws ≡ form_of_point f)

abbrev pub form_of_floor : FloorForm → List (List ℕ)
form_of_floor f = codes "floor" ∷ decimal f.m ∷ decimal f.side ∷ map decimal f.leaves

abbrev pub ReadsFloorForm : List (List ℕ) → Option FloorForm → Type 0
ReadsFloorForm ws None = (f : FloorForm) → f.m ≤ most_number → f.side ≤ most_number → IsChainList f.leaves → ws ≡ form_of_floor f → ⊥
ReadsFloorForm ws (Some f) = (f.m ≤ most_number) × (f.side ≤ most_number) × IsChainList f.leaves × (ws ≡ form_of_floor f)

abbrev pub proof_words : Option ℕ → List (List ℕ)
proof_words None = codes "proof" ∷ codes "none" ∷ []
proof_words (Some count) = codes "proof" ∷ decimal count ∷ []

abbrev pub ReadsProofForm : List (List ℕ) → Option (Option ℕ) → Type 0
ReadsProofForm ws None = (count : Option ℕ) → IsProofCount count → ws ≡ proof_words count → ⊥
ReadsProofForm ws (Some count) = IsProofCount count × (ws ≡ proof_words count)
