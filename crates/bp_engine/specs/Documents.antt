-- What `rewrite`, `contours`, `pieces` and `picture` read and write.
use Rattle.std.specs.Prelude.{◌≡◌, ◌⊎◌, ℕ, ◌+◌, List, [], ◌∷◌, ◌++◌, length, codes, decimal}
use Rattle.std.specs.List.{flat_map}
use Rattle.std.specs.declared.option.Option.{Option}
use Rattle.bp_base.specs.declared.point.Piece.{Piece}
use Rattle.bp_base.specs.declared.point.Point.{Point}
use Rattle.bp_base.specs.declared.point.Report.{Report}
use Rattle.bp_base.specs.declared.point.Sheet.{Sheet}
use Rattle.bp_base.specs.declared.point.Sheet.TheVariants.{Square, Strip}
use Rattle.bp_base.specs.Causes.{Appends, AppendsFront}
use Rattle.bp_base.specs.Tree.{TreeValue, name_of, node_count}
use Rattle.bp_document.specs.declared.document.Document.{Document}
use Rattle.bp_document.specs.Text.{doc_text}
use Rattle.bp_check.specs.declared.verdict.Reason.{Reason}
use Rattle.bp_check.specs.declared.verdict.Reason.TheVariants.{TreeDiffers, Outside, TooNear, BadFloor, BadSplit, BadChain, BoundNotShown, StripSheet}
use Rattle.bp_check.specs.Checks.{Checks}
use Rattle.bp_check.specs.Reasons.{IsFirstReason}
use Rattle.bp_regions.specs.Cells.{Reach}
use Rattle.bp_regions.specs.Contours.{AreContours}
use Rattle.bp_pieces.specs.Pieces.{IsReport}
use Rattle.bp_picture.specs.Pictures.{IsPicture}
use Rattle.bp_engine.specs.declared.drawing.Drawing.{Drawing}
use Rattle.bp_engine.specs.declared.drawing.Drawing.TheVariants.{Loops, Parts, Layout}
use Rattle.bp_engine.specs.declared.status.Status.{Status}
use Rattle.bp_engine.specs.declared.status.Status.TheVariants.{Done, WriteFault, NoMemory, No}
use Rattle.bp_engine.specs.Reading.{ReadsDoc, ReadsNoDoc}

-- What a command has written that answers by a status and a text, before and after on the sink: the whole text with its status, or a front of
-- it and a fault of writing, or nothing for want of memory. `Answers status text` says which answer it is.
abbrev pub Writes : (Status → List ℕ → Type 0) → Option (List ℕ) → Option (List ℕ) → Status → Type 0
Writes Answers held now status =
    ((text : List ℕ) × Answers status text × Appends held now text)
    ⊎ (((status ≡ WriteFault) × ((meant : Status) × (text : List ℕ) × Answers meant text × AppendsFront held now text))
    ⊎ ((status ≡ NoMemory) × (now ≡ held)))

-- What such a command has read and written: what was left of the source before and after, what the sink held before and after. Either no document
-- came, or it was answered.
abbrev pub Handles : (Document → Status → List ℕ → Type 0) → Option (List ℕ) → Option (List ℕ) → Option (List ℕ) → Option (List ℕ) → Status → Type 0
Handles Answers left after held now status =
    (ReadsNoDoc left after status × (now ≡ held))
    ⊎ ((D : Document) × ReadsDoc left after D × Writes (Answers D) held now status)

-- `rewrite` answers each document by its text in version 2
abbrev pub IsRewritten : Document → Status → List ℕ → Type 0
IsRewritten D status text = (status ≡ Done) × (text ≡ doc_text D)

abbrev pub Rewrites : Option (List ℕ) → Option (List ℕ) → Option (List ℕ) → Option (List ℕ) → Status → Type 0
Rewrites left after held now status = Handles IsRewritten left after held now status

-- a line with the coordinates of the turning points
abbrev pub point_words : Point → List ℕ
point_words p = 32 ∷ decimal p.x ++ 32 ∷ decimal p.y

unfoldable pub loop_line : List Point → List ℕ
loop_line points = codes "loop" ++ flat_map point_words points ++ 10 ∷ []

-- a line with the name of the lower node, and the edge's loops
unfoldable pub edge_text : List ℕ → List (List Point) → List ℕ
edge_text name loops = codes "edge " ++ name ++ 10 ∷ flat_map loop_line loops

-- the line of a part: the word, its least cell by (y, x) and its number of cells
unfoldable pub part_line : List ℕ → Piece → List ℕ
part_line word p = word ++ point_words p.at ++ 32 ∷ decimal p.area ++ 10 ∷ []

-- a line with the name of the lower node, then the edge's pieces and its holes
unfoldable pub report_text : List ℕ → Report → List ℕ
report_text name r = codes "edge " ++ name ++ 10 ∷ flat_map (part_line (codes "piece")) r.pieces ++ flat_map (part_line (codes "hole")) r.holes

-- the texts of the edges from e on, by what is listed of each
abbrev pub edge_texts : {X : Type 0} → (List ℕ → X → List ℕ) → TreeValue → ℕ → List X → List ℕ
edge_texts Line T e [] = []
edge_texts Line T e (x ∷ listed) = Line (name_of T e) x ++ edge_texts Line T (e + 1) listed

-- what is listed is so of the edges from e on, in order
abbrev pub AreOfEdges : {X : Type 0} → (ℕ → X → Type 0) → ℕ → List X → Type 0
AreOfEdges Is e [] = Unit {0}
AreOfEdges Is e (x ∷ listed) = Is e x × AreOfEdges Is (e + 1) listed

-- The text begins with the head and ends with `end`, and between them has all edges of the tree in their order, each by what is so of it.
pub record IsEdgesText {X : Type 0} (head : List ℕ) (Line : List ℕ → X → List ℕ) (T : TreeValue) (Is : ℕ → X → Type 0) (text : List ℕ) : Type 0 where
  pub listed : List X
  pub each : length listed + 1 ≡ node_count T
  pub so : AreOfEdges Is 1 listed
  pub text_is : text ≡ head ++ edge_texts Line T 1 listed ++ codes "end\n"

-- the contour text of a placement at this side
abbrev pub IsContourText : TreeValue → ℕ → List Point → List ℕ → Type 0
IsContourText T S P text = IsEdgesText (codes "contours 1\n") edge_text T (λ e loops. AreContours (Reach T S P e) loops) text

-- the text of its pieces and holes
abbrev pub IsPieceText : TreeValue → ℕ → List Point → List ℕ → Type 0
IsPieceText T S P text = IsEdgesText (codes "pieces 1\n") report_text T (λ e r. IsReport (Reach T S P e) S r) text

abbrev pub reason_text : Reason → List ℕ
reason_text TreeDiffers = codes "TreeDiffers"
reason_text (Outside i) = codes "Outside " ++ decimal i
reason_text (TooNear i j) = codes "TooNear " ++ decimal i ++ 32 ∷ decimal j
reason_text BadFloor = codes "BadFloor"
reason_text (BadSplit node) = codes "BadSplit " ++ decimal node
reason_text (BadChain node) = codes "BadChain " ++ decimal node
reason_text BoundNotShown = codes "BoundNotShown"
reason_text StripSheet = codes "StripSheet"

unfoldable pub no_text : Reason → List ℕ
no_text reason = codes "no " ++ reason_text reason ++ 10 ∷ []

-- Why nothing is drawn: the sheet is a strip; or, on a square, the first reason against the document's own tree.
abbrev pub IsReasonOn : Sheet → Document → Reason → Type 0
IsReasonOn Square D reason = IsFirstReason D.tree D reason
IsReasonOn (Strip width) D reason = reason ≡ StripSheet

-- what is drawn of a tree, a side with a bound, and points: contours, pieces and holes, or a picture
abbrev pub IsDrawing : Drawing → TreeValue → ℕ → ℕ → List Point → List ℕ → Type 0
IsDrawing Loops T S bound P text = IsContourText T S P text
IsDrawing Parts T S bound P text = IsPieceText T S P text
IsDrawing Layout T S bound P text = IsPicture (record { tree = T; side = S; points = P }) bound text

-- `contours`, `pieces` and `picture` answer a square's document that checks against its own tree by its drawing, and each other by the reason
abbrev pub IsDrawn : Drawing → Document → Status → List ℕ → Type 0
IsDrawn drawing D Done text = (D.sheet ≡ Square) × Checks D.tree D × IsDrawing drawing D.tree D.side D.bound D.points text
IsDrawn drawing D (No reason) text = IsReasonOn D.sheet D reason × (text ≡ no_text reason)
IsDrawn drawing D status text = ⊥
