-- What the words of a command line ask for. The first word is the command; options are pairs of a name and a value, in any order.
use Rattle.std.specs.Prelude.{◌≡◌, ◌≢◌, ◌⊎◌, ℕ, ◌+◌, ◌*◌, ◌<◌, ◌≤◌, List, [], ◌∷◌, length, slice_index, slice_index_or, Contains, decimal, codes, Option, None, Some}
use Rattle.bp_base.specs.Limits.{most_budget, most_hands, most_width}
use Rattle.bp_words.specs.declared.ranges.TheConstants.{MOST_SEED, MOST_STEADY, USUAL_HANDS, USUAL_BUDGET, MOST_SOLVE_BUDGET, USUAL_SOLVE_BUDGET, LEAST_MADE, MOST_MADE}
use Rattle.bp_words.specs.declared.words.MirrorKind.{MirrorKind}
use Rattle.bp_words.specs.declared.words.MirrorKind.TheVariants.{Book, Diagonal}
use Rattle.bp_words.specs.declared.words.Words.{Words}
use Rattle.bp_words.specs.declared.words.Words.TheVariants.{Design, Check, Contours, Made, Trial, Rewrite, Revise, Pieces, Solve, Verify, Picture, Help, Version}

abbrev pub word_at : List (List ℕ) → ℕ → List ℕ
word_at words k = slice_index_or words k []

-- the words after the command are pairs of one of these names and a value, no name twice
pub record AreOptions (names words : List (List ℕ)) : Type 0 where
  pub pairs : ℕ
  pub each : length words ≡ 1 + 2 * pairs
  pub known : (k : ℕ) → k < pairs → Contains names (word_at words (1 + 2 * k))
  pub once : (k l : ℕ) → k < l → l < pairs → word_at words (1 + 2 * k) ≢ word_at words (1 + 2 * l)

-- the value of the option of this name stands at this place
pub record IsGiven (name : List ℕ) (words : List (List ℕ)) (place : ℕ) : Type 0 where
  pub k : ℕ
  pub within : 2 + 2 * k < length words
  pub named : word_at words (1 + 2 * k) ≡ name
  pub behind : place ≡ 2 + 2 * k

abbrev pub IsNotGiven : List ℕ → List (List ℕ) → Type 0
IsNotGiven name words = (place : ℕ) → IsGiven name words place → ⊥

-- the word is the canonical decimal of n, which is from low to high
abbrev pub IsNumberIn : ℕ → ℕ → List ℕ → ℕ → Type 0
IsNumberIn low high word n = (word ≡ decimal n) × (low ≤ n) × (n ≤ high)

-- the option is given with the number n, from low to high
abbrev pub HasNumber : List ℕ → ℕ → ℕ → List (List ℕ) → ℕ → Type 0
HasNumber name low high words n = (place : ℕ) × IsGiven name words place × IsNumberIn low high (word_at words place) n

-- it is given with n, or it isn't given and n is the default
abbrev pub HasDefault : List ℕ → ℕ → ℕ → ℕ → List (List ℕ) → ℕ → Type 0
HasDefault name low high default words n = HasNumber name low high words n ⊎ (IsNotGiven name words × (n ≡ default))

abbrev pub HasOptional : List ℕ → ℕ → ℕ → List (List ℕ) → Option ℕ → Type 0
HasOptional name low high words None = IsNotGiven name words
HasOptional name low high words (Some n) = HasNumber name low high words n

-- a file's name isn't empty and doesn't begin with `-`
abbrev pub IsFile : List ℕ → Type 0
IsFile word = (1 ≤ length word) × (slice_index word 0 ≢ 45)

-- the place of the word that names a file, where the option is given
abbrev pub HasFile : List ℕ → List (List ℕ) → Option ℕ → Type 0
HasFile name words None = IsNotGiven name words
HasFile name words (Some place) = IsGiven name words place × IsFile (word_at words place)

abbrev pub mirror_word : MirrorKind → List ℕ
mirror_word Book = codes "book"
mirror_word Diagonal = codes "diagonal"

abbrev pub HasMirror : List (List ℕ) → Option MirrorKind → Type 0
HasMirror words None = IsNotGiven (codes "--mirror") words
HasMirror words (Some kind) = (place : ℕ) × IsGiven (codes "--mirror") words place × (word_at words place ≡ mirror_word kind)

-- Ranges and defaults. Each is written once, as a constant of the code.
abbrev pub most_seed : ℕ
most_seed = MOST_SEED

-- the questions of a steady answer
abbrev pub most_steady : ℕ
most_steady = MOST_STEADY

-- the hands and the budget of a search where the words give none
abbrev pub usual_hands : ℕ
usual_hands = USUAL_HANDS

abbrev pub usual_budget : ℕ
usual_budget = USUAL_BUDGET

-- the budget of `solve`
abbrev pub most_solve_budget : ℕ
most_solve_budget = MOST_SOLVE_BUDGET

abbrev pub usual_solve_budget : ℕ
usual_solve_budget = USUAL_SOLVE_BUDGET

-- the leaves of a made tree
abbrev pub least_made : ℕ
least_made = LEAST_MADE

abbrev pub most_made : ℕ
most_made = MOST_MADE

abbrev pub design_names : List (List ℕ)
design_names =
    codes "--workers" ∷ codes "--budget" ∷ codes "--replay" ∷ codes "--fold" ∷ codes "--strip" ∷ codes "--steady" ∷ []

abbrev pub revise_names : List (List ℕ)
revise_names = codes "--tree" ∷ codes "--budget" ∷ []

abbrev pub solve_names : List (List ℕ)
solve_names = codes "--budget" ∷ codes "--strip" ∷ codes "--fold" ∷ codes "--mirror" ∷ []

-- no option stands at two places
abbrev pub AreUnique : List (List ℕ) → Type 0
AreUnique words = (name : List ℕ) (p r : ℕ) → IsGiven name words p → IsGiven name words r → p ≡ r

-- at most one of the two is given
abbrev pub AreApart : {A B : Type 0} → Option A → Option B → Type 0
AreApart None other = Unit {0}
AreApart (Some a) None = Unit {0}
AreApart (Some a) (Some b) = ⊥

pub record AsksDesign (words : List (List ℕ)) (workers budget : ℕ) (replay fold strip steady : Option ℕ) : Type 0 where
  pub command : word_at words 0 ≡ codes "design"
  pub options : AreOptions design_names words
  pub has_workers : HasDefault (codes "--workers") 1 most_hands usual_hands words workers
  pub has_budget : HasDefault (codes "--budget") 1 most_budget usual_budget words budget
  pub has_replay : HasOptional (codes "--replay") 0 most_seed words replay
  pub has_fold : HasFile (codes "--fold") words fold
  pub has_strip : HasOptional (codes "--strip") 0 most_width words strip
  pub has_steady : HasOptional (codes "--steady") 1 most_steady words steady
  -- strips have no FOLD text
  pub apart : AreApart fold strip

-- the command and the file of a tree
pub record AsksFile (name : List ℕ) (words : List (List ℕ)) (tree : ℕ) : Type 0 where
  pub each : length words ≡ 3
  pub command : word_at words 0 ≡ name
  pub option : word_at words 1 ≡ codes "--tree"
  pub file : IsFile (word_at words 2)
  pub place : tree ≡ 2

pub record AsksRevise (words : List (List ℕ)) (tree budget : ℕ) : Type 0 where
  pub command : word_at words 0 ≡ codes "revise"
  pub options : AreOptions revise_names words
  pub has_tree : HasFile (codes "--tree") words (Some tree)
  pub has_budget : HasDefault (codes "--budget") 1 most_budget usual_budget words budget

pub record AsksSolve (words : List (List ℕ)) (budget : ℕ) (strip fold : Option ℕ) (mirror : Option MirrorKind) : Type 0 where
  pub command : word_at words 0 ≡ codes "solve"
  pub options : AreOptions solve_names words
  pub has_budget : HasDefault (codes "--budget") 1 most_solve_budget usual_solve_budget words budget
  pub has_strip : HasOptional (codes "--strip") 0 most_width words strip
  pub has_fold : HasFile (codes "--fold") words fold
  pub has_mirror : HasMirror words mirror
  -- strips have no FOLD text and no mirror
  pub no_fold : AreApart fold strip
  pub no_mirror : AreApart mirror strip

-- the command, a number of leaves and a seed
pub record AsksMade (name : List ℕ) (words : List (List ℕ)) (leaves seed : ℕ) : Type 0 where
  pub each : length words ≡ 3
  pub command : word_at words 0 ≡ name
  pub has_leaves : IsNumberIn least_made most_made (word_at words 1) leaves
  pub has_seed : IsNumberIn 0 most_seed (word_at words 2) seed

-- the words ask for this
abbrev pub IsWords : List (List ℕ) → Words → Type 0
IsWords words (Design workers budget replay fold strip steady) = AsksDesign words workers budget replay fold strip steady
IsWords words (Check tree) = AsksFile (codes "check") words tree
IsWords words Contours = words ≡ codes "contours" ∷ []
IsWords words (Made leaves seed) = AsksMade (codes "made") words leaves seed
IsWords words (Trial leaves seed) = AsksMade (codes "trial") words leaves seed
IsWords words Rewrite = words ≡ codes "rewrite" ∷ []
IsWords words (Revise tree budget) = AsksRevise words tree budget
IsWords words Pieces = words ≡ codes "pieces" ∷ []
IsWords words (Solve budget strip fold mirror) = AsksSolve words budget strip fold mirror
IsWords words (Verify tree) = AsksFile (codes "verify") words tree
IsWords words Picture = words ≡ codes "picture" ∷ []
IsWords words Help = (words ≡ codes "help" ∷ []) ⊎ (words ≡ codes "--help" ∷ [])
IsWords words Version = (words ≡ codes "version" ∷ []) ⊎ (words ≡ codes "--version" ∷ [])

-- what reading the words answers: what they ask for, or none exactly where they ask for nothing
abbrev pub ReadsWords : List (List ℕ) → Option Words → Type 0
ReadsWords words None = (w : Words) → IsWords words w → ⊥
ReadsWords words (Some w) = IsWords words w

-- the command of this word has no further words
abbrev pub IsAlone : List ℕ → Words → Type 0
IsAlone word Contours = word ≡ codes "contours"
IsAlone word Rewrite = word ≡ codes "rewrite"
IsAlone word Pieces = word ≡ codes "pieces"
IsAlone word Picture = word ≡ codes "picture"
IsAlone word Help = (word ≡ codes "help") ⊎ (word ≡ codes "--help")
IsAlone word Version = (word ≡ codes "version") ⊎ (word ≡ codes "--version")
IsAlone word asked = ⊥
