-- Words that ask for one command ask for nothing else.
use Rattle.std.proofs.Common.{◌≡◌, ◌⊎◌, inl, inr, ℕ, List, [], ◌∷◌, codes, true, false, length, Option, None, Some, is_some, sym, ◌∙◌, ap, subst, arith, refl}
use Rattle.std.specs.Str.{bytes_eq}
use Rattle.bp_base.specs.Limits.{most_width}
use Rattle.std.proofs.lemmas.Slice.Eq.{bytes_eq-Decides}
use Rattle.bp_words.specs.declared.words.MirrorKind.{MirrorKind}
use Rattle.bp_words.specs.declared.words.MirrorKind.TheVariants.{Book, Diagonal}
use Rattle.bp_words.specs.declared.words.Words.{Words}
use Rattle.bp_words.specs.declared.words.Words.TheVariants.{Design, Check, Contours, Made, Trial, Rewrite, Revise, Pieces, Solve, Verify, Picture, Help, Version}
use Rattle.bp_words.specs.Words.{AreApart, AreUnique, AsksDesign, AsksMade, AsksRevise, AsksSolve, HasFile, HasMirror, HasOptional, IsAlone, IsGiven, IsWords, mirror_word, word_at}
use Rattle.bp_words.proofs.OptionLemmas.{same_number, unique_options, one_default, one_optional, one_file}

-- the command's first word, or its other one
abbrev first_of : Words → List ℕ
first_of (Design workers budget replay fold strip steady) = codes "design"
first_of (Check tree) = codes "check"
first_of Contours = codes "contours"
first_of (Made leaves seed) = codes "made"
first_of (Trial leaves seed) = codes "trial"
first_of Rewrite = codes "rewrite"
first_of (Revise tree budget) = codes "revise"
first_of Pieces = codes "pieces"
first_of (Solve budget strip fold mirror) = codes "solve"
first_of (Verify tree) = codes "verify"
first_of Picture = codes "picture"
first_of Help = codes "help"
first_of Version = codes "version"

abbrev other_of : Words → List ℕ
other_of Help = codes "--help"
other_of Version = codes "--version"
other_of w = first_of w

begins : (words : List (List ℕ)) (w : Words) → IsWords words w → (word_at words 0 ≡ first_of w) ⊎ (word_at words 0 ≡ other_of w)
begins words (Design workers budget replay fold strip steady) is = inl is.command
begins words (Check tree) is = inl is.command
begins words Contours is = inl (ap (λ (ws : List (List ℕ)). word_at ws 0) is)
begins words (Made leaves seed) is = inl is.command
begins words (Trial leaves seed) is = inl is.command
begins words Rewrite is = inl (ap (λ (ws : List (List ℕ)). word_at ws 0) is)
begins words (Revise tree budget) is = inl is.command
begins words Pieces is = inl (ap (λ (ws : List (List ℕ)). word_at ws 0) is)
begins words (Solve budget strip fold mirror) is = inl is.command
begins words (Verify tree) is = inl is.command
begins words Picture is = inl (ap (λ (ws : List (List ℕ)). word_at ws 0) is)
begins words Help (inl is) = inl (ap (λ (ws : List (List ℕ)). word_at ws 0) is)
begins words Help (inr is) = inr (ap (λ (ws : List (List ℕ)). word_at ws 0) is)
begins words Version (inl is) = inl (ap (λ (ws : List (List ℕ)). word_at ws 0) is)
begins words Version (inr is) = inr (ap (λ (ws : List (List ℕ)). word_at ws 0) is)

not_same : (word other : List ℕ) → bytes_eq word other ≡ false → word ≡ other → ⊥
not_same word other differ is = let same : bytes_eq word other ≡ true = (bytes_eq-Decides word other).1 is in cc

none_but : (words : List (List ℕ)) (command : List ℕ) (w : Words) → word_at words 0 ≡ command → bytes_eq command (first_of w) ≡ false → bytes_eq command (other_of w) ≡ false → IsWords words w → ⊥
none_but words command w first differ other is = elim (begins words w is) [
  | inl same ↦ not_same command (first_of w) differ (sym first ∙ same)
  | inr same ↦ not_same command (other_of w) other (sym first ∙ same)
]

pub no_design : (words : List (List ℕ)) → word_at words 0 ≡ codes "design" → ((workers budget : ℕ) (replay fold strip steady : Option ℕ) → AsksDesign words workers budget replay fold strip steady → ⊥) → (w : Words) → IsWords words w → ⊥
no_design words first none (Design a b c d e f) is = none a b c d e f is
no_design words first none w is = none_but words (codes "design") w first refl refl is

pub no_revise : (words : List (List ℕ)) → word_at words 0 ≡ codes "revise" → ((tree budget : ℕ) → AsksRevise words tree budget → ⊥) → (w : Words) → IsWords words w → ⊥
no_revise words first none (Revise a b) is = none a b is
no_revise words first none w is = none_but words (codes "revise") w first refl refl is

pub no_solve : (words : List (List ℕ)) → word_at words 0 ≡ codes "solve" → ((budget : ℕ) (strip fold : Option ℕ) (mirror : Option MirrorKind) → AsksSolve words budget strip fold mirror → ⊥) → (w : Words) → IsWords words w → ⊥
no_solve words first none (Solve a b c d) is = none a b c d is
no_solve words first none w is = none_but words (codes "solve") w first refl refl is

-- a design with a strip writes no FOLD text
pub not_both : (words : List (List ℕ)) (fold strip : Option ℕ) → true ≡ is_some fold → true ≡ is_some strip → HasFile (codes "--fold") words fold → HasOptional (codes "--strip") 0 most_width words strip → (workers budget : ℕ) (replay fold' strip' steady : Option ℕ) → AsksDesign words workers budget replay fold' strip' steady → ⊥
not_both words None strip e e' one other workers budget replay fold' strip' steady is = cc
not_both words (Some p) None e e' one other workers budget replay fold' strip' steady is = cc
not_both words (Some p) (Some n) e e' one other workers budget replay None strip' steady is = is.has_fold p one.0
not_both words (Some p) (Some n) e e' one (q, given, number) workers budget replay (Some r) None steady is = is.has_strip q given
not_both words (Some p) (Some n) e e' one other workers budget replay (Some r) (Some width) steady is = is.apart

-- nor does `solve` with one, and it takes no mirror then
module _ (words : List (List ℕ)) (budget : ℕ) (strip' fold' : Option ℕ) (mirror' : Option MirrorKind) (is : AsksSolve words budget strip' fold' mirror') where
  has_strip : (strip : Option ℕ) → true ≡ is_some strip → HasOptional (codes "--strip") 0 most_width words strip → (o : Option ℕ) → HasOptional (codes "--strip") 0 most_width words o → true ≡ is_some o
  has_strip None e has o also = cc
  has_strip (Some n) e has None not = absurd (not has.0 has.1)
  has_strip (Some n) e has (Some m) also = refl

  has_fold : (fold : Option ℕ) → true ≡ is_some fold → HasFile (codes "--fold") words fold → (o : Option ℕ) → HasFile (codes "--fold") words o → true ≡ is_some o
  has_fold None e has o also = cc
  has_fold (Some p) e has None not = absurd (not p has.0)
  has_fold (Some p) e has (Some q) also = refl

  has_mirror : (mirror : Option MirrorKind) → true ≡ is_some mirror → HasMirror words mirror → (o : Option MirrorKind) → HasMirror words o → true ≡ is_some o
  has_mirror None e has o also = cc
  has_mirror (Some k) e has None not = absurd (not has.0 has.1)
  has_mirror (Some k) e has (Some l) also = refl

  not_apart : {A B : Type 0} (a : Option A) (b : Option B) → true ≡ is_some a → true ≡ is_some b → AreApart a b → ⊥
  not_apart None b e e' apart = cc
  not_apart (Some a) None e e' apart = cc
  not_apart (Some a) (Some b) e e' apart = apart

  pub not_solved : (strip fold : Option ℕ) (mirror : Option MirrorKind) → true ≡ is_some strip → (true ≡ is_some fold) ⊎ (true ≡ is_some mirror) → HasOptional (codes "--strip") 0 most_width words strip → HasFile (codes "--fold") words fold → HasMirror words mirror → ⊥
  not_solved strip fold mirror e either one two three =
      let strip_there = has_strip strip e one strip' is.has_strip in
      elim either [
        | inl drawn ↦ not_apart fold' strip' (has_fold fold drawn two fold' is.has_fold) strip_there is.no_fold
        | inr same ↦ not_apart mirror' strip' (has_mirror mirror same three mirror' is.has_mirror) strip_there is.no_mirror
      ]

pub not_tree : (words : List (List ℕ)) (o : Option ℕ) → o ≡ None → HasFile (codes "--tree") words o → (tree budget : ℕ) → AsksRevise words tree budget → ⊥
not_tree words None e absent tree budget is = absent tree is.has_tree.0
not_tree words (Some p) e given tree budget is = cc

-- a word that names no mirror
pub no_mirror : (words : List (List ℕ)) (place : ℕ) → AreUnique words → IsGiven (codes "--mirror") words place → ((kind : MirrorKind) → word_at words place ≡ mirror_word kind → ⊥) → (o : Option MirrorKind) → HasMirror words o → ⊥
no_mirror words place unique given none None not = not place given
no_mirror words place unique given none (Some kind) (p, there, is) = none kind (subst (λ (q : ℕ). word_at words q ≡ mirror_word kind) (unique _ p place there given) is)

-- a command without further words
one_word : (words : List (List ℕ)) (word : List ℕ) → length words ≡ 1 → word_at words 0 ≡ word → words ≡ word ∷ []
one_word [] word one is = absurd (omega (arith, one))
one_word (w ∷ []) word one is = ap (λ (v : List ℕ). v ∷ []) is
one_word (w ∷ v ∷ ws) word one is = absurd (omega (arith, one))

pub is_alone : (words : List (List ℕ)) (w : Words) → length words ≡ 1 → IsAlone (word_at words 0) w → IsWords words w
is_alone words Contours one is = one_word words _ one is
is_alone words Rewrite one is = one_word words _ one is
is_alone words Pieces one is = one_word words _ one is
is_alone words Picture one is = one_word words _ one is
is_alone words Help one (inl is) = inl (one_word words _ one is)
is_alone words Help one (inr is) = inr (one_word words _ one is)
is_alone words Version one (inl is) = inl (one_word words _ one is)
is_alone words Version one (inr is) = inr (one_word words _ one is)
is_alone words w one is = absurd is

module _ (words : List (List ℕ)) where
  one_design : (a b : ℕ) (c d e f : Option ℕ) (a' b' : ℕ) (c' d' e' f' : Option ℕ) → AsksDesign words a b c d e f → AsksDesign words a' b' c' d' e' f' → Design a b c d e f ≡ Design a' b' c' d' e' f'
  one_design a b c d e f a' b' c' d' e' f' is also =
      let unique = unique_options _ words is.options in
      let workers : a ≡ a' = one_default _ words unique _ _ _ a a' (omega arith) is.has_workers also.has_workers in
      let budget : b ≡ b' = one_default _ words unique _ _ _ b b' (omega arith) is.has_budget also.has_budget in
      let replay : c ≡ c' = one_optional _ words unique _ _ c c' (omega arith) is.has_replay also.has_replay in
      let fold : d ≡ d' = one_file _ words unique d d' is.has_fold also.has_fold in
      let strip : e ≡ e' = one_optional _ words unique _ _ e e' (omega arith) is.has_strip also.has_strip in
      let steady : f ≡ f' = one_optional _ words unique _ _ f f' (omega arith) is.has_steady also.has_steady in
      cc

  one_revise : (a b a' b' : ℕ) → AsksRevise words a b → AsksRevise words a' b' → Revise a b ≡ Revise a' b'
  one_revise a b a' b' is also =
      let unique = unique_options _ words is.options in
      let tree : a ≡ a' = unique _ a a' is.has_tree.0 also.has_tree.0 in
      let budget : b ≡ b' = one_default _ words unique _ _ _ b b' (omega arith) is.has_budget also.has_budget in
      cc

  one_made : (name : List ℕ) (a b a' b' : ℕ) → AsksMade name words a b → AsksMade name words a' b' → (a ≡ a') × (b ≡ b')
  one_made name a b a' b' is also = (
    same_number a a' (word_at words 1) (omega (arith, is.has_leaves.2)) (omega (arith, also.has_leaves.2)) is.has_leaves.0 also.has_leaves.0,
    same_number b b' (word_at words 2) (omega (arith, is.has_seed.2)) (omega (arith, also.has_seed.2)) is.has_seed.0 also.has_seed.0,
  )

  same_kind : (j k : MirrorKind) → mirror_word j ≡ mirror_word k → j ≡ k
  same_kind Book Book same = refl
  same_kind Book Diagonal same = absurd (not_same (codes "book") (codes "diagonal") refl same)
  same_kind Diagonal Book same = absurd (not_same (codes "diagonal") (codes "book") refl same)
  same_kind Diagonal Diagonal same = refl

  one_mirror : AreUnique words → (o u : Option MirrorKind) → HasMirror words o → HasMirror words u → o ≡ u
  one_mirror unique None None not also = refl
  one_mirror unique None (Some k) not (p, given, is) = absurd (not p given)
  one_mirror unique (Some k) None (p, given, is) not = absurd (not p given)
  one_mirror unique (Some j) (Some k) (p, given, is) (q, there, also) =
      let here : word_at words p ≡ mirror_word k = subst (λ (r : ℕ). word_at words r ≡ mirror_word k) (unique _ q p there given) also in
      ap (λ (m : MirrorKind). Some m) (same_kind j k (sym is ∙ here))

  one_solve : (a : ℕ) (b c : Option ℕ) (d : Option MirrorKind) (a' : ℕ) (b' c' : Option ℕ) (d' : Option MirrorKind) → AsksSolve words a b c d → AsksSolve words a' b' c' d' → Solve a b c d ≡ Solve a' b' c' d'
  one_solve a b c d a' b' c' d' is also =
      let unique = unique_options _ words is.options in
      let budget : a ≡ a' = one_default _ words unique _ _ _ a a' (omega arith) is.has_budget also.has_budget in
      let strip : b ≡ b' = one_optional _ words unique _ _ b b' (omega arith) is.has_strip also.has_strip in
      let fold : c ≡ c' = one_file _ words unique c c' is.has_fold also.has_fold in
      let mirror : d ≡ d' = one_mirror unique d d' is.has_mirror also.has_mirror in
      cc

  differ : (v w : Words) → bytes_eq (first_of v) (first_of w) ≡ false → bytes_eq (first_of v) (other_of w) ≡ false → bytes_eq (other_of v) (first_of w) ≡ false → bytes_eq (other_of v) (other_of w) ≡ false → IsWords words v → IsWords words w → v ≡ w
  differ v w a b c d is also = elim (begins words v is) [
    | inl first ↦ absurd (none_but words (first_of v) w first a b also)
    | inr first ↦ absurd (none_but words (other_of v) w first c d also)
  ]

  pub one_asked : (v w : Words) → IsWords words v → IsWords words w → v ≡ w
  one_asked (Design a b c d e f) (Design a' b' c' d' e' f') is also = one_design a b c d e f a' b' c' d' e' f' is also
  one_asked (Check a) (Check b) is also = ap (λ (n : ℕ). Check n) (is.place ∙ sym also.place)
  one_asked Contours Contours is also = refl
  one_asked (Made a b) (Made a' b') is also = let same = one_made (codes "made") a b a' b' is also in let e : a ≡ a' = same.0 in let e' : b ≡ b' = same.1 in cc
  one_asked (Trial a b) (Trial a' b') is also = let same = one_made (codes "trial") a b a' b' is also in let e : a ≡ a' = same.0 in let e' : b ≡ b' = same.1 in cc
  one_asked Rewrite Rewrite is also = refl
  one_asked (Revise a b) (Revise a' b') is also = one_revise a b a' b' is also
  one_asked Pieces Pieces is also = refl
  one_asked (Solve a b c d) (Solve a' b' c' d') is also = one_solve a b c d a' b' c' d' is also
  one_asked (Verify a) (Verify b) is also = ap (λ (n : ℕ). Verify n) (is.place ∙ sym also.place)
  one_asked Picture Picture is also = refl
  one_asked Help Help is also = refl
  one_asked Version Version is also = refl
  one_asked v w is also = differ v w refl refl refl refl is also
