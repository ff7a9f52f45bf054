-- What `trial` writes: what a design of a made tree comes to, and how the pairs of leaves lie once its placement is settled.
use Rattle.std.specs.Prelude.{◌≡◌, ◌⊎◌, ℕ, List, [], ◌∷◌, ◌++◌, codes, decimal, false}
use Rattle.std.specs.declared.option.Option.{Option}
use Rattle.bp_base.specs.declared.point.Sheet.TheVariants.{Square}
use Rattle.bp_base.specs.Causes.{Appends, AppendsFront}
use Rattle.bp_base.specs.Tree.{TreeValue}
use Rattle.bp_document.specs.declared.document.Document.{Document}
use Rattle.bp_made.specs.Made.{IsMade}
use Rattle.bp_tally.specs.declared.tallying.Counts.{Counts}
use Rattle.bp_tally.specs.Pairs.{AreSettledCounts}
use Rattle.bp_design.specs.Design.{IsDesign}
use Rattle.bp_design.specs.Replayed.{IsCountedReplay}
use Rattle.bp_engine.specs.declared.status.Status.{Status}
use Rattle.bp_engine.specs.declared.status.Status.TheVariants.{Done, WriteFault, NoMemory}

-- four hands work, with a budget of 50,000 branches
abbrev pub trial_hands : ℕ
trial_hands = 4

abbrev pub trial_budget : ℕ
trial_budget = 50000

unfoldable pub head_line : ℕ → ℕ → List ℕ
head_line leaves seed = codes "trial " ++ decimal leaves ++ 32 ∷ decimal seed ++ 10 ∷ []

unfoldable pub found_line : ℕ → ℕ → ℕ → List ℕ
found_line side bound examined = codes "side " ++ decimal side ++ codes " bound " ++ decimal bound ++ codes " examined " ++ decimal examined ++ 10 ∷ []

unfoldable pub across_part : ℕ → ℕ → List ℕ
across_part left right = codes " left " ++ decimal left ++ codes " right " ++ decimal right ++ 32 ∷ []

unfoldable pub upright_part : ℕ → ℕ → List ℕ
upright_part below above = codes "below " ++ decimal below ++ codes " above " ++ decimal above ++ 10 ∷ []

unfoldable pub settled_line : Counts → List ℕ
settled_line counts = codes "settled" ++ across_part counts.left counts.right ++ upright_part counts.below counts.above

-- The text of the trial of a made tree: its design on a square by a search that replays from the same seed, how many records that has, and the
-- counts of the pairs.
pub record IsTrialText (leaves seed : ℕ) (text : List ℕ) : Type 0 where
  pub tree : TreeValue
  pub made : IsMade leaves seed tree
  pub document : Document
  pub design : IsDesign tree Square trial_budget false document
  pub examined : ℕ
  pub counted : IsCountedReplay tree Square trial_hands trial_budget seed document examined
  pub counts : Counts
  pub settled : AreSettledCounts tree Square document.side document.points counts
  pub text_is : text ≡ head_line leaves seed ++ found_line document.side document.bound examined ++ settled_line counts

-- the whole text, or a front of it and a fault of writing, or nothing for want of memory
abbrev pub Tries : ℕ → ℕ → Option (List ℕ) → Option (List ℕ) → Status → Type 0
Tries leaves seed held now status =
    (
    (text : List ℕ) × IsTrialText leaves seed text
    × (((status ≡ Done) × Appends held now text) ⊎ ((status ≡ WriteFault) × AppendsFront held now text))
    )
    ⊎ ((status ≡ NoMemory) × (now ≡ held))
