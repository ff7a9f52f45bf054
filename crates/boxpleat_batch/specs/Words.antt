-- The command line of the batch program, in the terms of clap's contracts, and what words ask for by it.
use Rattle.std.specs.Prelude.{◌≡◌, ℕ, ◌≤◌, List, [], ◌∷◌, codes, pos, true, Some}
use Rattle.std.specs.Str.Parse.{digits_value, without_leading_plus}
use Rattle.clap.specs.declared.builder.action.ArgAction.TheVariants.{Set}
use Rattle.clap.specs.declared.builder.value_parser.ValueParser.TheVariants.{Signed}
use Rattle.clap.specs.Faults.{fault_of}
use Rattle.clap.specs.Simple.{App, Shape, matches_of, new_app, new_rule, on_top, with_rule}
use Rattle.clap.specs.Walk.{Rule, Text, one_of}
use Rattle.boxpleat_batch.specs.declared.words.Asked.{Asked}

-- the greatest number of workers, and the greatest budget
abbrev pub most_workers : ℕ
most_workers = 16

abbrev pub most_batch_budget : ℕ
most_batch_budget = 2000

-- an option of the Set action with a number from 1 to the greatest, and the one that stands for it where it isn't given
abbrev pub number_option : Text → ℕ → Text → Rule
number_option name most usual = record (new_rule name) {
  long = Some name;
  action = Some Set;
  parser = Some (Signed (pos 1) (pos most));
  defaults = usual ∷ [];
}

-- the words are those after the program's name, and there is no help and no version
abbrev pub bare : Shape → Shape
bare s = record s { no_binary_name = true; disable_help_flag = true; disable_version_flag = true }

-- the command: two options, and nothing else
abbrev pub BatchCommand : App
BatchCommand =
    with_rule (with_rule (on_top bare (new_app (codes "boxpleat_batch"))) (number_option (codes "workers") most_workers (codes "4")))
    (number_option (codes "budget") most_batch_budget (codes "1000"))

-- the command takes the words
abbrev pub Takes : List Text → Type 0
Takes words = fault_of BatchCommand words ≡ []

-- n is the number that the words give the option, or its usual one
abbrev pub IsNumberOf : Text → List Text → ℕ → Type 0
IsNumberOf name words n =
    (text : Text) × (one_of name (matches_of BatchCommand words) ≡ Some text) × (n ≡ digits_value 10 (without_leading_plus text))

-- what words ask for that the command takes: so many workers, and so large a budget
pub record AsksFor (words : List Text) (asked : Asked) : Type 0 where
  pub takes : Takes words
  pub workers : IsNumberOf (codes "workers") words asked.workers
  pub budget : IsNumberOf (codes "budget") words asked.budget
  pub some_workers : 1 ≤ asked.workers
  pub few_workers : asked.workers ≤ most_workers
  pub some_budget : 1 ≤ asked.budget
  pub small_budget : asked.budget ≤ most_batch_budget
