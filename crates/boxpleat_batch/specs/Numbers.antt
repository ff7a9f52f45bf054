-- A number among the matches of a parse.
use Rattle.std.specs.Prelude.{◌≡◌, ℕ, pos, Some}
use Rattle.clap.specs.Lexer.{without_minus}
use Rattle.clap.specs.Matches.{one_text}
use Rattle.clap.specs.Values.{IsSignedIn}
use Rattle.clap.specs.Walk.{Text}
use Rattle.clap.specs.declared.parser.matches.Found.{Found}

-- the option has a text that is a number from 1 to the greatest
abbrev pub HasNumber : Found → Text → ℕ → Type 0
HasNumber f name most = (t : Text) × (one_text f name ≡ Some (without_minus t)) × IsSignedIn (pos 1) (pos most) t
