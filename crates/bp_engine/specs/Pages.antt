-- What `help` and `version` write: constants.
use Rattle.std.specs.Prelude.{◌≡◌, ◌⊎◌, ℕ, List}
use Rattle.std.specs.declared.option.Option.{Option}
use Rattle.bp_base.specs.Causes.{Appends, AppendsFront}
use Rattle.bp_engine.specs.declared.pages.TheConstants.{HELP, VERSION}
use Rattle.bp_engine.specs.declared.status.Status.{Status}
use Rattle.bp_engine.specs.declared.status.Status.TheVariants.{Done, WriteFault}

abbrev pub help_page : List ℕ
help_page = HELP.now

abbrev pub version_page : List ℕ
version_page = VERSION.now

-- the whole page, or a front of it and a fault of writing
abbrev pub Shows : List ℕ → Option (List ℕ) → Option (List ℕ) → Status → Type 0
Shows page held now status = ((status ≡ Done) × Appends held now page) ⊎ ((status ≡ WriteFault) × AppendsFront held now page)
