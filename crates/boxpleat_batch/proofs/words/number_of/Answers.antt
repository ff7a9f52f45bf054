use Rattle.std.proofs.Common.{◌≡◌, ◌∙◌, ℕ, Option, Some, None, sym, ap, arith}
use Rattle.std.specs.Prelude.{unwrap_or}
use Rattle.std.specs.Str.Parse.{ParsesUnsigned, ExplainsUnsignedError, HasUnsignedDigitsIfOk}
use Rattle.clap.specs.Matches.{found_of}
use Rattle.boxpleat_batch.proofs.Readings.{within, of_text}
use Rattle.boxpleat_batch.proofs.words.number_of.Goals as goal

pub unreachable-requires : goal.unreachable-requires
unreachable-requires c =
    let got = within (λ bs r. ParsesUnsigned 16 10 bs r × ExplainsUnsignedError 10 bs r × HasUnsignedDigitsIfOk bs r) (λ u x g. g.0) (found_of c.args.matches.now) c.args.name.now c.get_one.result c.get_one.ensures.value
    c.requires.0 c.requires.1 c.requires.2 in
    let bad : Some got.0 ≡ None = sym got.1 ∙ c.in-None.is in
    cc

pub returns-clause-text : goal.returns-clause-text
returns-clause-text c =
    of_text (λ bs r. ParsesUnsigned 16 10 bs r × ExplainsUnsignedError 10 bs r × HasUnsignedDigitsIfOk bs r) (λ u x g. g.0) (found_of c.args.matches.now) c.args.name.now c.get_one.result c.get_one.ensures.value
    c.requires.0 c.from.result c.requires.2 (c.in-Some.is ∙ ap Some (sym c.from.ensures))

pub returns-clause-within : goal.returns-clause-within
returns-clause-within c = λ most small has.
    let got = within (λ bs r. ParsesUnsigned 16 10 bs r × ExplainsUnsignedError 10 bs r × HasUnsignedDigitsIfOk bs r) (λ u x g. g.0) (found_of c.args.matches.now) c.args.name.now c.get_one.result c.get_one.ensures.value
    most small has in
    let same : got.0 ≡ c.from.result = ap (λ (o : Option ℕ). unwrap_or o 0) (sym got.1 ∙ (c.in-Some.is ∙ ap Some (sym c.from.ensures))) in
    (omega (arith, same, got.2), omega (arith, same, got.3))
