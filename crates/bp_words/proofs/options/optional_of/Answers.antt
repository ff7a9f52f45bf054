use Rattle.std.proofs.Common.{ℕ, List, sym, subst}
use Rattle.bp_words.specs.Words.{IsNumberIn}
use Rattle.bp_words.proofs.OptionLemmas.{no_optional}
use Rattle.bp_words.proofs.options.optional_of.Goals as goal

pub returns-in-None-number_in : goal.returns-in-None-number_in
returns-in-None-number_in c =
    no_optional c.args.name.now _ c.in-Some.place c.requires.unique c.in-Some.ensures c.args.low c.args.high
    (λ n is. c.in-None-number_in.ensures n (subst (λ (word : List ℕ). IsNumberIn c.args.low c.args.high word n) (sym c.word_at.ensures) is))
