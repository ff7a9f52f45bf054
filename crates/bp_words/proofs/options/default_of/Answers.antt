use Rattle.std.proofs.Common.{ℕ, List, MatchOption, subst}
use Rattle.bp_words.specs.Words.{IsNumberIn}
use Rattle.bp_words.proofs.OptionLemmas.{default_found}
use Rattle.bp_words.proofs.options.default_of.Goals as goal

pub returns-in-Some : goal.returns-in-Some
returns-in-Some c =
    default_found c.args.name.now _ c.in-Some.place c.requires.unique c.in-Some.ensures c.args.low c.args.high c.args.default c.number_in.result
    (subst (λ (word : List ℕ). MatchOption c.number_in.result ((n : ℕ) → IsNumberIn c.args.low c.args.high word n → ⊥) (λ n. IsNumberIn c.args.low c.args.high word n)) c.word_at.ensures c.number_in.ensures)
