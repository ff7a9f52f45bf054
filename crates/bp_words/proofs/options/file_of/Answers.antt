use Rattle.std.proofs.Common.{ℕ, List, sym, subst}
use Rattle.bp_words.specs.Words.{IsFile}
use Rattle.bp_words.proofs.OptionLemmas.{no_file, not_true}
use Rattle.bp_words.proofs.options.file_of.Goals as goal

pub returns-else-is_file : goal.returns-else-is_file
returns-else-is_file c =
    no_file c.args.name.now _ c.in-Some.place c.requires c.in-Some.ensures
    (λ is. not_true c.is_file.result c.if-is_file.false (c.is_file.ensures.1 (subst (λ (word : List ℕ). IsFile word) (sym c.word_at.ensures) is)))
