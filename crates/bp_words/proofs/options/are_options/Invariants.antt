use Rattle.std.proofs.Common.{map}
use Rattle.std.specs.Prelude.{string_bytes}
use Rattle.bp_words.proofs.OptionLemmas.{AreBelow}
use Rattle.bp_words.proofs.options.are_options.Given as goal

abbrev pub invariant-loop-k : goal.invariant-loop-k
invariant-loop-k l = AreBelow (map (λ name. name.now) l.names) (map string_bytes l.words) l.k
