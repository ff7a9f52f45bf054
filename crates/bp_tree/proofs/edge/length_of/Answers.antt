use Rattle.std.proofs.Common.{arith}
use Rattle.bp_base.specs.Limits.{most_number}
use Rattle.bp_text.proofs.Decimals.{one_decimal}
use Rattle.bp_tree.proofs.edge.length_of.Goals as goal

pub returns-in_default : goal.returns-in_default
returns-in_default c n is fits = omega (arith, one_decimal most_number c.args.word.now n c.in-Some.length (omega arith) is c.in-Some.ensures, fits)

pub returns-in_default-2 : goal.returns-in_default-2
returns-in_default-2 c n is fits = omega (arith, one_decimal most_number c.args.word.now n c.in-Some.length (omega arith) is c.in-Some.ensures, fits)
