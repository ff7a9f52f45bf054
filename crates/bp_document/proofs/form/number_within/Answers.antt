use Rattle.std.proofs.Common.{arith}
use Rattle.bp_base.specs.Limits.{most_number}
use Rattle.bp_text.proofs.Decimals.{one_decimal}
use Rattle.bp_document.proofs.form.number_within.Goals as goal

pub returns-in_default : goal.returns-in_default
returns-in_default c n from to is = omega (arith, one_decimal most_number c.args.word.now n c.in-Some.number (omega arith) (is, omega (arith, c.requires, to)) c.in-Some.ensures, from, to)

pub returns-in_default-2 : goal.returns-in_default-2
returns-in_default-2 c n from to is = omega (arith, one_decimal most_number c.args.word.now n c.in-Some.number (omega arith) (is, omega (arith, c.requires, to)) c.in-Some.ensures, from, to)
