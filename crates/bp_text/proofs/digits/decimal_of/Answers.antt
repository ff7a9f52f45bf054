use Rattle.std.proofs.Common.{arith, refl}
use Rattle.bp_text.proofs.Decimals.{short, digit_in, read, fits, more, whole}
use Rattle.bp_text.proofs.digits.decimal_of.Goals as goal

pub returns-then-not-is_short : goal.returns-then-not-is_short
returns-then-not-is_short c = λ n is. let form = short c.args.digits c.requires.some c.requires.few c.args.bytes.now n is in let t = c.if-not-is_short.ensures.1 form in let f = c.if-not-is_short.true in cc

pub returns-then-not-is_ascii_digit : goal.returns-then-not-is_ascii_digit
returns-then-not-is_ascii_digit c =
    λ n is. let range = digit_in c.args.digits c.requires.some c.requires.few c.args.bytes.now n c.loop-byte.byte-index is c.loop-byte-test.true in
    let none = c.if-not-is_ascii_digit.ensures.cases in omega (arith, range, none)

pub overflow_mul-value : goal.overflow_mul-value
overflow_mul-value c =
    let e = c.if-not-is_short.ensures.0 refl in
    omega (arith, fits c.args.digits c.requires.some c.requires.few c.args.bytes.now c.loop-byte.byte-index c.loop-byte.value e.1 c.loop-byte-test.true c.loop-byte.invariant.1 c.loop-byte.invariant.0)

pub overflow_add-value : goal.overflow_add-value
overflow_add-value c =
    let e = c.if-not-is_short.ensures.0 refl in
    let range = c.if-not-is_ascii_digit.ensures.cases in
    omega (arith, c.from.ensures, range, fits c.args.digits c.requires.some c.requires.few c.args.bytes.now c.loop-byte.byte-index c.loop-byte.value e.1 c.loop-byte-test.true c.loop-byte.invariant.1 c.loop-byte.invariant.0)

pub loop-byte-preserved : goal.loop-byte-preserved
loop-byte-preserved c = more c.args.bytes.now c.loop-byte.byte-index c.loop-byte.value c.from.result _ c.loop-byte-test.true c.if-not-is_ascii_digit.ensures.cases c.loop-byte.invariant.1 c.loop-byte.invariant.0 refl c.from.ensures

pub returns : goal.returns
returns c = read c.args.digits c.requires.some c.requires.few c.args.bytes.now c.loop-byte.value (c.if-not-is_short.ensures.0 refl) (whole c.args.bytes.now c.loop-byte.byte-index c.loop-byte.value c.loop-byte-test.false c.loop-byte.invariant).0 (whole c.args.bytes.now c.loop-byte.byte-index c.loop-byte.value c.loop-byte-test.false c.loop-byte.invariant).1
