use Rattle.std.proofs.Common.{refl, arith, rules}
use Rattle.bp_base.specs.Name.{IsName}
use Rattle.bp_base.proofs.Names.{padded}
use Rattle.bp_base.proofs.name.Name.new.Goals as goal

pub invariant_of-result : goal.invariant_of-result
invariant_of-result c =
    let name : IsName c.args.bytes.now = record { some = grind (arith, rules); short = c.if-bytes-gt32.false; spelled = c.are_name_bytes.ensures.0 c.if-not-are_name_bytes.false } in
    padded c.args.bytes.now c.copy_from_slice.new.self _ c.if-bytes-gt32.false c.copy_from_slice.ensures.after refl name
