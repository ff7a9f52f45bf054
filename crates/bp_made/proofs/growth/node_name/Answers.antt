use Rattle.std.proofs.Common.{sym, ◌∙◌, subst, arith}
use Rattle.bp_base.specs.Name.{IsName}
use Rattle.bp_made.proofs.Names.{is_name}
use Rattle.bp_made.proofs.growth.node_name.Goals as goal

pub unreachable-requires : goal.unreachable-requires
unreachable-requires c =
    c.in-None.ensures (subst IsName (sym (c.as_bytes.ensures.value ∙ c.in_ok-text.ensures.ok)) (is_name c.args.node (omega arith)))
