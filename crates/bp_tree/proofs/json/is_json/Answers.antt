use Rattle.std.proofs.Common.{arith, sym, ◌∙◌}
use Rattle.bp_tree.proofs.JsonForm.{json_at, json_spaces}
use Rattle.bp_tree.proofs.json.is_json.Goals as goal

pub returns-then-not-is_space : goal.returns-then-not-is_space
returns-then-not-is_space c =
    json_at c.args.bytes.now c.loop-byte.byte-index c.loop-byte-test.true c.loop-byte.invariant (sym c.is_space.ensures ∙ c.if-not-is_space.true)

pub returns : goal.returns
returns c = json_spaces c.args.bytes.now (λ k less. c.loop-byte.invariant k (omega (arith, c.loop-byte-test.false)))
