use Rattle.bp_verify.proofs.own.verify_text.Goals as goal

pub returns : goal.returns
returns c = c.verify_bytes-verified.ensures c.args.tree.now c.in-Ok.ensures.nothing
