use Rattle.std.proofs.Common.{[], append_assoc, refl}
use Rattle.std.specs.Prelude.{codes}
use Rattle.bp_text.proofs.Puts.{puts_exit, puts_last, writes_more}
use Rattle.bp_document.specs.Lines.{line, floor_line}
use Rattle.bp_document.specs.Text.{proof_lines}
use Rattle.bp_document.proofs.write.put_rest.Goals as goal

pub returns-in_err-put_proof-clause-text : goal.returns-in_err-put_proof-clause-text
returns-in_err-put_proof-clause-text g c =
    let D = c.args.document.now in
    puts_exit (line (codes "end") []) _ _ _ _ _ _ _ _ c.from_residual-in_err-put_proof.ensures.0 c.in_ok-put_floor.ensures.text.all c.in_err-put_proof.ensures.text
    (append_assoc (floor_line D.floor) (proof_lines D.proof) (line (codes "end") []))

pub returns-clause-text : goal.returns-clause-text
returns-clause-text g c =
    puts_last _ _ _ _ _ _ _ (writes_more _ _ _ _ _ _ c.in_ok-put_floor.ensures.text.all c.in_ok-put_proof.ensures.text) c.put_end.ensures.text refl
