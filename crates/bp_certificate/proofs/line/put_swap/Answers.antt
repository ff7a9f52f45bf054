use Rattle.std.proofs.Common.{◌++◌, ◌∷◌, []}
use Rattle.std.specs.Prelude.{codes}
use Rattle.std.specs.List.{flat_map}
use Rattle.bp_text.proofs.Puts.{puts_first, puts_exit, puts_last, writes_more}
use Rattle.bp_document.specs.Lines.{word}
use Rattle.bp_certificate.specs.Lines.{pair_words}
use Rattle.bp_certificate.proofs.Parts.{after, swap_parts}
use Rattle.bp_certificate.proofs.line.put_swap.Goals as goal

pub returns-in_err-put-clause-text : goal.returns-in_err-put-clause-text
returns-in_err-put-clause-text g c =
    puts_first (flat_map word (flat_map pair_words c.args.swap.now) ++ 10 ∷ []) _ _ _ _ _ _ c.from_residual.ensures.0 c.in_err-put.ensures.text (swap_parts c.args.swap.now)

pub returns-in_err-put_pairs-clause-text : goal.returns-in_err-put_pairs-clause-text
returns-in_err-put_pairs-clause-text g c =
    puts_exit (10 ∷ []) _ _ _ _ _ _ _ _ c.from_residual-in_err-put_pairs.ensures.0 c.in_ok-put.ensures.text.all c.in_err-put_pairs.ensures.text (swap_parts c.args.swap.now)

pub returns-clause-text : goal.returns-clause-text
returns-clause-text g c =
    puts_last _ _ _ _ _ _ _ (writes_more _ _ _ _ _ _ c.in_ok-put.ensures.text.all c.in_ok-put_pairs.ensures.text) c.put-2.ensures.text (after (codes "swap") (flat_map word (flat_map pair_words c.args.swap.now)) (10 ∷ []) _ (swap_parts c.args.swap.now))
