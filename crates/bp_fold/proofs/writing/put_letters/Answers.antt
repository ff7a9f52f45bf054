use Rattle.std.proofs.Common.{◌++◌, map, refl, append_assoc}
use Rattle.bp_text.proofs.Puts.{puts_first, puts_exit, puts_last, writes_more}
use Rattle.bp_fold.specs.FoldText.{commas, last_text, letter_text, letters_head}
use Rattle.bp_fold.proofs.writing.put_letters.Goals as goal

pub returns-in_err-put_letters_head-clause-text : goal.returns-in_err-put_letters_head-clause-text
returns-in_err-put_letters_head-clause-text g c =
    puts_first (commas (map letter_text c.args.letters.now) ++ last_text) _ _ _ _ _ _ c.from_residual.ensures.0 c.in_err-put_letters_head.ensures.text (append_assoc letters_head (commas (map letter_text c.args.letters.now)) last_text)

pub returns-in_err-put_each_letter-clause-text : goal.returns-in_err-put_each_letter-clause-text
returns-in_err-put_each_letter-clause-text g c =
    puts_exit last_text _ _ _ _ _ _ _ _ c.from_residual-in_err-put_each_letter.ensures.0 c.in_ok-put_letters_head.ensures.text.all c.in_err-put_each_letter.ensures.text (append_assoc letters_head (commas (map letter_text c.args.letters.now)) last_text)

pub returns-clause-text : goal.returns-clause-text
returns-clause-text g c =
    puts_last _ _ _ _ _ _ _ (writes_more _ _ _ _ _ _ c.in_ok-put_letters_head.ensures.text.all c.in_ok-put_each_letter.ensures.text) c.put_last.ensures.text refl
