use Rattle.std.proofs.Common.{◌++◌, ◌∷◌, [], map}
use Rattle.std.specs.Prelude.{decimal, codes}
use Rattle.std.specs.List.{flat_map}
use Rattle.bp_text.proofs.Puts.{puts_first, puts_exit, puts_last, writes_more}
use Rattle.bp_document.specs.Lines.{line, word}
use Rattle.bp_document.proofs.Words.{grouped, grouped_last}
use Rattle.bp_document.proofs.line.put_floor_line.Goals as goal

pub returns-in_err-put_floor_start-clause-text : goal.returns-in_err-put_floor_start-clause-text
unfolding line
returns-in_err-put_floor_start-clause-text g c =
    puts_first (flat_map word (map decimal c.args.leaves.now) ++ 10 ∷ []) _ _ _ _ _ _ c.from_residual.ensures.0 c.in_err-put_floor_start.ensures.text (grouped (codes "floor") (word (decimal c.args.floor.now.m)) (word (decimal c.args.floor.now.side)) (flat_map word (map decimal c.args.leaves.now)) (10 ∷ []))

pub returns-in_err-put_numbers-clause-text : goal.returns-in_err-put_numbers-clause-text
unfolding line
returns-in_err-put_numbers-clause-text g c =
    puts_exit (10 ∷ []) _ _ _ _ _ _ _ _ c.from_residual-in_err-put_numbers.ensures.0 c.in_ok-put_floor_start.ensures.text.all c.in_err-put_numbers.ensures.text (grouped (codes "floor") (word (decimal c.args.floor.now.m)) (word (decimal c.args.floor.now.side)) (flat_map word (map decimal c.args.leaves.now)) (10 ∷ []))

pub returns-clause-text : goal.returns-clause-text
unfolding line
returns-clause-text g c =
    puts_last _ _ _ _ _ _ _ (writes_more _ _ _ _ _ _ c.in_ok-put_floor_start.ensures.text.all c.in_ok-put_numbers.ensures.text) c.put.ensures.text (grouped_last (codes "floor") (word (decimal c.args.floor.now.m)) (word (decimal c.args.floor.now.side)) (flat_map word (map decimal c.args.leaves.now)) (10 ∷ []))
