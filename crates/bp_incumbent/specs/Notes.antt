-- How a note is kept.
use Rattle.std.specs.Prelude.{◌≡◌, []}
use Rattle.bp_incumbent.specs.declared.pass.Note.TheInside.{Inside}
use Rattle.bp_incumbent.specs.Board.{NoteView}

abbrev pub note_view : Inside → NoteView
note_view n = record { side = n.side.table_id; seen = n.side.me.0.seen }

-- The seat holds no slot and stands for no pass.
pub record IsNote (n : Inside) : Type 0 where
  pub no_slot : n.side.me.1 ≡ []
  pub no_pass : n.side.me.0.passes ≡ []
