-- How a board is kept.
use Rattle.std.specs.Prelude.{◌≡◌, ◌<◌, ◌≤◌}
use Rattle.atomic_table.specs.Seated.{TableId}
use Rattle.bp_base.specs.Limits.{most_budget, most_hands}
use Rattle.bp_incumbent.specs.declared.board.Board.TheInside.{Inside}
use Rattle.bp_incumbent.specs.Board.{BoardView}

abbrev pub board_view : Inside → BoardView
board_view b = record {
  id = record { side = b.side.shared.table_id; tickets = b.tickets.shared.table_id; halt = b.halt.shared.table_id };
  opening = b.side.shared.key.opening;
  limit = b.tickets.shared.key.limit;
  passes = b.side.shared.key.passes;
}

abbrev pub HasOneWord : TableId → Type 0
HasOneWord id = (id.words ≡ 1) × (id.slots ≡ 0)

-- Each table has one word and no slot, and all were told of the same passes.
pub record IsBoard (b : Inside) : Type 0 where
  pub side : HasOneWord b.side.shared.table_id
  pub tickets : HasOneWord b.tickets.shared.table_id
  pub halt : HasOneWord b.halt.shared.table_id
  pub limit : b.tickets.shared.key.limit ≤ most_budget
  pub passes : (0 < b.side.shared.key.passes) × (b.side.shared.key.passes ≤ most_hands)
  pub same : (b.tickets.shared.key.passes ≡ b.side.shared.key.passes) × (b.halt.shared.key.passes ≡ b.side.shared.key.passes)
