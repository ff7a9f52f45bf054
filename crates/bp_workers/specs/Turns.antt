-- What a turn of a worker comes to.
use Rattle.std.specs.Prelude.{◌≡◌, ◌⊎◌, ℕ, ◌+◌, ◌<◌, ◌≤◌, false, leb, [], ◌∷◌, ◌++◌, Any}
use Rattle.bp_base.specs.declared.point.Sheet.{Sheet}
use Rattle.bp_base.specs.declared.record.Task.{Task}
use Rattle.bp_base.specs.Tree.{TreeValue}
use Rattle.bp_incumbent.specs.declared.tickets.Ticket.{Ticket}
use Rattle.bp_incumbent.specs.Board.{BoardView, PassView, drew}
use Rattle.bp_incumbent.specs.Tickets.{is_spent}
use Rattle.bp_pool.specs.Hands.{one_more}
use Rattle.bp_workers.specs.Agrees.{Agrees, HasCause, Keeps, is_last_ticket, is_no_memory}
use Rattle.bp_workers.specs.declared.worker.Turned.{Turned}
use Rattle.bp_workers.specs.declared.worker.Turned.TheVariants.{Leaving, NoTask, Drew}
use Rattle.bp_workers.specs.declared.worker.Worker.{Worker}

-- the ticket was drawn with this side beside it, lies below the limit, and the worker holds the task that it was drawn for
abbrev pub IsDrawn : TreeValue → Sheet → BoardView → Worker → Task → ℕ → ℕ → Type 0
IsDrawn T G board w t side ticket =
    (p : PassView) × (w.pass ≡ drew p ticket) × (p.last ≡ side) × (leb board.limit ticket ≡ false) × Keeps T G board w.hand p w.records.items (w.kept.items ++ t ∷ []) w.best

-- each ticket that is drawn from now on is at least this number
abbrev pub NextIs : ℕ → Worker → Type 0
NextIs next w = (next ≡ 0) ⊎ Any (λ (t : Ticket). next ≤ t.number + 1) w.pass.tickets

-- what a turn came to: a worker that leaves has its cause, and one that had no task has none in keeping
abbrev pub HasTurned : TreeValue → Sheet → BoardView → ℕ → ℕ → Worker → Worker → ℕ → Turned → Type 0
HasTurned T G board floor limit old new next (Leaving left) =
    (is_no_memory left ≡ false → Agrees T G board new × HasCause floor limit new left) × (is_spent board.limit new.pass.tickets ≡ is_last_ticket left)
HasTurned T G board floor limit old new next NoTask =
    Agrees T G board new × (new.kept.items ≡ []) × (new.hand.idle ≡ one_more old.hand.idle) × NextIs next new × (is_spent board.limit new.pass.tickets ≡ false)
HasTurned T G board floor limit old new next (Drew ticket) =
    Agrees T G board new × (next ≤ ticket) × (ticket < limit) × NextIs (ticket + 1) new × (is_spent board.limit new.pass.tickets ≡ false)
