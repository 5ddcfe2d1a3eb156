use Rattle.std.proofs.Common.{sym, ap, ◌∙◌, arith}
use Rattle.search_board.specs.Seats.{BoardView, SeatView}
use mathlib.Core.Option.{none}
use Rattle.atomic_table.specs.Table.{step}
use Rattle.search_board.proofs.BoardSteps.{hints}
use Rattle.search_board.proofs.board.Board.busy.Goals as goal

pub load-requires : goal.load-requires
load-requires c =
    let on = ap (λ (v : SeatView). v.board) c.seat.view_is ∙ c.requires ∙ sym c.self.view_is in let wide = c.self.invariant.0 in
    (ap (λ (b : BoardView). b.table) on, omega arith, hints _ _ _ _ 2 (λ n. n) (step c.self.inside.table.shared.table_id.slots 2 0 0 none) (omega arith))
