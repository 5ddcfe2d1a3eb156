use Rattle.std.proofs.Common.{sym, ap, ◌∙◌, arith}
use Rattle.search_board.specs.Seats.{BoardView, SeatView}
use Rattle.search_board.proofs.BoardSteps.{asks}
use Rattle.search_board.proofs.board.Board.ticket.Goals as goal

pub fetch_add-number-requires : goal.fetch_add-number-requires
fetch_add-number-requires c =
    let on = ap (λ (v : SeatView). v.board) c.seat.view_is ∙ c.requires ∙ sym c.self.view_is in let wide = c.self.invariant.0 in
    (ap (λ (b : BoardView). b.table) on, omega arith, asks _ _ _ _ c.seat.invariant.1 (c.seat.invariant.2 ∙ c.in_default.is))
