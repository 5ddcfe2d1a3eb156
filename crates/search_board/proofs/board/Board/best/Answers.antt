use Rattle.std.proofs.Common.{sym, ap, ◌∙◌, arith}
use Rattle.search_board.specs.Seats.{BoardView, SeatView}
use Rattle.search_board.proofs.BoardSteps.{looks}
use Rattle.search_board.proofs.board.Board.best.Goals as goal

pub load-requires : goal.load-requires
load-requires c =
    let on = ap (λ (v : SeatView). v.board) c.seat.view_is ∙ c.requires ∙ sym c.self.view_is in let wide = c.self.invariant.0 in
    (ap (λ (b : BoardView). b.table) on, omega arith, looks _ _ _ _ c.seat.invariant.1)
