use Rattle.std.proofs.Common.{sym, ap, ◌∙◌, arith}
use Rattle.search_board.specs.Seats.{BoardView, SeatView}
use Rattle.search_board.proofs.BoardSteps.{offers}
use Rattle.search_board.proofs.board.Board.offer.Goals as goal

pub fetch_max-requires : goal.fetch_max-requires
fetch_max-requires c =
    let on = ap (λ (v : SeatView). v.board) c.seat.view_is ∙ c.requires.of ∙ sym c.self.view_is in let wide = c.self.invariant.0 in
    (ap (λ (b : BoardView). b.table) on, omega arith, offers _ _ _ _ _ c.word_of.ensures.small c.seat.invariant.1)
