use Rattle.std.proofs.Common.{◌≡◌, sym, ap, ◌∙◌, arith}
use Rattle.search_board.specs.Seats.{BoardView, SeatView}
use Rattle.search_board.proofs.BoardSteps.{splits}
use Rattle.search_board.proofs.board.Board.seat.Goals as goal

pub split_seat-requires : goal.split_seat-requires
split_seat-requires c =
    let on = ap (λ (v : SeatView). v.board) c.from.view_is ∙ c.requires.of ∙ sym c.self.view_is in let wide = c.self.invariant.0 in (
      ap (λ (b : BoardView). b.table) on,
      omega arith,
      splits _ _ _ c.from.invariant.1
          (let may : c.from.inside.seat.me.0.may ≡ c.args.from.now.may = ap (λ (v : SeatView). v.may) c.from.view_is in
          let some = c.requires.may in omega arith),
    )
