use Rattle.std.proofs.Common.{sym, ap, ◌∙◌, arith}
use Rattle.search_board.specs.Seats.{BoardView, SeatView, seat_view, joined_seat}
use Rattle.search_board.proofs.BoardSteps.{merges}
use Rattle.search_board.proofs.SeatLaws.{view-joined}
use Rattle.search_board.proofs.board.Board.join.Goals as goal

pub join_seat-requires : goal.join_seat-requires
join_seat-requires c =
    let on = ap (λ (v : SeatView). v.board) c.into.view_is ∙ c.requires.of ∙ sym c.self.view_is in let wide = c.self.invariant.0 in
    let other = ap (λ (v : SeatView). v.board) c.done.view_is ∙ c.requires.done ∙ sym c.self.view_is in (
      ap (λ (b : BoardView). b.table) on,
      ap
          (λ (b : BoardView). b.table) other,
      c.done.invariant.0,
      omega arith,
      merges _ _ _ _ _ c.into.invariant.1 c.done.invariant.1,
    )

pub returns-then-is_none : goal.returns-then-is_none
returns-then-is_none c =
    (λ i. seat_view (c.join_seat.ensures.0 i) (c.join_seat.ensures.2 i).0)
    ∙ view-joined c.into.inside.seat.table_id c.done.inside.seat.table_id c.into.inside.seat.me.0 c.done.inside.seat.me.0
    ∙ (λ i. joined_seat (c.into.view_is i) (c.done.view_is i))

pub returns-else-is_none : goal.returns-else-is_none
returns-else-is_none c =
    (λ i. seat_view (c.join_seat.ensures.0 i) (c.join_seat.ensures.2 i).0)
    ∙ view-joined c.into.inside.seat.table_id c.done.inside.seat.table_id c.into.inside.seat.me.0 c.done.inside.seat.me.0
    ∙ (λ i. joined_seat (c.into.view_is i) (c.done.view_is i))
