use Rattle.std.proofs.Common.{◌≡◌, ◌⊎◌, ℕ, ℤ, sym, ap, ◌∙◌, subst, Option, arith}
use Rattle.search_board.specs.Seats.{BoardView, SeatView, IsClosing}
use Rattle.search_board.proofs.BoardSteps.{closes, IsEnd}
use Rattle.search_board.proofs.SeatLaws.{closing, min-either}
use Rattle.search_board.proofs.board.Board.close.Goals as goal

pub returns : goal.returns
returns c =
    let on = ap (λ (v : SeatView). v.board) c.last.view_is ∙ c.requires.of ∙ sym c.self.view_is in
    let same : c.last.inside.seat.me.0.budget ≡ c.self.inside.budget = ap (λ (b : BoardView). b.budget) on in
    let key : c.self.inside.table.shared.key ≡ c.last.inside.seat.me.0.budget = c.self.invariant.2 ∙ sym same in
    let stands : c.last.inside.seat.me.0.stands ≡ c.args.last.stands = ap (λ (v : SeatView). v.stands) c.last.view_is in
    let may : c.last.inside.seat.me.0.may ≡ c.args.last.may = ap (λ (v : SeatView). v.may) c.last.view_is in
    let all = c.requires.all in
    let budget : c.from.result ≡ c.self.inside.table.shared.key = c.from.ensures ∙ sym c.self.invariant.2 in
    let lesser = min-either c.word-counter.result c.from.result c.min.result c.min.ensures in
    let end : IsEnd c.self.inside.table.shared.key c.min.result c.word-best.result c.last.inside.seat.me.0 =
    closes _ _ _ _ _ c.word-counter.result c.word-best.result c.min.result c.close_with-closed.ensures.values.2 c.word-counter.ensures c.word-best.ensures
    (omega arith) (lesser.0, omega (arith, budget, lesser.1)) (subst
    (λ (k : ℕ). (c.min.result ≡ c.word-counter.result) ⊎ (c.min.result ≡ k)) budget lesser.2) in
    subst (λ (y : SeatView × Option ℤ). IsClosing y.0 c.min.result y.1) (λ i. (c.last.view_is i, sym c.margin_of.ensures i))
    (closing c.last.inside.seat.table_id c.last.inside.seat.me.0 c.min.result c.word-best.result
    (subst (λ (k : ℕ). IsEnd k c.min.result c.word-best.result c.last.inside.seat.me.0) key end))
