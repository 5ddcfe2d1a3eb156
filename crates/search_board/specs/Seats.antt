-- A board and its seats, as contracts see them.
use Rattle.std.specs.Prelude.{◌≡◌, ℕ, ℤ, ◌+◌, ◌-◌, ◌≤◌, Option, Some, None, List, [], ◌++◌}
use Rattle.std.specs.Coded.{Coded, code_by, coded×, coded_ℕ, coded_ℤ, coded_list, coded_option}
use mathlib.Core.Path.{refl}
use Rattle.atomic_table.specs.Seated.{TableId, table_id_coded}
use Rattle.limits.specs.declared.TheConstants.{MOST_SEATS}
use Rattle.number_counts.specs.Counts.{HasEachBelow}
use Rattle.number_laws.specs.Missing.{greater, IsAtMost}
use Rattle.search_board.specs.declared.known.Known.{Known}
use Rattle.search_board.specs.Margins.{margin_in}

-- which board it is, and its budget of tickets
pub record BoardView : Type 0 where
  pub table : TableId
  pub budget : ℕ

-- a seat: its board; the tickets that it drew; the greatest margin that it offered; the greatest best that it saw; how
-- often it looked; the number with which it was told that none is left, if it was; for how many seats it stands; and
-- how many it may still make
pub record SeatView : Type 0 where
  pub board : BoardView
  pub tickets : List ℕ
  pub offer : Option ℤ
  pub seen : Option ℤ
  pub looks : ℕ
  pub told : Option ℕ
  pub stands : ℕ
  pub may : ℕ

-- the first seat of a board
abbrev pub first_seat : BoardView → SeatView
first_seat board = record {
  board = board;
  tickets = [];
  offer = None;
  seen = None;
  looks = 0;
  told = None;
  stands = 1;
  may = MOST_SEATS - 1;
}

-- a seat that another has made: it has seen what that one has seen
abbrev pub seat_from : SeatView → SeatView
seat_from seat = record {
  board = seat.board;
  tickets = [];
  offer = None;
  seen = seat.seen;
  looks = 0;
  told = None;
  stands = 1;
  may = 0;
}

-- the number that the first was told, and else the second
abbrev pub first_told : Option ℕ → Option ℕ → Option ℕ
first_told None other = other
first_told (Some number) other = Some number

-- a seat with another joined into it
abbrev pub joined_seat : SeatView → SeatView → SeatView
joined_seat into done = record {
  board = into.board;
  tickets = into.tickets ++ done.tickets;
  offer = greater into.offer done.offer;
  seen = greater into.seen done.seen;
  looks = into.looks + done.looks;
  told = first_told into.told done.told;
  stands = into.stands + done.stands;
  may = into.may + done.may;
}

-- what a board tells when it is closed with its last seat: the seat has all tickets, which are the numbers below their
-- count, each once, and no more than the budget, of which none is left where it was told so. The best is its offer, and
-- it never saw more
pub record IsClosing (seat : SeatView) (tickets : ℕ) (best : Option ℤ) : Type 0 where
  pub each : HasEachBelow tickets seat.tickets
  pub within : tickets ≤ seat.board.budget
  pub spent : (number : ℕ) → seat.told ≡ Some number → tickets ≡ seat.board.budget
  pub offered : best ≡ seat.offer
  pub seen : IsAtMost seat.seen best

-- ---- from what the rule of the board keeps

-- how such a board is put into one number, as a view has to be
abbrev pub board_coded : Coded BoardView
board_coded =
    code_by (TableId × ℕ) (coded× table_id_coded coded_ℕ) (λ v. (v.table, v.budget))
    (λ p. record { table = p.0; budget = p.1 }) (λ _. refl)

-- the parts of a seat, side by side
abbrev pub SeatParts : Type 0
SeatParts = BoardView × (List ℕ × (Option ℤ × (Option ℤ × (ℕ × (Option ℕ × (ℕ × ℕ))))))

-- likewise a seat
abbrev pub seat_coded : Coded SeatView
seat_coded =
    code_by SeatParts
    (coded× board_coded (coded× (coded_list coded_ℕ) (coded× (coded_option coded_ℤ) (coded× (coded_option coded_ℤ)
    (coded× coded_ℕ (coded× (coded_option coded_ℕ) (coded× coded_ℕ coded_ℕ)))))))
    (λ v. (v.board, (v.tickets, (v.offer, (v.seen, (v.looks, (v.told, (v.stands, v.may))))))))
    (λ p. record {
      board = p.0;
      tickets = p.1.0;
      offer = p.1.1.0;
      seen = p.1.1.1.0;
      looks = p.1.1.1.1.0;
      told = p.1.1.1.1.1.0;
      stands = p.1.1.1.1.1.1.0;
      may = p.1.1.1.1.1.1.1;
    })
    (λ _. refl)

-- what the rule knows of a seat, as contracts see it
abbrev pub seat_view : TableId → Known → SeatView
seat_view table known = record {
  board = record { table = table; budget = known.budget };
  tickets = known.tickets;
  offer = margin_in known.offer;
  seen = margin_in known.seen;
  looks = known.looks;
  told = known.told;
  stands = known.stands;
  may = known.may;
}
