-- What a seat knows, and how each step changes it.
use Rattle.std.specs.Prelude.{ℕ, suc, ◌+◌, ◌-◌, max, true, false, if◌then◌else◌, [], ◌∷◌, ◌++◌, Option, Some, None}
use Rattle.limits.specs.declared.TheConstants.{MOST_SEATS}
use Rattle.search_board.specs.declared.known.Known.{Known}
use Rattle.search_board.specs.Seats.{first_told}

-- the first seat of a board with this budget
abbrev pub first_view : ℕ → Known
first_view budget = record {
  tickets = [];
  offer = 0;
  seen = 0;
  looks = 0;
  told = None;
  stands = 1;
  may = MOST_SEATS - 1;
  budget = budget;
  gone = false;
}

-- a seat that was joined into another
abbrev pub gone_view : Known
gone_view = record {
  tickets = [];
  offer = 0;
  seen = 0;
  looks = 0;
  told = None;
  stands = 0;
  may = 0;
  budget = 0;
  gone = true;
}

-- it drew a ticket
abbrev pub with_ticket : Known → ℕ → Known
with_ticket v number = record v { tickets = v.tickets ++ number ∷ [] }

-- it was told that no ticket is left
abbrev pub with_spent : Known → ℕ → Known
with_spent v number = record v { told = Some number }

-- it offered the margin in a word
abbrev pub with_offer : Known → ℕ → Known
with_offer v word = record v { offer = max v.offer word }

-- it saw the word of the best
abbrev pub with_look : Known → ℕ → Known
with_look v word = record v { seen = word; looks = suc v.looks }

-- it made a seat
abbrev pub with_seat : Known → Known
with_seat v = record v { may = v.may - 1 }

-- the seat that it made
abbrev pub new_seat : Known → Known
new_seat v = record {
  tickets = [];
  offer = 0;
  seen = v.seen;
  looks = 0;
  told = None;
  stands = 1;
  may = 0;
  budget = v.budget;
  gone = false;
}

-- another was joined into it
abbrev pub joined : Known → Known → Known
joined v u = record {
  tickets = v.tickets ++ u.tickets;
  offer = max v.offer u.offer;
  seen = max v.seen u.seen;
  looks = v.looks + u.looks;
  told = first_told v.told u.told;
  stands = v.stands + u.stands;
  may = v.may + u.may;
  budget = v.budget;
  gone = v.gone;
}

-- one for a number that was told
abbrev pub told_one : Option ℕ → ℕ
told_one None = 0
told_one (Some number) = 1

-- one for a view that draws no more tickets
abbrev pub idle_one : Known → ℕ
idle_one v = if v.gone then 1 else told_one v.told
