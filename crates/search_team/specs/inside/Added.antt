-- One more worker, whose work is added to what others gave back.
use Rattle.std.specs.Prelude.{◌≡◌, ◌⊎◌, ℕ, ◌-◌, List, [], ◌∷◌, ◌++◌}
use Rattle.number_laws.specs.Missing.{greater}
use Rattle.plan_build.specs.Built.{found_margin}
use Rattle.plant_model.specs.declared.parts.Parts.{Parts}
use Rattle.search_board.specs.Seats.{SeatView, joined_seat, seat_from}
use Rattle.slot_box.specs.Tasks.{TaskParts}
use Rattle.branch_worker.specs.declared.site.Alone.{Alone}
use Rattle.branch_worker.specs.declared.site.AloneDone.{AloneDone}
use Rattle.branch_worker.specs.Work.{IsAloneDone}
use Rattle.search_team.specs.declared.team.Together.{Together}

-- what the worker begins with: a seat that the others' seat made, and these tasks
abbrev pub alone_from : SeatView → ℕ → List TaskParts → Alone
alone_from seat number first = record { number = number; seat = seat_from seat; first = first }

-- what it gives back is what it owes, and is added
pub record IsAdded (parts : Parts) (n number : ℕ) (first : List TaskParts) (old new : Together) : Type 0 where
  pub done : AloneDone
  pub owed : IsAloneDone parts n (alone_from old.seat number first) done
  pub seat : new.seat ≡ joined_seat (record old.seat { may = old.seat.may - 1 }) done.seat
  pub notes : new.notes ≡ old.notes ++ done.notes ∷ []
  pub cuts : new.cuts ≡ old.cuts ++ done.cuts ∷ []
  pub margin : found_margin new.found ≡ greater (found_margin old.found) (found_margin done.found)
  pub one : (new.found ≡ old.found) ⊎ (new.found ≡ done.found)
