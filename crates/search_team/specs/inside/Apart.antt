-- What the workers gave back, taken apart.
use Rattle.std.specs.Prelude.{◌≡◌, ℕ, ◌-◌, ℤ, All, length, List, [], ◌∷◌, map, IfSome, Option, None}
use Rattle.number_laws.specs.Missing.{greater}
use Rattle.plan_build.specs.Built.{IsPlanned, found_margin}
use Rattle.plant_model.specs.declared.parts.Parts.{Parts}
use Rattle.search_board.specs.Seats.{BoardView, SeatView, joined_seat}
use Rattle.slot_box.specs.Tasks.{TaskParts}
use Rattle.task_deck.specs.declared.ends.DoorPass.{DoorPass}
use Rattle.task_deck.specs.declared.ends.Owner.{Owner}
use Rattle.branch_worker.specs.declared.site.Done.{Done}
use Rattle.branch_worker.specs.declared.site.Me.{Me}
use Rattle.branch_worker.specs.Work.{IsDone}
use Rattle.search_team.specs.declared.apart.Apart.{Apart}
use Rattle.search_team.specs.declared.benches.Bench.{Bench}
use Rattle.search_team.specs.inside.Benches.{AreSeatedBy, HaveReturned}

-- each worker gave back what it owed
abbrev pub AreDone : Parts → ℕ → List Me → List Done → Type 0
AreDone parts n [] [] = Unit {0}
AreDone parts n [] (done ∷ dones) = ⊥
AreDone parts n (me ∷ mes) [] = ⊥
AreDone parts n (me ∷ mes) (done ∷ dones) = IsDone parts n me done × AreDone parts n mes dones

-- the seat with all of theirs joined into it
abbrev pub joined_all : SeatView → List Done → SeatView
joined_all seat [] = seat
joined_all seat (done ∷ dones) = joined_all (joined_seat seat done.seat) dones

-- the greatest margin of the plans that they found
abbrev pub greatest_found : Option ℤ → List Done → Option ℤ
greatest_found most [] = most
greatest_found most (done ∷ dones) = greatest_found (greater most (found_margin done.found)) dones

-- all of it in lists, worker by worker
pub record IsApart (parts : Parts) (n : ℕ) (before : SeatView) (dones : List Done) (apart : Apart) : Type 0 where
  pub seat : apart.seat ≡ joined_all before dones
  pub owners : apart.owners ≡ map (λ (done : Done). done.owner) dones
  pub rows : apart.rows ≡ map (λ (done : Done). done.passes) dones
  pub notes : apart.notes ≡ map (λ (done : Done). done.notes) dones
  pub cuts : apart.cuts ≡ map (λ (done : Done). done.cuts) dones
  pub margin : found_margin apart.found ≡ greatest_found None dones
  pub plan : IfSome apart.found (IsPlanned parts n)

-- whatever workers' benches these are, what was given back on each is of this board
abbrev pub AreOwed : BoardView → List Bench → Type 0
AreOwed board benches =
    (parts : Parts) × (n : ℕ) × (mes : List Me) × HaveReturned parts n mes benches × All (λ (me : Me). me.seat.board ≡ board) mes

-- workers sat down with these owners and rows of passes, the first with the root's task; they have worked, and what they
-- gave back is taken apart
pub record HaveWorked (parts : Parts) (n : ℕ) (seat : SeatView) (owners : List Owner) (rows : List (List DoorPass))
    (root : TaskParts) (apart : Apart) : Type 0 where
  pub mes : List Me
  pub dones : List Done
  pub seated : AreSeatedBy seat owners rows root mes
  pub done : AreDone parts n mes dones
  pub is : IsApart parts n (record seat { may = seat.may - length owners }) dones apart
