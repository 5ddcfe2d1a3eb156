-- What lies on the workers' benches, before and after they have worked.
use Rattle.std.specs.Prelude.{◌≡◌, ◌⊎◌, ℕ, ◌+◌, ◌<◌, ◌==◌, if◌then◌else◌, All, IfSome, List, [], ◌∷◌, ◌++◌, length, map, slice_index_or, Option, None, Some}
use Rattle.plant_model.specs.declared.parts.Parts.{Parts}
use Rattle.search_board.specs.Seats.{SeatView, seat_from}
use Rattle.slot_box.specs.Tasks.{TaskParts}
use Rattle.task_deck.specs.declared.ends.DoorPass.{DoorPass}
use Rattle.task_deck.specs.declared.ends.Owner.{Owner}
use Rattle.branch_worker.specs.declared.site.Me.{Me}
use Rattle.branch_worker.specs.declared.site.Site.{Site}
use Rattle.branch_worker.specs.Sites.{IsAtDoors, IsFreshSeat}
use Rattle.branch_worker.specs.Work.{IsDone, first_tasks}
use Rattle.search_team.specs.declared.benches.Bench.{Bench}

-- ---- before the work

-- the first worker's first task is the root's, which nobody has then any more
abbrev pub first_for : ℕ → Option TaskParts → Option TaskParts
first_for number root = if number == 0 then root else None

abbrev pub root_after : ℕ → Option TaskParts → Option TaskParts
root_after number root = if number == 0 then None else root

-- the first tasks of all workers
abbrev pub all_first : List Me → List TaskParts
all_first [] = []
all_first (me ∷ mes) = first_tasks me.first ++ all_first mes

-- the workers, by their numbers: each has a seat that this one made, its owner and its row of passes, and one has the
-- root's task
pub record AreSeatedBy (seat : SeatView) (owners : List Owner) (rows : List (List DoorPass)) (root : TaskParts)
    (mes : List Me) : Type 0 where
  pub seats : All (λ (me : Me). me.seat ≡ seat_from seat) mes
  pub owners_are : map (λ (me : Me). me.owner) mes ≡ owners
  pub rows_are : map (λ (me : Me). me.passes) mes ≡ rows
  pub numbers : (i : ℕ) (me : Me) → i < length mes → (slice_index_or mes i me).number ≡ i
  pub firsts : all_first mes ≡ root ∷ []

-- a worker that may begin at the site
pub record MayBegin (site : Site) (me : Me) : Type 0 where
  pub seat : IsFreshSeat site.board.now me.seat
  pub doors : IsAtDoors site.doors.now me

-- a bench where such a worker sits, and has given nothing back
pub record IsSeated (site : Site) (bench : Bench) : Type 0 where
  pub may : IfSome bench.me (MayBegin site)
  pub nothing : bench.done ≡ None

-- the bench of a worker that has not begun
abbrev pub bench_of : Me → Bench
bench_of me = record { me = Some me; done = None }

-- the benches of workers, the last worker's first
abbrev pub benches_of : List Me → List Bench
benches_of [] = []
benches_of (me ∷ mes) = benches_of mes ++ bench_of me ∷ []

-- in the middle of seating them: owners and rows that are left, who has the root's task, and what was done
pub record IsSeating (first : SeatView) (all_owners owners : List Owner) (all_rows rows : List (List DoorPass)) (task : TaskParts)
    (root : Option TaskParts) (seat : SeatView) (benches : List Bench) : Type 0 where
  pub mes : List Me
  pub benches_are : benches ≡ benches_of mes
  pub both : length owners ≡ length rows
  pub owners_are : all_owners ≡ owners ++ map (λ (me : Me). me.owner) mes
  pub rows_are : all_rows ≡ rows ++ map (λ (me : Me). me.passes) mes
  pub seats : All (λ (me : Me). me.seat ≡ seat_from first) mes
  pub numbers : (i : ℕ) (me : Me) → i < length mes → (slice_index_or mes i me).number ≡ length owners + i
  pub seat_is : seat ≡ record first { may = seat.may }
  pub may : seat.may + length mes ≡ first.may
  pub firsts : all_first mes ++ first_tasks root ≡ task ∷ []
  pub held : (0 < length owners) ⊎ (root ≡ None)

-- ---- after the work

-- what was given back on a bench, if anything was, is what the worker owed
pub record HasReturned (site : Site) (old new : Bench) : Type 0 where
  pub owed : (me : Me) → old.me ≡ Some me → IfSome new.done (IsDone site.plant.now site.n me)

-- the benches of workers: the last one is the first worker's
abbrev pub HaveReturned : Parts → ℕ → List Me → List Bench → Type 0
HaveReturned parts n [] benches = benches ≡ []
HaveReturned parts n (me ∷ mes) benches =
    (others : List Bench) × (bench : Bench) × (benches ≡ others ++ bench ∷ []) × IfSome bench.done (IsDone parts n me)
    × HaveReturned parts n mes others
