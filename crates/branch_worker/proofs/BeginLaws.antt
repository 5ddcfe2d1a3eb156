-- A worker as it begins.
use Rattle.std.proofs.Common.{◌≡◌, ℕ, suc, Bool, Option, None, List, [], ◌∷◌, ◌++◌, ap, refl, sym, ◌∙◌, subst, arith}
use Rattle.std.specs.Prelude.{All}
use Rattle.std.proofs.lemmas.List.Elements.{All-nil}
use Rattle.number_laws.proofs.MissingLaws.{IsAtMost-refl}
use Rattle.plant_model.specs.declared.parts.Parts.{Parts}
use Rattle.slot_box.specs.Tasks.{TaskParts}
use Rattle.leaf_value.specs.Settings.{plain_setting}
use Rattle.search_board.specs.Seats.{BoardView, SeatView}
use Rattle.task_deck.specs.declared.ends.DoorPass.{DoorPass}
use Rattle.task_deck.specs.declared.ends.Owner.{Owner}
use Rattle.task_deck.specs.Decks.{pass_view}
use Rattle.branch_worker.specs.declared.worker.Worker.{Worker}
use Rattle.branch_worker.specs.NoteBoxes.{IsTrueNote}
use Rattle.branch_worker.specs.Sites.{IsFreshSeat}
use Rattle.task_deck.specs.Accounts.{all_stolen}
use Rattle.branch_worker.specs.Work.{IsLeftWell}
use Rattle.branch_worker.specs.inside.Working.{IsKnownTo, IsWorking, SawAtLeast, popped_of, pushed_of, start_of}
use Rattle.branch_worker.proofs.TaskLaws.{HasTasks-begun}

no-last : {X : Type 0} (before : List X) (last : X) → [] ≡ before ++ last ∷ [] → ⊥
no-last [] last is = cc
no-last (first ∷ before) last is = cc

-- the worker that begins has done nothing
pub IsWorking-begun : (parts : Parts) (slots : ℕ) (board : BoardView) (seat : SeatView) (first : List TaskParts) (owner : Option Owner)
    (passes : List DoorPass) (busy : Bool) (worker : Worker) → IsFreshSeat board seat →
    worker ≡ record { seat = seat; waiting = first; notes = []; cuts = []; found = None; drawn = 0; owner = owner; passes = passes; busy = busy } →
    popped_of owner ≡ [] → pushed_of owner ≡ [] → all_stolen passes ≡ [] → IsWorking (start_of parts slots worker) worker None None
IsWorking-begun parts slots board seat first owner passes busy worker fresh is popped pushed stolen =
    subst (λ (w : Worker). IsWorking (start_of parts slots w) w None None) (sym is) begun
  where
    new : Worker
    new = record { seat = seat; waiting = first; notes = []; cuts = []; found = None; drawn = 0; owner = owner; passes = passes; busy = busy }

    begun : IsWorking (start_of parts slots new) new None None
    begun = record {
      over = [];
      notes = refl;
      tasks = HasTasks-begun (start_of parts slots new) new refl refl refl popped pushed stolen;
      tickets = fresh.no_tickets;
      drawn = refl;
      seat = record { board = refl; stands = refl; may = refl; seen = IsAtMost-refl seat.seen };
      true_notes = All-nil (IsTrueNote (plain_setting parts slots));
      in_turn = λ i j d less inside. absurd (omega (arith, inside));
      falling = tt;
      goes_on = λ before last is inner. absurd (no-last before last is);
      left = All-nil (IsLeftWell seat);
      known = All-nil (IsKnownTo seat);
      since = All-nil (SawAtLeast seat.seen);
      looks = omega arith;
      found = record { plan = tt; offered = fresh.no_offer };
      cuts = refl;
    }

-- by passes that stole nothing nothing was stolen
pub stolen-none : (passes : List DoorPass) → All (λ (pass : DoorPass). (pass_view pass).stolen ≡ []) passes → all_stolen passes ≡ []
stolen-none [] none = refl
stolen-none (pass ∷ passes) none =
    ap (λ (l : List TaskParts). l ++ all_stolen passes) (none 0 pass (omega arith)) ∙ stolen-none passes (λ k d inside. none (suc k) d (omega (arith, inside)))
