-- What a worker owes when nothing is left to do.
use Rattle.std.proofs.Common.{◌≡◌, ℕ, Option, Some, None, List, [], ◌∷◌, ◌++◌, length, map, ap, refl, sym, ◌∙◌, subst, arith}
use Rattle.std.specs.Prelude.{IsPermutation}
use Rattle.std.proofs.lemmas.List.{append-nil}
use Rattle.plant_model.specs.declared.parts.Parts.{Parts}
use Rattle.slot_box.specs.Tasks.{TaskParts}
use Rattle.search_node.specs.Notes.{box_note}
use Rattle.task_deck.specs.declared.ends.DoorPass.{DoorPass}
use Rattle.task_deck.specs.declared.ends.Owner.{Owner}
use Rattle.task_deck.specs.Decks.{owner_view}
use Rattle.work_chains.specs.BoxChains.{AreBoxChains, BoxTask}
use Rattle.branch_worker.specs.declared.site.Alone.{Alone}
use Rattle.branch_worker.specs.declared.site.Done.{Done}
use Rattle.branch_worker.specs.declared.site.Me.{Me}
use Rattle.branch_worker.specs.declared.worker.Worker.{Worker}
use Rattle.task_deck.specs.Accounts.{all_stolen}
use Rattle.branch_worker.specs.Work.{IsAloneDone, IsDone, IsWorkNoted, box_task, first_tasks}
use Rattle.branch_worker.specs.inside.Working.{HasSameOwner, IsWorking, Start, came_to, popped_of, pushed_of}

-- what is said of all its notes
pub IsWorkNoted-ended : (start : Start) (worker : Worker) (working : IsWorking start worker None None) →
    IsWorkNoted start.parts start.slots start.seat worker.seat working.over worker.notes worker.found
IsWorkNoted-ended start worker working = record {
  seat = working.seat;
  notes_are = working.notes;
  true_notes = working.true_notes;
  in_turn = working.in_turn;
  falling = working.falling;
  left = working.left;
  looks = working.looks;
  seen = λ k d inside. record { since = working.since k d inside; still = (working.known k d inside).seen };
  best = working.found;
}

-- ---- alone

no-passes : (passes : List DoorPass) → length passes ≡ 0 → all_stolen passes ≡ []
no-passes [] none = refl
no-passes (pass ∷ passes) none = absurd (omega (arith, none))

no-owner : (owner : Option Owner) → HasSameOwner None owner → (popped_of owner ≡ []) × (pushed_of owner ≡ [])
no-owner None same = (refl, refl)
no-owner (Some owner) same = absurd same

abbrev alone_start : Parts → ℕ → Alone → Start
alone_start parts slots me = record { parts = parts; slots = slots; seat = me.seat; first = me.first; owner = None; passes = [] }

pub IsAloneDone-ended : (parts : Parts) (slots : ℕ) (me : Alone) (worker : Worker) →
    (working : IsWorking (alone_start parts slots me) worker None None) →
    worker.waiting ≡ [] → IsAloneDone parts slots me
    (record { number = me.number; seat = worker.seat; notes = worker.notes; cuts = worker.cuts; found = worker.found })
IsAloneDone-ended parts slots me worker working none = record {
  number = refl;
  over = working.over;
  work = IsWorkNoted-ended (alone_start parts slots me) worker working;
  taken = record { kept = working.tasks.kept; chains = chains; used = working.tickets };
  cuts = working.cuts;
}
  where
    came : came_to (alone_start parts slots me) worker ≡ me.first
    came =
        ap (λ (l : List TaskParts). me.first ++ l ++ all_stolen worker.passes) (no-owner worker.owner working.tasks.owner).0
        ∙ ap (λ (l : List TaskParts). me.first ++ [] ++ l) (no-passes worker.passes working.tasks.passes.many)
        ∙ append-nil (me.first ++ [])
        ∙ append-nil me.first

    all : working.tasks.taken ≡ map box_task me.first ++ working.tasks.kept
    all =
        sym (append-nil working.tasks.taken)
        ∙ ap (λ (l : List TaskParts). working.tasks.taken ++ map box_task l) (sym none)
        ∙ working.tasks.came
        ∙ ap (λ (l : List TaskParts). map box_task l ++ working.tasks.kept) came

    handed : working.tasks.handed ≡ working.tasks.kept
    handed = working.tasks.went ∙ ap (λ (l : List TaskParts). map box_task l ++ working.tasks.kept) (no-owner worker.owner working.tasks.owner).1

    chains : AreBoxChains (map box_task me.first ++ working.tasks.kept) (map box_note working.over) working.tasks.kept None
    chains =
        subst (λ (l : List BoxTask). AreBoxChains l (map box_note working.over) working.tasks.kept None) all
        (subst (λ (l : List BoxTask). AreBoxChains working.tasks.taken (map box_note working.over) l None) handed working.tasks.chains)

-- ---- among others

module _ (parts : Parts) (slots : ℕ) (me : Me) (worker : Worker) (owner : Owner) (is_owner : worker.owner ≡ Some owner) (none : worker.waiting ≡ []) where
  abbrev start : Start
  start = record { parts = parts; slots = slots; seat = me.seat; first = first_tasks me.first; owner = Some me.owner; passes = me.passes }

  abbrev done : Done
  done = record {
    number = me.number;
    seat = worker.seat;
    owner = owner;
    passes = worker.passes;
    notes = worker.notes;
    cuts = worker.cuts;
    tokens = [];
    found = worker.found;
  }

  module _ (working : IsWorking start worker None None) where
    came : IsPermutation working.tasks.taken
        (map box_task (first_tasks me.first ++ (owner_view owner).popped ++ all_stolen worker.passes) ++ working.tasks.kept)
    came =
        subst (λ (o : Option Owner).
        IsPermutation working.tasks.taken (map box_task (first_tasks me.first ++ popped_of o ++ all_stolen worker.passes) ++ working.tasks.kept)) is_owner
        (subst (λ (l : List BoxTask). IsPermutation l (map box_task (came_to start worker) ++ working.tasks.kept)) (append-nil working.tasks.taken)
        (subst (λ (l : List TaskParts). IsPermutation (working.tasks.taken ++ map box_task l) (map box_task (came_to start worker) ++ working.tasks.kept)) none
        working.tasks.came))

    went : IsPermutation working.tasks.handed (map box_task (owner_view owner).pushed ++ working.tasks.kept)
    went =
        subst (λ (o : Option Owner). IsPermutation working.tasks.handed (map box_task (pushed_of o) ++ working.tasks.kept)) is_owner working.tasks.went

    pub IsDone-ended : IsDone parts slots me done
    IsDone-ended = record {
      number = refl;
      owner = subst (HasSameOwner (Some me.owner)) is_owner working.tasks.owner;
      passes = working.tasks.passes;
      over = working.over;
      work = IsWorkNoted-ended start worker working;
      taken = record {
        taken = working.tasks.taken;
        handed = working.tasks.handed;
        kept = working.tasks.kept;
        chains = working.tasks.chains;
        came = came;
        went = went;
        used = working.tickets;
      };
      cuts = working.cuts;
      tokens = refl;
    }
