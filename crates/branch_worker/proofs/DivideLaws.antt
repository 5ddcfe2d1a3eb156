-- A box that is divided.
use Rattle.std.proofs.Common.{◌≡◌, ℕ, ◌+◌, ◌*◌, ℤ, ◌≤ℤ◌, Option, Some, None, List, [], ◌∷◌, ◌++◌, length, map, ap, refl, sym, ◌∙◌, subst, arith}
use Rattle.std.specs.Prelude.{◌⊎◌}
use Rattle.std.proofs.lemmas.List.{length_push, map-append, same_from_push}
use Rattle.std.proofs.lemmas.List.Elements.{All-push}
use Rattle.number_laws.specs.Missing.{IsAtMost}
use Rattle.number_laws.proofs.MissingLaws.{IsAtMost-trans, IsAtMost-refl}
use Rattle.slot_box.specs.declared.node.Leaf.{Leaf as LeafKind}
use Rattle.slot_box.specs.declared.node.Leaf.TheVariants.{Undone}
use Rattle.slot_box.specs.declared.node.Node.TheVariants.{Inner}
use Rattle.slot_box.specs.declared.slot.Slot.{Slot}
use Rattle.slot_box.specs.declared.split.Split.{Split}
use Rattle.slot_box.specs.declared.term.Term.{Term}
use Rattle.slot_box.specs.Boxes.{IsBox}
use Rattle.slot_box.specs.Ranges.{IsNodeInRange}
use Rattle.slot_box.specs.Splits.{IsLawfulSplit, left_of, right_of}
use Rattle.slot_box.specs.Tasks.{TaskParts, task_of}
use Rattle.leaf_value.specs.LeafValue.{AreBounding, dual_value_of}
use Rattle.leaf_value.specs.Settings.{Setting}
use Rattle.search_node.specs.declared.looked.NodeNote.{NodeNote}
use Rattle.search_node.specs.Looks.{Beats}
use Rattle.search_node.specs.Laws.{LawfulEntriesAreThere, PartsAreBelowTheWhole}
use Rattle.search_node.specs.Values.{warm_value}
use Rattle.work_chains.specs.Chains.{Outcome, divided, closed, inner_note, tickets_of}
use Rattle.work_chains.specs.BoxChains.{BoxNote, DividesBox}
use Rattle.work_chains.proofs.ChainLaws.{chains-divide}
use Rattle.branch_worker.specs.declared.worker.Worker.{Worker}
use Rattle.search_node.specs.Notes.{NoteOver, box_note}
use Rattle.branch_worker.specs.NoteBoxes.{IsTrueNote}
use Rattle.branch_worker.specs.Work.{IsLeftWell}
use Rattle.branch_worker.specs.inside.Working.{HandsOn, HasLooked, HasSameOwner, IsKnownTo, IsUndecided, IsWorking, Start, StartsBelow, note_over, popped_of, pushed_of, setting_of, SawAtLeast}
use Rattle.branch_worker.proofs.NoteLaws.{in_turn-push, seen-before, falling-push}
use Rattle.branch_worker.proofs.TaskLaws.{HasTasks-handed}
use Rattle.task_deck.specs.declared.ends.Owner.{Owner}

-- ---- the part of a box is worth no more by the same entries

pub starts-below : (setting : Setting) → LawfulEntriesAreThere setting → PartsAreBelowTheWhole setting → (task : TaskParts) (value : ℤ) (leaf : LeafKind) (split : Split)
    (id q : ℕ) (terms : List Term) → IsBox task.box → length task.box ≡ setting.case.slots → IsUndecided setting task value leaf split → leaf ≡ Undone q terms →
    warm_value setting (task_of id (left_of task.box split) q terms) ≤ℤ value
starts-below setting there parts task value leaf split id q terms is slots undecided same =
    let lawful : AreBounding setting q terms = rw same at undecided.leaf_for.lawful in
    let valued : Some value ≡ Some (dual_value_of setting task.box q terms) = rw same at undecided.leaf_for.valued in
    let worth : value ≡ dual_value_of setting task.box q terms = cc in
    let entries = there terms lawful.2 in
    rw (entries, worth) (parts task.box split q terms is slots undecided.lawful lawful.0).0

-- ---- the note of a node that was divided

-- it adds its ticket
tickets-inner : (notes : List BoxNote) (id ticket : ℕ) (box : List Slot) (split : Split) →
    tickets_of (notes ++ inner_note id box ticket split ∷ []) ≡ tickets_of notes ++ ticket ∷ []
tickets-inner [] id ticket box split = refl
tickets-inner (first ∷ notes) id ticket box split = by first.outcome refl (tickets-inner notes id ticket box split)
  where
    by : (o : Outcome Split) → first.outcome ≡ o → tickets_of (notes ++ inner_note id box ticket split ∷ []) ≡ tickets_of notes ++ ticket ∷ [] →
        tickets_of (first ∷ notes ++ inner_note id box ticket split ∷ []) ≡ tickets_of (first ∷ notes) ++ ticket ∷ []
    by (divided t s) is rest = rw (is, rest) refl
    by closed is rest = rw (is, rest) refl

pub true-divided : (setting : Setting) (task : TaskParts) (value : ℤ) (leaf : LeafKind) (split : Split) (seen : Option ℤ) (ticket : ℕ) →
    IsUndecided setting task value leaf split → Beats value seen → IsNodeInRange (Inner ticket split) →
    IsTrueNote setting (note_over task (Inner ticket split) (Some value) seen)
true-divided setting task value leaf split seen ticket undecided beats fits = record {
  outcome = record {
    lawful = undecided.lawful;
    even = undecided.even;
    worth = value;
    valued = refl;
    beats = beats;
    leaf = leaf;
    open_leaf = undecided.open_leaf;
    lawful_leaf = undecided.leaf_for.lawful;
    by_leaf = undecided.leaf_for.valued;
  };
  in_range = fits;
  dead = λ at. ((λ is. cc), (λ blocked. absurd (undecided.alive at blocked)));
  plain = undecided.leaf_for.bounded.plain;
}

module _ (start : Start) (worker : Worker) (task : TaskParts) (ticket : ℕ) (value : ℤ) (seen : Option ℤ) (split : Split) (q : ℕ) (terms : List Term)
    (working : IsWorking start worker (Some task) (Some ticket)) (looked : HasLooked worker) (is_seen : seen ≡ worker.seat.seen)
    (is_box : IsBox task.box) (lawful : IsLawfulSplit task.box split)
    (true_note : IsTrueNote (setting_of start) (note_over task (Inner ticket split) (Some value) seen))
    (warm : value ≤ℤ warm_value (setting_of start) task)
    (below : warm_value (setting_of start) (task_of (2 * ticket + 1) (left_of task.box split) q terms) ≤ℤ value) where
  abbrev over_note : NoteOver
  over_note = note_over task (Inner ticket split) (Some value) seen

  abbrev new_note : NodeNote
  new_note = over_note.note

  abbrev left_task : TaskParts
  left_task = task_of (2 * ticket + 1) (left_of task.box split) q terms

  abbrev right_task : TaskParts
  right_task = task_of (2 * ticket + 2) (right_of task.box split) q terms

  abbrev new_worker : List TaskParts → Option Owner → Worker
  new_worker waiting owner = record worker { notes = worker.notes ++ new_note ∷ []; waiting = waiting; owner = owner; drawn = worker.drawn + 1 }

  abbrev more_over : List NoteOver
  more_over = working.over ++ over_note ∷ []

  boxes : map box_note more_over ≡ map box_note working.over ++ inner_note task.id task.box ticket split ∷ []
  boxes = map-append box_note working.over (over_note ∷ [])

  one_ticket : tickets_of (map box_note more_over) ≡ tickets_of (map box_note working.over) ++ ticket ∷ []
  one_ticket = ap (λ (l : List BoxNote). tickets_of l) boxes ∙ tickets-inner (map box_note working.over) task.id ticket task.box split

  goes-on : (waiting : List TaskParts) (owner : Option Owner) → HandsOn right_task worker (new_worker waiting owner) →
      IsWorking start (new_worker waiting owner) (Some left_task) None
  goes-on waiting owner on = record {
    over = more_over;
    notes = ap (λ (l : List NodeNote). l ++ new_note ∷ []) working.notes ∙ sym (map-append (λ (o : NoteOver). o.note) working.over (over_note ∷ []));
    tasks = HasTasks-handed start worker (new_worker waiting owner) working.over more_over task left_task right_task working.tasks on refl
        (rw boxes (chains-divide DividesBox left_of right_of working.tasks.taken working.tasks.handed (map box_note working.over) task.id task.box ticket split
        (record { box = is_box; lawful = lawful }) working.tasks.chains));
    tickets = working.tickets ∙ sym one_ticket;
    drawn = (let more = length_push (tickets_of (map box_note working.over)) ticket in
        ap (λ (k : ℕ). k + 1) working.drawn ∙ sym more ∙ ap (λ (l : List ℕ). length l) (sym one_ticket));
    seat = working.seat;
    true_notes = All-push (IsTrueNote (setting_of start)) working.over over_note working.true_notes true_note;
    in_turn = in_turn-push worker.notes new_note working.in_turn (seen-before worker.seat new_note is_seen worker.notes looked.seen);
    falling = falling-push worker.notes new_note working.falling
        (λ before last is inner.
        IsAtMost-trans (Some value) (Some (warm_value (setting_of start) task)) last.value warm (working.goes_on before last is inner));
    goes_on = λ before last is inner. subst (λ (n : NodeNote). StartsBelow (setting_of start) (Some left_task) n.value)
        (same_from_push worker.notes before new_note last is).1 below;
    left = All-push (IsLeftWell worker.seat) worker.notes new_note working.left tt;
    known = All-push (IsKnownTo worker.seat) worker.notes new_note working.known
        (record { seen = subst (λ (s : Option ℤ). IsAtMost s worker.seat.seen) (sym is_seen) (IsAtMost-refl worker.seat.seen); point = λ is. cc });
    since = All-push (SawAtLeast start.seat.seen) worker.notes new_note working.since
        (subst (IsAtMost start.seat.seen) (sym is_seen) working.seat.seen);
    looks = (let more = length_push worker.notes new_note in omega (arith, more, looked.looks));
    found = working.found;
    cuts = working.cuts;
  }

  -- after the note, and the handing on of the right part
  pub IsWorking-divided : (noted handed : Worker) → noted ≡ record worker { notes = worker.notes ++ new_note ∷ [] } →
      handed ≡ record noted { waiting = handed.waiting; owner = handed.owner } → HandsOn right_task noted handed →
      IsWorking start (record handed { drawn = handed.drawn + 1 }) (Some left_task) None
  IsWorking-divided noted handed is others on =
      subst (λ (w : Worker). IsWorking start (record w { drawn = w.drawn + 1 }) (Some left_task) None)
      (sym (others ∙ ap (λ (w : Worker). record w { waiting = handed.waiting; owner = handed.owner }) is))
      (goes-on handed.waiting handed.owner (record {
        owner = subst (λ (w : Worker). HasSameOwner w.owner handed.owner) is on.owner;
        popped = on.popped ∙ ap (λ (w : Worker). popped_of w.owner) is;
        went = subst (λ (w : Worker).
            ((handed.waiting ≡ w.waiting) × (pushed_of handed.owner ≡ pushed_of w.owner ++ right_task ∷ []))
            ⊎ ((handed.waiting ≡ w.waiting ++ right_task ∷ []) × (pushed_of handed.owner ≡ pushed_of w.owner))) is on.went;
      }))
