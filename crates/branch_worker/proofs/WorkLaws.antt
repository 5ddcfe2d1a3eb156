-- What a worker keeps from step to step.
use Rattle.std.proofs.Common.{◌≡◌, ℕ, ℤ, Option, Some, None, List, [], ◌∷◌, ◌++◌, length, map, ap, refl, sym, ◌∙◌, subst, arith}
use Rattle.std.proofs.lemmas.List.{length_push, map-append, same_from_push}
use Rattle.std.proofs.lemmas.List.Elements.{All-push}
use Rattle.number_laws.specs.Missing.{IsAtMost}
use Rattle.number_laws.proofs.MissingLaws.{IsAtMost-trans, IsAtMost-refl}
use Rattle.slot_box.specs.declared.node.Leaf.{Leaf as LeafKind}
use Rattle.slot_box.specs.declared.node.Leaf.TheVariants.{Point}
use Rattle.slot_box.specs.declared.node.Node.{Node}
use Rattle.slot_box.specs.declared.node.Node.TheVariants.{Inner, Leaf}
use Rattle.slot_box.specs.declared.slot.Slot.{Slot}
use Rattle.slot_box.specs.Tasks.{TaskParts}
use Rattle.search_node.specs.declared.looked.NodeNote.{NodeNote}
use Rattle.search_node.specs.Values.{warm_value}
use Rattle.work_chains.specs.Chains.{tickets_of, leaf_note}
use Rattle.work_chains.specs.BoxChains.{BoxNote, DividesBox}
use Rattle.work_chains.proofs.ChainLaws.{chains-close}
use Rattle.slot_box.specs.Splits.{left_of, right_of}
use Rattle.branch_worker.specs.declared.worker.Worker.{Worker}
use Rattle.search_node.specs.Notes.{NoteOver, box_note}
use Rattle.branch_worker.specs.NoteBoxes.{IsTrueNote}
use Rattle.branch_worker.specs.NoteOrder.{IsInnerNode}
use Rattle.branch_worker.specs.Work.{IsLeftOpenOrBeaten, IsLeftWell}
use Rattle.branch_worker.specs.inside.Working.{HasLooked, IsBelowWarm, IsKnownTo, IsWorking, Start, note_over, setting_of, SawAtLeast}
use Rattle.branch_worker.proofs.NoteLaws.{in_turn-push, seen-before, falling-push}

-- the note of a leaf adds no ticket
tickets-leaf : (notes : List BoxNote) (id : ℕ) (box : List Slot) → tickets_of (notes ++ leaf_note id box ∷ []) ≡ tickets_of notes
tickets-leaf [] id box = refl
tickets-leaf (first ∷ notes) id box = rw (tickets-leaf notes id box) refl

module _ (start : Start) (worker : Worker) (task : TaskParts) (leaf : LeafKind) (value seen : Option ℤ)
    (working : IsWorking start worker (Some task) None) (looked : HasLooked worker) (is_seen : seen ≡ worker.seat.seen)
    (true_note : IsTrueNote (setting_of start) (note_over task (Leaf leaf) value seen)) (left : IsLeftOpenOrBeaten worker.seat leaf value)
    (point : leaf ≡ Point → IsAtMost value worker.seat.offer) (warm : IsBelowWarm (setting_of start) task value) where
  abbrev over_note : NoteOver
  over_note = note_over task (Leaf leaf) value seen

  abbrev new_note : NodeNote
  new_note = over_note.note

  abbrev more_notes : List NodeNote
  more_notes = worker.notes ++ new_note ∷ []

  abbrev more_over : List NoteOver
  more_over = working.over ++ over_note ∷ []

  boxes : map box_note more_over ≡ map box_note working.over ++ leaf_note task.id task.box ∷ []
  boxes = map-append box_note working.over (over_note ∷ [])

  no_ticket : tickets_of (map box_note more_over) ≡ tickets_of (map box_note working.over)
  no_ticket = ap (λ (l : List BoxNote). tickets_of l) boxes ∙ tickets-leaf (map box_note working.over) task.id task.box

  pub IsWorking-left : IsWorking start (record worker { notes = more_notes }) None None
  IsWorking-left = record {
    over = more_over;
    notes = ap (λ (l : List NodeNote). l ++ new_note ∷ []) working.notes ∙ sym (map-append (λ (o : NoteOver). o.note) working.over (over_note ∷ []));
    tasks = record {
      taken = working.tasks.taken;
      handed = working.tasks.handed;
      kept = working.tasks.kept;
      chains = rw boxes
          (chains-close DividesBox left_of right_of working.tasks.taken working.tasks.handed (map box_note working.over) task.id task.box working.tasks.chains);
      came = working.tasks.came;
      went = working.tasks.went;
      owner = working.tasks.owner;
      passes = working.tasks.passes;
    };
    tickets = working.tickets ∙ sym no_ticket;
    drawn = working.drawn ∙ ap (λ (l : List ℕ). length l) (sym no_ticket);
    seat = working.seat;
    true_notes = All-push (IsTrueNote (setting_of start)) working.over over_note working.true_notes true_note;
    in_turn = in_turn-push worker.notes new_note working.in_turn (seen-before worker.seat new_note is_seen worker.notes looked.seen);
    falling = falling-push worker.notes new_note working.falling
        (λ before last is inner. IsAtMost-trans value (Some (warm_value (setting_of start) task)) last.value warm (working.goes_on before last is inner));
    goes_on = λ before last is inner. absurd (subst (λ (n : NodeNote). IsInnerNode n.node) (sym (same_from_push worker.notes before new_note last is).1) inner);
    left = All-push (IsLeftWell worker.seat) worker.notes new_note working.left left;
    known = All-push (IsKnownTo worker.seat) worker.notes new_note working.known
        (record { seen = subst (λ (s : Option ℤ). IsAtMost s worker.seat.seen) (sym is_seen) (IsAtMost-refl worker.seat.seen); point = λ is. point (same-leaf is) });
    since = All-push (SawAtLeast start.seat.seen) worker.notes new_note working.since
        (subst (IsAtMost start.seat.seen) (sym is_seen) working.seat.seen);
    looks = (let more = length_push worker.notes new_note in omega (arith, more, looked.looks));
    found = working.found;
    cuts = working.cuts;
  }
    where
      leaf_or : Node → LeafKind
      leaf_or (Leaf l) = l
      leaf_or (Inner ticket split) = leaf

      same-leaf : {l : LeafKind} → Leaf l ≡ Leaf Point → l ≡ Point
      same-leaf is = ap leaf_or is
