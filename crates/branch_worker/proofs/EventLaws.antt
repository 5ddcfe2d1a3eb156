-- What the board's answers change.
use Rattle.std.proofs.Common.{◌≡◌, ℕ, ◌+◌, ◌≤◌, inl, inr, ℤ, Option, Some, None, List, [], ◌∷◌, ◌++◌, ap, refl, sym, ◌∙◌, subst, arith}
use Rattle.std.specs.Prelude.{All, IfSome, ◌⊎◌}
use Rattle.std.proofs.lemmas.List.Elements.{All-weaker}
use Rattle.number_laws.specs.Missing.{greater, IsAtMost}
use Rattle.number_laws.proofs.MissingLaws.{IsAtMost-trans, IsAtMost-refl, IsGreaterOf-greater}
use Rattle.plan_build.specs.Built.{IsPlanned, found_margin}
use Rattle.replay_core.specs.declared.planned.Planned.{Planned}
use Rattle.slot_box.specs.Tasks.{TaskParts}
use Rattle.search_board.specs.Seats.{SeatView}
use Rattle.search_node.specs.declared.looked.NodeNote.{NodeNote}
use Rattle.branch_worker.specs.declared.worker.Worker.{Worker}
use Rattle.branch_worker.specs.Work.{IsBestFound, IsSameSeat}
use Rattle.branch_worker.specs.inside.Working.{HasLooked, IsKnownTo, IsSeenBy, IsWorking, Start, tickets_with}
use Rattle.branch_worker.proofs.NoteLaws.{KnowsMore, all-known-more, all-left-more}

-- a worker whose seat has learnt more, and that holds such a ticket and has found such a plan, is still at its work
IsWorking-wiser : (start : Start) (worker : Worker) (hand : Option TaskParts) (held : Option ℕ) (seat : SeatView) (found : Option Planned) →
    IsWorking start worker hand None → KnowsMore worker.seat seat → IsSameSeat worker.seat seat → seat.tickets ≡ tickets_with worker.seat.tickets held →
    worker.seat.looks ≤ seat.looks → IsBestFound start.parts start.slots seat.offer found →
    IsWorking start (record worker { seat = seat; found = found }) hand held
IsWorking-wiser start worker hand held seat found working more same tickets looks best = record {
  over = working.over;
  notes = working.notes;
  tasks = record {
    taken = working.tasks.taken;
    handed = working.tasks.handed;
    kept = working.tasks.kept;
    chains = working.tasks.chains;
    came = working.tasks.came;
    went = working.tasks.went;
    owner = working.tasks.owner;
    passes = working.tasks.passes;
  };
  tickets = tickets ∙ ap (λ (l : List ℕ). tickets_with l held) working.tickets;
  drawn = working.drawn;
  seat = record {
    board = same.board ∙ working.seat.board;
    stands = same.stands ∙ working.seat.stands;
    may = same.may ∙ working.seat.may;
    seen = IsAtMost-trans start.seat.seen worker.seat.seen seat.seen working.seat.seen same.seen;
  };
  true_notes = working.true_notes;
  in_turn = working.in_turn;
  falling = working.falling;
  goes_on = working.goes_on;
  left = all-left-more worker.seat seat more worker.notes working.left;
  known = all-known-more worker.seat seat more worker.notes working.known;
  since = working.since;
  looks = omega (arith, working.looks, looks);
  found = best;
  cuts = working.cuts;
}

-- what was seen by the seat is still seen by one that has seen as much
still-seen : (old new : SeatView) → old.seen ≡ new.seen → (notes : List NodeNote) → All (IsSeenBy old) notes → All (IsSeenBy new) notes
still-seen old new same = All-weaker (IsSeenBy old) (IsSeenBy new)
    (λ note by. record { seen = subst (IsAtMost note.seen) same by.seen; point = λ is. subst (IsAtMost note.value) same (by.point is) })

-- two seats that differ in what else they know
same-seat : (seat : SeatView) (tickets : List ℕ) (offer : Option ℤ) (told : Option ℕ) →
    IsSameSeat seat (record seat { tickets = tickets; offer = offer; told = told })
same-seat seat tickets offer told = record { board = refl; stands = refl; may = refl; seen = IsAtMost-refl seat.seen }

module _ (start : Start) (worker : Worker) (hand : Option TaskParts) (working : IsWorking start worker hand None) where
  -- a look
  module _ (seen : Option ℤ) (up : IsAtMost worker.seat.seen seen) (offered : IsAtMost worker.seat.offer seen) where
    abbrev looked_seat : SeatView
    looked_seat = record worker.seat { seen = seen; looks = worker.seat.looks + 1 }

    sees_more : KnowsMore worker.seat looked_seat
    sees_more = record { told = λ number is. (number, is); offer = IsAtMost-refl worker.seat.offer; seen = up }

    pub IsWorking-looked : IsWorking start (record worker { seat = looked_seat }) hand None
    IsWorking-looked =
        IsWorking-wiser start worker hand None looked_seat worker.found working sees_more (record { board = refl; stands = refl; may = refl; seen = up }) refl
        (omega arith) working.found

    pub HasLooked-looked : HasLooked (record worker { seat = looked_seat })
    HasLooked-looked = record {
      looks = omega (arith, working.looks);
      seen = All-weaker (IsKnownTo worker.seat) (IsSeenBy looked_seat)
          (λ note known. record {
            seen = IsAtMost-trans note.seen worker.seat.seen seen known.seen up;
            point = λ is. IsAtMost-trans note.value worker.seat.offer seen (known.point is) offered;
          }) worker.notes working.known;
    }

  -- a plan that is offered
  module _ (found best : Option Planned) (margin : found_margin best ≡ greater (found_margin worker.found) (found_margin found))
      (one : (best ≡ worker.found) ⊎ (best ≡ found)) (plan : IfSome found (IsPlanned start.parts start.slots)) where
    abbrev offered_seat : SeatView
    offered_seat = record worker.seat { offer = greater worker.seat.offer (found_margin found) }

    offers_more : KnowsMore worker.seat offered_seat
    offers_more = record {
      told = λ number is. (number, is);
      offer = (IsGreaterOf-greater worker.seat.offer (found_margin found)).first;
      seen = IsAtMost-refl worker.seat.seen;
    }

    best-offered : IsBestFound start.parts start.slots offered_seat.offer best
    best-offered = record {
      plan = elim one [
        | inl is ↦ subst (λ (p : Option Planned). IfSome p (IsPlanned start.parts start.slots)) (sym is) working.found.plan
        | inr is ↦ subst (λ (p : Option Planned). IfSome p (IsPlanned start.parts start.slots)) (sym is) plan
      ];
      offered = ap (λ (o : Option ℤ). greater o (found_margin found)) working.found.offered ∙ sym margin;
    }

    pub IsWorking-offered : IsWorking start (record worker { seat = offered_seat; found = best }) hand None
    IsWorking-offered =
        IsWorking-wiser start worker hand None offered_seat best working offers_more
        (same-seat worker.seat worker.seat.tickets offered_seat.offer worker.seat.told) refl (omega arith) best-offered

    pub HasLooked-offered : HasLooked worker → HasLooked (record worker { seat = offered_seat; found = best })
    HasLooked-offered looked = record { looks = looked.looks; seen = still-seen worker.seat offered_seat refl worker.notes looked.seen }

  -- a ticket
  module _ (ticket : ℕ) where
    abbrev drawn_seat : SeatView
    drawn_seat = record worker.seat { tickets = worker.seat.tickets ++ ticket ∷ [] }

    draws : KnowsMore worker.seat drawn_seat
    draws = record { told = λ number is. (number, is); offer = IsAtMost-refl worker.seat.offer; seen = IsAtMost-refl worker.seat.seen }

    pub IsWorking-drawn : IsWorking start (record worker { seat = drawn_seat }) hand (Some ticket)
    IsWorking-drawn =
        IsWorking-wiser start worker hand (Some ticket) drawn_seat worker.found working draws
        (same-seat worker.seat drawn_seat.tickets worker.seat.offer worker.seat.told) refl (omega arith) working.found

    pub HasLooked-drawn : HasLooked worker → HasLooked (record worker { seat = drawn_seat })
    HasLooked-drawn looked = record { looks = looked.looks; seen = still-seen worker.seat drawn_seat refl worker.notes looked.seen }

  -- no ticket
  module _ (number : ℕ) where
    abbrev told_seat : SeatView
    told_seat = record worker.seat { told = Some number }

    is_told : KnowsMore worker.seat told_seat
    is_told = record { told = λ old is. (number, refl); offer = IsAtMost-refl worker.seat.offer; seen = IsAtMost-refl worker.seat.seen }

    pub IsWorking-told : IsWorking start (record worker { seat = told_seat }) hand None
    IsWorking-told =
        IsWorking-wiser start worker hand None told_seat worker.found working is_told
        (same-seat worker.seat worker.seat.tickets worker.seat.offer told_seat.told) refl (omega arith) working.found

    pub HasLooked-told : HasLooked worker → HasLooked (record worker { seat = told_seat })
    HasLooked-told looked = record { looks = looked.looks; seen = still-seen worker.seat told_seat refl worker.notes looked.seen }
