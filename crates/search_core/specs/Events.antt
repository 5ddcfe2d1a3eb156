-- The events of a search: when each can come, and what it changes.
use Rattle.std.specs.Prelude.{ℕ, ◌+◌, ◌*◌, Bool, true, false, ◌&&◌, ◌||◌, ◌==◌, nat_lt, not, is_some, is_none, unwrap_or, if◌then◌else◌, Option, Some, None, List, [], ◌∷◌, ◌++◌, length, drop, slice_index}
use Rattle.limits.specs.declared.TheConstants.{MOST_OWN_CUTS}
use Rattle.number_laws.specs.Missing.{greater}
use Rattle.search_core.specs.declared.event.Event.{Event}
use Rattle.search_core.specs.declared.event.Event.TheVariants.{Take, Steal, Ticket, Split, Close, Offer, See, PushCut}
use Rattle.search_core.specs.declared.worker.Worker.{Worker}
use Rattle.search_core.specs.Cores.{Core, worker_at, with_worker}

-- ---- when an event can come

-- a list that is not empty
abbrev pub has_first : List ℕ → Bool
has_first [] = false
has_first (id ∷ ids) = true

-- the worker is one of the core's
abbrev pub is_known : Core → ℕ → Bool
is_known core w = nat_lt w (length core.workers)

-- its hand is empty, and its kept list or its own deck is not
abbrev pub can_take : Worker → Bool
can_take worker = is_none worker.hand && (has_first worker.kept || has_first worker.deck)

-- its hand is full, it holds no ticket and was refused none
abbrev pub can_draw : Worker → Bool
can_draw worker = is_some worker.hand && is_none worker.ticket && not worker.spent

-- its hand is full and it holds no ticket
abbrev pub can_close : Worker → Bool
can_close worker = is_some worker.hand && is_none worker.ticket

-- the condition of each event
abbrev pub is_enabled : Core → Event → Bool
is_enabled core (Take w) = is_known core w && can_take (worker_at core w)
is_enabled core (Steal w from) =
    is_known core w && is_known core from && not (w == from) && is_none (worker_at core w).hand
    && has_first (worker_at core from).deck
is_enabled core (Ticket w) = is_known core w && can_draw (worker_at core w)
is_enabled core (Split w kept) = is_known core w && is_some (worker_at core w).ticket
is_enabled core (Close w) = is_known core w && can_close (worker_at core w)
is_enabled core (Offer w margin) = is_known core w
is_enabled core (See w) = is_known core w
is_enabled core (PushCut w) = is_known core w && nat_lt (worker_at core w).cuts MOST_OWN_CUTS

-- ---- what it changes

-- the worker takes the first node of its kept list, or else of its own deck
abbrev pub taking : Worker → Worker
taking worker =
    if has_first worker.kept
    then record worker { hand = Some (slice_index worker.kept 0); kept = drop 1 worker.kept }
    else record worker { hand = Some (slice_index worker.deck 0); deck = drop 1 worker.deck }

-- the first node of its deck is gone
abbrev pub robbed : Worker → Worker
robbed worker = record worker { deck = drop 1 worker.deck }

-- it has this node in hand
abbrev pub holding : Worker → ℕ → Worker
holding worker id = record worker { hand = Some id }

-- it gets the ticket of this number, or is spent where the number is not below the budget
abbrev pub drawing : ℕ → ℕ → Worker → Worker
drawing budget number worker =
    if nat_lt number budget then record worker { ticket = Some number } else record worker { spent = true }

-- it goes on with the left part under the ticket, and puts the right part at the end of its kept list or of its deck
abbrev pub dividing : Bool → ℕ → Worker → Worker
dividing to_kept ticket worker =
    if to_kept
    then record worker {
      hand = Some (2 * ticket + 1);
      ticket = None;
      kept = worker.kept ++ (2 * ticket + 2) ∷ [];
    }
    else record worker {
      hand = Some (2 * ticket + 1);
      ticket = None;
      deck = worker.deck ++ (2 * ticket + 2) ∷ [];
    }

-- the node in hand, 0 where there is none
abbrev pub node_in : Worker → ℕ
node_in worker = unwrap_or worker.hand 0

-- the ticket that is held, 0 where there is none
abbrev pub ticket_in : Worker → ℕ
ticket_in worker = unwrap_or worker.ticket 0

-- the worker writes a note of the node in hand
abbrev pub with_note : Core → ℕ → Option ℕ → Core
with_note core w ticket =
    record core { notes = core.notes ++ (record { worker = w; id = node_in (worker_at core w); ticket = ticket }) ∷ [] }

-- the core after each event, which can come
abbrev pub after : Core → Event → Core
after core (Take w) = with_worker core w (taking (worker_at core w))
after core (Steal w from) =
    with_worker (with_worker core from (robbed (worker_at core from))) w
    (holding (worker_at core w) (slice_index (worker_at core from).deck 0))
after core (Ticket w) =
    with_worker (record core { counter = core.counter + 1 }) w (drawing core.budget core.counter (worker_at core w))
after core (Split w to_kept) =
    with_worker (with_note core w (worker_at core w).ticket) w
    (dividing to_kept (ticket_in (worker_at core w)) (worker_at core w))
after core (Close w) = with_worker (with_note core w None) w (record (worker_at core w) { hand = None })
after core (Offer w margin) =
    with_worker (record core { best = greater core.best (Some margin) }) w
    (record (worker_at core w) { offered = greater (worker_at core w).offered (Some margin) })
after core (See w) = with_worker core w (record (worker_at core w) { seen = core.best })
after core (PushCut w) = with_worker core w (record (worker_at core w) { cuts = (worker_at core w).cuts + 1 })
