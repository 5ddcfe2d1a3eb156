-- What holds of a core at all times.
use Rattle.std.specs.Prelude.{◌≡◌, ℕ, ◌+◌, ◌*◌, ◌<◌, ◌≤◌, true, Some, None, List, [], ◌∷◌, ◌++◌, length, if◌then◌else◌, Contains, ◌⊎◌}
use Rattle.limits.specs.declared.TheConstants.{MOST_NODES, MOST_OWN_CUTS, MOST_WORKERS}
use Rattle.number_counts.specs.Counts.{times, HasEachBelow}
use Rattle.number_laws.specs.Missing.{IsAtMost}
use Rattle.work_chains.specs.NodeChains.{NodeTask, AreNodeChains}
use Rattle.search_core.specs.declared.note.CoreNote.{CoreNote}
use Rattle.search_core.specs.declared.worker.Worker.{Worker}
use Rattle.search_core.specs.Cores.{Core, worker_at, tickets_given, held_tickets, noted_tickets, waiting_nodes, noted_nodes, part_nodes, notes_by, task_in}

-- one for a worker that is spent
abbrev pub spent_one : Worker → ℕ
spent_one worker = if worker.spent then 1 else 0

-- how many workers are spent
abbrev pub spent_count : List Worker → ℕ
spent_count [] = 0
spent_count (worker ∷ workers) = spent_one worker + spent_count workers

-- the core is within the limits. One worker more than a search has may end the search
pub record IsWithinLimits (core : Core) : Type 0 where
  pub some_workers : 1 ≤ length core.workers
  pub most_workers : length core.workers ≤ MOST_WORKERS + 1
  pub budget : core.budget ≤ MOST_NODES

-- the tickets that were given are held by a worker or stand in a note, each once. No number is drawn after the budget
-- but once by each worker that is spent
pub record HasTickets (core : Core) : Type 0 where
  pub each : HasEachBelow (tickets_given core) (held_tickets core.workers ++ noted_tickets core.notes)
  pub many : length (held_tickets core.workers ++ noted_tickets core.notes) ≡ tickets_given core
  pub drawn : core.counter ≤ core.budget + spent_count core.workers

-- the nodes in hands, kept lists, decks and notes are node 0 and the two parts under each ticket in a note, each once
pub record HasNodes (core : Core) : Type 0 where
  pub each : (x : ℕ) → times x (waiting_nodes core.workers ++ noted_nodes core.notes)
      ≡ times x (0 ∷ part_nodes (noted_tickets core.notes))
  pub many : length (waiting_nodes core.workers ++ noted_nodes core.notes)
      ≡ length (0 ∷ part_nodes (noted_tickets core.notes))
  pub parents_first : (note : CoreNote) (ticket : ℕ) → Contains core.notes note → note.ticket ≡ Some ticket
      → note.id ≤ 2 * ticket

-- the notes of a worker are chains laid end to end, and where its hand is full, the last one goes on there
pub record HasChains (core : Core) (w : ℕ) (worker : Worker) : Type 0 where
  pub taken : List NodeTask
  pub handed : List NodeTask
  pub chains : AreNodeChains taken (notes_by w core.notes) handed (task_in worker.hand)

-- what holds of each worker: with a ticket it has a node in hand, which comes before the ticket's parts; it is spent
-- only where a number not below the budget was drawn; and it has offered and seen no more than the best
pub record IsGoodWorker (core : Core) (w : ℕ) (worker : Worker) : Type 0 where
  pub full : (ticket : ℕ) → worker.ticket ≡ Some ticket → (id : ℕ) × (worker.hand ≡ Some id) × (id ≤ 2 * ticket)
  pub spent : worker.spent ≡ true → core.budget < core.counter
  pub offered : IsAtMost worker.offered core.best
  pub seen : IsAtMost worker.seen core.best
  pub cuts : worker.cuts ≤ MOST_OWN_CUTS
  pub chains : HasChains core w worker

-- some worker has offered the best, if anything was offered
abbrev pub IsOffered : Core → Type 0
IsOffered core =
    (core.best ≡ None) ⊎ ((w : ℕ) × (w < length core.workers) × ((worker_at core w).offered ≡ core.best))

-- the core is good
pub record IsGood (core : Core) : Type 0 where
  pub limits : IsWithinLimits core
  pub tickets : HasTickets core
  pub nodes : HasNodes core
  pub workers : (w : ℕ) → w < length core.workers → IsGoodWorker core w (worker_at core w)
  pub best : IsOffered core
