-- What holds of a core after any events, in whatever order they come.
use Rattle.std.specs.Prelude.{◌≡◌, ℕ, ℤ, ◌+◌, ◌<◌, ◌≤◌, ◌≤ℤ◌, true, IsTrue, Option, Some, None, List, [], ◌∷◌, length, Contains}
use Rattle.limits.specs.declared.TheConstants.{MOST_NODES, MOST_WORKERS}
use Rattle.work_chains.specs.NodeChains.{AreSettledNodes}
use Rattle.search_core.specs.declared.event.Event.{Event}
use Rattle.search_core.specs.declared.event.Event.TheVariants.{Offer}
use Rattle.search_core.specs.Cores.{Core, worker_at, first_core, tickets_given, node_notes, nodes_of}
use Rattle.search_core.specs.Events.{is_enabled, after}
use Rattle.search_core.specs.Good.{IsGood}

-- the events lead from one core to another, each where its condition holds
abbrev pub IsRun : Core → List Event → Core → Type 0
IsRun core [] end = core ≡ end
IsRun core (event ∷ events) end = IsTrue (is_enabled core event) × IsRun (after core event) events end

-- the margins that the events offer
abbrev pub offers_of : List Event → List ℤ
offers_of [] = []
offers_of (Offer w margin ∷ events) = margin ∷ offers_of events
offers_of (event ∷ events) = offers_of events

-- the margin is the greatest of these, and none where there are none
abbrev pub IsGreatest : Option ℤ → List ℤ → Type 0
IsGreatest None margins = margins ≡ []
IsGreatest (Some best) margins =
    Contains margins best × ((margin : ℤ) → Contains margins margin → margin ≤ℤ best)

-- no worker has a node in its hand, its kept list or its deck
abbrev pub IsIdle : Core → Type 0
IsIdle core = (w : ℕ) → w < length core.workers → nodes_of (worker_at core w) ≡ []

-- some worker was refused a ticket
abbrev pub HasSpent : Core → Type 0
HasSpent core = (w : ℕ) × (w < length core.workers) × ((worker_at core w).spent ≡ true)

-- where a worker is spent, all of the budget was given
abbrev pub GivesTheBudget : Core → Type 0
GivesTheBudget core = HasSpent core → tickets_given core ≡ core.budget

-- where no node waits, the notes are those of a whole search tree
abbrev pub SettlesWhenIdle : Core → Type 0
SettlesWhenIdle core = IsIdle core → AreSettledNodes (node_notes core.notes) (tickets_given core)

-- what holds after the events: the core is good, and its best is the greatest margin that was offered; all of the
-- budget was given where a worker is spent; and where no node waits, the notes are those of a whole search tree
pub record HoldsAfter (events : List Event) (core : Core) : Type 0 where
  pub good : IsGood core
  pub best : IsGreatest core.best (offers_of events)
  pub spent : GivesTheBudget core
  pub settled : SettlesWhenIdle core

-- so it is after all events that can come, one after the other, from the first core on
abbrev pub RunsAreGood : Type 0
RunsAreGood =
    (workers budget : ℕ) (events : List Event) (core : Core) → 1 ≤ workers → workers ≤ MOST_WORKERS + 1
    → budget ≤ MOST_NODES → IsRun (first_core workers budget) events core → HoldsAfter events core
