-- The order in which tickets have their turns: a ticket may have it once its node has a place.
use Rattle.std.specs.Prelude.{◌≡◌, ◌⊎◌, ℕ, ◌+◌, ◌*◌, ◌<◌, ◌≤◌, Option, Some, None, List, length, slice_get, sum_by}
use Rattle.std.specs.Ordering.{nat_cmp}
use Rattle.std.specs.declared.cmp.Ordering.{Ordering}
use Rattle.std.specs.declared.cmp.Reverse.{Reverse}
use Rattle.limits.specs.declared.TheConstants.{MOST_NODES}
use Rattle.number_counts.specs.Counts.{one}

-- the node of this id holds the ticket
abbrev pub HoldsTicket : List (Option ℕ) → ℕ → ℕ → Type 0
HoldsTicket held id ticket = slice_get held id ≡ Some (Some ticket)

-- the nodes of a tree, from the root on
pub data IsReached (held : List (Option ℕ)) : ℕ → Type 0 where
  from_root : IsReached held 0
  by_left : (id ticket : ℕ) → IsReached held id → HoldsTicket held id ticket → IsReached held (2 * ticket + 1)
  by_right : (id ticket : ℕ) → IsReached held id → HoldsTicket held id ticket → IsReached held (2 * ticket + 2)

-- what the nodes hold are the tickets of a tree, each below t, each once
pub record AreTicketsHeld (held : List (Option ℕ)) : Type 0 where
  pub t : ℕ
  pub few : t ≤ MOST_NODES
  pub nodes : length held ≡ 2 * t + 1
  pub below : (id ticket : ℕ) → HoldsTicket held id ticket → ticket < t
  pub once : (id other ticket : ℕ) → HoldsTicket held id ticket → HoldsTicket held other ticket → id ≡ other
  pub every : (ticket : ℕ) → ticket < t → (id : ℕ) × HoldsTicket held id ticket
  pub reached : (id : ℕ) → id < 2 * t + 1 → IsReached held id

-- the node is a part of the node that holds the ticket
abbrev pub IsPartUnder : ℕ → ℕ → Type 0
IsPartUnder id ticket = (id ≡ 2 * ticket + 1) ⊎ (id ≡ 2 * ticket + 2)

-- one of the first k tickets gave the node its place
pub record IsPlacedBy (order : List ℕ) (k id : ℕ) : Type 0 where
  pub turn : ℕ
  pub ticket : ℕ
  pub before : turn < k
  pub there : slice_get order turn ≡ Some ticket
  pub part : IsPartUnder id ticket

-- the node has a place once the first k tickets had their turns
abbrev pub HasPlace : List ℕ → ℕ → ℕ → Type 0
HasPlace order k id = (id ≡ 0) ⊎ IsPlacedBy order k id

-- some node holds the ticket, and has a place after k turns
pub record IsHeldInPlace (held : List (Option ℕ)) (order : List ℕ) (k ticket : ℕ) : Type 0 where
  pub id : ℕ
  pub holds : HoldsTicket held id ticket
  pub placed : HasPlace order k id

-- the ticket is none of the first k
abbrev pub HadNoTurn : List ℕ → ℕ → ℕ → Type 0
HadNoTurn order k ticket = (j : ℕ) → j < k → slice_get order j ≡ Some ticket → ⊥

-- the order of all tickets
pub record IsTurnOrder (held : List (Option ℕ)) (order : List ℕ) : Type 0 where
  pub count : 2 * length order + 1 ≡ length held
  -- each ticket has a turn, and no more than one
  pub all : (id ticket : ℕ) → HoldsTicket held id ticket → (k : ℕ) × (slice_get order k ≡ Some ticket)
  pub once : (j k ticket : ℕ) → slice_get order j ≡ Some ticket → slice_get order k ≡ Some ticket → j ≡ k
  -- and its node a place before
  pub in_place : (k ticket : ℕ) → slice_get order k ≡ Some ticket → IsHeldInPlace held order k ticket
  -- and it is the least of those that had no turn and whose nodes have a place by then
  pub least : (k ticket other : ℕ) → slice_get order k ≡ Some ticket → IsHeldInPlace held order k other → HadNoTurn order k other
      → ticket ≤ other

-- ---- tickets that are ready

-- the lesser ticket comes first
abbrev pub least_first : Reverse ℕ → Reverse ℕ → Ordering
least_first x y = nat_cmp y.0 x.0

-- how often a ticket is ready
abbrev pub ready_times : ℕ → List (Reverse ℕ) → ℕ
ready_times x ready = sum_by (λ (each : Reverse ℕ). one x each.0) ready

-- how often a node holds it
abbrev pub held_times : ℕ → Option (Option ℕ) → ℕ
held_times x None = 0
held_times x (Some None) = 0
held_times x (Some (Some ticket)) = one x ticket

-- what the node of this id holds is ready now, beside what was
abbrev pub AddsReady : List (Option ℕ) → ℕ → List (Reverse ℕ) → List (Reverse ℕ) → Type 0
AddsReady held id old new = (x : ℕ) → ready_times x new ≡ ready_times x old + held_times x (slice_get held id)
