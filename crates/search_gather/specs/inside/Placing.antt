-- Tables that are filled place by place, and the place of each node.
use Rattle.std.specs.Prelude.{ℕ, ◌+◌, ◌-◌, ◌*◌, ◌/◌, ◌%◌, ◌==◌, ◌<◌, ◌≤◌, if◌then◌else◌, Option, Some, None, List, [], ◌∷◌, length, slice_set}
use Rattle.std.specs.List.{AllByRecursion, slice_index_or}
use Rattle.limits.specs.declared.TheConstants.{MOST_NODES}
use Rattle.slot_box.specs.declared.node.Leaf.TheVariants.{Point}
use Rattle.slot_box.specs.declared.node.Node.{Node}
use Rattle.slot_box.specs.declared.node.Node.TheVariants.{Inner, Leaf}
use Rattle.search_node.specs.declared.looked.NodeNote.{NodeNote}

-- the table once each of these is written at its place
abbrev pub written : {X : Type 0} → List (ℕ × X) → List X → List X
written [] table = table
written (first ∷ more) table = written more (slice_set table first.0 first.1)

-- ---- by old ids and tickets

-- the ticket that a node holds
abbrev pub ticket_of : Node → Option ℕ
ticket_of (Inner ticket split) = Some ticket
ticket_of (Leaf leaf) = None

-- that of a note's node, at the note's id
abbrev pub ticket_at : NodeNote → ℕ × Option ℕ
ticket_at note = (note.id, ticket_of note.node)

-- each id is below the limit
abbrev pub AreIdsBelow : ℕ → List NodeNote → Type 0
AreIdsBelow n notes = AllByRecursion (λ (note : NodeNote). note.id < n) notes

-- the turn of each ticket, from the k-th on
abbrev pub turns_from : ℕ → List ℕ → List (ℕ × ℕ)
turns_from k [] = []
turns_from k (ticket ∷ order) = (ticket, k) ∷ turns_from (k + 1) order

-- each ticket is below the limit
abbrev pub AreTurnsBelow : ℕ → List ℕ → Type 0
AreTurnsBelow n order = AllByRecursion (λ (ticket : ℕ). ticket < n) order

-- ---- by new ids

-- the turn of a ticket
abbrev pub turn_of : List ℕ → ℕ → ℕ
turn_of turns ticket = slice_index_or turns ticket 0

-- the new id of a node: that of the same part under its parent's turn
abbrev pub id_in : List ℕ → ℕ → ℕ
id_in turns id = if id == 0 then 0 else 2 * turn_of turns ((id - 1) / 2) + 1 + (id - 1) % 2

-- a node under its new ticket
abbrev pub node_in : List ℕ → Node → Node
node_in turns (Inner ticket split) = Inner (turn_of turns ticket) split
node_in turns (Leaf leaf) = Leaf leaf

-- a note's node in its new place
abbrev pub node_at : List ℕ → NodeNote → ℕ × Node
node_at turns note = (id_in turns note.id, node_in turns note.node)

-- what stands where no node is yet
abbrev pub empty_place : Node
empty_place = Leaf Point

-- the turns are few, and each is one of them
pub record AreTurns (turns : List ℕ) : Type 0 where
  pub few : length turns ≤ MOST_NODES
  pub below : (ticket : ℕ) → ticket < length turns → turn_of turns ticket < length turns

-- the id is that of the root or of a part under a ticket that has a turn
abbrev pub HasTurn : List ℕ → ℕ → Type 0
HasTurn turns id = id < 2 * length turns + 1

-- the ticket of the node, if it has one, has a turn
abbrev pub HasOwnTurn : List ℕ → Node → Type 0
HasOwnTurn turns (Inner ticket split) = ticket < length turns
HasOwnTurn turns (Leaf leaf) = Unit {0}

-- each note's node gets a place and a ticket by its turn
abbrev pub HaveTurns : List ℕ → List NodeNote → Type 0
HaveTurns turns notes =
    AllByRecursion (λ (note : NodeNote). HasTurn turns note.id × HasOwnTurn turns note.node) notes
