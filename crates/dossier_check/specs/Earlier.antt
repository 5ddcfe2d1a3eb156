-- Which box a node has, where the nodes are met in the order of their ids: it comes from an inner node before it.
use Rattle.std.specs.Prelude.{ℕ, ◌+◌, ◌-◌, ◌*◌, ◌/◌, ◌==◌, Bool, if◌then◌else◌, List, [], ◌∷◌, Option, Some, None, option_map}
use Rattle.std.specs.Option.{is_some}
use Rattle.slot_box.specs.declared.node.Node.{Node}
use Rattle.slot_box.specs.declared.node.Node.TheVariants.{Inner, Leaf}
use Rattle.slot_box.specs.declared.slot.Slot.{Slot}
use Rattle.slot_box.specs.declared.split.Split.{Split}
use Rattle.slot_box.specs.Splits.{left_of, right_of}

-- an inner node that was met: the ticket that it holds, its box, and what divides it
pub record Holder : Type 0 where
  pub ticket : ℕ
  pub box : List Slot
  pub split : Split

-- the holder of a ticket among those that were met, the last of which comes first
abbrev pub holder_of : ℕ → List Holder → Option Holder
holder_of ticket [] = None
holder_of ticket (holder ∷ earlier) = if holder.ticket == ticket then Some holder else holder_of ticket earlier

-- whether the ticket is held
abbrev pub is_held : ℕ → List Holder → Bool
is_held ticket earlier = is_some (holder_of ticket earlier)

-- what the holder of ticket T leaves to a child: the left part to node 2T + 1, the right part to node 2T + 2
abbrev pub part_for : ℕ → Holder → List Slot
part_for id holder =
    if id == 2 * holder.ticket + 1 then left_of holder.box holder.split else right_of holder.box holder.split

-- the box of a node: node 0 has the root box, any other its part of the box of its parent, where that was met
abbrev pub box_of : List Slot → List Holder → ℕ → Option (List Slot)
box_of root earlier id = if id == 0 then Some root else option_map (part_for id) (holder_of ((id - 1) / 2) earlier)

-- those that were met with this node too; one that is no inner node, or has no box, has no children
abbrev pub with_node : List Holder → Option (List Slot) → Node → List Holder
with_node earlier None node = earlier
with_node earlier (Some box) (Inner ticket split) = record { ticket = ticket; box = box; split = split } ∷ earlier
with_node earlier (Some box) (Leaf leaf) = earlier
