-- What stands against the nodes of a dossier, each by its line; and the values of its leaves.
use Rattle.std.specs.Prelude.{ℕ, ◌+◌, ◌==◌, ◌&&◌, nat_lt, nat_le, not, ℤ, List, [], ◌∷◌, ◌++◌, length, Option, Some, None}
use Rattle.item_lists.specs.Faults.{unless}
use Rattle.limits.specs.declared.TheConstants.{MOST_MULTIPLIER}
use Rattle.number_laws.specs.Missing.{greater}
use Rattle.slot_box.specs.declared.node.Leaf.{Leaf as LeafKind}
use Rattle.slot_box.specs.declared.node.Leaf.TheVariants.{Dead, Void, Dual, Undone, Point}
use Rattle.slot_box.specs.declared.node.Node.{Node}
use Rattle.slot_box.specs.declared.node.Node.TheVariants.{Inner, Leaf}
use Rattle.slot_box.specs.declared.slot.Slot.{Slot}
use Rattle.slot_box.specs.declared.split.Split.{Split}
use Rattle.slot_box.specs.declared.term.Term.{Term}
use Rattle.slot_box.specs.declared.term.Term.TheVariants.{Row, Cut}
use Rattle.slot_box.specs.Boxes.{points_of}
use Rattle.slot_box.specs.Splits.{is_lawful}
use Rattle.leaf_value.specs.Blocked.{is_blocked}
use Rattle.leaf_value.specs.LeafValue.{are_contradictory, leaf_value_of}
use Rattle.leaf_value.specs.Settings.{Setting, has_row, has_cut_row}
use Rattle.dossier_check.specs.declared.verdict.Reason.{Reason}
use Rattle.dossier_check.specs.Earlier.{Holder, is_held, box_of, with_node}

-- a reason by its number, and the line where it stands
abbrev pub reason : ℕ → ℕ → Reason
reason number line = record { reason = number; line = line }

-- ---- entries

-- an entry: its multiplier is too great (9); there is no row of that name (10); there is no such cut (11); the cut has
-- no row for the slot and the operation (13)
unfoldable pub term_reasons : Setting → ℕ → Term → List Reason
term_reasons setting line (Row name y) =
    unless (nat_le y MOST_MULTIPLIER) (reason 9 line) ++ unless (has_row setting name) (reason 10 line)
term_reasons setting line (Cut cut slot op y) =
    unless (nat_le y MOST_MULTIPLIER) (reason 9 line)
    ++ unless (nat_lt cut (length setting.cuts)) (reason 11 line)
    ++ unless (has_cut_row setting cut slot op) (reason 13 line)

-- the entries from left to right
abbrev pub terms_reasons : Setting → ℕ → List Term → List Reason
terms_reasons setting line [] = []
terms_reasons setting line (term ∷ terms) = term_reasons setting line term ++ terms_reasons setting line terms

-- ---- leaves

-- a leaf with a denominator, which is outside its limits (9), and entries
unfoldable pub dual_reasons : Setting → ℕ → ℕ → List Term → List Reason
dual_reasons setting line q terms =
    unless (nat_le 1 q && nat_le q MOST_MULTIPLIER) (reason 9 line) ++ terms_reasons setting line terms

-- a leaf: a dead one is not shown to be dead (7); a void one not to be empty (14); the box of a point has more than
-- one (8)
unfoldable pub leaf_reasons : Setting → ℕ → List Slot → LeafKind → List Reason
leaf_reasons setting line box (Dead at) = unless (is_blocked setting.case box at) (reason 7 line)
leaf_reasons setting line box (Void terms) =
    terms_reasons setting line terms ++ unless (are_contradictory setting box terms) (reason 14 line)
leaf_reasons setting line box (Dual q terms) = dual_reasons setting line q terms
leaf_reasons setting line box (Undone q terms) = dual_reasons setting line q terms
leaf_reasons setting line box Point = unless (points_of box == 1) (reason 8 line)

-- ---- nodes

-- an inner node among t: its ticket is none of the first t, or is held by a node before it (4); it does not divide its
-- box (6)
unfoldable pub inner_reasons : ℕ → List Holder → ℕ → List Slot → ℕ → Split → List Reason
inner_reasons t earlier line box ticket split =
    unless (nat_lt ticket t && not (is_held ticket earlier)) (reason 4 line)
    ++ unless (is_lawful box split) (reason 6 line)

-- a node: it has no box, since no node before it is its parent (5); else what stands against its kind over its box
abbrev pub node_reasons : Setting → ℕ → List Holder → ℕ → Option (List Slot) → Node → List Reason
node_reasons setting t earlier line None node = reason 5 line ∷ []
node_reasons setting t earlier line (Some box) (Inner ticket split) = inner_reasons t earlier line box ticket split
node_reasons setting t earlier line (Some box) (Leaf leaf) = leaf_reasons setting line box leaf

-- the nodes from an id on, in their order, where those inner nodes were met before; node 0 has the line `first`
abbrev pub nodes_reasons : Setting → ℕ → ℕ → List Slot → List Holder → ℕ → List Node → List Reason
nodes_reasons setting t first root earlier id [] = []
nodes_reasons setting t first root earlier id (node ∷ nodes) =
    node_reasons setting t earlier (first + id) (box_of root earlier id) node
    ++ nodes_reasons setting t first root (with_node earlier (box_of root earlier id) node) (id + 1) nodes

-- ---- values

-- the value of a node: that of a leaf over its box
abbrev pub node_value : Setting → Option (List Slot) → Node → Option ℤ
node_value setting None node = None
node_value setting (Some box) (Inner ticket split) = None
node_value setting (Some box) (Leaf leaf) = leaf_value_of setting box leaf

-- the greatest of a value and those of the nodes from an id on, where those inner nodes were met before
abbrev pub greatest_value : Setting → List Slot → Option ℤ → List Holder → ℕ → List Node → Option ℤ
greatest_value setting root best earlier id [] = best
greatest_value setting root best earlier id (node ∷ nodes) =
    greatest_value setting root (greater best (node_value setting (box_of root earlier id) node))
    (with_node earlier (box_of root earlier id) node) (id + 1) nodes
