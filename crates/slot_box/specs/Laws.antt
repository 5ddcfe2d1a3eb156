-- What holds of every box, every root box, every lawful split and every search tree.
use Rattle.std.specs.Prelude.{◌≡◌, ℕ, ◌+◌, ◌*◌, ◌<◌, ◌≤◌, List, length, slice_get, sum_by, Option}
use Rattle.std.specs.Int.{bit_at}
use Rattle.limits.specs.declared.TheConstants.{MOST_HORIZON, MOST_OPERATIONS, MOST_SLOTS, MOST_VOLUME}
use Rattle.slot_box.specs.declared.slot.Slot.{Slot}
use Rattle.slot_box.specs.declared.node.Leaf.{Leaf as LeafKind}
use Rattle.slot_box.specs.declared.node.Node.{Node}
use Rattle.slot_box.specs.declared.split.Split.{Split}
use Rattle.slot_box.specs.Boxes.{IsBox, IsPoint, HasOnePoint, only_point, StaysWithinRoot, points_of, whole_slot, root_of}
use Rattle.slot_box.specs.Entries.{Entry, idle, runs, bit_of, LiesIn}
use Rattle.slot_box.specs.Nodes.{IsLeaf, AreTickets, HaveParents}
use Rattle.slot_box.specs.Slots.{live_of}
use Rattle.slot_box.specs.Splits.{IsLawfulSplit, IsPartition, left_of, right_of}
use Rattle.slot_box.specs.Trees.{HasBox, IsSearchTree, InLeaf, Tree, forks, leaf_boxes, IsLawfulTree, IsTreeAt}

-- ---- boxes

-- an entry that lies in a slot is live there
abbrev pub EntriesAreLive : Type 0
EntriesAreLive = (s : Slot) (e : Entry) → LiesIn s e → bit_at (live_of s) (bit_of e) ≡ 1

-- where a box has just one point, that is the entries to which its slots are fixed
abbrev pub OnlyPointsArePoints : Type 0
OnlyPointsArePoints = (slots : List Slot) → IsBox slots → HasOnePoint slots → IsPoint slots (only_point slots)

-- ---- root boxes

-- a root box within the limits is a box
abbrev pub RootsAreBoxes : Type 0
RootsAreBoxes =
    (n ops volume horizon : ℕ) → 1 ≤ n → n ≤ MOST_SLOTS → ops ≤ MOST_OPERATIONS → volume ≤ MOST_VOLUME
    → horizon ≤ MOST_HORIZON → IsBox (root_of n ops volume horizon)

-- each of its slots may stay idle
abbrev pub RootSlotsMayIdle : Type 0
RootSlotsMayIdle = (ops volume horizon : ℕ) → ops ≤ MOST_OPERATIONS → LiesIn (whole_slot ops volume horizon) idle

-- or may run any operation with numbers up to the limits
abbrev pub RootSlotsMayRun : Type 0
RootSlotsMayRun =
    (ops most horizon op start end volume : ℕ) → ops ≤ MOST_OPERATIONS → op < ops → start ≤ horizon → end ≤ horizon
    → volume ≤ most → LiesIn (whole_slot ops most horizon) (runs op start end volume)

-- ---- splits

-- the two parts of a lawful split share the points of the box
abbrev pub PartsSharePoints : Type 0
PartsSharePoints =
    (slots : List Slot) (split : Split) → IsBox slots → IsLawfulSplit slots split
    → IsPartition slots split (left_of slots split) (right_of slots split)

-- and are boxes
abbrev pub PartsAreBoxes : Type 0
PartsAreBoxes =
    (slots : List Slot) (split : Split) → IsBox slots → IsLawfulSplit slots split
    → IsBox (left_of slots split) × IsBox (right_of slots split)

-- they have its points between them in number, and each has one
pub record SharesCount (slots : List Slot) (split : Split) : Type 0 where
  pub sum : points_of (left_of slots split) + points_of (right_of slots split) ≡ points_of slots
  pub some_left : 0 < points_of (left_of slots split)
  pub some_right : 0 < points_of (right_of slots split)

-- so it is with each lawful split
abbrev pub PartsShareCounts : Type 0
PartsShareCounts =
    (slots : List Slot) (split : Split) → IsBox slots → IsLawfulSplit slots split → SharesCount slots split

-- ---- search trees

-- each point of the root box is a point of the box of some leaf
abbrev pub LeavesCoverRoots : Type 0
LeavesCoverRoots =
    (root : List Slot) (node_at : ℕ → Option Node) → IsBox root → IsSearchTree root node_at
    → (point : List Entry) → IsPoint root point → InLeaf root node_at point

-- each box of a node is a box of as many slots, within each root box within which the root lies
pub record IsBoxWithin (root box : List Slot) : Type 0 where
  pub is : IsBox box
  pub slots : length box ≡ length root
  pub within : StaysWithinRoot root box

-- so it is in each search tree over a box
abbrev pub NodeBoxesStayWithin : Type 0
NodeBoxesStayWithin =
    (root : List Slot) (node_at : ℕ → Option Node) → IsBox root → IsSearchTree root node_at
    → (id : ℕ) (box : List Slot) → HasBox root node_at id box → IsBoxWithin root box

-- the leaves of a lawful tree over a box share its points
abbrev pub LeavesSharePoints : Type 0
LeavesSharePoints =
    (box : List Slot) (tree : Tree) → IsBox box → IsLawfulTree box tree
    → sum_by points_of (leaf_boxes box tree) ≡ points_of box

-- so there are at most as many leaves as points
abbrev pub LeavesAreAtMostPoints : Type 0
LeavesAreAtMostPoints =
    (box : List Slot) (tree : Tree) → IsBox box → IsLawfulTree box tree → length (leaf_boxes box tree) ≤ points_of box

-- ---- search trees as lists of nodes

-- the nodes are a lawful tree over the root box, which has t splits where there are two nodes for each of t tickets and
-- one more
pub record HasShape (root : List Slot) (t : ℕ) (tree : List Node) : Type 0 where
  pub shape : Tree
  pub nodes : IsTreeAt (slice_get tree) 0 shape
  pub lawful : IsLawfulTree root shape
  pub splits : length tree ≡ 2 * t + 1 → forks shape ≡ t

-- a list of nodes with tickets and parents, which is a search tree over a box, has such a shape
abbrev pub ListsAreTrees : Type 0
ListsAreTrees =
    (root : List Slot) (t : ℕ) (tree : List Node) → IsBox root → AreTickets t tree → HaveParents tree
    → IsSearchTree root (slice_get tree) → HasShape root t tree

-- where all t tickets are held and some leaf could be divided, its box having two points or more, the root box has two
-- points more than there are tickets at least
abbrev pub OpenLeavesCost : Type 0
OpenLeavesCost =
    (root : List Slot) (t : ℕ) (tree : List Node) → IsBox root → AreTickets t tree → HaveParents tree
    → IsSearchTree root (slice_get tree) → length tree ≡ 2 * t + 1
    → (id : ℕ) (box : List Slot) (leaf : LeafKind) → HasBox root (slice_get tree) id box → IsLeaf tree id leaf
    → 2 ≤ points_of box → t + 2 ≤ points_of root
