-- What the leaves of a search tree have of its root.
use Rattle.std.proofs.Common.{◌≡◌, ℕ, zero, suc, inl, inr, ◌+◌, ◌*◌, ◌<◌, ◌≤◌, Option, Some, None, List, length, refl, ap₂, ◌∙◌, subst, arith, length-append}
use Rattle.std.specs.Prelude.{sum_by}
use Rattle.std.proofs.Math.ListN.{length-set}
use Rattle.std.proofs.lemmas.List.Elements.{recursion_from_All}
use Rattle.std.proofs.lemmas.List.Sums.{sum_by-append}
use Rattle.slot_box.specs.declared.node.Node.{Node}
use Rattle.slot_box.specs.declared.node.Node.TheVariants.{Inner, Leaf}
use Rattle.slot_box.specs.declared.slot.Slot.{Slot}
use Rattle.slot_box.specs.declared.split.Split.{Split}
use Rattle.slot_box.specs.Boxes.{IsPoint, HasPoint, IsBox, points_of}
use Rattle.slot_box.specs.Entries.{Entry}
use Rattle.slot_box.specs.Laws.{IsBoxWithin, NodeBoxesStayWithin}
use Rattle.slot_box.specs.Slots.{IsSlot}
use Rattle.slot_box.specs.Splits.{IsLawfulSplit, IsPartition, left_of, right_of}
use Rattle.slot_box.specs.Trees.{HasBox, root_box, left_part, right_part, IsNodeOf, IsSearchTree, Tree, leaf, fork, forks, leaf_boxes, IsLawfulTree, IsTreeAt, InLeaf}
use Rattle.slot_box.proofs.PointLaws.{points_of-pos, HasPoint-from_box}
use Rattle.slot_box.proofs.SplitLaws.{divided_from_lawful, IsBox-left, IsBox-right, IsPartition-parts, IsWithinRoot-left, IsWithinRoot-right, points_of-parts}

-- a box has a point
pub points_of-box : (box : List Slot) → IsBox box → 0 < points_of box
points_of-box box is = points_of-pos box (recursion_from_All IsSlot box is.each)

pub HasPoint-box : (box : List Slot) → IsBox box → HasPoint box
HasPoint-box box is = HasPoint-from_box box (recursion_from_All IsSlot box is.each)

module _ (box : List Slot) (split : Split) (is : IsBox box) (lawful : IsLawfulSplit box split) where
  pub IsBox-left_of : IsBox (left_of box split)
  IsBox-left_of = IsBox-left box split is (divided_from_lawful box split lawful)

  pub IsBox-right_of : IsBox (right_of box split)
  IsBox-right_of = IsBox-right box split is (divided_from_lawful box split lawful)

  pub IsPartition-of : IsPartition box split (left_of box split) (right_of box split)
  IsPartition-of = IsPartition-parts box split is (divided_from_lawful box split lawful)

  pub points_of-split : points_of (left_of box split) + points_of (right_of box split) ≡ points_of box
  points_of-split = points_of-parts box split is (divided_from_lawful box split lawful)

  -- each part has fewer points than the box
  pub left_fewer : points_of (left_of box split) < points_of box
  left_fewer = let some = points_of-box _ IsBox-right_of in let sum = points_of-split in omega arith

  pub right_fewer : points_of (right_of box split) < points_of box
  right_fewer = let some = points_of-box _ IsBox-left_of in let sum = points_of-split in omega arith

-- ---- the leaves of a lawful tree

-- have one leaf more than splits
pub length-leaf_boxes : (box : List Slot) (tree : Tree) → length (leaf_boxes box tree) ≡ forks tree + 1
length-leaf_boxes box leaf = refl
length-leaf_boxes box (fork split left right) =
    length-append (leaf_boxes (left_of box split) left) (leaf_boxes (right_of box split) right)
    ∙ ap₂ (λ m n. m + n) (length-leaf_boxes (left_of box split) left) (length-leaf_boxes (right_of box split) right)
    ∙ omega arith

-- share its points
pub sum_by-leaf_boxes : (box : List Slot) (tree : Tree) → IsBox box → IsLawfulTree box tree → sum_by points_of (leaf_boxes box tree) ≡ points_of box
sum_by-leaf_boxes box leaf is lawful = omega arith
sum_by-leaf_boxes box (fork split left right) is lawful =
    sum_by-append points_of (leaf_boxes (left_of box split) left) (leaf_boxes (right_of box split) right)
    ∙ ap₂ (λ m n. m + n)
    (sum_by-leaf_boxes (left_of box split) left (IsBox-left_of box split is lawful.0) lawful.1)
    (sum_by-leaf_boxes (right_of box split) right (IsBox-right_of box split is lawful.0) lawful.2)
    ∙ points_of-split box split is lawful.0

-- so there are at most as many leaves as points
pub leaves_at_most_points : (box : List Slot) (tree : Tree) → IsBox box → IsLawfulTree box tree → forks tree + 1 ≤ points_of box
leaves_at_most_points box leaf is lawful = points_of-box box is
leaves_at_most_points box (fork split left right) is lawful =
    let first = leaves_at_most_points (left_of box split) left (IsBox-left_of box split is lawful.0) lawful.1 in
    let second = leaves_at_most_points (right_of box split) right (IsBox-right_of box split is lawful.0) lawful.2 in
    let sum = points_of-split box split is lawful.0 in
    omega arith

-- ---- search trees over nodes

-- a part of a box within the root is within it too
module _ (root box : List Slot) (split : Split) (is : IsBoxWithin root box) (lawful : IsLawfulSplit box split) where
  IsBoxWithin-left : IsBoxWithin root (left_of box split)
  IsBoxWithin-left = record {
    is = IsBox-left_of box split is.is lawful;
    slots = rw length-set is.slots;
    within = λ ops volume horizon inside. IsWithinRoot-left box split is.is (divided_from_lawful box split lawful) ops volume horizon
        (is.within ops volume horizon inside);
  }

  IsBoxWithin-right : IsBoxWithin root (right_of box split)
  IsBoxWithin-right = record {
    is = IsBox-right_of box split is.is lawful;
    slots = rw length-set is.slots;
    within = λ ops volume horizon inside. IsWithinRoot-right box split is.is (divided_from_lawful box split lawful) ops volume horizon
        (is.within ops volume horizon inside);
  }

-- each box of a node is a box within the root
pub IsBoxWithin-node : NodeBoxesStayWithin
IsBoxWithin-node root node_at is sound id box root_box = record { is = is; slots = refl; within = λ ops volume horizon inside. inside }
IsBoxWithin-node root node_at is sound id box (left_part {id = parent} {split} {box = whole} has node) =
    IsBoxWithin-left root whole split (IsBoxWithin-node root node_at is sound parent whole has) (subst (IsNodeOf whole) node (sound parent whole has))
IsBoxWithin-node root node_at is sound id box (right_part {id = parent} {split} {box = whole} has node) =
    IsBoxWithin-right root whole split (IsBoxWithin-node root node_at is sound parent whole has) (subst (IsNodeOf whole) node (sound parent whole has))

pub IsBox-node : (root : List Slot) (node_at : ℕ → Option Node) → IsBox root → IsSearchTree root node_at → (id : ℕ) (box : List Slot)
    → HasBox root node_at id box → IsBox box
IsBox-node root node_at is sound id box has = (IsBoxWithin-node root node_at is sound id box has).is

module _ (root : List Slot) (node_at : ℕ → Option Node) (is : IsBox root) (sound : IsSearchTree root node_at) where
  covered_below : (n id : ℕ) (box : List Slot) (point : List Entry) → points_of box ≤ n → HasBox root node_at id box → IsPoint box point
      → InLeaf root node_at point
  covered_below zero id box point few has there =
      let some = points_of-box box (IsBox-node root node_at is sound id box has) in absurd (omega arith)
  covered_below (suc n) id box point few has there =
      by_node (node_at id) refl (sound id box has) (λ child part less gets in_part. covered_below n child part point less gets in_part)
    where
      whole : IsBox box
      whole = IsBox-node root node_at is sound id box has

      by_node : (node : Option Node) → node_at id ≡ node → IsNodeOf box node
          → ((child : ℕ) (part : List Slot) → points_of part ≤ n → HasBox root node_at child part → IsPoint part point → InLeaf root node_at point)
          → InLeaf root node_at point
      by_node None here lawful below = absurd lawful
      by_node (Some (Leaf kind)) here lawful below =
          record { id = id; box = box; kind = kind; has = has; node = here; there = there }
      by_node (Some (Inner ticket split)) here lawful below =
          elim ((IsPartition-of box split whole lawful).covers point there) [
            | inl left ↦
                let fewer = left_fewer box split whole lawful in
                below (2 * ticket + 1) (left_of box split) (omega arith) (left_part has here) left
            | inr right ↦
                let fewer = right_fewer box split whole lawful in
                below (2 * ticket + 2) (right_of box split) (omega arith) (right_part has here) right
          ]

  -- each point of the root box is a point of the box of some leaf
  pub covered : (point : List Entry) → IsPoint root point → InLeaf root node_at point
  covered point there = covered_below (points_of root) 0 root point (omega arith) root_box there

  -- the nodes from one on make a lawful tree
  abbrev Shape : ℕ → List Slot → Type 0
  Shape id box = (tree : Tree) × IsTreeAt node_at id tree × IsLawfulTree box tree

  shaped_below : (n id : ℕ) (box : List Slot) → points_of box ≤ n → HasBox root node_at id box → Shape id box
  shaped_below zero id box few has =
      let some = points_of-box box (IsBox-node root node_at is sound id box has) in absurd (omega arith)
  shaped_below (suc n) id box few has =
      by_node (node_at id) refl (sound id box has) (λ child part less gets. shaped_below n child part less gets)
    where
      whole : IsBox box
      whole = IsBox-node root node_at is sound id box has

      by_node : (node : Option Node) → node_at id ≡ node → IsNodeOf box node
          → ((child : ℕ) (part : List Slot) → points_of part ≤ n → HasBox root node_at child part → Shape child part) → Shape id box
      by_node None here lawful below = absurd lawful
      by_node (Some (Leaf kind)) here lawful below = (leaf, (kind, here), tt)
      by_node (Some (Inner ticket split)) here lawful below =
          let fewer_left = left_fewer box split whole lawful in
          let fewer_right = right_fewer box split whole lawful in
          let left = below (2 * ticket + 1) (left_of box split) (omega arith) (left_part has here) in
          let right = below (2 * ticket + 2) (right_of box split) (omega arith) (right_part has here) in
          (fork split left.0 right.0, (ticket, here, left.1, right.1), (lawful, left.2, right.2))

  -- a search tree has a shape, which is lawful over the root box
  pub shaped : (tree : Tree) × IsTreeAt node_at 0 tree × IsLawfulTree root tree
  shaped = shaped_below (points_of root) 0 root (omega arith) root_box
