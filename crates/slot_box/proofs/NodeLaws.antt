-- Search trees that are lists of nodes.
use Rattle.std.proofs.Common.{◌≡◌, ℕ, zero, suc, inl, inr, ◌+◌, ◌*◌, ◌<◌, Option, Some, None, List, length, refl, sym, ap₂, ◌∙◌, subst, arith}
use Rattle.std.specs.Prelude.{◌⊎◌, slice_get}
use Rattle.std.proofs.lemmas.Map.Steps.{length-le_from_distinct_below, le-length_from_below}
use Rattle.std.proofs.lemmas.Option.{slice_get_within}
use Rattle.slot_box.specs.declared.node.Node.{Node}
use Rattle.slot_box.specs.declared.node.Node.TheVariants.{Inner}
use Rattle.slot_box.specs.declared.slot.Slot.{Slot}
use Rattle.slot_box.specs.declared.split.Split.{Split}
use Rattle.slot_box.specs.Boxes.{IsBox}
use Rattle.slot_box.specs.Laws.{HasShape, ListsAreTrees, OpenLeavesCost}
use Rattle.slot_box.specs.Nodes.{IsInner, IsParentOf, AreTickets, HaveParents}
use Rattle.slot_box.specs.Splits.{left_of, right_of}
use Rattle.slot_box.specs.Trees.{HasBox, root_box, left_part, right_part, IsNodeOf, IsSearchTree, Tree, forks, IsLawfulTree, IsTreeAt}
use Rattle.slot_box.proofs.IdLaws.{HasId, AreDistinct}
use Rattle.slot_box.proofs.ShapeLaws.{same_inner, ids_of, length-ids_of, HasId-from_Goes, Goes-from_HasId, open_leaf_points, HasBox-from_Goes, Goes-everywhere, AreDistinct-ids_of}
use Rattle.slot_box.proofs.TreeLaws.{IsBox-node, shaped}

-- ---- where a box comes from

-- the box is a part of that of another node
pub record IsPart (root : List Slot) (node_at : ℕ → Option Node) (id : ℕ) (box : List Slot) : Type 0 where
  pub parent : ℕ
  pub ticket : ℕ
  pub split : Split
  pub whole : List Slot
  pub has : HasBox root node_at parent whole
  pub node : node_at parent ≡ Some (Inner ticket split)
  pub side : ((id ≡ 2 * ticket + 1) × (box ≡ left_of whole split)) ⊎ ((id ≡ 2 * ticket + 2) × (box ≡ right_of whole split))

source : (root : List Slot) (node_at : ℕ → Option Node) (id : ℕ) (box : List Slot) → HasBox root node_at id box
    → ((id ≡ 0) × (box ≡ root)) ⊎ IsPart root node_at id box
source root node_at id box root_box = inl (refl, refl)
source root node_at id box (left_part {id = parent} {ticket} {split} {box = whole} has node) =
    inr (record { parent = parent; ticket = ticket; split = split; whole = whole; has = has; node = node; side = inl (refl, refl) })
source root node_at id box (right_part {id = parent} {ticket} {split} {box = whole} has node) =
    inr (record { parent = parent; ticket = ticket; split = split; whole = whole; has = has; node = node; side = inr (refl, refl) })

module _ (root : List Slot) (t : ℕ) (tree : List Node) (tickets : AreTickets t tree) where
  -- a node with a ticket is the one whose box gave this part
  same_whole : (parent ticket : ℕ) (split : Split) (whole : List Slot) → ((other : List Slot) → HasBox root (slice_get tree) parent other → whole ≡ other)
      → IsInner tree parent ticket split →
      (id : ℕ) (box : List Slot) (part : IsPart root (slice_get tree) id box) → ticket ≡ part.ticket → (whole ≡ part.whole) × (split ≡ part.split)
  same_whole parent ticket split whole only is id box part same =
      let also : IsInner tree part.parent ticket part.split = subst (λ k. IsInner tree part.parent k part.split) (sym same) part.node in
      let here : part.parent ≡ parent = tickets.once part.parent parent ticket part.split split also is in
      let there : IsInner tree parent ticket part.split = subst (λ k. IsInner tree k ticket part.split) here also in (
        only part.whole (subst (λ k. HasBox root (slice_get tree) k part.whole) here part.has),
        (same_inner (slice_get tree parent) ticket ticket split part.split is there).1,
      )

  -- each node has one box
  pub one_box : (id : ℕ) (box other : List Slot) → HasBox root (slice_get tree) id box → HasBox root (slice_get tree) id other → box ≡ other
  one_box id box other root_box also =
      elim (source root (slice_get tree) 0 other also) [
        | inl first ↦ sym first.1
        | inr part ↦ absurd (elim part.side [ inl left ↦ let e = left.0 in omega arith | inr right ↦ let e = right.0 in omega arith ])
      ]
  one_box id box other (left_part {id = parent} {ticket} {split} {box = whole} has node) also =
      elim (source root (slice_get tree) (2 * ticket + 1) other also) [
        | inl first ↦ absurd (let e = first.0 in omega arith)
        | inr part ↦ elim part.side [
          | inl left ↦
              let e = left.0 in
              let same = same_whole parent ticket split whole (λ b gets. one_box parent whole b has gets) node (2 * ticket + 1) other part (omega arith) in
              ap₂ left_of same.0 same.1 ∙ sym left.1
          | inr right ↦ absurd (let e = right.0 in omega arith)
        ]
      ]
  one_box id box other (right_part {id = parent} {ticket} {split} {box = whole} has node) also =
      elim (source root (slice_get tree) (2 * ticket + 2) other also) [
        | inl first ↦ absurd (let e = first.0 in omega arith)
        | inr part ↦ elim part.side [
          | inl left ↦ absurd (let e = left.0 in omega arith)
          | inr right ↦
              let e = right.0 in
              let same = same_whole parent ticket split whole (λ b gets. one_box parent whole b has gets) node (2 * ticket + 2) other part (omega arith) in
              ap₂ right_of same.0 same.1 ∙ sym right.1
        ]
      ]

  -- each node has a box, from its parent's, which stands before it
  module _ (parents : HaveParents tree) where
    box_below : (n id : ℕ) → id < n → id < length tree → (box : List Slot) × HasBox root (slice_get tree) id box
    box_below zero id less inside = absurd (omega arith)
    box_below (suc n) zero less inside = (root, root_box)
    box_below (suc n) (suc id) less inside =
        let above = parents (suc id) (omega arith) inside in
        let parent : IsParentOf tree (suc id) above.0 = above.1 in
        let before = parent.before in
        let whole = box_below n above.0 (omega arith) (omega arith) in
        elim parent.child [
          | inl left ↦ (
            left_of whole.0 parent.split,
            subst (λ k. HasBox root (slice_get tree) k (left_of whole.0 parent.split)) (sym left)
                (left_part whole.1 parent.holds),
          )
          | inr right ↦ (
            right_of whole.0 parent.split,
            subst (λ k. HasBox root (slice_get tree) k (right_of whole.0 parent.split)) (sym right)
                (right_part whole.1 parent.holds),
          )
        ]

    pub some_box : (id : ℕ) → id < length tree → (box : List Slot) × HasBox root (slice_get tree) id box
    some_box id inside = box_below (suc id) id (omega arith) inside

    -- ---- the shape

    module _ (is : IsBox root) (sound : IsSearchTree root (slice_get tree)) (shape : Tree) (nodes : IsTreeAt (slice_get tree) 0 shape)
        (lawful : IsLawfulTree root shape) where
      abbrev ids : List ℕ
      ids = ids_of (slice_get tree) 0 shape nodes

      -- what has a box is there
      node_within : (id : ℕ) (box : List Slot) → HasBox root (slice_get tree) id box → id < length tree
      node_within id box has = by_node (slice_get tree id) refl (sound id box has)
        where
          by_node : (node : Option Node) → slice_get tree id ≡ node → IsNodeOf box node → id < length tree
          by_node None here lawful_node = absurd lawful_node
          by_node (Some node) here lawful_node = slice_get_within tree id node here

      below : (id : ℕ) → HasId ids id → id < length tree
      below id there =
          let goes = Goes-from_HasId (slice_get tree) 0 root shape nodes id there in
          node_within id goes.0 (HasBox-from_Goes (slice_get tree) root 0 root shape nodes id goes.0 root_box goes.1)

      there : (id : ℕ) → id < length tree → HasId ids id
      there id inside =
          let some = some_box id inside in
          HasId-from_Goes (slice_get tree) 0 root shape nodes id some.0 (Goes-everywhere (slice_get tree) root shape nodes id some.0 some.1)

      distinct : AreDistinct ids
      distinct = AreDistinct-ids_of (slice_get tree) root one_box (IsBox-node root (slice_get tree) is sound) 0 root shape nodes root_box is lawful

      pub all_splits : length tree ≡ 2 * t + 1 → forks shape ≡ t
      all_splits count =
          let most = length-le_from_distinct_below ids (length tree) distinct below in
          let least = le-length_from_below ids (length tree) there in
          let number = length-ids_of (slice_get tree) 0 shape nodes in
          omega arith

pub lists_are_trees : ListsAreTrees
lists_are_trees root t tree is tickets parents sound =
    let found = shaped root (slice_get tree) is sound in
    record {
      shape = found.0;
      nodes = found.1;
      lawful = found.2;
      splits = all_splits root t tree tickets parents is sound found.0 found.1 found.2;
    }

pub open_leaves_cost : OpenLeavesCost
open_leaves_cost root t tree is tickets parents sound count id box kind has node several =
    let found : HasShape root t tree = lists_are_trees root t tree is tickets parents sound in
    let splits = found.splits count in
    let more = open_leaf_points (slice_get tree) 0 root found.shape found.nodes id box kind is found.lawful
    (Goes-everywhere (slice_get tree) root found.shape found.nodes id box has) node several in
    omega arith
