-- The nodes that a tree's shape goes over, with their boxes.
use Rattle.std.proofs.Common.{◌≡◌, ℕ, inl, inr, ◌+◌, ◌*◌, ◌≤◌, Option, Some, List, [], ◌∷◌, ◌++◌, length, refl, sym, ap, ap₂, ◌∙◌, subst, arith, length-append}
use Rattle.std.specs.Prelude.{◌⊎◌}
use Rattle.slot_box.specs.declared.node.Leaf.{Leaf as LeafKind}
use Rattle.slot_box.specs.declared.node.Node.{Node}
use Rattle.slot_box.specs.declared.node.Node.TheVariants.{Inner, Leaf}
use Rattle.slot_box.specs.declared.slot.Slot.{Slot}
use Rattle.slot_box.specs.declared.split.Split.{Split}
use Rattle.slot_box.specs.Boxes.{IsBox, IsPoint, points_of}
use Rattle.slot_box.specs.Entries.{Entry}
use Rattle.slot_box.specs.Splits.{IsPartition, left_of, right_of}
use Rattle.slot_box.specs.Trees.{HasBox, root_box, left_part, right_part, Tree, leaf, fork, forks, IsLawfulTree, IsTreeAt}
use Rattle.slot_box.proofs.IdLaws.{HasId, HasId-first, HasId-later, HasId-cases, HasId-append, HasId-parts, AreDistinct, AreDistinct-one, AreDistinct-more, AreDistinct-append}
use Rattle.slot_box.proofs.TreeLaws.{HasPoint-box, IsBox-left_of, IsBox-right_of, IsPartition-of, points_of-split, leaves_at_most_points}

-- no leaf is an inner node
leaf_or_inner : (at : Option Node) (kind : LeafKind) (ticket : ℕ) (split : Split) → at ≡ Some (Leaf kind) → at ≡ Some (Inner ticket split) → ⊥
leaf_or_inner at kind ticket split is also =
    let clash : ◌≡◌ {A = Option Node} (Some (Leaf kind)) (Some (Inner ticket split)) = sym is ∙ also in cc

pub same_inner : (at : Option Node) (ticket other : ℕ) (split another : Split) → at ≡ Some (Inner ticket split) → at ≡ Some (Inner other another)
    → (ticket ≡ other) × (split ≡ another)
same_inner at ticket other split another is also =
    let both : ◌≡◌ {A = Option Node} (Some (Inner ticket split)) (Some (Inner other another)) = sym is ∙ also in
    let same : ticket ≡ other = cc in
    let same_split : split ≡ another = cc in
    (same, same_split)

module _ (node_at : ℕ → Option Node) where
  -- the ids of its nodes
  abbrev pub ids_of : (id : ℕ) (tree : Tree) → IsTreeAt node_at id tree → List ℕ
  ids_of id leaf is = id ∷ []
  ids_of id (fork split left right) is = id ∷ ids_of (2 * is.0 + 1) left is.2 ++ ids_of (2 * is.0 + 2) right is.3

  -- one of its nodes has this id and, where node `id` has the box, this box
  abbrev pub Goes : (id : ℕ) (box : List Slot) (tree : Tree) → IsTreeAt node_at id tree → ℕ → List Slot → Type 0
  Goes id box leaf is j b = (j ≡ id) × (b ≡ box)
  Goes id box (fork split left right) is j b =
      ((j ≡ id) × (b ≡ box)) ⊎ (Goes (2 * is.0 + 1) (left_of box split) left is.2 j b ⊎ Goes (2 * is.0 + 2) (right_of box split) right is.3 j b)

  pub length-ids_of : (id : ℕ) (tree : Tree) (is : IsTreeAt node_at id tree) → length (ids_of id tree is) ≡ 2 * forks tree + 1
  length-ids_of id leaf is = refl
  length-ids_of id (fork split left right) is =
      let first = length-ids_of (2 * is.0 + 1) left is.2 in
      let second = length-ids_of (2 * is.0 + 2) right is.3 in
      let both = length-append (ids_of (2 * is.0 + 1) left is.2) (ids_of (2 * is.0 + 2) right is.3) in
      omega arith

  pub Goes-first : (id : ℕ) (box : List Slot) (tree : Tree) (is : IsTreeAt node_at id tree) (j : ℕ) (b : List Slot) → j ≡ id → b ≡ box
      → Goes id box tree is j b
  Goes-first id box leaf is j b same same_box = (same, same_box)
  Goes-first id box (fork split left right) is j b same same_box = inl (same, same_box)

  -- it goes over the children of each of its nodes
  pub Goes-children : (id : ℕ) (box : List Slot) (tree : Tree) (is : IsTreeAt node_at id tree) (j : ℕ) (b : List Slot) (ticket : ℕ) (split : Split)
      → Goes id box tree is j b → node_at j ≡ Some (Inner ticket split) →
      Goes id box tree is (2 * ticket + 1) (left_of b split) × Goes id box tree is (2 * ticket + 2) (right_of b split)
  Goes-children id box leaf is j b ticket split goes node =
      absurd (leaf_or_inner (node_at j) is.0 ticket split (ap node_at goes.0 ∙ is.1) node)
  Goes-children id box (fork split left right) is j b ticket another (inl here) node =
      let same = same_inner (node_at j) ticket is.0 another split node (ap node_at here.0 ∙ is.1) in (
        inr (inl (Goes-first (2 * is.0 + 1) (left_of box split) left is.2 (2 * ticket + 1) (left_of b another) (ap (λ k. 2 * k + 1) same.0)
            (ap₂ left_of here.1 same.1))),
        inr (inr (Goes-first (2 * is.0 + 2) (right_of box split) right is.3 (2 * ticket + 2) (right_of b another) (ap (λ k. 2 * k + 2) same.0)
            (ap₂ right_of here.1 same.1))),
      )
  Goes-children id box (fork split left right) is j b ticket another (inr (inl there)) node =
      let both = Goes-children (2 * is.0 + 1) (left_of box split) left is.2 j b ticket another there node in
      (inr (inl both.0), inr (inl both.1))
  Goes-children id box (fork split left right) is j b ticket another (inr (inr there)) node =
      let both = Goes-children (2 * is.0 + 2) (right_of box split) right is.3 j b ticket another there node in
      (inr (inr both.0), inr (inr both.1))

  pub HasId-from_Goes : (id : ℕ) (box : List Slot) (tree : Tree) (is : IsTreeAt node_at id tree) (j : ℕ) (b : List Slot) → Goes id box tree is j b
      → HasId (ids_of id tree is) j
  HasId-from_Goes id box leaf is j b goes = HasId-first [] j id goes.0
  HasId-from_Goes id box (fork split left right) is j b (inl here) = HasId-first _ j id here.0
  HasId-from_Goes id box (fork split left right) is j b (inr (inl there)) =
      HasId-later _ j id (HasId-append _ _ j (inl (HasId-from_Goes (2 * is.0 + 1) (left_of box split) left is.2 j b there)))
  HasId-from_Goes id box (fork split left right) is j b (inr (inr there)) =
      HasId-later _ j id (HasId-append _ _ j (inr (HasId-from_Goes (2 * is.0 + 2) (right_of box split) right is.3 j b there)))

  pub Goes-from_HasId : (id : ℕ) (box : List Slot) (tree : Tree) (is : IsTreeAt node_at id tree) (j : ℕ) → HasId (ids_of id tree is) j
      → (b : List Slot) × Goes id box tree is j b
  Goes-from_HasId id box leaf is j there = elim (HasId-cases [] j id there) [ inl same ↦ (box, (same, refl)) | inr none ↦ absurd (cc) ]
  Goes-from_HasId id box (fork split left right) is j there =
      elim (HasId-cases (ids_of (2 * is.0 + 1) left is.2 ++ ids_of (2 * is.0 + 2) right is.3) j id there) [
        | inl same ↦ (box, inl (same, refl))
        | inr later ↦
            elim (HasId-parts (ids_of (2 * is.0 + 1) left is.2) (ids_of (2 * is.0 + 2) right is.3) j later) [
              | inl first ↦ let rec = Goes-from_HasId (2 * is.0 + 1) (left_of box split) left is.2 j first in (rec.0, inr (inl rec.1))
              | inr second ↦ let rec = Goes-from_HasId (2 * is.0 + 2) (right_of box split) right is.3 j second in (rec.0, inr (inr rec.1))
            ]
      ]

  -- the points of their boxes are points of the first
  pub Goes-within : (id : ℕ) (box : List Slot) (tree : Tree) (is : IsTreeAt node_at id tree) (j : ℕ) (b : List Slot) → IsBox box → IsLawfulTree box tree
      → Goes id box tree is j b → (point : List Entry) → IsPoint b point → IsPoint box point
  Goes-within id box leaf is j b whole lawful goes point there = subst (λ x. IsPoint x point) goes.1 there
  Goes-within id box (fork split left right) is j b whole lawful (inl here) point there = subst (λ x. IsPoint x point) here.1 there
  Goes-within id box (fork split left right) is j b whole lawful (inr (inl later)) point there =
      (IsPartition-of box split whole lawful.0).left_within point
      (Goes-within (2 * is.0 + 1) (left_of box split) left is.2 j b (IsBox-left_of box split whole lawful.0) lawful.1 later point there)
  Goes-within id box (fork split left right) is j b whole lawful (inr (inr later)) point there =
      (IsPartition-of box split whole lawful.0).right_within point
      (Goes-within (2 * is.0 + 2) (right_of box split) right is.3 j b (IsBox-right_of box split whole lawful.0) lawful.2 later point there)

  -- where a leaf has two points or more, there are two more points than splits at least
  pub open_leaf_points : (id : ℕ) (box : List Slot) (tree : Tree) (is : IsTreeAt node_at id tree) (j : ℕ) (b : List Slot) (kind : LeafKind) → IsBox box
      → IsLawfulTree box tree → Goes id box tree is j b → node_at j ≡ Some (Leaf kind) → 2 ≤ points_of b → forks tree + 2 ≤ points_of box
  open_leaf_points id box leaf is j b kind whole lawful goes node several =
      let same : points_of b ≡ points_of box = ap points_of goes.1 in omega arith
  open_leaf_points id box (fork split left right) is j b kind whole lawful (inl here) node several =
      absurd (leaf_or_inner (node_at j) kind is.0 split node (ap node_at here.0 ∙ is.1))
  open_leaf_points id box (fork split left right) is j b kind whole lawful (inr (inl there)) node several =
      let rec = open_leaf_points (2 * is.0 + 1) (left_of box split) left is.2 j b kind (IsBox-left_of box split whole lawful.0) lawful.1 there node several in
      let other = leaves_at_most_points (right_of box split) right (IsBox-right_of box split whole lawful.0) lawful.2 in
      let sum = points_of-split box split whole lawful.0 in
      omega arith
  open_leaf_points id box (fork split left right) is j b kind whole lawful (inr (inr there)) node several =
      let rec = open_leaf_points (2 * is.0 + 2) (right_of box split) right is.3 j b kind
      (IsBox-right_of box split whole lawful.0) lawful.2 there node several in
      let other = leaves_at_most_points (left_of box split) left (IsBox-left_of box split whole lawful.0) lawful.1 in
      let sum = points_of-split box split whole lawful.0 in
      omega arith

  module _ (root : List Slot) where
    -- the box of a node of the tree is its box among all nodes
    pub HasBox-from_Goes : (id : ℕ) (box : List Slot) (tree : Tree) (is : IsTreeAt node_at id tree) (j : ℕ) (b : List Slot) → HasBox root node_at id box
        → Goes id box tree is j b → HasBox root node_at j b
    HasBox-from_Goes id box leaf is j b has goes =
        subst (λ k. HasBox root node_at k b) (sym goes.0) (subst (HasBox root node_at id) (sym goes.1) has)
    HasBox-from_Goes id box (fork split left right) is j b has (inl here) =
        subst (λ k. HasBox root node_at k b) (sym here.0) (subst (HasBox root node_at id) (sym here.1) has)
    HasBox-from_Goes id box (fork split left right) is j b has (inr (inl there)) =
        HasBox-from_Goes (2 * is.0 + 1) (left_of box split) left is.2 j b (left_part has is.1) there
    HasBox-from_Goes id box (fork split left right) is j b has (inr (inr there)) =
        HasBox-from_Goes (2 * is.0 + 2) (right_of box split) right is.3 j b (right_part has is.1) there

    -- it goes over every node that has a box
    pub Goes-everywhere : (tree : Tree) (is : IsTreeAt node_at 0 tree) (j : ℕ) (b : List Slot) → HasBox root node_at j b → Goes 0 root tree is j b
    Goes-everywhere tree is j b root_box = Goes-first 0 root tree is 0 root refl refl
    Goes-everywhere tree is j b (left_part {id = parent} {ticket} {split} {box = whole} has node) =
        (Goes-children 0 root tree is parent whole ticket split (Goes-everywhere tree is parent whole has) node).0
    Goes-everywhere tree is j b (right_part {id = parent} {ticket} {split} {box = whole} has node) =
        (Goes-children 0 root tree is parent whole ticket split (Goes-everywhere tree is parent whole has) node).1

    -- where each node has one box, it goes over no node twice
    module _ (unique : (j : ℕ) (b other : List Slot) → HasBox root node_at j b → HasBox root node_at j other → b ≡ other)
        (boxes : (j : ℕ) (b : List Slot) → HasBox root node_at j b → IsBox b) where
      module _ (id : ℕ) (box : List Slot) (split : Split) (left right : Tree) (is : IsTreeAt node_at id (fork split left right))
          (has : HasBox root node_at id box) (whole : IsBox box) (lawful : IsLawfulTree box (fork split left right)) where
        abbrev lefts : List ℕ
        lefts = ids_of (2 * is.0 + 1) left is.2

        abbrev rights : List ℕ
        rights = ids_of (2 * is.0 + 2) right is.3

        abbrev parts : IsPartition box split (left_of box split) (right_of box split)
        parts = IsPartition-of box split whole lawful.0

        goes_left : (j : ℕ) → HasId lefts j → (b : List Slot) × HasBox root node_at j b
            × ((point : List Entry) → IsPoint b point → IsPoint (left_of box split) point)
        goes_left j there =
            let goes = Goes-from_HasId (2 * is.0 + 1) (left_of box split) left is.2 j there in (
              goes.0,
              HasBox-from_Goes (2 * is.0 + 1) (left_of box split) left is.2 j goes.0 (left_part has is.1) goes.1,
              Goes-within (2 * is.0 + 1) (left_of box split) left is.2 j goes.0 (IsBox-left_of box split whole lawful.0) lawful.1 goes.1,
            )

        goes_right : (j : ℕ) → HasId rights j → (b : List Slot) × HasBox root node_at j b
            × ((point : List Entry) → IsPoint b point → IsPoint (right_of box split) point)
        goes_right j there =
            let goes = Goes-from_HasId (2 * is.0 + 2) (right_of box split) right is.3 j there in (
              goes.0,
              HasBox-from_Goes (2 * is.0 + 2) (right_of box split) right is.3 j goes.0 (right_part has is.1) goes.1,
              Goes-within (2 * is.0 + 2) (right_of box split) right is.3 j goes.0 (IsBox-right_of box split whole lawful.0) lawful.2 goes.1,
            )

        -- a box of the left part and one of the right part share no point, and each box has one
        not_both : (j : ℕ) → HasId lefts j → HasId rights j → ⊥
        not_both j first second =
            let one = goes_left j first in
            let two = goes_right j second in
            let same : one.0 ≡ two.0 = unique j one.0 two.0 one.1 two.1 in
            let point = HasPoint-box one.0 (boxes j one.0 one.1) in
            parts.apart point.0 (one.2 point.0 point.1) (two.2 point.0 (subst (λ b. IsPoint b point.0) same point.1))

        first_alone : HasId (lefts ++ rights) id → ⊥
        first_alone there =
            elim (HasId-parts lefts rights id there) [
              | inl first ↦
                  let one = goes_left id first in
                  let same : one.0 ≡ box = unique id one.0 box one.1 has in
                  let inside = parts.right_point in
                  parts.apart inside.0 (one.2 inside.0 (subst (λ b. IsPoint b inside.0) (sym same) (parts.right_within inside.0 inside.1))) inside.1
              | inr second ↦
                  let one = goes_right id second in
                  let same : one.0 ≡ box = unique id one.0 box one.1 has in
                  let inside = parts.left_point in
                  parts.apart inside.0 inside.1 (one.2 inside.0 (subst (λ b. IsPoint b inside.0) (sym same) (parts.left_within inside.0 inside.1)))
            ]

      pub AreDistinct-ids_of : (id : ℕ) (box : List Slot) (tree : Tree) (is : IsTreeAt node_at id tree) → HasBox root node_at id box → IsBox box
          → IsLawfulTree box tree → AreDistinct (ids_of id tree is)
      AreDistinct-ids_of id box leaf is has whole lawful = AreDistinct-one id
      AreDistinct-ids_of id box (fork split left right) is has whole lawful =
          AreDistinct-more _ id (first_alone id box split left right is has whole lawful)
          (AreDistinct-append (ids_of (2 * is.0 + 1) left is.2) (ids_of (2 * is.0 + 2) right is.3)
          (AreDistinct-ids_of (2 * is.0 + 1) (left_of box split) left is.2 (left_part has is.1) (IsBox-left_of box split whole lawful.0) lawful.1)
          (AreDistinct-ids_of (2 * is.0 + 2) (right_of box split) right is.3 (right_part has is.1) (IsBox-right_of box split whole lawful.0) lawful.2)
          (not_both id box split left right is has whole lawful))
