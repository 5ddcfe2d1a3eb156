-- Which search trees are lawful, and what bounds they give.
use Rattle.std.specs.Prelude.{◌≡◌, ℕ, ℤ, ◌≤ℤ◌, List, slice_get, Option, Some, None}
use Rattle.slot_box.specs.declared.node.Leaf.{Leaf as LeafKind}
use Rattle.slot_box.specs.declared.node.Node.{Node}
use Rattle.slot_box.specs.declared.node.Node.TheVariants.{Inner, Leaf}
use Rattle.slot_box.specs.declared.slot.Slot.{Slot}
use Rattle.slot_box.specs.Nodes.{IsLeaf}
use Rattle.slot_box.specs.Splits.{IsLawfulSplit}
use Rattle.slot_box.specs.Trees.{HasBox}
use Rattle.slot_forms.specs.Cases.{Case, IsCaseBound, IsCaseInfeasible, root_box}
use Rattle.leaf_value.specs.Settings.{Setting}
use Rattle.leaf_value.specs.LeafValue.{IsLawfulLeaf, leaf_value_of}

-- what a node has to be over its box: an inner node divides it lawfully, a leaf is lawful
abbrev pub IsLawfulNode : Setting → List Slot → Option Node → Type 0
IsLawfulNode setting box None = ⊥
IsLawfulNode setting box (Some (Inner ticket split)) = IsLawfulSplit box split
IsLawfulNode setting box (Some (Leaf leaf)) = IsLawfulLeaf setting box leaf

-- the node of this id has the box, where node 0 has the root box of the case
abbrev pub HasCaseBox : Case → List Node → ℕ → List Slot → Type 0
HasCaseBox case tree = HasBox (root_box case) (slice_get tree)

-- each node is lawful over its box
abbrev pub AreLawful : Setting → List Node → Type 0
AreLawful setting tree = (id : ℕ) (box : List Slot) → HasCaseBox setting.case tree id box →
    IsLawfulNode setting box (slice_get tree id)

-- a leaf of the tree, with its box
pub record IsLeafOver (case : Case) (tree : List Node) (box : List Slot) (leaf : LeafKind) : Type 0 where
  pub id : ℕ
  pub has_box : HasCaseBox case tree id box
  pub there : IsLeaf tree id leaf

-- some leaf has this value
pub record IsLeafValue (setting : Setting) (tree : List Node) (value : ℤ) : Type 0 where
  pub box : List Slot
  pub leaf : LeafKind
  pub over : IsLeafOver setting.case tree box leaf
  pub valued : leaf_value_of setting box leaf ≡ Some value

-- no leaf has a value
abbrev pub NoLeafHasValue : Setting → List Node → Type 0
NoLeafHasValue setting tree = (value : ℤ) → IsLeafValue setting tree value → ⊥

-- some leaf has the value, and none a greater one
pub record IsGreatestLeafValue (setting : Setting) (tree : List Node) (value : ℤ) : Type 0 where
  pub there : IsLeafValue setting tree value
  pub greatest : (other : ℤ) → IsLeafValue setting tree other → other ≤ℤ value

-- the bound of a tree is the greatest value of a leaf, and none where no leaf has one
abbrev pub IsBoundOf : Setting → List Node → Option ℤ → Type 0
IsBoundOf setting tree None = NoLeafHasValue setting tree
IsBoundOf setting tree (Some bound) = IsGreatestLeafValue setting tree bound

-- what a bound says of the case: no plan has a greater margin, and none at all that there is no plan
abbrev pub IsTrueBound : Case → Option ℤ → Type 0
IsTrueBound case None = IsCaseInfeasible case
IsTrueBound case (Some bound) = IsCaseBound case bound

-- the bound of a lawful tree is true of its case
abbrev pub TreeBoundsAreTrue : Setting → Type 0
TreeBoundsAreTrue setting =
    (tree : List Node) (bound : Option ℤ) → AreLawful setting tree → IsBoundOf setting tree bound →
    IsTrueBound setting.case bound
