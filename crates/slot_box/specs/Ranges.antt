-- Which terms, leaves, splits and nodes a text can hold: their numbers have so many bits, and the terms are few.
use Rattle.std.specs.Prelude.{◌^◌, ◌<◌, ◌≤◌, List, length}
use Rattle.std.specs.List.{AllByRecursion}
use Rattle.limits.specs.declared.TheConstants.{MOST_ROWS}
use Rattle.slot_box.specs.declared.term.RowName.{RowName}
use Rattle.slot_box.specs.declared.term.Term.{Term}
use Rattle.slot_box.specs.declared.term.Term.TheVariants.{Row, Cut}
use Rattle.slot_box.specs.declared.split.SplitKind.{SplitKind}
use Rattle.slot_box.specs.declared.split.SplitKind.TheVariants.{Ops, Volume, Start, End}
use Rattle.slot_box.specs.declared.node.Leaf.{Leaf}
use Rattle.slot_box.specs.declared.node.Leaf.TheVariants.{Dead, Void, Dual, Undone, Point}
use Rattle.slot_box.specs.declared.node.Node.{Node}
use Rattle.slot_box.specs.declared.node.Node.TheVariants as nodes

-- a name of a row: the family in 8 bits, the others in 16
pub record IsRowName (name : RowName) : Type 0 where
  pub family : name.family < 2 ^ 8
  pub a : name.a < 2 ^ 16
  pub b : name.b < 2 ^ 16
  pub c : name.c < 2 ^ 16
  pub d : name.d < 2 ^ 16

-- an entry: a multiplier of 64 bits; of a cut's row, numbers of 32 bits and an operation of 8
abbrev pub IsTerm : Term → Type 0
IsTerm (Row name y) = IsRowName name × (y < 2 ^ 64)
IsTerm (Cut cut slot op y) = (cut < 2 ^ 32) × (slot < 2 ^ 32) × (op < 2 ^ 8) × (y < 2 ^ 64)

-- as many of them as a leaf may have
abbrev pub AreTerms : List Term → Type 0
AreTerms terms = (length terms ≤ MOST_ROWS) × AllByRecursion IsTerm terms

-- a set of 64 bits, or a number of 32
abbrev pub IsSplitKind : SplitKind → Type 0
IsSplitKind (Ops set) = set < 2 ^ 64
IsSplitKind (Volume number) = number < 2 ^ 32
IsSplitKind (Start number) = number < 2 ^ 32
IsSplitKind (End number) = number < 2 ^ 32

-- the numbers of a leaf fit, and its terms are not too many
abbrev pub IsLeafInRange : Leaf → Type 0
IsLeafInRange (Dead at) = at < 2 ^ 32
IsLeafInRange (Void terms) = AreTerms terms
IsLeafInRange (Dual q terms) = (q < 2 ^ 64) × AreTerms terms
IsLeafInRange (Undone q terms) = (q < 2 ^ 64) × AreTerms terms
IsLeafInRange Point = Unit {0}

-- the numbers of a node fit
abbrev pub IsNodeInRange : Node → Type 0
IsNodeInRange (nodes.Inner ticket split) = (ticket < 2 ^ 32) × (split.slot < 2 ^ 32) × IsSplitKind split.kind
IsNodeInRange (nodes.Leaf leaf) = IsLeafInRange leaf
