-- The notes and the cuts of all workers, laid end to end. A cut's new number is its place there, and entries of leaves
-- name it by that.
use Rattle.std.specs.Prelude.{◌≡◌, ℕ, ◌+◌, ◌==◌, ◌≤◌, if◌then◌else◌, List, [], ◌∷◌, ◌++◌, length, map}
use Rattle.std.specs.List.{AllByRecursion}
use Rattle.limits.specs.declared.TheConstants.{MOST_OWN_CUTS, MOST_WORKERS}
use Rattle.slot_box.specs.declared.cut.CutParams.{CutParams}
use Rattle.slot_box.specs.declared.cut.NamedCut.{NamedCut}
use Rattle.slot_box.specs.declared.node.Leaf.{Leaf}
use Rattle.slot_box.specs.declared.node.Leaf.TheVariants.{Dead, Void, Dual, Undone, Point}
use Rattle.slot_box.specs.declared.node.Node.{Node}
use Rattle.slot_box.specs.declared.node.Node.TheVariants as nodes
use Rattle.slot_box.specs.declared.term.Term.{Term}
use Rattle.slot_box.specs.declared.term.Term.TheVariants.{Row, Cut}
use Rattle.search_node.specs.declared.looked.NodeNote.{NodeNote}

-- each worker has a list of notes and a list of cuts; the last worker may come behind all others
pub record AreCutLists (notes : List (List NodeNote)) (cuts : List (List NamedCut)) : Type 0 where
  pub few : length notes ≤ MOST_WORKERS + 1
  pub each : length cuts ≡ length notes
  pub small : AllByRecursion (λ (list : List NamedCut). length list ≤ MOST_OWN_CUTS) cuts

-- the number of the cut of this name in a worker's list, which is numbered from `from` on
abbrev pub number_in : ℕ → List NamedCut → ℕ → ℕ
number_in from [] name = from
number_in from (cut ∷ cuts) name = if cut.cut == name then from else number_in (from + 1) cuts name

-- an entry that names a cut names it by its new number
abbrev pub term_numbered : ℕ → List NamedCut → Term → Term
term_numbered from cuts (Row name y) = Row name y
term_numbered from cuts (Cut cut slot op y) = Cut (number_in from cuts cut) slot op y

-- so do the entries of a leaf
abbrev pub leaf_numbered : ℕ → List NamedCut → Leaf → Leaf
leaf_numbered from cuts (Dead at) = Dead at
leaf_numbered from cuts (Void terms) = Void (map (term_numbered from cuts) terms)
leaf_numbered from cuts (Dual q terms) = Dual q (map (term_numbered from cuts) terms)
leaf_numbered from cuts (Undone q terms) = Undone q (map (term_numbered from cuts) terms)
leaf_numbered from cuts Point = Point

-- an inner node has none
abbrev pub node_numbered : ℕ → List NamedCut → Node → Node
node_numbered from cuts (nodes.Inner ticket split) = nodes.Inner ticket split
node_numbered from cuts (nodes.Leaf leaf) = nodes.Leaf (leaf_numbered from cuts leaf)

-- and the note
abbrev pub note_numbered : ℕ → List NamedCut → NodeNote → NodeNote
note_numbered from cuts note =
    record { id = note.id; node = node_numbered from cuts note.node; value = note.value; seen = note.seen }

-- the notes of all workers from this one on, whose first cut has the number `from`
abbrev pub notes_from : ℕ → List (List NodeNote) → List (List NamedCut) → List NodeNote
notes_from from [] cuts = []
notes_from from (notes ∷ lists) [] = []
notes_from from (notes ∷ lists) (own ∷ cuts) =
    map (note_numbered from own) notes ++ notes_from (from + length own) lists cuts

-- the notes of all workers
abbrev pub notes_of : List (List NodeNote) → List (List NamedCut) → List NodeNote
notes_of lists cuts = notes_from 0 lists cuts

-- what the cuts of a list are made of
abbrev pub params_of : List NamedCut → List CutParams
params_of cuts = map (λ (cut : NamedCut). cut.params) cuts

-- the cuts of all workers
abbrev pub cuts_of : List (List NamedCut) → List CutParams
cuts_of [] = []
cuts_of (cuts ∷ lists) = params_of cuts ++ cuts_of lists
