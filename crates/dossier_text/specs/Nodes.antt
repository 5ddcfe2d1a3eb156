-- Lines of a dossier: nodes of the search tree, and cuts.
use Rattle.std.specs.Prelude.{ℕ, ◌+◌, List, [], ◌∷◌, map, decimal, codes}
use Rattle.std.specs.Fmt.{signed_decimal}
use Rattle.slot_box.specs.declared.node.Node.{Node}
use Rattle.slot_box.specs.declared.node.Node.TheVariants as nodes
use Rattle.slot_box.specs.declared.node.Leaf.{Leaf}
use Rattle.slot_box.specs.declared.node.Leaf.TheVariants.{Dead, Void, Dual, Undone, Point}
use Rattle.slot_box.specs.declared.split.SplitKind.{SplitKind}
use Rattle.slot_box.specs.declared.split.SplitKind.TheVariants.{Ops, Volume, Start, End}
use Rattle.dossier_text.specs.declared.dossier.CutLine.{CutLine}
use Rattle.dossier_text.specs.Entries.{term_word}

-- what a box is divided by: a set of entries, or a number
abbrev pub kind_words : SplitKind → List (List ℕ)
kind_words (Ops set) = codes "ops" ∷ decimal set ∷ []
kind_words (Volume number) = codes "volume" ∷ decimal number ∷ []
kind_words (Start number) = codes "start" ∷ decimal number ∷ []
kind_words (End number) = codes "end" ∷ decimal number ∷ []

-- the words of a leaf; one that was left undone is `open`
abbrev pub leaf_words : Leaf → List (List ℕ)
leaf_words (Dead at) = codes "dead" ∷ decimal at ∷ []
leaf_words (Void terms) = codes "void" ∷ map term_word terms
leaf_words (Dual q terms) = codes "dual" ∷ decimal q ∷ map term_word terms
leaf_words (Undone q terms) = codes "open" ∷ decimal q ∷ map term_word terms
leaf_words Point = codes "point" ∷ []

-- the words of a node after its id
abbrev pub node_words : Node → List (List ℕ)
node_words (nodes.Inner ticket split) = codes "split" ∷ decimal ticket ∷ decimal split.slot ∷ kind_words split.kind
node_words (nodes.Leaf leaf) = leaf_words leaf

-- a line for each node, their ids counted from id on
abbrev pub node_lines : ℕ → List Node → List (List (List ℕ))
node_lines id [] = []
node_lines id (node ∷ rest) = (codes "node" ∷ decimal id ∷ node_words node) ∷ node_lines (id + 1) rest

-- the set of places, the two numbers and the weights of a cut
abbrev pub cut_words : CutLine → List (List ℕ)
cut_words line =
    codes "cut" ∷ decimal line.places ∷ signed_decimal line.p ∷ signed_decimal line.q ∷ map signed_decimal line.weights
