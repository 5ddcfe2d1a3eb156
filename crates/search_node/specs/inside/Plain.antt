-- Plain guesses that a candidate was compared with.
use Rattle.std.specs.Prelude.{ℕ, ◌^◌, ◌≤◌, All, Contains, List, [], ◌∷◌}
use Rattle.slot_box.specs.declared.slot.Slot.{Slot}
use Rattle.slot_box.specs.declared.term.RowName.{RowName}
use Rattle.slot_box.specs.declared.term.Term.{Term}
use Rattle.slot_box.specs.declared.term.Term.TheVariants.{Row}
use Rattle.leaf_value.specs.LeafValue.{dual_value_of}
use Rattle.leaf_value.specs.Settings.{Setting}
use Rattle.search_node.specs.declared.block.RowBlock.{RowBlock}
use Rattle.search_node.specs.declared.guesses.Candidate.{Candidate}
use Rattle.search_node.specs.inside.Candidates.{Reaches}
use Rattle.leaf_value.specs.PlainGuesses.{IsPlainGuess}

-- what a row gives on its own, by each power of two up to 2 ^ 20, for every row of a block
abbrev pub ReachesPowers : Setting → List Slot → RowBlock → Candidate → Type 0
ReachesPowers setting box block candidate =
    (name : RowName) (k : ℕ) → Contains block.names name → k ≤ 20
    → Reaches candidate (dual_value_of setting box 1 (Row name (2 ^ k) ∷ []))

-- for every row of all blocks
abbrev pub ReachesBlocks : Setting → List Slot → List RowBlock → Candidate → Type 0
ReachesBlocks setting box blocks candidate =
    All (λ (block : RowBlock). ReachesPowers setting box block candidate) blocks

-- what any plain guess gives
abbrev pub ReachesPlainGuesses : Setting → List Slot → Candidate → Type 0
ReachesPlainGuesses setting box candidate =
    (guess : List Term) → IsPlainGuess setting guess → Reaches candidate (dual_value_of setting box 1 guess)
