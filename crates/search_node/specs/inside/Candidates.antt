-- Entries that may become a leaf's, and how they come from the multipliers of named rows.
use Rattle.std.specs.Prelude.{◌≡◌, ◌⊎◌, ℤ, ◌≤ℤ◌, ℕ, IsTrue, List, [], ◌∷◌, filter}
use Rattle.slot_box.specs.declared.slot.Slot.{Slot}
use Rattle.slot_box.specs.declared.term.RowName.{RowName}
use Rattle.slot_box.specs.declared.term.Term.{Term}
use Rattle.slot_box.specs.declared.term.Term.TheVariants.{Row}
use Rattle.slot_box.specs.Ranges.{AreTerms}
use Rattle.leaf_value.specs.LeafValue.{AreBounding, are_contradictory, dual_value_of}
use Rattle.leaf_value.specs.Settings.{Setting}
use Rattle.search_node.specs.declared.guesses.Candidate.{Candidate}
use Rattle.search_node.specs.Laws.{is_taken}

-- lawful entries with their dual value over the box; whether they contradict each other there is known
pub record IsCandidate (setting : Setting) (box : List Slot) (candidate : Candidate) : Type 0 where
  pub bounding : AreBounding setting candidate.q candidate.terms
  pub in_range : AreTerms candidate.terms
  pub value : candidate.value ≡ dual_value_of setting box candidate.q candidate.terms
  pub empty : candidate.is_empty ≡ are_contradictory setting box candidate.terms

-- the candidate shows the box empty, or has no greater value than this one
abbrev pub Reaches : Candidate → ℤ → Type 0
Reaches candidate value = IsTrue candidate.is_empty ⊎ (candidate.value ≤ℤ value)

-- so it goes for whatever the first one reached
pub record IsNoWorse (first second : Candidate) : Type 0 where
  pub reaches : (value : ℤ) → Reaches first value → Reaches second value

-- names with their multipliers, as entries
abbrev pub entries_by : List RowName → List ℕ → List Term
entries_by [] multipliers = []
entries_by (name ∷ names) [] = []
entries_by (name ∷ names) (y ∷ multipliers) = Row name y ∷ entries_by names multipliers

-- those whose multiplier is not 0
abbrev pub taken_by : List RowName → List ℕ → List Term
taken_by names multipliers = filter is_taken (entries_by names multipliers)
