-- What entries are worth that do not show a box empty.
use Rattle.std.proofs.Common.{◌≡◌, ℕ, ◌≤◌, ◌<◌, ◌^◌, inl, inr, Bool, true, false, ℤ, pos, negsuc, ◌≤ℤ◌, ◌<ℤ◌, int_lt, Option, Some, List, [], length, refl, sym, ap, ◌∙◌, arith, FitsSigned, to_z, of_z}
use Rattle.std.specs.Int.{w64, w128}
use Rattle.std.proofs.lemmas.Int.{ints}
use Rattle.dual_bound.proofs.StoredNumbers.{abs-small, read-small, read-within}
use Rattle.limits.specs.declared.TheConstants.{MOST_MULTIPLIER}
use Rattle.plant_model.specs.declared.parts.Parts.{Parts}
use Rattle.slot_box.specs.declared.node.Leaf.TheVariants.{Undone}
use Rattle.slot_box.specs.declared.slot.Slot.{Slot}
use Rattle.slot_box.specs.declared.split.Split.{Split}
use Rattle.slot_box.specs.Boxes.{IsBox, points_of}
use Rattle.slot_box.specs.Laws.{SharesCount}
use Rattle.slot_box.specs.Splits.{IsLawfulSplit}
use Rattle.slot_box.specs.Tasks.{TaskParts}
use Rattle.slot_rows.specs.Fits.{PlainValuesFit}
use Rattle.leaf_value.specs.LeafValue.{dual_value_of}
use Rattle.leaf_value.specs.Settings.{Setting, plain_setting}
use Rattle.search_node.specs.declared.guesses.Candidate.{Candidate}
use Rattle.slot_box.specs.Even.{IsEvenSplit}
use Rattle.search_node.specs.inside.Candidates.{IsCandidate, Reaches}
use Rattle.search_node.specs.inside.Plain.{ReachesPlainGuesses}
use Rattle.search_node.specs.Laws.{LowValuesContradict}
use Rattle.search_node.specs.Looks.{Beats, IsLeafFor, MayDivideBox}
use Rattle.search_node.specs.Values.{IsValueFor, least_value, warm_value}

-- entries that do not show the box empty have no greater value than what they reach
pub reached : (candidate : Candidate) (value : ℤ) → candidate.is_empty ≡ false → Reaches candidate value → candidate.value ≤ℤ value
reached candidate value not_empty (inl empty) = (let both : true ≡ false = sym empty ∙ not_empty in cc)
reached candidate value not_empty (inr most) = most

-- nor a value below the least that is told
pub not-low : (setting : Setting) (box : List Slot) (candidate : Candidate) → LowValuesContradict setting → IsBox box → length box ≡ setting.case.slots →
    IsCandidate setting box candidate → candidate.is_empty ≡ false → least_value ≤ℤ candidate.value
not-low setting box candidate low is sized bounding not_empty = by (int_lt candidate.value least_value) refl
  where
    by : (test : Bool) → int_lt candidate.value least_value ≡ test → least_value ≤ℤ candidate.value
    by false most = omega (arith, ints, most)
    by true less =
        let value = bounding.value in
        let below : dual_value_of setting box candidate.q candidate.terms <ℤ least_value = omega (arith, ints, less, value) in
        let contradictory = low box candidate.q candidate.terms is sized bounding.bounding.0 below in
        let both : true ≡ false = sym contradictory ∙ (sym bounding.empty ∙ not_empty) in cc

-- so it fits 64 bits
pub told-fits : (parts : Parts) (box : List Slot) (candidate : Candidate) → LowValuesContradict (plain_setting parts (length box)) → PlainValuesFit parts →
    IsBox box → IsCandidate (plain_setting parts (length box)) box candidate → ReachesPlainGuesses (plain_setting parts (length box)) box candidate →
    candidate.is_empty ≡ false → FitsSigned w64 candidate.value
unfolding dual_value_of
told-fits parts box candidate low plain is bounding guesses not_empty =
    let least = not-low (plain_setting parts (length box)) box candidate low is refl bounding not_empty in
    let most = reached candidate (dual_value_of (plain_setting parts (length box)) box 1 []) not_empty (guesses [] tt) in
    between candidate.value _ least most (plain box is)
  where
    between : (value most : ℤ) → least_value ≤ℤ value → value ≤ℤ most → FitsSigned w64 most → FitsSigned w64 value
    between (pos n) (pos m) low less fits = (let small = fits.sfits in record { sfits = omega (arith, ints, less, small) })
    between (pos n) (negsuc m) low less fits = absurd (omega (arith, ints, less))
    between (negsuc n) most low less fits = record { sfits = omega (arith, ints, low) }

-- a number that fits 64 bits is read again from 128, and from 64 after that
pub read-wide : (z : ℤ) → FitsSigned w64 z → to_z w128 (of_z w128 z) ≡ z
read-wide z fits = read-within z (2 ^ 63) (abs-small z fits) (omega arith)

pub read-cast : (z : ℤ) → FitsSigned w64 z → to_z w64 (of_z w64 (to_z w128 (of_z w128 z))) ≡ z
read-cast z fits = ap (λ (y : ℤ). to_z w64 (of_z w64 y)) (read-wide z fits) ∙ read-small z fits

-- a value of a task's box
pub value-for : (setting : Setting) (task : TaskParts) (candidate : Candidate) → candidate.is_empty ≡ false → Reaches candidate (warm_value setting task) →
    ReachesPlainGuesses setting task.box candidate → least_value ≤ℤ candidate.value → IsValueFor setting task candidate.value
value-for setting task candidate not_empty warm plain least = record {
  warm = reached candidate (warm_value setting task) not_empty warm;
  plain = λ guess is. reached candidate (dual_value_of setting task.box 1 guess) not_empty (plain guess is);
  least = least;
}

-- ---- what becomes of a box

below-word : (q : ℕ) → q ≤ MOST_MULTIPLIER → q < 2 ^ 64
below-word q most = omega (arith, most)

-- a box of two parts has two points or more
pub several-points : (box : List Slot) (split : Split) → SharesCount box split → 2 ≤ points_of box
several-points box split shares = (let sum = shares.sum in let left = shares.some_left in let right = shares.some_right in omega (arith, sum, left, right))

-- a leaf of entries with their value
pub record IsOfEntries (setting : Setting) (task : TaskParts) (candidate : Candidate) : Type 0 where
  pub bounding : IsCandidate setting task.box candidate
  pub not_empty : candidate.is_empty ≡ false
  pub value : IsValueFor setting task candidate.value

pub undone-leaf : (setting : Setting) (task : TaskParts) (candidate : Candidate) → IsOfEntries setting task candidate →
    IsLeafFor setting task (Undone candidate.q candidate.terms) (Some candidate.value)
undone-leaf setting task candidate is = record {
  lawful = is.bounding.bounding;
  in_range = (below-word candidate.q is.bounding.bounding.1, is.bounding.in_range);
  valued = ap Some is.bounding.value;
  at_one = sym is.bounding.empty ∙ is.not_empty;
  bounded = is.value;
}

pub may-divide : (setting : Setting) (task : TaskParts) (seen : Option ℤ) (candidate : Candidate) (split : Split) → IsOfEntries setting task candidate →
    Beats candidate.value seen → SharesCount task.box split → IsLawfulSplit task.box split → IsEvenSplit task.box split →
    MayDivideBox setting task seen candidate.value (Undone candidate.q candidate.terms) split
may-divide setting task seen candidate split is beats shares lawful even = record {
  several = several-points task.box split shares;
  beats = beats;
  leaf_for = undone-leaf setting task candidate is;
  open_leaf = tt;
  lawful = lawful;
  even = even;
}
