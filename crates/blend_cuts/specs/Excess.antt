-- By how much amounts of crude exceed the threshold of a cut, which says that on the average a unit of crude weighs no
-- more than `p / q`. All is multiplied by q, so that the numbers are whole.
use Rattle.std.specs.Prelude.{ℕ, zero, suc, ◌+◌, ◌-◌, ◌*◌, max, List, slice_index, ℤ, pos, ◌-ℤ◌, ◌*ℤ◌, unsigned_abs}
use Rattle.limits.specs.declared.TheConstants.{MOST_CUT_DENOMINATOR, MOST_CUT_WEIGHT}
use Rattle.number_laws.specs.Positive.{positive_part}
use Rattle.number_laws.specs.SignedSums.{total_below}
use Rattle.number_laws.specs.Sums.{sum_below, when}
use Rattle.plant_model.specs.declared.parts.Parts.{Parts}
use Rattle.plant_model.specs.Parts.{natural, crude_count_of, place_count_of, initial_amounts_of, op_of}
use Rattle.slot_box.specs.declared.cut.CutParams.{CutParams}
use Rattle.blend_cuts.specs.Cuts.{is_inside, weight_of}

-- by how much a unit of crude c exceeds it
abbrev pub rise_of : CutParams → ℕ → ℤ
rise_of cut c = (cut.q *ℤ weight_of cut c) -ℤ cut.p

-- of a valid cut, no more than this, either way
abbrev pub most_rise : ℕ
most_rise = (MOST_CUT_DENOMINATOR + 1) * MOST_CUT_WEIGHT

-- and by how much amounts do: q times what they weigh, less p for each unit
abbrev pub excess_of : Parts → CutParams → List ℕ → ℤ
excess_of parts cut amounts = total_below (crude_count_of parts) (λ c. rise_of cut c *ℤ pos (slice_index amounts c))

-- where they do not exceed it, they do not make up for others
abbrev pub positive_excess_of : Parts → CutParams → List ℕ → ℕ
positive_excess_of parts cut amounts = positive_part (excess_of parts cut amounts)

-- the positive excess of what place p holds at first, where it is in the set
abbrev pub place_excess_of : Parts → CutParams → ℕ → ℕ
place_excess_of parts cut p = when (is_inside cut p) (positive_excess_of parts cut (initial_amounts_of parts p))

-- that of all places of the set
unfoldable pub first_excess_of : Parts → CutParams → ℕ
first_excess_of parts cut = sum_below (place_count_of parts) (place_excess_of parts cut)

-- by how much the weights of neighbouring crudes of the plant differ, in all
abbrev pub weight_variation_of : Parts → CutParams → ℕ
weight_variation_of parts cut =
    sum_below (crude_count_of parts - 1) (λ c. unsigned_abs (weight_of cut (c + 1) -ℤ weight_of cut c))

-- by so much at most the rounding of one draw raises the positive excess of the draw and of what it leaves
unfoldable pub drift_of : Parts → CutParams → ℕ
drift_of parts cut = natural cut.q * weight_variation_of parts cut

-- the greatest of f 0, f 1 .. below the limit, which is not counted, and 0 where there is none
abbrev pub greatest_below : ℕ → (ℕ → ℕ) → ℕ
greatest_below zero f = 0
greatest_below (suc n) f = max (greatest_below n f) (f n)

-- no unit of any crude exceeds the threshold by more
unfoldable pub steepest_of : Parts → CutParams → ℕ
steepest_of parts cut = greatest_below (crude_count_of parts) (λ c. positive_part (rise_of cut c))

-- so no draw of operation v does by more than this
abbrev pub most_excess_of : Parts → CutParams → ℕ → ℕ
most_excess_of parts cut v = steepest_of parts cut * (op_of parts v).volume.1
