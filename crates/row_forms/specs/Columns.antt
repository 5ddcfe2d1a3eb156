-- Of how many columns the forms of a plant are.
use Rattle.std.specs.Prelude.{ℕ, length}
use Rattle.linear_form.specs.Columns.{Extent}
use Rattle.plant_model.specs.declared.parts.Parts.{Parts}
use Rattle.plant_model.specs.Parts.{op_count_of, crude_count_of}

-- the extent of the plant's forms of n slots
abbrev pub extent_of : Parts → ℕ → Extent
extent_of parts n =
    record { slots = n; ops = op_count_of parts; crudes = crude_count_of parts; vessels = length parts.vessels }
