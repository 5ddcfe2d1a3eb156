-- Ranges of the columns of one slot that stands for all.
use Rattle.std.specs.Prelude.{◌≡◌}
use Rattle.linear_form.specs.Bounds.{Bounds}

-- of the same operations, crudes and vessels, and of one slot
abbrev pub AreOfOne : Bounds → Bounds → Type 0
AreOfOne bounds one = one.extent ≡ record bounds.extent { slots = 1 }
