-- The columns of a form as a list, slot by slot: idle, then each operation with its parts; and last the vessels.
use Rattle.std.specs.Prelude.{ℕ, ◌+◌, List, [], ◌∷◌, ◌++◌}
use Rattle.item_lists.specs.Joined.{joined_below}
use Rattle.linear_form.specs.declared.column.TheConstants.{IDLE_ENTRY}
use Rattle.linear_form.specs.declared.column.Column.{Column}
use Rattle.linear_form.specs.declared.column.Part.{Part}
use Rattle.linear_form.specs.declared.column.Part.TheVariants.{Z, A, S, E, W}
use Rattle.linear_form.specs.Columns.{Extent}

-- a column by its slot, its entry and its part
abbrev pub column_of : ℕ → ℕ → Part → Column
column_of slot entry part = record { slot = slot; entry = entry; part = part }

-- idle of a slot
abbrev pub idle_column : ℕ → Column
idle_column slot = column_of slot IDLE_ENTRY Z

-- how long a vessel waits
abbrev pub vessel_column : ℕ → Column
vessel_column p = column_of 0 p W

-- what operation v draws in a slot, crude by crude
abbrev pub amount_columns : ℕ → ℕ → ℕ → List Column
amount_columns crudes slot v = joined_below crudes (λ c. column_of slot v (A c) ∷ [])

-- the columns of operation v in a slot
abbrev pub operation_columns : ℕ → ℕ → ℕ → List Column
operation_columns crudes slot v =
    column_of slot v Z ∷ column_of slot v S ∷ column_of slot v E ∷ amount_columns crudes slot v

-- the columns of a slot
abbrev pub columns_of_slot : ℕ → ℕ → ℕ → List Column
columns_of_slot ops crudes slot = idle_column slot ∷ joined_below ops (operation_columns crudes slot)

-- all columns
abbrev pub columns_of : Extent → List Column
columns_of extent =
    joined_below extent.slots (λ k. columns_of_slot extent.ops extent.crudes (k + 1))
    ++ joined_below extent.vessels (λ p. vessel_column p ∷ [])
