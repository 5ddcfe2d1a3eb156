-- The columns of a slot form, and their order.
use Rattle.std.specs.Prelude.{◌≡◌, ℕ, ◌+◌, ◌-◌, ◌*◌, ◌/◌, ◌%◌, ◌<◌, ◌≤◌, ◌==◌, nat_lt, if◌then◌else◌, ◌⊎◌}
use Rattle.linear_form.specs.declared.column.TheConstants.{IDLE_ENTRY}
use Rattle.linear_form.specs.declared.column.Column.{Column}
use Rattle.linear_form.specs.declared.column.Part.{Part}
use Rattle.linear_form.specs.declared.column.Part.TheVariants.{Z, A, S, E, W}

-- of how many slots, operations, crudes and vessels a form is
pub record Extent : Type 0 where
  pub slots : ℕ
  pub ops : ℕ
  pub crudes : ℕ
  pub vessels : ℕ

-- an operation has all parts but W, idle has Z alone, and a vessel W alone
abbrev pub HasPart : Extent → ℕ → Part → Type 0
HasPart extent entry Z = (entry < extent.ops) ⊎ (entry ≡ IDLE_ENTRY)
HasPart extent entry (A crude) = (entry < extent.ops) × (crude < extent.crudes)
HasPart extent entry S = entry < extent.ops
HasPart extent entry E = entry < extent.ops
HasPart extent entry W = entry < extent.vessels

-- slot 0 has the vessels' part, and the slots from 1 on have the others
abbrev pub HasSlot : Extent → ℕ → Part → Type 0
HasSlot extent slot Z = (1 ≤ slot) × (slot ≤ extent.slots)
HasSlot extent slot (A crude) = (1 ≤ slot) × (slot ≤ extent.slots)
HasSlot extent slot S = (1 ≤ slot) × (slot ≤ extent.slots)
HasSlot extent slot E = (1 ≤ slot) × (slot ≤ extent.slots)
HasSlot extent slot W = slot ≡ 0

-- the column is one of the forms of that extent
pub record IsColumn (extent : Extent) (column : Column) : Type 0 where
  pub slot_there : HasSlot extent column.slot column.part
  pub part_there : HasPart extent column.entry column.part

-- how many columns the slots have: idle of each slot, and the parts of each operation in each slot
abbrev pub slot_columns : Extent → ℕ
slot_columns extent = extent.slots + extent.slots * extent.ops * (extent.crudes + 3)

-- how many columns there are: those of the slots, and one for each vessel
abbrev pub count_of : Extent → ℕ
count_of extent = slot_columns extent + extent.vessels

-- the order of the parts of an operation
abbrev pub part_number : Part → ℕ
part_number Z = 0
part_number S = 1
part_number E = 2
part_number (A crude) = 3 + crude
part_number W = 0

-- the part of this number
abbrev pub part_at : ℕ → Part
part_at n = if nat_lt n 3 then (if n == 0 then Z else (if n == 1 then S else E)) else A (n - 3)

-- the columns of the slots are numbered from 0: idle of each slot first, then by slots, in a slot by operations,
-- and of an operation by parts
abbrev pub slot_number : Extent → Column → ℕ
slot_number extent column =
    if nat_lt column.entry extent.ops
    then extent.slots
    + (((column.slot - 1) * extent.ops + column.entry) * (extent.crudes + 3) + part_number column.part)
    else column.slot - 1

-- the columns of the vessels come after them
abbrev pub number_of : Extent → Column → ℕ
number_of extent column = if column.slot == 0 then slot_columns extent + column.entry else slot_number extent column

-- the column of an operation, by its number past those of idle
abbrev pub operation_column : Extent → ℕ → Column
operation_column extent k =
    record {
      slot = k / (extent.crudes + 3) / extent.ops + 1;
      entry = k / (extent.crudes + 3) % extent.ops;
      part = part_at (k % (extent.crudes + 3));
    }

-- the column of a slot, by its number
abbrev pub slot_column : Extent → ℕ → Column
slot_column extent j =
    if nat_lt j extent.slots
    then record { slot = j + 1; entry = IDLE_ENTRY; part = Z }
    else operation_column extent (j - extent.slots)

-- the column of a number
abbrev pub column_at : Extent → ℕ → Column
column_at extent j =
    if nat_lt j (slot_columns extent)
    then slot_column extent j
    else record { slot = 0; entry = j - slot_columns extent; part = W }

-- numbers and columns answer each other, where idle's entry is no operation's number
pub record AreNumbered : Type 0 where
  pub below : (extent : Extent) (column : Column) → IsColumn extent column → number_of extent column < count_of extent
  pub back : (extent : Extent) (column : Column) → IsColumn extent column →
      column_at extent (number_of extent column) ≡ column
  pub there : (extent : Extent) (j : ℕ) → j < count_of extent → IsColumn extent (column_at extent j)
  pub again : (extent : Extent) (j : ℕ) → extent.ops ≤ IDLE_ENTRY → j < count_of extent →
      number_of extent (column_at extent j) ≡ j
