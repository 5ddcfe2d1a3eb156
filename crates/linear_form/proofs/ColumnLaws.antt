-- The numbers of columns.
use Rattle.std.proofs.Common.{◌≡◌, ◌≢◌, ℕ, zero, suc, ◌+◌, ◌-◌, ◌*◌, ◌/◌, ◌%◌, ◌<◌, ◌≤◌, ◌⊎◌, inl, inr, ap, sym, ◌∙◌, refl, arith, slice_set}
use Rattle.std.proofs.lemmas.Bool.{cases_lt}
use Rattle.std.proofs.lemmas.Bool.Decides.{nat_tests}
use Rattle.std.proofs.lemmas.List.{get_or-set_other}
use Rattle.std.proofs.lemmas.Nat.{mul-add-lt, div-mul-add, mod-mul-add, div-add-mod', mod_below, div_below}
use Rattle.linear_form.specs.declared.column.Column.{Column}
use Rattle.linear_form.specs.declared.column.Part.{Part}
use Rattle.linear_form.specs.declared.column.Part.TheVariants.{Z, A, S, E, W}
use Rattle.linear_form.specs.declared.ranges.Interval.{Interval}
use Rattle.linear_form.specs.Bounds.{Bounds, zero_alone, KeepsOthers}
use Rattle.linear_form.specs.Columns.{Extent, HasPart, HasSlot, IsColumn, slot_columns, count_of, part_number, part_at, slot_number, number_of, operation_column, slot_column, column_at, AreNumbered}

-- ---- the columns of the slots, and those of the vessels

-- idle and operations have these parts
abbrev HasSlotPart : Extent → ℕ → Part → Type 0
HasSlotPart extent entry Z = (entry < extent.ops) ⊎ (entry ≡ 255)
HasSlotPart extent entry (A crude) = (entry < extent.ops) × (crude < extent.crudes)
HasSlotPart extent entry S = entry < extent.ops
HasSlotPart extent entry E = entry < extent.ops
HasSlotPart extent entry W = ⊥

record OfSlots (extent : Extent) (column : Column) : Type 0 where
  from_one : 1 ≤ column.slot
  slot_there : column.slot ≤ extent.slots
  part_there : HasSlotPart extent column.entry column.part

record OfVessels (extent : Extent) (column : Column) : Type 0 where
  nought : column.slot ≡ 0
  vessel_there : column.entry < extent.vessels
  part_there : column.part ≡ W

slot_parts : (extent : Extent) (slot entry : ℕ) (part : Part) → 1 ≤ slot → slot ≤ extent.slots → HasSlotPart extent entry part →
    HasSlot extent slot part × HasPart extent entry part
slot_parts extent slot entry Z one most there = ((one, most), there)
slot_parts extent slot entry (A crude) one most there = ((one, most), there)
slot_parts extent slot entry S one most there = ((one, most), there)
slot_parts extent slot entry E one most there = ((one, most), there)
slot_parts extent slot entry W one most there = absurd there

of_slots : (extent : Extent) (column : Column) → OfSlots extent column → IsColumn extent column
of_slots extent column there =
    let parts = slot_parts extent column.slot column.entry column.part there.from_one there.slot_there there.part_there in
    record { slot_there = parts.0; part_there = parts.1 }

slot_or_vessel : (extent : Extent) (slot entry : ℕ) (part : Part) → HasSlot extent slot part → HasPart extent entry part →
    OfSlots extent (record { slot = slot; entry = entry; part = part }) ⊎ OfVessels extent (record { slot = slot; entry = entry; part = part })
slot_or_vessel extent slot entry Z slots there = inl (record { from_one = slots.0; slot_there = slots.1; part_there = there })
slot_or_vessel extent slot entry (A crude) slots there = inl (record { from_one = slots.0; slot_there = slots.1; part_there = there })
slot_or_vessel extent slot entry S slots there = inl (record { from_one = slots.0; slot_there = slots.1; part_there = there })
slot_or_vessel extent slot entry E slots there = inl (record { from_one = slots.0; slot_there = slots.1; part_there = there })
slot_or_vessel extent slot entry W slots there = inr (record { nought = slots; vessel_there = there; part_there = refl })

sort : (extent : Extent) (column : Column) → IsColumn extent column → OfSlots extent column ⊎ OfVessels extent column
sort extent column there = slot_or_vessel extent column.slot column.entry column.part there.slot_there there.part_there

-- ---- the columns of the slots

column-same : (a b : Column) → a.slot ≡ b.slot → a.entry ≡ b.entry → a.part ≡ b.part → a ≡ b
column-same a b slots entries parts = λ i. record { slot = slots i; entry = entries i; part = parts i }

part-below : (extent : Extent) (entry : ℕ) (part : Part) → HasSlotPart extent entry part → part_number part < extent.crudes + 3
part-below extent entry Z there = omega arith
part-below extent entry (A crude) there = omega arith
part-below extent entry S there = omega arith
part-below extent entry E there = omega arith
part-below extent entry W there = absurd there

part-back : (extent : Extent) (entry : ℕ) (part : Part) → HasSlotPart extent entry part → part_at (part_number part) ≡ part
part-back extent entry Z there = refl
part-back extent entry (A crude) there = grind (arith, nat_tests)
part-back extent entry S there = refl
part-back extent entry E there = refl
part-back extent entry W there = absurd there

number-idle : (extent : Extent) (column : Column) → extent.ops ≤ column.entry → slot_number extent column ≡ column.slot - 1
number-idle extent column idle = grind (arith, nat_tests)

number-operation : (extent : Extent) (column : Column) → column.entry < extent.ops →
    slot_number extent column ≡ extent.slots + (((column.slot - 1) * extent.ops + column.entry) * (extent.crudes + 3) + part_number column.part)
number-operation extent column operation = grind (arith, nat_tests)

at-idle : (extent : Extent) (j : ℕ) → j < extent.slots → slot_column extent j ≡ record { slot = j + 1; entry = 255; part = Z }
at-idle extent j idle = grind (arith, nat_tests)

at-operation : (extent : Extent) (j : ℕ) → extent.slots ≤ j → slot_column extent j ≡ operation_column extent (j - extent.slots)
at-operation extent j past = grind (arith, nat_tests)

-- which entry a column is of
idle-part : (extent : Extent) (entry : ℕ) (part : Part) → HasSlotPart extent entry part → extent.ops ≤ entry → (entry ≡ 255) × (part ≡ Z)
idle-part extent entry Z (inl operation) past = absurd (omega arith)
idle-part extent entry Z (inr idle) past = (idle, refl)
idle-part extent entry (A crude) there past = absurd (omega arith)
idle-part extent entry S there past = absurd (omega arith)
idle-part extent entry E there past = absurd (omega arith)
idle-part extent entry W there past = absurd there

row-below : (extent : Extent) (column : Column) → OfSlots extent column → column.entry < extent.ops →
    (column.slot - 1) * extent.ops + column.entry < extent.slots * extent.ops
row-below extent column there operation =
    let before : column.slot - 1 < extent.slots = omega (arith, there.from_one, there.slot_there) in
    let place = mul-add-lt (column.slot - 1) extent.ops column.entry extent.slots before operation in
    omega (arith, place)

number-below_operation : (extent : Extent) (column : Column) → OfSlots extent column → column.entry < extent.ops →
    slot_number extent column < slot_columns extent
number-below_operation extent column there operation =
    let part = part-below extent column.entry column.part there.part_there in
    let row = row-below extent column there operation in
    let place = mul-add-lt ((column.slot - 1) * extent.ops + column.entry) (extent.crudes + 3) (part_number column.part) (extent.slots * extent.ops) row part in
    rw (number-operation extent column operation) (omega (arith, place))

number-below_idle : (extent : Extent) (column : Column) → OfSlots extent column → extent.ops ≤ column.entry → slot_number extent column < extent.slots
number-below_idle extent column there idle = rw (number-idle extent column idle) (omega (arith, there.from_one, there.slot_there))

slot_number-below : (extent : Extent) (column : Column) → OfSlots extent column → slot_number extent column < slot_columns extent
slot_number-below extent column there =
    elim (cases_lt column.entry extent.ops) [
      | inl operation ↦ number-below_operation extent column there operation
      | inr idle ↦ let below = number-below_idle extent column there idle in omega (arith, below)
    ]

back_idle : (extent : Extent) (column : Column) → OfSlots extent column → extent.ops ≤ column.entry → slot_column extent (slot_number extent column) ≡ column
back_idle extent column there idle =
    let parts = idle-part extent column.entry column.part there.part_there idle in
    let number = number-idle extent column idle in
    let below = number-below_idle extent column there idle in
    at-idle extent (slot_number extent column) below
    ∙ column-same (record { slot = slot_number extent column + 1; entry = 255; part = Z }) column (omega (arith, number, there.from_one)) (sym parts.0)
    (sym parts.1)

operation_column-back : (extent : Extent) (column : Column) → OfSlots extent column → column.entry < extent.ops →
    operation_column extent (((column.slot - 1) * extent.ops + column.entry) * (extent.crudes + 3) + part_number column.part) ≡ column
operation_column-back extent column there operation =
    let row = (column.slot - 1) * extent.ops + column.entry in
    let part = part-below extent column.entry column.part there.part_there in
    let quotient = div-mul-add row (extent.crudes + 3) (part_number column.part) part in
    let rest = mod-mul-add row (extent.crudes + 3) (part_number column.part) part in
    let slots = div-mul-add (column.slot - 1) extent.ops column.entry operation in
    let entries = mod-mul-add (column.slot - 1) extent.ops column.entry operation in
    column-same (operation_column extent (row * (extent.crudes + 3) + part_number column.part)) column
    (rw (quotient, slots) (omega (arith, there.from_one))) (rw (quotient, entries) refl) (rw rest (part-back extent column.entry column.part there.part_there))

back_operation : (extent : Extent) (column : Column) → OfSlots extent column → column.entry < extent.ops →
    slot_column extent (slot_number extent column) ≡ column
back_operation extent column there operation =
    let inner = ((column.slot - 1) * extent.ops + column.entry) * (extent.crudes + 3) + part_number column.part in
    let number = number-operation extent column operation in
    let past : slot_number extent column - extent.slots ≡ inner = omega (arith, number) in
    at-operation extent (slot_number extent column) (omega (arith, number))
    ∙ (ap (operation_column extent) past ∙ operation_column-back extent column there operation)

slot_number-back : (extent : Extent) (column : Column) → OfSlots extent column → slot_column extent (slot_number extent column) ≡ column
slot_number-back extent column there =
    elim (cases_lt column.entry extent.ops) [
      | inl operation ↦ back_operation extent column there operation
      | inr idle ↦ back_idle extent column there idle
    ]

-- ---- from a number to its column

part_at-past : (m : ℕ) → 3 ≤ m → part_at m ≡ A (m - 3)
part_at-past m past = grind (arith, nat_tests)

part_at-crude : (n : ℕ) → part_at (suc (suc (suc n))) ≡ A n
part_at-crude n = let e : suc (suc (suc n)) - 3 ≡ n = omega arith in part_at-past (suc (suc (suc n))) (omega arith) ∙ ap (λ (m : ℕ). A m) e

part_at-there : (extent : Extent) (entry n : ℕ) → entry < extent.ops → n < extent.crudes + 3 →
    HasSlotPart extent entry (part_at n) × (part_number (part_at n) ≡ n)
part_at-there extent entry zero operation within = (inl operation, refl)
part_at-there extent entry (suc zero) operation within = (operation, refl)
part_at-there extent entry (suc (suc zero)) operation within = (operation, refl)
part_at-there extent entry (suc (suc (suc n))) operation within = rw (part_at-crude n) ((operation, omega arith), omega arith)

idle-there : (extent : Extent) (j : ℕ) → j < extent.slots → OfSlots extent (record { slot = j + 1; entry = 255; part = Z })
idle-there extent j idle = record { from_one = omega arith; slot_there = omega arith; part_there = inr refl }

row_at-below : (extent : Extent) (k : ℕ) → k < extent.slots * extent.ops * (extent.crudes + 3) → k / (extent.crudes + 3) < extent.slots * extent.ops
row_at-below extent k below = div_below k (extent.crudes + 3) (extent.slots * extent.ops) (omega arith) below

ops-some : (slots ops m : ℕ) → m < slots * ops → 0 < ops
ops-some slots zero m below = omega arith
ops-some slots (suc ops) m below = omega arith

operation-there : (extent : Extent) (k : ℕ) → k < extent.slots * extent.ops * (extent.crudes + 3) → OfSlots extent (operation_column extent k)
operation-there extent k below =
    let row = k / (extent.crudes + 3) in
    let within : row < extent.slots * extent.ops = row_at-below extent k below in
    let some : 0 < extent.ops = ops-some extent.slots extent.ops row within in
    let slot : row / extent.ops < extent.slots = div_below row extent.ops extent.slots some within in
    let entry : row % extent.ops < extent.ops = mod_below row extent.ops some in
    let part = mod_below k (extent.crudes + 3) (omega arith) in
    record { from_one = omega arith; slot_there = omega arith; part_there = (part_at-there extent (row % extent.ops) (k % (extent.crudes + 3)) entry part).0 }

operation-again : (extent : Extent) (k : ℕ) → k < extent.slots * extent.ops * (extent.crudes + 3) →
    slot_number extent (operation_column extent k) ≡ extent.slots + k
operation-again extent k below =
    let row = k / (extent.crudes + 3) in
    let within : row < extent.slots * extent.ops = row_at-below extent k below in
    let some : 0 < extent.ops = ops-some extent.slots extent.ops row within in
    let entry : row % extent.ops < extent.ops = mod_below row extent.ops some in
    let part = (part_at-there extent (row % extent.ops) (k % (extent.crudes + 3)) entry (mod_below k (extent.crudes + 3) (omega arith))).1 in
    let number = number-operation extent (operation_column extent k) entry in
    let rows = div-add-mod' row extent.ops in
    let cells = div-add-mod' k (extent.crudes + 3) in
    let before : row / extent.ops + 1 - 1 ≡ row / extent.ops = omega arith in
    number ∙ rw (before, rows, part, cells) refl

slot_column-there : (extent : Extent) (j : ℕ) → j < slot_columns extent → OfSlots extent (slot_column extent j)
slot_column-there extent j below =
    elim (cases_lt j extent.slots) [
      | inl idle ↦ rw (at-idle extent j idle) (idle-there extent j idle)
      | inr past ↦ rw (at-operation extent j past) (operation-there extent (j - extent.slots) (omega arith))
    ]

slot_column-again : (extent : Extent) (j : ℕ) → extent.ops ≤ 255 → j < slot_columns extent → slot_number extent (slot_column extent j) ≡ j
slot_column-again extent j few below =
    elim (cases_lt j extent.slots) [
      | inl idle ↦ rw (at-idle extent j idle) (number-idle extent (record { slot = j + 1; entry = 255; part = Z }) few ∙ omega arith)
      | inr past ↦ rw (at-operation extent j past) (operation-again extent (j - extent.slots) (omega arith) ∙ omega arith)
    ]

-- ---- all columns

number-slot : (extent : Extent) (column : Column) → 1 ≤ column.slot → number_of extent column ≡ slot_number extent column
number-slot extent column one = grind (arith, nat_tests)

number-vessel : (extent : Extent) (column : Column) → column.slot ≡ 0 → number_of extent column ≡ slot_columns extent + column.entry
number-vessel extent column nought = grind (arith, nat_tests)

at-slot : (extent : Extent) (j : ℕ) → j < slot_columns extent → column_at extent j ≡ slot_column extent j
at-slot extent j below = grind (arith, nat_tests)

at-vessel : (extent : Extent) (j : ℕ) → slot_columns extent ≤ j → column_at extent j ≡ record { slot = 0; entry = j - slot_columns extent; part = W }
at-vessel extent j past = grind (arith, nat_tests)

pub number-below : (extent : Extent) (column : Column) → IsColumn extent column → number_of extent column < count_of extent
number-below extent column there =
    elim (sort extent column there) [
      | inl of ↦ let below = slot_number-below extent column of in let number = number-slot extent column of.from_one in omega (arith, below, number)
      | inr of ↦ let number = number-vessel extent column of.nought in omega (arith, of.vessel_there, number)
    ]

back_slot : (extent : Extent) (column : Column) → OfSlots extent column → column_at extent (number_of extent column) ≡ column
back_slot extent column of =
    let below = slot_number-below extent column of in
    let number = number-slot extent column of.from_one in
    rw number (at-slot extent (slot_number extent column) below ∙ slot_number-back extent column of)

back_vessel : (extent : Extent) (column : Column) → OfVessels extent column → column_at extent (number_of extent column) ≡ column
back_vessel extent column of =
    let number = number-vessel extent column of.nought in
    at-vessel extent (number_of extent column) (omega (arith, number))
    ∙ column-same (record { slot = 0; entry = number_of extent column - slot_columns extent; part = W }) column (sym of.nought) (omega (arith, number))
    (sym of.part_there)

pub number-back : (extent : Extent) (column : Column) → IsColumn extent column → column_at extent (number_of extent column) ≡ column
number-back extent column there =
    elim (sort extent column there) [
      | inl of ↦ back_slot extent column of
      | inr of ↦ back_vessel extent column of
    ]

-- two columns with one number are one
pub number-same : (extent : Extent) (a b : Column) → IsColumn extent a → IsColumn extent b → number_of extent a ≡ number_of extent b → a ≡ b
number-same extent a b first second same = sym (number-back extent a first) ∙ (ap (column_at extent) same ∙ number-back extent b second)

vessel-there : (extent : Extent) (j : ℕ) → slot_columns extent ≤ j → j < count_of extent →
    IsColumn extent (record { slot = 0; entry = j - slot_columns extent; part = W })
vessel-there extent j past below = record { slot_there = refl; part_there = omega arith }

pub column-there : (extent : Extent) (j : ℕ) → j < count_of extent → IsColumn extent (column_at extent j)
column-there extent j below =
    elim (cases_lt j (slot_columns extent)) [
      | inl slot ↦ rw (at-slot extent j slot) (of_slots extent (slot_column extent j) (slot_column-there extent j slot))
      | inr past ↦ rw (at-vessel extent j past) (vessel-there extent j past below)
    ]

again_slot : (extent : Extent) (j : ℕ) → extent.ops ≤ 255 → j < slot_columns extent → number_of extent (slot_column extent j) ≡ j
again_slot extent j few below =
    let there = slot_column-there extent j below in
    number-slot extent (slot_column extent j) there.from_one ∙ slot_column-again extent j few below

pub column-again : (extent : Extent) (j : ℕ) → extent.ops ≤ 255 → j < count_of extent → number_of extent (column_at extent j) ≡ j
column-again extent j few below =
    elim (cases_lt j (slot_columns extent)) [
      | inl slot ↦ rw (at-slot extent j slot) (again_slot extent j few slot)
      | inr past ↦ rw (at-vessel extent j past) (omega arith)
    ]

pub columns_are_numbered : AreNumbered
columns_are_numbered = record {
  below = number-below;
  back = number-back;
  there = column-there;
  again = column-again;
}

-- ---- writing to one column

pub keeps_others : (old new : Bounds) (column : Column) (range : Interval) → IsColumn old.extent column →
    new.extent ≡ old.extent → new.ends ≡ slice_set old.ends (number_of old.extent column) range → KeepsOthers column old new
keeps_others old new column range there extents ends = λ other elsewhere apart.
    let numbers : number_of old.extent other ≢ number_of old.extent column =
    λ (same : number_of old.extent other ≡ number_of old.extent column). apart (number-same old.extent other column elsewhere there same) in
    let kept = get_or-set_other old.ends (number_of old.extent column) (number_of old.extent other) range zero_alone numbers in
    rw (extents, ends) kept
