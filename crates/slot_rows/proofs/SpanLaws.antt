-- The numbers that a box leaves the columns: their entries are live or not, and they are small.
use Rattle.std.proofs.Common.{◌≡◌, ◌≢◌, ℕ, ◌-◌, ◌^◌, ◌<◌, ◌≤◌, ◌⊎◌, inl, inr, Bool, true, false, List, length, sym, subst, refl, arith}
use Rattle.std.specs.Prelude.{◌==◌}
use Rattle.std.specs.Int.{bit_at}
use Rattle.std.proofs.lemmas.Bool.{cases_eq, cases_Bool, eq-eqb, ne_eqb}
use Rattle.std.proofs.lemmas.List.Elements.{All-get_or}
use Rattle.limits.specs.declared.TheConstants.{MOST_OPERATIONS}
use Rattle.linear_form.specs.declared.column.Column.{Column}
use Rattle.linear_form.specs.declared.column.Part.{Part}
use Rattle.linear_form.specs.declared.column.Part.TheVariants.{Z, A, S, E, W}
use Rattle.linear_form.specs.Columns.{Extent, HasPart, HasSlot, IsColumn}
use Rattle.plant_model.specs.declared.parts.Parts.{Parts}
use Rattle.plant_model.specs.Parts.{horizon_of}
use Rattle.plant_model.specs.Sound.{SoundPlant}
use Rattle.row_forms.specs.Columns.{extent_of}
use Rattle.number_laws.specs.Sums.{when}
use Rattle.row_forms.specs.Sizes.{part_reach}
use Rattle.slot_box.specs.declared.slot.Slot.{Slot}
use Rattle.slot_box.specs.declared.slot.Span.{Span}
use Rattle.slot_box.specs.Boxes.{IsBox, no_slot, slot_at}
use Rattle.slot_box.specs.Slots.{IsSlot, span, live_of}
use Rattle.slot_rows.specs.Ranges.{live_span, bit_of_entry, entry_span, column_span}

-- ---- where a column stands

-- a column of a slot: the slot is there, and its entry is an operation or idle
pub record IsOfSlot (extent : Extent) (column : Column) : Type 0 where
  pub some : 1 ≤ column.slot
  pub there : column.slot ≤ extent.slots
  pub known : (column.entry < extent.ops) ⊎ (column.entry ≡ 255)

of_parts : (extent : Extent) (slot entry : ℕ) (part : Part) → slot ≢ 0 → HasSlot extent slot part → HasPart extent entry part →
    (1 ≤ slot) × (slot ≤ extent.slots) × ((entry < extent.ops) ⊎ (entry ≡ 255))
of_parts extent slot entry Z some slots parts = (slots.0, slots.1, parts)
of_parts extent slot entry (A c) some slots parts = (slots.0, slots.1, inl parts.0)
of_parts extent slot entry S some slots parts = (slots.0, slots.1, inl parts)
of_parts extent slot entry E some slots parts = (slots.0, slots.1, inl parts)
of_parts extent slot entry W some slots parts = absurd (some slots)

pub of-slot : (extent : Extent) (column : Column) → IsColumn extent column → column.slot ≢ 0 → IsOfSlot extent column
of-slot extent column is some =
    let parts = of_parts extent column.slot column.entry column.part some is.slot_there is.part_there in
    record { some = parts.0; there = parts.1; known = parts.2 }

wait_part : (extent : Extent) (slot : ℕ) (part : Part) → slot ≡ 0 → HasSlot extent slot part → part ≡ W
wait_part extent slot Z none slots = absurd (omega arith)
wait_part extent slot (A c) none slots = absurd (omega arith)
wait_part extent slot S none slots = absurd (omega arith)
wait_part extent slot E none slots = absurd (omega arith)
wait_part extent slot W none slots = refl

-- slot 0 has the vessels' waits alone
pub of-vessel : (extent : Extent) (column : Column) → IsColumn extent column → column.slot ≡ 0 → column.part ≡ W
of-vessel extent column is none = wait_part extent column.slot column.part none is.slot_there

-- an operation's bit is its number, and idle's is 63
pub bit-operation : (entry ops : ℕ) → entry < ops → ops ≤ MOST_OPERATIONS → bit_of_entry entry ≡ entry
bit-operation entry ops known few = let ne : entry ≢ 255 = λ (same : entry ≡ 255). omega arith in rw (ne_eqb entry 255 ne) refl

pub bit-idle : (entry : ℕ) → entry ≡ 255 → bit_of_entry entry ≡ 63
bit-idle entry same = rw (eq-eqb entry 255 same) refl

pub bit-below : (entry ops : ℕ) → (entry < ops) ⊎ (entry ≡ 255) → ops ≤ MOST_OPERATIONS → bit_of_entry entry < 64
bit-below entry ops known few =
    elim known [
      | inl operation ↦ let bit = bit-operation entry ops operation few in omega arith
      | inr idle ↦ let bit = bit-idle entry idle in omega arith
    ]

-- ---- how great the numbers may be

-- in order, and no greater than what the part's numbers may be
pub record IsModest (part : Part) (s : Span) : Type 0 where
  pub ordered : s.lo ≤ s.hi
  pub small : s.hi ≤ part_reach part

when-most : (b : Bool) (n : ℕ) → when b n ≤ n
when-most true n = omega arith
when-most false n = omega arith

live-modest : (alone : Bool) (s : Slot) (part : Part) → IsSlot s → IsModest part (live_span alone s part)
live-modest alone s Z is = record { ordered = when-most alone 1; small = omega arith }
live-modest alone s (A c) is = record { ordered = omega arith; small = is.volume.1 }
live-modest alone s S is = (let most = when-most alone s.start.lo in record { ordered = omega (arith, is.start.0); small = is.start.1 })
live-modest alone s E is = (let most = when-most alone s.end.lo in record { ordered = omega (arith, is.end.0); small = is.end.1 })
live-modest alone s W is = record { ordered = omega arith; small = omega arith }

nought-modest : (part : Part) → IsModest part (span 0 0)
nought-modest part = record { ordered = omega arith; small = omega arith }

entry-modest : (s : Slot) (bit : ℕ) (part : Part) → IsSlot s → IsModest part (entry_span s bit part)
entry-modest s bit part is =
    elim (cases_Bool (bit_at (live_of s) bit == 1)) [
      | inl live ↦ rw live (live-modest (live_of s == 2 ^ bit) s part is)
      | inr dead ↦ rw dead (nought-modest part)
    ]

slot-is : (box : List Slot) (slot : ℕ) → IsBox box → 1 ≤ slot → slot ≤ length box → IsSlot (slot_at box slot)
slot-is box slot is some there = All-get_or IsSlot box (slot - 1) no_slot (omega arith) is.each

wait-modest : (parts : Parts) (part : Part) → SoundPlant parts → part ≡ W → IsModest part (span 0 (horizon_of parts))
wait-modest parts part sound is =
    let most = sound.horizon.1 in
    subst (λ (p : Part). IsModest p (span 0 (horizon_of parts))) (sym is) (record { ordered = omega arith; small = omega arith })

pub column-modest : (parts : Parts) (box : List Slot) (column : Column) → SoundPlant parts → IsBox box →
    IsColumn (extent_of parts (length box)) column → IsModest column.part (column_span parts box column)
column-modest parts box column sound is there =
    let extent = extent_of parts (length box) in
    elim (cases_eq column.slot 0) [
      | inl none ↦ rw (eq-eqb column.slot 0 none) (wait-modest parts column.part sound (of-vessel extent column there none))
      | inr some ↦
          let of = of-slot extent column there some in
          rw (ne_eqb column.slot 0 some)
          (entry-modest (slot_at box column.slot) (bit_of_entry column.entry) column.part (slot-is box column.slot is of.some of.there))
    ]
