-- Ranges that are set column by column.
use Rattle.std.proofs.Common.{◌≡◌, ℕ, ◌+◌, ◌-◌, ◌<◌, ◌≤◌, List, length, inl, inr, get_or, ap, sym, ◌∙◌, subst, arith}
use Rattle.std.proofs.lemmas.Bool.{cases_eq}
use Rattle.std.proofs.lemmas.List.FromFn.{fill_by_all}
use Rattle.linear_form.specs.declared.column.Column.{Column}
use Rattle.linear_form.specs.declared.column.Part.{Part}
use Rattle.linear_form.specs.Bounds.{Bounds, zero_alone, KeepsOthers}
use Rattle.linear_form.specs.Columns.{Extent, HasPart, IsColumn, count_of, number_of, column_at}
use Rattle.linear_form.proofs.ColumnLaws.{number-same, column-there, column-again}
use Rattle.plant_model.specs.declared.parts.Parts.{Parts}
use Rattle.plant_model.specs.Parts.{op_count_of}
use Rattle.linear_form.specs.Listed.{vessel_column}
use Rattle.row_forms.specs.Columns.{extent_of}
use Rattle.slot_box.specs.declared.slot.Slot.{Slot}
use Rattle.slot_rows.specs.Ranges.{interval_of, column_span, ranges_of}
use Rattle.slot_rows.specs.inside.Given.{IsGiven, AreOfBox, KeepsGiven, IsSlotGiven}
use Rattle.slot_rows.proofs.SpanLaws.{of-slot, of-vessel}

pub kept-none : (parts : Parts) (box : List Slot) (bounds : Bounds) → AreOfBox parts box bounds → KeepsGiven parts box bounds bounds
kept-none parts box bounds of = record { extent = of; kept = λ column there given. given }

pub kept-then : (parts : Parts) (box : List Slot) (old mid new : Bounds) → KeepsGiven parts box old mid → KeepsGiven parts box mid new → KeepsGiven parts box old new
kept-then parts box old mid new first second =
    record { extent = second.extent; kept = λ column there given. second.kept column there (first.kept column there given) }

-- writing the range of a column
pub kept-set : (parts : Parts) (box : List Slot) (old new : Bounds) (column : Column) → AreOfBox parts box old →
    IsColumn (extent_of parts (length box)) column → new.extent ≡ old.extent → IsGiven parts box new column → KeepsOthers column old new →
    KeepsGiven parts box old new
kept-set parts box old new column of there same given others =
    let extent = extent_of parts (length box) in
    record {
      extent = same ∙ of;
      kept = λ other elsewhere had.
          elim (cases_eq (number_of extent other) (number_of extent column)) [
            | inl one ↦
                let is = number-same extent column other there elsewhere (sym one) in
                subst (IsGiven parts box new) is given
            | inr two ↦
                let apart : other ≡ column → ⊥ = λ (is : other ≡ column). two (ap (number_of extent) is) in
                others other (subst (λ (e : Extent). IsColumn e other) (sym of) elsewhere) apart ∙ had
          ];
    }

-- all columns have their ranges
pub given-all : (parts : Parts) (box : List Slot) (bounds : Bounds) → op_count_of parts ≤ 255 → AreOfBox parts box bounds →
    length bounds.ends ≡ count_of bounds.extent →
    ((column : Column) → IsColumn (extent_of parts (length box)) column → IsGiven parts box bounds column) → bounds ≡ ranges_of parts box
unfolding ranges_of
given-all parts box bounds few of count given =
    let extent = extent_of parts (length box) in
    let range = λ (j : ℕ). interval_of (column_span parts box (column_at extent j)) in
    let all : length bounds.ends ≡ count_of extent = count ∙ ap count_of of in
    let ends = fill_by_all range bounds.ends (count_of extent) zero_alone all (λ j below.
    let there = column-there extent j below in
    let number : number_of bounds.extent (column_at extent j) ≡ j = ap (λ (e : Extent). number_of e (column_at extent j)) of ∙ column-again extent j few below in
    sym (ap (λ (m : ℕ). get_or bounds.ends m zero_alone) number) ∙ given (column_at extent j) there) in
    λ i. record { extent = of i; ends = ends i }

-- those of the slots were given before those of the vessels
pub all-given : (parts : Parts) (box : List Slot) (mid new : Bounds) → KeepsGiven parts box mid new →
    ((k : ℕ) → k < length box → IsSlotGiven parts box mid (k + 1)) → ((p : ℕ) → p < length parts.vessels → IsGiven parts box new (vessel_column p)) →
    (column : Column) → IsColumn (extent_of parts (length box)) column → IsGiven parts box new column
all-given parts box mid new kept slots waits column there =
    let extent = extent_of parts (length box) in
    elim (cases_eq column.slot 0) [
      | inl none ↦
          let part = of-vessel extent column there none in
          let same : column ≡ vessel_column column.entry = (λ i. record { slot = none i; entry = column.entry; part = part i }) in
          subst (IsGiven parts box new) (sym same) (waits column.entry (subst (λ (p : Part). HasPart extent column.entry p) part there.part_there))
      | inr some ↦
          let of = of-slot extent column there some in
          let back : column.slot - 1 + 1 ≡ column.slot = omega (arith, of.some) in
          let given = subst (IsSlotGiven parts box mid) back (slots (column.slot - 1) (omega (arith, of.some, of.there))) in
          kept.kept column there (given column.entry column.part there)
    ]
