-- What the value of a leaf depends on besides its box, and which rows there are.
use Rattle.std.specs.Prelude.{ℕ, Bool, false, ◌&&◌, ◌==◌, nat_le, List, [], length, slice_get, Option, Some, None, if◌then◌else◌}
use Rattle.std.specs.Option.{is_some, option_and_then}
use Rattle.blend_cuts.specs.CutRows.{cut_row_of}
use Rattle.linear_form.specs.Rows.{RowForm}
use Rattle.named_rows.specs.NamedRows.{named_row_of}
use Rattle.plant_model.specs.declared.parts.Parts.{Parts}
use Rattle.slot_box.specs.declared.cut.CutParams.{CutParams}
use Rattle.slot_box.specs.declared.term.RowName.{RowName}
use Rattle.slot_forms.specs.Cases.{Begun, Case, plain}

-- the case that is planned, and the quality cuts that entries may name, by their numbers from 0 on
pub record Setting : Type 0 where
  pub case : Case
  pub cuts : List CutParams

-- the plain case of n slots, without cuts
abbrev pub plain_setting : Parts → ℕ → Setting
plain_setting parts n = record { case = plain parts n; cuts = [] }

-- ---- rows

-- the row is one of normal order, and its slot is one of those that have begun, whose order is given
abbrev pub orders_begun : Option Begun → RowName → Bool
orders_begun None name = false
orders_begun (Some begun) name = name.family == 13 && nat_le name.a (length begun.fixed)

-- the row of this name: one of the plant and its slots, unless it orders what has begun
abbrev pub row_named : Setting → RowName → Option RowForm
row_named setting name =
    if orders_begun setting.case.begun name then None else named_row_of setting.case.parts setting.case.slots name

-- there is a row of this name
abbrev pub has_row : Setting → RowName → Bool
has_row setting name = is_some (row_named setting name)

-- the row of the cut of this number for a slot and an operation; none where there is no such cut, or it has no such row
abbrev pub cut_row_named : Setting → ℕ → ℕ → ℕ → Option RowForm
cut_row_named setting cut slot op =
    option_and_then (λ (params : CutParams). cut_row_of setting.case.parts setting.case.slots params slot op)
    (slice_get setting.cuts cut)

-- there is such a row
abbrev pub has_cut_row : Setting → ℕ → ℕ → ℕ → Bool
has_cut_row setting cut slot op = is_some (cut_row_named setting cut slot op)
