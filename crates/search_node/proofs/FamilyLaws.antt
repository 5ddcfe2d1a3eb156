-- What the numbers of a name of a family are where the name has a row.
use Rattle.std.proofs.Common.{◌≡◌, ℕ, ◌<◌, ◌≤◌, Bool, true, false, Option, Some, None, refl, subst}
use Rattle.std.specs.Prelude.{IsTrue, if◌then◌else◌}
use Rattle.std.specs.Option.{is_some, option_map}
use Rattle.std.proofs.lemmas.Bool.{and_parts, eqb-true, false≢true, leb-true, ltb-true}
use Rattle.leaf_value.specs.Settings.{has_row, plain_setting}
use Rattle.linear_form.specs.Rows.{RowForm}
use Rattle.named_rows.specs.NamedRows.{named_row_of, or_the_other}
use Rattle.plant_model.specs.declared.parts.Parts.{Parts}
use Rattle.plant_model.specs.Parts.{op_count_of, place_count_of}
use Rattle.row_forms.specs.declared.piece.Inequality.{Inequality}
use Rattle.slot_box.specs.declared.term.RowName.{RowName}
use Rattle.slot_rows.specs.Names.{is_sided_name}
use Rattle.slot_rows.specs.SlotRows.{slot_inequality, slot_row_of}
use Rattle.tank_rows.specs.Names.{is_demand_name, is_total_name}
use Rattle.tank_rows.specs.TankRows.{tank_inequality}

-- ---- a row that is there

abbrev given : Bool → Inequality → Option Inequality
given is row = if is then Some row else None

slot_given : (is : Bool) (row : Inequality) (form : Inequality → RowForm) → IsTrue (is_some (or_the_other (option_map form (given is row)) None)) → is ≡ true
slot_given true row form there = refl
slot_given false row form there = absurd (false≢true there)

tank_given : (is : Bool) (row : Inequality) (form : Inequality → RowForm) → IsTrue (is_some (option_map form (given is row))) → is ≡ true
tank_given true row form there = refl
tank_given false row form there = absurd (false≢true there)

of_family : (parts : Parts) (n : ℕ) (name : RowName) (family : ℕ) → name.family ≡ family → IsTrue (has_row (plain_setting parts n) name) →
    IsTrue (has_row (plain_setting parts n) (record name { family = family }))
of_family parts n name family same there =
    let is : name ≡ record name { family = family } = (λ i. record name { family = same i }) in
    subst (λ (other : RowName). IsTrue (has_row (plain_setting parts n) other)) is there

-- ---- volumes

pub record IsVolumeName (parts : Parts) (n : ℕ) (name : RowName) : Type 0 where
  pub some : 1 ≤ name.a
  pub slot : name.a ≤ n
  pub op : name.b < op_count_of parts
  pub side : name.c < 2
  pub none : name.d ≡ 0

volume_tested : (parts : Parts) (n : ℕ) (name : RowName) → name.family ≡ 2 → IsTrue (has_row (plain_setting parts n) name) →
    is_sided_name 2 parts n name ≡ true
unfolding named_row_of slot_row_of slot_inequality tank_inequality
volume_tested parts n name family there = slot_given (is_sided_name 2 parts n name) _ _ (of_family parts n name 2 family there)

pub volume_name : (parts : Parts) (n : ℕ) (name : RowName) → name.family ≡ 2 → IsTrue (has_row (plain_setting parts n) name) → IsVolumeName parts n name
volume_name parts n name family there =
    let all = and_parts _ _ (volume_tested parts n name family there) in
    let three = and_parts _ _ all.0 in
    let two = and_parts _ _ three.0 in
    let slot = and_parts _ _ two.0 in
    record {
      some = ltb-true 0 name.a slot.0;
      slot = leb-true name.a n slot.1;
      op = ltb-true name.b (op_count_of parts) two.1;
      side = ltb-true name.c 2 three.1;
      none = eqb-true name.d 0 all.1;
    }

-- ---- totals of tanks

pub record IsTotalName (parts : Parts) (n : ℕ) (name : RowName) : Type 0 where
  pub place : name.a < place_count_of parts
  pub some : 1 ≤ name.b
  pub slot : name.b ≤ n
  pub side : name.c < 2
  pub none : name.d ≡ 0

total_tested : (parts : Parts) (n : ℕ) (name : RowName) → name.family ≡ 5 → IsTrue (has_row (plain_setting parts n) name) →
    is_total_name parts n name ≡ true
unfolding named_row_of slot_row_of slot_inequality tank_inequality
total_tested parts n name family there = tank_given (is_total_name parts n name) _ _ (of_family parts n name 5 family there)

pub total_name : (parts : Parts) (n : ℕ) (name : RowName) → name.family ≡ 5 → IsTrue (has_row (plain_setting parts n) name) → IsTotalName parts n name
total_name parts n name family there =
    let all = and_parts _ _ (total_tested parts n name family there) in
    let five = and_parts _ _ all.0 in
    let four = and_parts _ _ five.0 in
    let three = and_parts _ _ four.0 in
    let two = and_parts _ _ three.0 in
    let slot = and_parts _ _ two.1 in
    record {
      place = ltb-true name.a (place_count_of parts) two.0;
      some = ltb-true 0 name.b slot.0;
      slot = leb-true name.b n slot.1;
      side = ltb-true name.c 2 three.1;
      none = eqb-true name.d 0 four.1;
    }

-- ---- demands

pub record IsDemandName (parts : Parts) (name : RowName) : Type 0 where
  pub place : name.a < place_count_of parts
  pub side : name.b < 2
  pub third : name.c ≡ 0
  pub none : name.d ≡ 0

demand_tested : (parts : Parts) (n : ℕ) (name : RowName) → name.family ≡ 9 → IsTrue (has_row (plain_setting parts n) name) →
    is_demand_name parts name ≡ true
unfolding named_row_of slot_row_of slot_inequality tank_inequality
demand_tested parts n name family there = tank_given (is_demand_name parts name) _ _ (of_family parts n name 9 family there)

pub demand_name : (parts : Parts) (n : ℕ) (name : RowName) → name.family ≡ 9 → IsTrue (has_row (plain_setting parts n) name) → IsDemandName parts name
demand_name parts n name family there =
    let all = and_parts _ _ (demand_tested parts n name family there) in
    let four = and_parts _ _ all.0 in
    let three = and_parts _ _ four.0 in
    let two = and_parts _ _ three.0 in
    record {
      place = ltb-true name.a (place_count_of parts) two.0;
      side = ltb-true name.b 2 two.1;
      third = eqb-true name.c 0 three.1;
      none = eqb-true name.d 0 four.1;
    }
