-- What entries are worth over the parts of a box.
use Rattle.std.proofs.Common.{◌≡◌, ℕ, ◌≤◌, Bool, true, ◌≤ℤ◌, List, [], ◌∷◌, refl, arith}
use Rattle.std.specs.Prelude.{filter}
use Rattle.std.proofs.lemmas.List.Elements.{All-head, All-tail}
use Rattle.dual_bound.specs.Conditions.{IsWithin}
use Rattle.dual_bound.proofs.DualLaws.{value-bounds_narrower}
use Rattle.named_rows.specs.Laws.{PartsHaveNarrowerRanges}
use Rattle.plant_model.specs.declared.parts.Parts.{Parts}
use Rattle.plant_model.specs.Sound.{SoundPlant}
use Rattle.slot_box.specs.declared.slot.Slot.{Slot}
use Rattle.slot_box.specs.declared.term.Term.{Term}
use Rattle.slot_box.specs.declared.term.Term.TheVariants.{Row, Cut}
use Rattle.slot_box.specs.Splits.{left_of, right_of}
use Rattle.slot_rows.specs.Objective.{objective_of}
use Rattle.slot_rows.specs.Ranges.{ranges_of}
use Rattle.leaf_value.specs.LeafValue.{IsLawfulTerm, dual_value_of, multipliers_of, rows_of}
use Rattle.leaf_value.specs.Settings.{Setting, plain_setting}
use Rattle.search_node.specs.Laws.{LawfulEntriesAreThere, PartsAreBelowTheWhole}
use Rattle.search_node.specs.Values.{is_there}

-- ---- entries

kept : {X : Type 0} (p : X → Bool) (x : X) (xs kept : List X) → p x ≡ true → filter p xs ≡ kept → filter p (x ∷ xs) ≡ x ∷ kept
kept p x xs rest is same = rw (is, same) refl

pub lawful_entries_are_there : (setting : Setting) → LawfulEntriesAreThere setting
lawful_entries_are_there setting [] lawful = refl
lawful_entries_are_there setting (Row name y ∷ terms) lawful =
    kept (is_there setting) (Row name y) terms terms (All-head (IsLawfulTerm setting) (Row name y) terms lawful).1
    (lawful_entries_are_there setting terms (All-tail (IsLawfulTerm setting) (Row name y) terms lawful))
lawful_entries_are_there setting (Cut cut slot op y ∷ terms) lawful =
    kept (is_there setting) (Cut cut slot op y) terms terms (All-head (IsLawfulTerm setting) (Cut cut slot op y) terms lawful).2
    (lawful_entries_are_there setting terms (All-tail (IsLawfulTerm setting) (Cut cut slot op y) terms lawful))

-- ---- parts

part-below : (parts : Parts) (n : ℕ) (box part : List Slot) (q : ℕ) (terms : List Term) → SoundPlant parts → 1 ≤ q →
    IsWithin (ranges_of parts part) (ranges_of parts box) →
    dual_value_of (plain_setting parts n) part q terms ≤ℤ dual_value_of (plain_setting parts n) box q terms
unfolding dual_value_of ranges_of
part-below parts n box part q terms sound some within =
    value-bounds_narrower (rows_of (plain_setting parts n) terms) (ranges_of parts box) (objective_of parts n) (multipliers_of terms) q
    (let ops = sound.ops in omega (arith, ops)) some (ranges_of parts part) within

pub parts_are_below_the_whole : (parts : Parts) (n : ℕ) → SoundPlant parts → PartsHaveNarrowerRanges parts → PartsAreBelowTheWhole (plain_setting parts n)
parts_are_below_the_whole parts n sound narrower box split q terms is sized lawful some =
    let within = narrower box split is lawful in
    (part-below parts n box (left_of box split) q terms sound some within.0, part-below parts n box (right_of box split) q terms sound some within.1)
