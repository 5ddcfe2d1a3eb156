-- What the checker keeps of the entries of a leaf.
use Rattle.std.specs.Prelude.{◌≡◌, ◌≤◌, All, List}
use Rattle.limits.specs.declared.TheConstants.{MOST_MULTIPLIER}
use Rattle.plant_model.specs.declared.parts.Parts.{Parts}
use Rattle.row_forms.specs.Fits.{IsFitRow}
use Rattle.slot_box.specs.declared.term.Term.{Term}
use Rattle.leaf_value.specs.LeafValue.{rows_of, multipliers_of}
use Rattle.leaf_value.specs.Settings.{Setting}
use Rattle.dossier_check.specs.declared.entries.Entries.{Entries}

-- the rows and the multipliers of these entries, which can be weighed against each other
pub record AreEntriesOf (parts : Parts) (setting : Setting) (terms : List Term) (entries : Entries) : Type 0 where
  pub rows : entries.rows ≡ rows_of setting terms
  pub multipliers : entries.multipliers ≡ multipliers_of terms
  pub fit : All (IsFitRow parts setting.case.slots) entries.rows
  pub small : All (λ y. y ≤ MOST_MULTIPLIER) entries.multipliers
