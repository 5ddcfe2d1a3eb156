-- What is kept of the entries with which a task begins.
use Rattle.std.specs.Prelude.{◌≡◌, ℕ, None, List}
use Rattle.dual_bound.specs.Conditions.{IsGuess}
use Rattle.named_rows.specs.NamedRows.{named_row_of}
use Rattle.plant_model.specs.declared.parts.Parts.{Parts}
use Rattle.slot_box.specs.declared.term.RowName.{RowName}
use Rattle.slot_box.specs.declared.term.Term.{Term}
use Rattle.leaf_value.specs.Settings.{Setting}
use Rattle.search_node.specs.declared.warm.WarmEntries.{WarmEntries}
use Rattle.search_node.specs.inside.Candidates.{entries_by}
use Rattle.search_node.specs.Tables.{IsBlockOf}
use Rattle.search_node.specs.Values.{entries_there}

-- there is no row of the name
abbrev pub HasNoRow : Parts → ℕ → RowName → Type 0
HasNoRow parts n name = named_row_of parts n name ≡ None

-- the rows and multipliers of those of the entries whose rows are there
pub record AreWarmEntries (setting : Setting) (entries : List Term) (warm : WarmEntries) : Type 0 where
  pub block : IsBlockOf setting.case.parts setting.case.slots warm.block
  pub guess : IsGuess warm.block.rows warm.guess.y warm.guess.q
  pub same : entries_by warm.block.names warm.guess.y ≡ entries_there setting entries
