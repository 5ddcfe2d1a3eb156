-- Rows by their names, kept for all boxes of n slots of a plant.
use Rattle.std.specs.Prelude.{◌≡◌, ℕ, ◌≤◌, IsTrue, All, Any, Contains, List, length}
use Rattle.std.specs.List.{AllZip}
use Rattle.limits.specs.declared.TheConstants.{MOST_ROWS}
use Rattle.named_rows.specs.NamedRows.{IsNamed}
use Rattle.plant_model.specs.declared.parts.Parts.{Parts}
use Rattle.row_forms.specs.Fits.{AreFitTerms, IsFitRow}
use Rattle.slot_box.specs.declared.term.RowName.{RowName}
use Rattle.slot_rows.specs.Objective.{objective_of}
use Rattle.leaf_value.specs.Settings.{has_row, plain_setting}
use Rattle.search_node.specs.declared.block.RowBlock.{RowBlock}
use Rattle.search_node.specs.declared.table.RowTable.{RowTable}
use Rattle.leaf_value.specs.PlainGuesses.{is_plain_family}

-- no more rows than a leaf may name, each under its name
pub record IsBlockOf (parts : Parts) (n : ℕ) (block : RowBlock) : Type 0 where
  pub few : length block.names ≤ MOST_ROWS
  pub named : AllZip (IsNamed parts n) block.names block.rows
  pub fit : All (IsFitRow parts n) block.rows

-- some block has a row of this name
abbrev pub HaveName : List RowBlock → RowName → Type 0
HaveName blocks name = Any (λ (block : RowBlock). Contains block.names name) blocks

-- every row that a plain guess may take is in one of the blocks
abbrev pub HavePlainRows : Parts → ℕ → List RowBlock → Type 0
HavePlainRows parts n blocks =
    (name : RowName) → IsTrue (is_plain_family name.family) → IsTrue (has_row (plain_setting parts n) name)
    → HaveName blocks name

-- the table of a plant and of n slots: the objective, the rows of plain guesses, and as many others as are of use
pub record IsTableOf (parts : Parts) (n : ℕ) (table : RowTable) : Type 0 where
  pub objective : table.objective ≡ objective_of parts n
  pub fits : AreFitTerms parts n table.objective
  pub plain : All (IsBlockOf parts n) table.plain
  pub all_plain : HavePlainRows parts n table.plain
  pub others : All (IsBlockOf parts n) table.others
