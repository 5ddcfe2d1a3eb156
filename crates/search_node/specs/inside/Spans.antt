-- Names of rows by spans of their numbers.
use Rattle.std.specs.Prelude.{◌≡◌, ℕ, ◌<◌, ◌≤◌, IsTrue, All, List}
use Rattle.plant_model.specs.declared.parts.Parts.{Parts}
use Rattle.slot_box.specs.declared.term.RowName.{RowName}
use Rattle.leaf_value.specs.Settings.{has_row, plain_setting}
use Rattle.search_node.specs.declared.block.RowBlock.{RowBlock}
use Rattle.search_node.specs.declared.names.Numbers.{Numbers}
use Rattle.search_node.specs.declared.names.NameSpans.{NameSpans}
use Rattle.search_node.specs.Tables.{HaveName, IsBlockOf}

-- the number is one of them
abbrev pub IsOf : ℕ → Numbers → Type 0
IsOf number numbers = (numbers.from ≤ number) × (number < numbers.below)

-- the name is one of the family, and each of its numbers is of those that it may be
pub record IsAmong (spans : NameSpans) (name : RowName) : Type 0 where
  pub family : name.family ≡ spans.family
  pub a : IsOf name.a spans.a
  pub b : IsOf name.b spans.b
  pub c : IsOf name.c spans.c
  pub d : IsOf name.d spans.d

-- each name of the family that has a row is among them
abbrev pub CoversFamily : Parts → ℕ → ℕ → NameSpans → Type 0
CoversFamily parts n family spans =
    (name : RowName) → name.family ≡ family → IsTrue (has_row (plain_setting parts n) name) → IsAmong spans name

-- the blocks have the row of each name among them that has one
abbrev pub HaveSpans : Parts → ℕ → NameSpans → List RowBlock → Type 0
HaveSpans parts n spans blocks =
    (name : RowName) → IsAmong spans name → IsTrue (has_row (plain_setting parts n) name) → HaveName blocks name

-- no name is lost
abbrev pub KeepNames : List RowBlock → List RowBlock → Type 0
KeepNames old new = (name : RowName) → HaveName old name → HaveName new name

-- each block is one of the plant and of n slots
abbrev pub AreBlocks : Parts → ℕ → List RowBlock → Type 0
AreBlocks parts n blocks = All (IsBlockOf parts n) blocks

-- the blocks have the row of the name, where it has one
abbrev pub HaveIfRow : Parts → ℕ → List RowBlock → RowName → Type 0
HaveIfRow parts n blocks name = IsTrue (has_row (plain_setting parts n) name) → HaveName blocks name
