-- A box with what it is weighed by.
use Rattle.std.specs.Prelude.{◌≡◌, length}
use Rattle.overlap_graph.specs.Cliques.{cliques_of}
use Rattle.slot_box.specs.Boxes.{IsBox}
use Rattle.slot_rows.specs.Fits.{WeighFitRows, WeighFitTerms}
use Rattle.slot_rows.specs.Ranges.{ranges_of}
use Rattle.leaf_value.specs.Settings.{Setting, plain_setting}
use Rattle.search_node.specs.declared.weighing.Weighing.{Weighing}
use Rattle.search_node.specs.Tables.{IsTableOf}

-- the table and the cliques are those of the plant and of as many slots as the box has, and the ranges are the box's
pub record IsWhole (weighing : Weighing) : Type 0 where
  pub box : IsBox weighing.bx.now
  pub cliques : weighing.cliques.now ≡ cliques_of weighing.plant.now
  pub table : IsTableOf weighing.plant.now (length weighing.bx.now) weighing.table.now
  pub ranges : weighing.ranges.now ≡ ranges_of weighing.plant.now weighing.bx.now
  pub fit_rows : WeighFitRows weighing.plant.now (length weighing.bx.now) weighing.ranges.now
  pub fit_terms : WeighFitTerms weighing.plant.now (length weighing.bx.now) weighing.ranges.now

-- the plain case of its plant, of as many slots
abbrev pub setting_of : Weighing → Setting
setting_of weighing = plain_setting weighing.plant.now (length weighing.bx.now)
