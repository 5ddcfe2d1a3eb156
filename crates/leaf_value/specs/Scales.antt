-- What the leaves of a plant's search trees are weighed with, the same for all of them.
use Rattle.std.specs.Prelude.{◌≡◌, ℕ}
use Rattle.overlap_graph.specs.Cliques.{cliques_of}
use Rattle.overlap_graph.specs.Independence.{independence_of}
use Rattle.plant_model.specs.declared.parts.Parts.{Parts}
use Rattle.row_forms.specs.Fits.{AreFitTerms}
use Rattle.slot_rows.specs.Objective.{objective_of}
use Rattle.leaf_value.specs.declared.scales.Scales.{Scales}

-- the plant's cliques, its automaton, and the objective over forms of n slots
pub record AreScalesOf (parts : Parts) (n : ℕ) (scales : Scales) : Type 0 where
  pub cliques : scales.cliques ≡ cliques_of parts
  pub automaton : scales.automaton ≡ independence_of parts
  pub objective : scales.objective ≡ objective_of parts n
  pub fits : AreFitTerms parts n scales.objective
