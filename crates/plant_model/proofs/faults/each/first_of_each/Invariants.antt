use Rattle.std.proofs.Common.{◌≡◌, ◌+◌, ℕ, List, Result, drop, Bor}
use Rattle.std.specs.Result.{result_err}
use Rattle.item_lists.specs.Faults.{first_of, each_from}
use Rattle.plant_model.specs.declared.place.PlantFault.{PlantFault}
use Rattle.plant_model.proofs.faults.each.first_of_each.Given as goal

-- no entry so far has a fault, so that the first is that of the entries that are left
abbrev pub invariant-loop-entry : goal.invariant-loop-entry
invariant-loop-entry g l = record {
  counted : l.index ≡ l.entry-index + 1;
  rest : (faults_of : ℕ → g.row.T.Denot → List PlantFault)
      → ((index : ℕ) (entry : Bor g.row.T.Denot) (r : Result (Unit {0}) PlantFault) → goal.F-post g l.fault_of index entry r
      → result_err r ≡ first_of (faults_of index entry.now))
      → first_of (each_from faults_of 1 l.entries) ≡ first_of (each_from faults_of l.index (drop l.entry-index l.entries));
}
