use Rattle.std.specs.Prelude.{◌≡◌, ◌<◌, All}
use Rattle.std.specs.List.{range_with_len}
use Rattle.plant_model.specs.Parts.{op_count_of}
use Rattle.crude_run.proofs.first_plan.every_operation.Given as goal

abbrev pub invariant-loop-v : goal.invariant-loop-v
invariant-loop-v l = record {
  so_far : l.ops.items ≡ range_with_len 0 l.v;
  known : All (λ v. v < op_count_of l.plant) l.ops.items;
}
