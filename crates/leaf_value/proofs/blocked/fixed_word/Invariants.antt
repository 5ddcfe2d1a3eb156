use Rattle.std.proofs.Common.{◌≡◌, ◌<◌, ◌≤◌, All, length, take}
use Rattle.plant_model.specs.Parts.{op_count_of}
use Rattle.slot_box.specs.Boxes.{fixed_prefix}
use Rattle.leaf_value.proofs.blocked.fixed_word.Given as goal

-- the slots so far are fixed to operations of the plant, which are kept
abbrev pub invariant-loop-i : goal.invariant-loop-i
invariant-loop-i l = record {
  word : l.word.items ≡ take l.i (fixed_prefix l.bx);
  within : l.i ≤ length (fixed_prefix l.bx);
  known : All (λ op. op < op_count_of l.plant) l.word.items;
}
