use Rattle.slot_box.proofs.BoxLaws.{entries_are_live, only_points_are_points, root_slots_may_idle, root_slots_may_run}
use Rattle.slot_box.proofs.SlotLaws.{IsBox-root_of}
use Rattle.slot_box.proofs.laws.box_laws.Goals as goal

pub returns : goal.returns
returns c = record {
  live = entries_are_live;
  only = only_points_are_points;
  roots = IsBox-root_of;
  idle = root_slots_may_idle;
  runs = root_slots_may_run;
}
