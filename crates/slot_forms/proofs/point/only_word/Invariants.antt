use Rattle.std.proofs.Common.{◌≡◌, ◌≤◌, ◌++◌, length, drop, if◌then◌else◌}
use Rattle.slot_box.specs.Boxes.{only_point}
use Rattle.slot_forms.specs.Forms.{word_of, is_all_idle, is_form}
use Rattle.slot_forms.proofs.point.only_word.Given as goal

abbrev pub invariant-loop-i : goal.invariant-loop-i
invariant-loop-i l = record {
  word : word_of (only_point l.bx) ≡ l.steps ++ word_of (only_point (drop l.i l.bx));
  form : is_form (only_point l.bx) ≡ (if l.ended then is_all_idle (only_point (drop l.i l.bx)) else is_form (only_point (drop l.i l.bx)));
  short : length l.steps ≤ l.i;
}
