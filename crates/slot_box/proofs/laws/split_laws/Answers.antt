use Rattle.slot_box.proofs.TreeLaws.{IsBox-left_of, IsBox-right_of, IsPartition-of, points_of-split, points_of-box}
use Rattle.slot_box.proofs.laws.split_laws.Goals as goal

pub returns : goal.returns
returns c = record {
  points = IsPartition-of;
  boxes = λ slots split box lawful. (IsBox-left_of slots split box lawful, IsBox-right_of slots split box lawful);
  counts = λ slots split box lawful. record {
    sum = points_of-split slots split box lawful;
    some_left = points_of-box _ (IsBox-left_of slots split box lawful);
    some_right = points_of-box _ (IsBox-right_of slots split box lawful);
  };
}
