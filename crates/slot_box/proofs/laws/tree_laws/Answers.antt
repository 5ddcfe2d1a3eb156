use Rattle.slot_box.proofs.TreeLaws.{covered, IsBoxWithin-node, length-leaf_boxes, sum_by-leaf_boxes, leaves_at_most_points}
use Rattle.slot_box.proofs.laws.tree_laws.Goals as goal

pub returns : goal.returns
returns c = record {
  cover = covered;
  within = IsBoxWithin-node;
  share = sum_by-leaf_boxes;
  few = λ box tree is lawful. rw (length-leaf_boxes box tree) (leaves_at_most_points box tree is lawful);
}
