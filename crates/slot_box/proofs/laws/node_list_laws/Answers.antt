use Rattle.slot_box.proofs.NodeLaws.{lists_are_trees, open_leaves_cost}
use Rattle.slot_box.proofs.laws.node_list_laws.Goals as goal

pub returns : goal.returns
returns c = record { shape = lists_are_trees; cost = open_leaves_cost }
