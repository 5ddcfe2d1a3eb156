use Rattle.std.proofs.Common.{length, ◌-◌}
use Rattle.std.specs.BinaryHeap.{heap_items, IsHeap}
use Rattle.search_gather.specs.inside.Choosing.{ready_times, least_first}
use Rattle.search_gather.proofs.ChoosingLaws.{IsChoosing}
use Rattle.search_gather.proofs.choosing.order_of.Given as goal

abbrev pub invariant-loop-ticket : goal.invariant-loop-ticket
invariant-loop-ticket l = record {
  choosing : IsChoosing l.held l.order.items (λ x. ready_times x (heap_items l.ready));
  least_first : IsHeap least_first (heap_items l.ready);
}

abbrev pub decreases-loop-ticket : goal.decreases-loop-ticket
decreases-loop-ticket l = length l.held - length l.order.items
