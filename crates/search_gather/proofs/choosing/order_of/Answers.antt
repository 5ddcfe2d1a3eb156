use Rattle.std.proofs.Common.{ℕ, ◌-◌, ◌<◌, List, length, arith, subst, sym}
use Rattle.std.specs.BinaryHeap.{heap_items}
use Rattle.search_gather.specs.inside.Choosing.{ready_times}
use Rattle.search_gather.proofs.ChoosingLaws.{IsChoosing, choosing-end, none-ready, taken-below, turn-taken, fewer-left}
use Rattle.search_gather.proofs.choosing.order_of.Goals as goal

pub overflow_mul-ticket : goal.overflow_mul-ticket
overflow_mul-ticket c =
    let below = taken-below c.args.held.now c.requires c.loop-ticket.order.items (heap_items c.loop-ticket.ready) (heap_items c.pop.new.self)
    c.in-Some.field-0 c.loop-ticket.invariant.choosing c.in-Some.ensures.permutation in
    omega arith

pub overflow_add-ticket : goal.overflow_add-ticket
overflow_add-ticket c =
    let below = taken-below c.args.held.now c.requires c.loop-ticket.order.items (heap_items c.loop-ticket.ready) (heap_items c.pop.new.self)
    c.in-Some.field-0 c.loop-ticket.invariant.choosing c.in-Some.ensures.permutation in
    omega arith

pub add_ready-requires-in-Some : goal.add_ready-requires-in-Some
add_ready-requires-in-Some c =
    let below = taken-below c.args.held.now c.requires c.loop-ticket.order.items (heap_items c.loop-ticket.ready) (heap_items c.pop.new.self)
    c.in-Some.field-0 c.loop-ticket.invariant.choosing c.in-Some.ensures.permutation in
    omega arith

pub overflow_mul-ticket-in-Some : goal.overflow_mul-ticket-in-Some
overflow_mul-ticket-in-Some c =
    let below = taken-below c.args.held.now c.requires c.loop-ticket.order.items (heap_items c.loop-ticket.ready) (heap_items c.pop.new.self)
    c.in-Some.field-0 c.loop-ticket.invariant.choosing c.in-Some.ensures.permutation in
    omega arith

pub overflow_add-ticket-in-Some : goal.overflow_add-ticket-in-Some
overflow_add-ticket-in-Some c =
    let below = taken-below c.args.held.now c.requires c.loop-ticket.order.items (heap_items c.loop-ticket.ready) (heap_items c.pop.new.self)
    c.in-Some.field-0 c.loop-ticket.invariant.choosing c.in-Some.ensures.permutation in
    omega arith

pub add_ready-requires-in-Some-2 : goal.add_ready-requires-in-Some-2
add_ready-requires-in-Some-2 c =
    let below = taken-below c.args.held.now c.requires c.loop-ticket.order.items (heap_items c.loop-ticket.ready) (heap_items c.pop.new.self)
    c.in-Some.field-0 c.loop-ticket.invariant.choosing c.in-Some.ensures.permutation in
    omega arith

pub loop-ticket-smaller : goal.loop-ticket-smaller
loop-ticket-smaller c =
    subst (λ (items : List ℕ). length c.args.held.now - length items < length c.args.held.now - length c.loop-ticket.order.items)
    (sym c.in_ok-push.ensures.items)
    (fewer-left c.args.held.now c.requires c.loop-ticket.order.items (heap_items c.loop-ticket.ready) (heap_items c.pop.new.self)
    c.in-Some.field-0 c.loop-ticket.invariant.choosing c.in-Some.ensures.permutation c.loop-ticket.invariant.least_first
    c.in-Some.ensures.heap_order (heap_items c.add_ready-in-Some.new.ready)
    (heap_items c.add_ready-in-Some-2.new.ready) c.in_ok-add_ready-2.ensures.adds c.in_ok-add_ready-3.ensures.adds)

pub loop-ticket-preserved : goal.loop-ticket-preserved
loop-ticket-preserved c = record {
  choosing = subst (λ (items : List ℕ). IsChoosing c.args.held.now items (λ x. ready_times x (heap_items c.add_ready-in-Some-2.new.ready)))
      (sym c.in_ok-push.ensures.items)
      (turn-taken c.args.held.now c.requires c.loop-ticket.order.items (heap_items c.loop-ticket.ready) (heap_items c.pop.new.self)
      c.in-Some.field-0 c.loop-ticket.invariant.choosing c.in-Some.ensures.permutation c.loop-ticket.invariant.least_first
      c.in-Some.ensures.heap_order (heap_items c.add_ready-in-Some.new.ready) (heap_items c.add_ready-in-Some-2.new.ready)
      c.in_ok-add_ready-2.ensures.adds c.in_ok-add_ready-3.ensures.adds);
  least_first = c.in_ok-add_ready-3.ensures.least_first (c.in_ok-add_ready-2.ensures.least_first
      (c.in-Some.ensures.heap_order c.loop-ticket.invariant.least_first).0);
}

pub returns : goal.returns
returns c =
    let size = c.loop-ticket.ready.data.ok in
    choosing-end c.args.held.now c.requires c.loop-ticket.order.items (λ x. ready_times x (heap_items c.loop-ticket.ready))
    c.loop-ticket.invariant.choosing (none-ready (heap_items c.loop-ticket.ready) (let e = c.in_default.ensures.none in let same = size.0 in omega arith))
