use Rattle.std.proofs.Common.{◌≡◌, length, map, replicate, None, List, ℕ, sym, ap, ◌∙◌, subst, arith}
use Rattle.search_node.specs.declared.looked.NodeNote.{NodeNote}
use Rattle.search_gather.specs.Numbered.{notes_of}
use Rattle.search_gather.specs.inside.Placing.{written, ticket_at, AreIdsBelow, AreTurnsBelow, turns_from, node_at, empty_place, HaveTurns}
use Rattle.search_gather.proofs.tree.gather.Goals as goal
use Rattle.search_gather.proofs.GatherLaws.{ids-below, are-held, order-size, are-turns-below, are-turns, have-turns, turns-size, length-notes, gathered}

-- src/tree.rt:32:16
pub held_tickets-requires : goal.held_tickets-requires
held_tickets-requires c =
    let s = c.requires.settled in
    let notes = notes_of c.args.notes c.args.cuts in
    let same : c.as_slice-2.result.now ≡ notes = c.as_slice-2.ensures ∙ c.in_ok-notes.ensures ∙ ap (notes_of c.args.notes) c.as_slice.ensures in
    subst (λ (ns : List NodeNote). AreIdsBelow (length ns) ns) (sym same) (ids-below s.root s.t notes s.over s.settled)

-- src/tree.rt:33:17
pub order_of-requires : goal.order_of-requires
order_of-requires c =
    let s = c.requires.settled in
    let notes = notes_of c.args.notes c.args.cuts in
    let same : c.in_ok-notes.notes ≡ notes = c.in_ok-notes.ensures ∙ ap (notes_of c.args.notes) c.as_slice.ensures in
    let held : c.as_slice-3.result.now ≡ written (map ticket_at notes) (replicate (length notes) None) =
    c.as_slice-3.ensures.value ∙ c.in_ok-held.ensures ∙ ap (λ (ns : List NodeNote). written (map ticket_at ns) (replicate (length ns) None)) (c.as_slice-2.ensures ∙ same) in
    are-held s.root s.t notes s.over s.settled c.as_slice-3.result.now held s.few

-- src/tree.rt:34:18
pub places_of-requires-clause-few : goal.places_of-requires-clause-few
places_of-requires-clause-few c =
    let s = c.requires.settled in
    let notes = notes_of c.args.notes c.args.cuts in
    let same : c.in_ok-notes.notes ≡ notes = c.in_ok-notes.ensures ∙ ap (notes_of c.args.notes) c.as_slice.ensures in
    let held : c.as_slice-3.result.now ≡ written (map ticket_at notes) (replicate (length notes) None) =
    c.as_slice-3.ensures.value ∙ c.in_ok-held.ensures ∙ ap (λ (ns : List NodeNote). written (map ticket_at ns) (replicate (length ns) None)) (c.as_slice-2.ensures ∙ same) in
    let size = order-size s.root s.t notes s.over s.settled c.as_slice-3.result.now held c.in_ok-order.order.items c.in_ok-order.ensures in
    let order = ap length c.as_slice-4.ensures.value in
    let few = s.few in
    omega arith

-- src/tree.rt:34:18
pub places_of-requires-clause-below : goal.places_of-requires-clause-below
places_of-requires-clause-below c =
    let s = c.requires.settled in
    let notes = notes_of c.args.notes c.args.cuts in
    let same : c.in_ok-notes.notes ≡ notes = c.in_ok-notes.ensures ∙ ap (notes_of c.args.notes) c.as_slice.ensures in
    let held : c.as_slice-3.result.now ≡ written (map ticket_at notes) (replicate (length notes) None) =
    c.as_slice-3.ensures.value ∙ c.in_ok-held.ensures ∙ ap (λ (ns : List NodeNote). written (map ticket_at ns) (replicate (length ns) None)) (c.as_slice-2.ensures ∙ same) in
    subst (λ (order : List ℕ). AreTurnsBelow (length order) order) (sym c.as_slice-4.ensures.value)
    (are-turns-below s.root s.t notes s.over s.settled c.as_slice-3.result.now held c.in_ok-order.order.items c.in_ok-order.ensures)

-- src/tree.rt:36:16
pub nodes_in_place-requires-clause-turns : goal.nodes_in_place-requires-clause-turns
nodes_in_place-requires-clause-turns c =
    let s = c.requires.settled in
    let notes = notes_of c.args.notes c.args.cuts in
    let same : c.in_ok-notes.notes ≡ notes = c.in_ok-notes.ensures ∙ ap (notes_of c.args.notes) c.as_slice.ensures in
    let held : c.as_slice-3.result.now ≡ written (map ticket_at notes) (replicate (length notes) None) =
    c.as_slice-3.ensures.value ∙ c.in_ok-held.ensures ∙ ap (λ (ns : List NodeNote). written (map ticket_at ns) (replicate (length ns) None)) (c.as_slice-2.ensures ∙ same) in
    let order = c.in_ok-order.order.items in
    let turns : c.as_slice-5.result.now ≡ written (turns_from 0 order) (replicate (length order) 0) =
    c.as_slice-5.ensures.value ∙ c.in_ok-places.ensures ∙ ap (λ (os : List ℕ). written (turns_from 0 os) (replicate (length os) 0)) c.as_slice-4.ensures.value in
    are-turns s.root s.t notes s.over s.settled c.as_slice-3.result.now held order c.in_ok-order.ensures c.as_slice-5.result.now turns s.few

-- src/tree.rt:36:16
pub nodes_in_place-requires-clause-each : goal.nodes_in_place-requires-clause-each
nodes_in_place-requires-clause-each c =
    let s = c.requires.settled in
    let notes = notes_of c.args.notes c.args.cuts in
    let same : c.in_ok-notes.notes ≡ notes = c.in_ok-notes.ensures ∙ ap (notes_of c.args.notes) c.as_slice.ensures in
    let held : c.as_slice-3.result.now ≡ written (map ticket_at notes) (replicate (length notes) None) =
    c.as_slice-3.ensures.value ∙ c.in_ok-held.ensures ∙ ap (λ (ns : List NodeNote). written (map ticket_at ns) (replicate (length ns) None)) (c.as_slice-2.ensures ∙ same) in
    let order = c.in_ok-order.order.items in
    let turns : c.as_slice-5.result.now ≡ written (turns_from 0 order) (replicate (length order) 0) =
    c.as_slice-5.ensures.value ∙ c.in_ok-places.ensures ∙ ap (λ (os : List ℕ). written (turns_from 0 os) (replicate (length os) 0)) c.as_slice-4.ensures.value in
    subst (HaveTurns c.as_slice-5.result.now) (sym same)
    (have-turns s.root s.t notes s.over s.settled c.as_slice-3.result.now held order c.in_ok-order.ensures c.as_slice-5.result.now turns)

-- src/tree.rt:36:16
pub nodes_in_place-requires-clause-count : goal.nodes_in_place-requires-clause-count
nodes_in_place-requires-clause-count c =
    let s = c.requires.settled in
    let notes = notes_of c.args.notes c.args.cuts in
    let same : c.in_ok-notes.notes ≡ notes = c.in_ok-notes.ensures ∙ ap (notes_of c.args.notes) c.as_slice.ensures in
    let held : c.as_slice-3.result.now ≡ written (map ticket_at notes) (replicate (length notes) None) =
    c.as_slice-3.ensures.value ∙ c.in_ok-held.ensures ∙ ap (λ (ns : List NodeNote). written (map ticket_at ns) (replicate (length ns) None)) (c.as_slice-2.ensures ∙ same) in
    let order = c.in_ok-order.order.items in
    let turns : c.as_slice-5.result.now ≡ written (turns_from 0 order) (replicate (length order) 0) =
    c.as_slice-5.ensures.value ∙ c.in_ok-places.ensures ∙ ap (λ (os : List ℕ). written (turns_from 0 os) (replicate (length os) 0)) c.as_slice-4.ensures.value in
    let as-many = ap length same in
    let many = length-notes s.root s.t notes s.over s.settled in
    let size = turns-size s.root s.t notes s.over s.settled c.as_slice-3.result.now held order c.in_ok-order.ensures c.as_slice-5.result.now turns in
    omega arith

-- src/tree.rt:25:1
pub returns-clause-nodes : goal.returns-clause-nodes
returns-clause-nodes c = λ root t over settled.
    let notes = notes_of c.args.notes c.args.cuts in
    let same : c.in_ok-notes.notes ≡ notes = c.in_ok-notes.ensures ∙ ap (notes_of c.args.notes) c.as_slice.ensures in
    let held : c.as_slice-3.result.now ≡ written (map ticket_at notes) (replicate (length notes) None) =
    c.as_slice-3.ensures.value ∙ c.in_ok-held.ensures ∙ ap (λ (ns : List NodeNote). written (map ticket_at ns) (replicate (length ns) None)) (c.as_slice-2.ensures ∙ same) in
    let order = c.in_ok-order.order.items in
    let turns : c.as_slice-5.result.now ≡ written (turns_from 0 order) (replicate (length order) 0) =
    c.as_slice-5.ensures.value ∙ c.in_ok-places.ensures ∙ ap (λ (os : List ℕ). written (turns_from 0 os) (replicate (length os) 0)) c.as_slice-4.ensures.value in
    let tree : c.in_ok-nodes_in_place.field-0 ≡ written (map (node_at c.as_slice-5.result.now) notes) (replicate (length notes) empty_place) =
    c.in_ok-nodes_in_place.ensures
    ∙ ap (λ (ns : List NodeNote). written (map (node_at c.as_slice-5.result.now) ns) (replicate (length ns) empty_place)) same in
    gathered root t notes over settled c.as_slice-3.result.now held order c.in_ok-order.ensures c.as_slice-5.result.now turns c.in_ok-nodes_in_place.field-0 tree
