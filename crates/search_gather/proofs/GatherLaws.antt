-- The tree that notes over boxes make.
use Rattle.std.proofs.Common.{◌≡◌, ◌⊎◌, ℕ, zero, suc, ◌+◌, ◌-◌, ◌*◌, ◌/◌, ◌%◌, ◌<◌, ◌≤◌, Option, Some, None, List, [], ◌∷◌, length, map, replicate, get_or, refl, sym, ap, ◌∙◌, subst, ⊎_elim, inl, inr, arith}
use Rattle.std.specs.Prelude.{slice_get, sum_by, Contains}
use Rattle.std.proofs.lemmas.Bool.{cases_eq}
use Rattle.std.proofs.lemmas.Bool.Decides.{nat_tests}
use Rattle.std.proofs.lemmas.List.{length-replicate, length-map}
use Rattle.std.proofs.lemmas.List.Folds.{sum_by-replicate}
use Rattle.std.proofs.lemmas.Option.{slice_get_within, slice_get-get_or, get_or_from_slice_get}
use Rattle.limits.specs.declared.TheConstants.{MOST_NODES}
use Rattle.slot_box.specs.declared.node.Node.{Node}
use Rattle.slot_box.specs.declared.node.Node.TheVariants.{Inner, Leaf}
use Rattle.slot_box.specs.declared.slot.Slot.{Slot}
use Rattle.slot_box.specs.declared.split.Split.{Split}
use Rattle.slot_box.specs.Nodes.{IsInner, inner_of, inner_count, AreTickets, IsParentOf, HaveParents}
use Rattle.slot_box.specs.Splits.{left_of, right_of}
use Rattle.slot_box.specs.Trees.{HasBox, root_box, left_part, right_part}
use Rattle.search_node.specs.declared.looked.NodeNote.{NodeNote}
use Rattle.search_node.specs.Notes.{NoteOver, outcome_of, box_note, notes_over}
use Rattle.work_chains.specs.BoxChains.{BoxNote}
use Rattle.work_chains.specs.Chains.{inner_note, tickets_of, Reaches, at_root, at_left, at_right}
use Rattle.search_gather.specs.Gathered.{AreSettledOver, IsRenamed, IsNodeOver, IsGathered}
use Rattle.search_gather.specs.inside.Choosing.{HoldsTicket, AreTicketsHeld, IsPartUnder, IsPlacedBy, HasPlace, IsTurnOrder}
use Rattle.search_gather.specs.inside.Placing.{written, ticket_of, ticket_at, AreIdsBelow, turns_from, AreTurnsBelow, turn_of, id_in, node_in, node_at, empty_place, AreTurns, HasTurn, HasOwnTurn, HaveTurns}
use Rattle.search_gather.proofs.CountLists.{all-by-places, place-of, member-at, length-each}
use Rattle.search_gather.proofs.NoteLaws.{map-at, at-map, held-node, length-over, same-id, id-below, note-of, same-ticket, ticket-below, holder-of, note-reached, inner-noted, from-holds, tickets-held}
use Rattle.search_gather.proofs.TableLaws.{slice_get-replicate, summed, written-sum}
use Rattle.search_gather.proofs.WrittenLaws.{AreApart, written-length, written-at, turns-at, at-turns}

-- ---- numbers of parts

part-bounds : (id x : ℕ) → IsPartUnder id x → (2 * x + 1 ≤ id) × (id ≤ 2 * x + 2)
part-bounds id x part = ⊎_elim
    (λ (is : id ≡ 2 * x + 1). (omega arith, omega arith))
    (λ (is : id ≡ 2 * x + 2). (omega arith, omega arith))
    part

-- an id is that of the root or of a part
id-kind : (t id : ℕ) → id < 2 * t + 1 → (id ≡ 0) ⊎ ((x : ℕ) × (x < t) × IsPartUnder id x)
id-kind t zero lt = inl refl
id-kind t (suc m) lt = ⊎_elim
    (λ (even : m % 2 ≡ 0). inr (m / 2, omega arith, inl (omega arith)))
    (λ (odd : m % 2 ≡ 0 → ⊥). inr (m / 2, omega arith, inr (omega arith)))
    (cases_eq (m % 2) 0)

id_in-other : (turns : List ℕ) (id : ℕ) → (id ≡ 0 → ⊥) → id_in turns id ≡ 2 * turn_of turns ((id - 1) / 2) + 1 + (id - 1) % 2
id_in-other turns zero other = absurd (other refl)
id_in-other turns (suc m) other = grind (arith, nat_tests)

id_in-part : (turns : List ℕ) (id x : ℕ) → IsPartUnder id x → id_in turns id + 2 * x ≡ 2 * turn_of turns x + id
id_in-part turns id x part =
    let bounds = part-bounds id x part in
    let low = bounds.0 in
    let high = bounds.1 in
    let value = id_in-other turns id (λ e. omega arith) in
    let half : (id - 1) / 2 ≡ x = omega arith in
    let same = ap (turn_of turns) half in
    omega arith

-- a node under its new ticket
inner-back : (turns : List ℕ) (node : Node) (ticket : ℕ) (split : Split) → node_in turns node ≡ Inner ticket split
    → (old : ℕ) × (node ≡ Inner old split) × (turn_of turns old ≡ ticket)
inner-back turns (Inner old s) ticket split is = (old, (let same : s ≡ split = cc in ap (λ (z : Split). Inner old z) same), (cc))
inner-back turns (Leaf leaf) ticket split is = absurd (cc)

renamed : (turns : List ℕ) (node : Node) → IsRenamed node (node_in turns node)
renamed turns (Inner ticket split) = (turn_of turns ticket, refl)
renamed turns (Leaf leaf) = refl

tickets-first : (turns : List ℕ) (id : ℕ) (box : List Slot) (node : Node) (rest : List BoxNote)
    → length (tickets_of ((record { id = id; box = box; outcome = outcome_of node }) ∷ rest)) ≡ inner_of (node_in turns node) + length (tickets_of rest)
tickets-first turns id box (Inner ticket split) rest = omega arith
tickets-first turns id box (Leaf leaf) rest = omega arith

tickets-summed : (turns : List ℕ) (over : List NoteOver) → summed inner_of (map (node_at turns) (notes_over over)) ≡ length (tickets_of (map box_note over))
tickets-summed turns [] = refl
tickets-summed turns (first ∷ over) =
    let rest = tickets-summed turns over in
    let here = tickets-first turns first.note.id first.box first.note.node (map box_note over) in
    omega arith

module _ (root : List Slot) (t : ℕ) (notes : List NodeNote) (over : List NoteOver) (of : AreSettledOver root t notes over) where
  abbrev IsAt : ℕ → NoteOver → Type 0
  IsAt k each = slice_get over k ≡ Some each

  -- ---- notes by their places

  noted-at : {Y : Type 0} (f : NodeNote → Y) (k : ℕ) (y : Y) → slice_get (map f notes) k ≡ Some y → (each : NoteOver) × IsAt k each × (f each.note ≡ y)
  noted-at f k y is =
      let found = map-at f notes k y is in
      let here = map-at (λ (n : NoteOver). n.note) over k found.0 (subst (λ (ns : List NodeNote). slice_get ns k ≡ Some found.0) (sym of.notes_are) found.1) in
      (here.0, here.1, ap f here.2 ∙ found.2)

  at-noted : {Y : Type 0} (f : NodeNote → Y) (k : ℕ) (each : NoteOver) → IsAt k each → slice_get (map f notes) k ≡ Some (f each.note)
  at-noted f k each there =
      at-map f notes k each.note (subst (λ (ns : List NodeNote). slice_get ns k ≡ Some each.note) of.notes_are (at-map (λ (n : NoteOver). n.note) over k each there))

  note-at : (k : ℕ) (note : NodeNote) → slice_get notes k ≡ Some note → (each : NoteOver) × IsAt k each × (each.note ≡ note)
  note-at k note is = map-at (λ (n : NoteOver). n.note) over k note (subst (λ (ns : List NodeNote). slice_get ns k ≡ Some note) (sym of.notes_are) is)

  pub length-notes : length notes ≡ 2 * t + 1
  length-notes =
      let size = length-over root t over of.settled in
      let same = ap length of.notes_are in
      let each = length-map over (λ (n : NoteOver). n.note) in
      omega arith

  pub ids-below : AreIdsBelow (length notes) notes
  ids-below = all-by-places (λ (note : NodeNote). note.id < length notes) notes (λ k note there.
      let found = note-at k note there in
      let low = id-below root t over of.settled k found.0 found.1 in
      let same = ap (λ (n : NodeNote). n.id) found.2 in
      let size = length-notes in omega arith)

  -- ---- what nodes hold

  held-apart : AreApart (map ticket_at notes)
  held-apart j k v w first second same =
      let a = noted-at ticket_at j v first in
      let b = noted-at ticket_at k w second in
      same-id root t over of.settled j k a.0 b.0 a.1 b.1
      (ap (λ (u : ℕ × Option ℕ). u.0) a.2 ∙ same ∙ sym (ap (λ (u : ℕ × Option ℕ). u.0) b.2))

  module _ (held : List (Option ℕ)) (held-is : held ≡ written (map ticket_at notes) (replicate (length notes) None)) where
    pub held-size : length held ≡ 2 * t + 1
    held-size = ap length held-is ∙ written-length (map ticket_at notes) (replicate (length notes) None) ∙ length-replicate (length notes) None ∙ length-notes

    held-at : (k : ℕ) (each : NoteOver) → IsAt k each → slice_get held each.note.id ≡ Some (ticket_of each.note.node)
    held-at k each there =
        let size = length-replicate {A = Option ℕ} (length notes) None in
        let many = length-notes in
        let low = id-below root t over of.settled k each there in
        ap (λ (h : List (Option ℕ)). slice_get h each.note.id) held-is
        ∙ written-at (map ticket_at notes) (replicate (length notes) None) k (ticket_at each.note) held-apart (at-noted ticket_at k each there) (omega arith)

    pub are-held : t ≤ MOST_NODES → AreTicketsHeld held
    are-held few = tickets-held root t over of.settled held held-size held-at few

    holder-noted : (id x : ℕ) → HoldsTicket held id x → (k : ℕ) × (each : NoteOver) × IsAt k each × (each.note.id ≡ id) × (ticket_of each.note.node ≡ Some x)
    holder-noted id x holds = from-holds root t over of.settled held held-size held-at id x holds

    -- ---- turns

    module _ (order : List ℕ) (in-turn : IsTurnOrder held order) where
      pub order-size : length order ≡ t
      order-size = let n = in-turn.count in let size = held-size in omega arith

      order-below : (k x : ℕ) → slice_get order k ≡ Some x → x < t
      order-below k x there =
          let place = in-turn.in_place k x there in
          let found = holder-noted place.id x place.holds in
          ticket-below root t over of.settled found.0 x found.1 found.2 found.4

      pub are-turns-below : AreTurnsBelow (length order) order
      are-turns-below = all-by-places (λ (x : ℕ). x < length order) order (λ k x there. let low = order-below k x there in let size = order-size in omega arith)

      has-turn : (x : ℕ) → x < t → (k : ℕ) × (slice_get order k ≡ Some x)
      has-turn x lt =
          let found = holder-of root t over of.settled x lt in
          in-turn.all found.1.note.id x (held-at found.0 found.1 found.2 ∙ ap Some found.3)

      module _ (turns : List ℕ) (turns-are : turns ≡ written (turns_from 0 order) (replicate (length order) 0)) where
        pub turns-size : length turns ≡ t
        turns-size = ap length turns-are ∙ written-length (turns_from 0 order) (replicate (length order) 0) ∙ length-replicate (length order) 0 ∙ order-size

        turns-apart : AreApart (turns_from 0 order)
        turns-apart j k v w first second same =
            in-turn.once j k w.0 (at-turns 0 order j v first ∙ ap Some same) (at-turns 0 order k w second)

        turn-at : (k x : ℕ) → slice_get order k ≡ Some x → turn_of turns x ≡ k
        turn-at k x there =
            let low = order-below k x there in
            let many = order-size in
            let size = length-replicate {A = ℕ} (length order) 0 in
            let there-too = turns-at 0 order k x there in
            let here : slice_get turns x ≡ Some (0 + k) =
            ap (λ (list : List ℕ). slice_get list x) turns-are
            ∙ written-at (turns_from 0 order) (replicate (length order) 0) k (x, 0 + k) turns-apart there-too (omega arith) in
            let read = get_or_from_slice_get turns x (0 + k) 0 here in
            omega arith

        turn-back : (x : ℕ) → x < t → slice_get order (turn_of turns x) ≡ Some x
        turn-back x lt =
            let found = has-turn x lt in
            subst (λ (k : ℕ). slice_get order k ≡ Some x) (sym (turn-at found.0 x found.1)) found.1

        turn-below : (x : ℕ) → x < t → turn_of turns x < t
        turn-below x lt = let inside = slice_get_within order (turn_of turns x) x (turn-back x lt) in let size = order-size in omega arith

        turn-once : (x y : ℕ) → x < t → y < t → turn_of turns x ≡ turn_of turns y → x ≡ y
        turn-once x y first second same =
            let both : ◌≡◌ {A = Option ℕ} (Some x) (Some y) = sym (turn-back x first) ∙ ap (slice_get order) same ∙ turn-back y second in
            cc

        pub are-turns : t ≤ MOST_NODES → AreTurns turns
        are-turns few = record {
          few = let size = turns-size in omega arith;
          below = λ x lt. let size = turns-size in let low = turn-below x (omega arith) in omega arith;
        }

        own-turn : (k : ℕ) (each : NoteOver) → IsAt k each → (node : Node) → each.note.node ≡ node → HasOwnTurn turns node
        own-turn k each there (Inner ticket split) is =
            let low = ticket-below root t over of.settled k ticket each there (ap ticket_of is) in let size = turns-size in omega arith
        own-turn k each there (Leaf leaf) is = tt

        pub have-turns : HaveTurns turns notes
        have-turns = all-by-places (λ (note : NodeNote). HasTurn turns note.id × HasOwnTurn turns note.node) notes (λ k note there.
            let found = note-at k note there in
            let low = id-below root t over of.settled k found.0 found.1 in
            let same = ap (λ (n : NodeNote). n.id) found.2 in
            let size = turns-size in
            (omega arith, own-turn k found.0 found.1 note.node (ap (λ (n : NodeNote). n.node) found.2)))

        -- ---- new ids

        new-below : (id : ℕ) → id < 2 * t + 1 → id_in turns id < 2 * t + 1
        new-below id lt = ⊎_elim
            (λ (is : id ≡ 0). let value : id_in turns id ≡ 0 = ap (id_in turns) is in omega arith)
            (λ (p : (x : ℕ) × (x < t) × IsPartUnder id x).
            let value = id_in-part turns id p.0 p.2 in let bounds = part-bounds id p.0 p.2 in let high = bounds.1 in
            let low = turn-below p.0 p.1 in omega arith)
            (id-kind t id lt)

        new-once : (id other : ℕ) → id < 2 * t + 1 → other < 2 * t + 1 → id_in turns id ≡ id_in turns other → id ≡ other
        new-once id other first second same = ⊎_elim
            (λ (is : id ≡ 0). let value : id_in turns id ≡ 0 = ap (id_in turns) is in ⊎_elim
            (λ (also : other ≡ 0). is ∙ sym also)
            (λ (q : (x : ℕ) × (x < t) × IsPartUnder other x).
            let there = id_in-part turns other q.0 q.2 in let bounds = part-bounds other q.0 q.2 in let low = bounds.0 in absurd (omega arith))
            (id-kind t other second))
            (λ (p : (x : ℕ) × (x < t) × IsPartUnder id x).
            let here = id_in-part turns id p.0 p.2 in let bounds = part-bounds id p.0 p.2 in let low = bounds.0 in let high = bounds.1 in
            ⊎_elim
            (λ (also : other ≡ 0). let value : id_in turns other ≡ 0 = ap (id_in turns) also in absurd (omega arith))
            (λ (q : (x : ℕ) × (x < t) × IsPartUnder other x).
            let there = id_in-part turns other q.0 q.2 in let more = part-bounds other q.0 q.2 in let under = more.0 in let above = more.1 in
            let turns-same : turn_of turns p.0 ≡ turn_of turns q.0 = omega arith in
            let tickets-same = turn-once p.0 q.0 p.1 q.1 turns-same in omega arith)
            (id-kind t other second))
            (id-kind t id first)

        module _ (tree : List Node) (tree-is : tree ≡ written (map (node_at turns) notes) (replicate (length notes) empty_place)) where
          pub tree-size : length tree ≡ 2 * t + 1
          tree-size = ap length tree-is ∙ written-length (map (node_at turns) notes) (replicate (length notes) empty_place) ∙ length-replicate (length notes) empty_place ∙ length-notes

          nodes-apart : AreApart (map (node_at turns) notes)
          nodes-apart j k v w first second same =
              let a = noted-at (node_at turns) j v first in
              let b = noted-at (node_at turns) k w second in
              same-id root t over of.settled j k a.0 b.0 a.1 b.1
              (new-once a.0.note.id b.0.note.id (id-below root t over of.settled j a.0 a.1) (id-below root t over of.settled k b.0 b.1)
              (ap (λ (u : ℕ × Node). u.0) a.2 ∙ same ∙ sym (ap (λ (u : ℕ × Node). u.0) b.2)))

          node-there : (k : ℕ) (each : NoteOver) → IsAt k each → slice_get tree (id_in turns each.note.id) ≡ Some (node_in turns each.note.node)
          node-there k each there =
              let size = length-replicate (length notes) empty_place in
              let many = length-notes in
              let low = new-below each.note.id (id-below root t over of.settled k each there) in
              ap (λ (list : List Node). slice_get list (id_in turns each.note.id)) tree-is
              ∙ written-at (map (node_at turns) notes) (replicate (length notes) empty_place) k (node_at turns each.note) nodes-apart
              (at-noted (node_at turns) k each there) (omega arith)

          -- the note of a node
          record IsNoteAt (id : ℕ) : Type 0 where
            k : ℕ
            each : NoteOver
            there : IsAt k each
            is : id_in turns each.note.id ≡ id

          part-noted : (id old : ℕ) → old < 2 * t + 1 → id_in turns old ≡ id → IsNoteAt id
          part-noted id old lt is =
              let found = note-of root t over of.settled old lt in
              record { k = found.0; each = found.1; there = found.2; is = ap (id_in turns) found.3 ∙ is }

          place-noted : (id : ℕ) → id < 2 * t + 1 → IsNoteAt id
          place-noted id lt = ⊎_elim
              (λ (is : id ≡ 0). part-noted id 0 (omega arith) (sym is))
              (λ (p : (y : ℕ) × (y < t) × IsPartUnder id y).
              let size = order-size in
              let x = get_or order p.0 0 in
              let y-lt = p.1 in
              let there : slice_get order p.0 ≡ Some x = slice_get-get_or order p.0 0 (omega arith) in
              let low = order-below p.0 x there in
              let turn = turn-at p.0 x there in
              ⊎_elim
              (λ (left : id ≡ 2 * p.0 + 1). let value = id_in-part turns (2 * x + 1) x (inl refl) in part-noted id (2 * x + 1) (omega arith) (omega arith))
              (λ (right : id ≡ 2 * p.0 + 2). let value = id_in-part turns (2 * x + 2) x (inr refl) in part-noted id (2 * x + 2) (omega arith) (omega arith))
              p.2)
              (id-kind t id lt)

          -- an inner node of the tree
          record IsInnerNoted (each : NoteOver) (ticket : ℕ) (split : Split) : Type 0 where
            old : ℕ
            node : each.note.node ≡ Inner old split
            turn : turn_of turns old ≡ ticket
            below : old < t

          inner-of : (id ticket : ℕ) (split : Split) → IsInner tree id ticket split → (noted : IsNoteAt id) → IsInnerNoted noted.each ticket split
          inner-of id ticket split is noted =
              let both : ◌≡◌ {A = Option Node} (Some (node_in turns noted.each.note.node)) (Some (Inner ticket split)) =
              sym (node-there noted.k noted.each noted.there) ∙ ap (slice_get tree) noted.is ∙ is in
              let same : node_in turns noted.each.note.node ≡ Inner ticket split = cc in
              let back = inner-back turns noted.each.note.node ticket split same in
              record {
                old = back.0;
                node = back.1;
                turn = back.2;
                below = ticket-below root t over of.settled noted.k back.0 noted.each noted.there (ap ticket_of back.1);
              }

          inner-place : (id ticket : ℕ) (split : Split) → IsInner tree id ticket split → IsNoteAt id
          inner-place id ticket split is =
              let inside = slice_get_within tree id (Inner ticket split) is in
              let size = tree-size in
              place-noted id (omega arith)

          tree-tickets : AreTickets t tree
          tree-tickets = record {
            below = λ id ticket split is.
                let found = inner-of id ticket split is (inner-place id ticket split is) in let low = turn-below found.old found.below in let same = found.turn in omega arith;
            once = λ id other ticket split another first second.
                let x = inner-place id ticket split first in
                let y = inner-place other ticket another second in
                let a = inner-of id ticket split first x in
                let b = inner-of other ticket another second y in
                let old : a.old ≡ b.old = turn-once a.old b.old a.below b.below (a.turn ∙ sym b.turn) in
                let place : x.k ≡ y.k = same-ticket root t over of.settled x.k y.k a.old x.each y.each x.there y.there
                (ap ticket_of a.node) (ap ticket_of b.node ∙ ap Some (sym old)) in
                let both : ◌≡◌ {A = Option NoteOver} (Some x.each) (Some y.each) = sym x.there ∙ ap (slice_get over) place ∙ y.there in
                let equal : x.each ≡ y.each = cc in
                sym x.is ∙ ap (λ (n : NoteOver). id_in turns n.note.id) equal ∙ y.is;
          }

          tree-inner : inner_count tree ≡ t
          tree-inner =
              let n = length-notes in
              let sum = written-sum inner_of (map (node_at turns) notes) (replicate (length notes) empty_place) nodes-apart
              (λ k w there.
              let found = noted-at (node_at turns) k w there in
              let low = new-below found.0.note.id (id-below root t over of.settled k found.0 found.1) in
              let same = ap (λ (u : ℕ × Node). u.0) found.2 in
              record { item = empty_place; there = slice_get-replicate (length notes) w.0 empty_place (omega arith); none = refl }) in
              let none = sum_by-replicate inner_of (length notes) empty_place in
              let all = ap (λ (ns : List NodeNote). summed inner_of (map (node_at turns) ns)) (sym of.notes_are) ∙ tickets-summed turns over in
              let many = length-each t (tickets_of (map box_note over)) of.settled.tickets in
              let whole = ap (sum_by inner_of) tree-is in
              omega arith

          -- ---- parents

          place-before : (y id : ℕ) → HasPlace order y id → id_in turns id < 2 * y + 1
          place-before y id placed = ⊎_elim
              (λ (is : id ≡ 0). let value : id_in turns id ≡ 0 = ap (id_in turns) is in omega arith)
              (λ (p : IsPlacedBy order y id).
              let value = id_in-part turns id p.ticket p.part in let bounds = part-bounds id p.ticket p.part in let high = bounds.1 in
              let turn = turn-at p.turn p.ticket p.there in let before = p.before in omega arith)
              placed

          parent-of : (id y : ℕ) → y < t → IsPartUnder id y → (holder : ℕ) × IsParentOf tree id holder
          parent-of id y lt part =
              let size = order-size in
              let x = get_or order y 0 in
              let there : slice_get order y ≡ Some x = slice_get-get_or order y 0 (omega arith) in
              let place = in-turn.in_place y x there in
              let found = holder-noted place.id x place.holds in
              let inner = held-node found.1.note.node x found.4 in
              let before = place-before y place.id place.placed in
              let same = ap (id_in turns) found.3 in
              let bounds = part-bounds id y part in
              let low = bounds.0 in (
                id_in turns found.1.note.id,
                record {
                  ticket = y;
                  split = inner.0;
                  before = omega arith;
                  holds = node-there found.0 found.1 found.2 ∙ ap (λ (n : Node). Some (node_in turns n)) inner.1
                      ∙ ap (λ (n : ℕ). Some (Inner n inner.0)) (turn-at y x there);
                  child = part;
                },
              )

          tree-parents : HaveParents tree
          tree-parents id pos lt =
              let size = tree-size in
              ⊎_elim
              (λ (is : id ≡ 0). absurd (omega arith))
              (λ (p : (y : ℕ) × (y < t) × IsPartUnder id y). parent-of id p.0 p.1 p.2)
              (id-kind t id (omega arith))

          -- ---- boxes

          reached-box : (id : ℕ) (box : List Slot) → Reaches left_of right_of root (map box_note over) id box → HasBox root (slice_get tree) (id_in turns id) box
          reached-box id box at_root = root_box
          reached-box id box (at_left above whole ticket split reaches there) =
              let n = inner-noted root t over of.settled above whole ticket split there in
              let at : slice_get tree (id_in turns above) ≡ Some (Inner (turn_of turns ticket) split) =
              subst (λ (i : ℕ). slice_get tree (id_in turns i) ≡ Some (Inner (turn_of turns ticket) split)) n.same_id
              (node-there n.k n.each n.there ∙ ap (λ (m : Node). Some (node_in turns m)) n.node) in
              let value = id_in-part turns (2 * ticket + 1) ticket (inl refl) in
              let new : 2 * turn_of turns ticket + 1 ≡ id_in turns (2 * ticket + 1) = omega arith in
              subst (λ (i : ℕ). HasBox root (slice_get tree) i (left_of whole split)) new (left_part (reached-box above whole reaches) at)
          reached-box id box (at_right above whole ticket split reaches there) =
              let n = inner-noted root t over of.settled above whole ticket split there in
              let at : slice_get tree (id_in turns above) ≡ Some (Inner (turn_of turns ticket) split) =
              subst (λ (i : ℕ). slice_get tree (id_in turns i) ≡ Some (Inner (turn_of turns ticket) split)) n.same_id
              (node-there n.k n.each n.there ∙ ap (λ (m : Node). Some (node_in turns m)) n.node) in
              let value = id_in-part turns (2 * ticket + 2) ticket (inr refl) in
              let new : 2 * turn_of turns ticket + 2 ≡ id_in turns (2 * ticket + 2) = omega arith in
              subst (λ (i : ℕ). HasBox root (slice_get tree) i (right_of whole split)) new (right_part (reached-box above whole reaches) at)

          note-box : (k : ℕ) (each : NoteOver) → IsAt k each → HasBox root (slice_get tree) (id_in turns each.note.id) each.box
          note-box k each there = reached-box each.note.id each.box (note-reached root t over of.settled k each there)

          root-reached : (id : ℕ) (box : List Slot) → Reaches left_of right_of root (map box_note over) id box → id ≡ 0 → box ≡ root
          root-reached id box at_root is = refl
          root-reached id box (at_left above whole ticket split reaches there) is = absurd (omega arith)
          root-reached id box (at_right above whole ticket split reaches there) is = absurd (omega arith)

          -- the box is that of a part under the ticket
          record IsUnder (part : List Slot → Split → List Slot) (x : ℕ) (box : List Slot) : Type 0 where
            above : ℕ
            whole : List Slot
            split : Split
            there : Contains (map box_note over) (inner_note above whole x split)
            is : box ≡ part whole split

          left-reached : (id : ℕ) (box : List Slot) → Reaches left_of right_of root (map box_note over) id box → (x : ℕ) → id ≡ 2 * x + 1 → IsUnder left_of x box
          left-reached id box at_root x is = absurd (omega arith)
          left-reached id box (at_left above whole ticket split reaches there) x is =
              let same : ticket ≡ x = omega arith in
              record {
                above = above;
                whole = whole;
                split = split;
                there = subst (λ (n : ℕ). Contains (map box_note over) (inner_note above whole n split)) same there;
                is = refl;
              }
          left-reached id box (at_right above whole ticket split reaches there) x is = absurd (omega arith)

          right-reached : (id : ℕ) (box : List Slot) → Reaches left_of right_of root (map box_note over) id box → (x : ℕ) → id ≡ 2 * x + 2 → IsUnder right_of x box
          right-reached id box at_root x is = absurd (omega arith)
          right-reached id box (at_left above whole ticket split reaches there) x is = absurd (omega arith)
          right-reached id box (at_right above whole ticket split reaches there) x is =
              let same : ticket ≡ x = omega arith in
              record {
                above = above;
                whole = whole;
                split = split;
                there = subst (λ (n : ℕ). Contains (map box_note over) (inner_note above whole n split)) same there;
                is = refl;
              }

          -- the ticket is held by this note alone
          under-box : (part : List Slot → Split → List Slot) (x : ℕ) (box : List Slot) → IsUnder part x box
              → (k : ℕ) (each : NoteOver) → IsAt k each → (split : Split) → each.note.node ≡ Inner x split → box ≡ part each.box split
          under-box part x box under k each there split is =
              let n = inner-noted root t over of.settled under.above under.whole x under.split under.there in
              let place : n.k ≡ k = same-ticket root t over of.settled n.k k x n.each each n.there there (ap ticket_of n.node) (ap ticket_of is) in
              let both : ◌≡◌ {A = Option NoteOver} (Some n.each) (Some each) = sym n.there ∙ ap (slice_get over) place ∙ there in
              let equal : n.each ≡ each = cc in
              let nodes : ◌≡◌ {A = Node} (Inner x under.split) (Inner x split) = sym n.node ∙ ap (λ (m : NoteOver). m.note.node) equal ∙ is in
              let splits : under.split ≡ split = cc in
              let boxes : under.whole ≡ each.box = sym n.same_box ∙ ap (λ (m : NoteOver). m.box) equal in
              under.is ∙ ap (λ (b : List Slot). part b under.split) boxes ∙ ap (part each.box) splits

          -- a note over this box
          record IsBoxAt (id : ℕ) (box : List Slot) : Type 0 where
            noted : IsNoteAt id
            is : noted.each.box ≡ box

          box-noted : (id : ℕ) (box : List Slot) → HasBox root (slice_get tree) id box → IsBoxAt id box
          box-noted id box root_box =
              let found = note-of root t over of.settled 0 (omega arith) in
              record {
                noted = record { k = found.0; each = found.1; there = found.2; is = ap (id_in turns) found.3 };
                is = root-reached found.1.note.id found.1.box (note-reached root t over of.settled found.0 found.1 found.2) found.3;
              }
          box-noted id box (left_part {id = above} {ticket = ticket} {split = split} {box = whole} has at) =
              let up = box-noted above whole has in
              let inner = inner-of above ticket split at up.noted in
              let below = inner.below in
              let child = note-of root t over of.settled (2 * inner.old + 1) (omega arith) in
              let under = left-reached child.1.note.id child.1.box (note-reached root t over of.settled child.0 child.1 child.2) inner.old child.3 in
              let value = id_in-part turns (2 * inner.old + 1) inner.old (inl refl) in
              let turn = inner.turn in
              let new : id_in turns (2 * inner.old + 1) ≡ 2 * ticket + 1 = omega arith in
              record {
                noted = record { k = child.0; each = child.1; there = child.2; is = ap (id_in turns) child.3 ∙ new };
                is = under-box left_of inner.old child.1.box under up.noted.k up.noted.each up.noted.there split inner.node
                    ∙ ap (λ (b : List Slot). left_of b split) up.is;
              }
          box-noted id box (right_part {id = above} {ticket = ticket} {split = split} {box = whole} has at) =
              let up = box-noted above whole has in
              let inner = inner-of above ticket split at up.noted in
              let below = inner.below in
              let child = note-of root t over of.settled (2 * inner.old + 2) (omega arith) in
              let under = right-reached child.1.note.id child.1.box (note-reached root t over of.settled child.0 child.1 child.2) inner.old child.3 in
              let value = id_in-part turns (2 * inner.old + 2) inner.old (inr refl) in
              let turn = inner.turn in
              let new : id_in turns (2 * inner.old + 2) ≡ 2 * ticket + 2 = omega arith in
              record {
                noted = record { k = child.0; each = child.1; there = child.2; is = ap (id_in turns) child.3 ∙ new };
                is = under-box right_of inner.old child.1.box under up.noted.k up.noted.each up.noted.there split inner.node
                    ∙ ap (λ (b : List Slot). right_of b split) up.is;
              }

          -- ---- the tree

          node-over : (k : ℕ) (each : NoteOver) → IsAt k each → IsNodeOver root tree each (id_in turns each.note.id)
          node-over k each there = record {
            node = node_in turns each.note.node;
            there = node-there k each there;
            same = renamed turns each.note.node;
            has_box = note-box k each there;
          }

          pub gathered : IsGathered root t over tree
          gathered = record {
            nodes = tree-size;
            inner = tree-inner;
            tickets = tree-tickets;
            parents = tree-parents;
            place = id_in turns;
            once = new-once;
            placed = λ each among. let found = place-of over each among in node-over found.0 each found.1;
            every = λ id lt. let found = place-noted id lt in
                (found.each.box, subst (λ (i : ℕ). HasBox root (slice_get tree) i found.each.box) found.is (note-box found.k found.each found.there));
            noted = λ id box has.
                let found = box-noted id box has in
                let each = found.noted.each in
                let make : List Slot → NoteOver = λ b. record { note = each.note; box = b } in
                record {
                  note = each.note;
                  noted = subst (λ (b : List Slot). Contains over (make b)) found.is (member-at over found.noted.k each found.noted.there);
                  is = subst (λ (b : List Slot). IsNodeOver root tree (make b) id) found.is
                      (subst (IsNodeOver root tree each) found.noted.is (node-over found.noted.k each found.noted.there));
                };
          }
