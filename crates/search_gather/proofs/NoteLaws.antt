-- What settled notes say of ids and tickets, by the places of notes in their list.
use Rattle.std.proofs.Common.{◌≡◌, ℕ, zero, suc, ◌+◌, ◌*◌, ◌<◌, ◌≤◌, Option, Some, None, List, [], ◌∷◌, length, map, refl, sym, ap, ◌∙◌, subst, inl, inr, arith}
use Rattle.std.specs.Prelude.{slice_get, Contains}
use Rattle.std.proofs.lemmas.Bool.{cases_lt}
use Rattle.std.proofs.lemmas.Option.{slice_get_within}
use Rattle.limits.specs.declared.TheConstants.{MOST_NODES}
use Rattle.number_counts.specs.Counts.{one, times}
use Rattle.number_counts.proofs.CountLaws.{one-same}
use Rattle.slot_box.specs.declared.node.Node.{Node}
use Rattle.slot_box.specs.declared.node.Node.TheVariants.{Inner, Leaf}
use Rattle.slot_box.specs.declared.slot.Slot.{Slot}
use Rattle.slot_box.specs.declared.split.Split.{Split}
use Rattle.slot_box.specs.Splits.{left_of, right_of}
use Rattle.work_chains.specs.BoxChains.{BoxNote}
use Rattle.work_chains.specs.Chains.{divided, inner_note, ids_of, tickets_of, Reaches, at_root, at_left, at_right, AreSettled}
use Rattle.search_node.specs.Notes.{NoteOver, outcome_of, box_note}
use Rattle.search_gather.specs.inside.Choosing.{HoldsTicket, IsReached, from_root, by_left, by_right, AreTicketsHeld}
use Rattle.search_gather.specs.inside.Placing.{ticket_of}
use Rattle.search_gather.proofs.CountLists.{one-yes, place-of, member-at, counted, counts-at, at-counts, once-counts, length-each}

-- the item of a list that a map has at this place
pub map-at : {X Y : Type 0} (f : X → Y) (xs : List X) (k : ℕ) (y : Y) → slice_get (map f xs) k ≡ Some y → (x : X) × (slice_get xs k ≡ Some x) × (f x ≡ y)
map-at f [] k y is = absurd (cc)
map-at f (x ∷ xs) zero y is = (x, refl, cc)
map-at f (x ∷ xs) (suc k) y is = map-at f xs k y is

pub at-map : {X Y : Type 0} (f : X → Y) (xs : List X) (k : ℕ) (x : X) → slice_get xs k ≡ Some x → slice_get (map f xs) k ≡ Some (f x)
at-map f [] k x is = absurd (cc)
at-map f (y ∷ xs) zero x is = let same : y ≡ x = cc in ap (λ z. Some (f z)) same
at-map f (y ∷ xs) (suc k) x is = at-map f xs k x is

-- how often a note has this id, or its node this ticket
abbrev id-times : ℕ → NoteOver → ℕ
id-times x over = one x over.note.id

abbrev some-times : ℕ → Option ℕ → ℕ
some-times x None = 0
some-times x (Some ticket) = one x ticket

abbrev ticket-times : ℕ → NoteOver → ℕ
ticket-times x over = some-times x (ticket_of over.note.node)

some-yes : (x : ℕ) (h : Option ℕ) → 1 ≤ some-times x h → h ≡ Some x
some-yes x None some = absurd (omega arith)
some-yes x (Some ticket) some = ap Some (sym (one-yes x ticket some))

yes-some : (x : ℕ) (h : Option ℕ) → h ≡ Some x → some-times x h ≡ 1
yes-some x h is = ap (some-times x) is ∙ one-same x x refl

ids-counted : (x : ℕ) (over : List NoteOver) → times x (ids_of (map box_note over)) ≡ counted (id-times x) over
ids-counted x [] = refl
ids-counted x (first ∷ over) = let rest = ids-counted x over in omega arith

length-ids : (over : List NoteOver) → length (ids_of (map box_note over)) ≡ length over
length-ids [] = refl
length-ids (first ∷ over) = let rest = length-ids over in omega arith

ticket-first : (x id : ℕ) (box : List Slot) (node : Node) (rest : List BoxNote)
    → times x (tickets_of ((record { id = id; box = box; outcome = outcome_of node }) ∷ rest)) ≡ some-times x (ticket_of node) + times x (tickets_of rest)
ticket-first x id box (Inner ticket split) rest = refl
ticket-first x id box (Leaf leaf) rest = omega arith

tickets-counted : (x : ℕ) (over : List NoteOver) → times x (tickets_of (map box_note over)) ≡ counted (ticket-times x) over
tickets-counted x [] = refl
tickets-counted x (first ∷ over) =
    let rest = tickets-counted x over in
    let here = ticket-first x first.note.id first.box first.note.node (map box_note over) in
    omega arith

-- a node whose outcome is a division
pub divided-node : (node : Node) (ticket : ℕ) (split : Split) → outcome_of node ≡ divided ticket split → node ≡ Inner ticket split
divided-node (Inner t s) ticket split is = let a : t ≡ ticket = cc in let b : s ≡ split = cc in cc
divided-node (Leaf leaf) ticket split is = absurd (cc)

pub held-node : (node : Node) (ticket : ℕ) → ticket_of node ≡ Some ticket → (split : Split) × (node ≡ Inner ticket split)
held-node (Inner t s) ticket is = let a : t ≡ ticket = cc in (s, ap (λ (n : ℕ). Inner n s) a)
held-node (Leaf leaf) ticket is = absurd (cc)

module _ (root : List Slot) (t : ℕ) (over : List NoteOver) (settled : AreSettled left_of right_of root (map box_note over) t) where
  abbrev IsAt : ℕ → NoteOver → Type 0
  IsAt k each = slice_get over k ≡ Some each

  pub length-over : length over ≡ 2 * t + 1
  length-over = sym (length-ids over) ∙ length-each (2 * t + 1) (ids_of (map box_note over)) settled.ids

  id-once : (x : ℕ) → counted (id-times x) over ≤ 1
  id-once x =
      let e = ids-counted x over in
      elim (cases_lt x (2 * t + 1)) [
        | inl lt ↦ let n = settled.ids.once x lt in omega arith
        | inr ge ↦ let n = settled.ids.no_other x ge in omega arith
      ]

  ticket-once : (x : ℕ) → counted (ticket-times x) over ≤ 1
  ticket-once x =
      let e = tickets-counted x over in
      elim (cases_lt x t) [
        | inl lt ↦ let n = settled.tickets.once x lt in omega arith
        | inr ge ↦ let n = settled.tickets.no_other x ge in omega arith
      ]

  pub same-id : (j k : ℕ) (one-note other : NoteOver) → IsAt j one-note → IsAt k other → one-note.note.id ≡ other.note.id → j ≡ k
  same-id j k one-note other first second same =
      let a = one-same one-note.note.id one-note.note.id refl in let b = one-same one-note.note.id other.note.id same in
      once-counts (id-times one-note.note.id) over j k one-note other (id-once one-note.note.id) first second (omega arith) (omega arith)

  pub id-below : (k : ℕ) (each : NoteOver) → IsAt k each → each.note.id < 2 * t + 1
  id-below k each there =
      elim (cases_lt each.note.id (2 * t + 1)) [
        | inl lt ↦ lt
        | inr ge ↦
            let n = settled.ids.no_other each.note.id ge in let e = ids-counted each.note.id over in
            let some = counts-at (id-times each.note.id) over k each there in let a = one-same each.note.id each.note.id refl in absurd (omega arith)
      ]

  pub note-of : (id : ℕ) → id < 2 * t + 1 → (k : ℕ) × (each : NoteOver) × IsAt k each × (each.note.id ≡ id)
  note-of id lt =
      let n = settled.ids.once id lt in let e = ids-counted id over in
      let found = at-counts (id-times id) over (omega arith) in
      (found.0, found.1, found.2, sym (one-yes id found.1.note.id found.3))

  pub same-ticket : (j k x : ℕ) (one-note other : NoteOver) → IsAt j one-note → IsAt k other → ticket_of one-note.note.node ≡ Some x
      → ticket_of other.note.node ≡ Some x → j ≡ k
  same-ticket j k x one-note other first second holds also =
      let a = yes-some x (ticket_of one-note.note.node) holds in let b = yes-some x (ticket_of other.note.node) also in
      once-counts (ticket-times x) over j k one-note other (ticket-once x) first second (omega arith) (omega arith)

  pub ticket-below : (k x : ℕ) (each : NoteOver) → IsAt k each → ticket_of each.note.node ≡ Some x → x < t
  ticket-below k x each there holds =
      elim (cases_lt x t) [
        | inl lt ↦ lt
        | inr ge ↦
            let n = settled.tickets.no_other x ge in let e = tickets-counted x over in
            let some = counts-at (ticket-times x) over k each there in let a = yes-some x (ticket_of each.note.node) holds in absurd (omega arith)
      ]

  pub holder-of : (x : ℕ) → x < t → (k : ℕ) × (each : NoteOver) × IsAt k each × (ticket_of each.note.node ≡ Some x)
  holder-of x lt =
      let n = settled.tickets.once x lt in let e = tickets-counted x over in
      let found = at-counts (ticket-times x) over (omega arith) in
      (found.0, found.1, found.2, some-yes x (ticket_of found.1.note.node) found.3)

  -- the box of a note is that which the splits give it
  pub note-reached : (k : ℕ) (each : NoteOver) → IsAt k each → Reaches left_of right_of root (map box_note over) each.note.id each.box
  note-reached k each there =
      settled.reached (box_note each) (member-at (map box_note over) k (box_note each) (at-map box_note over k each there))

  -- an inner note is that of a node with this ticket, split and box
  pub record IsInnerNote (id : ℕ) (box : List Slot) (ticket : ℕ) (split : Split) : Type 0 where
    pub k : ℕ
    pub each : NoteOver
    pub there : IsAt k each
    pub same_id : each.note.id ≡ id
    pub same_box : each.box ≡ box
    pub node : each.note.node ≡ Inner ticket split

  pub inner-noted : (id : ℕ) (box : List Slot) (ticket : ℕ) (split : Split) → Contains (map box_note over) (inner_note id box ticket split)
      → IsInnerNote id box ticket split
  inner-noted id box ticket split there =
      let place = place-of (map box_note over) (inner_note id box ticket split) there in
      let found = map-at box_note over place.0 (inner_note id box ticket split) place.1 in
      record {
        k = place.0;
        each = found.0;
        there = found.1;
        same_id = ap (λ (n : BoxNote). n.id) found.2;
        same_box = ap (λ (n : BoxNote). n.box) found.2;
        node = divided-node found.0.note.node ticket split (ap (λ (n : BoxNote). n.outcome) found.2);
      }

  -- ---- what nodes hold, by ids

  module _ (held : List (Option ℕ)) (size : length held ≡ 2 * t + 1)
      (at : (k : ℕ) (each : NoteOver) → IsAt k each → slice_get held each.note.id ≡ Some (ticket_of each.note.node)) where
    pub from-holds : (id x : ℕ) → HoldsTicket held id x → (k : ℕ) × (each : NoteOver) × IsAt k each × (each.note.id ≡ id) × (ticket_of each.note.node ≡ Some x)
    from-holds id x holds =
        let within = slice_get_within held id (Some x) holds in
        let found = note-of id (omega arith) in
        let here : slice_get held id ≡ Some (ticket_of found.1.note.node) =
        subst (λ (n : ℕ). slice_get held n ≡ Some (ticket_of found.1.note.node)) found.3 (at found.0 found.1 found.2) in
        let both : ◌≡◌ {A = Option (Option ℕ)} (Some (ticket_of found.1.note.node)) (Some (Some x)) = sym here ∙ holds in
        let same : ticket_of found.1.note.node ≡ Some x = cc in
        (found.0, found.1, found.2, found.3, same)

    holds-inner : (id : ℕ) (box : List Slot) (ticket : ℕ) (split : Split) → Contains (map box_note over) (inner_note id box ticket split)
        → HoldsTicket held id ticket
    holds-inner id box ticket split there =
        let n = inner-noted id box ticket split there in
        subst (λ (i : ℕ). HoldsTicket held i ticket) n.same_id (at n.k n.each n.there ∙ ap (λ (m : Node). Some (ticket_of m)) n.node)

    reached-held : (id : ℕ) (box : List Slot) → Reaches left_of right_of root (map box_note over) id box → IsReached held id
    reached-held id box at_root = from_root
    reached-held id box (at_left above whole ticket split reaches there) =
        by_left above ticket (reached-held above whole reaches) (holds-inner above whole ticket split there)
    reached-held id box (at_right above whole ticket split reaches there) =
        by_right above ticket (reached-held above whole reaches) (holds-inner above whole ticket split there)

    pub tickets-held : t ≤ MOST_NODES → AreTicketsHeld held
    tickets-held few = record {
      t = t;
      few = few;
      nodes = size;
      below = λ id x holds. let found = from-holds id x holds in ticket-below found.0 x found.1 found.2 found.4;
      once = λ id other x first second.
          let one-note = from-holds id x first in let two = from-holds other x second in
          let same = same-ticket one-note.0 two.0 x one-note.1 two.1 one-note.2 two.2 one-note.4 two.4 in
          let both : ◌≡◌ {A = Option NoteOver} (Some one-note.1) (Some two.1) = sym one-note.2 ∙ ap (slice_get over) same ∙ two.2 in
          let equal : one-note.1 ≡ two.1 = cc in
          sym one-note.3 ∙ ap (λ (n : NoteOver). n.note.id) equal ∙ two.3;
      every = λ x lt. let found = holder-of x lt in
          (found.1.note.id, at found.0 found.1 found.2 ∙ ap Some found.3);
      reached = λ id lt. let found = note-of id lt in
          subst (IsReached held) found.3 (reached-held found.1.note.id found.1.box (note-reached found.0 found.1 found.2));
    }
