-- The order of turns, as it grows.
use Rattle.std.proofs.Common.{◌≡◌, ◌⊎◌, ℕ, ◌+◌, ◌-◌, ◌*◌, ◌<◌, ◌≤◌, Option, Some, None, List, [], ◌∷◌, ◌++◌, length, refl, sym, ap, ◌∙◌, subst, inl, inr, arith, length-append}
use Rattle.std.specs.Prelude.{slice_get}
use Rattle.std.proofs.lemmas.Bool.{cases_eq, cases_lt}
use Rattle.std.proofs.lemmas.Option.{slice_get_within}
use Rattle.std.proofs.lemmas.List.Sums.{sum_by-cons}
use Rattle.std.proofs.lemmas.List.Sorted.{sum_by_pushed, sum_by_popped, le_from_greatest}
use Rattle.std.specs.List.Sorted.{IsPermutation}
use Rattle.std.specs.BinaryHeap.{IsHeap, IsUpperBound, PopsGreatest}
use Rattle.std.proofs.lemmas.List.Elements.{All-head}
use Rattle.std.specs.declared.cmp.Reverse.{Reverse}
use Rattle.number_counts.specs.Counts.{one, times, HasEachBelow}
use Rattle.number_counts.proofs.CountLaws.{one-same, one-other, times-append}
use Rattle.search_gather.specs.inside.Choosing.{HoldsTicket, IsReached, from_root, by_left, by_right, AreTicketsHeld, IsPartUnder, HadNoTurn, least_first, HasPlace, IsHeldInPlace, IsTurnOrder, ready_times, held_times, AddsReady}
use Rattle.search_gather.proofs.CountLists.{one-yes, counts-at, at-counts, once-counts, times-counted, length-once, length-each}
use Rattle.search_gather.proofs.WrittenLaws.{get-append_left, get-append_right}

-- a node holds a ticket, or counts none of it
held-cases : (x : ℕ) (h : Option (Option ℕ)) → (held_times x h ≡ 0) ⊎ ((h ≡ Some (Some x)) × (held_times x h ≡ 1))
held-cases x None = inl refl
held-cases x (Some None) = inl refl
held-cases x (Some (Some ticket)) =
    elim (cases_eq x ticket) [
      | inl same ↦ inr (ap (λ (n : ℕ). Some (Some n)) (sym same), one-same x ticket same)
      | inr other ↦ inl (one-other x ticket other)
    ]

holds-times : (x : ℕ) (h : Option (Option ℕ)) → h ≡ Some (Some x) → held_times x h ≡ 1
holds-times x h is = ap (held_times x) is ∙ one-same x x refl

turn-times : (order : List ℕ) (k x : ℕ) → slice_get order k ≡ Some x → 1 ≤ times x order
turn-times order k x is =
    let some = counts-at (one x) order k x is in let here = one-same x x refl in let all = times-counted x order in omega arith

times-turn : (order : List ℕ) (x : ℕ) → 1 ≤ times x order → (k : ℕ) × (slice_get order k ≡ Some x)
times-turn order x some =
    let all = times-counted x order in let found = at-counts (one x) order (omega arith) in
    (found.0, found.2 ∙ ap Some (sym (one-yes x found.1 found.3)))

-- a ticket that is pushed is ready beside the others
pub adds-some : (held : List (Option ℕ)) (id ticket : ℕ) (old new : List (Reverse ℕ))
    → slice_get held id ≡ Some (Some ticket) → IsPermutation (record { 0 = ticket } ∷ old) new → AddsReady held id old new
adds-some held id ticket old new is perm x =
    let e = sum_by_pushed (λ (each : Reverse ℕ). one x each.0) (record { 0 = ticket }) old new perm in
    let h : held_times x (slice_get held id) ≡ one x ticket = ap (held_times x) is in
    omega arith

pub adds-none : (held : List (Option ℕ)) (id : ℕ) (old : List (Reverse ℕ)) → slice_get held id ≡ Some None → AddsReady held id old old
adds-none held id old is x = let h : held_times x (slice_get held id) ≡ 0 = ap (held_times x) is in omega arith

-- what was ready is the ticket that is taken, and the rest
pub takes-one : (x : ℕ) (first : Reverse ℕ) (old new : List (Reverse ℕ)) → IsPermutation old (first ∷ new)
    → ready_times x old ≡ one x first.0 + ready_times x new
takes-one x first old new perm = let e = sum_by_popped (λ (each : Reverse ℕ). one x each.0) first old new perm in omega arith

-- nothing is ready in an empty list
pub none-ready : (ready : List (Reverse ℕ)) → length ready ≡ 0 → (x : ℕ) → ready_times x ready ≡ 0
none-ready [] empty x = refl
none-ready (first ∷ more) empty x = absurd (omega arith)

-- none that is ready is less than the one that is taken
none-less : (first : Reverse ℕ) (ready : List (Reverse ℕ)) → IsUpperBound least_first first ready → (x : ℕ) → 1 ≤ ready_times x ready → first.0 ≤ x
none-less first [] bound x some = absurd (omega arith)
none-less first (y ∷ ready) bound x some =
    let sum = sum_by-cons (λ (each : Reverse ℕ). one x each.0) y ready in
    elim (cases_lt 0 (one x y.0)) [
      | inl here ↦
          let same = one-yes x y.0 (omega arith) in
          let low : first.0 ≤ y.0 = All-head (λ (n : ℕ). n ≤ y.0) first.0 [] (le_from_greatest y.0 (first.0 ∷ []) (bound.0, tt)) in
          omega arith
      | inr none ↦ none-less first ready bound.1 x (omega arith)
    ]

-- a search for turns in the middle of its work: `ready` says how often each ticket is ready
pub record IsChoosing (held : List (Option ℕ)) (order : List ℕ) (ready : ℕ → ℕ) : Type 0 where
  pub once : (x : ℕ) → times x order + ready x ≤ 1
  pub in_place : (k ticket : ℕ) → slice_get order k ≡ Some ticket → IsHeldInPlace held order k ticket
  pub waiting : (ticket : ℕ) → 1 ≤ ready ticket → IsHeldInPlace held order (length order) ticket
  pub closed : (id ticket : ℕ) → HasPlace order (length order) id → HoldsTicket held id ticket → 1 ≤ times ticket order + ready ticket
  pub least : (k ticket other : ℕ) → slice_get order k ≡ Some ticket → IsHeldInPlace held order k other → HadNoTurn order k other → ticket ≤ other

pub choosing-first : (held : List (Option ℕ)) (ready : ℕ → ℕ) → ((x : ℕ) → ready x ≡ held_times x (slice_get held 0)) → IsChoosing held [] ready
choosing-first held ready is = record {
  once = λ x. let e = is x in elim (held-cases x (slice_get held 0)) [ inl none ↦ omega arith | inr there ↦ let n = there.1 in omega arith ];
  in_place = λ k ticket there. absurd (cc);
  waiting = λ ticket some. let e = is ticket in elim (held-cases ticket (slice_get held 0)) [
    | inl none ↦ absurd (omega arith)
    | inr there ↦ record { id = 0; holds = there.0; placed = inl refl }
  ];
  closed = λ id ticket placed holds. elim placed [
    | inl same ↦
        let here : slice_get held 0 ≡ Some (Some ticket) = subst (λ (n : ℕ). slice_get held n ≡ Some (Some ticket)) same holds in
        let n = holds-times ticket (slice_get held 0) here in let e = is ticket in omega arith
    | inr p ↦ let lt = p.before in absurd (omega arith)
  ];
  least = λ k ticket other there at fresh. absurd (cc);
}

place-later : (order : List ℕ) (k m id : ℕ) → k ≤ m → HasPlace order k id → HasPlace order m id
place-later order k m id le placed =
    elim placed [
      | inl same ↦ inl same
      | inr p ↦ let lt = p.before in inr (record { turn = p.turn; ticket = p.ticket; before = omega arith; there = p.there; part = p.part })
    ]

place-more : (order more : List ℕ) (k id : ℕ) → k ≤ length order → HasPlace order k id → HasPlace (order ++ more) k id
place-more order more k id le placed =
    elim placed [
      | inl same ↦ inl same
      | inr p ↦
          let lt = p.before in
          inr (record {
            turn = p.turn;
            ticket = p.ticket;
            before = p.before;
            there = get-append_left order more p.turn (omega arith) ∙ p.there;
            part = p.part;
          })
    ]

place-back : (order more : List ℕ) (k id : ℕ) → k ≤ length order → HasPlace (order ++ more) k id → HasPlace order k id
place-back order more k id le placed =
    elim placed [
      | inl same ↦ inl same
      | inr p ↦
          let lt = p.before in
          inr (record {
            turn = p.turn;
            ticket = p.ticket;
            before = p.before;
            there = sym (get-append_left order more p.turn (omega arith)) ∙ p.there;
            part = p.part;
          })
    ]

held-back : (held : List (Option ℕ)) (order more : List ℕ) (k ticket : ℕ) → k ≤ length order → IsHeldInPlace held (order ++ more) k ticket
    → IsHeldInPlace held order k ticket
held-back held order more k ticket le at =
    record { id = at.id; holds = at.holds; placed = place-back order more k at.id le at.placed }

module _ (held : List (Option ℕ)) (are : AreTicketsHeld held) (order : List ℕ) (ready : ℕ → ℕ) (choosing : IsChoosing held order ready) where
  -- every ticket that had its turn is one of the tree's
  turn-below : (x : ℕ) → 1 ≤ times x order → x < are.t
  turn-below x some =
      let found = times-turn order x some in let at = choosing.in_place found.0 x found.1 in are.below at.id x at.holds

  pub ready-below : (x : ℕ) → 1 ≤ ready x → x < are.t
  ready-below x some = let at = choosing.waiting x some in are.below at.id x at.holds

  pub turns-few : length order ≤ are.t
  turns-few = length-once are.t order turn-below (λ x. let n = choosing.once x in omega arith)

  -- ---- one more turn

  module _ (ticket : ℕ) (rest after : ℕ → ℕ) (popped : (x : ℕ) → ready x ≡ one x ticket + rest x)
      (first : (x : ℕ) → 1 ≤ ready x → ticket ≤ x)
      (added : (x : ℕ) → after x ≡ rest x + held_times x (slice_get held (2 * ticket + 1)) + held_times x (slice_get held (2 * ticket + 2))) where
    was-ready : 1 ≤ ready ticket
    was-ready = let e = popped ticket in let here = one-same ticket ticket refl in omega arith

    -- its parts had no place
    fresh : (id : ℕ) → IsPartUnder id ticket → HasPlace order (length order) id → ⊥
    fresh id part placed =
        elim placed [
          | inl same ↦ elim part [ inl l ↦ omega arith | inr r ↦ omega arith ]
          | inr p ↦
              let same : p.ticket ≡ ticket = elim part [
                | inl l ↦ elim p.part [ inl a ↦ omega arith | inr a ↦ absurd (omega arith) ]
                | inr r ↦ elim p.part [ inl a ↦ absurd (omega arith) | inr a ↦ omega arith ]
              ] in
              let had = turn-times order p.turn ticket (p.there ∙ ap Some same) in
              let n = choosing.once ticket in let some = was-ready in omega arith
        ]

    -- so what they hold was not ready
    fresh-ticket : (id x : ℕ) → IsPartUnder id ticket → HoldsTicket held id x → times x order + ready x ≡ 0
    fresh-ticket id x part holds =
        elim (cases_lt 0 (times x order)) [
          | inl some ↦
              let found = times-turn order x (omega arith) in
              let at = choosing.in_place found.0 x found.1 in
              let within = slice_get_within order found.0 x found.1 in
              absurd (fresh id part (subst (HasPlace order (length order)) (are.once at.id id x at.holds holds)
              (place-later order found.0 (length order) at.id (omega arith) at.placed)))
          | inr none ↦
              elim (cases_lt 0 (ready x)) [
                | inl some ↦
                    let at = choosing.waiting x (omega arith) in
                    absurd (fresh id part (subst (HasPlace order (length order)) (are.once at.id id x at.holds holds) at.placed))
                | inr nor ↦ omega arith
              ]
        ]

    abbrev longer : List ℕ
    longer = order ++ ticket ∷ []

    length-longer : length longer ≡ length order + 1
    length-longer = let e = length-append order (ticket ∷ []) in omega arith

    last-there : slice_get longer (length order) ≡ Some ticket
    last-there =
        get-append_right order (ticket ∷ []) (length order) (omega arith)
        ∙ (let e : length order - length order ≡ 0 = omega arith in ap (slice_get (ticket ∷ [])) e)

    last-place : (id : ℕ) → IsPartUnder id ticket → HasPlace longer (length longer) id
    last-place id part =
        let n = length-longer in
        inr (record { turn = length order; ticket = ticket; before = omega arith; there = last-there; part = part })

    kept-place : (id : ℕ) → HasPlace order (length order) id → HasPlace longer (length longer) id
    kept-place id placed =
        let n = length-longer in
        place-later longer (length order) (length longer) id (omega arith) (place-more order (ticket ∷ []) (length order) id (omega arith) placed)

    next-once : (x : ℕ) → times x longer + after x ≤ 1
    next-once x =
        let sum = times-append x order (ticket ∷ []) in let e = popped x in let a = added x in let old = choosing.once x in
        elim (held-cases x (slice_get held (2 * ticket + 1))) [
          | inl missed ↦
              elim (held-cases x (slice_get held (2 * ticket + 2))) [
                | inl nor ↦ omega arith
                | inr right ↦ let none = fresh-ticket (2 * ticket + 2) x (inr refl) right.0 in let n = right.1 in omega arith
              ]
          | inr left ↦
              let none = fresh-ticket (2 * ticket + 1) x (inl refl) left.0 in let m = left.1 in
              elim (held-cases x (slice_get held (2 * ticket + 2))) [
                | inl nor ↦ omega arith
                | inr right ↦ let same = are.once (2 * ticket + 1) (2 * ticket + 2) x left.0 right.0 in absurd (omega arith)
              ]
        ]

    next-in_place : (k x : ℕ) → slice_get longer k ≡ Some x → IsHeldInPlace held longer k x
    next-in_place k x is =
        elim (cases_lt k (length order)) [
          | inl before ↦
              let at = choosing.in_place k x (sym (get-append_left order (ticket ∷ []) k before) ∙ is) in
              record { id = at.id; holds = at.holds; placed = place-more order (ticket ∷ []) k at.id (omega arith) at.placed }
          | inr behind ↦
              let within = slice_get_within longer k x is in let n = length-longer in
              let last : length order ≡ k = omega arith in
              let here : slice_get longer (length order) ≡ Some x = subst (λ (j : ℕ). slice_get longer j ≡ Some x) (sym last) is in
              let both : ◌≡◌ {A = Option ℕ} (Some ticket) (Some x) = sym last-there ∙ here in
              let same : ticket ≡ x = cc in
              let at = choosing.waiting ticket was-ready in
              subst (λ (j : ℕ). IsHeldInPlace held longer j x) last (subst (IsHeldInPlace held longer (length order)) same
              (record { id = at.id; holds = at.holds; placed = place-more order (ticket ∷ []) (length order) at.id (omega arith) at.placed }))
        ]

    next-waiting : (x : ℕ) → 1 ≤ after x → IsHeldInPlace held longer (length longer) x
    next-waiting x some =
        let e = popped x in let a = added x in
        elim (held-cases x (slice_get held (2 * ticket + 1))) [
          | inr left ↦ record { id = 2 * ticket + 1; holds = left.0; placed = last-place (2 * ticket + 1) (inl refl) }
          | inl missed ↦
              elim (held-cases x (slice_get held (2 * ticket + 2))) [
                | inr right ↦ record { id = 2 * ticket + 2; holds = right.0; placed = last-place (2 * ticket + 2) (inr refl) }
                | inl nor ↦
                    let at = choosing.waiting x (omega arith) in
                    record { id = at.id; holds = at.holds; placed = kept-place at.id at.placed }
              ]
        ]

    -- a node with a place had it before, or is a part under the ticket
    which-place : (id : ℕ) → HasPlace longer (length longer) id → HasPlace order (length order) id ⊎ IsPartUnder id ticket
    which-place id placed =
        elim placed [
          | inl same ↦ inl (inl same)
          | inr p ↦
              elim (cases_lt p.turn (length order)) [
                | inl before ↦
                    inl (inr (record {
                      turn = p.turn;
                      ticket = p.ticket;
                      before = before;
                      there = sym (get-append_left order (ticket ∷ []) p.turn before) ∙ p.there;
                      part = p.part;
                    }))
                | inr behind ↦
                    let lt = p.before in let n = length-longer in
                    let last : p.turn ≡ length order = omega arith in
                    let here : slice_get longer (length order) ≡ Some p.ticket = subst (λ (j : ℕ). slice_get longer j ≡ Some p.ticket) last p.there in
                    let both : ◌≡◌ {A = Option ℕ} (Some p.ticket) (Some ticket) = sym here ∙ last-there in
                    let same : p.ticket ≡ ticket = cc in
                    inr (subst (IsPartUnder id) same p.part)
              ]
        ]

    next-closed : (id x : ℕ) → HasPlace longer (length longer) id → HoldsTicket held id x → 1 ≤ times x longer + after x
    next-closed id x placed holds =
        let sum = times-append x order (ticket ∷ []) in let e = popped x in let a = added x in
        elim (which-place id placed) [
          | inl before ↦ let old = choosing.closed id x before holds in omega arith
          | inr part ↦
              elim part [
                | inl left ↦
                    let n = holds-times x (slice_get held (2 * ticket + 1)) (subst (λ (j : ℕ). HoldsTicket held j x) left holds) in omega arith
                | inr right ↦
                    let n = holds-times x (slice_get held (2 * ticket + 2)) (subst (λ (j : ℕ). HoldsTicket held j x) right holds) in omega arith
              ]
        ]

    -- what has a place and had no turn is ready, so it is no less
    least-now : (other : ℕ) → IsHeldInPlace held order (length order) other → HadNoTurn order (length order) other → ticket ≤ other
    least-now other at fresh =
        let some = choosing.closed at.id other at.placed at.holds in
        elim (cases_lt 0 (times other order)) [
          | inl had ↦
              let found = times-turn order other (omega arith) in
              absurd (fresh found.0 (slice_get_within order found.0 other found.1) found.1)
          | inr none ↦ first other (omega arith)
        ]

    next-least : (k x other : ℕ) → slice_get longer k ≡ Some x → IsHeldInPlace held longer k other → HadNoTurn longer k other → x ≤ other
    next-least k x other is at fresh =
        elim (cases_lt k (length order)) [
          | inl before ↦
              choosing.least k x other (sym (get-append_left order (ticket ∷ []) k before) ∙ is)
              (held-back held order (ticket ∷ []) k other (omega arith) at)
              (λ j lt there. fresh j lt (get-append_left order (ticket ∷ []) j (omega arith) ∙ there))
          | inr behind ↦
              let within = slice_get_within longer k x is in let n = length-longer in
              let last : k ≡ length order = omega arith in
              let here : slice_get longer (length order) ≡ Some x = subst (λ (j : ℕ). slice_get longer j ≡ Some x) last is in
              let both : ◌≡◌ {A = Option ℕ} (Some ticket) (Some x) = sym last-there ∙ here in
              let same : ticket ≡ x = cc in
              let low = least-now other
              (held-back held order (ticket ∷ []) (length order) other (omega arith)
              (subst (λ (j : ℕ). IsHeldInPlace held longer j other) last at))
              (λ j lt there. fresh j (omega arith) (get-append_left order (ticket ∷ []) j lt ∙ there)) in
              omega arith
        ]

    pub choosing-next : IsChoosing held (order ++ ticket ∷ []) after
    choosing-next = record {
      once = next-once;
      in_place = next-in_place;
      waiting = next-waiting;
      closed = next-closed;
      least = next-least;
    }

  -- ---- the end

  module _ (none : (x : ℕ) → ready x ≡ 0) where
    had-turn : (id x : ℕ) → HasPlace order (length order) id → HoldsTicket held id x → (k : ℕ) × (slice_get order k ≡ Some x)
    had-turn id x placed holds =
        let some = choosing.closed id x placed holds in let e = none x in times-turn order x (omega arith)

    all-placed : (id : ℕ) → IsReached held id → HasPlace order (length order) id
    all-placed id from_root = inl refl
    all-placed id (by_left above ticket reached holds) =
        let found = had-turn above ticket (all-placed above reached) holds in
        inr (record {
          turn = found.0;
          ticket = ticket;
          before = slice_get_within order found.0 ticket found.1;
          there = found.1;
          part = inl refl;
        })
    all-placed id (by_right above ticket reached holds) =
        let found = had-turn above ticket (all-placed above reached) holds in
        inr (record {
          turn = found.0;
          ticket = ticket;
          before = slice_get_within order found.0 ticket found.1;
          there = found.1;
          part = inr refl;
        })

    all-turns : (id x : ℕ) → HoldsTicket held id x → (k : ℕ) × (slice_get order k ≡ Some x)
    all-turns id x holds =
        let within = slice_get_within held id (Some x) holds in let n = are.nodes in
        had-turn id x (all-placed id (are.reached id (omega arith))) holds

    each-turn : HasEachBelow are.t order
    each-turn = record {
      once = λ x lt. let holder = are.every x lt in let found = all-turns holder.0 x holder.1 in let some = turn-times order found.0 x found.1 in
          let few = choosing.once x in omega arith;
      no_other = λ x le. elim (cases_lt 0 (times x order)) [
        | inl some ↦ let lt = turn-below x (omega arith) in absurd (omega arith)
        | inr none ↦ omega arith
      ];
    }

    pub choosing-end : IsTurnOrder held order
    choosing-end = record {
      count = let n = length-each are.t order each-turn in let m = are.nodes in omega arith;
      all = all-turns;
      once = λ j k x one-yes two-there. let here = one-same x x refl in let few = choosing.once x in let sum = times-counted x order in
          once-counts (one x) order j k x x (omega arith) one-yes two-there (omega arith) (omega arith);
      in_place = choosing.in_place;
      least = choosing.least;
    }

-- ---- with the tickets that are ready in a list

module _ (held : List (Option ℕ)) (are : AreTicketsHeld held) (order : List ℕ) (old new : List (Reverse ℕ)) (first : Reverse ℕ)
    (choosing : IsChoosing held order (λ x. ready_times x old)) (perm : IsPermutation old (first ∷ new)) where
  -- the ticket that is taken is one of the tree's
  pub taken-below : first.0 < are.t
  taken-below =
      ready-below held are order (λ x. ready_times x old) choosing first.0
      (let e = takes-one first.0 first old new perm in let here = one-same first.0 first.0 refl in omega arith)

  module _ (heap : IsHeap least_first old) (greatest : PopsGreatest least_first old first new) (left after : List (Reverse ℕ)) (by_left_part : AddsReady held (2 * first.0 + 1) new left)
      (by_right_part : AddsReady held (2 * first.0 + 2) left after) where
    -- and it has its turn
    pub turn-taken : IsChoosing held (order ++ first.0 ∷ []) (λ x. ready_times x after)
    turn-taken =
        choosing-next held are order (λ x. ready_times x old) choosing first.0 (λ x. ready_times x new) (λ x. ready_times x after)
        (λ x. takes-one x first old new perm)
        (none-less first old (greatest heap).1)
        (λ x. let l = by_left_part x in let r = by_right_part x in omega arith)

    -- so fewer are left
    pub fewer-left : length held - length (order ++ first.0 ∷ []) < length held - length order
    fewer-left =
        let few = turns-few held are (order ++ first.0 ∷ []) (λ x. ready_times x after) turn-taken in
        let size = length-append order (first.0 ∷ []) in let n = are.nodes in omega arith
