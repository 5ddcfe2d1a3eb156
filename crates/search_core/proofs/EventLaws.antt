-- Each event leads from a good core to a good core.
use Rattle.std.proofs.Common.{◌≡◌, ◌≢◌, ℕ, ℤ, suc, ◌+◌, ◌*◌, ◌<◌, ◌≤◌, cond, Bool, true, false, true≢false, Option, Some, None, List, [], ◌∷◌, ◌++◌, length, length-append, length-set, set, get_or, drop, refl, sym, ap, ◌∙◌, subst, ⊎_elim, inl, inr, eq-eqb, ne_eqb, arith}
use mathlib.Core.Logic.{dite}
use native.Mathlib.Decide.{ℕ_discrete, dec_le}
use Rattle.std.specs.Prelude.{IsTrue, is_some, nat_lt, unwrap_or}
use Rattle.std.specs.Option.{option_to_list}
use Rattle.std.proofs.lemmas.Option.{none-some, same_Some}
use Rattle.std.proofs.lemmas.Bool.{ltb-true, ltb-false}
use Rattle.number_counts.specs.Counts.{times, HasEachBelow}
use Rattle.number_counts.proofs.CountLaws.{one-same, one-other, times-append, each_below-next}
use Rattle.number_laws.specs.Missing.{IsAtMost, greater}
use Rattle.number_laws.proofs.MissingLaws.{IsAtMost-refl, IsAtMost-trans, IsGreaterOf-greater}
use Rattle.work_chains.specs.NodeChains.{Nothing, NodeNote, AreNodeChains}
use Rattle.work_chains.proofs.ChainLaws.{chains-take, chains-close, chains-divide}
use Rattle.number_counts.proofs.Members.{among-last}
use Rattle.search_core.specs.declared.note.CoreNote.{CoreNote}
use Rattle.search_core.specs.declared.worker.Worker.{Worker}
use Rattle.search_core.specs.Cores.{Core, fresh_worker, worker_at, with_worker, tickets_given, held_tickets, noted_tickets, nodes_of, waiting_nodes, noted_nodes, part_nodes, notes_by, node_note, task_in}
use Rattle.search_core.specs.Events.{has_first, can_take, can_draw, can_close, taking, robbed, holding, drawing, dividing, node_in, ticket_in}
use Rattle.search_core.specs.Good.{spent_one, HasTickets, HasNodes, HasChains, IsGoodWorker, IsOffered, IsGood}
use Rattle.search_core.proofs.CoreLists.{some-is, none-is, not-is, and-is, or-is, if-cases, has-first, Measure, times-measure, length-measure, counted-set, counted-at, spent-set, flat-last, map-last, parts-append, notes-by-last, each-same, part-bound}
use Rattle.search_core.proofs.Margins.{better-both, offer-either}
use Rattle.search_core.proofs.Keeping.{IsGoodApart, apart-of, good-of, changed, one-changes, same-tickets, assemble, others, here, there, still-offered, nodes-balanced, balance}

-- all lists of chains without boxes grow alike
abbrev Any : Nothing → Nothing → Type 0
Any _ _ = Unit {0}

abbrev part : Nothing → Nothing → Nothing
part _ _ = tt

module _ (core : Core) (apart : IsGoodApart core) (w : ℕ) (known : w < length core.workers) where
  abbrev old : Worker
  old = worker_at core w

  mine : IsGoodWorker core w old
  mine = apart.workers w known

  -- without anything in hand there is no ticket
  no_ticket : old.hand ≡ None → (ticket : ℕ) → old.ticket ≡ Some ticket → ⊥
  no_ticket empty ticket has = let full = mine.full ticket has in none-some full.0 (sym empty ∙ full.1)

  -- ---- a node is taken into the empty hand

  pub takes : (id : ℕ) (v : Worker) → old.hand ≡ None → v.hand ≡ Some id → v.ticket ≡ old.ticket → v.spent ≡ old.spent → v.offered ≡ old.offered
      → v.seen ≡ old.seen → v.cuts ≡ old.cuts → IsGoodApart (with_worker core w v)
  takes id v empty hand ticket spent offered seen cuts = one-changes core apart w known v
      (record {
        full = λ t has. absurd (no_ticket empty t (sym ticket ∙ has));
        spent = λ e. mine.spent (sym spent ∙ e);
        offered = subst (λ (o : Option ℤ). IsAtMost o core.best) (sym offered) mine.offered;
        seen = subst (λ (o : Option ℤ). IsAtMost o core.best) (sym seen) mine.seen;
        cuts = (let c = mine.cuts in omega arith);
        chains = let h = mine.chains in record {
          taken = h.taken ++ (id, tt) ∷ [];
          handed = h.handed;
          chains = subst (λ (o : Option ℕ). AreNodeChains (h.taken ++ (id, tt) ∷ []) (notes_by w core.notes) h.handed (task_in o)) (sym hand)
              (chains-take Any part part h.taken h.handed (notes_by w core.notes) (id, tt)
              (subst (λ (o : Option ℕ). AreNodeChains h.taken (notes_by w core.notes) h.handed (task_in o)) empty h.chains));
        };
      })
      ticket spent offered

  -- after an offer some worker has offered the best
  pub offers : (m : ℤ) → IsOffered (with_worker (record core { best = greater core.best (Some m) }) w (record old { offered = greater old.offered (Some m) }))
  offers m = let v : Worker = record old { offered = greater old.offered (Some m) } in let best : Option ℤ = greater core.best (Some m) in
      let long = length-set core.workers w v in let at = here core apart w known v core.counter best core.notes in ⊎_elim
      (λ (same : best ≡ core.best). ⊎_elim
      (λ none. inl (same ∙ none))
      (λ (by : (k : ℕ) × (k < length core.workers) × ((worker_at core k).offered ≡ core.best)). let lt = by.1 in inr (
        by.0,
        omega arith,
        dite (ℕ_discrete by.0 w)
            (λ is. ap (λ (k : ℕ). (worker_at (changed core w v core.counter best core.notes) k).offered) is ∙ ap (λ (u : Worker). u.offered) at
            ∙ ap (λ (o : Option ℤ). greater o (Some m)) (ap (λ (k : ℕ). (worker_at core k).offered) (sym is) ∙ by.2))
            (λ ne. ap (λ (u : Worker). u.offered) (there core apart w known v core.counter best core.notes by.0 ne) ∙ by.2 ∙ sym same),
      ))
      apart.best)
      (λ (own : greater old.offered (Some m) ≡ best). inr (w, omega arith, ap (λ (u : Worker). u.offered) at ∙ own))
      (offer-either core.best old.offered m mine.offered)

module _ (core : Core) (good : IsGood core) (w : ℕ) (known : w < length core.workers) where
  abbrev worker : Worker
  worker = worker_at core w

  is-good : IsGoodWorker core w worker
  is-good = good.workers w known

  -- the first node moves from a list of its own into the hand, which was empty
  moved : (m : Measure) → worker.hand ≡ None → (ids : List ℕ) → IsTrue (has_first ids)
      → m.of (get_or ids 0 0 ∷ []) + m.of (drop 1 ids) ≡ m.of ids + m.of (option_to_list worker.hand)
  moved m empty ids some = let a = m.both (get_or ids 0 0 ∷ []) (drop 1 ids) in
      let b : m.of (get_or ids 0 0 ∷ drop 1 ids) ≡ m.of ids = ap m.of (has-first ids some) in
      let c : m.of (option_to_list worker.hand) ≡ m.of [] = ap (λ (o : Option ℕ). m.of (option_to_list o)) empty in let d = m.none in omega arith

  nodes-sum : (m : Measure) (v : Worker) → m.of (nodes_of v) ≡ m.of (option_to_list v.hand) + m.of v.kept + m.of v.deck
  nodes-sum m v = let a = m.both (option_to_list v.hand ++ v.kept) v.deck in let b = m.both (option_to_list v.hand) v.kept in omega arith

  pub take-good : IsTrue (can_take worker) → IsGood (with_worker core w (taking worker))
  take-good can = let both = and-is _ _ can in let empty = none-is worker.hand both.0 in if-cases
      (λ (v : Worker). IsGood (with_worker core w v)) (has_first worker.kept) _ _
      (λ some. good-of (with_worker core w (record worker { hand = Some (get_or worker.kept 0 0); kept = drop 1 worker.kept }))
      (takes core (apart-of core good) w known (get_or worker.kept 0 0) (record worker {
        hand = Some (get_or worker.kept 0 0);
        kept = drop 1 worker.kept;
      }) empty refl refl refl refl refl refl)
      (nodes-balanced core _ good.nodes
      (balance core w known (record worker { hand = Some (get_or worker.kept 0 0); kept = drop 1 worker.kept }) core.counter core.best core.notes
      (λ m. let a = moved m empty worker.kept some in let b = nodes-sum m worker in
      let c = nodes-sum m (record worker { hand = Some (get_or worker.kept 0 0); kept = drop 1 worker.kept }) in omega arith))
      good.nodes.parents_first))
      (λ none. let some = or-is _ _ both.1 none in good-of (with_worker core w (record worker {
        hand = Some (get_or worker.deck 0 0);
        deck = drop 1 worker.deck;
      }))
      (takes core (apart-of core good) w known (get_or worker.deck 0 0) (record worker {
        hand = Some (get_or worker.deck 0 0);
        deck = drop 1 worker.deck;
      }) empty refl refl refl refl refl refl)
      (nodes-balanced core _ good.nodes
      (balance core w known (record worker { hand = Some (get_or worker.deck 0 0); deck = drop 1 worker.deck }) core.counter core.best core.notes
      (λ m. let a = moved m empty worker.deck some in let b = nodes-sum m worker in
      let c = nodes-sum m (record worker { hand = Some (get_or worker.deck 0 0); deck = drop 1 worker.deck }) in omega arith))
      good.nodes.parents_first))

  -- ---- nothing of tickets, nodes or notes changes

  pub keeps-nodes : (v : Worker) → nodes_of v ≡ nodes_of worker → HasNodes (with_worker core w v)
  keeps-nodes v same = nodes-balanced core _ good.nodes
      (balance core w known v core.counter core.best core.notes (λ m. let a : m.of (nodes_of v) ≡ m.of (nodes_of worker) = ap m.of same in omega arith))
      good.nodes.parents_first

  pub see-good : IsGood (with_worker core w (record worker { seen = core.best }))
  see-good = good-of _ (one-changes core (apart-of core good) w known (record worker { seen = core.best })
      (record {
        full = is-good.full;
        spent = is-good.spent;
        offered = is-good.offered;
        seen = IsAtMost-refl core.best;
        cuts = is-good.cuts;
        chains = record { taken = is-good.chains.taken; handed = is-good.chains.handed; chains = is-good.chains.chains };
      }) refl refl refl)
      (keeps-nodes (record worker { seen = core.best }) refl)

  pub cut-good : worker.cuts < 256 → IsGood (with_worker core w (record worker { cuts = worker.cuts + 1 }))
  cut-good few = good-of _ (one-changes core (apart-of core good) w known (record worker { cuts = worker.cuts + 1 })
      (record {
        full = is-good.full;
        spent = is-good.spent;
        offered = is-good.offered;
        seen = is-good.seen;
        cuts = omega arith;
        chains = record { taken = is-good.chains.taken; handed = is-good.chains.handed; chains = is-good.chains.chains };
      }) refl refl refl)
      (keeps-nodes (record worker { cuts = worker.cuts + 1 }) refl)

  -- ---- an offer

  pub offer-good : (m : ℤ) → IsGood (with_worker (record core { best = greater core.best (Some m) }) w (record worker { offered = greater worker.offered (Some m) }))
  offer-good m = let v : Worker = record worker { offered = greater worker.offered (Some m) } in let best : Option ℤ = greater core.best (Some m) in
      let b = IsGreaterOf-greater core.best (Some m) in
      let new : Core = changed core w v core.counter best core.notes in let apart = apart-of core good in good-of new
      (assemble core apart w known v core.counter best core.notes
      (same-tickets core apart w known v best core.notes (λ n. refl) refl)
      (record {
        full = is-good.full;
        spent = is-good.spent;
        offered = better-both worker.offered core.best m is-good.offered;
        seen = IsAtMost-trans _ _ _ is-good.seen b.first;
        cuts = is-good.cuts;
        chains = record { taken = is-good.chains.taken; handed = is-good.chains.handed; chains = is-good.chains.chains };
      })
      (others core apart w known v core.counter best core.notes (omega arith) (λ a le. IsAtMost-trans _ _ _ le b.first)
      (λ k u ne h. record { taken = h.taken; handed = h.handed; chains = h.chains }))
      (offers core apart w known m))
      (nodes-balanced core new good.nodes (balance core w known v core.counter best core.notes (λ n. refl)) good.nodes.parents_first)

  -- ---- a theft

  module _ (from : ℕ) (there_is : from < length core.workers) (apart_from : w ≢ from) where
    abbrev other : Worker
    other = worker_at core from

    abbrev left_over : Core
    left_over = with_worker core from (robbed other)

    robbed-good : IsGoodApart left_over
    robbed-good = let g = good.workers from there_is in one-changes core (apart-of core good) from there_is (robbed other)
        (record {
          full = g.full;
          spent = g.spent;
          offered = g.offered;
          seen = g.seen;
          cuts = g.cuts;
          chains = record { taken = g.chains.taken; handed = g.chains.handed; chains = g.chains.chains };
        }) refl refl refl

    same-thief : worker_at left_over w ≡ worker
    same-thief = there core (apart-of core good) from there_is (robbed other) core.counter core.best core.notes w apart_from

    still-known : w < length left_over.workers
    still-known = let long = length-set core.workers from (robbed other) in omega arith

    pub steal-good : worker.hand ≡ None → IsTrue (has_first other.deck) → IsGood (with_worker left_over w (holding worker (get_or other.deck 0 0)))
    steal-good empty some = let id : ℕ = get_or other.deck 0 0 in let v : Worker = holding worker id in
        good-of (with_worker left_over w v)
        (takes left_over robbed-good w still-known id v (ap (λ (u : Worker). u.hand) same-thief ∙ empty) refl (sym (ap (λ (u : Worker). u.ticket) same-thief))
        (sym (ap (λ (u : Worker). u.spent) same-thief)) (sym (ap (λ (u : Worker). u.offered) same-thief)) (sym (ap
        (λ (u : Worker). u.seen) same-thief)) (sym (ap (λ (u : Worker). u.cuts) same-thief)))
        (nodes-balanced core (with_worker left_over w v) good.nodes
        (λ m. let a = counted-set m nodes_of core.workers from (fresh_worker None) (robbed other) there_is in
        let b = counted-set m nodes_of left_over.workers w (fresh_worker None) v still-known in
        let c : m.of (nodes_of (worker_at left_over w)) ≡ m.of (nodes_of worker) = ap (λ (u : Worker). m.of (nodes_of u)) same-thief in
        let d = moved m empty other.deck some in let e = nodes-sum m worker in let f = nodes-sum m other in let g = nodes-sum m v in
        let h = nodes-sum m (robbed other) in
        let i = m.both (waiting_nodes (set left_over.workers w v)) (noted_nodes core.notes) in
        let j = m.both (waiting_nodes core.workers) (noted_nodes core.notes) in omega arith)
        good.nodes.parents_first)

  -- ---- a ticket is asked for

  -- a noted ticket was given
  given-noted : (t : ℕ) → 0 < times t (noted_tickets core.notes) → t < tickets_given core
  given-noted t some = dite (dec_le (suc t) (tickets_given core)) (λ lt. lt)
      (λ ge. let none = good.tickets.each.no_other t (omega arith) in
      let sum = times-append t (held_tickets core.workers) (noted_tickets core.notes) in absurd (omega arith))

  -- a node in hand comes before the parts of the next ticket
  before-parts : (id : ℕ) → worker.hand ≡ Some id → id ≤ 2 * tickets_given core
  before-parts id has = let a = counted-at (times-measure id) nodes_of core.workers w (fresh_worker None) known in
      let b = nodes-sum (times-measure id) worker in let c : times id (option_to_list worker.hand) ≡ times id (id ∷ []) = ap
      (λ (o : Option ℕ). times id (option_to_list o)) has in
      let d = one-same id id refl in let e = times-append id (waiting_nodes core.workers) (noted_nodes core.notes) in let f = good.nodes.each id in
      dite (ℕ_discrete id 0) (λ z. omega arith)
      (λ nz. let g = one-other id 0 nz in part-bound (tickets_given core) (noted_tickets core.notes) given-noted id (omega arith))

  abbrev asked : Worker → Core
  asked v = with_worker (record core { counter = core.counter + 1 }) w v

  asked-good : (v : Worker) → v.hand ≡ worker.hand → v.kept ≡ worker.kept → v.deck ≡ worker.deck → v.offered ≡ worker.offered
      → v.seen ≡ worker.seen → v.cuts ≡ worker.cuts
      → HasTickets (asked v) → ((ticket : ℕ) → v.ticket ≡ Some ticket → (id : ℕ) × (v.hand ≡ Some id) × (id ≤ 2 * ticket)) → (v.spent ≡ true
      → core.budget < core.counter + 1) → IsGood (asked v)
  asked-good v hand kept deck offered seen cuts tickets full spent = let apart = apart-of core good in good-of (asked v)
      (assemble core apart w known v (core.counter + 1) core.best core.notes tickets
      (record {
        full = full;
        spent = spent;
        offered = subst (λ (o : Option ℤ). IsAtMost o core.best) (sym offered) is-good.offered;
        seen = subst (λ (o : Option ℤ). IsAtMost o core.best) (sym seen) is-good.seen;
        cuts = (let c = is-good.cuts in omega arith);
        chains = let h = is-good.chains in record {
          taken = h.taken;
          handed = h.handed;
          chains = subst (λ (o : Option ℕ). AreNodeChains h.taken (notes_by w core.notes) h.handed (task_in o)) (sym hand) h.chains;
        };
      })
      (others core apart w known v (core.counter + 1) core.best core.notes (omega arith) (λ a le. le)
      (λ k u ne h. record { taken = h.taken; handed = h.handed; chains = h.chains }))
      (still-offered core apart w known v (core.counter + 1) core.best core.notes refl offered))
      (nodes-balanced core (asked v) good.nodes
      (balance core w known v (core.counter + 1) core.best core.notes
      (λ m. let a : m.of (option_to_list v.hand) ≡ m.of (option_to_list worker.hand) = ap (λ (o : Option ℕ). m.of (option_to_list o)) hand in
      let b : m.of v.kept ≡ m.of worker.kept = ap m.of kept in let c : m.of v.deck ≡ m.of worker.deck = ap m.of deck in
      let d = nodes-sum m v in let e = nodes-sum m worker in omega arith))
      good.nodes.parents_first)

  held-sum : (m : Measure) (v : Worker)
      → m.of (held_tickets (set core.workers w v)) + m.of (option_to_list worker.ticket) ≡ m.of (held_tickets core.workers) + m.of
      (option_to_list v.ticket)
  held-sum m v = counted-set m (λ (u : Worker). option_to_list u.ticket) core.workers w (fresh_worker None) v known

  -- the next ticket is given
  given-good : core.counter < core.budget → (id : ℕ) → worker.hand ≡ Some id → worker.ticket ≡ None → worker.spent ≡ false
      → IsGood (asked (record worker { ticket = Some core.counter }))
  given-good lt id full none fresh = let v : Worker = record worker { ticket = Some core.counter } in let t = good.tickets in
      let added : (m : Measure) → m.of (held_tickets (set core.workers w v) ++ noted_tickets core.notes) ≡ m.of
      ((held_tickets core.workers ++ noted_tickets core.notes) ++ core.counter ∷ []) = λ m.
      (let a = held-sum m v in let b : m.of (option_to_list worker.ticket) ≡ m.of [] = ap (λ (o : Option ℕ). m.of (option_to_list o)) none in let c = m.none in
      let d = m.both (held_tickets (set core.workers w v)) (noted_tickets core.notes) in
      let e = m.both (held_tickets core.workers ++ noted_tickets core.notes) (core.counter ∷ []) in
      let f = m.both (held_tickets core.workers) (noted_tickets core.notes) in omega arith) in
      let was : tickets_given core ≡ core.counter = omega arith in let now : suc core.counter ≡ tickets_given (asked v) = omega arith in
      asked-good v refl refl refl refl refl refl
      (record {
        each = subst (λ (n : ℕ). HasEachBelow n (held_tickets (set core.workers w v) ++ noted_tickets core.notes)) now
            (each-same (suc core.counter) ((held_tickets core.workers ++ noted_tickets core.notes) ++ core.counter ∷ []) _ (λ x. added (times-measure x))
            (each_below-next core.counter _ (subst (λ (n : ℕ). HasEachBelow n (held_tickets core.workers ++ noted_tickets core.notes)) was t.each)));
        many = (let a = added length-measure in let b = t.many in let c = length-append (held_tickets core.workers ++ noted_tickets core.notes)
            (core.counter ∷ []) in omega arith);
        drawn = (let a = spent-set core.workers w (fresh_worker None) v known in omega arith);
      })
      (λ ticket has. let is : core.counter ≡ ticket = same_Some _ _ has in let le = before-parts id full in (id, full, omega arith))
      (λ e. absurd (true≢false (sym e ∙ fresh)))

  -- no ticket is left
  refused-good : core.budget ≤ core.counter → worker.ticket ≡ None → worker.spent ≡ false → IsGood (asked (record worker { spent = true }))
  refused-good le none fresh = let v : Worker = record worker { spent = true } in let t = good.tickets in
      let same : (m : Measure) → m.of (held_tickets (set core.workers w v) ++ noted_tickets core.notes) ≡ m.of
      (held_tickets core.workers ++ noted_tickets core.notes) = λ m.
      (let a = held-sum m v in let d = m.both (held_tickets (set core.workers w v)) (noted_tickets core.notes) in
      let f = m.both (held_tickets core.workers) (noted_tickets core.notes) in omega arith) in
      let now : tickets_given core ≡ tickets_given (asked v) = omega arith in
      asked-good v refl refl refl refl refl refl
      (record {
        each = subst (λ (n : ℕ). HasEachBelow n (held_tickets (set core.workers w v) ++ noted_tickets core.notes)) now (each-same _ _ _
            (λ x. same (times-measure x)) t.each);
        many = (let a = same length-measure in let b = t.many in omega arith);
        drawn = (let a = spent-set core.workers w (fresh_worker None) v known in
            let b : spent_one worker ≡ 0 = ap (λ (s : Bool). cond s 1 0) fresh in let c = t.drawn in omega arith);
      })
      (λ ticket has. absurd (none-some ticket (sym none ∙ has)))
      (λ e. omega arith)

  pub draw-good : IsTrue (can_draw worker) → IsGood (asked (drawing core.budget core.counter worker))
  draw-good can = let first = and-is _ _ can in let second = and-is _ _ first.0 in let full = some-is worker.hand second.0 in
      let none = none-is worker.ticket second.1 in let fresh = not-is worker.spent first.1 in
      if-cases (λ (v : Worker). IsGood (asked v)) (nat_lt core.counter core.budget) _ _
      (λ lt. given-good (ltb-true core.counter core.budget lt) full.0 full.1 none fresh)
      (λ ge. refused-good (ltb-false core.counter core.budget ge) none fresh)

  -- ---- a note is written

  module _ (ticket : Option ℕ) where
    abbrev note : CoreNote
    note = record { worker = w; id = node_in worker; ticket = ticket }

    abbrev longer : List CoreNote
    longer = core.notes ++ note ∷ []

    more-tickets : (m : Measure) → m.of (noted_tickets longer) ≡ m.of (noted_tickets core.notes) + m.of (option_to_list ticket)
    more-tickets m = ap m.of (flat-last (λ (n : CoreNote). option_to_list n.ticket) core.notes note) ∙ m.both (noted_tickets core.notes) (option_to_list ticket)

    more-nodes : (m : Measure) → m.of (noted_nodes longer) ≡ m.of (noted_nodes core.notes) + m.of (node_in worker ∷ [])
    more-nodes m = ap m.of (map-last (λ (n : CoreNote). n.id) core.notes note) ∙ m.both (noted_nodes core.notes) (node_in worker ∷ [])

    more-parts : (m : Measure) → m.of (part_nodes (noted_tickets longer)) ≡ m.of (part_nodes (noted_tickets core.notes)) + m.of (part_nodes
        (option_to_list ticket))
    more-parts m = ap (λ (l : List ℕ). m.of (part_nodes l)) (flat-last (λ (n : CoreNote). option_to_list n.ticket) core.notes note)
        ∙ ap m.of (parts-append (noted_tickets core.notes) (option_to_list ticket))
        ∙ m.both (part_nodes (noted_tickets core.notes)) (part_nodes (option_to_list ticket))

    by-worker : notes_by w longer ≡ notes_by w core.notes ++ node_note note ∷ []
    by-worker = notes-by-last w core.notes note
        ∙ ap (λ (b : Bool). cond b (notes_by w core.notes ++ node_note note ∷ []) (notes_by w core.notes)) (eq-eqb w w refl)

    by-others : (k : ℕ) → k ≢ w → notes_by k longer ≡ notes_by k core.notes
    by-others k ne = notes-by-last k core.notes note
        ∙ ap (λ (b : Bool). cond b (notes_by k core.notes ++ node_note note ∷ []) (notes_by k core.notes)) (ne_eqb w k (λ e. ne (sym e)))

    abbrev noting : Worker → Core
    noting v = with_worker (record core { notes = longer }) w v

    other-chains : (v : Worker) (k : ℕ) (u : Worker) → k ≢ w → HasChains core k u → HasChains (noting v) k u
    other-chains v k u ne h = record {
      taken = h.taken;
      handed = h.handed;
      chains = subst (λ (ns : List NodeNote). AreNodeChains h.taken ns h.handed (task_in u.hand)) (sym (by-others k ne)) h.chains;
    }

    -- the ticket in the note was held for its node
    note-good : (v : Worker) → worker.ticket ≡ ticket → v.ticket ≡ None → v.spent ≡ worker.spent → v.offered ≡ worker.offered
        → v.seen ≡ worker.seen → v.cuts ≡ worker.cuts
        → HasChains (noting v) w v
        → ((m : Measure) → m.of (nodes_of v) + m.of (node_in worker ∷ []) ≡ m.of (nodes_of worker) + m.of (part_nodes (option_to_list ticket)))
        → ((t : ℕ) → ticket ≡ Some t → node_in worker ≤ 2 * t) → IsGood (noting v)
    note-good v held none spent offered seen cuts chains nodes first = let apart = apart-of core good in good-of (noting v)
        (assemble core apart w known v core.counter core.best longer
        (same-tickets core apart w known v core.best longer
        (λ m. let a = more-tickets m in let b : m.of (option_to_list v.ticket) ≡ m.of [] = ap
        (λ (o : Option ℕ). m.of (option_to_list o)) none in let c = m.none in
        let d : m.of (option_to_list worker.ticket) ≡ m.of (option_to_list ticket) = ap (λ (o : Option ℕ). m.of (option_to_list o)) held in omega arith)
        spent)
        (record {
          full = λ t has. absurd (none-some t (sym none ∙ has));
          spent = λ e. is-good.spent (sym spent ∙ e);
          offered = subst (λ (o : Option ℤ). IsAtMost o core.best) (sym offered) is-good.offered;
          seen = subst (λ (o : Option ℤ). IsAtMost o core.best) (sym seen) is-good.seen;
          cuts = (let c = is-good.cuts in omega arith);
          chains = chains;
        })
        (others core apart w known v core.counter core.best longer (omega arith) (λ a le. le) (λ k u ne h. other-chains v k u ne h))
        (still-offered core apart w known v core.counter core.best longer refl offered))
        (nodes-balanced core (noting v) good.nodes
        (balance core w known v core.counter core.best longer (λ m. let a = more-nodes m in let b = more-parts m in let c = nodes m in omega arith))
        (λ n t among has. ⊎_elim
        (λ was. good.nodes.parents_first n t was has)
        (λ (is : n ≡ note). let e : n.id ≡ node_in worker = ap (λ (n : CoreNote). n.id) is in
        let le = first t (sym (ap (λ (n : CoreNote). n.ticket) is) ∙ has) in omega arith)
        (among-last core.notes note n among)))

  -- what is there has its number
  in-some : (o : Option ℕ) (x : ℕ) → o ≡ Some x → o ≡ Some (unwrap_or o 0)
  in-some o x e = e ∙ ap Some (sym (ap (λ (o : Option ℕ). unwrap_or o 0) e))

  pub close-good : IsTrue (can_close worker) → IsGood (noting None (record worker { hand = None }))
  close-good can = let both = and-is _ _ can in let full = some-is worker.hand both.0 in let hand = in-some worker.hand full.0 full.1 in
      let none = none-is worker.ticket both.1 in
      let v : Worker = record worker { hand = None } in let h = is-good.chains in
      note-good None v none none refl refl refl refl
      (record {
        taken = h.taken;
        handed = h.handed;
        chains = subst (λ (ns : List NodeNote). AreNodeChains h.taken ns h.handed None) (sym (by-worker None))
            (chains-close Any part part h.taken h.handed (notes_by w core.notes) (node_in worker) tt
            (subst (λ (o : Option ℕ). AreNodeChains h.taken (notes_by w core.notes) h.handed (task_in o)) hand h.chains));
      })
      (λ m. let a = nodes-sum m worker in let b = nodes-sum m v in let c : m.of (option_to_list worker.hand) ≡ m.of (node_in worker ∷ []) = ap
      (λ (o : Option ℕ). m.of (option_to_list o)) hand in omega arith)
      (λ t has. absurd (none-some t has))

  divide-good : (v : Worker) → worker.ticket ≡ Some (ticket_in worker) → v.hand ≡ Some (2 * ticket_in worker + 1) → v.ticket ≡ None
      → v.spent ≡ worker.spent → v.offered ≡ worker.offered
      → v.seen ≡ worker.seen → v.cuts ≡ worker.cuts
      → ((m : Measure) → m.of v.kept + m.of v.deck ≡ m.of worker.kept + m.of worker.deck + m.of ((2 * ticket_in worker + 2) ∷ []))
      → IsGood (noting worker.ticket v)
  divide-good v has hand none spent offered seen cuts right = let full = is-good.full (ticket_in worker) has in
      let old_hand = in-some worker.hand full.0 full.1 in let h = is-good.chains in
      let t : ℕ = ticket_in worker in let id : ℕ = node_in worker in
      let le : id ≤ 2 * t = (let e : id ≡ full.0 = ap (λ (o : Option ℕ). unwrap_or o 0) full.1 in let l = full.2 in omega arith) in
      note-good worker.ticket v refl none spent offered seen cuts
      (record {
        taken = h.taken;
        handed = h.handed ++ (2 * t + 2, tt) ∷ [];
        chains = subst (λ (y : List NodeNote × Option ℕ). AreNodeChains h.taken y.0 (h.handed ++ (2 * t + 2, tt) ∷ []) (task_in y.1))
            (λ i. (
              sym (by-worker worker.ticket
                  ∙ ap (λ (o : Option ℕ). notes_by w core.notes ++ (node_note (record { worker = w; id = id; ticket = o })) ∷ []) has) i,
              sym hand i,
            ))
            (chains-divide Any part part h.taken h.handed (notes_by w core.notes) id tt t tt tt
            (subst (λ (o : Option ℕ). AreNodeChains h.taken (notes_by w core.notes) h.handed (task_in o)) old_hand h.chains));
      })
      (λ m. let a = nodes-sum m worker in let b = nodes-sum m v in let c : m.of (option_to_list worker.hand) ≡ m.of (id ∷ []) = ap
      (λ (o : Option ℕ). m.of (option_to_list o)) old_hand in
      let d : m.of (option_to_list v.hand) ≡ m.of ((2 * t + 1) ∷ []) = ap (λ (o : Option ℕ). m.of (option_to_list o)) hand in
      let e : m.of (part_nodes (option_to_list worker.ticket)) ≡ m.of ((2 * t + 1) ∷ (2 * t + 2) ∷ []) = ap
      (λ (o : Option ℕ). m.of (part_nodes (option_to_list o))) has in
      let f = m.both ((2 * t + 1) ∷ []) ((2 * t + 2) ∷ []) in let g = right m in omega arith)
      (λ t' is. let e : t ≡ t' = same_Some _ _ (sym has ∙ is) in omega arith)

  pub split-good : (to_kept : Bool) → IsTrue (is_some worker.ticket) → IsGood (noting worker.ticket (dividing to_kept (ticket_in worker) worker))
  split-good to_kept can = let t : ℕ = ticket_in worker in let some = some-is worker.ticket can in let has = in-some worker.ticket some.0 some.1 in
      if-cases (λ (v : Worker). IsGood (noting worker.ticket v)) to_kept _ _
      (λ _. divide-good (record worker { hand = Some (2 * t + 1); ticket = None; kept = worker.kept ++ (2 * t + 2) ∷ [] }) has refl refl refl refl refl refl
      (λ m. let a = m.both worker.kept ((2 * t + 2) ∷ []) in omega arith))
      (λ _. divide-good (record worker { hand = Some (2 * t + 1); ticket = None; deck = worker.deck ++ (2 * t + 2) ∷ [] }) has refl refl refl refl refl refl
      (λ m. let a = m.both worker.deck ((2 * t + 2) ∷ []) in omega arith))
