-- What a change of one worker keeps.
use Rattle.std.proofs.Common.{◌≡◌, ◌≢◌, ℕ, ℤ, ◌+◌, ◌*◌, ◌<◌, ◌≤◌, cond, Bool, Option, Some, None, List, [], ◌∷◌, ◌++◌, length, length-set, set, get_or-set_same, get_or-set_other, refl, sym, ap, ◌∙◌, subst, ⊎_elim, inl, inr, arith}
use mathlib.Core.Logic.{dite}
use native.Mathlib.Decide.{ℕ_discrete}
use Rattle.std.specs.Prelude.{Contains}
use Rattle.std.specs.Option.{option_to_list}
use Rattle.number_laws.specs.Missing.{IsAtMost}
use Rattle.work_chains.specs.NodeChains.{AreNodeChains}
use Rattle.search_core.specs.declared.note.CoreNote.{CoreNote}
use Rattle.search_core.specs.declared.worker.Worker.{Worker}
use Rattle.search_core.specs.Cores.{Core, fresh_worker, worker_at, with_worker, held_tickets, noted_tickets, nodes_of, waiting_nodes, noted_nodes, part_nodes, notes_by, task_in}
use Rattle.search_core.specs.Good.{spent_one, IsWithinLimits, HasTickets, HasNodes, HasChains, IsGoodWorker, IsOffered, IsGood}
use Rattle.search_core.proofs.CoreLists.{Measure, times-measure, length-measure, counted-set, spent-set, each-same}

-- all of a good core but its nodes, which a theft changes in two workers
pub record IsGoodApart (core : Core) : Type 0 where
  pub limits : IsWithinLimits core
  pub tickets : HasTickets core
  pub workers : (w : ℕ) → w < length core.workers → IsGoodWorker core w (worker_at core w)
  pub best : IsOffered core

pub apart-of : (core : Core) → IsGood core → IsGoodApart core
apart-of core good = record { limits = good.limits; tickets = good.tickets; workers = good.workers; best = good.best }

pub good-of : (core : Core) → IsGoodApart core → HasNodes core → IsGood core
good-of core apart nodes = record { limits = apart.limits; tickets = apart.tickets; nodes = nodes; workers = apart.workers; best = apart.best }

-- the core with other numbers and notes, and another state of one worker
abbrev pub changed : Core → ℕ → Worker → ℕ → Option ℤ → List CoreNote → Core
changed core w v counter best notes = record { workers = set core.workers w v; counter = counter; budget = core.budget; best = best; notes = notes }

module _ (core : Core) (apart : IsGoodApart core) (w : ℕ) (known : w < length core.workers) where
  abbrev old : Worker
  old = worker_at core w

  -- what was held and noted of tickets stays, whatever is counted
  abbrev pub SameTickets : Worker → List CoreNote → Type 0
  SameTickets v notes = (m : Measure)
      → m.of (option_to_list v.ticket) + m.of (noted_tickets notes) ≡ m.of (option_to_list old.ticket) + m.of (noted_tickets core.notes)

  held : (m : Measure) (v : Worker)
      → m.of (held_tickets (set core.workers w v)) + m.of (option_to_list old.ticket) ≡ m.of (held_tickets core.workers) + m.of
      (option_to_list v.ticket)
  held m v = counted-set m (λ (u : Worker). option_to_list u.ticket) core.workers w (fresh_worker None) v known

  pub same-tickets : (v : Worker) (best : Option ℤ) (notes : List CoreNote) → SameTickets v notes → v.spent ≡ old.spent
      → HasTickets (changed core w v core.counter best notes)
  same-tickets v best notes same spent = let t = apart.tickets in
      let moved : (m : Measure) → m.of (held_tickets (set core.workers w v) ++ noted_tickets notes) ≡ m.of
      (held_tickets core.workers ++ noted_tickets core.notes) = λ m.
      (let a = m.both (held_tickets (set core.workers w v)) (noted_tickets notes) in
      let b = m.both (held_tickets core.workers) (noted_tickets core.notes) in let c = held m v in let d = same m in omega arith) in record {
        each = each-same _ _ _ (λ x. moved (times-measure x)) t.each;
        many = moved length-measure ∙ t.many;
        drawn = (let a = spent-set core.workers w (fresh_worker None) v known in
            let b : spent_one v ≡ spent_one old = ap (λ (s : Bool). cond s 1 0) spent in let c = t.drawn in omega arith);
      }

  module _ (v : Worker) (counter : ℕ) (best : Option ℤ) (notes : List CoreNote) where
    abbrev new : Core
    new = changed core w v counter best notes

    pub here : worker_at new w ≡ v
    here = get_or-set_same core.workers w v (fresh_worker None) known

    pub there : (k : ℕ) → k ≢ w → worker_at new k ≡ worker_at core k
    there k ne = get_or-set_other core.workers w k v (fresh_worker None) ne

    -- the workers but this one see only the numbers change
    pub others : core.counter ≤ counter → ((a : Option ℤ) → IsAtMost a core.best → IsAtMost a best)
        → ((k : ℕ) (u : Worker) → k ≢ w → HasChains core k u → HasChains new k u)
        → (k : ℕ) → k < length core.workers → k ≢ w → IsGoodWorker new k (worker_at core k)
    others more better chains k lt ne = let g = apart.workers k lt in record {
      full = g.full;
      spent = λ e. (let s = g.spent e in omega arith);
      offered = better _ g.offered;
      seen = better _ g.seen;
      cuts = g.cuts;
      chains = chains k (worker_at core k) ne g.chains;
    }

    pub assemble : HasTickets new → IsGoodWorker new w v → ((k : ℕ) → k < length core.workers → k ≢ w → IsGoodWorker new k (worker_at core k))
        → IsOffered new → IsGoodApart new
    assemble tickets mine rest offered = let l = apart.limits in let long = length-set core.workers w v in record {
      limits = (let a = l.some_workers in let b = l.most_workers in record { some_workers = omega arith; most_workers = omega arith; budget = l.budget });
      tickets = tickets;
      workers = λ k lt. dite (ℕ_discrete k w)
          (λ is. subst (λ (y : ℕ × Worker). IsGoodWorker new y.0 y.1) (λ i. (sym is i, (sym here ∙ ap (worker_at new) (sym is)) i)) mine)
          (λ ne. subst (IsGoodWorker new k) (sym (there k ne)) (rest k (omega arith) ne));
      best = offered;
    }

    -- whoever offered the best still does
    pub still-offered : best ≡ core.best → v.offered ≡ old.offered → IsOffered new
    still-offered same own = ⊎_elim (λ none. inl (same ∙ none))
        (λ (by : (k : ℕ) × (k < length core.workers) × ((worker_at core k).offered ≡ core.best)). let lt = by.1 in let long = length-set core.workers w v in
        inr (
          by.0,
          omega arith,
          dite (ℕ_discrete by.0 w)
              (λ is. ap (λ (k : ℕ). (worker_at new k).offered) is ∙ ap (λ (u : Worker). u.offered) here ∙ own
              ∙ ap (λ (k : ℕ). (worker_at core k).offered) (sym is) ∙ by.2 ∙ sym same)
              (λ ne. ap (λ (u : Worker). u.offered) (there by.0 ne) ∙ by.2 ∙ sym same),
        ))
        apart.best

  -- chains where no note is added
  pub same-chains : (core' : Core) → core'.notes ≡ core.notes → (k : ℕ) (u : Worker) → HasChains core k u → HasChains core' k u
  same-chains core' same k u h = record {
    taken = h.taken;
    handed = h.handed;
    chains = subst (λ (ns : List CoreNote). AreNodeChains h.taken (notes_by k ns) h.handed (task_in u.hand)) (sym same) h.chains;
  }

  -- one worker changes, and nothing else
  pub one-changes : (v : Worker) → IsGoodWorker core w v → v.ticket ≡ old.ticket → v.spent ≡ old.spent → v.offered ≡ old.offered
      → IsGoodApart (with_worker core w v)
  one-changes v mine ticket spent offered = assemble v core.counter core.best core.notes
      (same-tickets v core.best core.notes (λ m. ap (λ (t : Option ℕ). m.of (option_to_list t) + m.of (noted_tickets core.notes)) ticket) spent)
      (record {
        full = mine.full;
        spent = mine.spent;
        offered = mine.offered;
        seen = mine.seen;
        cuts = mine.cuts;
        chains = same-chains (with_worker core w v) refl w v mine.chains;
      })
      (others v core.counter core.best core.notes (omega arith) (λ a le. le) (λ k u ne h. same-chains (with_worker core w v) refl k u h))
      (still-offered v core.counter core.best core.notes refl offered)

-- ---- nodes

-- how many nodes wait and are noted, against node 0 and the parts, whatever is counted
abbrev pub IsBalanced : Core → Core → Type 0
IsBalanced core next = (m : Measure) →
    m.of (waiting_nodes next.workers ++ noted_nodes next.notes) + m.of (0 ∷ part_nodes (noted_tickets core.notes))
    ≡ m.of (waiting_nodes core.workers ++ noted_nodes core.notes) + m.of (0 ∷ part_nodes (noted_tickets next.notes))

pub nodes-balanced : (core next : Core) → HasNodes core → IsBalanced core next
    → ((note : CoreNote) (ticket : ℕ) → Contains next.notes note → note.ticket ≡ Some ticket → note.id ≤ 2 * ticket) → HasNodes next
nodes-balanced core next nodes balanced first = record {
  each = λ x. (let a = nodes.each x in let b = balanced (times-measure x) in omega arith);
  many = (let a = nodes.many in let b = balanced length-measure in omega arith);
  parents_first = first;
}

module _ (core : Core) (w : ℕ) (known : w < length core.workers) (v : Worker) (counter : ℕ) (best : Option ℤ) (notes : List CoreNote) where
  abbrev before : Worker
  before = worker_at core w

  -- it is enough to count the nodes of the worker that changes
  pub balance : ((m : Measure) → m.of (nodes_of v) + m.of (noted_nodes notes) + m.of (part_nodes (noted_tickets core.notes))
      ≡ m.of (nodes_of before) + m.of (noted_nodes core.notes) + m.of (part_nodes (noted_tickets notes)))
      → IsBalanced core (changed core w v counter best notes)
  balance here m = let a = m.both (waiting_nodes (set core.workers w v)) (noted_nodes notes) in
      let b = m.both (waiting_nodes core.workers) (noted_nodes core.notes) in
      let c = m.both (0 ∷ []) (part_nodes (noted_tickets core.notes)) in let d = m.both (0 ∷ []) (part_nodes (noted_tickets notes)) in
      let e = counted-set m nodes_of core.workers w (fresh_worker None) v known in let f = here m in omega arith
