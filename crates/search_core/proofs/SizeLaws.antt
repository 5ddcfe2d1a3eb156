-- How great the numbers of a good core are at most.
use Rattle.std.proofs.Common.{◌≡◌, ℕ, suc, ◌<◌, ◌≤◌, cond, Bool, true, false, Option, Some, None, List, [], ◌∷◌, length, length-append, refl, ap, arith}
use mathlib.Core.Logic.{dite}
use native.Mathlib.Decide.{dec_le}
use Rattle.std.specs.Prelude.{unwrap_or}
use Rattle.std.specs.Option.{option_to_list}
use Rattle.number_counts.specs.Counts.{times}
use Rattle.number_counts.proofs.CountLaws.{one-same, times-append}
use Rattle.search_core.specs.declared.note.CoreNote.{CoreNote}
use Rattle.search_core.specs.declared.worker.Worker.{Worker}
use Rattle.search_core.specs.Cores.{Core, fresh_worker, worker_at, tickets_given, held_tickets, noted_tickets, waiting_nodes, noted_nodes}
use Rattle.search_core.specs.Events.{ticket_in}
use Rattle.search_core.specs.Good.{spent_count, IsGood}
use Rattle.search_core.proofs.CoreLists.{times-measure, counted-at, parts-length}

one-most : (b : Bool) → cond b 1 0 ≤ 1
one-most true = omega arith
one-most false = omega arith

spent-most : (workers : List Worker) → spent_count workers ≤ length workers
spent-most [] = omega arith
spent-most (worker ∷ workers) = let first = one-most worker.spent in let more = spent-most workers in omega arith

pub small-counter : (core : Core) → IsGood core → core.counter < 2147483648
small-counter core good = let a = good.tickets.drawn in let b = spent-most core.workers in let c = good.limits.most_workers in
    let d = good.limits.budget in omega arith

pub small-ticket : (core : Core) → IsGood core → (w : ℕ) → w < length core.workers → ticket_in (worker_at core w) < 1073741824
small-ticket core good w known = small (worker_at core w).ticket refl
  where
    small : (o : Option ℕ) → (worker_at core w).ticket ≡ o → unwrap_or o 0 < 1073741824
    small None is = omega arith
    small (Some t) is = dite (dec_le (suc t) (tickets_given core)) (λ lt. let a = good.limits.budget in omega arith)
        (λ ge. let a = good.tickets.each.no_other t (omega arith) in let b = times-append t (held_tickets core.workers) (noted_tickets core.notes) in
        let c = counted-at (times-measure t) (λ (u : Worker). option_to_list u.ticket) core.workers w (fresh_worker None) known in
        let d : times t (option_to_list (worker_at core w).ticket) ≡ times t (t ∷ []) = ap
        (λ (o : Option ℕ). times t (option_to_list o)) is in let e = one-same t t refl in absurd (omega arith))

nodes-length : (notes : List CoreNote) → length (noted_nodes notes) ≡ length notes
nodes-length [] = refl
nodes-length (n ∷ notes) = ap suc (nodes-length notes)

pub few-notes : (core : Core) → IsGood core → length core.notes < 4294967296
few-notes core good = let a = good.nodes.many in let b = length-append (waiting_nodes core.workers) (noted_nodes core.notes) in
    let c = nodes-length core.notes in
    let d = parts-length (noted_tickets core.notes) in let e = good.tickets.many in
    let f = length-append (held_tickets core.workers) (noted_tickets core.notes) in let g = good.limits.budget in omega arith
