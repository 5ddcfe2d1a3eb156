-- What holds after all events that can come.
use Rattle.std.specs.Prelude.{map, Result, Ok, Err, OnOk, OnErr, Contains, IsTrue}
use Rattle.std.proofs.Common.{◌≡◌, ◌⊎◌, ℕ, ℤ, zero, suc, ◌+◌, ◌-◌, ◌*◌, ◌<◌, ◌≤◌, eq-eqb, Bool, true≢false, Option, Some, None, List, [], ◌∷◌, ◌++◌, length, get_or, replicate, refl, sym, ap, ◌∙◌, subst, ⊎_elim, inl, inr, append_assoc, append-nil, arith}
use mathlib.Core.Logic.{dite}
use native.Mathlib.Decide.{ℕ_discrete}
use Rattle.std.specs.List.{flat_map}
use Rattle.std.specs.Option.{option_to_list}
use Rattle.std.proofs.lemmas.Option.{none-some, same_Some}
use Rattle.std.proofs.lemmas.Int.{ints}
use Rattle.std.proofs.lemmas.List.{get_or-replicate, length-replicate}
use Rattle.std.proofs.lemmas.List.Elements.{Contains-push}
use Rattle.std.proofs.lemmas.Bool.{ltb-true}
use Rattle.number_counts.specs.Counts.{times, HasEachBelow}
use Rattle.number_counts.proofs.CountLaws.{one-same, one-other, each_below-none}
use Rattle.number_laws.specs.Missing.{IsAtMost, greater}
use Rattle.number_laws.proofs.MissingLaws.{IsAtMost-trans, IsGreaterOf-greater}
use Rattle.work_chains.specs.Chains.{Reaches, at_root, at_left, at_right, inner_note, ids_of, tickets_of, no_task, in_hand}
use Rattle.work_chains.specs.NodeChains.{Nothing, NodeNote, AreNodeChains, AreSettledNodes}
use Rattle.number_counts.proofs.Members.{among-none, among-first, among-rest, among-which, among-last, among-longer}
use Rattle.work_chains.proofs.NodeNumbers.{lefts, rights, nodes-below}
use Rattle.search_core.specs.declared.note.CoreNote.{CoreNote}
use Rattle.search_core.specs.declared.event.Event.{Event}
use Rattle.search_core.specs.declared.event.Event.TheVariants.{Take, Steal, Ticket, Split, Close, Offer, See, PushCut}
use Rattle.search_core.specs.declared.worker.Worker.{Worker}
use Rattle.search_core.specs.Cores.{Core, fresh_worker, first_core, worker_at, tickets_given, node_notes, nodes_of, held_tickets, noted_tickets, waiting_nodes, noted_nodes, part_nodes, notes_by, node_note, outcome_of}
use Rattle.search_core.specs.Events.{is_enabled, is_known, after}
use Rattle.search_core.specs.Good.{spent_count, IsGoodWorker, IsGood}
use Rattle.search_core.specs.Laws.{IsRun, offers_of, IsGreatest, IsIdle, HasSpent, RunsAreGood}
use Rattle.search_core.proofs.CoreLists.{and-is, none-is, not-is}
use Rattle.search_core.proofs.EventLaws.{take-good, steal-good, draw-good, split-good, close-good, offer-good, see-good, cut-good}

known-is : (core : Core) (w : ℕ) → IsTrue (is_known core w) → w < length core.workers
known-is core w is_so = ltb-true w (length core.workers) is_so

pub good-after : (core : Core) (event : Event) → IsGood core → IsTrue (is_enabled core event) → IsGood (after core event)
good-after core (Take w) good can = let both = and-is _ _ can in take-good core good w (known-is core w both.0) both.1
good-after core (Steal w from) good can =
    let a = and-is _ _ can in let b = and-is _ _ a.0 in let c = and-is _ _ b.0 in let d = and-is _ _ c.0 in
    steal-good core good w (known-is core w d.0) from (known-is core from d.1) (λ is. true≢false (sym (eq-eqb w from is) ∙ not-is _ c.1)) (none-is _ b.1) a.1
good-after core (Ticket w) good can = let both = and-is _ _ can in draw-good core good w (known-is core w both.0) both.1
good-after core (Split w to_kept) good can = let both = and-is _ _ can in split-good core good w (known-is core w both.0) to_kept both.1
good-after core (Close w) good can = let both = and-is _ _ can in close-good core good w (known-is core w both.0) both.1
good-after core (Offer w margin) good can = offer-good core good w (known-is core w can) margin
good-after core (See w) good can = see-good core good w (known-is core w can)
good-after core (PushCut w) good can = let both = and-is _ _ can in cut-good core good w (known-is core w both.0) (ltb-true _ _ both.1)

-- ---- the first core

flat-fresh : (f : Worker → List ℕ) (n : ℕ) → f (fresh_worker None) ≡ [] → flat_map f (replicate n (fresh_worker None)) ≡ []
flat-fresh f zero none = refl
flat-fresh f (suc n) none = ap (λ (l : List ℕ). l ++ flat_map f (replicate n (fresh_worker None))) none ∙ flat-fresh f n none

fresh-good : (core : Core) (w : ℕ) (hand : Option ℕ) → core.notes ≡ [] → core.counter ≡ 0 → IsGoodWorker core w (fresh_worker hand)
fresh-good core w None noted _ = record {
  full = λ t has. absurd (none-some t has);
  spent = λ e. absurd (true≢false (sym e));
  offered = tt;
  seen = tt;
  cuts = omega arith;
  chains = record { taken = []; handed = []; chains = subst (λ (ns : List CoreNote). AreNodeChains [] (notes_by w ns) [] None) (sym noted) no_task };
}
fresh-good core w (Some id) noted _ = record {
  full = λ t has. absurd (none-some t has);
  spent = λ e. absurd (true≢false (sym e));
  offered = tt;
  seen = tt;
  cuts = omega arith;
  chains = record {
    taken = (id, tt) ∷ [];
    handed = [];
    chains = subst
        (λ (ns : List CoreNote). AreNodeChains ((id, tt) ∷ []) (notes_by w ns) [] (Some (id, tt))) (sym noted) (in_hand (id, tt));
  };
}

module _ (workers budget : ℕ) (some : 1 ≤ workers) (most : workers ≤ 17) (few : budget ≤ 65535) where
  abbrev first : Core
  first = first_core workers budget

  abbrev rest : List Worker
  rest = replicate (workers - 1) (fresh_worker None)

  first-worker : (w : ℕ) → w < length first.workers → IsGoodWorker first w (worker_at first w)
  first-worker zero lt = fresh-good first 0 (Some 0) refl refl
  first-worker (suc w) lt = let long = length-replicate (workers - 1) (fresh_worker None) in
      subst (IsGoodWorker first (suc w)) (sym (get_or-replicate (workers - 1) w (fresh_worker None) (fresh_worker None) (omega arith)))
      (fresh-good first (suc w) None refl refl)

  spent-none : (n : ℕ) → spent_count (replicate n (fresh_worker None)) ≡ 0
  spent-none zero = refl
  spent-none (suc n) = let more = spent-none n in omega arith

  pub first-good : IsGood first
  first-good = let none_held : held_tickets first.workers ≡ [] = flat-fresh (λ (u : Worker). option_to_list u.ticket) (workers - 1) refl in
      let one_waits : waiting_nodes first.workers ≡ 0 ∷ [] = ap (λ (l : List ℕ). 0 ∷ l) (flat-fresh nodes_of (workers - 1) refl) in
      let long = length-replicate (workers - 1) (fresh_worker None) in let none_given : 0 ≡ tickets_given first = omega arith in record {
        limits = record { some_workers = omega arith; most_workers = omega arith; budget = omega arith };
        tickets = record {
          each = subst (λ (y : ℕ × List ℕ). HasEachBelow y.0 (y.1 ++ [])) (λ i. (none_given i, sym none_held i)) each_below-none;
          many = ap (λ (l : List ℕ). length (l ++ [])) none_held ∙ none_given;
          drawn = omega arith;
        };
        nodes = record {
          each = λ x. ap (λ (l : List ℕ). times x (l ++ [])) one_waits;
          many = ap (λ (l : List ℕ). length (l ++ [])) one_waits;
          parents_first = λ note t among has. absurd (among-none note among);
        };
        workers = first-worker;
        best = inl refl;
      }

-- ---- the best of all offers

greatest-more : (best : Option ℤ) (margins : List ℤ) (m : ℤ) → IsGreatest best margins → IsGreatest (greater best (Some m)) (margins ++ m ∷ [])
greatest-more None margins m none = subst (λ (ms : List ℤ). IsGreatest (Some m) (ms ++ m ∷ [])) (sym none)
    (among-first m [], λ x there. ⊎_elim (λ (is : x ≡ m). omega (arith, ints)) (λ nowhere. absurd (among-none x nowhere)) (among-which m [] x there))
greatest-more (Some b) margins m is = let new = IsGreaterOf-greater (Some b) (Some m) in (
  ⊎_elim
      (λ (same : greater (Some b) (Some m) ≡ Some b). subst (λ (z : ℤ). Contains (margins ++ m ∷ []) z) (sym (same_Some _ _ same)) (among-longer margins m b is.0))
      (λ (same : greater (Some b) (Some m) ≡ Some m). subst (λ (z : ℤ). Contains (margins ++ m ∷ []) z) (sym (same_Some _ _ same)) (Contains-push margins m))
      new.either,
  λ x there. ⊎_elim
      (λ was. IsAtMost-trans (Some x) (Some b) (greater (Some b) (Some m)) (is.1 x was) new.first)
      (λ (e : x ≡ m). subst (λ (z : ℤ). IsAtMost (Some z) (greater (Some b) (Some m))) (sym e) new.second)
      (among-last margins m x there),
)

-- ---- runs

run-good : (core end : Core) (events : List Event) → IsGood core → IsRun core events end → IsGood end
run-good core end [] good run = subst IsGood run good
run-good core end (event ∷ events) good run = run-good (after core event) end events (good-after core event good run.0) run.1

-- ---- what is left where nothing waits

parts-count : (x : ℕ) (ts : List ℕ) → times x (part_nodes ts) ≡ rights x ts + lefts x ts
parts-count x [] = refl
parts-count x (t ∷ ts) = let more = parts-count x ts in omega arith

ids-noted : (notes : List CoreNote) → ids_of (node_notes notes) ≡ noted_nodes notes
ids-noted [] = refl
ids-noted (n ∷ notes) = ap (λ (l : List ℕ). n.id ∷ l) (ids-noted notes)

tickets-noted : (notes : List CoreNote) → tickets_of (node_notes notes) ≡ noted_tickets notes
tickets-noted [] = refl
tickets-noted (n ∷ notes) = and-ticket n.ticket (tickets-noted notes)
  where
    and-ticket : (o : Option ℕ) → tickets_of (node_notes notes) ≡ noted_tickets notes
        → tickets_of (record { id = n.id; box = tt; outcome = outcome_of o } ∷ node_notes notes) ≡ option_to_list o ++ noted_tickets notes
    and-ticket None e = e
    and-ticket (Some t) e = ap (λ (l : List ℕ). t ∷ l) e

-- a part under some of the tickets
part-of : (x : ℕ) (ts : List ℕ) → 0 < times x (part_nodes ts) → (t : ℕ) × Contains ts t × ((x ≡ 2 * t + 1) ⊎ (x ≡ 2 * t + 2))
part-of x [] some = absurd (omega arith)
part-of x (t ∷ ts) some = dite (ℕ_discrete x (2 * t + 1)) (λ e. (t, among-first t ts, inl e))
    (λ ne. dite (ℕ_discrete x (2 * t + 2)) (λ e. (t, among-first t ts, inr e))
    (λ ne'. let a = one-other x (2 * t + 1) ne in let b = one-other x (2 * t + 2) ne' in let more = part-of x ts (omega arith) in
    (more.0, among-rest t ts more.0 more.1, more.2)))

-- it is the ticket of this note, or of a later one
this-or-later : (n : CoreNote) (notes : List CoreNote) (t : ℕ) (o : Option ℕ) → n.ticket ≡ o
    → (Contains (noted_tickets notes) t → (m : CoreNote) × Contains (n ∷ notes) m × (m.ticket ≡ Some t))
    → Contains (option_to_list o ++ noted_tickets notes) t → (m : CoreNote) × Contains (n ∷ notes) m × (m.ticket ≡ Some t)
this-or-later n notes t None is later there = later there
this-or-later n notes t (Some s) is later there =
    ⊎_elim (λ (e : t ≡ s). (n, among-first n notes, is ∙ ap Some (sym e))) later (among-which s (noted_tickets notes) t there)

-- a noted ticket has its note
note-of : (notes : List CoreNote) (t : ℕ) → Contains (noted_tickets notes) t → (n : CoreNote) × Contains notes n × (n.ticket ≡ Some t)
note-of [] t among = absurd (among-none t among)
note-of (n ∷ notes) t among = this-or-later n notes t n.ticket refl
    (λ there. let more = note-of notes t there in (more.0, among-rest n notes more.0 more.1, more.2)) among

-- a note has its number among the noted nodes
noted-once : (notes : List CoreNote) (n : CoreNote) → Contains notes n → 0 < times n.id (noted_nodes notes)
noted-once [] n among = absurd (among-none n among)
noted-once (m ∷ notes) n among = ⊎_elim (λ (is : n ≡ m). let a = one-same n.id m.id (ap (λ (k : CoreNote). k.id) is) in omega arith)
    (λ there. let more = noted-once notes n there in omega arith) (among-which m notes n among)

among-map : {X A : Type 0} (f : X → A) (xs : List X) (x : X) → Contains xs x → Contains (map f xs) (f x)
among-map f [] x among = absurd (among-none x among)
among-map f (y ∷ ys) x among = ⊎_elim (λ (is : x ≡ y). subst (λ (z : _). Contains (f y ∷ map f ys) (f z)) (sym is) (among-first (f y) (map f ys)))
    (λ there. among-rest (f y) (map f ys) (f x) (among-map f ys x there)) (among-which y ys x among)

module _ (core : Core) (good : IsGood core) (idle : IsIdle core) where
  empty-hand : (o : Option ℕ) (kept deck : List ℕ) → option_to_list o ++ kept ++ deck ≡ [] → o ≡ None
  empty-hand None kept deck e = refl
  empty-hand (Some x) kept deck e = let l : length (option_to_list (Some x) ++ kept ++ deck) ≡ 0 = ap length e in absurd (omega arith)

  no-ticket : (o : Option ℕ) → ((t : ℕ) → o ≡ Some t → ⊥) → option_to_list o ≡ []
  no-ticket None never = refl
  no-ticket (Some t) never = absurd (never t refl)

  flat-none : (f : Worker → List ℕ) (ws : List Worker) → ((w : ℕ) → w < length ws → f (get_or ws w (fresh_worker None)) ≡ []) → flat_map f ws ≡ []
  flat-none f [] none = refl
  flat-none f (u ∷ ws) none = ap (λ (l : List ℕ). l ++ flat_map f ws) (none 0 (omega arith)) ∙ flat-none f ws (λ w lt. none (suc w) (omega arith))

  none-waits : waiting_nodes core.workers ≡ []
  none-waits = flat-none nodes_of core.workers idle

  none-held : held_tickets core.workers ≡ []
  none-held = flat-none (λ (u : Worker). option_to_list u.ticket) core.workers
      (λ w lt. no-ticket (worker_at core w).ticket
      (λ t has. let full = (good.workers w lt).full t has in none-some full.0 (sym (empty-hand (worker_at core w).hand _ _ (idle w lt))
      ∙ full.1)))

  all-tickets : HasEachBelow (tickets_given core) (noted_tickets core.notes)
  all-tickets = subst (λ (l : List ℕ). HasEachBelow (tickets_given core) (l ++ noted_tickets core.notes)) none-held good.tickets.each

  all-nodes : (x : ℕ) → times x (noted_nodes core.notes) ≡ times x (0 ∷ part_nodes (noted_tickets core.notes))
  all-nodes x = sym (ap (λ (l : List ℕ). times x (l ++ noted_nodes core.notes)) none-waits) ∙ good.nodes.each x

  abbrev Reached : ℕ → Type 0
  Reached x = Reaches {S = Nothing} (λ _ _. tt) (λ _ _. tt) tt (node_notes core.notes) x tt

  -- the holder of the ticket of a part has a lesser number
  reaches : (fuel x : ℕ) → x < fuel → 0 < times x (0 ∷ part_nodes (noted_tickets core.notes)) → Reached x
  reaches zero x lt some = absurd (omega arith)
  reaches (suc fuel) x lt some = dite (ℕ_discrete x 0)
      (λ z. subst Reached (sym z) at_root)
      (λ nz. let a = one-other x 0 nz in let p = part-of x (noted_tickets core.notes) (omega arith) in let n = note-of core.notes p.0 p.1 in
      let before = good.nodes.parents_first n.0 p.0 n.1 n.2 in let b = noted-once core.notes n.0 n.1 in let c = all-nodes n.0.id in
      let inner : Contains (node_notes core.notes) (inner_note n.0.id tt p.0 tt) =
      subst (λ (o : Option ℕ). Contains (node_notes core.notes) (record {
        id = n.0.id;
        box = tt;
        outcome = outcome_of o;
      })) n.2 (among-map node_note core.notes n.0 n.1) in
      ⊎_elim
      (λ (is : x ≡ 2 * p.0 + 1). subst Reached (sym is) (at_left n.0.id tt p.0 tt (reaches fuel n.0.id (omega arith) (omega arith)) inner))
      (λ (is : x ≡ 2 * p.0 + 2). subst Reached (sym is) (at_right n.0.id tt p.0 tt (reaches fuel n.0.id (omega arith) (omega arith)) inner))
      p.2)

  node-count : (ids : List ℕ) (x y : ℕ) (among : Contains ids x) → 0 < times x ids
  node-count [] x y among = absurd (among-none x among)
  node-count (i ∷ ids) x y among = ⊎_elim (λ (is : x ≡ i). let a = one-same x i is in omega arith)
      (λ there. let more = node-count ids x y there in omega arith) (among-which i ids x among)

  among-ids : (notes : List NodeNote) (n : NodeNote) → Contains notes n → Contains (ids_of notes) n.id
  among-ids [] n among = absurd (among-none n among)
  among-ids (m ∷ notes) n among = ⊎_elim (λ (is : n ≡ m). subst (λ (k : ℕ). Contains (m.id ∷ ids_of notes) k) (sym (ap
      (λ (k : NodeNote). k.id) is)) (among-first m.id (ids_of notes)))
      (λ there. among-rest m.id (ids_of notes) n.id (among-ids notes n there)) (among-which m notes n among)

  pub settled-of : AreSettledNodes (node_notes core.notes) (tickets_given core)
  settled-of = let ids = ids-noted core.notes in record {
    ids = nodes-below (tickets_given core) (noted_tickets core.notes) all-tickets (ids_of (node_notes core.notes))
        (λ x. let a = all-nodes x in let b = parts-count x (noted_tickets core.notes) in
        let c : times x (ids_of (node_notes core.notes)) ≡ times x (noted_nodes core.notes) = ap (times x) ids in omega arith);
    tickets = subst (HasEachBelow (tickets_given core)) (sym (tickets-noted core.notes)) all-tickets;
    reached = λ n among. let a = node-count (ids_of (node_notes core.notes)) n.id 0 (among-ids (node_notes core.notes) n among) in
        let b : times n.id (ids_of (node_notes core.notes)) ≡ times n.id (noted_nodes core.notes) = ap (times n.id) ids in let c = all-nodes n.id in
        reaches (suc n.id) n.id (omega arith) (omega arith);
  }

pub spent-all : (core : Core) → IsGood core → HasSpent core → tickets_given core ≡ core.budget
spent-all core good spent = let a = (good.workers spent.0 spent.1).spent spent.2 in omega arith

-- the best is the greatest of the margins before and of those that the events offer
run-best : (core end : Core) (events : List Event) (before : List ℤ) → IsGreatest core.best before → IsRun core events end
    → IsGreatest end.best (before ++ offers_of events)
run-best core end [] before is run = subst (λ (y : Core × List ℤ). IsGreatest y.0.best y.1) (λ i. (run i, sym (append-nil before) i)) is
run-best core end (Offer w m ∷ events) before is run = subst (IsGreatest end.best) (append_assoc before (m ∷ []) (offers_of events))
    (run-best (after core (Offer w m)) end events (before ++ m ∷ []) (greatest-more core.best before m is) run.1)
run-best core end (Take w ∷ events) before is run = run-best (after core (Take w)) end events before is run.1
run-best core end (Steal w from ∷ events) before is run = run-best (after core (Steal w from)) end events before is run.1
run-best core end (Ticket w ∷ events) before is run = run-best (after core (Ticket w)) end events before is run.1
run-best core end (Split w to_kept ∷ events) before is run = run-best (after core (Split w to_kept)) end events before is run.1
run-best core end (Close w ∷ events) before is run = run-best (after core (Close w)) end events before is run.1
run-best core end (See w ∷ events) before is run = run-best (after core (See w)) end events before is run.1
run-best core end (PushCut w ∷ events) before is run = run-best (after core (PushCut w)) end events before is run.1

pub runs-are-good : RunsAreGood
runs-are-good workers budget events core some most few run = let good = run-good (first_core workers budget) core events
    (first-good workers budget some most few) run in record {
      good = good;
      best = run-best (first_core workers budget) core events [] refl run;
      spent = spent-all core good;
      settled = settled-of core good;
    }

-- ---- what the code asks

pub split-known : (core : Core) (event : Event) (w : ℕ) (to_kept : Bool) → event ≡ Split w to_kept → IsTrue (is_enabled core event) → w < length core.workers
split-known core event w to_kept is can = known-is core w (and-is _ _ (subst (λ (e : Event). IsTrue (is_enabled core e)) is can)).0

-- whether the event came or was refused for want of memory, the core is good
pub good-either : {X : Type 0} (result : Result (Unit {0}) X) (core new : Core) (event : Event) → IsGood core → IsTrue (is_enabled core event)
    → OnOk result (new ≡ after core event) → OnErr result (new ≡ core) → IsGood new
good-either (Ok u) core new event good can ok err = subst IsGood (sym ok) (good-after core event good can)
good-either (Err e) core new event good can ok err = subst IsGood (sym err) good
