-- Where a worker finds its next task.
use Rattle.std.proofs.Common.{◌≡◌, ℕ, zero, suc, ◌+◌, ◌<◌, ◌≤◌, inl, inr, Bool, Option, Some, None, List, [], ◌∷◌, ◌++◌, length, take, drop, set, ap, refl, sym, ◌∙◌, subst, arith}
use Rattle.std.specs.Prelude.{◌⊎◌, IsPermutation, IsSome, MatchOption, slice_index_or}
use Rattle.std.proofs.lemmas.List.{append_assoc, length-set, get_or-set_same, get_or-set_other, get_or_default}
use Rattle.std.proofs.Math.Seq.{take-append_seam}
use Rattle.std.proofs.lemmas.List.Sorted.{IsPermutation-refl, IsPermutation-append_right}
use Rattle.std.proofs.lemmas.Bool.{cases_eq}
use Rattle.slot_box.specs.Tasks.{TaskParts}
use Rattle.task_deck.specs.declared.ends.Door.{Door}
use Rattle.task_deck.specs.declared.ends.DoorPass.{DoorPass}
use Rattle.task_deck.specs.declared.ends.Owner.{Owner}
use Rattle.task_deck.specs.declared.ends.Stolen.{Stolen}
use Rattle.task_deck.specs.Steals.{MatchStolen}
use Rattle.task_deck.specs.Decks.{DeckId, IsPassOfDeck, OwnerView, PassView, deck_behind, deck_of, owner_view, pass_view}
use Rattle.branch_worker.specs.declared.worker.Worker.{Worker}
use Rattle.branch_worker.specs.Sites.{ArePassesOfOthers}
use Rattle.task_deck.specs.Accounts.{all_stolen}
use Rattle.branch_worker.specs.Work.{AreSamePasses, IsSamePass}
use Rattle.branch_worker.specs.inside.Working.{HasTasks, HasSameOwner, IsWorking, Start, popped_of, pushed_of}
use Rattle.branch_worker.proofs.TaskLaws.{HasSameOwner-trans, HasTasks-come, HasTasks-still, HasTasks-taken, comes-popped, comes-stolen, permutation-insert}

-- ---- a worker whose tasks alone have changed

pub IsWorking-moved : (start : Start) (worker : Worker) (waiting : List TaskParts) (owner : Option Owner) (passes : List DoorPass) (busy : Bool)
    (next : Option TaskParts) (working : IsWorking start worker None None) →
    HasTasks start (record worker { waiting = waiting; owner = owner; passes = passes; busy = busy }) working.over next →
    IsWorking start (record worker { waiting = waiting; owner = owner; passes = passes; busy = busy }) next None
IsWorking-moved start worker waiting owner passes busy next working tasks = record {
  over = working.over;
  notes = working.notes;
  tasks = tasks;
  tickets = working.tickets;
  drawn = working.drawn;
  seat = working.seat;
  true_notes = working.true_notes;
  in_turn = working.in_turn;
  falling = working.falling;
  goes_on = λ before last is inner. absurd (working.goes_on before last is inner);
  left = working.left;
  known = working.known;
  since = working.since;
  looks = working.looks;
  found = working.found;
  cuts = working.cuts;
}

-- a task that waited
pub IsWorking-taken : (start : Start) (worker : Worker) → IsWorking start worker None None → (task : TaskParts) (rest : List TaskParts) →
    worker.waiting ≡ task ∷ rest → IsWorking start (record worker { waiting = rest }) (Some task) None
IsWorking-taken start worker working task rest waiting =
    IsWorking-moved start worker rest worker.owner worker.passes worker.busy (Some task) working
    (HasTasks-taken start worker (record worker { waiting = rest }) working.over task working.tasks waiting refl refl)

-- whether it is busy does not count
pub IsWorking-said : (start : Start) (worker : Worker) (busy : Bool) → IsWorking start worker None None →
    IsWorking start (record worker { busy = busy }) None None
IsWorking-said start worker busy working =
    IsWorking-moved start worker worker.waiting worker.owner worker.passes busy None working
    (HasTasks-still start worker (record worker { busy = busy }) working.over working.tasks refl working.tasks.owner refl working.tasks.passes refl)

-- ---- its own deck

module _ (start : Start) (worker : Worker) (owner : Option Owner) (working : IsWorking start worker None None) (same : HasSameOwner worker.owner owner)
    (pushed : pushed_of owner ≡ pushed_of worker.owner) where
  abbrev new_worker : Worker
  new_worker = record worker { owner = owner }

  of_start : HasSameOwner start.owner owner
  of_start = HasSameOwner-trans start.owner worker.owner owner working.tasks.owner same

  -- it was empty
  pub IsWorking-not_popped : popped_of owner ≡ popped_of worker.owner → IsWorking start new_worker None None
  IsWorking-not_popped popped =
      IsWorking-moved start worker worker.waiting owner worker.passes worker.busy None working
      (HasTasks-still start worker new_worker working.over working.tasks refl of_start pushed working.tasks.passes
      (ap (λ (l : List TaskParts). start.first ++ l ++ all_stolen worker.passes) popped))

  -- it had a task
  pub IsWorking-popped : (task : TaskParts) → IsSome start.owner → popped_of owner ≡ popped_of worker.owner ++ task ∷ [] →
      IsWorking start new_worker (Some task) None
  IsWorking-popped task among popped =
      IsWorking-moved start worker worker.waiting owner worker.passes worker.busy (Some task) working
      (HasTasks-come start worker new_worker working.over task working.tasks among refl of_start pushed working.tasks.passes
      (rw popped (comes-popped start.first (popped_of worker.owner) (all_stolen worker.passes) task)))

has-owner : (first old : Option Owner) (owner : Owner) → HasSameOwner first old → old ≡ Some owner → IsSome first
has-owner None None owner same is = cc
has-owner None (Some old) owner same is = absurd same
has-owner (Some first) old owner same is = refl

pub IsWorking-pop : (start : Start) (worker : Worker) (owner new : Owner) (found : Option TaskParts) → IsWorking start worker None None →
    worker.owner ≡ Some owner → deck_of new ≡ deck_of owner →
    MatchOption found (owner_view new ≡ owner_view owner)
    (λ task. owner_view new ≡ record (owner_view owner) { popped = (owner_view owner).popped ++ task ∷ [] }) →
    IsWorking start (record worker { owner = Some new }) found None
IsWorking-pop start worker owner new None working is deck rule =
    IsWorking-not_popped start worker (Some new) working
    (subst (λ (o : Option Owner). HasSameOwner o (Some new)) (sym is) (record { deck = deck; passes = ap (λ (v : OwnerView). v.passes) rule }))
    (ap (λ (v : OwnerView). v.pushed) rule ∙ ap pushed_of (sym is)) (ap (λ (v : OwnerView). v.popped) rule ∙ ap popped_of (sym is))
IsWorking-pop start worker owner new (Some task) working is deck rule =
    IsWorking-popped start worker (Some new) working
    (subst (λ (o : Option Owner). HasSameOwner o (Some new)) (sym is) (record { deck = deck; passes = ap (λ (v : OwnerView). v.passes) rule }))
    (ap (λ (v : OwnerView). v.pushed) rule ∙ ap pushed_of (sym is)) task (has-owner start.owner worker.owner owner working.tasks.owner is)
    (ap (λ (v : OwnerView). v.popped) rule ∙ ap (λ (o : Option Owner). popped_of o ++ task ∷ []) (sym is))

-- ---- the decks of others

-- a pass of the same deck under the same number
pub same-pass : (deck : DeckId) (old new : DoorPass) → IsPassOfDeck deck old → IsPassOfDeck deck new → (pass_view new).number ≡ (pass_view old).number →
    IsSamePass old new
same-pass deck old new of_old of_new number = record {
  deck = λ other of. (of_new.0 ∙ sym of_old.0 ∙ of.0, of_new.1 ∙ sym of_old.1 ∙ of.1, of_new.2, of_new.3);
  number = number;
}

-- one pass of many
pub AreSamePasses-set : (first passes : List DoorPass) (place : ℕ) (new : DoorPass) → AreSamePasses first passes → place < length passes →
    ((pass : DoorPass) → IsSamePass (slice_index_or passes place pass) new) → AreSamePasses first (set passes place new)
AreSamePasses-set first passes place new same less is = record {
  many = length-set passes place new ∙ same.many;
  each = λ i pass below. elim (cases_eq i place) [
    | inl here ↦
        let before = same.each i pass below in
        let now = subst (λ (k : ℕ). IsSamePass (slice_index_or passes k pass) new) (sym here) (is pass) in
        subst (IsSamePass (slice_index_or first i pass))
        (sym (ap (λ (k : ℕ). slice_index_or (set passes place new) k pass) here ∙ get_or-set_same passes place new pass less))
        (record { deck = λ deck of. now.deck deck (before.deck deck of); number = now.number ∙ before.number })
    | inr apart ↦ subst (IsSamePass (slice_index_or first i pass)) (sym (get_or-set_other passes place i new pass apart)) (same.each i pass below)
  ];
}

-- where the pass brought a task
pub stolen-more : (passes : List DoorPass) (place : ℕ) (new : DoorPass) (task : TaskParts) → place < length passes →
    ((pass : DoorPass) → (pass_view new).stolen ≡ (pass_view (slice_index_or passes place pass)).stolen ++ task ∷ []) →
    IsPermutation (all_stolen passes ++ task ∷ []) (all_stolen (set passes place new))
stolen-more [] place new task less is = absurd (omega (arith, less))
stolen-more (pass ∷ passes) zero new task less is =
    subst (λ (l : List TaskParts). IsPermutation (((pass_view pass).stolen ++ all_stolen passes) ++ task ∷ []) (l ++ all_stolen passes)) (sym (is pass))
    (permutation-insert ((pass_view pass).stolen ++ all_stolen passes) (pass_view pass).stolen (all_stolen passes) task
    (IsPermutation-refl ((pass_view pass).stolen ++ all_stolen passes)))
stolen-more (pass ∷ passes) (suc place) new task less is =
    subst (λ (l : List TaskParts). IsPermutation l ((pass_view pass).stolen ++ all_stolen (set passes place new)))
    (sym (append_assoc (pass_view pass).stolen (all_stolen passes) (task ∷ [])))
    (IsPermutation-append_right (pass_view pass).stolen (all_stolen passes ++ task ∷ []) (all_stolen (set passes place new))
    (stolen-more passes place new task (omega (arith, less)) is))

-- where it did not
pub stolen-still : (passes : List DoorPass) (place : ℕ) (new : DoorPass) → place < length passes →
    ((pass : DoorPass) → (pass_view new).stolen ≡ (pass_view (slice_index_or passes place pass)).stolen) → all_stolen (set passes place new) ≡ all_stolen passes
stolen-still [] place new less is = absurd (omega (arith, less))
stolen-still (pass ∷ passes) zero new less is = ap (λ (l : List TaskParts). l ++ all_stolen passes) (is pass)
stolen-still (pass ∷ passes) (suc place) new less is =
    ap (λ (l : List TaskParts). (pass_view pass).stolen ++ l) (stolen-still passes place new (omega (arith, less)) is)

-- a list with one element written into it, as a slice gives it back
written : (passes : List DoorPass) (place : ℕ) (new : DoorPass) →
    take (length passes) (set passes place new ++ drop (length (set passes place new)) passes) ≡ set passes place new
written passes place new =
    ap (λ (n : ℕ). take n (set passes place new ++ drop (length (set passes place new)) passes)) (sym (length-set passes place new))
    ∙ take-append_seam (set passes place new) (drop (length (set passes place new)) passes)

-- a thief that comes away with nothing
pub nothing-stolen : (stolen : Stolen) (none : Type 0) (some : TaskParts → Type 0) → (stolen ≡ Stolen.Empty) ⊎ (stolen ≡ Stolen.Again) →
    MatchStolen stolen none some → none
nothing-stolen stolen none some is rule = elim is [
  | inl empty ↦ subst (λ (s : Stolen). MatchStolen s none some) empty rule
  | inr again ↦ subst (λ (s : Stolen). MatchStolen s none some) again rule
]

module _ (start : Start) (worker : Worker) (place : ℕ) (default new : DoorPass) (deck : DeckId) (working : IsWorking start worker None None)
    (less : place < length worker.passes) (of_old : IsPassOfDeck deck (slice_index_or worker.passes place default)) (of_new : IsPassOfDeck deck new) where
  abbrev old : DoorPass
  old = slice_index_or worker.passes place default

  abbrev new_passes : List DoorPass
  new_passes = set worker.passes place new

  abbrev thief : Worker
  thief = record worker { passes = new_passes }

  abbrev written_thief : Worker
  written_thief = record worker { passes = take (length worker.passes) (new_passes ++ drop (length new_passes) worker.passes) }

  there : (pass : DoorPass) → slice_index_or worker.passes place pass ≡ old
  there pass = get_or_default worker.passes place pass default less

  all_same : (pass_view new).number ≡ (pass_view old).number → AreSamePasses start.passes new_passes
  all_same number = AreSamePasses-set start.passes worker.passes place new working.tasks.passes less
      (λ pass. subst (λ (p : DoorPass). IsSamePass p new) (sym (there pass)) (same-pass deck old new of_old of_new number))

  -- nothing was stolen
  pub IsWorking-not_stolen : pass_view new ≡ pass_view old → IsWorking start written_thief None None
  IsWorking-not_stolen same =
      subst (λ (l : List DoorPass). IsWorking start (record worker { passes = l }) None None) (sym (written worker.passes place new))
      (IsWorking-moved start worker worker.waiting worker.owner new_passes worker.busy None working
      (HasTasks-still start worker thief working.over working.tasks refl working.tasks.owner refl (all_same (ap (λ (v : PassView). v.number) same))
      (ap (λ (l : List TaskParts). start.first ++ popped_of worker.owner ++ l) (stolen-still worker.passes place new less
      (λ pass. ap (λ (v : PassView). v.stolen) same ∙ ap (λ (p : DoorPass). (pass_view p).stolen) (sym (there pass)))))))

  -- a task was
  pub IsWorking-stolen : (task : TaskParts) → IsSome start.owner →
      pass_view new ≡ record (pass_view old) { stolen = (pass_view old).stolen ++ task ∷ [] } → IsWorking start written_thief (Some task) None
  IsWorking-stolen task among more =
      subst (λ (l : List DoorPass). IsWorking start (record worker { passes = l }) (Some task) None) (sym (written worker.passes place new))
      (IsWorking-moved start worker worker.waiting worker.owner new_passes worker.busy (Some task) working
      (HasTasks-come start worker thief working.over task working.tasks among refl working.tasks.owner refl (all_same (ap (λ (v : PassView). v.number) more))
      (comes-stolen start.first (popped_of worker.owner) (all_stolen worker.passes) (all_stolen new_passes) task
      (stolen-more worker.passes place new task less
      (λ pass. ap (λ (v : PassView). v.stolen) more ∙ ap (λ (p : DoorPass). (pass_view p).stolen ++ task ∷ []) (sym (there pass)))))))

-- ---- doors

-- the door behind which the deck of a pass lies
pub leads-to : (number place door : ℕ) (doors : List Door) (first passes : List DoorPass) (default : Door) (pass : DoorPass) →
    ArePassesOfOthers number doors first → AreSamePasses first passes → place < length passes →
    ((place < number) × (door ≡ place)) ⊎ ((number ≤ place) × (door ≡ place + 1)) →
    IsPassOfDeck (deck_behind (slice_index_or doors door default)) (slice_index_or passes place pass)
leads-to number place door doors first passes default pass of same less which =
    let many = same.many in
    let there : place < length first = omega (arith, many, less) in
    elim which [
      | inl before ↦ subst (λ (k : ℕ). IsPassOfDeck (deck_behind (slice_index_or doors k default)) (slice_index_or passes place pass)) (sym before.1)
          ((same.each place pass there).deck (deck_behind (slice_index_or doors place default)) (of.before place default pass there before.0))
      | inr after ↦ subst (λ (k : ℕ). IsPassOfDeck (deck_behind (slice_index_or doors k default)) (slice_index_or passes place pass)) (sym after.1)
          ((same.each place pass there).deck (deck_behind (slice_index_or doors (place + 1) default)) (of.after place default pass there after.0))
    ]
