-- The tasks of a worker, step by step.
use Rattle.std.proofs.Common.{◌≡◌, ◌+◌, ◌≤◌, inl, inr, Option, Some, None, List, [], ◌∷◌, ◌++◌, length, map, ap, refl, sym, ◌∙◌, subst, arith}
use Rattle.std.specs.Prelude.{IsPermutation, IsSome, slice_index_or}
use Rattle.std.proofs.lemmas.List.{append_assoc, append-nil, length_push, map-append}
use Rattle.std.proofs.lemmas.List.Sorted.{IsPermutation-refl, IsPermutation-trans, IsPermutation-cons, IsPermutation-sym, IsPermutation-middle, IsPermutation-append_left, IsPermutation-append_right, IsPermutation-push_more, IsPermutation-map}
use Rattle.slot_box.specs.Tasks.{TaskParts}
use Rattle.task_deck.specs.declared.ends.DoorPass.{DoorPass}
use Rattle.task_deck.specs.declared.ends.Owner.{Owner}
use Rattle.work_chains.specs.BoxChains.{AreBoxChains, BoxTask, DividesBox}
use Rattle.work_chains.specs.Chains.{no_task}
use Rattle.work_chains.proofs.ChainLaws.{chains-take}
use Rattle.slot_box.specs.Splits.{left_of, right_of}
use Rattle.search_node.specs.Notes.{NoteOver, box_note}
use Rattle.branch_worker.specs.declared.worker.Worker.{Worker}
use Rattle.task_deck.specs.Accounts.{all_stolen}
use Rattle.branch_worker.specs.Work.{AreSamePasses, IsSameOwner, IsSamePass, box_task}
use Rattle.branch_worker.specs.inside.Working.{HandsOn, HasTasks, HaveSame, HasSameOwner, Start, came_to, popped_of, pushed_of}

-- ---- lists of the same tasks

-- a task at the end of both
pub have-push : (owner : Option Owner) (xs came kept : List BoxTask) (task : BoxTask) → HaveSame owner xs (came ++ kept) →
    HaveSame owner (xs ++ task ∷ []) (came ++ (kept ++ task ∷ []))
have-push None xs came kept task same = ap (λ (l : List BoxTask). l ++ task ∷ []) same ∙ append_assoc came kept (task ∷ [])
have-push (Some owner) xs came kept task same =
    subst (IsPermutation (xs ++ task ∷ [])) (append_assoc came kept (task ∷ [])) (IsPermutation-append_left (task ∷ []) xs (came ++ kept) same)

module _ {X : Type 0} where
  -- one at the end of the first, and before the end of the second
  pub permutation-insert : (xs came kept : List X) (x : X) → IsPermutation xs (came ++ kept) → IsPermutation (xs ++ x ∷ []) ((came ++ x ∷ []) ++ kept)
  permutation-insert xs came kept x same =
      IsPermutation-push_more xs (came ++ kept) ((came ++ x ∷ []) ++ kept) x same
      (subst (IsPermutation (x ∷ (came ++ kept))) (sym (append_assoc came (x ∷ []) kept))
      (IsPermutation-sym (came ++ x ∷ kept) (x ∷ (came ++ kept)) (IsPermutation-middle came x kept)))

  -- one that has come, and is taken before those that wait
  pub permutation-taken : (taken waiting came kept more : List X) (x : X) → IsPermutation (taken ++ waiting) (came ++ kept) → IsPermutation (came ++ x ∷ []) more →
      IsPermutation ((taken ++ x ∷ []) ++ waiting) (more ++ kept)
  permutation-taken taken waiting came kept more x same comes =
      let front : IsPermutation ((taken ++ x ∷ []) ++ waiting) (x ∷ (taken ++ waiting)) =
      subst (λ (l : List X). IsPermutation l (x ∷ (taken ++ waiting))) (sym (append_assoc taken (x ∷ []) waiting)) (IsPermutation-middle taken x waiting) in
      let back : IsPermutation (x ∷ (came ++ kept)) ((came ++ x ∷ []) ++ kept) =
      subst (IsPermutation (x ∷ (came ++ kept))) (sym (append_assoc came (x ∷ []) kept))
      (IsPermutation-sym (came ++ x ∷ kept) (x ∷ (came ++ kept)) (IsPermutation-middle came x kept)) in
      IsPermutation-trans ((taken ++ x ∷ []) ++ waiting) (x ∷ (taken ++ waiting)) (more ++ kept) front
      (IsPermutation-trans (x ∷ (taken ++ waiting)) (x ∷ (came ++ kept)) (more ++ kept) (IsPermutation-cons x (taken ++ waiting) (came ++ kept) same)
      (IsPermutation-trans (x ∷ (came ++ kept)) ((came ++ x ∷ []) ++ kept) (more ++ kept) back
      (IsPermutation-append_left kept (came ++ x ∷ []) more comes)))

-- ---- tasks that come

-- one that was popped
pub comes-popped : (first popped stolen : List TaskParts) (task : TaskParts) →
    IsPermutation ((first ++ popped ++ stolen) ++ task ∷ []) (first ++ (popped ++ task ∷ []) ++ stolen)
comes-popped first popped stolen task =
    subst (λ (l : List TaskParts). IsPermutation ((first ++ popped ++ stolen) ++ task ∷ []) (l ++ stolen)) (append_assoc first popped (task ∷ []))
    (permutation-insert (first ++ popped ++ stolen) (first ++ popped) stolen task (IsPermutation-refl (first ++ popped ++ stolen)))

-- one that came at the end of what was stolen
pub comes-stolen : (first popped stolen more : List TaskParts) (task : TaskParts) → IsPermutation (stolen ++ task ∷ []) more →
    IsPermutation ((first ++ popped ++ stolen) ++ task ∷ []) (first ++ popped ++ more)
comes-stolen first popped stolen more task comes =
    subst (λ (l : List TaskParts). IsPermutation l (first ++ popped ++ more)) (sym (append_assoc (first ++ popped) stolen (task ∷ [])))
    (IsPermutation-append_right (first ++ popped) (stolen ++ task ∷ []) more comes)

-- for chains, likewise
pub comes-boxed : (came more : List TaskParts) (task : TaskParts) → IsPermutation (came ++ task ∷ []) more →
    IsPermutation (map box_task came ++ box_task task ∷ []) (map box_task more)
comes-boxed came more task comes =
    subst (λ (l : List BoxTask). IsPermutation l (map box_task more)) (map-append box_task came (task ∷ [])) (IsPermutation-map box_task (came ++ task ∷ []) more comes)

-- ---- tasks that are handed on

kept-came : (owner : Option Owner) (taken : List BoxTask) (waiting came : List TaskParts) (kept : List BoxTask) (task : TaskParts) →
    HaveSame owner (taken ++ map box_task waiting) (map box_task came ++ kept) →
    HaveSame owner (taken ++ map box_task (waiting ++ task ∷ [])) (map box_task came ++ (kept ++ box_task task ∷ []))
kept-came owner taken waiting came kept task same =
    subst (λ (l : List BoxTask). HaveSame owner l (map box_task came ++ (kept ++ box_task task ∷ [])))
    (append_assoc taken (map box_task waiting) (box_task task ∷ []) ∙ ap (λ (l : List BoxTask). taken ++ l) (sym (map-append box_task waiting (task ∷ []))))
    (have-push owner (taken ++ map box_task waiting) (map box_task came) kept (box_task task) same)

went-pushed : (first old new : Option Owner) (handed kept : List BoxTask) (task : TaskParts) → HasSameOwner first old → HasSameOwner old new →
    pushed_of new ≡ pushed_of old ++ task ∷ [] → HaveSame first handed (map box_task (pushed_of old) ++ kept) →
    HaveSame first (handed ++ box_task task ∷ []) (map box_task (pushed_of new) ++ kept)
went-pushed None None None handed kept task a b is same = cc
went-pushed None None (Some new) handed kept task a b is same = absurd b
went-pushed None (Some old) new handed kept task a b is same = absurd a
went-pushed (Some first) old new handed kept task a b is same =
    subst (λ (l : List TaskParts). IsPermutation (handed ++ box_task task ∷ []) (map box_task l ++ kept)) (sym is)
    (subst (λ (l : List BoxTask). IsPermutation (handed ++ box_task task ∷ []) (l ++ kept)) (sym (map-append box_task (pushed_of old) (task ∷ [])))
    (permutation-insert handed (map box_task (pushed_of old)) kept (box_task task) same))

-- ---- the same deck

pub IsSameOwner-refl : (owner : Owner) → IsSameOwner owner owner
IsSameOwner-refl owner = record { deck = refl; passes = refl }

pub HasSameOwner-refl : (owner : Option Owner) → HasSameOwner owner owner
HasSameOwner-refl None = tt
HasSameOwner-refl (Some owner) = IsSameOwner-refl owner

pub HasSameOwner-trans : (first old new : Option Owner) → HasSameOwner first old → HasSameOwner old new → HasSameOwner first new
HasSameOwner-trans None None new a b = b
HasSameOwner-trans None (Some old) new a b = absurd a
HasSameOwner-trans (Some first) None new a b = absurd a
HasSameOwner-trans (Some first) (Some old) None a b = absurd b
HasSameOwner-trans (Some first) (Some old) (Some new) a b = record { deck = b.deck ∙ a.deck; passes = b.passes ∙ a.passes }

-- ---- all of it

-- the node in hand was divided: the left part goes on, the right part was handed on
pub HasTasks-handed : (start : Start) (old new : Worker) (over more : List NoteOver) (hand left right : TaskParts) (tasks : HasTasks start old over (Some hand)) →
    HandsOn right old new → new.passes ≡ old.passes →
    AreBoxChains tasks.taken (map box_note more) (tasks.handed ++ box_task right ∷ []) (Some (box_task left)) → HasTasks start new more (Some left)
HasTasks-handed start old new over more hand left right tasks on same chains = elim on.went [
  | inl pushed ↦ record {
    taken = tasks.taken;
    handed = tasks.handed ++ box_task right ∷ [];
    kept = tasks.kept;
    chains = chains;
    came = rw (pushed.0, came) tasks.came;
    went = went-pushed start.owner old.owner new.owner tasks.handed tasks.kept right tasks.owner on.owner pushed.1 tasks.went;
    owner = owner;
    passes = passes;
  }
  | inr kept ↦ record {
    taken = tasks.taken;
    handed = tasks.handed ++ box_task right ∷ [];
    kept = tasks.kept ++ box_task right ∷ [];
    chains = chains;
    came = rw (kept.0, came) (kept-came start.owner tasks.taken old.waiting (came_to start old) tasks.kept right tasks.came);
    went = rw kept.1 (have-push start.owner tasks.handed (map box_task (pushed_of old.owner)) tasks.kept (box_task right) tasks.went);
    owner = owner;
    passes = passes;
  }
]
  where
    came : came_to start new ≡ came_to start old
    came =
        ap (λ (l : List TaskParts). start.first ++ l ++ all_stolen new.passes) on.popped
        ∙ ap (λ (l : List DoorPass). start.first ++ popped_of old.owner ++ all_stolen l) same

    owner : HasSameOwner start.owner new.owner
    owner = HasSameOwner-trans start.owner old.owner new.owner tasks.owner on.owner

    passes : AreSamePasses start.passes new.passes
    passes = rw same tasks.passes

-- a task that waited is in hand
pub HasTasks-taken : (start : Start) (old new : Worker) (over : List NoteOver) (task : TaskParts) (tasks : HasTasks start old over None) →
    old.waiting ≡ task ∷ new.waiting → new.owner ≡ old.owner → new.passes ≡ old.passes → HasTasks start new over (Some task)
HasTasks-taken start old new over task tasks waiting owner passes = record {
  taken = tasks.taken ++ box_task task ∷ [];
  handed = tasks.handed;
  kept = tasks.kept;
  chains = chains-take DividesBox left_of right_of tasks.taken tasks.handed (map box_note over) (box_task task) tasks.chains;
  came = rw (owner, passes)
      (subst (λ (l : List BoxTask). HaveSame start.owner l (map box_task (came_to start old) ++ tasks.kept)) waits tasks.came);
  went = rw owner tasks.went;
  owner = rw owner tasks.owner;
  passes = rw passes tasks.passes;
}
  where
    waits : tasks.taken ++ map box_task old.waiting ≡ (tasks.taken ++ box_task task ∷ []) ++ map box_task new.waiting
    waits =
        ap (λ (l : List TaskParts). tasks.taken ++ map box_task l) waiting
        ∙ sym (append_assoc tasks.taken (box_task task ∷ []) (map box_task new.waiting))

came-outside : (owner : Option Owner) (taken waiting came kept more : List BoxTask) (task : BoxTask) → IsSome owner →
    HaveSame owner (taken ++ waiting) (came ++ kept) → IsPermutation (came ++ task ∷ []) more →
    HaveSame owner ((taken ++ task ∷ []) ++ waiting) (more ++ kept)
came-outside None taken waiting came kept more task some same comes = cc
came-outside (Some owner) taken waiting came kept more task some same comes = permutation-taken taken waiting came kept more task same comes

-- a task that came from a deck is in hand
pub HasTasks-come : (start : Start) (old new : Worker) (over : List NoteOver) (task : TaskParts) (tasks : HasTasks start old over None) → IsSome start.owner →
    new.waiting ≡ old.waiting → HasSameOwner start.owner new.owner → pushed_of new.owner ≡ pushed_of old.owner → AreSamePasses start.passes new.passes →
    IsPermutation (came_to start old ++ task ∷ []) (came_to start new) → HasTasks start new over (Some task)
HasTasks-come start old new over task tasks among waiting owner pushed passes comes = record {
  taken = tasks.taken ++ box_task task ∷ [];
  handed = tasks.handed;
  kept = tasks.kept;
  chains = chains-take DividesBox left_of right_of tasks.taken tasks.handed (map box_note over) (box_task task) tasks.chains;
  came = rw waiting
      (came-outside start.owner tasks.taken (map box_task old.waiting) (map box_task (came_to start old)) tasks.kept (map box_task (came_to start new))
      (box_task task) among tasks.came (comes-boxed (came_to start old) (came_to start new) task comes));
  went = rw pushed tasks.went;
  owner = owner;
  passes = passes;
}

-- nothing came
pub HasTasks-still : (start : Start) (old new : Worker) (over : List NoteOver) (tasks : HasTasks start old over None) → new.waiting ≡ old.waiting →
    HasSameOwner start.owner new.owner → pushed_of new.owner ≡ pushed_of old.owner → AreSamePasses start.passes new.passes →
    came_to start new ≡ came_to start old → HasTasks start new over None
HasTasks-still start old new over tasks waiting owner pushed passes came = record {
  taken = tasks.taken;
  handed = tasks.handed;
  kept = tasks.kept;
  chains = tasks.chains;
  came = rw (waiting, came) tasks.came;
  went = rw pushed tasks.went;
  owner = owner;
  passes = passes;
}

-- ---- in the beginning

pub IsSamePass-refl : (pass : DoorPass) → IsSamePass pass pass
IsSamePass-refl pass = record { deck = λ deck of. of; number = refl }

pub AreSamePasses-refl : (passes : List DoorPass) → AreSamePasses passes passes
AreSamePasses-refl passes = record { many = refl; each = λ i pass less. IsSamePass-refl (slice_index_or passes i pass) }

have-refl : (owner : Option Owner) (xs : List BoxTask) → HaveSame owner xs xs
have-refl None xs = refl
have-refl (Some owner) xs = IsPermutation-refl xs

pub HasTasks-begun : (start : Start) (worker : Worker) → start.first ≡ worker.waiting → start.owner ≡ worker.owner → start.passes ≡ worker.passes →
    popped_of worker.owner ≡ [] → pushed_of worker.owner ≡ [] → all_stolen worker.passes ≡ [] → HasTasks start worker [] None
HasTasks-begun start worker first owner passes popped pushed stolen = record {
  taken = [];
  handed = [];
  kept = [];
  chains = no_task;
  came = subst (HaveSame start.owner (map box_task worker.waiting)) all (have-refl start.owner (map box_task worker.waiting));
  went = rw pushed (have-refl start.owner []);
  owner = subst (λ (o : Option Owner). HasSameOwner start.owner o) owner (HasSameOwner-refl start.owner);
  passes = subst (AreSamePasses start.passes) passes (AreSamePasses-refl start.passes);
}
  where
    came : came_to start worker ≡ worker.waiting
    came = rw (first, popped, stolen) (append-nil (worker.waiting ++ []) ∙ append-nil worker.waiting)

    all : map box_task worker.waiting ≡ map box_task (came_to start worker) ++ []
    all = sym (append-nil (map box_task (came_to start worker)) ∙ ap (λ (l : List TaskParts). map box_task l) came)

-- ---- what waits

pub handed-waiting : (right : TaskParts) (old new : Worker) → HandsOn right old new → length new.waiting ≤ length old.waiting + 1
handed-waiting right old new on = elim on.went [
  | inl pushed ↦ (let same = ap (λ (l : List TaskParts). length l) pushed.0 in omega (arith, same))
  | inr kept ↦ (let same = ap (λ (l : List TaskParts). length l) kept.0 ∙ length_push old.waiting right in omega (arith, same))
]
