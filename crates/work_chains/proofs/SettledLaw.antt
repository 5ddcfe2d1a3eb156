-- The notes of all chains are those of a whole search tree. Their numbers are right by counting; and from each note the
-- way goes up to the root, by notes whose boxes have more and more points.
use Rattle.std.proofs.Common.{◌≡◌, ◌⊎◌, ℕ, zero, suc, ◌+◌, ◌*◌, ◌<◌, ◌≤◌, max, None, Option, List, [], ◌∷◌, refl, sym, ap, subst, ⊎_elim, inl, inr, arith}
use Rattle.std.specs.Prelude.{Contains}
use Rattle.std.proofs.lemmas.Option.{none-some}
use Rattle.std.proofs.Math.Nat.{le-max_left, le-max_right}
use Rattle.slot_box.specs.Boxes.{points_of}
use Rattle.slot_box.specs.Splits.{left_of, right_of}
use Rattle.slot_box.proofs.TreeLaws.{IsBox-left_of, IsBox-right_of, points_of-split, points_of-box}
use Rattle.number_counts.specs.Counts.{times, HasEachBelow}
use Rattle.number_counts.proofs.Members.{among-none, among-first, among-rest, among-which}
use Rattle.work_chains.specs.Chains.{Noted, inner_note, leaf_note, ids_of, tickets_of, task_ids, AreChains, no_task, in_hand, closes, divides, Reaches, at_root, at_left, at_right, AreSettled, TakesAllHanded}
use Rattle.work_chains.specs.BoxChains.{DividesBox}
use Rattle.work_chains.specs.Laws.{ChainsSettle}
use Rattle.work_chains.proofs.NodeNumbers.{lefts, rights, nodes-below}

module _ {B S : Type 0} (Divides : B → S → Type 0) (left right : B → S → B) where
  abbrev Note : Type 0
  Note = Noted B S

  abbrev Chains : List (ℕ × B) → List Note → List (ℕ × B) → Option (ℕ × B) → Type 0
  Chains = AreChains Divides left right

  -- ---- how often a node is noted and handed on

  pub noted_ids : {taken : List (ℕ × B)} {notes : List Note} {handed : List (ℕ × B)} {hand : Option (ℕ × B)} → Chains taken notes handed hand
      → hand ≡ None → (x : ℕ)
      → times x (ids_of notes) ≡ times x (task_ids taken) + lefts x (tickets_of notes)
  noted_ids no_task ended x = refl
  noted_ids (in_hand task) ended x = absurd (none-some task (sym ended))
  noted_ids (closes id box chains) ended x = let rest = noted_ids chains ended x in omega arith
  noted_ids (divides id box ticket split lawful chains) ended x = let rest = noted_ids chains ended x in omega arith

  pub handed_ids : {taken : List (ℕ × B)} {notes : List Note} {handed : List (ℕ × B)} {hand : Option (ℕ × B)} → Chains taken notes handed hand → (x : ℕ)
      → times x (task_ids handed) ≡ rights x (tickets_of notes)
  handed_ids no_task x = refl
  handed_ids (in_hand task) x = refl
  handed_ids (closes id box chains) x = handed_ids chains x
  handed_ids (divides id box ticket split lawful chains) x = let rest = handed_ids chains x in omega arith

  -- ---- where a box comes from

  -- some note holds the ticket that gives the node its box
  record HasHolder (notes : List Note) (id : ℕ) (box : B) : Type 0 where
    holder : ℕ
    above : B
    ticket : ℕ
    split : S
    lawful : Divides above split
    noted : Contains notes (inner_note holder above ticket split)
    part : ((id ≡ 2 * ticket + 1) × (box ≡ left above split)) ⊎ ((id ≡ 2 * ticket + 2) × (box ≡ right above split))

  -- the first note holds it
  holder-first : (holder : ℕ) (above : B) (ticket : ℕ) (split : S) (notes : List Note) (id : ℕ) (box : B) → Divides above split →
      ((id ≡ 2 * ticket + 1) × (box ≡ left above split)) ⊎ ((id ≡ 2 * ticket + 2) × (box ≡ right above split)) →
      HasHolder (inner_note holder above ticket split ∷ notes) id box
  holder-first holder above ticket split notes id box lawful part = record {
    holder = holder;
    above = above;
    ticket = ticket;
    split = split;
    lawful = lawful;
    noted = among-first (inner_note holder above ticket split) notes;
    part = part;
  }

  holder-later : (note : Note) (notes : List Note) (id : ℕ) (box : B) → HasHolder notes id box → HasHolder (note ∷ notes) id box
  holder-later note notes id box has = record {
    holder = has.holder;
    above = has.above;
    ticket = has.ticket;
    split = has.split;
    lawful = has.lawful;
    noted = among-rest note notes _ has.noted;
    part = has.part;
  }

  handed_from : {taken : List (ℕ × B)} {notes : List Note} {handed : List (ℕ × B)} {hand : Option (ℕ × B)} → Chains taken notes handed hand
      → (task : ℕ × B) → Contains handed task → HasHolder notes task.0 task.1
  handed_from no_task task there = absurd (among-none task there)
  handed_from (in_hand first) task there = absurd (among-none task there)
  handed_from (closes id box chains) task there = holder-later _ _ _ _ (handed_from chains task there)
  handed_from (divides id box ticket split lawful chains) task there = ⊎_elim
      (λ (is : task ≡ (2 * ticket + 2, right box split)).
      holder-first id box ticket split _ _ _ lawful (inr (ap (λ (t : ℕ × B). t.0) is, ap (λ (t : ℕ × B). t.1) is)))
      (λ rest. holder-later _ _ _ _ (handed_from chains task rest))
      (among-which _ _ task there)

  noted_from : {taken : List (ℕ × B)} {notes : List Note} {handed : List (ℕ × B)} {hand : Option (ℕ × B)} → Chains taken notes handed hand
      → (note : Note) → Contains notes note → Contains taken (note.id, note.box) ⊎ HasHolder notes note.id note.box
  noted_from no_task note there = absurd (among-none note there)
  noted_from (in_hand task) note there = absurd (among-none note there)
  noted_from (closes id box {taken = taken} chains) note there = ⊎_elim
      (λ (is : note ≡ leaf_note id box). inl (subst (λ (n : Note). Contains ((id, box) ∷ taken) (n.id, n.box)) (sym is) (among-first _ _)))
      (λ rest. ⊎_elim (λ was. inl (among-rest _ _ _ was)) (λ has. inr (holder-later _ _ _ _ has)) (noted_from chains note rest))
      (among-which _ _ note there)
  noted_from (divides id box ticket split {taken = taken} lawful chains) note there = ⊎_elim
      (λ (is : note ≡ inner_note id box ticket split). inl (subst (λ (n : Note). Contains ((id, box) ∷ taken) (n.id, n.box)) (sym is) (among-first _ _)))
      (λ rest. ⊎_elim
      (λ was. ⊎_elim
      (λ (is : (note.id, note.box) ≡ (2 * ticket + 1, left box split)). inr (
      holder-first id box ticket split _ _ _ lawful (inl (ap (λ (t : ℕ × B). t.0) is, ap (λ (t : ℕ × B). t.1) is))))
      (λ more. inl (among-rest _ _ _ more))
      (among-which _ _ (note.id, note.box) was))
      (λ has. inr (holder-later _ _ _ _ has))
      (noted_from chains note rest))
      (among-which _ _ note there)

  -- ---- the way up

  module _ (size : B → ℕ) (fewer : (box : B) (split : S) → Divides box split → (size (left box split) < size box) × (size (right box split) < size box)) where
    -- the greatest size of a box in a note
    abbrev greatest : List Note → ℕ
    greatest [] = 0
    greatest (note ∷ notes) = max (size note.box) (greatest notes)

    at_most : (notes : List Note) (note : Note) → Contains notes note → size note.box ≤ greatest notes
    at_most [] note there = absurd (among-none note there)
    at_most (first ∷ notes) note there = ⊎_elim
        (λ (is : note ≡ first). let e : size note.box ≡ size first.box = ap (λ (n : Note). size n.box) is in
        let le = le-max_left (size first.box) (greatest notes) in omega arith)
        (λ rest. let le = at_most notes note rest in let more = le-max_right (size first.box) (greatest notes) in omega arith)
        (among-which first notes note there)

    module _ (root : B) (taken : List (ℕ × B)) (notes : List Note) (handed : List (ℕ × B)) (chains : Chains taken notes handed None)
        (all : TakesAllHanded root taken handed) where
      -- a note is that of the root, or its box is a part
      origin : (note : Note) → Contains notes note → ((note.id ≡ 0) × (note.box ≡ root)) ⊎ HasHolder notes note.id note.box
      origin note there = ⊎_elim
          (λ was. ⊎_elim
          (λ (is : (note.id, note.box) ≡ (0, root)). inl (ap (λ (t : ℕ × B). t.0) is, ap (λ (t : ℕ × B). t.1) is))
          (λ given. inr (handed_from chains (note.id, note.box) given))
          (all.tasks (note.id, note.box) was))
          (λ has. inr has)
          (noted_from chains note there)

      abbrev ReachesTask : ℕ × B → Type 0
      ReachesTask task = Reaches left right root notes task.0 task.1

      -- `fuel` steps up at most, since the boxes grow
      reaches : (fuel : ℕ) (note : Note) → Contains notes note → greatest notes < size note.box + fuel → ReachesTask (note.id, note.box)
      reaches zero note there lt = let le = at_most notes note there in absurd (omega arith)
      reaches (suc fuel) note there lt = ⊎_elim
          (λ (is : (note.id ≡ 0) × (note.box ≡ root)). subst ReachesTask (λ i. (sym is.0 i, sym is.1 i)) at_root)
          (λ (has : HasHolder notes note.id note.box). let less = fewer has.above has.split has.lawful in let l = less.0 in let r = less.1 in
          let up : Note = inner_note has.holder has.above has.ticket has.split in
          ⊎_elim
          (λ (is : (note.id ≡ 2 * has.ticket + 1) × (note.box ≡ left has.above has.split)). let same : size note.box ≡ size
          (left has.above has.split) = ap size is.1 in
          subst ReachesTask (λ i. (sym is.0 i, sym is.1 i)) (at_left has.holder has.above has.ticket has.split (reaches fuel up has.noted
          (omega arith)) has.noted))
          (λ (is : (note.id ≡ 2 * has.ticket + 2) × (note.box ≡ right has.above has.split)). let same : size note.box ≡ size
          (right has.above has.split) = ap size is.1 in
          subst ReachesTask (λ i. (sym is.0 i, sym is.1 i)) (at_right has.holder has.above has.ticket has.split (reaches fuel up has.noted
          (omega arith)) has.noted))
          has.part)
          (origin note there)

    pub settles : (root : B) (t : ℕ) (taken handed : List (ℕ × B)) (notes : List Note) → Chains taken notes handed None → TakesAllHanded root taken handed
        → HasEachBelow t (tickets_of notes) → AreSettled left right root notes t
    settles root t taken handed notes chains all tickets = record {
      ids = nodes-below t (tickets_of notes) tickets (ids_of notes) (λ x. let noted = noted_ids chains refl x in let given = handed_ids chains x in
          let counts = all.counts x in omega arith);
      tickets = tickets;
      reached = λ note there. reaches root taken notes handed chains all (suc (greatest notes)) note there (omega arith);
    }

-- ---- boxes of slots

pub chains-settle : ChainsSettle
chains-settle root t taken handed notes chains all tickets =
    settles DividesBox left_of right_of points_of
    (λ slots split divides. let sum = points_of-split slots split divides.box divides.lawful in
    let l = points_of-box _ (IsBox-left_of slots split divides.box divides.lawful) in
    let r = points_of-box _ (IsBox-right_of slots split divides.box divides.lawful) in (omega arith, omega arith))
    root t taken handed notes chains all tickets
