-- The boxes that nodes get from the inner nodes met before them are those of the search tree.
use Rattle.std.proofs.Common.{◌≡◌, ℕ, zero, suc, inl, inr, ◌+◌, ◌-◌, ◌*◌, ◌/◌, ◌%◌, ◌<◌, true, Option, Some, None, List, [], ◌∷◌, length, drop, refl, sym, ap, ◌∙◌, subst, arith}
use Rattle.std.specs.Prelude.{◌⊎◌, ◌==◌, slice_get, option_map}
use Rattle.std.specs.Option.{is_some}
use Rattle.std.proofs.lemmas.Bool.{cases_Bool, cases_eq, cond-true, cond-false, eq-eqb, ne_eqb, eqb-true}
use Rattle.slot_box.specs.declared.node.Node.{Node}
use Rattle.slot_box.specs.declared.node.Node.TheVariants.{Inner, Leaf}
use Rattle.slot_box.specs.declared.slot.Slot.{Slot}
use Rattle.slot_box.specs.declared.split.Split.{Split}
use Rattle.slot_box.specs.Nodes.{IsInner}
use Rattle.slot_box.specs.Splits.{left_of, right_of}
use Rattle.slot_box.specs.Trees.{HasBox, root_box, left_part, right_part}
use Rattle.dossier_check.specs.Earlier.{Holder, holder_of, is_held, part_for, box_of, with_node}

-- ---- lists and options

pub mapped : {X Y : Type 0} (f : X → Y) (found : Option X) (y : Y) → option_map f found ≡ Some y → (x : X) × (found ≡ Some x) × (f x ≡ y)
mapped f None y is = absurd (cc)
mapped f (Some x) y is = (x, refl, cc)

pub some_there : {X : Type 0} (found : Option X) → is_some found ≡ true → (x : X) × (found ≡ Some x)
some_there None is = absurd (cc)
some_there (Some x) is = (x, refl)

-- a place within a list has an item, with which the rest of the list begins
pub item_at : {X : Type 0} (xs : List X) (i : ℕ) → i < length xs → (x : X) × (slice_get xs i ≡ Some x) × (drop i xs ≡ x ∷ drop (suc i) xs)
item_at [] i within = absurd (omega arith)
item_at (x ∷ xs) zero within = (x, refl, refl)
item_at (x ∷ xs) (suc i) within = item_at xs i (omega arith)

pub rest_at : {X : Type 0} (xs : List X) (i : ℕ) (x : X) (rest : List X) → drop i xs ≡ x ∷ rest → (slice_get xs i ≡ Some x) × (drop (suc i) xs ≡ rest)
rest_at [] zero x rest is = absurd (cc)
rest_at [] (suc i) x rest is = absurd (cc)
rest_at (y ∷ xs) zero x rest is = (cc, cc)
rest_at (y ∷ xs) (suc i) x rest is = rest_at xs i x rest is

-- ---- children

-- a node other than node 0 is the left or the right child of one ticket
pub child_parity : (id : ℕ) → 0 < id → (id ≡ 2 * ((id - 1) / 2) + 1) ⊎ (id ≡ 2 * ((id - 1) / 2) + 2)
child_parity id past =
    let half : 2 * ((id - 1) / 2) + (id - 1) % 2 ≡ id - 1 = omega arith in
    let less : (id - 1) % 2 < 2 = omega arith in
    elim (cases_eq ((id - 1) % 2) 0) [
      | inl even ↦ inl (omega arith)
      | inr odd ↦
          let some : 0 < (id - 1) % 2 = omega arith in inr (omega arith)
    ]

pub child_ticket : (id ticket : ℕ) → (id ≡ 2 * ticket + 1) ⊎ (id ≡ 2 * ticket + 2) → (id - 1) / 2 ≡ ticket
child_ticket id ticket child =
    let half : 2 * ((id - 1) / 2) + (id - 1) % 2 ≡ id - 1 = omega arith in
    let less : (id - 1) % 2 < 2 = omega arith in
    elim child [
      | inl left ↦ omega arith
      | inr right ↦ omega arith
    ]

pub part_for-left : (id : ℕ) (holder : Holder) → id ≡ 2 * holder.ticket + 1 → part_for id holder ≡ left_of holder.box holder.split
part_for-left id holder is = cond-true (id == 2 * holder.ticket + 1) _ _ (eq-eqb id (2 * holder.ticket + 1) is)

pub part_for-right : (id : ℕ) (holder : Holder) → id ≡ 2 * holder.ticket + 2 → part_for id holder ≡ right_of holder.box holder.split
part_for-right id holder is = cond-false (id == 2 * holder.ticket + 1) _ _ (ne_eqb id (2 * holder.ticket + 1) (λ same. omega arith))

pub box_of-child : (root : List Slot) (earlier : List Holder) (id : ℕ) → 0 < id →
    box_of root earlier id ≡ option_map (part_for id) (holder_of ((id - 1) / 2) earlier)
box_of-child root earlier id past =
    cond-false (id == 0) (Some root) (option_map (part_for id) (holder_of ((id - 1) / 2) earlier)) (ne_eqb id 0 (λ same. omega arith))

-- ---- the inner nodes before an id

abbrev pub with_found : List Holder → Option (List Slot) → Option Node → List Holder
with_found earlier box None = earlier
with_found earlier box (Some node) = with_node earlier box node

abbrev pub holders : List Slot → List Node → ℕ → List Holder
holders root tree zero = []
holders root tree (suc id) = with_found (holders root tree id) (box_of root (holders root tree id) id) (slice_get tree id)

-- the box of a node, by those before it
abbrev pub box_at : List Slot → List Node → ℕ → Option (List Slot)
box_at root tree id = box_of root (holders root tree id) id

-- a node before the id holds the ticket, and has the holder's box
pub record IsHeld (root : List Slot) (tree : List Node) (id ticket : ℕ) (holder : Holder) : Type 0 where
  pub at : ℕ
  pub before : at < id
  pub node : IsInner tree at ticket holder.split
  pub box : box_at root tree at ≡ Some holder.box
  pub named : holder.ticket ≡ ticket

held_later : (root : List Slot) (tree : List Node) (id ticket : ℕ) (holder : Holder) → IsHeld root tree id ticket holder →
    IsHeld root tree (suc id) ticket holder
held_later root tree id ticket holder held =
    let before = held.before in
    record { at = held.at; before = omega arith; node = held.node; box = held.box; named = held.named }

held_step : (root : List Slot) (tree : List Node) (id ticket : ℕ) (holder : Holder) →
    (holder_of ticket (holders root tree id) ≡ Some holder → IsHeld root tree id ticket holder) →
    (box : Option (List Slot)) (node : Option Node) → box_at root tree id ≡ box → slice_get tree id ≡ node →
    holder_of ticket (with_found (holders root tree id) box node) ≡ Some holder → IsHeld root tree (suc id) ticket holder
held_step root tree id ticket holder rec box None has is found = held_later root tree id ticket holder (rec found)
held_step root tree id ticket holder rec None (Some node) has is found = held_later root tree id ticket holder (rec found)
held_step root tree id ticket holder rec (Some box) (Some (Leaf leaf)) has is found = held_later root tree id ticket holder (rec found)
held_step root tree id ticket holder rec (Some box) (Some (Inner t split)) has is found =
    let this : Holder = record { ticket = t; box = box; split = split } in
    elim (cases_Bool (t == ticket)) [
      | inl equal ↦
          let same : this ≡ holder = let first = cond-true (t == ticket) (Some this) (holder_of ticket (holders root tree id)) equal in cc in
          let made : IsHeld root tree (suc id) t this = record { at = id; before = omega arith; node = is; box = has; named = refl } in
          subst (IsHeld root tree (suc id) ticket) same (subst (λ k. IsHeld root tree (suc id) k this) (eqb-true t ticket equal) made)
      | inr unequal ↦ held_later root tree id ticket holder
          (rec (sym (cond-false (t == ticket) (Some this) (holder_of ticket (holders root tree id)) unequal) ∙ found))
    ]

-- who is found as the holder of a ticket holds it
pub held_is : (root : List Slot) (tree : List Node) (id ticket : ℕ) (holder : Holder) → holder_of ticket (holders root tree id) ≡ Some holder →
    IsHeld root tree id ticket holder
held_is root tree zero ticket holder found = absurd (cc)
held_is root tree (suc id) ticket holder found =
    held_step root tree id ticket holder (held_is root tree id ticket holder) (box_at root tree id) (slice_get tree id) refl refl found

-- the parent of a node other than node 0 that has a box
pub record HasParent (root : List Slot) (tree : List Node) (id : ℕ) (box : List Slot) : Type 0 where
  pub holder : Holder
  pub held : IsHeld root tree id ((id - 1) / 2) holder
  pub part : part_for id holder ≡ box

pub parent_of : (root : List Slot) (tree : List Node) (id : ℕ) (box : List Slot) → 0 < id → box_at root tree id ≡ Some box → HasParent root tree id box
parent_of root tree id box past has =
    let found = mapped (part_for id) (holder_of ((id - 1) / 2) (holders root tree id)) box (sym (box_of-child root (holders root tree id) id past) ∙ has) in
    record { holder = found.0; held = held_is root tree id ((id - 1) / 2) found.0 found.1; part = found.2 }

-- ---- boxes

has_box_within : (root : List Slot) (tree : List Node) (fuel id : ℕ) (box : List Slot) → id < fuel → box_at root tree id ≡ Some box →
    HasBox root (slice_get tree) id box
has_box_within root tree zero id box less has = absurd (omega arith)
has_box_within root tree (suc fuel) zero box less has = let same : root ≡ box = cc in subst (HasBox root (slice_get tree) 0) same root_box
has_box_within root tree (suc fuel) (suc n) box less has =
    let id = suc n in
    let past : 0 < suc n = omega arith in
    let parent : HasParent root tree (suc n) box = parent_of root tree (suc n) box past has in
    let holder = parent.holder in
    let held = parent.held in
    let before = held.before in
    let named = held.named in
    let whole = has_box_within root tree fuel held.at holder.box (omega arith) held.box in
    elim (child_parity (suc n) past) [
      | inl left ↦ subst (λ k. HasBox root (slice_get tree) k box) (sym left)
          (subst (HasBox root (slice_get tree) (2 * ((suc n - 1) / 2) + 1)) (sym (part_for-left (suc n) holder (omega arith)) ∙ parent.part)
          (left_part whole held.node))
      | inr right ↦ subst (λ k. HasBox root (slice_get tree) k box) (sym right)
          (subst (HasBox root (slice_get tree) (2 * ((suc n - 1) / 2) + 2)) (sym (part_for-right (suc n) holder (omega arith)) ∙ parent.part)
          (right_part whole held.node))
    ]

-- the box that a node gets is its box in the tree
pub has_box : (root : List Slot) (tree : List Node) (id : ℕ) (box : List Slot) → box_at root tree id ≡ Some box → HasBox root (slice_get tree) id box
has_box root tree id box has = has_box_within root tree (suc id) id box (omega arith) has

-- ---- a ticket that was held stays so

held_stays : (earlier : List Holder) (ticket : ℕ) (box : Option (List Slot)) (node : Option Node) → is_held ticket earlier ≡ true →
    is_held ticket (with_found earlier box node) ≡ true
held_stays earlier ticket box None is = is
held_stays earlier ticket None (Some node) is = is
held_stays earlier ticket (Some box) (Some (Leaf leaf)) is = is
held_stays earlier ticket (Some box) (Some (Inner t split)) is =
    elim (cases_Bool (t == ticket)) [
      | inl equal ↦ ap is_some (cond-true (t == ticket) (Some (record { ticket = t; box = box; split = split })) (holder_of ticket earlier) equal)
      | inr unequal ↦ ap is_some (cond-false (t == ticket) (Some (record { ticket = t; box = box; split = split })) (holder_of ticket earlier) unequal) ∙ is
    ]

pub held_after : (root : List Slot) (tree : List Node) (id at ticket : ℕ) (split : Split) (box : List Slot) → at < id → IsInner tree at ticket split →
    box_at root tree at ≡ Some box → is_held ticket (holders root tree id) ≡ true
held_after root tree zero at ticket split box before is has = absurd (omega arith)
held_after root tree (suc id) at ticket split box before is has =
    elim (cases_eq at id) [
      | inl same ↦
          let here : slice_get tree id ≡ Some (Inner ticket split) = subst (λ k. slice_get tree k ≡ Some (Inner ticket split)) same is in
          let there : box_at root tree id ≡ Some box = subst (λ k. box_at root tree k ≡ Some box) same has in
          ap (λ n. is_held ticket (with_found (holders root tree id) (box_at root tree id) n)) here
          ∙ ap (λ b. is_held ticket (with_found (holders root tree id) b (Some (Inner ticket split)))) there
          ∙ ap is_some (cond-true (ticket == ticket) (Some (record { ticket = ticket; box = box; split = split })) (holder_of ticket (holders root tree id))
          (eq-eqb ticket ticket refl))
      | inr other ↦
          let less : at < id = omega arith in
          held_stays (holders root tree id) ticket (box_at root tree id) (slice_get tree id) (held_after root tree id at ticket split box less is has)
    ]
