-- What is known when the automaton has read the operations to which the first slots are fixed.
use Rattle.std.proofs.Common.{◌≡◌, ℕ, inl, inr, ◌+◌, ◌-◌, ◌^◌, ◌<◌, ◌≤◌, List, take, get_or, length, Option, Some, None, refl, sym, subst, ◌∙◌, arith}
use Rattle.std.specs.Prelude.{IsBitSet, nat_le}
use Rattle.std.proofs.lemmas.Bool.{cases_Bool, cases_lt, false≢true, leb-true}
use Rattle.std.proofs.lemmas.List.{length-take-le, take-take}
use Rattle.std.proofs.lemmas.List.Elements.{All-more, All-nil}
use Rattle.std.proofs.lemmas.Nat.{pow_below}
use Rattle.std.proofs.Math.Nat.{pow-le-pow_right}
use Rattle.overlap_graph.specs.Independence.{independence_of}
use Rattle.plant_model.specs.declared.parts.Parts.{Parts}
use Rattle.plant_model.specs.Parts.{greatest_volume_of, horizon_of, op_count_of}
use Rattle.slot_automaton.specs.Blocked.{blocked_after, next_blocked}
use Rattle.slot_automaton.specs.Normal.{IsNormal}
use Rattle.slot_automaton.proofs.WordLemmas.{blocked_more, empty_is_normal, normal_more, refused_more}
use Rattle.slot_box.specs.declared.slot.Slot.{Slot}
use Rattle.slot_box.specs.Boxes.{IsBox, IsSlotOfRoot, IsWithinRoot, fixed_prefix, no_slot, slot_at}
use Rattle.slot_box.specs.Slots.{IsFixedTo, fixed_of, live_of}
use Rattle.slot_box.proofs.EntryLaws.{operations_alone}
use Rattle.slot_box.proofs.LiveLaws.{IsFixedTo-from_fixed_of}
use Rattle.slot_forms.specs.Cases.{plain}
use Rattle.leaf_value.specs.Blocked.{AreFixed, IsBlocked}
use Rattle.leaf_value.specs.Settings.{plain_setting}
use Rattle.leaf_value.proofs.BlockedLaws.{blocked_is_tested, next-is, none_blocked}
use Rattle.search_node.specs.Laws.{IsUnblocked}

-- the slots up to i are fixed to operations of the plant, which begin a normal word, and the state is what these block
pub record IsRead (parts : Parts) (box : List Slot) (i state : ℕ) : Type 0 where
  pub fixed : AreFixed parts box i
  pub blocks : state ≡ blocked_after (independence_of parts) (take i (fixed_prefix box))
  pub normal : (k : ℕ) → k ≤ i → IsNormal (independence_of parts) (take k (fixed_prefix box))

-- at first nothing is read
pub none_read : (parts : Parts) (box : List Slot) → IsRead parts box 0 0
none_read parts box =
    record {
      fixed = record { fixed = omega arith; known = All-nil (λ (op : ℕ). op < op_count_of parts) };
      blocks = refl;
      normal = λ k few. let none : k ≡ 0 = omega arith in rw none (empty_is_normal (independence_of parts));
    }

-- an operation to which a slot of the root box is fixed is one of the plant
known_op : (ops volume horizon op : ℕ) (s : Slot) → IsSlotOfRoot ops volume horizon s → IsFixedTo s op → op < ops
known_op ops volume horizon op s within fixed =
    let alone = fixed.alone in
    let set = within.set in
    let small = pow_below op 63 fixed.operation in
    elim (cases_Bool (nat_le (2 ^ 63) (live_of s))) [
      | inl large ↦ absurd (let more = leb-true (2 ^ 63) (live_of s) large in omega arith)
      | inr less ↦
          let same = operations_alone s less in
          elim (cases_lt op ops) [
            | inl below ↦ below
            | inr above ↦ absurd (let more = pow-le-pow_right {n = 2} (omega arith) above in omega arith)
          ]
    ]

pub known_at : (parts : Parts) (box : List Slot) (i op : ℕ) → IsBox box → IsWithinRoot (op_count_of parts) (greatest_volume_of parts) (horizon_of parts) box →
    i < length box → fixed_of (slot_at box (i + 1)) ≡ Some op → op < op_count_of parts
known_at parts box i op is root inside here =
    let there : i + 1 - 1 < length box = omega arith in
    known_op (op_count_of parts) (greatest_volume_of parts) (horizon_of parts) op (slot_at box (i + 1)) (root (i + 1 - 1) no_slot there)
    (IsFixedTo-from_fixed_of (slot_at box (i + 1)) op (is.each (i + 1 - 1) no_slot there) here)

module _ (parts : Parts) (box : List Slot) (i state : ℕ) (read : IsRead parts box i state) where
  abbrev masks : List ℕ
  masks = independence_of parts

  abbrev fixed : List ℕ
  fixed = fixed_prefix box

  at_slot : (found : Option ℕ) → fixed_of (slot_at box (i + 1)) ≡ found → fixed_of (get_or box i no_slot) ≡ found
  at_slot found is = (let back : i + 1 - 1 ≡ i = omega arith in subst (λ (k : ℕ). fixed_of (get_or box k no_slot) ≡ found) back is)

  -- no more slots are blocked where none are past those that were read
  unblocked : (n : ℕ) → ((at : ℕ) → i < at → IsBlocked (plain parts n) box at → ⊥) → IsUnblocked (plain_setting parts n) box
  unblocked n past at is =
      elim (cases_lt i at) [
        | inl more ↦ past at more is
        | inr few ↦
            let all : at - 0 ≡ at = omega arith in
            is.first.refused (rw (all, take-take at at fixed (omega arith)) (read.normal at few))
      ]

  -- so it is where the next slot is not fixed
  pub unblocked_free : (n : ℕ) → i < length box → fixed_of (slot_at box (i + 1)) ≡ None → IsUnblocked (plain_setting parts n) box
  unblocked_free n inside free =
      let stop : length fixed ≡ i = next-is box i None inside read.fixed.fixed (at_slot None free) in
      unblocked n (λ at more is. (let all = is.fixed.fixed in absurd (omega arith)))

  -- and where there is no other slot
  pub unblocked_end : (n : ℕ) → length box ≤ i → IsUnblocked (plain_setting parts n) box
  unblocked_end n end =
      unblocked n (λ at more is. false≢true (none_blocked parts n box at (inr (omega arith)) ∙ (blocked_is_tested (plain parts n) box at).1 is))

  -- the next slot is fixed to an operation of the plant
  module _ (op : ℕ) (inside : i < length box) (here : fixed_of (slot_at box (i + 1)) ≡ Some op) (known : op < op_count_of parts) where
    next : (i < length fixed) × (get_or fixed i 0 ≡ op)
    next = next-is box i (Some op) inside read.fixed.fixed (at_slot (Some op) here)

    fixed_more : AreFixed parts box (i + 1)
    fixed_more =
        record {
          fixed = omega (arith, next.0);
          known = All-more (λ (v : ℕ). v < op_count_of parts) fixed i 0 next.0 read.fixed.known (rw next.1 known);
        }

    blocks_here : blocked_after masks (take i fixed) ≡ state
    blocks_here = sym read.blocks

    -- the automaton refuses it
    pub blocked_here : (n : ℕ) → IsBitSet state op → IsBlocked (plain parts n) box (i + 1)
    blocked_here n refused =
        let all : i + 1 - 0 ≡ i + 1 = omega arith in
        let count = length-take-le (i + 1) fixed fixed_more.fixed in
        let set : IsBitSet (blocked_after masks (take i fixed)) (get_or fixed i 0) = rw (blocks_here, next.1) refused in
        record {
          fixed = fixed_more;
          first = record {
            some = omega arith;
            within = omega arith;
            refused = rw (all, take-take (i + 1) (i + 1) fixed (omega arith)) (refused_more masks fixed i next.0 set);
            shorter = λ k less. subst (IsNormal masks) (sym (take-take k (i + 1) fixed (omega arith))) (read.normal k (omega arith));
          };
        }

    -- it reads it
    pub read_more : (new : ℕ) → (¬ (IsBitSet state op)) → new ≡ next_blocked masks state op → IsRead parts box (i + 1) new
    read_more new free is =
        let open_here : ¬ (IsBitSet (blocked_after masks (take i fixed)) (get_or fixed i 0)) = rw (blocks_here, next.1) free in
        let more = normal_more masks fixed i next.0 (read.normal i (omega arith)) open_here in
        record {
          fixed = fixed_more;
          blocks = is ∙ sym (rw (blocks_here, next.1) at (blocked_more masks fixed i next.0));
          normal = λ k within.
              elim (cases_lt i k) [
                | inl past ↦ let last : k ≡ i + 1 = omega arith in rw last more
                | inr before ↦ read.normal k before
              ];
        }
