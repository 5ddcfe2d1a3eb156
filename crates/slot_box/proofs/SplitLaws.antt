-- A lawful split shares the points of a box between its two parts.
use Rattle.std.proofs.Common.{◌≡◌, ℕ, inl, inr, ◌+◌, ◌-◌, ◌<◌, ◌≤◌, true, List, length, set, arith}
use Rattle.std.specs.Prelude.{◌⊎◌, nat_le, ◌&&◌}
use Rattle.std.proofs.Math.ListN.{length-set}
use Rattle.std.proofs.lemmas.List.Elements.{recursion_from_All, All-set}
use Rattle.std.proofs.lemmas.Bool.{and_parts, and_from, leb-true, le-leb}
use Rattle.slot_box.specs.declared.slot.Slot.{Slot}
use Rattle.slot_box.specs.declared.split.Split.{Split}
use Rattle.slot_box.specs.Boxes.{IsPoint, HasPoint, IsBox, IsSlotOfRoot, IsWithinRoot, slot_at, entry_at, points_of}
use Rattle.slot_box.specs.Entries.{Entry}
use Rattle.slot_box.specs.Slots.{IsSlot}
use Rattle.slot_box.specs.Splits.{GoesLeft, IsLawfulSplit, IsPartition, left_of, right_of, divides, is_lawful}
use Rattle.slot_box.proofs.HalfLaws.{goes_left_or_not, LiesIn-left, LiesIn-right, LiesIn-from_left, LiesIn-from_right, IsSlot-left, IsSlot-right, IsSlotOfRoot-left, IsSlotOfRoot-right, divides_from, ways_of-halves}
use Rattle.slot_box.proofs.PointLaws.{HasPoint-from_box, IsPoint-set, LiesIn-set, LiesIn-at, IsPoint-from_set, points_of-set}

-- what the test of a split says
pub record Divided (slots : List Slot) (split : Split) : Type 0 where
  pub from_one : 1 ≤ split.slot
  pub there : split.slot ≤ length slots
  pub divided : divides (slot_at slots split.slot) split.kind ≡ true

pub divided_from : (slots : List Slot) (split : Split) → is_lawful slots split ≡ true → Divided slots split
divided_from slots split is =
    let parts = and_parts (nat_le 1 split.slot && nat_le split.slot (length slots)) _ is in
    let range = and_parts (nat_le 1 split.slot) (nat_le split.slot (length slots)) parts.0 in
    record { from_one = leb-true _ _ range.0; there = leb-true _ _ range.1; divided = parts.1 }

-- a box with another slot in the place of one
pub IsBox-set : (slots : List Slot) (j : ℕ) (s : Slot) → IsBox slots → IsSlot s → IsBox (set slots j s)
IsBox-set slots j s box slot =
    record {
      some_slots = rw length-set box.some_slots;
      most_slots = rw length-set box.most_slots;
      each = All-set IsSlot slots j s slot box.each;
    }

module _ (slots : List Slot) (split : Split) (box : IsBox slots) (d : Divided slots split) where
  inside : split.slot - 1 < length slots
  inside = let from = d.from_one in let there = d.there in omega arith

  slot : IsSlot (slot_at slots split.slot)
  slot = box.each _ _ inside

  pub IsBox-left : IsBox (left_of slots split)
  IsBox-left = IsBox-set slots _ _ box (IsSlot-left _ split.kind slot d.divided)

  pub IsBox-right : IsBox (right_of slots split)
  IsBox-right = IsBox-set slots _ _ box (IsSlot-right _ split.kind slot d.divided)

  pub IsWithinRoot-left : (ops volume horizon : ℕ) → IsWithinRoot ops volume horizon slots → IsWithinRoot ops volume horizon (left_of slots split)
  IsWithinRoot-left ops volume horizon within =
      All-set (IsSlotOfRoot ops volume horizon) slots _ _ (IsSlotOfRoot-left ops volume horizon _ split.kind d.divided (within _ _ inside)) within

  pub IsWithinRoot-right : (ops volume horizon : ℕ) → IsWithinRoot ops volume horizon slots → IsWithinRoot ops volume horizon (right_of slots split)
  IsWithinRoot-right ops volume horizon within =
      All-set (IsSlotOfRoot ops volume horizon) slots _ _ (IsSlotOfRoot-right ops volume horizon _ split.kind (within _ _ inside)) within

  -- a point of the left part is one of the box that goes left, and likewise right
  pub from_left : (point : List Entry) → IsPoint (left_of slots split) point → IsPoint slots point × GoesLeft split.kind (entry_at point split.slot)
  from_left point is =
      let lies = LiesIn-from_left (slot_at slots split.slot) split.kind (entry_at point split.slot) d.divided (LiesIn-set slots _ _ point inside is) in
      (IsPoint-from_set slots _ _ point inside is lies.0, lies.1)

  pub from_right : (point : List Entry) → IsPoint (right_of slots split) point → IsPoint slots point × (¬ (GoesLeft split.kind (entry_at point split.slot)))
  from_right point is =
      let lies = LiesIn-from_right (slot_at slots split.slot) split.kind (entry_at point split.slot) d.divided (LiesIn-set slots _ _ point inside is) in
      (IsPoint-from_set slots _ _ point inside is lies.0, lies.1)

  pub to_left : (point : List Entry) → IsPoint slots point → GoesLeft split.kind (entry_at point split.slot) → IsPoint (left_of slots split) point
  to_left point is left =
      IsPoint-set slots _ _ point is (LiesIn-left (slot_at slots split.slot) split.kind _ (LiesIn-at slots _ point inside is) left)

  pub to_right : (point : List Entry) → IsPoint slots point → (¬ (GoesLeft split.kind (entry_at point split.slot))) → IsPoint (right_of slots split) point
  to_right point is right =
      IsPoint-set slots _ _ point is (LiesIn-right (slot_at slots split.slot) split.kind _ (LiesIn-at slots _ point inside is) right)

  left_point : HasPoint (left_of slots split)
  left_point = HasPoint-from_box _ (recursion_from_All IsSlot _ IsBox-left.each)

  right_point : HasPoint (right_of slots split)
  right_point = HasPoint-from_box _ (recursion_from_All IsSlot _ IsBox-right.each)

  pub IsPartition-parts : IsPartition slots split (left_of slots split) (right_of slots split)
  IsPartition-parts =
      record {
        covers = covers;
        apart = λ point in_left in_right. (from_right point in_right).1 (from_left point in_left).1;
        left_within = λ point is. (from_left point is).0;
        right_within = λ point is. (from_right point is).0;
        goes_left = λ point is. (from_left point is).1;
        goes_right = λ point is. (from_right point is).1;
        left_point = left_point;
        right_point = right_point;
      }
    where
      covers : (point : List Entry) → IsPoint slots point → IsPoint (left_of slots split) point ⊎ IsPoint (right_of slots split) point
      covers point is =
          elim (goes_left_or_not split.kind (entry_at point split.slot)) [
            | inl left ↦ inl (to_left point is left)
            | inr right ↦ inr (to_right point is right)
          ]

  pub points_of-parts : points_of (left_of slots split) + points_of (right_of slots split) ≡ points_of slots
  points_of-parts = points_of-set slots _ _ _ inside (ways_of-halves (slot_at slots split.slot) split.kind slot d.divided)

  pub IsLawfulSplit-from_test : IsLawfulSplit slots split
  IsLawfulSplit-from_test =
      let left = from_left left_point.0 left_point.1 in
      let right = from_right right_point.0 right_point.1 in
      record {
        from_one = d.from_one;
        there = d.there;
        left = (left_point.0, left.0, left.1);
        right = (right_point.0, right.0, right.1);
      }

-- a lawful split passes the test
pub test_from_IsLawfulSplit : (slots : List Slot) (split : Split) → IsLawfulSplit slots split → is_lawful slots split ≡ true
test_from_IsLawfulSplit slots split lawful =
    let from = lawful.from_one in
    let there = lawful.there in
    let inside : split.slot - 1 < length slots = omega arith in
    let divided = divides_from (slot_at slots split.slot) split.kind (entry_at lawful.left.0 split.slot) (entry_at lawful.right.0 split.slot)
    (LiesIn-at slots _ _ inside lawful.left.1) lawful.left.2 (LiesIn-at slots _ _ inside lawful.right.1) lawful.right.2 in
    and_from _ _ (and_from _ _ (le-leb _ _ from) (le-leb _ _ there)) divided

pub divided_from_lawful : (slots : List Slot) (split : Split) → IsLawfulSplit slots split → Divided slots split
divided_from_lawful slots split lawful = divided_from slots split (test_from_IsLawfulSplit slots split lawful)
