-- The test of a split, and that of a box of one point.
use Rattle.std.proofs.Common.{◌≡◌, true, false, List, subst}
use Rattle.std.proofs.lemmas.Bool.{false_from_ne_true}
use Rattle.std.proofs.lemmas.List.Elements.{recursion_from_All}
use Rattle.slot_box.specs.declared.slot.Slot.{Slot}
use Rattle.slot_box.specs.declared.split.Split.{Split}
use Rattle.slot_box.specs.Boxes.{IsBox, IsPoint, HasOnePoint, points_of}
use Rattle.slot_box.specs.Counting.{IsCountOf}
use Rattle.slot_box.specs.Slots.{IsSlot}
use Rattle.slot_box.specs.Splits.{IsLawfulSplit, is_lawful}
use Rattle.slot_box.proofs.PointLaws.{IsCountOf-points_of, one_from_count, count_from_one}
use Rattle.slot_box.proofs.SplitLaws.{divided_from, IsLawfulSplit-from_test}

-- a split of a box that passes the test is lawful
pub lawful_by_test : (slots : List Slot) (split : Split) → IsBox slots → is_lawful slots split ≡ true → IsLawfulSplit slots split
lawful_by_test slots split box is = IsLawfulSplit-from_test slots split box (divided_from slots split is)

-- one that is not lawful fails it
pub refused_by_test : (slots : List Slot) (split : Split) → IsBox slots → (¬ (IsLawfulSplit slots split)) → is_lawful slots split ≡ false
refused_by_test slots split box not = false_from_ne_true (is_lawful slots split) (λ is. not (lawful_by_test slots split box is))

-- a box whose number of points is one has one point, and the other way round
pub one_by_count : (slots : List Slot) → IsBox slots → points_of slots ≡ 1 → HasOnePoint slots
one_by_count slots box one =
    one_from_count (IsPoint slots) (subst (IsCountOf (IsPoint slots)) one (IsCountOf-points_of slots (recursion_from_All IsSlot slots box.each)))

pub count_by_one : (slots : List Slot) → IsBox slots → HasOnePoint slots → points_of slots ≡ 1
count_by_one slots box one =
    count_from_one (IsPoint slots) (points_of slots) (IsCountOf-points_of slots (recursion_from_All IsSlot slots box.each)) one
