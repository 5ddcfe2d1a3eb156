use Rattle.std.proofs.Common.{subst}
use Rattle.std.proofs.lemmas.List.Elements.{recursion_from_All}
use Rattle.slot_box.specs.Boxes.{IsPoint, HasPoint, points_of}
use Rattle.slot_box.specs.Counting.{IsCountOf}
use Rattle.slot_box.specs.Slots.{IsSlot}
use Rattle.slot_box.proofs.PointLaws.{IsCountOf-points_of, HasPoint-from_box}
use Rattle.slot_box.proofs.boxes.SlotBox.points.Goals as goal

pub returns-clause-number : goal.returns-clause-number
returns-clause-number c =
    subst (λ slots. IsCountOf (IsPoint slots) (points_of slots)) c.self.view_is (IsCountOf-points_of _ (recursion_from_All IsSlot _ c.self.invariant.each))

pub returns-clause-some : goal.returns-clause-some
returns-clause-some c =
    subst HasPoint c.self.view_is (HasPoint-from_box _ (recursion_from_All IsSlot _ c.self.invariant.each))
