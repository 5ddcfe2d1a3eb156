use Rattle.std.proofs.Common.{◌≡◌, subst, arith}
use Rattle.std.proofs.lemmas.Bool.{eqb-true}
use Rattle.std.proofs.lemmas.List.Elements.{recursion_from_All}
use Rattle.slot_box.specs.Boxes.{IsBox, points_of}
use Rattle.slot_box.specs.Slots.{IsSlot}
use Rattle.slot_box.proofs.OnlyLaws.{IsPoint-only_point}
use Rattle.slot_box.proofs.boxes.SlotBox.is_point.Goals as goal

pub returns-clause-point : goal.returns-clause-point
returns-clause-point c = λ is.
    let box = subst IsBox c.self.view_is c.self.invariant in
    let one = eqb-true c.points.result 1 is in
    let single : points_of c.args.self.now ≡ 1 = omega (arith, c.points.ensures.value) in
    IsPoint-only_point c.args.self.now (recursion_from_All IsSlot _ box.each) single
