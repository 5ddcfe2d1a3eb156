use Rattle.std.proofs.Common.{◌≡◌, subst, rules}
use Rattle.slot_box.specs.Boxes.{IsBox}
use Rattle.slot_box.specs.Splits.{left_of, right_of}
use Rattle.slot_box.proofs.SplitLaws.{divided_from_lawful, IsPartition-parts, points_of-parts, IsWithinRoot-left, IsWithinRoot-right}
use Rattle.slot_box.proofs.boxes.SlotBox.divide.Goals as goal

pub left_half-requires-clause-divided : goal.left_half-requires-clause-divided
left_half-requires-clause-divided c =
    rw c.slot-slot.ensures.value (divided_from_lawful c.args.self.now c.args.split c.requires).divided

pub right_half-requires-clause-divided : goal.right_half-requires-clause-divided
right_half-requires-clause-divided c =
    rw c.slot-slot.ensures.value (divided_from_lawful c.args.self.now c.args.split c.requires).divided

pub returns-clause-points : goal.returns-clause-points
returns-clause-points c =
    let slots = c.args.self.now in
    let split = c.args.split in
    let left : c.in_ok-left.left ≡ left_of slots split = search rules in
    let right : c.in_ok-right.right ≡ right_of slots split = search rules in
    let box = subst IsBox c.self.view_is c.self.invariant in
    rw (left, right) (IsPartition-parts slots split box (divided_from_lawful slots split c.requires))

pub returns-clause-count : goal.returns-clause-count
returns-clause-count c =
    let slots = c.args.self.now in
    let split = c.args.split in
    let left : c.in_ok-left.left ≡ left_of slots split = search rules in
    let right : c.in_ok-right.right ≡ right_of slots split = search rules in
    let box = subst IsBox c.self.view_is c.self.invariant in
    rw (left, right) (points_of-parts slots split box (divided_from_lawful slots split c.requires))

pub returns-clause-within : goal.returns-clause-within
returns-clause-within c =
    let slots = c.args.self.now in
    let split = c.args.split in
    let left : c.in_ok-left.left ≡ left_of slots split = search rules in
    let right : c.in_ok-right.right ≡ right_of slots split = search rules in
    let box = subst IsBox c.self.view_is c.self.invariant in
    let divided = divided_from_lawful slots split c.requires in
    rw (left, right) (IsWithinRoot-left slots split box divided, IsWithinRoot-right slots split box divided)
