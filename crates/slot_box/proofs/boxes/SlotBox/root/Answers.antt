use Rattle.std.proofs.Common.{◌≡◌, sym, subst, rules}
use Rattle.slot_box.specs.Boxes.{IsBox, root_of}
use Rattle.slot_box.proofs.SlotLaws.{IsBox-root_of, IsWithinRoot-root_of}
use Rattle.slot_box.proofs.boxes.SlotBox.root.Goals as goal

pub invariant_of-result : goal.invariant_of-result
invariant_of-result c =
    let a = c.args in
    let r = c.requires in
    let made : c.in_ok-vec.field-0.items ≡ root_of a.n a.ops a.volume a.horizon = search rules in
    subst IsBox (sym made) (IsBox-root_of _ _ _ _ r.some_slots r.most_slots r.most_ops r.most_volume r.most_minutes)

pub returns-clause-within : goal.returns-clause-within
returns-clause-within c =
    let a = c.args in
    let made : c.in_ok-vec.field-0.items ≡ root_of a.n a.ops a.volume a.horizon = search rules in
    rw made (IsWithinRoot-root_of a.n a.ops a.volume a.horizon c.requires.most_ops)
