use Rattle.std.proofs.Common.{◌≡◌, true, subst}
use Rattle.slot_box.specs.declared.split.SplitKind.TheVariants.{Ops}
use Rattle.slot_box.specs.Splits.{divides}
use Rattle.slot_box.proofs.HalfLaws.{IsSlot-right}
use Rattle.slot_box.proofs.split.right_half.Goals as goal

pub returns-in-Ops-clause-shape : goal.returns-in-Ops-clause-shape
returns-in-Ops-clause-shape c =
    let divided = subst (λ kind. divides c.args.slot kind ≡ true) c.in-Ops.is c.requires.divided in
    rw c.without.ensures (IsSlot-right c.args.slot (Ops c.in-Ops.set) c.requires.shape divided)
