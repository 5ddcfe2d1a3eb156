use Rattle.std.proofs.Common.{subst, sym, ◌∙◌}
use Rattle.slot_box.specs.Boxes.{IsBox}
use Rattle.slot_box.proofs.SplitLaws.{divided_from, IsLawfulSplit-from_test, test_from_IsLawfulSplit}
use Rattle.slot_box.proofs.boxes.SlotBox.is_lawful.Goals as goal

pub returns : goal.returns
returns c =
    let box = subst IsBox c.self.view_is c.self.invariant in
    (λ is. IsLawfulSplit-from_test _ _ box (divided_from _ _ (sym c.passes.ensures ∙ is)), λ lawful. c.passes.ensures ∙ test_from_IsLawfulSplit _ _ lawful)
