use Rattle.std.proofs.Common.{◌≡◌, take}
use Rattle.normal_order.proofs.FormLaws.{all_seated}
use Rattle.normal_order.proofs.normal.normalise.Given as goal

abbrev pub invariant-loop-step : goal.invariant-loop-step
invariant-loop-step l = l.normal.items ≡ all_seated l.plant (take l.step-index l.step-items)
