use Rattle.std.proofs.Common.{◌≡◌, take}
use Rattle.crude_amounts.specs.Amounts.{mix_of}
use Rattle.crude_amounts.proofs.cells.add_each.Given as goal

abbrev pub invariant-loop-c : goal.invariant-loop-c
invariant-loop-c l = l.cells ≡ mix_of l.fn.cells (take l.c l.more)
