use Rattle.std.proofs.Common.{◌≡◌, take}
use Rattle.crude_amounts.specs.Amounts.{rest_of}
use Rattle.crude_amounts.proofs.cells.take_each.Given as goal

abbrev pub invariant-loop-c : goal.invariant-loop-c
invariant-loop-c l = l.cells ≡ rest_of l.fn.cells (take l.c l.drawn)
