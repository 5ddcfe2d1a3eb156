use Rattle.std.proofs.Common.{◌≡◌, ◌++◌, map, drop}
use Rattle.std.specs.Prelude.{decimal}
use Rattle.line_text.specs.Words.{spaced}
use Rattle.plan_text.proofs.ledger_text.push_amounts.Given as goal

-- what is written and what is left make the whole
abbrev pub invariant-loop-c : goal.invariant-loop-c
invariant-loop-c l = l.out.items ++ spaced (map decimal (drop l.c l.amounts)) ≡ l.fn.out.items ++ spaced (map decimal l.fn.amounts)
