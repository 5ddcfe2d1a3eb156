use Rattle.std.proofs.Common.{◌≡◌, ◌++◌, map, drop}
use Rattle.std.specs.Prelude.{decimal}
use Rattle.line_text.specs.Words.{spaced}
use Rattle.crude_run.proofs.make.push_numbers.Given as goal

-- what is written and what is left make the whole
abbrev pub invariant-loop-number : goal.invariant-loop-number
invariant-loop-number l =
    l.out.items ++ spaced (map decimal (drop l.number-index l.numbers)) ≡ l.fn.out.items ++ spaced (map decimal l.fn.numbers)
