use Rattle.std.proofs.Common.{◌≡◌, length}
use Rattle.search_node.proofs.together.rows_of_one.Given as goal

-- a row for each name so far
abbrev pub invariant-loop-name : goal.invariant-loop-name
invariant-loop-name l = length l.rows ≡ l.name-index
