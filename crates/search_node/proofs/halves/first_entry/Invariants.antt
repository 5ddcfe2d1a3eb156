use Rattle.std.proofs.Common.{◌<◌}
use Rattle.std.specs.Prelude.{IsBitSet}
use Rattle.search_node.proofs.halves.first_entry.Given as goal

-- an entry of the set
abbrev pub invariant-loop-v : goal.invariant-loop-v
invariant-loop-v l = record { small : l.first < 64; member : IsBitSet l.set l.first }
