use Rattle.std.proofs.Common.{◌≡◌, take, All}
use Rattle.slot_box.specs.Ranges.{IsTerm}
use Rattle.search_node.specs.inside.Candidates.{taken_by}
use Rattle.search_node.proofs.guesses.taken_terms.Given as goal

abbrev pub invariant-loop-k : goal.invariant-loop-k
invariant-loop-k l = record {
  taken : l.terms ≡ taken_by (take l.k l.names) (take l.k l.multipliers);
  fit : All IsTerm l.terms;
}
