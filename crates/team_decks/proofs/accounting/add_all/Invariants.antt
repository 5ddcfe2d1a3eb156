use Rattle.std.specs.Prelude.{◌++◌, IsPermutation, length}
use Rattle.team_decks.proofs.accounting.add_all.Given as goal

abbrev pub decreases-loop-task : goal.decreases-loop-task
decreases-loop-task l = length l.more

abbrev pub invariant-loop-task : goal.invariant-loop-task
invariant-loop-task l = record {
  same : IsPermutation (l.fn.left ++ l.fn.more) (l.left ++ l.more);
}
