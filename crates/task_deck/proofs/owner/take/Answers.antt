use Rattle.task_deck.proofs.DealLaws.{pops, deals_out}
use Rattle.task_deck.proofs.owner.take.Goals as goal

pub pop_as-requires-clause-fifo : goal.pop_as-requires-clause-fifo
pop_as-requires-clause-fifo c = λ fifo. pops _ _ c.requires.owns

pub pop_as-requires-clause-empty : goal.pop_as-requires-clause-empty
pop_as-requires-clause-empty c = deals_out _ _
