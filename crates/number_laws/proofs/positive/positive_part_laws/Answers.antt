use Rattle.number_laws.proofs.PositiveLaws.{positive_part-scaled, positive_part-times, positive_part-sum, multiple-greater_end, multiple-between}
use Rattle.number_laws.proofs.positive.positive_part_laws.Goals as goal

pub returns-clause-scales : goal.returns-clause-scales
returns-clause-scales c = λ k z. (positive_part-scaled k z, positive_part-times z k)

pub returns-clause-sums : goal.returns-clause-sums
returns-clause-sums c = positive_part-sum

pub returns-clause-multiples : goal.returns-clause-multiples
returns-clause-multiples c = λ z low high order. (multiple-greater_end z low high order, λ x from to. multiple-between z low high x from to)
