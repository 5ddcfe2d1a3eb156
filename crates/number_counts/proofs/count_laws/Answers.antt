use Rattle.number_counts.proofs.CountLaws.{times-append, each_below-none, each_below-next}
use Rattle.number_counts.proofs.count_laws.Goals as goal

pub returns : goal.returns
returns c = record { sums = times-append; none = each_below-none; next = each_below-next }
