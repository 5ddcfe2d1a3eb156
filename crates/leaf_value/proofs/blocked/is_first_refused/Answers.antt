use Rattle.leaf_value.proofs.BlockedLaws.{found_by_test, told_by_first}
use Rattle.leaf_value.proofs.blocked.is_first_refused.Goals as goal

pub returns : goal.returns
returns c =
    let told = told_by_first c.args.automaton.now c.args.word.now c.args.at c.first_refused.result c.first_refused.ensures.none c.first_refused.ensures.first in
    let test = found_by_test c.first_refused.result c.args.at c.eq.result c.eq.ensures in
    (λ is. told.0 (test.0 is), λ first. test.1 (told.1 first))
