use Rattle.std.proofs.Common.{◌<◌, length, ap, sym, ◌∙◌, arith}
use Rattle.line_text.specs.inside.Rest.{words_left}
use Rattle.line_text.proofs.WordLaws.{words_of-last, words_of-first}
use Rattle.line_text.proofs.words.WordsIterator.next.Goals as goal

pub returns-in-None-clause-steps : goal.returns-in-None-clause-steps
returns-in-None-clause-steps c =
    sym c.self.view_is ∙ ap words_left c.in_ok-rest.was ∙ words_of-last c.in_ok-rest.rest.now c.in-None.ensures

pub returns-in-None-clause-goes : goal.returns-in-None-clause-goes
returns-in-None-clause-goes c =
    let steps = returns-in-None-clause-steps c in
    let falls : 0 < length c.args.self.now = rw steps (omega arith) in
    record { on = λ _. (tt, tt, falls); keeps = tt; rests = λ _. tt }

pub returns-in-Some-clause-steps : goal.returns-in-Some-clause-steps
returns-in-Some-clause-steps c =
    sym c.self.view_is ∙ ap words_left c.in_ok-rest.was ∙ words_of-first c.in_ok-rest.rest.now c.in-Some.word.now c.in-Some.rest.now c.in-Some.ensures

pub returns-in-Some-clause-goes : goal.returns-in-Some-clause-goes
returns-in-Some-clause-goes c =
    let steps = returns-in-Some-clause-steps c in
    record { on = λ _. (tt, tt, rw steps (omega arith)); keeps = tt; rests = λ _. tt }
