use Rattle.std.proofs.lemmas.Result.{IfErr-weaker, IfOk-weaker}
use Rattle.command_line.proofs.TakingLaws.{found_behind_the_verb, refused_for_memory}
use Rattle.command_line.proofs.LineLaws.{line_is_taken}
use Rattle.command_line.proofs.taking.parsed.Goals as goal

pub returns-clause-found : goal.returns-clause-found
returns-clause-found c =
    let parse = c.try_get_matches_from in
    IfOk-weaker parse.result _ _ (λ matches has. found_behind_the_verb _ _ matches c.in_ok-parser.ensures.app_is has) parse.ensures.matches

pub returns-clause-refused : goal.returns-clause-refused
returns-clause-refused c = λ plain.
    let parse = c.try_get_matches_from in
    IfErr-weaker parse.result _ _
    (λ refused passes. refused_for_memory _ _ refused c.in_ok-parser.ensures.app_is (line_is_taken plain.0 _ plain.1) passes) parse.ensures.passes
