use Rattle.command_line.proofs.LineLaws.{is_found, read_is_plain}
use Rattle.command_line.proofs.reading.read_line.Goals as goal

pub matches_of-requires : goal.matches_of-requires
matches_of-requires c = (c.requires.command, c.requires.line)

pub values_of-requires : goal.values_of-requires
values_of-requires c = is_found c.args.form _ _ c.requires c.in_ok-matches.ensures.found

pub returns-clause-plain : goal.returns-clause-plain
returns-clause-plain c = read_is_plain c.args.form _ _ _ _ c.requires c.in_ok-matches.ensures.found c.values_of.ensures c.in_ok-command.ensures
