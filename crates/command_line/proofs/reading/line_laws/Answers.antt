use Rattle.command_line.proofs.LineLaws.{one_command}
use Rattle.command_line.proofs.reading.line_laws.Goals as goal

pub returns : goal.returns
returns c = one_command
