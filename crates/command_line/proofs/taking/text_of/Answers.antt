use Rattle.clap.specs.Matches.{found_of}
use Rattle.command_line.proofs.TakingLaws.{text_found, no_text_found}
use Rattle.command_line.proofs.taking.text_of.Goals as goal

pub returns-in-Some : goal.returns-in-Some
returns-in-Some c = text_found (found_of c.args.values.now) c.args.name.now c.in-Some.text c.in-Some.ensures

pub returns-in-None : goal.returns-in-None
returns-in-None c = no_text_found (found_of c.args.values.now) c.args.name.now c.in-None.ensures
