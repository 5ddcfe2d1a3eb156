use Rattle.std.proofs.Common.{◌∙◌}
use Rattle.plant_text.proofs.Lists.{keyed_by-keys}
use Rattle.plant_text.proofs.entry.is_keyed_by.Goals as goal

pub returns : goal.returns
returns c = c.has_all.ensures ∙ keyed_by-keys _ c.args.members.now.entries
