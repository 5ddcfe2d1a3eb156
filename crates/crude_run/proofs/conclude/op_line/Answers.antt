use Rattle.std.proofs.Common.{rules}
use Rattle.crude_run.proofs.conclude.op_line.Goals as goal

pub returns-clause-form : goal.returns-clause-form
returns-clause-form c = record {
  number = search rules;
  name = rw (c.in_ok-new.ensures, c.op_name-name.ensures) (c.sound.ensures.plant.op_names.form c.args.t.op c.requires);
  start = search rules;
  end = search rules;
  volume = search rules;
}
