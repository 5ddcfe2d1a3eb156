use Rattle.std.proofs.Common.{rules}
use Rattle.plan_text.specs.inside.Fields.{fields_line}
use Rattle.plan_text.proofs.ReadingLaws.{where_none, line_says, says_none, says_other}
use Rattle.plan_text.proofs.plan.step_of.Goals as goal

pub returns-in_err-fields-clause-none : goal.returns-in_err-fields-clause-none
returns-in_err-fields-clause-none c = where_none c.from_residual.result (says_none c.args.text.now c.args.number c.in_err-fields.ensures)

pub returns-then-fields-number-clause-none : goal.returns-then-fields-number-clause-none
returns-then-fields-number-clause-none c =
    says_other c.args.text.now (fields_line c.in_ok-fields.fields) c.args.number c.in_ok-fields.ensures c.if-fields-number.true

pub returns-clause-found : goal.returns-clause-found
returns-clause-found c =
    let says = line_says c.args.text.now (fields_line c.in_ok-fields.fields) c.in_ok-fields.ensures in
    record {
      line = fields_line c.in_ok-fields.fields;
      form = says.0;
      numbered = search rules;
      written = says.1;
      says = search rules;
    }
