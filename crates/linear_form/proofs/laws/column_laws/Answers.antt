use Rattle.linear_form.proofs.ColumnLaws.{columns_are_numbered}
use Rattle.linear_form.proofs.laws.column_laws.Goals as goal

pub returns : goal.returns
returns c = columns_are_numbered
