use Rattle.std.proofs.Common.{rules, ◌≡◌, length, arith}
use Rattle.linear_form.specs.Columns.{count_of, number_of}
use Rattle.linear_form.proofs.ColumnLaws.{number-below}
use Rattle.linear_form.proofs.ranges.Ranges.number.Goals as goal

pub returns-clause-there : goal.returns-clause-there
returns-clause-there c =
    let below = number-below c.args.self.now.extent c.args.column c.requires in
    let count : length c.args.self.now.ends ≡ count_of c.args.self.now.extent = search rules in
    let value : c.place.result ≡ number_of c.args.self.now.extent c.args.column = search rules in
    omega (arith, below, count, value)
