use Rattle.std.proofs.Common.{set, sum, length, ap, ◌∙◌, arith}
use Rattle.std.proofs.lemmas.List.{length-take-le}
use Rattle.crude_amounts.proofs.CellLaws.{set_are_cells, amounts_in-set}
use Rattle.crude_amounts.proofs.amounts.Amounts.set.Goals as goal

pub invariant_of-self : goal.invariant_of-self
invariant_of-self c =
    let inside = c.self.inside in
    let count = length-take-le inside.count inside.cells (omega arith) in
    let seen = ap length c.self.view_is in
    let few = ap (λ amounts. sum (set amounts c.args.c c.args.amount)) c.self.view_is in
    set_are_cells inside.count inside.cells c.args.c c.args.amount c.self.invariant (omega arith) (omega arith)

pub returns : goal.returns
returns c =
    let inside = c.self.inside in
    let count = length-take-le inside.count inside.cells (omega arith) in
    let seen = ap length c.self.view_is in
    amounts_in-set inside.count inside.cells c.args.c c.args.amount (omega arith) ∙ ap (λ amounts. set amounts c.args.c c.args.amount) c.self.view_is
