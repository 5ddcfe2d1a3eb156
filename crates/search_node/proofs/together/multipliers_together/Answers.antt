use Rattle.std.proofs.Common.{◌≡◌, List, length, sym, ◌∙◌, Result, Ok, Err, IfOk}
use Rattle.dual_bound.specs.declared.guess.Guess.{Guess}
use Rattle.dual_bound.specs.Conditions.{IsGuess}
use Rattle.linear_form.specs.Rows.{RowForm}
use Rattle.search_node.proofs.EntryLaws.{as-many}
use Rattle.search_node.proofs.together.multipliers_together.Goals as goal

pub zeros-requires : goal.zeros-requires
zeros-requires c = as-many c.args.weighing.now.plant.now (length c.args.weighing.now.bx.now) c.args.block.now c.requires.block

-- a guess for rows is one for as many others
same-guess : {E : Type 0} (found : Result Guess E) (rows others : List RowForm) → length rows ≡ length others →
    IfOk found (λ guess. IsGuess rows guess.y guess.q) → IfOk found (λ guess. IsGuess others guess.y guess.q)
same-guess (Ok guess) rows others same is = record { as_many = is.as_many ∙ same; within = is.within; some = is.some; most = is.most }
same-guess (Err e) rows others same is = tt

pub returns : goal.returns
returns c =
    let many = as-many c.args.weighing.now.plant.now (length c.args.weighing.now.bx.now) c.args.block.now c.requires.block in
    same-guess c.multipliers.result c.in_ok-rows.rows c.args.block.now.rows (c.in_ok-rows.ensures ∙ sym many) c.multipliers.ensures
