use Rattle.std.proofs.Common.{◌≡◌, ◌+◌, get_or, sum, length, sym, ap, ◌∙◌, inl, inr, arith}
use Rattle.std.proofs.lemmas.List.{length-take-le, get_or_past}
use Rattle.std.proofs.lemmas.Bool.{cases_lt}
use Rattle.crude_amounts.specs.Amounts.{rest_of}
use Rattle.crude_amounts.proofs.CellLaws.{front_are_cells, amounts_in-front}
use Rattle.crude_amounts.proofs.MixLaws.{length-rest_of, sum-rest_of}
use Rattle.crude_amounts.proofs.amounts.Amounts.take.Goals as goal
use Rattle.crude_amounts.proofs.amounts.Amounts.take.Goals.{After-take_each}

pub take_each-requires : goal.take_each-requires
take_each-requires c =
    let held = c.args.self.now in
    record {
      lengths = ap length c.cells.ensures.value ∙ c.requires.lengths ∙ ap length (sym c.self.view_is);
      there = λ i within.
          let part = ap (λ xs. get_or xs i 0) c.cells.ensures.value in
          let there = ap (λ xs. get_or xs i 0) c.self.view_is in
          let count = ap length c.cells.ensures.value in
          let most = c.requires.there i (omega arith) in
          omega arith;
    }

-- what the written cells are, and how many
rest_is : (c : After-take_each) → c.take_each.new.cells ≡ rest_of c.args.self.now c.args.drawn.now
rest_is c = c.take_each.ensures ∙ ap (λ held. rest_of held c.cells.result.now) c.self.view_is ∙ ap (rest_of c.args.self.now) c.cells.ensures.value

rest_count : (c : After-take_each) → length c.take_each.new.cells ≡ c.self.inside.count
rest_count c = c.take_each.auto.cells ∙ length-take-le c.self.inside.count c.self.inside.cells (omega arith)

rest_total : (c : After-take_each) → sum (rest_of c.args.self.now c.args.drawn.now) + sum c.args.drawn.now ≡ sum c.args.self.now
rest_total c =
    sum-rest_of c.args.self.now c.args.drawn.now c.requires.lengths
    (λ i. elim (cases_lt i (length c.args.drawn.now)) [
      | inl within ↦ c.requires.there i within
      | inr past ↦ let none = get_or_past c.args.drawn.now i 0 past in
          omega arith
    ])

pub invariant_of-self : goal.invariant_of-self
invariant_of-self c =
    let total = ap sum (rest_is c) in
    let less = rest_total c in
    let seen = ap sum c.self.view_is in
    front_are_cells c.self.inside.count c.self.inside.cells c.take_each.new.cells c.self.invariant (rest_count c) (omega arith)

pub returns : goal.returns
returns c =
    let rest = amounts_in-front c.self.inside.count c.self.inside.cells c.take_each.new.cells (rest_count c) ∙ rest_is c in
    record {
      rest = rest;
      left = (let less = rest_total c in let total = ap sum rest in omega arith);
      crudes = ap length rest ∙ length-rest_of c.args.self.now c.args.drawn.now;
    }
