use Rattle.std.proofs.Common.{◌≡◌, sum, length, ap, ◌∙◌, arith}
use Rattle.std.proofs.lemmas.List.{length-take-le}
use Rattle.crude_amounts.specs.Amounts.{mix_of}
use Rattle.crude_amounts.proofs.CellLaws.{front_are_cells, amounts_in-front}
use Rattle.crude_amounts.proofs.MixLaws.{length-mix_of, sum-mix_of}
use Rattle.crude_amounts.proofs.amounts.Amounts.add.Goals as goal

-- what the written cells are
written : (c : goal.After-add_each) → c.add_each.new.cells ≡ mix_of c.args.self.now c.args.other.now
written c = c.add_each.ensures ∙ ap (λ held. mix_of held c.cells.result.now) c.self.view_is ∙ ap (mix_of c.args.self.now) c.cells.ensures.value

pub invariant_of-self : goal.invariant_of-self
invariant_of-self c =
    let inside = c.self.inside in
    let count = length-take-le inside.count inside.cells (omega arith) in
    let total = ap sum (written c) ∙ sum-mix_of c.args.self.now c.args.other.now c.requires.lengths in
    let whole : length c.add_each.new.cells ≡ inside.count = c.add_each.auto.cells ∙ count in
    front_are_cells inside.count inside.cells c.add_each.new.cells c.self.invariant whole (omega arith)

pub returns : goal.returns
returns c =
    let inside = c.self.inside in
    let count = length-take-le inside.count inside.cells (omega arith) in
    let whole : length c.add_each.new.cells ≡ inside.count = c.add_each.auto.cells ∙ count in
    let value = amounts_in-front inside.count inside.cells c.add_each.new.cells whole ∙ written c in
    record {
      value = value;
      total = ap sum value ∙ sum-mix_of c.args.self.now c.args.other.now c.requires.lengths;
      crudes = ap length value
          ∙ length-mix_of c.args.self.now c.args.other.now;
    }
