use Rattle.std.proofs.Common.{◌∙◌, sym, arith}
use Rattle.search_node.proofs.FamilyLaws.{demand_name}
use Rattle.search_node.proofs.names.sided_names.Goals as goal

pub returns : goal.returns
returns c = λ n nine name family there.
    let numbers = demand_name c.args.plant.now n name family there in
    record {
      family = family ∙ sym nine;
      a = (omega arith, omega arith);
      b = (omega arith, omega arith);
      c = (omega arith, omega arith);
      d = (omega arith, omega arith);
    }
