use Rattle.std.proofs.Common.{arith}
use Rattle.search_node.proofs.FamilyLaws.{total_name}
use Rattle.search_node.proofs.names.total_names.Goals as goal

pub returns : goal.returns
returns c = λ name family there.
    let numbers = total_name c.args.plant.now c.args.n name family there in
    record {
      family = family;
      a = (omega arith, omega arith);
      b = (omega arith, omega arith);
      c = (omega arith, omega arith);
      d = (omega arith, omega arith);
    }
