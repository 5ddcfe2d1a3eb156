use Rattle.std.proofs.Common.{◌∙◌, sym, arith}
use Rattle.search_node.proofs.FamilyLaws.{volume_name}
use Rattle.search_node.proofs.names.operation_names.Goals as goal

pub returns : goal.returns
returns c = λ two sides name family there.
    let numbers = volume_name c.args.plant.now c.args.n name family there in
    record {
      family = family ∙ sym two;
      a = (omega arith, omega arith);
      b = (omega arith, omega arith);
      c = (omega arith, omega arith);
      d = (omega arith, omega arith);
    }
