use Rattle.std.proofs.Common.{◌∙◌, append_assoc}
use Rattle.std.proofs.lemmas.Result.{on_ok_weaker}
use Rattle.plant_text.proofs.Joining.{operation_in_parts}
use Rattle.plant_text.proofs.entry_writers.write_operation.Goals as goal

pub returns : goal.returns
returns c = on_ok_weaker c.push_text.result
    (λ last. last ∙ rw (c.in_ok-write_ranges.ensures, c.in_ok-write_route.ensures, operation_in_parts c.args.operation.now) (simp append_assoc))
    c.push_text.ensures.ok
