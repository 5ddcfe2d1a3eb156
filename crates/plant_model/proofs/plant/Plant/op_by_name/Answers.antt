use Rattle.std.proofs.Common.{◌≡◌, ◌∙◌, ap, ◌<◌, ◌≤◌}
use Rattle.plant_model.specs.declared.parts.Parts.{Parts}
use Rattle.plant_model.specs.Parts.{position_of, op_names_of, op_count_of}
use Rattle.plant_model.proofs.OpNames.{known_op, unknown_op}
use Rattle.plant_model.proofs.plant.Plant.op_by_name.Goals as goal

pub returns-then-found-operations-clause-known : goal.returns-then-found-operations-clause-known
unfolding op_count_of
returns-then-found-operations-clause-known c = λ named.
    let here = c.as_slice-operations.ensures ∙ ap (λ (parts : Parts). parts.operations) c.parts.ensures.value in
    let first : c.first_named-found.result ≡ position_of c.args.name.now (op_names_of c.args.self.now) = rw here at c.first_named-found.ensures.value in
    let within : c.first_named-found.result < op_count_of c.args.self.now = rw here at c.if-found-operations.true in
    (within, known_op c.args.self.now c.args.name.now c.first_named-found.result first within)

pub returns-else-found-operations-clause-unknown : goal.returns-else-found-operations-clause-unknown
unfolding op_count_of
returns-else-found-operations-clause-unknown c = λ unnamed.
    let here = c.as_slice-operations.ensures ∙ ap (λ (parts : Parts). parts.operations) c.parts.ensures.value in
    let first : c.first_named-found.result ≡ position_of c.args.name.now (op_names_of c.args.self.now) = rw here at c.first_named-found.ensures.value in
    let past : op_count_of c.args.self.now ≤ c.first_named-found.result = rw here at c.if-found-operations.false in
    unknown_op c.args.self.now c.args.name.now c.first_named-found.result first past
