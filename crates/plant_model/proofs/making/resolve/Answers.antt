use Rattle.std.proofs.Common.{◌≡◌, ◌∙◌, ap, arith}
use Rattle.plant_model.specs.Parts.{place_by_name_of, place_of, kind_from, resolved}
use Rattle.plant_model.proofs.OpsAreSound.{ends_within, few_places}
use Rattle.plant_model.proofs.making.resolve.Goals as goal

pub overflow_cast-result : goal.overflow_cast-result
overflow_cast-result c =
    let named : c.place_by_name-from.result ≡ place_by_name_of c.args.parts.now c.args.operation.now.from =
    c.place_by_name-from.ensures ∙ ap (place_by_name_of c.args.parts.now) c.as_slice.ensures in
    omega (arith, ends_within c.args.parts.now c.args.operation.now c.requires.operation, few_places c.args.parts.now c.requires.parts.few)

pub overflow_cast-result-2 : goal.overflow_cast-result-2
overflow_cast-result-2 c =
    let named : c.place_by_name-to.result ≡ place_by_name_of c.args.parts.now c.args.operation.now.to =
    c.place_by_name-to.ensures ∙ ap (place_by_name_of c.args.parts.now) c.as_slice-2.ensures in
    omega (arith, ends_within c.args.parts.now c.args.operation.now c.requires.operation, few_places c.args.parts.now c.requires.parts.few)

pub kind_at-requires : goal.kind_at-requires
kind_at-requires c =
    let named : c.place_by_name-from.result ≡ place_by_name_of c.args.parts.now c.args.operation.now.from =
    c.place_by_name-from.ensures ∙ ap (place_by_name_of c.args.parts.now) c.as_slice.ensures in
    omega (arith, ends_within c.args.parts.now c.args.operation.now c.requires.operation)

pub returns : goal.returns
unfolding resolved
returns c =
    let from : c.place_by_name-from.result ≡ place_by_name_of c.args.parts.now c.args.operation.now.from =
    c.place_by_name-from.ensures ∙ ap (place_by_name_of c.args.parts.now) c.as_slice.ensures in
    let to : c.place_by_name-to.result ≡ place_by_name_of c.args.parts.now c.args.operation.now.to =
    c.place_by_name-to.ensures ∙ ap (place_by_name_of c.args.parts.now) c.as_slice-2.ensures in
    let kind : c.kind_from.result ≡ kind_from (place_of c.args.parts.now (place_by_name_of c.args.parts.now c.args.operation.now.from)).kind =
    c.kind_from.ensures ∙ ap kind_from (c.kind_at.ensures ∙ ap (λ p. (place_of c.args.parts.now p).kind) from) in
    rw (from, to, kind, c.unsigned_range.ensures, c.unsigned_range-2.ensures, c.unsigned_range-3.ensures)
