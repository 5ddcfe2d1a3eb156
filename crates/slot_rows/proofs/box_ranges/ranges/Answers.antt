use Rattle.std.proofs.Common.{◌≡◌, ◌≤◌, length, sym, ◌∙◌, subst, arith}
use Rattle.linear_form.specs.Bounds.{Bounds}
use Rattle.linear_form.specs.Columns.{Extent}
use Rattle.plant_model.specs.Parts.{op_count_of}
use Rattle.row_forms.specs.Columns.{extent_of}
use Rattle.slot_rows.specs.Fits.{WeighFitRows, WeighFitTerms}
use Rattle.slot_rows.proofs.FitLaws.{weigh_fit_rows, weigh_fit_terms}
use Rattle.slot_rows.proofs.GivenLaws.{all-given, given-all}
use Rattle.slot_rows.proofs.box_ranges.ranges.Goals as goal

pub set_slots-requires : goal.set_slots-requires
set_slots-requires c =
    let made : Extent = record {
      slots = c.len.result;
      ops = c.op_count.result;
      crudes = c.crude_count.result;
      vessels = c.vessel_count.result;
    } in
    let same : made ≡ extent_of c.args.plant.now (length c.args.bx.now) =
    (λ i. record {
      slots = c.len.ensures.value i;
      ops = c.op_count.ensures.value i;
      crudes = c.crude_count.ensures.value i;
      vessels = c.vessel_count.ensures.value i;
    }) in
    record { extent = c.in_ok-ranges.ensures.extent ∙ same }

pub returns-clause-value : goal.returns-clause-value
returns-clause-value c =
    let parts = c.args.plant.now in
    let box = c.args.bx.now in
    let new = c.set_waits.new.ranges in
    let few : op_count_of parts ≤ 255 = (let most = c.sound.ensures.plant.ops in omega arith) in
    let kept = c.set_waits.ensures.kept in
    given-all parts box new few kept.extent c.ends-ends.ensures.count
    (all-given parts box c.set_slots.new.ranges new kept c.set_slots.ensures.given c.set_waits.ensures.given)

pub returns-clause-rows : goal.returns-clause-rows
returns-clause-rows c =
    let parts = c.args.plant.now in
    let box = c.args.bx.now in
    subst (λ (bounds : Bounds). WeighFitRows parts (length box) bounds) (sym (returns-clause-value c))
    (weigh_fit_rows parts box c.sound.ensures.plant c.row_form_laws.ensures.few c.len.ensures.shape)

pub returns-clause-objectives : goal.returns-clause-objectives
returns-clause-objectives c =
    let parts = c.args.plant.now in
    let box = c.args.bx.now in
    subst (λ (bounds : Bounds). WeighFitTerms parts (length box) bounds) (sym (returns-clause-value c))
    (weigh_fit_terms parts box c.sound.ensures.plant c.len.ensures.shape)
