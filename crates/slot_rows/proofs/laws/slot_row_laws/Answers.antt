use Rattle.slot_rows.proofs.HoldLaws.{slot_rows_hold}
use Rattle.slot_rows.proofs.PlainLaws.{losses_fit, plain_values_fit}
use Rattle.slot_rows.proofs.laws.slot_row_laws.Goals as goal

pub returns : goal.returns
returns c =
    let parts = c.args.plant.now in
    let sound = c.sound.ensures.plant in
    let forms = c.row_form_laws.ensures in
    record {
      rows = slot_rows_hold parts sound;
      plain = plain_values_fit parts sound forms.few forms.once forms.columns;
      losses = losses_fit parts sound forms.once forms.columns;
    }
