use Rattle.slot_forms.proofs.FormLaws.{root_boxes_are_boxes, plain_cases_say_the_same}
use Rattle.slot_forms.proofs.NormalFormLaws.{plans_have_forms}
use Rattle.slot_forms.proofs.laws.form_laws.Goals as goal

pub returns : goal.returns
returns c =
    let parts = c.args.plant.now in
    let sound = c.sound.ensures.plant in
    let boxes = c.box_laws.ensures in
    let plans = c.legal_plan_laws.ensures in
    let words = c.word_laws.ensures in
    let normal = c.normal_order_laws.ensures in
    record {
      boxes = root_boxes_are_boxes parts boxes.roots sound;
      forms = λ slots begun. plans_have_forms parts slots begun boxes.idle boxes.runs (plans.ranges parts) sound words.plans words.meaning words.entries
          normal.forms;
      same = plain_cases_say_the_same parts;
    }
