use Rattle.std.proofs.Common.{◌∙◌, append_assoc}
use Rattle.std.proofs.lemmas.Result.{on_ok_weaker}
use Rattle.plant_text.proofs.Joining.{plant_in_parts}
use Rattle.plant_text.proofs.print.write_plant.Goals as goal

pub returns : goal.returns
returns c = on_ok_weaker c.push_text.result
    (λ last. last ∙ rw (
      c.in_ok-write_section.ensures,
      c.in_ok-write_places.ensures,
      c.in_ok-write_front.ensures,
      c.format_for-format.ensures,
      c.as_slice.ensures,
      c.as_slice-2.ensures,
      plant_in_parts c.args.parts.now,
    ) (simp append_assoc))
    c.push_text.ensures.ok
