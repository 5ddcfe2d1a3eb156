use Rattle.std.proofs.Common.{IsTrue, false}
use Rattle.plant_text.proofs.JsonLaws.{json_found, json_none}
use Rattle.plant_text.proofs.read.json.Goals as goal

pub returns-in-Ok : goal.returns-in-Ok
returns-in-Ok c = json_found _ _ c.in-Ok.ensures.ok.0 c.in-Ok.ensures.ok.1

pub returns-in-Err-2 : goal.returns-in-Err-2
returns-in-Err-2 c = json_none _ (c.in-Err.ensures.err (λ memory. let said : IsTrue false = c.if-is_memory.ensures.1 memory in cc))
