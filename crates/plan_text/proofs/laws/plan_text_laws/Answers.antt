use Rattle.plan_text.proofs.TextLaws.{read_one_way}
use Rattle.plan_text.proofs.laws.plan_text_laws.Goals as goal

pub returns : goal.returns
returns c = read_one_way
