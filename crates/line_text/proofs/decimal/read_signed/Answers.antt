use Rattle.line_text.proofs.SignedLaws.{signed-found, signed-none}
use Rattle.line_text.proofs.decimal.read_signed.Goals as goal

pub returns-clause-found : goal.returns-clause-found
returns-clause-found c = signed-found c.args.bytes.now c.signed_of.result c.signed_of.ensures

pub returns-clause-none : goal.returns-clause-none
returns-clause-none c = signed-none c.args.bytes.now c.signed_of.result c.signed_of.ensures
