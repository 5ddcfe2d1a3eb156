use Rattle.std.proofs.lemmas.Fmt.{decimal_injective, signed_decimal_injective}
use Rattle.line_text.proofs.decimal.decimal_laws.Goals as goal

pub returns-clause-decimals : goal.returns-clause-decimals
returns-clause-decimals c = decimal_injective

pub returns-clause-signed : goal.returns-clause-signed
returns-clause-signed c = λ y z first second. signed_decimal_injective y z first.sfits second.sfits
