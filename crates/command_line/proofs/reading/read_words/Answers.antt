use Rattle.std.proofs.Common.{sym, refl, map, string_bytes}
use Rattle.command_line.proofs.FormLaws.{form_found}
use Rattle.command_line.proofs.LineLaws.{no_form, not_refused, no_word_fault}
use Rattle.command_line.proofs.reading.read_words.Goals as goal

pub read_line-requires : goal.read_line-requires
read_line-requires c = form_found (map string_bytes c.args.words.now) c.in-Some.form (sym c.in-Some.ensures)

pub returns-in-Some-clause-refused : goal.returns-in-Some-clause-refused
returns-in-Some-clause-refused c =
    let has = form_found (map string_bytes c.args.words.now) c.in-Some.form (sym c.in-Some.ensures) in
    (λ is. absurd (no_word_fault c.read_line.result c.read_line.ensures.memory is), λ refused. absurd (not_refused c.in-Some.form _ has refused))

pub returns-in-None-clause-refused : goal.returns-in-None-clause-refused
returns-in-None-clause-refused c = (λ _. no_form (map string_bytes c.args.words.now) (sym c.in-None.ensures), λ _. refl)
