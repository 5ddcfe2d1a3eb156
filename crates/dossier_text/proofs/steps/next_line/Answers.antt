use Rattle.dossier_text.proofs.LineLaws.{next-exact, next-number}
use Rattle.dossier_text.proofs.steps.next_line.Goals as goal

pub returns-clause-exact : goal.returns-clause-exact
returns-clause-exact c =
    next-exact c.args.lines.now c.next_line.new.self c.number.result c.next_line.result c.formed.result c.number.ensures c.formed.ensures
    c.next_line.ensures.exact

pub returns-clause-next : goal.returns-clause-next
returns-clause-next c =
    next-number c.args.lines.now c.next_line.new.self c.number.result c.next_line.result c.formed.result c.formed.ensures c.next_line.ensures.exact
