use Rattle.std.proofs.Common.{Err, ap, sym, ◌∙◌, subst}
use Rattle.std.specs.Result.{result_err}
use Rattle.std.proofs.lemmas.Result.{err_from_is_err_and}
use Rattle.dossier_check.specs.inside.Walks.{MeetsInner}
use Rattle.dossier_check.proofs.MeetLaws.{ticket_refused, split_refused, split_passed}
use Rattle.dossier_check.proofs.tree.meet_inner.Goals as goal

pub returns-in_err-expect-clause-met : goal.returns-in_err-expect-clause-met
returns-in_err-expect-clause-met c = λ root earlier id keeps.
    let first = sym (rw c.at.ensures at c.expect.ensures) ∙ ap result_err c.in_err-expect.was in
    let p = err_from_is_err_and c.from_residual.result c.from_residual.ensures.1 in
    subst (MeetsInner root _ earlier id c.args.line c.args.bx.now c.args.ticket c.args.split c.args.met.now) (sym (p.1 ∙ ap Err p.2))
    (ticket_refused root _ earlier id c.args.met.now c.args.ticket c.args.line c.args.bx.now c.args.split c.is_free.result keeps c.is_free.ensures _ first)

pub returns-in_err-left-clause-met : goal.returns-in_err-left-clause-met
returns-in_err-left-clause-met c = λ root earlier id keeps.
    let none = sym (rw c.at.ensures at c.expect.ensures) ∙ ap result_err c.in_ok-expect.was in
    let p = err_from_is_err_and c.from_residual-in_err-left.result c.from_residual-in_err-left.ensures.1 in
    subst (MeetsInner root _ earlier id c.args.line c.args.bx.now c.args.ticket c.args.split c.args.met.now) (sym (p.1 ∙ ap Err p.2))
    (split_refused root _ earlier id c.args.met.now c.args.ticket c.args.line c.args.bx.now c.args.split c.is_free.result keeps c.is_free.ensures
    c.args.met.now _ none c.in_err-left.ensures.reasons)

pub returns-clause-met : goal.returns-clause-met
returns-clause-met c = λ root earlier id keeps.
    let none = sym (rw c.at.ensures at c.expect.ensures) ∙ ap result_err c.in_ok-expect.was in (
      split_passed root _ earlier id c.args.met.now c.args.ticket c.args.line c.args.bx.now c.args.split c.is_free.result keeps c.is_free.ensures
          none c.in_ok-left.ensures.reasons,
      c.hold.ensures.keeps root c.args.bx.now earlier c.args.split id c.in_ok-left.ensures.left c.in_ok-left.ensures.right keeps,
    )

pub returns-clause-sized : goal.returns-clause-sized
returns-clause-sized c = λ sized.
    c.hold.ensures.sized _ c.in_ok-left.ensures.left_size c.in_ok-left.ensures.right_size sized
