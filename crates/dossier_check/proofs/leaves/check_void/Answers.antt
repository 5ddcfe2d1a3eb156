use Rattle.std.proofs.Common.{◌++◌, Err, ap, sym, ◌∙◌, subst}
use Rattle.std.specs.Result.{result_err}
use Rattle.std.proofs.lemmas.Result.{err_from_is_err_and}
use Rattle.item_lists.specs.Faults.{unless}
use Rattle.leaf_value.specs.LeafValue.{are_contradictory}
use Rattle.leaf_value.specs.Settings.{Setting}
use Rattle.dossier_check.specs.Frames.{setting_of}
use Rattle.dossier_check.specs.NodeReasons.{reason, terms_reasons}
use Rattle.dossier_check.specs.inside.Tests.{Tests}
use Rattle.dossier_check.proofs.VoidLaws.{void_reasons}
use Rattle.dossier_check.proofs.leaves.check_void.Goals as goal

pub returns-in_err-expect : goal.returns-in_err-expect
returns-in_err-expect c =
    let setting : Setting = setting_of c.args.plant.now c.args.dossier.now in
    let first = sym (rw c.at.ensures at c.expect.ensures) ∙ ap result_err c.in_err-expect.was in
    let p = err_from_is_err_and c.from_residual-in_err-expect.result c.from_residual-in_err-expect.ensures.1 in
    let same = void_reasons setting c.args.bx.now c.args.terms.now c.in_ok-rows.field-0 c.in_ok-empty.empty c.args.line c.in_ok-rows.ensures.entries
    c.in_ok-empty.ensures c.in_ok-rows.ensures.reasons in
    subst (Tests (terms_reasons setting c.args.line c.args.terms.now
    ++ unless (are_contradictory setting c.args.bx.now c.args.terms.now) (reason 14 c.args.line))) (sym (p.1 ∙ ap Err p.2)) (same ∙ first)

pub returns : goal.returns
returns c =
    let setting : Setting = setting_of c.args.plant.now c.args.dossier.now in
    let none = sym (rw c.at.ensures at c.expect.ensures) ∙ ap result_err c.in_ok-expect.was in
    let same = void_reasons setting c.args.bx.now c.args.terms.now c.in_ok-rows.field-0 c.in_ok-empty.empty c.args.line c.in_ok-rows.ensures.entries
    c.in_ok-empty.ensures c.in_ok-rows.ensures.reasons in
    same ∙ none
