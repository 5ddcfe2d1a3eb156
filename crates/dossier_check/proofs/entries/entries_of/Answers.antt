use Rattle.std.proofs.Common.{◌≤◌, Err, length, arith, ap, sym, ◌∙◌, subst}
use Rattle.std.proofs.lemmas.List.{drop_all, take_all, take_more}
use Rattle.std.proofs.lemmas.Result.{err_from_is_err_and}
use Rattle.item_lists.specs.Faults.{first_of}
use Rattle.leaf_value.specs.Settings.{Setting}
use Rattle.dossier_check.specs.Frames.{setting_of}
use Rattle.dossier_check.specs.NodeReasons.{terms_reasons}
use Rattle.dossier_check.specs.inside.Entering.{AreEntriesOf}
use Rattle.dossier_check.specs.inside.Tests.{Tests}
use Rattle.dossier_check.proofs.WalkLaws.{terms-next, terms-refused}
use Rattle.dossier_check.proofs.entries.entries_of.Goals as goal

pub loop-term-preserved : goal.loop-term-preserved
loop-term-preserved c =
    let setting : Setting = setting_of c.args.plant.now c.args.dossier.now in
    let i = c.loop-term.term-index in
    let terms = c.args.terms.now in
    record {
      rest = sym (terms-next setting c.args.line i terms _ (omega arith) c.in_ok-enter.ensures.reasons) ∙ c.loop-term.invariant.rest;
      entries = subst (λ front. AreEntriesOf c.args.plant.now setting front c.enter.new.self) (sym (take_more terms i _ (omega arith)))
          (c.in_ok-enter.ensures.entries _ c.loop-term.invariant.entries);
    }

pub returns-in_err-enter-clause-reasons : goal.returns-in_err-enter-clause-reasons
returns-in_err-enter-clause-reasons c =
    let setting : Setting = setting_of c.args.plant.now c.args.dossier.now in
    let p = err_from_is_err_and c.from_residual.result c.from_residual.ensures.1 in
    subst (Tests (terms_reasons setting c.args.line c.args.terms.now)) (sym (p.1 ∙ ap Err p.2))
    (terms-refused setting c.args.line c.loop-term.term-index c.args.terms.now _ _ (omega arith) c.loop-term.invariant.rest c.in_err-enter.ensures.reasons)

pub returns-clause-reasons : goal.returns-clause-reasons
returns-clause-reasons c =
    let setting : Setting = setting_of c.args.plant.now c.args.dossier.now in
    let past : length c.args.terms.now ≤ c.loop-term.term-index = omega arith in
    sym c.loop-term.invariant.rest ∙ ap (λ rest. first_of (terms_reasons setting c.args.line rest)) (drop_all c.loop-term.term-index c.args.terms.now past)

pub returns-clause-entries : goal.returns-clause-entries
returns-clause-entries c =
    let setting : Setting = setting_of c.args.plant.now c.args.dossier.now in
    let past : length c.args.terms.now ≤ c.loop-term.term-index = omega arith in
    subst (λ front. AreEntriesOf c.args.plant.now setting front c.loop-term.entries) (take_all c.loop-term.term-index c.args.terms.now past)
    c.loop-term.invariant.entries
