use Rattle.std.proofs.Common.{◌≡◌, Err, arith, ap, sym, ◌∙◌}
use Rattle.std.specs.Result.{result_err}
use Rattle.std.proofs.lemmas.Result.{err_from_is_err_and}
use Rattle.item_lists.specs.Faults.{first_of}
use Rattle.item_lists.proofs.FaultLaws.{each_from-next, each_from-stop, each_from-end}
use Rattle.plant_model.proofs.faults.each.first_of_each.Goals as goal

pub returns-in_err-fault_of : goal.returns-in_err-fault_of
returns-in_err-fault_of g c faults_of computes =
    let found : result_err c.fault_of.result ≡ first_of (faults_of c.loop-entry.index c.entry-item.result) =
    computes c.loop-entry.index _ c.fault_of.result c.fault_of.ensures in
    let p = err_from_is_err_and c.from_residual.result c.from_residual.ensures.1 in
    ap result_err (p.1 ∙ ap Err p.2)
    ∙ sym (c.loop-entry.invariant.rest faults_of computes
    ∙ each_from-stop faults_of c.loop-entry.index c.loop-entry.entry-index c.args.entries.now c.entry-item.result c.in_err-fault_of.field-0.0
    (omega arith) c.entry-item.is (sym found ∙ ap result_err c.in_err-fault_of.was))

pub loop-entry-preserved : goal.loop-entry-preserved
loop-entry-preserved g c = record {
  counted = omega arith;
  rest = λ faults_of computes.
      let none : result_err c.fault_of.result ≡ first_of (faults_of c.loop-entry.index c.entry-item.result) =
      computes c.loop-entry.index _ c.fault_of.result c.fault_of.ensures in
      c.loop-entry.invariant.rest faults_of computes
      ∙ each_from-next faults_of c.loop-entry.index c.loop-entry.entry-index c.args.entries.now c.entry-item.result (omega arith) c.entry-item.is
      (sym none ∙ ap result_err c.in_ok-fault_of.was);
}

pub returns : goal.returns
returns g c faults_of computes =
    sym (c.loop-entry.invariant.rest faults_of computes ∙ each_from-end faults_of c.loop-entry.index c.loop-entry.entry-index c.args.entries.now (omega arith))
