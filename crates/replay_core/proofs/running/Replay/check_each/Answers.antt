use Rattle.std.proofs.Common.{◌≡◌, ◌<◌, ◌≤◌, Some, None, Err, sym, ap, ◌∙◌, arith}
use Rattle.std.specs.Result.{result_err}
use Rattle.std.proofs.lemmas.Result.{err_from_is_err_and}
use Rattle.item_lists.specs.Faults.{first_of}
use Rattle.plant_model.specs.Parts.{place_count_of, place_of}
use Rattle.replay_core.specs.Legal.{broken}
use Rattle.replay_core.proofs.EndLaws.{faults_of, faults_of-seen, faults_of-all, rest_faults-next, rest_faults-stop, rest_faults-end}
use Rattle.replay_core.proofs.running.Replay.check_each.Goals as goal

pub loop-p-init : goal.loop-p-init
loop-p-init c = faults_of-all c.args.self.now.parts c.args.self.now.steps c.args.rule

pub loop-p-preserved : goal.loop-p-preserved
loop-p-preserved c =
    let parts = c.args.self.now.parts in
    let steps = c.args.self.now.steps in
    let p = c.loop-p.p in
    let count = ap place_count_of c.plant.ensures in
    let within : p < place_count_of parts = omega arith in
    let same = faults_of-seen parts steps c.args.rule p c.holds_at.result c.number.result c.into.result c.holds_at.ensures c.number.ensures c.into.ensures in
    let none : first_of (faults_of parts steps c.args.rule p (place_of parts p)) ≡ None = ap first_of same ∙ sym c.in_ok-expect_rule.ensures.broken in
    sym (rest_faults-next (faults_of parts steps c.args.rule) parts p within none) ∙ c.loop-p.invariant

pub returns-in_err-expect_rule : goal.returns-in_err-expect_rule
returns-in_err-expect_rule c =
    let count = ap place_count_of c.plant.ensures in
    let parts = c.args.self.now.parts in
    let p = c.loop-p.p in
    let within : p < place_count_of parts = omega arith in
    let faults = faults_of parts c.args.self.now.steps c.args.rule in
    let same = faults_of-seen parts c.args.self.now.steps c.args.rule p c.holds_at.result c.number.result c.into.result c.holds_at.ensures c.number.ensures
    c.into.ensures in
    let found : first_of (faults p (place_of parts p)) ≡ Some c.in_err-expect_rule.field-0.0 = ap first_of same
    ∙ sym c.expect_rule.ensures.broken ∙ ap result_err c.in_err-expect_rule.was in
    let answer = err_from_is_err_and c.from_residual.result c.from_residual.ensures.1 in
    ap result_err (answer.1 ∙ ap Err answer.2) ∙ sym (rest_faults-stop faults parts p c.in_err-expect_rule.field-0.0 within found) ∙ c.loop-p.invariant

pub returns : goal.returns
returns c =
    let parts = c.args.self.now.parts in
    let steps = c.args.self.now.steps in
    let count = ap place_count_of c.plant.ensures in
    let past : place_count_of parts ≤ c.loop-p.p = omega arith in
    sym (rest_faults-end (faults_of parts steps c.args.rule) parts c.loop-p.p past) ∙ c.loop-p.invariant
