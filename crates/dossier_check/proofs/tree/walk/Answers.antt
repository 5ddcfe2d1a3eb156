use Rattle.std.proofs.Common.{◌≡◌, ◌+◌, Err, [], length, get_or, ap, sym, ◌∙◌, subst, arith}
use Rattle.std.proofs.lemmas.Result.{err_from_is_err_and}
use Rattle.dossier_check.specs.inside.Tests.{Tests}
use Rattle.dossier_check.specs.inside.Walks.{Pass, pass_of}
use Rattle.dossier_check.proofs.MeetLaws.{walk_refused}
use Rattle.dossier_check.proofs.WalkLaws.{IsWalked, reasons_from, walked_more}
use Rattle.dossier_check.proofs.tree.walk.Goals as goal

pub returns-in_err-value-clause-reasons : goal.returns-in_err-value-clause-reasons
returns-in_err-value-clause-reasons c =
    let p = err_from_is_err_and c.from_residual-in_err-value.result c.from_residual-in_err-value.ensures.1 in
    let w = c.loop-id.invariant.walked in
    let id = c.loop-id.id in
    let node = c.node-item.result in
    let same : c.as_slice-node-items.result.now ≡ c.args.dossier.now.tree = c.as_slice-node-items.ensures in
    let is = subst (λ nodes. node ≡ get_or nodes id node) same c.node-item.is in
    let pass : Pass = pass_of c.args.plant.now c.args.dossier.now c.args.first_line c.args.root in
    subst (Tests (reasons_from pass [] 0 c.args.dossier.now.tree)) (sym (p.1 ∙ ap Err p.2))
    (walk_refused pass c.args.dossier.now.tree id c.loop-id.met c.meet.new.met c.loop-id.best node _ (omega (arith, ap length same)) is w
    (c.in_err-value.ensures.met c.args.root w.earlier w.keeps))

pub loop-id-preserved : goal.loop-id-preserved
loop-id-preserved c =
    let w = c.loop-id.invariant.walked in
    let id = c.loop-id.id in
    let node = c.node-item.result in
    let same : c.as_slice-node-items.result.now ≡ c.args.dossier.now.tree = c.as_slice-node-items.ensures in
    let is = subst (λ nodes. node ≡ get_or nodes id node) same c.node-item.is in
    let pass : Pass = pass_of c.args.plant.now c.args.dossier.now c.args.first_line c.args.root in
    record {
      walked = subst (IsWalked pass c.args.dossier.now.tree (id + 1) c.meet.new.met) (sym c.greater_wide-best.ensures)
          (walked_more pass c.args.dossier.now.tree id c.loop-id.met c.meet.new.met c.loop-id.best c.in_ok-value.value node
          (omega (arith, ap length same)) is w (c.in_ok-value.ensures.met c.args.root w.earlier w.keeps));
      sized = c.in_ok-value.ensures.sized;
    }
