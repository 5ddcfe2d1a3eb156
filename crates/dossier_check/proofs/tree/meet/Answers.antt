use Rattle.std.proofs.Common.{◌≡◌, ◌+◌, Some, None, Err, length, ap, sym, ◌∙◌, subst, arith}
use Rattle.std.proofs.lemmas.Result.{err_from_is_err_and}
use Rattle.item_lists.specs.Faults.{first_of}
use Rattle.dossier_check.specs.Earlier.{box_of}
use Rattle.dossier_check.specs.NodeReasons.{inner_reasons}
use Rattle.dossier_check.specs.inside.Walks.{Keeps, KeepsWith, MeetsInner, Pass, pass_of, Meets}
use Rattle.dossier_check.proofs.MeetLaws.{inner_refused, inner_met}
use Rattle.dossier_check.proofs.tree.meet.Goals as goal

pub returns-in_err-meet_inner-in-Inner-clause-met : goal.returns-in_err-meet_inner-in-Inner-clause-met
returns-in_err-meet_inner-in-Inner-clause-met c = λ root earlier keeps.
    let id = c.args.id in
    let box = c.in-Some.bx in
    let ticket = c.in-Inner.ticket in
    let split = c.in-Inner.split in
    let pass : Pass = pass_of c.args.plant.now c.args.dossier.now c.args.first_line root in
    let count : length c.take.new.self.held.items ≡ pass.nodes = ap length c.take.ensures.held ∙ c.requires.tickets in
    let has : box_of root earlier id ≡ Some box = sym (keeps.waiting id (omega arith) c.requires.next) ∙ sym c.in-Some.ensures.value in
    let after = c.take.ensures.keeps root pass.nodes earlier keeps in
    let met = c.in_err-meet_inner-in-Inner.ensures.met root earlier (id + 1) (subst (λ n. Keeps root n earlier (id + 1) c.take.new.self) (sym count) after) in
    let p = err_from_is_err_and c.from_residual.result c.from_residual.ensures.1 in
    subst (Meets pass earlier id c.args.node.now c.meet_inner.new.met) (sym (p.1 ∙ ap Err p.2))
    (inner_refused pass earlier id c.meet_inner.new.met box ticket split c.args.node.now has c.in-Inner.is _
    (subst (λ n. MeetsInner {X = Unit {0}} root n earlier (id + 1) (pass.first + id) box ticket split c.meet_inner.new.met
    (Err c.in_err-meet_inner-in-Inner.field-0.0)) count met))

pub returns-in-Inner-clause-met : goal.returns-in-Inner-clause-met
returns-in-Inner-clause-met c = λ root earlier keeps.
    let id = c.args.id in
    let box = c.in-Some.bx in
    let ticket = c.in-Inner.ticket in
    let split = c.in-Inner.split in
    let pass : Pass = pass_of c.args.plant.now c.args.dossier.now c.args.first_line root in
    let count : length c.take.new.self.held.items ≡ pass.nodes = ap length c.take.ensures.held ∙ c.requires.tickets in
    let has : box_of root earlier id ≡ Some box = sym (keeps.waiting id (omega arith) c.requires.next) ∙ sym c.in-Some.ensures.value in
    let after = c.take.ensures.keeps root pass.nodes earlier keeps in
    let met = c.in_ok-meet_inner-in-Inner.ensures.met root earlier (id + 1) (subst (λ n. Keeps root n earlier (id + 1) c.take.new.self) (sym count) after) in
    let clean = subst (λ n. first_of (inner_reasons n earlier (pass.first + id) box ticket split) ≡ None) count met.0 in
    let kept = subst (λ n. KeepsWith root n earlier (id + 1) box ticket split c.meet_inner.new.met) count met.1 in
    inner_met pass earlier id c.meet_inner.new.met box ticket split c.args.node.now has c.in-Inner.is clean kept
