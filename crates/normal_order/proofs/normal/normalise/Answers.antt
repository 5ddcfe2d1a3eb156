use Rattle.std.proofs.Common.{◌≡◌, [], take, get_or, ap, sym, subst, ◌∙◌}
use Rattle.std.specs.List.{insert}
use Rattle.std.proofs.lemmas.List.{take_all}
use Rattle.replay_core.specs.declared.timed.Timed.{Timed}
use Rattle.normal_order.specs.NormalWords.{AreKnown, IsNormalForm}
use Rattle.normal_order.specs.inside.Seats.{seat_of}
use Rattle.normal_order.proofs.FormLaws.{all_seated, all_seated-known, all_seated-more, all_seated_is_normal_form}
use Rattle.normal_order.proofs.normal.normalise.Goals as goal

pub seat-seat-requires-clause-steps : goal.seat-seat-requires-clause-steps
seat-seat-requires-clause-steps c =
    let parts = c.args.plant.now in
    let word = c.as_slice-step-items.ensures in
    let seated = c.loop-step.invariant ∙ ap (λ steps. all_seated parts (take c.loop-step.step-index steps)) word in
    subst (AreKnown parts) (sym (c.as_slice.ensures.value ∙ seated)) (all_seated-known parts c.args.word c.loop-step.step-index c.requires)

pub loop-step-preserved : goal.loop-step-preserved
loop-step-preserved c =
    let parts = c.args.plant.now in
    let steps = c.as_slice-step-items.result.now in
    let k = c.loop-step.step-index in
    let d : Timed = record { op = 0; start = 0; end = 0; volume = 0 } in
    let t = get_or steps k d in
    let done = all_seated parts (take k steps) in
    let seat = c.seat-seat.ensures.value ∙ ap (seat_of parts t.op) (c.as_slice.ensures.value ∙ c.loop-step.invariant) in
    c.in_ok-insert.ensures.items ∙ ap (λ xs. insert xs c.seat-seat.result t) c.loop-step.invariant ∙ ap (λ n. insert done n t) seat
    ∙ sym (all_seated-more parts steps k d c.loop-step-test.true)

form : (c : goal.After-drop-word-inside-2) → c.from_vec.result ≡ all_seated c.args.plant.now c.args.word
form c =
    let parts = c.args.plant.now in
    let steps = c.as_slice-step-items.result.now in
    c.from_vec.ensures ∙ c.loop-step.invariant ∙ ap (all_seated parts) (take_all c.loop-step.step-index steps c.loop-step-test.false)
    ∙ ap (all_seated parts) c.as_slice-step-items.ensures

pub returns-clause-normal : goal.returns-clause-normal
returns-clause-normal c =
    subst (IsNormalForm c.args.plant.now c.args.word) (sym (form c)) (all_seated_is_normal_form c.args.plant.now c.args.word c.requires)

pub returns-clause-same : goal.returns-clause-same
returns-clause-same c = c.word_laws.ensures.meaning [] _ _ (returns-clause-normal c).equivalent

pub returns-clause-entries : goal.returns-clause-entries
returns-clause-entries c = c.word_laws.ensures.entries _ _ (returns-clause-normal c).equivalent
