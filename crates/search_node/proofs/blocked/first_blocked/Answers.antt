use Rattle.std.proofs.Common.{length, refl, sym, arith, ◌∙◌, ap}
use Rattle.std.proofs.lemmas.Bool.{false≢true}
use Rattle.overlap_graph.proofs.GraphLaws.{independent_sets}
use Rattle.slot_automaton.specs.Blocked.{next_blocked}
use Rattle.search_node.proofs.PrefixLaws.{blocked_here, known_at, none_read, read_more, unblocked_end, unblocked_free}
use Rattle.search_node.proofs.blocked.first_blocked.Goals as goal

pub loop-i-init : goal.loop-i-init
loop-i-init c = rw c.start-state.ensures (none_read c.args.plant.now c.args.bx.now)

pub returns-in_err-op-clause-none : goal.returns-in_err-op-clause-none
returns-in_err-op-clause-none c =
    rw c.from_residual.ensures (unblocked_free c.args.plant.now c.args.bx.now c.loop-i.i c.loop-i.state c.loop-i.invariant (length c.args.bx.now) (omega arith)
    (sym c.in_err-op.ensures.value))

pub step-requires : goal.step-requires
step-requires c =
    let count = (independent_sets c.args.plant.now).count in
    let known = known_at c.args.plant.now c.args.bx.now c.loop-i.i c.in_ok-op.op c.len-i-end.ensures.shape c.requires.within (omega arith)
    (sym c.in_ok-op.ensures.value) in
    rw c.requires.automaton (omega arith)

pub returns-in_default-clause-some : goal.returns-in_default-clause-some
returns-in_default-clause-some c =
    let here = sym c.in_ok-op.ensures.value in
    let known = known_at c.args.plant.now c.args.bx.now c.loop-i.i c.in_ok-op.op c.len-i-end.ensures.shape c.requires.within (omega arith) here in
    blocked_here c.args.plant.now c.args.bx.now c.loop-i.i c.loop-i.state c.loop-i.invariant c.in_ok-op.op (omega arith) here known (length c.args.bx.now)
    (c.in_default.ensures.refused.0 refl)

pub loop-i-preserved : goal.loop-i-preserved
loop-i-preserved c =
    let here = sym c.in_ok-op.ensures.value in
    let known = known_at c.args.plant.now c.args.bx.now c.loop-i.i c.in_ok-op.op c.len-i-end.ensures.shape c.requires.within (omega arith) here in
    read_more c.args.plant.now c.args.bx.now c.loop-i.i c.loop-i.state c.loop-i.invariant c.in_ok-op.op (omega arith) here known c.in-Some.next
    (λ set. false≢true (sym (c.in-Some.ensures.refused.1 set)))
    (c.in-Some.ensures.next ∙ ap (λ masks. next_blocked masks c.loop-i.state c.in_ok-op.op) c.requires.automaton)

pub returns-clause-none : goal.returns-clause-none
returns-clause-none c =
    unblocked_end c.args.plant.now c.args.bx.now c.loop-i.i c.loop-i.state c.loop-i.invariant (length c.args.bx.now) (omega arith)
