use Rattle.slot_automaton.proofs.automaton.Automaton.step.Goals as goal
use Rattle.slot_automaton.proofs.MaskLaws.{set_next}

pub returns-clause-blocked : goal.returns-clause-blocked
returns-clause-blocked c = λ a.
    rw (c.below.ensures, c.as_slice-independent.ensures, c.self.view_is) (set_next c.args.self.now c.args.state c.args.op a)
