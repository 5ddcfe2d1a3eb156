use Rattle.std.proofs.Common.{◌≡◌, [], ◌++◌, take, drop}
use Rattle.line_text.specs.Words.{text_of}
use Rattle.replay_core.specs.declared.order.Order.TheVariants.{ByStart}
use Rattle.replay_core.specs.Legal.{CanRun}
use Rattle.plan_text.specs.Ledger.{step_lines_from}
use Rattle.plan_text.specs.inside.Running.{ran}
use Rattle.plan_text.proofs.ledger_text.write_steps.Given as goal

-- the first operations have run, and what is written and what is left make the whole
abbrev pub invariant-loop-i : goal.invariant-loop-i
invariant-loop-i l = record {
  ran : l.replay ≡ ran l.plant (take l.i l.plan);
  can_run : CanRun l.plant ByStart (take l.i l.plan);
  whole : l.out.items ++ text_of (step_lines_from l.plant (take l.i l.plan) (drop l.i l.plan))
      ≡ l.fn.out.items ++ text_of (step_lines_from l.plant [] l.plan);
}
