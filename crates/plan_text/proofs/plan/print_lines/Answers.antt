use Rattle.std.proofs.Common.{◌≡◌, take, subst, arith, List}
use Rattle.std.specs.Prelude.{All}
use Rattle.std.proofs.lemmas.List.{take_all}
use Rattle.replay_core.specs.declared.timed.Timed.{Timed}
use Rattle.plan_text.specs.Plans.{IsSayable}
use Rattle.plan_text.proofs.PlanLaws.{line_more, sayable_more}
use Rattle.plan_text.proofs.plan.print_lines.Goals as goal

pub loop-i-preserved : goal.loop-i-preserved
loop-i-preserved c =
    let within = c.loop-i-test.true in
    record {
      whole = line_more c.args.plant.now c.args.plan.now c.loop-i.i _ c.loop-i.out.items c.write_step_line.new.out.items _ within
          c.in_ok-write_step_line.ensures.line c.loop-i.invariant.whole;
      sayable = sayable_more c.args.plant.now c.args.plan.now c.loop-i.i _ within c.loop-i.invariant.sayable c.in_ok-write_step_line.ensures.sayable;
    }

pub returns-clause-sayable : goal.returns-clause-sayable
returns-clause-sayable c =
    let whole : take c.loop-i.i c.args.plan.now ≡ c.args.plan.now = take_all c.loop-i.i c.args.plan.now (omega arith) in
    subst (λ (ts : List Timed). All (IsSayable c.args.plant.now) ts) whole c.loop-i.invariant.sayable
