use Rattle.plan_text.proofs.ReadingLaws.{one_more}
use Rattle.plan_text.proofs.plan.read_lines.Goals as goal

pub loop-lines-preserved : goal.loop-lines-preserved
loop-lines-preserved c =
    rw c.in_ok-keep-in-Some.ensures.kept
    (one_more c.args.plant.now c.args.bytes.now c.loop-lines.lines c.next_step.new.lines c.loop-lines.plan c.in-Some.step c.loop-lines.invariant
    c.in-Some.ensures.found)
