use Rattle.std.proofs.Common.{◌≡◌, [], ◌∷◌, ◌++◌, sym, ap₂, ◌∙◌, arith, rules, length-append}
use Rattle.std.proofs.lemmas.List.{take_more}
use Rattle.plan_text.proofs.TextLaws.{AreOpLines-push}
use Rattle.crude_run.proofs.SolutionLaws.{plan_of-push}
use Rattle.crude_run.proofs.conclude.op_lines.Goals as goal

pub loop-i-preserved : goal.loop-i-preserved
loop-i-preserved c =
    let pushed : c.push.new.self ≡ c.loop-i.lines ++ c.in_ok-line.line ∷ [] = search rules in
    let count = c.loop-i.invariant.count in
    let number = c.in_ok-line.ensures.number in
    rw pushed
    (record {
      so_far = plan_of-push c.args.plant.now c.loop-i.lines c.in_ok-line.line
          ∙ ap₂ (λ xs x. xs ++ x ∷ []) c.loop-i.invariant.so_far c.in_ok-line.ensures.operation
          ∙ sym (take_more c.args.plan.now c.loop-i.i _ c.loop-i-test.true);
      numbered = AreOpLines-push 1 c.loop-i.lines c.in_ok-line.line c.loop-i.invariant.numbered (omega arith) c.in_ok-line.ensures.form;
      count = length-append c.loop-i.lines (c.in_ok-line.line ∷ []) ∙ omega arith;
    })
