use Rattle.std.proofs.Common.{◌≡◌, length, arith, length-drop, ap, ◌∙◌}
use Rattle.std.proofs.lemmas.Slice.{between_to_end}
use Rattle.std.proofs.Math.Seq.{take-add}
use Rattle.outer_edge.proofs.TakesLemmas.{Takes-append}
use Rattle.outer_edge.proofs.sink.write_all.Goals as goal

pub loop-done-preserved : goal.loop-done-preserved
loop-done-preserved g c =
    let text = c.args.text.now in
    record {
      within = omega (arith, c.in_ok-done.ensures.within, length-drop c.loop-done.done text);
      takes =
          let more = rw (between_to_end text c.loop-done.done (length text) (omega arith)) at c.in_ok-done.ensures.takes in
          rw take-add (Takes-append _ _ _ _ _ c.loop-done.invariant.takes more);
      faults = c.in_ok-done.ensures.no_failure_hidden ∙ c.loop-done.invariant.faults;
      untouched = λ empty.
          absurd (let none : length text ≡ 0 = ap length empty in omega (arith, none, c.loop-done-test.true));
    }
