use Rattle.std.proofs.Common.{◌≡◌, ◌≤◌, ◌-◌, [], take, length}
use Rattle.outer_edge.specs.Takes.{Takes}
use Rattle.outer_edge.proofs.sink.write_all.Given as goal

-- the first `done` bytes of the text are taken
abbrev pub invariant-loop-done : goal.invariant-loop-done
invariant-loop-done g l =
    let sink = g.K.Sink in
    record {
      within : l.done ≤ length l.text;
      takes : Takes (sink.taken l.fn.out) (sink.taken l.out) (take l.done l.text);
      faults : sink.faults l.out ≡ sink.faults l.fn.out;
      untouched : l.text ≡ [] → l.out ≡ l.fn.out;
    }

abbrev pub decreases-loop-done : goal.decreases-loop-done
decreases-loop-done g l = length l.text - l.done
