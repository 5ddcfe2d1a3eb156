use Rattle.std.specs.Io.KnownBytes.{Keeps}
use Rattle.outer_edge.proofs.write_some.write_some.Given as goal

-- nothing is written yet
abbrev pub invariant-loop : goal.invariant-loop
invariant-loop g l =
    let sink = g.W.Write in
    Keeps (sink.contents l.fn.writer) (sink.contents l.writer)
