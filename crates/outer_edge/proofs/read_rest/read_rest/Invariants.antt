use Rattle.std.proofs.Common.{◌≤◌, vec_len}
use Rattle.std.specs.Io.KnownBytes.{Consumes}
use Rattle.outer_edge.proofs.read_rest.read_rest.Given as goal

-- the bytes so far are those that the reader gave, and no more than the limit
abbrev pub invariant-loop : goal.invariant-loop
invariant-loop g l =
    let reader = g.F.Read in
    record {
      within : vec_len l.bytes ≤ l.limit;
      read : Consumes (reader.remaining l.fn.file) (reader.remaining l.file) l.bytes.items;
    }
