-- What a sink in memory does.
use Rattle.std.specs.Prelude.{ℕ, ◌+◌, List, [], ◌++◌, length, take, Bool, ◌||◌, nat_lt, if◌then◌else◌}
use Rattle.outer_edge.specs.Rose.{next_count}
use Rattle.outer_edge.specs.CallList.{is_listed}

-- the bytes taken so far, how many it takes at a time and in all, which calls fail, how many calls there
-- were, and the count of faults
pub record Basin : Type 0 where
  pub taken : List ℕ
  pub piece : ℕ
  pub room : ℕ
  pub failing : List ℕ
  pub calls : ℕ
  pub faults : ℕ

-- a sink as it begins
abbrev pub basin_of : ℕ → ℕ → List ℕ → Basin
basin_of piece room failing = record {
  taken = [];
  piece = piece;
  room = room;
  failing = failing;
  calls = 0;
  faults = 0;
}

-- the bytes that the next write takes, if it takes any
abbrev pub next_piece : Basin → List ℕ → List ℕ
next_piece sink bytes = take sink.piece bytes

-- the next write fails: it is listed, or what it would take goes beyond the room
abbrev pub write_fails : Basin → List ℕ → Bool
write_fails sink bytes =
    is_listed sink.failing (next_count sink.calls)
    || nat_lt sink.room (length sink.taken + length (next_piece sink bytes))

-- the sink after a write of these bytes: one more call, and the piece taken or one more fault
abbrev pub after_write : Basin → List ℕ → Basin
after_write sink bytes =
    if write_fails sink bytes
    then record sink { calls = next_count sink.calls; faults = next_count sink.faults }
    else record sink { calls = next_count sink.calls; taken = sink.taken ++ next_piece sink bytes }
