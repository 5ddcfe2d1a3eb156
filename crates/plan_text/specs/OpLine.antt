-- A plan's lines: one operation each.
use Rattle.std.specs.Prelude.{ℕ, ◌-◌, ◌^◌, ◌<◌, List, [], ◌∷◌, IsTrue, Option, Some, decimal, codes}
use Rattle.line_text.specs.Name.{is_name}
use Rattle.line_text.specs.Words.{line_of}
use Rattle.line_text.specs.Reading.{◌>>=◌, key_at, decimal_at, name_at, end_at}
use Rattle.plan_text.specs.declared.op_line.OpLine.{OpLine}

-- the word `op`, the number of the line, the name of the operation, its start and end in minutes, and its volume
abbrev pub op_line_words : OpLine → List (List ℕ)
op_line_words line =
    codes "op" ∷ decimal line.number ∷ line.name ∷ decimal line.start ∷ decimal line.end ∷ decimal line.volume ∷ []

-- the line without its line feed
abbrev pub op_line_bytes : OpLine → List ℕ
op_line_bytes line = line_of (op_line_words line)

-- what a line can say: numbers of 32 bits, and a name
pub record IsOpLine (line : OpLine) : Type 0 where
  pub number : line.number < 2 ^ 32
  pub name : IsTrue (is_name line.name)
  pub start : line.start < 2 ^ 32
  pub end : line.end < 2 ^ 32
  pub volume : line.volume < 2 ^ 32

-- a line read word by word
unfoldable pub op_line_at : List (List ℕ) → Option OpLine
op_line_at words = do
  behind_op ← key_at (codes "op") words
  number ← decimal_at (2 ^ 32 - 1) behind_op
  name ← name_at number.1
  start ← decimal_at (2 ^ 32 - 1) name.1
  end ← decimal_at (2 ^ 32 - 1) start.1
  volume ← decimal_at (2 ^ 32 - 1) end.1
  none ← end_at volume.1
  Some (record { number = number.0; name = name.0; start = start.0; end = end.0; volume = volume.0 })
