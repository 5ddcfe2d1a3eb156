-- Lines of a text, with their numbers.
use Rattle.std.specs.Prelude.{ℕ, ◌+◌, List, Option}
use Rattle.std.specs.Option.{option_map}
use Rattle.line_text.specs.Words.{parts_at}

-- what is left of a text, and the number of its next line
pub record LinesLeft : Type 0 where
  pub rest : List ℕ
  pub number : ℕ

-- the whole text: the first line has the number 1
abbrev pub lines_of : List ℕ → LinesLeft
lines_of text = record { rest = text; number = 1 }

-- the next line without its line feed (10), and what is left behind that
unfoldable pub line_at : LinesLeft → Option (List ℕ × LinesLeft)
line_at lines = option_map (λ parts. (parts.0, record { rest = parts.1; number = lines.number + 1 }))
    (parts_at 10 lines.rest)
