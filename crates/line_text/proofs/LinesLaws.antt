-- Lines, and what stands before and behind their line feeds.
use Rattle.std.proofs.Common.{◌≡◌, ℕ, ◌+◌, List, Option, Some, None, refl, sym, ap}
use Rattle.std.specs.Option.{option_map}
use Rattle.std.proofs.lemmas.Option.{same_Some}
use Rattle.line_text.specs.Words.{parts_at}
use Rattle.line_text.specs.Lines.{LinesLeft, line_at}

abbrev behind : LinesLeft → List ℕ × List ℕ → List ℕ × LinesLeft
behind lines parts = (parts.0, record { rest = parts.1; number = lines.number + 1 })

parts_of : (lines : LinesLeft) (parts : Option (List ℕ × List ℕ)) (line : List ℕ) (after : LinesLeft) → option_map (behind lines) parts ≡ Some (line, after) →
    (parts ≡ Some (line, after.rest)) × (after.number ≡ lines.number + 1)
parts_of lines None line after found = absurd cc
parts_of lines (Some parts) line after found =
    let same : behind lines parts ≡ (line, after) = same_Some (behind lines parts) (line, after) found in
    (ap (λ (read : List ℕ × LinesLeft). Some (read.0, read.1.rest)) same, sym (ap (λ (read : List ℕ × LinesLeft). read.1.number) same))

none_of : (lines : LinesLeft) (parts : Option (List ℕ × List ℕ)) → option_map (behind lines) parts ≡ None → parts ≡ None
none_of lines None found = refl
none_of lines (Some parts) found = absurd cc

-- a line that was read stands before the first line feed, and its number is passed
pub line_at-some : (lines : LinesLeft) (line : List ℕ) (after : LinesLeft) → line_at lines ≡ Some (line, after) →
    (parts_at 10 lines.rest ≡ Some (line, after.rest)) × (after.number ≡ lines.number + 1)
unfolding line_at
line_at-some lines line after found = parts_of lines (parts_at 10 lines.rest) line after found

-- where no line is read there is no line feed
pub line_at-none : (lines : LinesLeft) → line_at lines ≡ None → parts_at 10 lines.rest ≡ None
unfolding line_at
line_at-none lines found = none_of lines (parts_at 10 lines.rest) found
