-- Lines of words: what stands in plans and in dossiers.
use Rattle.std.specs.Prelude.{ℕ, ◌==◌, List, [], ◌∷◌, ◌++◌, Option, Some, None, if◌then◌else◌}
use Rattle.std.specs.Option.{option_map}
use Rattle.std.specs.List.{slice_split, flat_map}

-- each of these words behind a blank (32)
abbrev pub spaced : List (List ℕ) → List ℕ
spaced words = flat_map (λ word. 32 ∷ word) words

-- the line of these words, without its line feed: single blanks divide them
abbrev pub line_of : List (List ℕ) → List ℕ
line_of [] = []
line_of (word ∷ words) = word ++ spaced words

-- the words of a line; one beside a blank at an end, or between two blanks, is empty
unfoldable pub words_of : List ℕ → List (List ℕ)
words_of line = slice_split (λ byte. byte == 32) line

-- the text of these lines: each ends with a line feed (10)
abbrev pub text_of : List (List (List ℕ)) → List ℕ
text_of lines = flat_map (λ words. line_of words ++ 10 ∷ []) lines

-- what stands before the first byte that is the mark, and what after it
unfoldable pub parts_at : ℕ → List ℕ → Option (List ℕ × List ℕ)
parts_at mark [] = None
parts_at mark (byte ∷ bytes) =
    if byte == mark then Some ([], bytes) else option_map (λ parts. (byte ∷ parts.0, parts.1)) (parts_at mark bytes)
