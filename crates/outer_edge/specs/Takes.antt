-- What a sink has taken.
use Rattle.std.specs.Prelude.{◌≡◌, ℕ, ◌<◌, List, ◌++◌, length, take, ⊤, Option, None, Some}

-- the sink took these bytes after those that it had, where it tells them
abbrev pub Takes : Option (List ℕ) → Option (List ℕ) → List ℕ → Type 0
Takes None new bytes = ⊤
Takes (Some taken) new bytes = new ≡ Some (taken ++ bytes)

-- the sink took a first part of the text, and not the whole of it
abbrev pub TakesPart : Option (List ℕ) → Option (List ℕ) → List ℕ → Type 0
TakesPart old new text = (count : ℕ) × (count < length text) × Takes old new (take count text)
