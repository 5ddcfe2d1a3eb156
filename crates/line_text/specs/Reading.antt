-- Reading a line from its first word on: what the words say, and the words after those.
use Rattle.std.specs.Prelude.{ℕ, List, [], ◌∷◌, Option, Some, None, if◌then◌else◌, ℤ}
use Rattle.std.specs.Option.{option_map}
use Rattle.std.specs.Str.{bytes_eq}
use Rattle.line_text.specs.Name.{is_name}
use Rattle.line_text.specs.Decimal.{decimal_of, signed_of}
use Rattle.line_text.specs.Words.{parts_at}

-- first this, and then what follows from its answer
infixl 10 ◌>>=◌
-- what is read first, and then what follows from it, if there is anything
abbrev pub ◌>>=◌ : {A B : Type 0} → Option A → (A → Option B) → Option B
None >>= next = None
(Some answer) >>= next = next answer

-- the words after the first, where it is this one
unfoldable pub key_at : List ℕ → List (List ℕ) → Option (List (List ℕ))
key_at key [] = None
key_at key (word ∷ words) = if bytes_eq word key then Some words else None

-- the first word is a decimal of at most limit
unfoldable pub decimal_at : ℕ → List (List ℕ) → Option (ℕ × List (List ℕ))
decimal_at limit [] = None
decimal_at limit (word ∷ words) = option_map (λ number. (number, words)) (decimal_of limit word)

-- it is a decimal with a sign
unfoldable pub signed_at : List (List ℕ) → Option (ℤ × List (List ℕ))
signed_at [] = None
signed_at (word ∷ words) = option_map (λ number. (number, words)) (signed_of word)

-- it is a name
unfoldable pub name_at : List (List ℕ) → Option (List ℕ × List (List ℕ))
name_at [] = None
name_at (word ∷ words) = if is_name word then Some (word, words) else None

-- no words are left
unfoldable pub end_at : List (List ℕ) → Option (List (List ℕ))
end_at [] = Some []
end_at (word ∷ words) = None

-- ---- within a word, a decimal of at most limit up to the mark, and what stands behind the mark
unfoldable pub number_before : ℕ → ℕ → List ℕ → Option (ℕ × List ℕ)
number_before mark limit bytes = do
  parts ← parts_at mark bytes
  number ← decimal_of limit parts.0
  Some (number, parts.1)
