-- What stood where a chain of steps had an answer: the first step's word, and what the rest of the chain says of the words behind it.
use Rattle.std.proofs.Common.{◌≡◌, ℕ, ◌^◌, ◌<◌, ◌≤◌, true, List, [], ◌∷◌, ◌++◌, Option, Some, ℤ, FitsSigned}
use Rattle.std.specs.Prelude.{decimal}
use Rattle.std.specs.Int.{w64}
use Rattle.std.specs.Fmt.{signed_decimal}
use Rattle.line_text.specs.Name.{is_name}
use Rattle.line_text.specs.Reading.{◌>>=◌, key_at, decimal_at, signed_at, name_at, end_at, number_before}
use Rattle.line_text.proofs.ReadingLaws.{step_some, key_at-some, decimal_at-some, signed_at-some, name_at-some, end_at-some, number_before-some}

abbrev Words : Type 0
Words = List (List ℕ)

pub behind_key : {B P : Type 0} (key : List ℕ) (words : Words) (next : Words → Option B) (y : B) → (key_at key words >>= next) ≡ Some y
    → ((rest : Words) → words ≡ key ∷ rest → next rest ≡ Some y → P) → P
behind_key key words next y found goes =
    let step = step_some (key_at key words) next y found in
    goes step.0 (key_at-some key words step.0 step.1) step.2

pub behind_decimal : {B P : Type 0} (limit : ℕ) (words : Words) (next : ℕ × Words → Option B) (y : B) → (decimal_at limit words >>= next) ≡ Some y →
    limit < 2 ^ 64
    → ((n : ℕ) (rest : Words) → words ≡ decimal n ∷ rest → n ≤ limit → next (n, rest) ≡ Some y → P) → P
behind_decimal limit words next y found small goes =
    let step = step_some (decimal_at limit words) next y found in
    let word = decimal_at-some limit words step.0 step.1 small in
    goes step.0.0 step.0.1 word.0 word.1 step.2

pub behind_signed : {B P : Type 0} (words : Words) (next : ℤ × Words → Option B) (y : B) → (signed_at words >>= next) ≡ Some y
    → ((z : ℤ) (rest : Words) → words ≡ signed_decimal z ∷ rest → FitsSigned w64 z → next (z, rest) ≡ Some y → P) → P
behind_signed words next y found goes =
    let step = step_some (signed_at words) next y found in
    let word = signed_at-some words step.0 step.1 in
    goes step.0.0 step.0.1 word.0 word.1 step.2

pub behind_name : {B P : Type 0} (words : Words) (next : List ℕ × Words → Option B) (y : B) → (name_at words >>= next) ≡ Some y
    → ((name : List ℕ) (rest : Words) → words ≡ name ∷ rest → is_name name ≡ true → next (name, rest) ≡ Some y → P) → P
behind_name words next y found goes =
    let step = step_some (name_at words) next y found in
    let word = name_at-some words step.0 step.1 in
    goes step.0.0 step.0.1 word.0 word.1 step.2

pub behind_end : {B P : Type 0} (words : Words) (next : Words → Option B) (y : B) → (end_at words >>= next) ≡ Some y
    → ((rest : Words) → words ≡ [] → next rest ≡ Some y → P) → P
behind_end words next y found goes =
    let step = step_some (end_at words) next y found in
    goes step.0 (end_at-some words step.0 step.1) step.2

pub behind_number : {B P : Type 0} (mark limit : ℕ) (bytes : List ℕ) (next : ℕ × List ℕ → Option B) (y : B) → (number_before mark limit bytes >>= next) ≡ Some y
    → limit < 2 ^ 64
    → ((n : ℕ) (rest : List ℕ) → bytes ≡ decimal n ++ mark ∷ rest → n ≤ limit → next (n, rest) ≡ Some y → P) → P
behind_number mark limit bytes next y found small goes =
    let step = step_some (number_before mark limit bytes) next y found in
    let number = number_before-some mark limit bytes step.0 step.1 small in
    goes step.0.0 step.0.1 number.0 number.1 step.2
