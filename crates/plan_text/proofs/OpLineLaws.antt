-- A line that was written is read as what it was, and what is read is so written.
use Rattle.std.proofs.Common.{◌≡◌, ◌≢◌, ℕ, ◌-◌, ◌^◌, List, Option, Some, None, refl, sym, ap, subst, ◌∙◌, arith}
use Rattle.std.specs.Prelude.{codes, IfSome, IfNone}
use Rattle.std.proofs.lemmas.Option.{none-some, same_Some}
use Rattle.line_text.specs.Words.{words_of, line_of}
use Rattle.line_text.proofs.WordLaws.{line_of-words_of, words_of-line_of, AreWords}
use Rattle.line_text.proofs.ReadingLaws.{key_at-key, decimal_at-decimal, name_at-name, end_at-end, decimal_is_word, name_is_word}
use Rattle.line_text.proofs.StepLaws.{behind_key, behind_decimal, behind_name, behind_end}
use Rattle.plan_text.specs.declared.op_line.OpLine.{OpLine}
use Rattle.plan_text.specs.OpLine.{op_line_words, op_line_bytes, IsOpLine, op_line_at}

-- what is read is so written
pub op_line_at-some : (words : List (List ℕ)) (line : OpLine) → op_line_at words ≡ Some line → (words ≡ op_line_words line) × IsOpLine line
unfolding op_line_at
op_line_at-some words line found =
    behind_key (codes "op") words _ line found
    (λ w1 e1 found.
    behind_decimal (2 ^ 32 - 1) w1 _ line found (omega arith)
    (λ number w2 e2 l2 found.
    behind_name w2 _ line found
    (λ name w3 e3 l3 found.
    behind_decimal (2 ^ 32 - 1) w3 _ line found (omega arith)
    (λ start w4 e4 l4 found.
    behind_decimal (2 ^ 32 - 1) w4 _ line found (omega arith)
    (λ end w5 e5 l5 found.
    behind_decimal (2 ^ 32 - 1) w5 _ line found (omega arith)
    (λ volume w6 e6 l6 found.
    behind_end w6 _ line found
    (λ w7 e7 found.
    let made : OpLine = record { number = number; name = name; start = start; end = end; volume = volume } in
    let written : words ≡ op_line_words made = rw (e1, e2, e3, e4, e5, e6, e7) refl in
    let fits : IsOpLine made = record { number = omega arith; name = l3; start = omega arith; end = omega arith; volume = omega arith } in
    subst (λ (l : OpLine). (words ≡ op_line_words l) × IsOpLine l) (same_Some made line found) (written, fits))))))))

-- what was written is read
pub op_line_at-again : (line : OpLine) → IsOpLine line → op_line_at (op_line_words line) ≡ Some line
unfolding op_line_at
op_line_at-again line fits =
    rw (
      key_at-key,
      decimal_at-decimal (2 ^ 32 - 1) line.number _ (omega (arith, fits.number)) (omega arith),
      name_at-name line.name _ fits.name,
      decimal_at-decimal (2 ^ 32 - 1) line.start _ (omega (arith, fits.start)) (omega arith),
      decimal_at-decimal (2 ^ 32 - 1) line.end _ (omega (arith, fits.end)) (omega arith),
      decimal_at-decimal (2 ^ 32 - 1) line.volume _ (omega (arith, fits.volume)) (omega arith),
      end_at-end,
    )
    refl

-- each of its words is a word
pub op_line_words-are_words : (line : OpLine) → IsOpLine line → AreWords (op_line_words line)
op_line_words-are_words line fits = (
  record { unspaced = refl; unbroken = refl },
  (
    decimal_is_word line.number (omega (arith, fits.number)),
    (
      name_is_word line.name fits.name,
      (
        decimal_is_word line.start (omega (arith, fits.start)),
        (
          decimal_is_word line.end (omega (arith, fits.end)),
          (decimal_is_word line.volume (omega (arith, fits.volume)), tt),
        ),
      ),
    ),
  ),
)

-- the two sides of what a reader answers
pub op_line-found : (bytes : List ℕ) (answer : Option OpLine) → answer ≡ op_line_at (words_of bytes) →
    IfSome answer (λ line. IsOpLine line × (bytes ≡ op_line_bytes line))
op_line-found bytes None given = tt
op_line-found bytes (Some line) given =
    let read = op_line_at-some (words_of bytes) line (sym given) in
    (read.1, sym (line_of-words_of bytes) ∙ ap line_of read.0)

pub op_line-none : (bytes : List ℕ) (answer : Option OpLine) → answer ≡ op_line_at (words_of bytes) →
    IfNone answer ((line : OpLine) → IsOpLine line → bytes ≢ op_line_bytes line)
op_line-none bytes None given = λ line fits text.
    let words = ap words_of text ∙ words_of-line_of (codes "op") _ (op_line_words-are_words line fits) in
    none-some line (given ∙ ap op_line_at words ∙ op_line_at-again line fits)
op_line-none bytes (Some line) given = tt
