-- A line and its words.
use Rattle.std.proofs.Common.{◌≡◌, ℕ, true, eqb, List, [], ◌∷◌, ◌++◌, Option, Some, None, refl, sym, ap, ◌∙◌, inl, inr}
use Rattle.std.specs.Option.{option_map}
use Rattle.std.specs.List.{onto_first, AllByRecursion}
use Rattle.std.proofs.lemmas.Bool.{eqb-true, cases_Bool}
use Rattle.std.proofs.lemmas.List.{append-nil}
use Rattle.line_text.specs.Words.{spaced, line_of, words_of, parts_at}
use Rattle.line_text.proofs.PartLaws.{Parts, onto, is_free, is_free-append, parts_at-append, parts_at-free}

-- a line with no blank is its one word, and one with a blank has the word before it
abbrev words_after : List ℕ → Option Parts → List (List ℕ)
words_after line None = line ∷ []
words_after line (Some parts) = parts.0 ∷ words_of parts.1

words_after-onto : (byte : ℕ) (line : List ℕ) (parts : Option Parts) → onto_first byte (words_after line parts)
    ≡ words_after (byte ∷ line) (option_map (onto byte) parts)
words_after-onto byte line None = refl
words_after-onto byte line (Some parts) = refl

words_of-parts : (line : List ℕ) → words_of line ≡ words_after line (parts_at 32 line)
unfolding words_of parts_at
words_of-parts [] = refl
words_of-parts (byte ∷ line) =
    elim (cases_Bool (eqb byte 32)) [
      | inl blank ↦ rw blank refl
      | inr other ↦ rw (other, words_of-parts line) (words_after-onto byte line (parts_at 32 line))
    ]

pub words_of-last : (line : List ℕ) → None ≡ parts_at 32 line → words_of line ≡ line ∷ []
words_of-last line none = words_of-parts line ∙ ap (words_after line) (sym none)

pub words_of-first : (line word rest : List ℕ) → Some (word, rest) ≡ parts_at 32 line → words_of line ≡ word ∷ words_of rest
words_of-first line word rest some = words_of-parts line ∙ ap (words_after line) (sym some)

line_of-onto : (byte : ℕ) (words : List (List ℕ)) → line_of (onto_first byte words) ≡ byte ∷ line_of words
line_of-onto byte [] = refl
line_of-onto byte (word ∷ words) = refl

-- a blank in front of a line is an empty word in front of its words
blank_in_front : (line : List ℕ) (parts : Option Parts) → line_of ([] ∷ words_after line parts) ≡ 32 ∷ line_of (words_after line parts)
blank_in_front line None = refl
blank_in_front line (Some parts) = refl

-- the words of a line make the line
pub line_of-words_of : (line : List ℕ) → line_of (words_of line) ≡ line
unfolding words_of
line_of-words_of [] = refl
line_of-words_of (byte ∷ line) =
    elim (cases_Bool (eqb byte 32)) [
      | inl blank ↦
          rw blank
          (ap (λ (words : List (List ℕ)). line_of ([] ∷ words)) (words_of-parts line) ∙ blank_in_front line (parts_at 32 line)
          ∙ ap (λ (words : List (List ℕ)). 32 ∷ line_of words) (sym (words_of-parts line))
          ∙ ap (λ (rest : List ℕ). 32 ∷ rest) (line_of-words_of line)
          ∙ ap (λ (b : ℕ). b ∷ line) (sym (eqb-true byte 32 blank)))
      | inr other ↦ rw other (line_of-onto byte (words_of line) ∙ ap (λ (rest : List ℕ). byte ∷ rest) (line_of-words_of line))
    ]

-- a word has no blank and no line feed
pub record IsWord (word : List ℕ) : Type 0 where
  pub unspaced : is_free 32 word ≡ true
  pub unbroken : is_free 10 word ≡ true

abbrev pub AreWords : List (List ℕ) → Type 0
AreWords words = AllByRecursion IsWord words

-- words without blanks are the words of their line
pub words_of-line_of : (word : List ℕ) (words : List (List ℕ)) → AreWords (word ∷ words) → words_of (line_of (word ∷ words)) ≡ word ∷ words
words_of-line_of word [] each =
    ap words_of (append-nil word) ∙ words_of-last word (sym (parts_at-free 32 word each.0.unspaced))
words_of-line_of word (next ∷ words) each =
    words_of-first (line_of (word ∷ next ∷ words)) word (line_of (next ∷ words)) (sym (parts_at-append 32 word (line_of (next ∷ words)) each.0.unspaced))
    ∙ ap (λ (rest : List (List ℕ)). word ∷ rest) (words_of-line_of next words each.1)

-- their line has no line feed
spaced-unbroken : (words : List (List ℕ)) → AreWords words → is_free 10 (spaced words) ≡ true
spaced-unbroken [] each = refl
spaced-unbroken (word ∷ words) each = is_free-append 10 word (spaced words) each.0.unbroken (spaced-unbroken words each.1)

pub line_of-unbroken : (words : List (List ℕ)) → AreWords words → is_free 10 (line_of words) ≡ true
line_of-unbroken [] each = refl
line_of-unbroken (word ∷ words) each = is_free-append 10 word (spaced words) each.0.unbroken (spaced-unbroken words each.1)

-- so the first line of a text of lines is found again
pub text_of-first_line : (words : List (List ℕ)) (rest : List ℕ) → AreWords words → parts_at 10 (line_of words ++ 10 ∷ rest) ≡ Some (line_of words, rest)
text_of-first_line words rest each = parts_at-append 10 (line_of words) rest (line_of-unbroken words each)

-- of a word that is written out both tests compute
pub literal : (word : List ℕ) → is_free 32 word ≡ true → is_free 10 word ≡ true → IsWord word
literal word unspaced unbroken = record { unspaced = unspaced; unbroken = unbroken }
