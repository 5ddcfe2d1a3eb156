-- The lines before the lists: what was written is read as what it was, and what is read is so written.
use Rattle.std.proofs.Common.{◌≡◌, ℕ, ◌-◌, ◌^◌, ◌<◌, ◌≤◌, List, [], ◌∷◌, ◌++◌, Ok, refl, sym, ap, subst, ◌∙◌, arith, append_assoc}
use Rattle.std.specs.Prelude.{codes, decimal}
use Rattle.std.proofs.lemmas.Slice.Eq.{bytes_eq-Decides}
use Rattle.line_text.specs.Words.{words_of, line_of, text_of}
use Rattle.line_text.proofs.WordLaws.{IsWord, AreWords, line_of-words_of, words_of-line_of, literal}
use Rattle.line_text.proofs.ReadingLaws.{key_at-key, decimal_is_word}
use Rattle.dossier_text.specs.declared.fault.DossierFault.TheVariants.{Line}
use Rattle.dossier_text.specs.Text.{format_lines}
use Rattle.dossier_text.specs.inside.WordReading.{number_at}
use Rattle.dossier_text.specs.inside.HeadReading.{fixed_at, format_at, count_in, count_at}
use Rattle.dossier_text.proofs.StepLaws.{same_Ok, no_fault, behind, limited_ok, limited-few, by_word, behind_line, line_at-words, behind_key, number_at-ok, number_at-again}

-- a line of words with its line feed
abbrev pub whole_line : List (List ℕ) → List ℕ
whole_line words = line_of words ++ 10 ∷ []

-- a text that begins with this line
pub line_in_front : (words : List (List ℕ)) (text bytes rest : List ℕ) → bytes ≡ text ++ 10 ∷ rest → text ≡ line_of words → bytes ≡ whole_line words ++ rest
line_in_front words text bytes rest e is = e ∙ ap (λ (t : List ℕ). t ++ 10 ∷ rest) is ∙ sym (append_assoc (line_of words) (10 ∷ []) rest)

-- a line and the lines behind it
pub more_text : (words : List (List ℕ)) (lines : List (List (List ℕ))) (bytes middle rest : List ℕ) → bytes ≡ whole_line words ++ middle →
    middle ≡ text_of lines ++ rest → bytes ≡ text_of (words ∷ lines) ++ rest
more_text words lines bytes middle rest first others =
    first ∙ ap (λ (t : List ℕ). whole_line words ++ t) others ∙ sym (append_assoc (whole_line words) (text_of lines) rest)

-- ---- a fixed line

pub fixed_at-ok : (line : ℕ) (text bytes rest : List ℕ) → fixed_at line text bytes ≡ Ok rest → bytes ≡ text ++ 10 ∷ rest
unfolding fixed_at
fixed_at-ok line text bytes rest found =
    behind_line line bytes _ rest found
    (λ front behind whole found.
    by_word front text _ _ rest found
    (λ same found. whole ∙ ap (λ (t : List ℕ). t ++ 10 ∷ behind) same ∙ ap (λ (t : List ℕ). text ++ 10 ∷ t) (same_Ok behind rest found))
    (λ found. no_fault (Line line) rest found))

pub fixed_at-again : (line : ℕ) (words : List (List ℕ)) (rest : List ℕ) → AreWords words → fixed_at line (line_of words) (whole_line words ++ rest) ≡ Ok rest
unfolding fixed_at
fixed_at-again line words rest each = rw (line_at-words line words rest each, (bytes_eq-Decides (line_of words) (line_of words)).1 refl) refl

pub format_at-ok : (bytes rest : List ℕ) → format_at bytes ≡ Ok rest → bytes ≡ text_of format_lines ++ rest
unfolding format_at format_lines
format_at-ok bytes rest found =
    behind (fixed_at 1 (codes "crude dossier 1") bytes) _ rest found
    (λ middle first second.
    fixed_at-ok 1 (codes "crude dossier 1") bytes middle first
    ∙ ap (λ (t : List ℕ). codes "crude dossier 1" ++ 10 ∷ t) (fixed_at-ok 2 (codes "order slots") middle rest second))

pub format_at-again : (rest : List ℕ) → format_at (text_of format_lines ++ rest) ≡ Ok rest
unfolding format_at format_lines
format_at-again rest =
    let first : List (List ℕ) = codes "crude" ∷ codes "dossier" ∷ codes "1" ∷ [] in
    let second : List (List ℕ) = codes "order" ∷ codes "slots" ∷ [] in
    rw (fixed_at-again 1 first (whole_line second ++ rest)
    (literal (codes "crude") refl refl, (literal (codes "dossier") refl refl, (literal (codes "1") refl refl, tt))))
    (fixed_at-again 2 second rest (literal (codes "order") refl refl, (literal (codes "slots") refl refl, tt)))

-- ---- a count

pub record IsCount (most count : ℕ) : Type 0 where
  pub small : count < 2 ^ 32
  pub few : count ≤ most

count_in-ok : (line : ℕ) (key : List ℕ) (most : ℕ) (text : List ℕ) (count : ℕ) → count_in line key most text ≡ Ok count →
    (text ≡ line_of (key ∷ decimal count ∷ [])) × IsCount most count
unfolding count_in
count_in-ok line key most text count found =
    behind_key line key (words_of text) _ count found
    (λ rest words found.
    behind (number_at line (2 ^ 32 - 1) rest) _ count found
    (λ n is found.
    let number = number_at-ok line (2 ^ 32 - 1) rest n is (omega arith) in
    let few = limited_ok line most n n count found in
    subst (λ (k : ℕ). (text ≡ line_of (key ∷ decimal k ∷ [])) × IsCount most k) few.0 (
      sym (line_of-words_of text) ∙ ap line_of (words ∙ ap (λ (ws : List (List ℕ)). key ∷ ws) number.0),
      record {
        small = omega (arith, number.1);
        few = few.1;
      },
    )))

count_in-again : (line : ℕ) (key : List ℕ) (most count : ℕ) → IsWord key → IsCount most count → count_in line key most (line_of (key ∷ decimal count ∷ []))
    ≡ Ok count
unfolding count_in
count_in-again line key most count word is =
    rw (
      words_of-line_of key (decimal count ∷ []) (word, (decimal_is_word count (omega (arith, is.small)), tt)),
      key_at-key,
      number_at-again line (2 ^ 32 - 1)
          count (omega (arith, is.small)) (omega arith),
    )
    (limited-few line most count count is.few)

pub count_at-ok : (line : ℕ) (key : List ℕ) (most : ℕ) (bytes : List ℕ) (read : ℕ × List ℕ) → count_at line key most bytes ≡ Ok read →
    (bytes ≡ whole_line (key ∷ decimal read.0 ∷ []) ++ read.1) × IsCount most read.0
unfolding count_at
count_at-ok line key most bytes read found =
    behind_line line bytes _ read found
    (λ text rest whole found.
    behind (count_in line key most text) _ read found
    (λ count is found.
    let words = count_in-ok line key most text count is in
    subst (λ (r : ℕ × List ℕ). (bytes ≡ whole_line (key ∷ decimal r.0 ∷ []) ++ r.1) × IsCount most r.0) (same_Ok (count, rest) read found)
    (line_in_front (key ∷ decimal count ∷ []) text bytes rest whole words.0, words.1)))

pub count_at-again : (line : ℕ) (key : List ℕ) (most count : ℕ) (rest : List ℕ) → IsWord key → IsCount most count →
    count_at line key most (whole_line (key ∷ decimal count ∷ []) ++ rest) ≡ Ok (count, rest)
unfolding count_at
count_at-again line key most count rest word is =
    rw (
      line_at-words line (key ∷ decimal count ∷ []) rest (word, (decimal_is_word count (omega (arith, is.small)), tt)),
      count_in-again line key most count
          word is,
    ) refl
