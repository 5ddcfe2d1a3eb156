-- What a dossier claims, and how many operations its plan has: what was written is read as what it was, and what is read is so written.
use Rattle.std.proofs.Common.{◌≡◌, ℕ, ◌-◌, ◌^◌, ◌≤◌, false, List, [], ◌∷◌, ◌++◌, Option, Some, None, Ok, refl, sym, ap, subst, ◌∙◌, arith, ℤ, FitsSigned}
use Rattle.std.specs.Prelude.{codes, decimal, IfSome}
use Rattle.std.specs.Int.{w64}
use Rattle.std.specs.Str.{bytes_eq}
use Rattle.std.proofs.lemmas.Bool.{false_from_ne_true}
use Rattle.std.proofs.lemmas.Slice.Eq.{bytes_eq-Decides}
use Rattle.std.proofs.lemmas.Option.{none-some}
use Rattle.limits.specs.declared.TheConstants.{MOST_SLOTS}
use Rattle.line_text.specs.Words.{words_of, line_of}
use Rattle.line_text.specs.Decimal.{decimal_of, signed_of}
use Rattle.line_text.specs.inside.Digits.{with_digit}
use Rattle.line_text.proofs.DecimalLaws.{decimal_of-decimal, decimal_of-some}
use Rattle.line_text.proofs.SignedLaws.{signed_of-decimal, signed_of-some}
use Rattle.line_text.proofs.WordLaws.{IsWord, line_of-words_of, words_of-line_of, literal}
use Rattle.line_text.proofs.ReadingLaws.{key_at-key, decimal_is_word, signed_is_word}
use Rattle.dossier_text.specs.declared.fault.DossierFault.TheVariants.{Line}
use Rattle.dossier_text.specs.declared.dossier.Word3.{Word3}
use Rattle.dossier_text.specs.declared.dossier.Word3.TheVariants.{Plan, Infeasible, Open3}
use Rattle.dossier_text.specs.Entries.{signed_word}
use Rattle.dossier_text.specs.Faults.{limited}
use Rattle.dossier_text.specs.Text.{answer_word}
use Rattle.dossier_text.specs.inside.HeadReading.{word_in, answer_of, answer_at, claim_of, claimed_at, plan_count_of, plan_count_at}
use Rattle.dossier_text.proofs.StepLaws.{same_Ok, no_fault, behind, behind_formed, limited_ok, limited-few, by_word, behind_line, line_at-words, behind_key, word_at-ok, word_at-again}
use Rattle.dossier_text.proofs.HeadLaws.{whole_line, line_in_front}

-- ---- one word behind another

word_in-ok : (line : ℕ) (key text word : List ℕ) → word_in line key text ≡ Ok word → text ≡ line_of (key ∷ word ∷ [])
unfolding word_in
word_in-ok line key text word found =
    behind_key line key (words_of text) _ word found
    (λ rest words found. sym (line_of-words_of text) ∙ ap line_of (words ∙ ap (λ (ws : List (List ℕ)). key ∷ ws) (word_at-ok line rest word found)))

word_in-again : (line : ℕ) (key word : List ℕ) → IsWord key → IsWord word → word_in line key (line_of (key ∷ word ∷ [])) ≡ Ok word
unfolding word_in
word_in-again line key word first second = rw (words_of-line_of key (word ∷ []) (first, (second, tt)), key_at-key) (word_at-again line word)

-- ---- the answer

answer_of-ok : (line : ℕ) (word : List ℕ) (answer : Word3) → answer_of line word ≡ Ok answer → word ≡ answer_word answer
unfolding answer_of
answer_of-ok line word answer found =
    by_word word (codes "plan") _ _ answer found
    (λ same found. same ∙ ap answer_word (same_Ok Plan answer found))
    (λ found.
    by_word word (codes "infeasible") _ _ answer found
    (λ same found. same ∙ ap answer_word (same_Ok Infeasible answer found))
    (λ found.
    by_word word (codes "open") _ _ answer found
    (λ same found. same ∙ ap answer_word (same_Ok Open3 answer found))
    (λ found. no_fault (Line line) answer found)))

answer_of-again : (line : ℕ) (answer : Word3) → answer_of line (answer_word answer) ≡ Ok answer
unfolding answer_of
answer_of-again line Plan = refl
answer_of-again line Infeasible = refl
answer_of-again line Open3 = refl

answer_is_word : (answer : Word3) → IsWord (answer_word answer)
answer_is_word Plan = literal (codes "plan") refl refl
answer_is_word Infeasible = literal (codes "infeasible") refl refl
answer_is_word Open3 = literal (codes "open") refl refl

pub answer_at-ok : (bytes : List ℕ) (read : Word3 × List ℕ) → answer_at bytes ≡ Ok read → bytes ≡ whole_line (codes "answer" ∷ answer_word read.0 ∷ [])
    ++ read.1
unfolding answer_at
answer_at-ok bytes read found =
    behind_line 5 bytes _ read found
    (λ text rest whole found.
    behind (word_in 5 (codes "answer") text) _ read found
    (λ word is found.
    behind (answer_of 5 word) _ read found
    (λ answer are found.
    let words = word_in-ok 5 (codes "answer") text word is ∙ ap (λ (w : List ℕ). line_of (codes "answer" ∷ w ∷ [])) (answer_of-ok 5 word answer are) in
    subst (λ (r : Word3 × List ℕ). bytes ≡ whole_line (codes "answer" ∷ answer_word r.0 ∷ []) ++ r.1) (same_Ok (answer, rest) read found)
    (line_in_front (codes "answer" ∷ answer_word answer ∷ []) text bytes rest whole words))))

pub answer_at-again : (answer : Word3) (rest : List ℕ) → answer_at (whole_line (codes "answer" ∷ answer_word answer ∷ []) ++ rest) ≡ Ok (answer, rest)
unfolding answer_at
answer_at-again answer rest =
    let key = literal (codes "answer") refl refl in
    rw (
      line_at-words 5 (codes "answer" ∷ answer_word answer ∷ []) rest (key, (answer_is_word answer, tt)),
      word_in-again 5 (codes "answer") (answer_word answer) key (answer_is_word answer),
      answer_of-again 5 answer,
    )
    refl

-- ---- a number with a sign, or `none`

abbrev pub IsClaim : Option ℤ → Type 0
IsClaim claim = IfSome claim (FitsSigned w64)

-- no number is written `none`
none_is_no_signed : signed_of (codes "none") ≡ None
unfolding signed_of decimal_of with_digit
none_is_no_signed = refl

signed_is_not_none : (z : ℤ) → FitsSigned w64 z → bytes_eq (signed_word (Some z)) (codes "none") ≡ false
signed_is_not_none z fits =
    false_from_ne_true (bytes_eq (signed_word (Some z)) (codes "none"))
    (λ same. none-some z (sym none_is_no_signed ∙ ap signed_of (sym ((bytes_eq-Decides (signed_word (Some z)) (codes "none")).0 same))
    ∙ signed_of-decimal z fits))

claim_of-ok : (line : ℕ) (word : List ℕ) (claim : Option ℤ) → claim_of line word ≡ Ok claim → (word ≡ signed_word claim) × IsClaim claim
unfolding claim_of
claim_of-ok line word claim found =
    by_word word (codes "none") _ _ claim found
    (λ same found. subst (λ (c : Option ℤ). (word ≡ signed_word c) × IsClaim c) (same_Ok None claim found) (same, tt))
    (λ found.
    behind_formed line (signed_of word) _ claim found
    (λ z is found.
    let text = signed_of-some word z is in
    subst (λ (c : Option ℤ). (word ≡ signed_word c) × IsClaim c) (same_Ok (Some z) claim found) text))

claim_of-again : (line : ℕ) (claim : Option ℤ) → IsClaim claim → claim_of line (signed_word claim) ≡ Ok claim
unfolding claim_of
claim_of-again line None fits = refl
claim_of-again line (Some z) fits = rw (signed_is_not_none z fits, signed_of-decimal z fits) refl

claim_is_word : (claim : Option ℤ) → IsClaim claim → IsWord (signed_word claim)
claim_is_word None fits = literal (codes "none") refl refl
claim_is_word (Some z) fits = signed_is_word z fits

pub claimed_at-ok : (line : ℕ) (key bytes : List ℕ) (read : Option ℤ × List ℕ) → claimed_at line key bytes ≡ Ok read →
    (bytes ≡ whole_line (key ∷ signed_word read.0 ∷ []) ++ read.1) × IsClaim read.0
unfolding claimed_at
claimed_at-ok line key bytes read found =
    behind_line line bytes _ read found
    (λ text rest whole found.
    behind (word_in line key text) _ read found
    (λ word is found.
    behind (claim_of line word) _ read found
    (λ claim are found.
    let claimed = claim_of-ok line word claim are in
    let words = word_in-ok line key text word is ∙ ap (λ (w : List ℕ). line_of (key ∷ w ∷ [])) claimed.0 in
    subst (λ (r : Option ℤ × List ℕ). (bytes ≡ whole_line (key ∷ signed_word r.0 ∷ []) ++ r.1) × IsClaim r.0) (same_Ok (claim, rest) read found)
    (line_in_front (key ∷ signed_word claim ∷ []) text bytes rest whole words, claimed.1))))

pub claimed_at-again : (line : ℕ) (key : List ℕ) (claim : Option ℤ) (rest : List ℕ) → IsWord key → IsClaim claim →
    claimed_at line key (whole_line (key ∷ signed_word claim ∷ []) ++ rest) ≡ Ok (claim, rest)
unfolding claimed_at
claimed_at-again line key claim rest word fits =
    rw (
      line_at-words line (key ∷ signed_word claim ∷ []) rest (word, (claim_is_word claim fits, tt)),
      word_in-again line key (signed_word claim) word (claim_is_word claim fits),
      claim_of-again line claim fits,
    )
    refl

-- ---- the number of operations, or `none`

abbrev pub count_word : Option ℕ → List ℕ
count_word None = codes "none"
count_word (Some count) = decimal count

abbrev pub IsPlanCount : Option ℕ → Type 0
IsPlanCount count = IfSome count (λ few. few ≤ MOST_SLOTS)

none_is_no_decimal : decimal_of (2 ^ 32 - 1) (codes "none") ≡ None
unfolding decimal_of with_digit
none_is_no_decimal = refl

decimal_is_not_none : (n : ℕ) → n ≤ MOST_SLOTS → bytes_eq (decimal n) (codes "none") ≡ false
decimal_is_not_none n few =
    false_from_ne_true (bytes_eq (decimal n) (codes "none"))
    (λ same. none-some n (sym none_is_no_decimal ∙ ap (decimal_of (2 ^ 32 - 1)) (sym ((bytes_eq-Decides (decimal n) (codes "none")).0 same))
    ∙ decimal_of-decimal (2 ^ 32 - 1) n (omega arith) (omega arith)))

plan_count_of-ok : (line : ℕ) (word : List ℕ) (count : Option ℕ) → plan_count_of line word ≡ Ok count → (word ≡ count_word count) × IsPlanCount count
unfolding plan_count_of
plan_count_of-ok line word count found =
    by_word word (codes "none") _ _ count found
    (λ same found. subst (λ (c : Option ℕ). (word ≡ count_word c) × IsPlanCount c) (same_Ok None count found) (same, tt))
    (λ found.
    behind_formed line (decimal_of (2 ^ 32 - 1) word) _ count found
    (λ n is found.
    behind (limited line MOST_SLOTS n n) _ count found
    (λ few are found.
    let text = decimal_of-some (2 ^ 32 - 1) word n is (omega arith) in
    let within = limited_ok line MOST_SLOTS n n few are in
    subst (λ (c : Option ℕ). (word ≡ count_word c) × IsPlanCount c) (ap (λ (k : ℕ). Some k) within.0 ∙ same_Ok (Some few) count found) (text.0, within.1))))

plan_count_of-again : (line : ℕ) (count : Option ℕ) → IsPlanCount count → plan_count_of line (count_word count) ≡ Ok count
unfolding plan_count_of
plan_count_of-again line None few = refl
plan_count_of-again line (Some n) few = rw (
  decimal_is_not_none n few,
  decimal_of-decimal (2 ^ 32 - 1) n (omega (arith, few)) (omega arith),
  limited-few line
      MOST_SLOTS n n few,
) refl

count_is_word : (count : Option ℕ) → IsPlanCount count → IsWord (count_word count)
count_is_word None few = literal (codes "none") refl refl
count_is_word (Some n) few = decimal_is_word n (omega (arith, few))

pub plan_count_at-ok : (bytes : List ℕ) (read : Option ℕ × List ℕ) → plan_count_at bytes ≡ Ok read →
    (bytes ≡ whole_line (codes "plan" ∷ count_word read.0 ∷ []) ++ read.1) × IsPlanCount read.0
unfolding plan_count_at
plan_count_at-ok bytes read found =
    behind_line 8 bytes _ read found
    (λ text rest whole found.
    behind (word_in 8 (codes "plan") text) _ read found
    (λ word is found.
    behind (plan_count_of 8 word) _ read found
    (λ count are found.
    let counted = plan_count_of-ok 8 word count are in
    let words = word_in-ok 8 (codes "plan") text word is ∙ ap (λ (w : List ℕ). line_of (codes "plan" ∷ w ∷ [])) counted.0 in
    subst (λ (r : Option ℕ × List ℕ). (bytes ≡ whole_line (codes "plan" ∷ count_word r.0 ∷ []) ++ r.1) × IsPlanCount r.0) (same_Ok (count, rest) read found)
    (line_in_front (codes "plan" ∷ count_word count ∷ []) text bytes rest whole words, counted.1))))

pub plan_count_at-again : (count : Option ℕ) (rest : List ℕ) → IsPlanCount count → plan_count_at (whole_line (codes "plan" ∷ count_word count ∷ []) ++ rest)
    ≡ Ok (count, rest)
unfolding plan_count_at
plan_count_at-again count rest few =
    let key = literal (codes "plan") refl refl in
    rw (
      line_at-words 8 (codes "plan" ∷ count_word count ∷ []) rest (key, (count_is_word count few, tt)),
      word_in-again 8 (codes "plan") (count_word count) key (count_is_word count few),
      plan_count_of-again 8 count few,
    )
    refl
