-- An entry that was written is read as what it was, and what is read is so written.
use Rattle.std.proofs.Common.{◌≡◌, ℕ, ◌-◌, ◌^◌, ◌<◌, ◌≤◌, true, false, not, eqb, inl, inr, List, [], ◌∷◌, ◌++◌, Option, Some, refl, sym, ap, subst, ◌∙◌, arith, append_assoc}
use Rattle.std.specs.Prelude.{decimal, codes}
use Rattle.std.specs.Str.{bytes_eq}
use Rattle.std.specs.Char.{is_ascii_digit}
use Rattle.std.specs.Str.{all_ascii_digits}
use Rattle.std.proofs.lemmas.Bool.{false≢true, false_from_ne_true, and_from, cases_Bool, cond-true, cond-false}
use Rattle.std.proofs.lemmas.Slice.Eq.{bytes_eq-Decides}
use Rattle.std.proofs.lemmas.Fmt.{digits_decimal}
use Rattle.std.proofs.lemmas.Option.{same_Some}
use Rattle.line_text.specs.Words.{parts_at}
use Rattle.line_text.specs.Decimal.{decimal_of}
use Rattle.line_text.specs.Reading.{◌>>=◌}
use Rattle.line_text.proofs.DecimalLaws.{own, decimal_of-decimal, decimal_of-some}
use Rattle.line_text.proofs.PartLaws.{is_free, is_free-append, parts_at-some, parts_at-append}
use Rattle.line_text.proofs.WordLaws.{IsWord}
use Rattle.line_text.proofs.ReadingLaws.{step_some, is_free-decimal, number_before-again}
use Rattle.line_text.proofs.StepLaws.{behind_number}
use Rattle.slot_box.specs.declared.term.RowName.{RowName}
use Rattle.slot_box.specs.declared.term.Term.{Term}
use Rattle.slot_box.specs.declared.term.Term.TheVariants.{Row, Cut}
use Rattle.dossier_text.specs.Entries.{term_word}
use Rattle.slot_box.specs.Ranges.{IsTerm, IsRowName}
use Rattle.dossier_text.specs.inside.TermReading.{row_of, cut_row_of, term_of}

-- a decimal behind the steps
behind_decimal_of : {B P : Type 0} (limit : ℕ) (bytes : List ℕ) (next : ℕ → Option B) (y : B) → (decimal_of limit bytes >>= next) ≡ Some y → limit < 2 ^ 64
    → ((n : ℕ) → bytes ≡ decimal n → n ≤ limit → next n ≡ Some y → P) → P
behind_decimal_of limit bytes next y found small goes =
    let step = step_some (decimal_of limit bytes) next y found in
    let text = decimal_of-some limit bytes step.0 step.1 small in
    goes step.0 text.0 text.1 step.2

-- ---- rows

-- six texts, one behind the other, and five
six_texts : (a b c d e f : List ℕ) → a ++ b ++ c ++ d ++ e ++ f ≡ a ++ (b ++ (c ++ (d ++ (e ++ f))))
six_texts a b c d e f = simp append_assoc

five_texts : (a b c d e : List ℕ) → a ++ b ++ c ++ d ++ e ≡ a ++ (b ++ (c ++ (d ++ e)))
five_texts a b c d e = simp append_assoc

row_of-some : (digits rest : List ℕ) (term : Term) → row_of digits rest ≡ Some term → (digits ++ 46 ∷ rest ≡ term_word term) × IsTerm term
unfolding row_of
row_of-some digits rest term found =
    behind_decimal_of (2 ^ 8 - 1) digits _ term found (omega arith)
    (λ family e0 l0 found.
    behind_number 46 (2 ^ 16 - 1) rest _ term found (omega arith)
    (λ a w1 e1 l1 found.
    behind_number 46 (2 ^ 16 - 1) w1 _ term found (omega arith)
    (λ b w2 e2 l2 found.
    behind_number 46 (2 ^ 16 - 1) w2 _ term found (omega arith)
    (λ c w3 e3 l3 found.
    behind_number 61 (2 ^ 16 - 1) w3 _ term found (omega arith)
    (λ d w4 e4 l4 found.
    behind_decimal_of (2 ^ 64 - 1) w4 _ term found (omega arith)
    (λ y e5 l5 found.
    let name : RowName = record { family = family; a = a; b = b; c = c; d = d } in
    let whole : digits ++ 46 ∷ rest ≡ term_word (Row name y) =
    rw (e0, e1, e2, e3, e4, e5) (sym (six_texts (decimal family) (46 ∷ decimal a) (46 ∷ decimal b) (46 ∷ decimal c) (46 ∷ decimal d) (61 ∷ decimal y))) in
    let fits : IsTerm (Row name y) = (record { family = omega arith; a = omega arith; b = omega arith; c = omega arith; d = omega arith }, omega arith) in
    subst (λ (t : Term). (digits ++ 46 ∷ rest ≡ term_word t) × IsTerm t) (same_Some (Row name y) term found) (whole, fits)))))))

-- what stands behind the family
abbrev behind_family : RowName → ℕ → List ℕ
behind_family name y =
    decimal name.a ++ 46 ∷ (decimal name.b ++ 46 ∷ (decimal name.c ++ 46 ∷ (decimal name.d ++ 61 ∷ decimal y)))

row_of-again : (name : RowName) (y : ℕ) → IsRowName name → y < 2 ^ 64 → row_of (decimal name.family) (behind_family name y) ≡ Some (Row name y)
unfolding row_of
row_of-again name y fits small =
    rw (
      decimal_of-decimal (2 ^ 8 - 1) name.family (omega (arith, fits.family)) (omega arith),
      number_before-again 46 (2 ^ 16 - 1) name.a _ (omega (arith, fits.a)) (omega arith) refl,
      number_before-again 46 (2 ^ 16 - 1) name.b _ (omega (arith, fits.b)) (omega arith) refl,
      number_before-again 46 (2 ^ 16 - 1) name.c _ (omega (arith, fits.c)) (omega arith) refl,
      number_before-again 61 (2 ^ 16 - 1) name.d _ (omega (arith, fits.d)) (omega arith) refl,
      decimal_of-decimal (2 ^ 64 - 1) y (omega arith) (omega arith),
    )
    refl

-- ---- rows of cuts

cut_row_of-some : (rest : List ℕ) (term : Term) → cut_row_of rest ≡ Some term → (codes "cut" ++ 46 ∷ rest ≡ term_word term) × IsTerm term
unfolding cut_row_of
cut_row_of-some rest term found =
    behind_number 46 (2 ^ 32 - 1) rest _ term found (omega arith)
    (λ cut w1 e1 l1 found.
    behind_number 46 (2 ^ 32 - 1) w1 _ term found (omega arith)
    (λ slot w2 e2 l2 found.
    behind_number 61 (2 ^ 8 - 1) w2 _ term found (omega arith)
    (λ op w3 e3 l3 found.
    behind_decimal_of (2 ^ 64 - 1) w3 _ term found (omega arith)
    (λ y e4 l4 found.
    let whole : codes "cut" ++ 46 ∷ rest ≡ term_word (Cut cut slot op y) =
    rw (e1, e2, e3, e4) (sym (five_texts (codes "cut") (46 ∷ decimal cut) (46 ∷ decimal slot) (46 ∷ decimal op) (61 ∷ decimal y))) in
    let fits : IsTerm (Cut cut slot op y) = (omega arith, omega arith, omega arith, omega arith) in
    subst (λ (t : Term). (codes "cut" ++ 46 ∷ rest ≡ term_word t) × IsTerm t) (same_Some (Cut cut slot op y) term found) (whole, fits)))))

abbrev behind_cut : ℕ → ℕ → ℕ → ℕ → List ℕ
behind_cut cut slot op y = decimal cut ++ 46 ∷ (decimal slot ++ 46 ∷ (decimal op ++ 61 ∷ decimal y))

cut_row_of-again : (cut slot op y : ℕ) → IsTerm (Cut cut slot op y) → cut_row_of (behind_cut cut slot op y) ≡ Some (Cut cut slot op y)
unfolding cut_row_of
cut_row_of-again cut slot op y fits =
    rw (
      number_before-again 46 (2 ^ 32 - 1) cut _ (omega (arith, fits.0)) (omega arith) refl,
      number_before-again 46 (2 ^ 32 - 1) slot _ (omega (arith, fits.1)) (omega arith) refl,
      number_before-again 61 (2 ^ 8 - 1) op _ (omega (arith, fits.2)) (omega arith) refl,
      decimal_of-decimal (2 ^ 64 - 1) y (omega (arith, fits.3)) (omega arith),
    )
    refl

-- ---- entries

behind_parts : {B P : Type 0} (mark : ℕ) (bytes : List ℕ) (next : List ℕ × List ℕ → Option B) (y : B) → (parts_at mark bytes >>= next) ≡ Some y
    → ((front rest : List ℕ) → bytes ≡ front ++ mark ∷ rest → next (front, rest) ≡ Some y → P) → P
behind_parts mark bytes next y found goes =
    let step = step_some (parts_at mark bytes) next y found in
    goes step.0.0 step.0.1 (parts_at-some mark bytes step.0 step.1) step.2

pub term_of-some : (word : List ℕ) (term : Term) → term_of word ≡ Some term → (word ≡ term_word term) × IsTerm term
unfolding term_of
term_of-some word term found =
    behind_parts 46 word _ term found
    (λ front rest whole found.
    elim (cases_Bool (bytes_eq front (codes "cut"))) [
      | inl cut ↦
          let read = cut_row_of-some rest term (sym (cond-true (bytes_eq front (codes "cut")) (cut_row_of rest) (row_of front rest) cut) ∙ found) in
          (whole ∙ ap (λ (w : List ℕ). w ++ 46 ∷ rest) ((bytes_eq-Decides front (codes "cut")).0 cut) ∙ read.0, read.1)
      | inr row ↦
          let read = row_of-some front rest term (sym (cond-false (bytes_eq front (codes "cut")) (cut_row_of rest) (row_of front rest) row) ∙ found) in
          (whole ∙ read.0, read.1)
    ])

-- digits are not the word `cut`
digits_are_not_cut : (n : ℕ) → n < 2 ^ 64 → bytes_eq (decimal n) (codes "cut") ≡ false
digits_are_not_cut n small =
    false_from_ne_true (bytes_eq (decimal n) (codes "cut"))
    (λ same.
    let digits : all_ascii_digits (codes "cut") ≡ true = ap all_ascii_digits (sym ((bytes_eq-Decides (decimal n) (codes "cut")).0 same))
    ∙ digits_decimal own n small in
    absurd (false≢true digits))

row_again : (name : RowName) (y : ℕ) → IsRowName name → y < 2 ^ 64 → term_of (decimal name.family ++ 46 ∷ behind_family name y) ≡ Some (Row name y)
unfolding term_of
row_again name y fits small =
    rw (
      parts_at-append 46 (decimal name.family) (behind_family name y) (is_free-decimal 46 name.family (omega (arith, fits.family)) refl),
      digits_are_not_cut name.family (omega (arith, fits.family)),
    )
    (row_of-again name y fits small)

cut_row_again : (cut slot op y : ℕ) → IsTerm (Cut cut slot op y) → term_of (codes "cut" ++ 46 ∷ behind_cut cut slot op y) ≡ Some (Cut cut slot op y)
unfolding term_of
cut_row_again cut slot op y fits = rw (parts_at-append 46 (codes "cut") (behind_cut cut slot op y) refl) (cut_row_of-again cut slot op y fits)

pub term_of-again : (term : Term) → IsTerm term → term_of (term_word term) ≡ Some term
term_of-again (Row name y) fits =
    let regrouped : term_word (Row name y) ≡ decimal name.family ++ 46 ∷ behind_family name y =
    six_texts (decimal name.family) (46 ∷ decimal name.a) (46 ∷ decimal name.b) (46 ∷ decimal name.c) (46 ∷ decimal name.d) (61 ∷ decimal y) in
    ap term_of regrouped ∙ row_again name y fits.0 fits.1
term_of-again (Cut cut slot op y) fits =
    let regrouped : term_word (Cut cut slot op y) ≡ codes "cut" ++ 46 ∷ behind_cut cut slot op y =
    five_texts (codes "cut") (46 ∷ decimal cut) (46 ∷ decimal slot) (46 ∷ decimal op) (61 ∷ decimal y) in
    ap term_of regrouped ∙ cut_row_again cut slot op y fits

-- ---- entries are words

-- a mark that is no digit, no dot and no `=`
pub record IsOther (mark : ℕ) : Type 0 where
  pub digit : is_ascii_digit mark ≡ false
  pub dot : not (eqb 46 mark) ≡ true
  pub equals : not (eqb 61 mark) ≡ true

free_six : (mark : ℕ) (a b c d e f : List ℕ) → is_free mark a ≡ true → is_free mark b ≡ true → is_free mark c ≡ true → is_free mark d ≡ true → is_free mark e
    ≡ true → is_free mark f ≡ true → is_free mark (a ++ b ++ c ++ d ++ e ++ f) ≡ true
free_six mark a b c d e f pa pb pc pd pe pf =
    is_free-append mark (a ++ b ++ c ++ d ++ e) f
    (is_free-append mark (a ++ b ++ c ++ d) e (is_free-append mark (a ++ b ++ c) d (is_free-append mark (a ++ b) c (is_free-append mark a b pa pb) pc) pd) pe)
    pf

free_dotted : (mark n : ℕ) → IsOther mark → n < 2 ^ 64 → is_free mark (46 ∷ decimal n) ≡ true
free_dotted mark n other small = and_from (not (eqb 46 mark)) (is_free mark (decimal n)) other.dot (is_free-decimal mark n small other.digit)

free_equals : (mark n : ℕ) → IsOther mark → n < 2 ^ 64 → is_free mark (61 ∷ decimal n) ≡ true
free_equals mark n other small = and_from (not (eqb 61 mark)) (is_free mark (decimal n)) other.equals (is_free-decimal mark n small other.digit)

free_row : (mark : ℕ) (name : RowName) (y : ℕ) → IsRowName name → y < 2 ^ 64 → IsOther mark → is_free mark (term_word (Row name y)) ≡ true
free_row mark name y fits small other =
    free_six mark (decimal name.family) (46 ∷ decimal name.a) (46 ∷ decimal name.b) (46 ∷ decimal name.c) (46 ∷ decimal name.d) (61 ∷ decimal y)
    (is_free-decimal mark name.family (omega (arith, fits.family)) other.digit)
    (free_dotted mark name.a other (omega (arith, fits.a)))
    (free_dotted mark name.b other (omega (arith, fits.b)))
    (free_dotted mark name.c other (omega (arith, fits.c)))
    (free_dotted mark name.d other (omega (arith, fits.d)))
    (free_equals mark y other small)

free_cut : (mark cut slot op y : ℕ) → IsTerm (Cut cut slot op y) → IsOther mark → is_free mark (codes "cut") ≡ true →
    is_free mark (term_word (Cut cut slot op y)) ≡ true
free_cut mark cut slot op y fits other key =
    free_six mark [] (codes "cut") (46 ∷ decimal cut) (46 ∷ decimal slot) (46 ∷ decimal op) (61 ∷ decimal y)
    refl
    key
    (free_dotted mark cut other (omega (arith, fits.0)))
    (free_dotted mark slot other (omega (arith, fits.1)))
    (free_dotted mark op other (omega (arith, fits.2)))
    (free_equals mark y other fits.3)

blank_is_other : IsOther 32
blank_is_other = record { digit = refl; dot = refl; equals = refl }

line_feed_is_other : IsOther 10
line_feed_is_other = record { digit = refl; dot = refl; equals = refl }

pub term_word_is_word : (term : Term) → IsTerm term → IsWord (term_word term)
term_word_is_word (Row name y) fits = record {
  unspaced = free_row 32 name y fits.0 fits.1 blank_is_other;
  unbroken = free_row 10 name y fits.0 fits.1 line_feed_is_other;
}
term_word_is_word (Cut cut slot op y) fits = record {
  unspaced = free_cut 32 cut slot op y fits blank_is_other refl;
  unbroken = free_cut 10 cut slot op y fits line_feed_is_other refl;
}
