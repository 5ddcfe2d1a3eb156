-- What stood where a chain of steps met no fault: the first step's word or line, and what the rest of the chain says behind it.
use Rattle.std.proofs.Common.{◌≡◌, ℕ, ◌^◌, ◌<◌, ◌≤◌, cond, leb, List, [], ◌∷◌, ◌++◌, Option, Some, None, Result, Ok, Err, refl, sym, ap, subst, ◌∙◌, inl, inr, ℤ, FitsSigned}
use Rattle.std.specs.Prelude.{decimal}
use Rattle.std.specs.Int.{w64}
use Rattle.std.specs.Fmt.{signed_decimal}
use Rattle.std.specs.Str.{bytes_eq}
use Rattle.std.proofs.lemmas.Bool.{leb-true, le-leb, cases_Bool, cond-true, cond-false}
use Rattle.std.proofs.lemmas.Slice.Eq.{bytes_eq-Decides}
use Rattle.std.proofs.lemmas.List.{append_assoc}
use Rattle.line_text.specs.Words.{parts_at, line_of}
use Rattle.line_text.specs.Reading.{key_at, decimal_at, signed_at, end_at}
use Rattle.line_text.proofs.PartLaws.{parts_at-some}
use Rattle.line_text.proofs.WordLaws.{AreWords, text_of-first_line}
use Rattle.line_text.proofs.ReadingLaws.{key_at-some, decimal_at-some, decimal_at-decimal, signed_at-some, end_at-some, end_at-end}
use Rattle.dossier_text.specs.declared.fault.DossierFault.{DossierFault}
use Rattle.dossier_text.specs.declared.fault.DossierFault.TheVariants.{Line, TooMany}
use Rattle.dossier_text.specs.Faults.{◌>>=◌, formed, limited, line_at}
use Rattle.dossier_text.specs.inside.WordReading.{word_at, number_at}

abbrev Words : Type 0
Words = List (List ℕ)

abbrev done : {A : Type 0} → A → Result A DossierFault
done x = Ok x

pub same_Ok : {A : Type 0} (x y : A) → done x ≡ done y → x ≡ y
same_Ok x y e = cc

pub no_fault : {A : Type 0} {P : Type 0} (fault : DossierFault) (y : A) → ◌≡◌ {A = Result A DossierFault} (Err fault) (Ok y) → P
no_fault fault y e = absurd cc

-- ---- any step

pub behind : {A B P : Type 0} (read : Result A DossierFault) (next : A → Result B DossierFault) (y : B) → (read >>= next) ≡ Ok y →
    ((x : A) → read ≡ Ok x → next x ≡ Ok y → P) → P
behind (Ok x) next y found goes = goes x refl found
behind (Err fault) next y found goes = no_fault fault y found

pub formed_ok : {A : Type 0} (line : ℕ) (read : Option A) (x : A) → formed line read ≡ Ok x → read ≡ Some x
formed_ok line None x found = no_fault (Line line) x found
formed_ok line (Some y) x found = ap (λ z. Some z) (same_Ok y x found)

pub behind_formed : {A B P : Type 0} (line : ℕ) (read : Option A) (next : A → Result B DossierFault) (y : B) → (formed line read >>= next) ≡ Ok y →
    ((x : A) → read ≡ Some x → next x ≡ Ok y → P) → P
behind_formed line read next y found goes = behind (formed line read) next y found (λ x is rest. goes x (formed_ok line read x is) rest)

pub limited_ok : {A : Type 0} (line most count : ℕ) (x y : A) → limited line most count x ≡ Ok y → (x ≡ y) × (count ≤ most)
limited_ok line most count x y found =
    elim (cases_Bool (leb count most)) [
      | inl few ↦ (same_Ok x y (sym (cond-true (leb count most) (done x) (Err (TooMany line)) few) ∙ found), leb-true count most few)
      | inr many ↦ no_fault (TooMany line) y (sym (cond-false (leb count most) (done x) (Err (TooMany line)) many) ∙ found)
    ]

pub limited-few : {A : Type 0} (line most count : ℕ) (x : A) → count ≤ most → limited line most count x ≡ Ok x
limited-few line most count x few = cond-true (leb count most) (done x) (Err (TooMany line)) (le-leb count most few)

-- a choice by a word
pub by_word : {A P : Type 0} (word key : List ℕ) (yes no : Result A DossierFault) (y : A) → cond (bytes_eq word key) yes no ≡ Ok y →
    (word ≡ key → yes ≡ Ok y → P) → (no ≡ Ok y → P) → P
by_word word key chosen other y found first second =
    elim (cases_Bool (bytes_eq word key)) [
      | inl same ↦ first ((bytes_eq-Decides word key).0 same) (sym (cond-true (bytes_eq word key) chosen other same) ∙ found)
      | inr unlike ↦ second (sym (cond-false (bytes_eq word key) chosen other unlike) ∙ found)
    ]

-- ---- lines

pub behind_line : {B P : Type 0} (line : ℕ) (bytes : List ℕ) (next : List ℕ × List ℕ → Result B DossierFault) (y : B) → (line_at line bytes >>= next) ≡ Ok y
    → ((text rest : List ℕ) → bytes ≡ text ++ 10 ∷ rest → next (text, rest) ≡ Ok y → P) → P
behind_line line bytes next y found goes =
    behind_formed line (parts_at 10 bytes) next y found (λ parts is rest. goes parts.0 parts.1 (parts_at-some 10 bytes parts is) rest)

-- a line of words is found again
pub line_at-words : (line : ℕ) (words : Words) (rest : List ℕ) → AreWords words → line_at line ((line_of words ++ 10 ∷ []) ++ rest) ≡ Ok (line_of words, rest)
line_at-words line words rest each =
    ap (line_at line) (append_assoc (line_of words) (10 ∷ []) rest) ∙ ap (formed line) (text_of-first_line words rest each)

-- ---- words

pub behind_key : {B P : Type 0} (line : ℕ) (key : List ℕ) (words : Words) (next : Words → Result B DossierFault) (y : B) →
    (formed line (key_at key words) >>= next) ≡ Ok y
    → ((rest : Words) → words ≡ key ∷ rest → next rest ≡ Ok y → P) → P
behind_key line key words next y found goes =
    behind_formed line (key_at key words) next y found (λ rest is more. goes rest (key_at-some key words rest is) more)

pub behind_decimal : {B P : Type 0} (line limit : ℕ) (words : Words) (next : ℕ × Words → Result B DossierFault) (y : B) →
    (formed line (decimal_at limit words) >>= next) ≡ Ok y → limit < 2 ^ 64
    → ((n : ℕ) (rest : Words) → words ≡ decimal n ∷ rest → n ≤ limit → next (n, rest) ≡ Ok y → P) → P
behind_decimal line limit words next y found small goes =
    behind_formed line (decimal_at limit words) next y found
    (λ x is more. let word = decimal_at-some limit words x is small in goes x.0 x.1 word.0 word.1 more)

pub behind_signed : {B P : Type 0} (line : ℕ) (words : Words) (next : ℤ × Words → Result B DossierFault) (y : B) → (formed line (signed_at words) >>= next)
    ≡ Ok y
    → ((z : ℤ) (rest : Words) → words ≡ signed_decimal z ∷ rest → FitsSigned w64 z → next (z, rest) ≡ Ok y → P) → P
behind_signed line words next y found goes =
    behind_formed line (signed_at words) next y found
    (λ x is more. let word = signed_at-some words x is in goes x.0 x.1 word.0 word.1 more)

pub behind_end : {B P : Type 0} (line : ℕ) (words : Words) (next : Words → Result B DossierFault) (y : B) → (formed line (end_at words) >>= next) ≡ Ok y
    → ((rest : Words) → words ≡ [] → next rest ≡ Ok y → P) → P
behind_end line words next y found goes =
    behind_formed line (end_at words) next y found (λ rest is more. goes rest (end_at-some words rest is) more)

-- the one number left
pub number_at-ok : (line limit : ℕ) (words : Words) (n : ℕ) → number_at line limit words ≡ Ok n → limit < 2 ^ 64 → (words ≡ decimal n ∷ []) × (n ≤ limit)
unfolding number_at
number_at-ok line limit words n found small =
    behind_decimal line limit words _ n found small
    (λ m w1 e1 l1 found.
    behind_end line w1 _ n found
    (λ w2 e2 found.
    let same = same_Ok m n found in
    subst (λ (k : ℕ). (words ≡ decimal k ∷ []) × (k ≤ limit)) same (e1 ∙ ap (λ (w : Words). decimal m ∷ w) e2, l1)))

pub number_at-again : (line limit n : ℕ) → n ≤ limit → limit < 2 ^ 64 → number_at line limit (decimal n ∷ []) ≡ Ok n
unfolding number_at
number_at-again line limit n within small = rw (decimal_at-decimal limit n [] within small, end_at-end) refl

-- the one word left
pub word_at-ok : (line : ℕ) (words : Words) (word : List ℕ) → word_at line words ≡ Ok word → words ≡ word ∷ []
unfolding word_at
word_at-ok line [] word found = no_fault (Line line) word found
word_at-ok line (first ∷ words) word found =
    behind_end line words _ word found (λ rest none found. ap (λ (w : Words). first ∷ w) none ∙ ap (λ (w : List ℕ). w ∷ []) (same_Ok first word found))

pub word_at-again : (line : ℕ) (word : List ℕ) → word_at line (word ∷ []) ≡ Ok word
unfolding word_at
word_at-again line word = rw end_at-end refl
