-- A word is read as what it says, and what is read is what stood there.
use Rattle.std.proofs.Common.{◌≡◌, ℕ, suc, ◌^◌, ◌<◌, ◌≤◌, true, false, ◌&&◌, List, [], ◌∷◌, ◌++◌, Option, Some, None, refl, ap, subst, ◌∙◌, arith, ℤ, pos, negsuc, FitsSigned}
use Rattle.std.specs.Prelude.{decimal, nat_le, length}
use Rattle.std.specs.Int.{w64}
use Rattle.std.specs.Fmt.{signed_decimal}
use Rattle.std.specs.Option.{option_map}
use Rattle.std.specs.List.{list_all}
use Rattle.std.specs.Char.{is_ascii_digit}
use Rattle.std.specs.Str.{bytes_eq}
use Rattle.std.proofs.lemmas.Bool.{and_parts}
use Rattle.std.proofs.lemmas.Slice.Eq.{bytes_eq-Decides}
use Rattle.std.proofs.lemmas.Option.{none-some, same_Some, cond_some}
use Rattle.std.proofs.lemmas.Fmt.{digits_decimal}
use Rattle.line_text.specs.Name.{is_name, is_name_byte}
use Rattle.line_text.specs.Decimal.{decimal_of, signed_of}
use Rattle.line_text.specs.Reading.{◌>>=◌, key_at, decimal_at, signed_at, name_at, end_at, number_before}
use Rattle.line_text.proofs.PartLaws.{is_free, is_free-class, is_free-digits, parts_at-append, parts_at-some}
use Rattle.line_text.proofs.WordLaws.{IsWord}
use Rattle.line_text.specs.Words.{parts_at}
use Rattle.line_text.proofs.DecimalLaws.{own, decimal_of-decimal, decimal_of-some}
use Rattle.line_text.proofs.SignedLaws.{signed_of-decimal, signed_of-some}

-- the answer of a step that had one
pub step_some : {A B : Type 0} (o : Option A) (f : A → Option B) (y : B) → (o >>= f) ≡ Some y → (x : A) × (o ≡ Some x) × (f x ≡ Some y)
step_some None f y found = absurd (none-some y found)
step_some (Some x) f y found = (x, refl, found)

-- an answer that is given along
map_some : {A B : Type 0} (f : A → B) (o : Option A) (y : B) → option_map f o ≡ Some y → (x : A) × (o ≡ Some x) × (f x ≡ y)
map_some f None y found = absurd (none-some y found)
map_some f (Some x) y found = (x, refl, same_Some (f x) y found)

-- ---- a key

pub key_at-key : (key : List ℕ) (words : List (List ℕ)) → key_at key (key ∷ words) ≡ Some words
unfolding key_at
key_at-key key words = rw ((bytes_eq-Decides key key).1 refl) refl

pub key_at-some : (key : List ℕ) (words rest : List (List ℕ)) → key_at key words ≡ Some rest → words ≡ key ∷ rest
unfolding key_at
key_at-some key [] rest found = absurd (none-some rest found)
key_at-some key (word ∷ words) rest found =
    let parts = cond_some (bytes_eq word key) words rest found in
    ap (λ (w : List ℕ). w ∷ words) ((bytes_eq-Decides word key).0 parts.0) ∙ ap (λ (ws : List (List ℕ)). key ∷ ws) parts.1

-- ---- a decimal

pub decimal_at-decimal : (limit n : ℕ) (words : List (List ℕ)) → n ≤ limit → limit < 2 ^ 64 → decimal_at limit (decimal n ∷ words) ≡ Some (n, words)
unfolding decimal_at
decimal_at-decimal limit n words within small = rw (decimal_of-decimal limit n within small) refl

pub decimal_at-some : (limit : ℕ) (words : List (List ℕ)) (x : ℕ × List (List ℕ)) → decimal_at limit words ≡ Some x → limit < 2 ^ 64 →
    (words ≡ decimal x.0 ∷ x.1) × (x.0 ≤ limit)
unfolding decimal_at
decimal_at-some limit [] x found small = absurd (none-some x found)
decimal_at-some limit (word ∷ words) x found small =
    let read = map_some (λ (number : ℕ). (number, words)) (decimal_of limit word) x found in
    let text = decimal_of-some limit word read.0 read.1 small in
    subst (λ (y : ℕ × List (List ℕ)). (word ∷ words ≡ decimal y.0 ∷ y.1) × (y.0 ≤ limit)) read.2 (ap (λ (w : List ℕ). w ∷ words) text.0, text.1)

pub is_free-decimal : (mark n : ℕ) → n < 2 ^ 64 → is_ascii_digit mark ≡ false → is_free mark (decimal n) ≡ true
is_free-decimal mark n small other = is_free-digits mark (decimal n) (digits_decimal own n small) other

pub decimal_is_word : (n : ℕ) → n < 2 ^ 64 → IsWord (decimal n)
decimal_is_word n small = record { unspaced = is_free-decimal 32 n small refl; unbroken = is_free-decimal 10 n small refl }

-- ---- a decimal with a sign

pub signed_at-decimal : (z : ℤ) (words : List (List ℕ)) → FitsSigned w64 z → signed_at (signed_decimal z ∷ words) ≡ Some (z, words)
unfolding signed_at
signed_at-decimal z words fits = rw (signed_of-decimal z fits) refl

pub signed_at-some : (words : List (List ℕ)) (x : ℤ × List (List ℕ)) → signed_at words ≡ Some x → (words ≡ signed_decimal x.0 ∷ x.1) × FitsSigned w64 x.0
unfolding signed_at
signed_at-some [] x found = absurd (none-some x found)
signed_at-some (word ∷ words) x found =
    let read = map_some (λ (number : ℤ). (number, words)) (signed_of word) x found in
    let text = signed_of-some word read.0 read.1 in
    subst (λ (y : ℤ × List (List ℕ)). (word ∷ words ≡ signed_decimal y.0 ∷ y.1) × FitsSigned w64 y.0) read.2 (ap (λ (w : List ℕ). w ∷ words) text.0, text.1)

pub signed_is_word : (z : ℤ) → FitsSigned w64 z → IsWord (signed_decimal z)
signed_is_word (pos n) fits = let small : n < 2 ^ 63 = fits.sfits in decimal_is_word n (omega arith)
signed_is_word (negsuc n) fits =
    let small : n < 2 ^ 63 = fits.sfits in
    let digits = decimal_is_word (suc n) (omega arith) in
    record { unspaced = digits.unspaced; unbroken = digits.unbroken }

-- ---- a name

pub name_at-name : (name : List ℕ) (words : List (List ℕ)) → is_name name ≡ true → name_at (name ∷ words) ≡ Some (name, words)
unfolding name_at
name_at-name name words is = rw is refl

pub name_at-some : (words : List (List ℕ)) (x : List ℕ × List (List ℕ)) → name_at words ≡ Some x → (words ≡ x.0 ∷ x.1) × (is_name x.0 ≡ true)
unfolding name_at
name_at-some [] x found = absurd (none-some x found)
name_at-some (word ∷ words) x found =
    let parts = cond_some (is_name word) (word, words) x found in
    subst (λ (y : List ℕ × List (List ℕ)). (word ∷ words ≡ y.0 ∷ y.1) × (is_name y.0 ≡ true)) parts.1 (refl, parts.0)

pub name_is_word : (name : List ℕ) → is_name name ≡ true → IsWord name
name_is_word name is =
    let sizes = and_parts (nat_le 1 (length name) && nat_le (length name) 32) (list_all is_name_byte name) is in
    record { unspaced = is_free-class is_name_byte 32 name sizes.1 refl; unbroken = is_free-class is_name_byte 10 name sizes.1 refl }

-- ---- the end

pub end_at-some : (words rest : List (List ℕ)) → end_at words ≡ Some rest → words ≡ []
unfolding end_at
end_at-some [] rest found = refl
end_at-some (word ∷ words) rest found = absurd (none-some rest found)

pub end_at-end : end_at [] ≡ Some []
unfolding end_at
end_at-end = refl

-- ---- a number before a mark

pub number_before-some : (mark limit : ℕ) (bytes : List ℕ) (x : ℕ × List ℕ) → number_before mark limit bytes ≡ Some x → limit < 2 ^ 64 →
    (bytes ≡ decimal x.0 ++ mark ∷ x.1) × (x.0 ≤ limit)
unfolding number_before
number_before-some mark limit bytes x found small =
    let parts = step_some (parts_at mark bytes) _ x found in
    let number = step_some (decimal_of limit parts.0.0) _ x parts.2 in
    let text = decimal_of-some limit parts.0.0 number.0 number.1 small in
    let whole = parts_at-some mark bytes parts.0 parts.1 ∙ ap (λ (w : List ℕ). w ++ mark ∷ parts.0.1) text.0 in
    subst (λ (y : ℕ × List ℕ). (bytes ≡ decimal y.0 ++ mark ∷ y.1) × (y.0 ≤ limit)) (same_Some (number.0, parts.0.1) x number.2) (whole, text.1)

pub number_before-again : (mark limit n : ℕ) (rest : List ℕ) → n ≤ limit → limit < 2 ^ 64 → is_ascii_digit mark ≡ false →
    number_before mark limit (decimal n ++ mark ∷ rest) ≡ Some (n, rest)
unfolding number_before
number_before-again mark limit n rest within small other =
    rw (parts_at-append mark (decimal n) rest (is_free-decimal mark n (omega arith) other), decimal_of-decimal limit n within small) refl
