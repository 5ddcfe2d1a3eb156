-- What stands before the first mark and after it.
use Rattle.std.proofs.Common.{◌≡◌, ℕ, zero, suc, ◌<◌, Bool, true, false, not, eqb, List, [], ◌∷◌, ◌++◌, length, get_or, take, drop, Option, Some, None, refl, sym, ap, subst, ◌∙◌, arith, inl, inr}
use Rattle.std.specs.Option.{option_map}
use Rattle.std.specs.List.{list_all}
use Rattle.std.specs.Char.{is_ascii_digit}
use Rattle.std.specs.Str.{all_ascii_digits}
use Rattle.std.proofs.lemmas.Bool.{eqb-true, eq-eqb, ne_eqb, and_parts, and_from, not-true, cases_Bool, false≢true}
use Rattle.std.proofs.lemmas.Option.{none-some, same_Some}
use Rattle.line_text.specs.Words.{parts_at}

abbrev pub Parts : Type 0
Parts = List ℕ × List ℕ

-- the parts, with one byte more in front
abbrev pub onto : ℕ → Parts → Parts
onto byte parts = (byte ∷ parts.0, parts.1)

pub parts_at-at_mark : (mark : ℕ) (bytes : List ℕ) (i : ℕ) → i < length bytes → ((k : ℕ) → k < i → get_or bytes k 0 ≡ mark → ⊥) → get_or bytes i 0 ≡ mark →
    parts_at mark bytes ≡ Some (take i bytes, drop (suc i) bytes)
unfolding parts_at
parts_at-at_mark mark [] i within before found = absurd (omega arith)
parts_at-at_mark mark (byte ∷ bytes) zero within before found = rw (eq-eqb byte mark found) refl
parts_at-at_mark mark (byte ∷ bytes) (suc i) within before found =
    rw (ne_eqb byte mark (before 0 (omega arith)), parts_at-at_mark mark bytes i (omega arith) (λ k below. before (suc k) (omega arith)) found) refl

pub parts_at-no_mark : (mark : ℕ) (bytes : List ℕ) → ((k : ℕ) → k < length bytes → get_or bytes k 0 ≡ mark → ⊥) → parts_at mark bytes ≡ None
unfolding parts_at
parts_at-no_mark mark [] none = refl
parts_at-no_mark mark (byte ∷ bytes) none =
    rw (ne_eqb byte mark (none 0 (omega arith)), parts_at-no_mark mark bytes (λ k below. none (suc k) (omega arith))) refl

further : (mark byte : ℕ) (bytes : List ℕ) (parts : Parts) (rest : Option Parts) → ((p : Parts) → rest ≡ Some p → bytes ≡ p.0 ++ mark ∷ p.1) →
    option_map (onto byte) rest ≡ Some parts → byte ∷ bytes ≡ parts.0 ++ mark ∷ parts.1
further mark byte bytes parts None law found = absurd (none-some parts found)
further mark byte bytes parts (Some p) law found =
    subst (λ (q : Parts). byte ∷ bytes ≡ q.0 ++ mark ∷ q.1) (same_Some (onto byte p) parts found) (ap (λ (w : List ℕ). byte ∷ w) (law p refl))

-- the parts have the mark between them
pub parts_at-some : (mark : ℕ) (bytes : List ℕ) (parts : Parts) → parts_at mark bytes ≡ Some parts → bytes ≡ parts.0 ++ mark ∷ parts.1
unfolding parts_at
parts_at-some mark [] parts found = absurd (none-some parts found)
parts_at-some mark (byte ∷ bytes) parts found =
    elim (cases_Bool (eqb byte mark)) [
      | inl here ↦
          let e = same_Some ([], bytes) parts (rw here at found) in
          subst (λ (p : Parts). byte ∷ bytes ≡ p.0 ++ mark ∷ p.1) e (ap (λ (b : ℕ). b ∷ bytes) (eqb-true byte mark here))
      | inr later ↦ further mark byte bytes parts (parts_at mark bytes) (parts_at-some mark bytes) (rw later at found)
    ]

-- none of the bytes is the mark
abbrev pub is_free : ℕ → List ℕ → Bool
is_free mark bytes = list_all (λ byte. not (eqb byte mark)) bytes

pub is_free-append : (mark : ℕ) (a b : List ℕ) → is_free mark a ≡ true → is_free mark b ≡ true → is_free mark (a ++ b) ≡ true
is_free-append mark [] b first second = second
is_free-append mark (byte ∷ a) b first second =
    let parts = and_parts (not (eqb byte mark)) (is_free mark a) first in
    and_from _ _ parts.0 (is_free-append mark a b parts.1 second)

-- bytes of a class to which the mark does not belong
not_mark : (p : ℕ → Bool) (mark byte : ℕ) → p byte ≡ true → p mark ≡ false → not (eqb byte mark) ≡ true
not_mark p mark byte is other = rw (ne_eqb byte mark (λ e. absurd (false≢true (sym other ∙ ap p (sym e) ∙ is)))) refl

pub is_free-class : (p : ℕ → Bool) (mark : ℕ) (bytes : List ℕ) → list_all p bytes ≡ true → p mark ≡ false → is_free mark bytes ≡ true
is_free-class p mark [] all other = refl
is_free-class p mark (byte ∷ bytes) all other =
    let parts = and_parts (p byte) (list_all p bytes) all in
    and_from _ _ (not_mark p mark byte parts.0 other) (is_free-class p mark bytes parts.1 other)

pub is_free-digits : (mark : ℕ) (bytes : List ℕ) → all_ascii_digits bytes ≡ true → is_ascii_digit mark ≡ false → is_free mark bytes ≡ true
is_free-digits mark [] all other = refl
is_free-digits mark (byte ∷ bytes) all other =
    let parts = and_parts (is_ascii_digit byte) (all_ascii_digits bytes) all in
    and_from _ _ (not_mark is_ascii_digit mark byte parts.0 other) (is_free-digits mark bytes parts.1 other)

-- where the first part has no mark, the parts are found again
pub parts_at-append : (mark : ℕ) (a b : List ℕ) → is_free mark a ≡ true → parts_at mark (a ++ mark ∷ b) ≡ Some (a, b)
unfolding parts_at
parts_at-append mark [] b free = rw (eq-eqb mark mark refl) refl
parts_at-append mark (byte ∷ a) b free =
    let parts = and_parts (not (eqb byte mark)) (is_free mark a) free in
    rw (not-true (eqb byte mark) parts.0, parts_at-append mark a b parts.1) refl

-- where there is no mark, there are no parts
pub parts_at-free : (mark : ℕ) (a : List ℕ) → is_free mark a ≡ true → parts_at mark a ≡ None
unfolding parts_at
parts_at-free mark [] free = refl
parts_at-free mark (byte ∷ a) free =
    let parts = and_parts (not (eqb byte mark)) (is_free mark a) free in
    rw (not-true (eqb byte mark) parts.0, parts_at-free mark a parts.1) refl
