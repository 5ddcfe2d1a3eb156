-- Margins in words.
use Rattle.std.proofs.Common.{◌≡◌, ◌≢◌, ℕ, ℤ, zero, suc, pos, ◌≤◌, max, true, false, Some, refl, sym, ap, ◌∙◌, arith}
use Rattle.std.specs.Prelude.{int_lt, ◌-ℤ◌, ◌+ℤ◌, ◌≤ℤ◌}
use mathlib.Core.Logic.{dite}
use native.Mathlib.Decide.{dec_le}
use Rattle.std.proofs.lemmas.Bool.{cond-true, cond-false}
use Rattle.std.proofs.lemmas.Int.{ints}
use Rattle.number_laws.specs.Missing.{greater, IsAtMost}
use Rattle.search_board.specs.Margins.{margin_in}

-- a word that is not 0 holds a margin
pub margin-in_some : (word : ℕ) → word ≢ 0 → margin_in word ≡ Some (pos word -ℤ pos 4611686018427387904)
margin-in_some zero some = absurd (some refl)
margin-in_some (suc n) some = refl

-- a greater word holds no lesser margin
pub at-most-word : (a b : ℕ) → a ≤ b → IsAtMost (margin_in a) (margin_in b)
at-most-word zero b le = tt
at-most-word (suc a) zero le = absurd (omega arith)
at-most-word (suc a) (suc b) le = omega (arith, ints)

greater-suc : (a b : ℕ) → margin_in (max (suc a) (suc b)) ≡ greater (margin_in (suc a)) (margin_in (suc b))
greater-suc a b = dite (dec_le (suc a) b)
    (λ lt. let m : max (suc a) (suc b) ≡ suc b = omega arith in let less : int_lt (pos (suc a) -ℤ pos 4611686018427387904) (pos
    (suc b) -ℤ pos 4611686018427387904) ≡ true = grind (arith, ints) in
    ap margin_in m ∙ sym (ap Some (cond-true _ _ _ less)))
    (λ ge. let m : max (suc a) (suc b) ≡ suc a = omega arith in let more : int_lt (pos (suc a) -ℤ pos 4611686018427387904) (pos
    (suc b) -ℤ pos 4611686018427387904) ≡ false = grind (arith, ints) in
    ap margin_in m ∙ sym (ap Some (cond-false _ _ _ more)))

-- the greater of two words holds the greater margin
pub greater-word : (a b : ℕ) → margin_in (max a b) ≡ greater (margin_in a) (margin_in b)
greater-word zero b = let same : max 0 b ≡ b = omega arith in ap margin_in same
greater-word (suc a) zero = let same : max (suc a) 0 ≡ suc a = omega arith in ap margin_in same
greater-word (suc a) (suc b) = greater-suc a b

-- the word of a margin holds it
pub margin_word : (margin : ℤ) (word : ℕ) → pos 0 ≤ℤ (margin +ℤ pos 1152921504606846976) → pos word ≡ margin +ℤ pos 4611686018427387904
    → margin_in word ≡ Some margin
margin_word margin word least is =
    let some : word ≢ 0 = λ z. omega (arith, ints, least, is, z) in
    let same : pos word -ℤ pos 4611686018427387904 ≡ margin = omega (arith, ints, is) in margin-in_some word some ∙ ap Some same
