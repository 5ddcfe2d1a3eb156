-- Halves of sets of entries.
use Rattle.std.proofs.Common.{◌≡◌, ℕ, inl, inr, ◌+◌, ◌-◌, ◌*◌, ◌/◌, ◌%◌, ◌^◌, ◌<◌, ◌≤◌, sym, ap, ◌∙◌, arith}
use Rattle.std.specs.Prelude.{IsBitSet, bit_and}
use Rattle.std.specs.Int.{w64, bit_not, trailing_zeros}
use Rattle.std.specs.Int.Count.{ones}
use Rattle.std.proofs.Math.Nat.{mod-eq_of_lt}
use Rattle.std.proofs.lemmas.Bool.{cases_lt}
use Rattle.std.proofs.lemmas.Nat.{and_assoc, and_le_l, ones-le, pow_below}
use Rattle.std.proofs.lemmas.Nat.Bits.{and_pow, bit_at-trailing_zeros}
use Rattle.number_laws.proofs.BitLaws.{and-not, one_from_set, ones_parts, set_from_one}
use Rattle.slot_box.proofs.LiveLaws.{ones_from_power}
use Rattle.slot_box.specs.Even.{HalvesEntries}
use Rattle.search_node.specs.inside.Splitting.{IsPartOf}

-- a set that has some entry is not empty
pub some_entry : (set : ℕ) → 1 ≤ ones set → 0 < set
some_entry set some =
    elim (cases_lt 0 set) [
      | inl more ↦ more
      | inr none ↦ absurd (let few = ones-le 0 set (omega arith) in omega arith)
    ]

-- the lowest entry of a set is one of it
pub lowest : (set : ℕ) → 0 < set → set < 2 ^ 64 → (trailing_zeros w64 set < 64) × IsBitSet set (trailing_zeros w64 set)
lowest set some small =
    let found = bit_at-trailing_zeros w64 set some small in
    (found.0, set_from_one set (trailing_zeros w64 set) found.1)

-- a set without one of its entries, as it is computed
abbrev pub without : ℕ → ℕ → ℕ
without set k = bit_and set (bit_not w64 (1 * 2 ^ k % 2 ^ 64))

-- it has one less
pub one_less : (set k : ℕ) → set < 2 ^ 64 → k < 64 → IsBitSet set k → ones (without set k) + 1 ≡ ones set
one_less set k small within member =
    let below = pow_below k 64 within in
    let bit : 1 * 2 ^ k % 2 ^ 64 ≡ 2 ^ k = mod-eq_of_lt (omega arith) ∙ omega arith in
    let rest : without set k ≡ set - bit_and set (2 ^ k) = ap (λ (b : ℕ). bit_and set (bit_not w64 b)) bit ∙ and-not 64 set (2 ^ k) small below in
    let taken : bit_and set (2 ^ k) ≡ 2 ^ k = and_pow set k ∙ ap (λ (d : ℕ). d * 2 ^ k) (one_from_set set k member) ∙ omega arith in
    let one = ap ones taken ∙ ones_from_power k within in
    let parts = ones_parts 64 set (2 ^ k) small in
    let count = ap ones rest in
    omega arith

-- and is a part of whatever the set is a part of
pub still_part : (set k whole : ℕ) → IsPartOf set whole → IsPartOf (without set k) whole
still_part set k whole part =
    let mask = bit_not w64 (1 * 2 ^ k % 2 ^ 64) in
    sym (and_assoc mask whole set) ∙ ap (λ (s : ℕ). bit_and s mask) part

-- a part with half of the entries
pub halves : (live part : ℕ) → live < 2 ^ 64 → IsPartOf part live → ones part + ones live / 2 ≡ ones live → HalvesEntries live part
halves live part small is count =
    let both = ones_parts 64 live part small in
    let first = ap ones is in
    (omega arith, omega arith)

-- which is less than the whole set where some entry is left out
pub part_less : (live part : ℕ) → IsPartOf part live → ones part < ones live → part < live
part_less live part is fewer =
    let most = and_le_l live part in
    elim (cases_lt part live) [
      | inl less ↦ less
      | inr more ↦ absurd (let same : part ≡ live = omega arith in let count = ap ones same in omega arith)
    ]
