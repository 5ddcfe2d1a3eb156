-- Laws of sets of operations.
use Rattle.std.proofs.Common.{◌≡◌, ◌⊎◌, ℕ, zero, suc, ◌+◌, ◌^◌, ◌<◌, Bool, true, false, sym, ap, subst, inl, inr, ◌∙◌, arith}
use Rattle.std.specs.Prelude.{◌↔◌, IsBitSet, bit_and, if◌then◌else◌}
use Rattle.std.specs.Int.{bit_at}
use Rattle.std.proofs.lemmas.Bool.{cases_Bool, cases_lt, cases_eq, eqb-true, eq-eqb}
use Rattle.std.proofs.lemmas.Nat.Bits.{bit_at-lt, bit_at-zero, bit_at_and, bit_at-pow_same, bit_at-pow_other, same_from_bits}
use Rattle.number_laws.proofs.BitLaws.{set_from_one, one_from_set, set_and, set_or}
use Rattle.overlap_graph.specs.Sets.{set_of, with_member, is_within}

-- ---- members

-- the set of one
pub alone : (v k : ℕ) → IsBitSet (2 ^ v) k ↔ (k ≡ v)
alone v k = (
  λ set.
      elim (cases_eq k v) [
        | inl is ↦ is
        | inr other ↦ absurd (omega (arith, one_from_set (2 ^ v) k set, bit_at-pow_other v k other))
      ],
  λ is. subst (λ (n : ℕ). IsBitSet (2 ^ v) n) (sym is) (set_from_one (2 ^ v) v (bit_at-pow_same v)),
)

pub with_member-has : (set v k : ℕ) → IsBitSet (with_member set v) k ↔ (IsBitSet set k ⊎ (k ≡ v))
with_member-has set v k = (
  λ has.
      elim ((set_or set (2 ^ v) k).0 has) [
        | inl before ↦ inl before
        | inr last ↦ inr ((alone v k).0 last)
      ],
  λ either.
      (set_or set (2 ^ v) k).1 (elim either [ inl before ↦ inl before | inr last ↦ inr ((alone v k).1 last) ]),
)

pub none_in_empty : (k : ℕ) → IsBitSet 0 k → ⊥
none_in_empty k set = absurd (omega (arith, one_from_set 0 k set, bit_at-zero k))

pub set_of-next : (n : ℕ) (test : ℕ → Bool) → set_of (n + 1) test ≡ (if test n then with_member (set_of n test) n else set_of n test)
set_of-next n test = (let next : n + 1 ≡ suc n = omega arith in ap (λ (k : ℕ). set_of k test) next)

-- one more number is tested
pub set_step : (n : ℕ) (test : ℕ → Bool) (set next : ℕ) (b : Bool) → set ≡ set_of n test → test n ≡ b → next ≡ (if b then with_member set n else set) →
    next ≡ set_of (n + 1) test
set_step n test set next b is tested step =
    step ∙ ap (λ (s : ℕ). if b then with_member s n else s) is ∙ ap (λ (c : Bool). if c then with_member (set_of n test) n else set_of n test) (sym tested)
    ∙ sym (set_of-next n test)

-- the numbers below the limit that pass
pub set_of-has : (n : ℕ) (test : ℕ → Bool) (k : ℕ) → IsBitSet (set_of n test) k ↔ ((k < n) × (test k ≡ true))
set_of-has zero test k = (λ set. absurd (none_in_empty k set), λ both. absurd (omega (arith, both.0)))
set_of-has (suc n) test k =
    elim (cases_Bool (test n)) [
      | inl passes ↦ rw passes (
        λ set.
            elim ((with_member-has (set_of n test) n k).0 set) [
              | inl earlier ↦ (let both = (set_of-has n test k).0 earlier in (omega (arith, both.0), both.1))
              | inr is ↦ (omega (arith, is), ap test is ∙ passes)
            ],
        λ both.
            (with_member-has (set_of n test) n k).1 (
            elim (cases_lt k n) [
              | inl below ↦ inl ((set_of-has n test k).1 (below, both.1))
              | inr from ↦ inr (omega (arith, both.0))
            ]
            ),
      )
      | inr fails ↦ rw fails (
        λ set. (let both = (set_of-has n test k).0 set in (omega (arith, both.0), both.1)),
        λ both.
            elim (cases_lt k n) [
              | inl below ↦ (set_of-has n test k).1 (below, both.1)
              | inr from ↦
                  let is : k ≡ n = omega (arith, both.0) in
                  let wrong : true ≡ false = sym both.1 ∙ ap test is ∙ fails in
                  cc
            ],
      )
    ]

-- ---- sets within sets

pub member_within : (set other k : ℕ) → is_within set other ≡ true → IsBitSet set k → IsBitSet other k
member_within set other k within has =
    let same = eqb-true (bit_and set other) set within in
    ((set_and set other k).0 (subst (λ (n : ℕ). IsBitSet n k) (sym same) has)).1

pub within_by_members : (set other : ℕ) → ((k : ℕ) → IsBitSet set k → IsBitSet other k) → is_within set other ≡ true
within_by_members set other each =
    eq-eqb (bit_and set other) set (same_from_bits (bit_and set other) set (λ k.
    elim (cases_eq (bit_at set k) 1) [
      | inl one ↦ omega (arith, one, bit_at_and set other k, one_from_set other k (each k (set_from_one set k one)))
      | inr not_one ↦ (let bit = bit_at-lt set k in omega (arith, bit, not_one, bit_at_and set other k))
    ]))
