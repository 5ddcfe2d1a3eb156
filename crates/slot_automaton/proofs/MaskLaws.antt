-- The set that the automaton keeps, after a letter.
use Rattle.std.proofs.Common.{ℕ, ◌-◌, ◌^◌, ◌<◌, ◌⊎◌, List, inl, inr}
use Rattle.std.specs.Prelude.{◌↔◌, IsBitSet, bit_or, slice_index}
use Rattle.number_laws.proofs.BitLaws.{set_and, set_or, set_below}
use Rattle.slot_automaton.specs.Independence.{IsIndependent}
use Rattle.slot_automaton.specs.Blocked.{next_blocked}

-- the set after a letter, as the mask that it is kept in
pub set_next :
    (masks : List ℕ) (blocked x a : ℕ)
    → IsBitSet (next_blocked masks blocked x) a ↔ (IsIndependent masks a x × (IsBitSet blocked a ⊎ (a < x)))
set_next masks blocked x a = (
  λ next.
      let both = (set_and (bit_or blocked (2 ^ x - 1)) (slice_index masks x) a).0 next in (
        both.1,
        elim ((set_or blocked (2 ^ x - 1) a).0 both.0) [
          | inl before ↦ inl before
          | inr less ↦ inr ((set_below x a).0 less)
        ],
      ),
  λ both.
      (set_and (bit_or blocked (2 ^ x - 1)) (slice_index masks x) a).1 (
        (set_or blocked (2 ^ x - 1) a).1
            (elim both.1 [ inl before ↦ inl before | inr less ↦ inr ((set_below x a).1 less) ]),
        both.0,
      ),
)
