-- Laws of whole numbers that may be missing.
use Rattle.std.proofs.Common.{◌≡◌, ℤ, inl, inr, Option, Some, None, refl, sym, subst, ap, arith}
use Rattle.std.specs.Prelude.{◌⊎◌, int_lt}
use Rattle.std.proofs.lemmas.Bool.{cases_Bool, cond-true, cond-false}
use Rattle.std.proofs.lemmas.Int.{ints}
use Rattle.number_laws.specs.Missing.{greater, IsAtMost}

pub IsAtMost-trans : (a b c : Option ℤ) → IsAtMost a b → IsAtMost b c → IsAtMost a c
IsAtMost-trans None b c first second = tt
IsAtMost-trans (Some x) None c first second = absurd first
IsAtMost-trans (Some x) (Some y) None first second = absurd second
IsAtMost-trans (Some x) (Some y) (Some z) first second = omega (arith, ints, first, second)

pub IsAtMost-refl : (a : Option ℤ) → IsAtMost a a
IsAtMost-refl None = tt
IsAtMost-refl (Some x) = omega (arith, ints)

-- one of two, which both are at most
pub record IsGreaterOf (a b most : Option ℤ) : Type 0 where
  pub first : IsAtMost a most
  pub second : IsAtMost b most
  pub either : (most ≡ a) ⊎ (most ≡ b)

-- the greater of two numbers
greater_number : (x y : ℤ) → IsGreaterOf (Some x) (Some y) (greater (Some x) (Some y))
greater_number x y =
    elim (cases_Bool (int_lt x y)) [
      | inl less ↦ subst (IsGreaterOf (Some x) (Some y)) (ap Some (sym (cond-true (int_lt x y) y x less)))
          (record { first = grind (arith, ints); second = IsAtMost-refl (Some y); either = inr refl })
      | inr more ↦ subst (IsGreaterOf (Some x) (Some y)) (ap Some (sym (cond-false (int_lt x y) y x more)))
          (record { first = IsAtMost-refl (Some x); second = grind (arith, ints); either = inl refl })
    ]

pub IsGreaterOf-greater : (a b : Option ℤ) → IsGreaterOf a b (greater a b)
IsGreaterOf-greater None b = record { first = tt; second = IsAtMost-refl b; either = inr refl }
IsGreaterOf-greater (Some x) None = record { first = IsAtMost-refl (Some x); second = tt; either = inl refl }
IsGreaterOf-greater (Some x) (Some y) = greater_number x y

-- the greater of two is one of them, and both are at most it
pub greater_is : (a b most : Option ℤ) → most ≡ greater a b → IsGreaterOf a b most
greater_is a b most is = subst (IsGreaterOf a b) (sym is) (IsGreaterOf-greater a b)
