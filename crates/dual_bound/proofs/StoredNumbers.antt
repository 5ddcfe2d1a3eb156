-- A signed number that is stored and read is itself.
use Rattle.std.proofs.Common.{◌≡◌, ℕ, ◌*◌, ◌^◌, ◌<◌, ◌≤◌, ℤ, pos, negsuc, ◌*ℤ◌, unsigned_abs, to_z, of_z, arith, FitsSigned}
use Rattle.std.proofs.lemmas.Int.{to_z-of_z, fits_signed_from_abs, unsigned_abs-mul}
use Rattle.std.specs.Int.{w64, w128}
use lib.Signed.{mag}

pub abs-from_mag : (z : ℤ) (n : ℕ) → mag z < n → unsigned_abs z ≤ n
abs-from_mag (pos a) n below = omega arith
abs-from_mag (negsuc a) n below = omega arith

pub read-within : (z : ℤ) (n : ℕ) → unsigned_abs z ≤ n → n < 2 ^ 127 → to_z w128 (of_z w128 z) ≡ z
read-within z n within small = to_z-of_z w128 z (fits_signed_from_abs w128 z (omega arith))

pub read-mag : (z : ℤ) → mag z < 2 ^ 127 → to_z w128 (of_z w128 z) ≡ z
read-mag z fits = to_z-of_z w128 z (record { sfits = fits })

pub read-small : (z : ℤ) → FitsSigned w64 z → to_z w64 (of_z w64 z) ≡ z
read-small z fits = to_z-of_z w64 z fits

pub abs-small : (z : ℤ) → FitsSigned w64 z → unsigned_abs z ≤ 2 ^ 63
abs-small z fits = abs-from_mag z (2 ^ 63) fits.sfits

pub abs-product : (a b : ℤ) (m n : ℕ) → unsigned_abs a ≤ m → unsigned_abs b ≤ n → unsigned_abs (a *ℤ b) ≤ m * n
abs-product a b m n first second = rw (unsigned_abs-mul a b) (grind arith)
