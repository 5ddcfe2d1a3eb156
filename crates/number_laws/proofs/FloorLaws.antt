-- A quotient rounded toward minus infinity.
use Rattle.std.proofs.Common.{ℕ, suc, ◌*◌, ◌/◌, ◌<◌, ◌≤◌, ℤ, pos, negsuc, ◌*ℤ◌, ◌≤ℤ◌, arith}
use Rattle.std.proofs.lemmas.Int.{ints}
use Rattle.std.proofs.lemmas.Nat.{le-div, div_below}
use Rattle.number_laws.specs.Floors.{floor_of, FloorsAreGreatest}

floor-below : (z : ℤ) (q : ℕ) → 0 < q → (pos q *ℤ floor_of z q) ≤ℤ z
floor-below (pos n) q some = omega (arith, ints)
floor-below (negsuc n) q some = omega (arith, ints)

greatest_up : (n q : ℕ) → 0 < q → (x : ℤ) → (pos q *ℤ x) ≤ℤ pos n → x ≤ℤ pos (n / q)
greatest_up n q some (pos m) under =
    let short : m * q ≤ n = omega (arith, ints) in
    let there = le-div m n q some short in
    omega (arith, ints)
greatest_up n q some (negsuc m) under = omega (arith, ints)

greatest_down : (n q : ℕ) → 0 < q → (x : ℤ) → (pos q *ℤ x) ≤ℤ negsuc n → x ≤ℤ negsuc (n / q)
greatest_down n q some (pos m) under = omega (arith, ints)
greatest_down n q some (negsuc m) under =
    let long : n < suc m * q = omega (arith, ints) in
    let there = div_below n q (suc m) some long in
    omega (arith, ints)

floor-greatest : (z : ℤ) (q : ℕ) → 0 < q → (x : ℤ) → (pos q *ℤ x) ≤ℤ z → x ≤ℤ floor_of z q
floor-greatest (pos n) q some x under = greatest_up n q some x under
floor-greatest (negsuc n) q some x under = greatest_down n q some x under

pub floors_are_greatest : FloorsAreGreatest
floors_are_greatest = λ z q some. record { below = floor-below z q some; greatest = floor-greatest z q some }
