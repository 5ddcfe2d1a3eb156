-- How many things have a property.
use Rattle.std.specs.Prelude.{◌≡◌, ℕ, ◌<◌}

-- exactly n things have P: they can be numbered from 0 up to n, each number that of one of them
pub record IsCountOf {X : Type 0} (P : X → Type 0) (n : ℕ) : Type 0 where
  pub number_of : X → ℕ
  pub thing_of : ℕ → X
  pub below : (x : X) → P x → number_of x < n
  pub there : (k : ℕ) → k < n → P (thing_of k)
  pub thing_of-number_of : (x : X) → P x → thing_of (number_of x) ≡ x
  pub number_of-thing_of : (k : ℕ) → k < n → number_of (thing_of k) ≡ k
