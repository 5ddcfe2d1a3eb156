-- What fits in so many minutes fits in 1440 more, so that none fit where the last 1440 do not.
use Rattle.std.proofs.Common.{◌≡◌, ℕ, zero, suc, ◌+◌, ◌*◌, ◌<◌, ◌≤◌, arith, inl, inr}
use Rattle.std.proofs.lemmas.Bool.{cases_lt}
use Rattle.std.proofs.Math.Nat.{add-mul-div_right}
use Rattle.greedy_plan.specs.inside.Longest.{volume_in, Fits}

-- 1440 minutes more move the volume of the rate more
volume_later : (rate minutes : ℕ) → volume_in rate (minutes + 1440) ≡ volume_in rate minutes + rate
volume_later rate minutes =
    let e : rate * (minutes + 1440) ≡ rate * minutes + rate * 1440 = grind arith in
    rw e (add-mul-div_right (rate * minutes) rate (omega arith))

fits_later : (rate : ℕ × ℕ) (minutes : ℕ) → rate.0 ≤ rate.1 → Fits rate minutes → Fits rate (minutes + 1440)
fits_later rate minutes order h =
    let e : volume_in rate.1 (minutes + 1440) ≡ volume_in rate.1 minutes + rate.1 = volume_later rate.1 minutes in
    let f : rate.0 * (minutes + 1440) ≡ rate.0 * minutes + 1440 * rate.0 = grind arith in
    rw (e, f) (omega (arith, h, order))

-- steps of 1440 minutes from the time come up to the last 1440 below the limit
none_fits_within : (rate : ℕ × ℕ) (limit : ℕ) → rate.0 ≤ rate.1
    → ((minutes : ℕ) → minutes ≤ limit → limit < minutes + 1440 → Fits rate minutes → ⊥)
    → (steps minutes : ℕ) → minutes ≤ limit → limit ≤ minutes + steps → Fits rate minutes → ⊥
none_fits_within rate limit order none zero minutes most reach h = none minutes most (omega arith) h
none_fits_within rate limit order none (suc steps) minutes most reach h =
    elim (cases_lt limit (minutes + 1440)) [
      | inl last ↦ none minutes most last h
      | inr further ↦ none_fits_within rate limit order none steps (minutes + 1440) further (omega arith)
          (fits_later rate minutes order h)
    ]

pub none_fits : (rate : ℕ × ℕ) (limit : ℕ) → rate.0 ≤ rate.1
    → ((minutes : ℕ) → minutes ≤ limit → limit < minutes + 1440 → Fits rate minutes → ⊥)
    → (minutes : ℕ) → minutes ≤ limit → Fits rate minutes → ⊥
none_fits rate limit order none minutes most h =
    none_fits_within rate limit order none limit minutes most (omega arith) h
