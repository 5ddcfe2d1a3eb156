-- Why the whole of a room, or else the greatest volume of the longest time, is the greatest that the room takes.
use Rattle.std.proofs.Common.{◌≡◌, ℕ, zero, suc, ◌+◌, ◌*◌, ◌-◌, ◌<◌, ◌≤◌, ◌⊎◌, min, arith, inl, inr}
use Rattle.std.proofs.lemmas.Bool.{cases_lt}
use Rattle.std.proofs.Math.Nat.{mul-le-mul_left}
use Rattle.greedy_plan.specs.declared.room.Room.{Room}
use Rattle.greedy_plan.specs.Runs.{Takes, IsRoom, IsGreatest}
use Rattle.greedy_plan.specs.inside.Longest.{volume_in, Fits, IsLongestTime}

-- minutes in which so much can be moved at the rate are some
pub some_minutes : (rate volume minutes : ℕ) → 1 ≤ volume → 1440 * volume ≤ rate * minutes → 1 ≤ minutes
some_minutes rate volume zero some enough = omega arith
some_minutes rate volume (suc n) some enough = omega arith

-- more minutes, more at the greatest rate
later : (rate n m : ℕ) → n ≤ m → rate * n ≤ rate * m
later rate n m h = mul-le-mul_left rate h

-- where the whole is not taken, what is taken takes less than its quickest time
pub quicker_than_whole : (room : Room) (quickest : ℕ) → room.least ≤ room.most
    → 1440 * room.most ≤ room.rate.1 * quickest
    → ((m : ℕ) → Takes room room.most m → ⊥)
    → (volume m : ℕ) → Takes room volume m → m < quickest
quicker_than_whole room quickest some enough not_whole volume m takes =
    elim (cases_lt m quickest) [
      | inl less ↦ less
      | inr more ↦ absurd (not_whole m (record {
        least = some;
        most = omega arith;
        in_time = takes.in_time;
        moves = record {
          some = takes.moves.some;
          not_too_slowly = omega (arith, takes.moves.not_too_slowly, takes.most);
          not_too_fast = (let longer = later room.rate.1 quickest m more in omega (arith, longer, enough));
        };
      }))
    ]

-- what is taken in so many minutes is at most the greatest volume, which then is not moved too slowly
pub fits_what_is_taken : (room : Room) (volume m : ℕ) → Takes room volume m
    → (volume ≤ volume_in room.rate.1 m) × Fits room.rate m
fits_what_is_taken room volume m takes =
    let below : volume ≤ volume_in room.rate.1 m = omega (arith, takes.moves.not_too_fast) in
    (below, omega (arith, below, takes.moves.not_too_slowly))

-- the limit leaves out no minutes of the room but those of the quickest time and later ones
abbrev pub Reaches : ℕ → ℕ → ℕ → Type 0
Reaches quickest minutes limit = quickest ≤ limit + 1 ⊎ minutes ≤ limit

pub reaches : (quickest minutes limit : ℕ) → limit ≡ min (quickest - 1) minutes → Reaches quickest minutes limit
reaches quickest minutes limit is =
    elim (cases_lt limit minutes) [
      | inl less ↦ inl (omega (arith, is, less))
      | inr all ↦ inr all
    ]

-- more minutes, no less volume
volume_grows : (rate n m : ℕ) → n ≤ m → volume_in rate n ≤ volume_in rate m
volume_grows rate n m h = (let more = later rate n m h in omega arith)

-- what is taken is at most the greatest volume of the longest time
pub at_most_the_longest : (room : Room) (quickest limit time : ℕ) → room.least ≤ room.most
    → 1440 * room.most ≤ room.rate.1 * quickest
    → ((m : ℕ) → Takes room room.most m → ⊥)
    → Reaches quickest room.minutes limit
    → IsLongestTime room.rate limit time
    → (volume m : ℕ) → Takes room volume m → volume ≤ volume_in room.rate.1 time
at_most_the_longest room quickest limit time some enough not_whole reach longest volume m takes =
    let quicker : m < quickest = quicker_than_whole room quickest some enough not_whole volume m takes in
    let in_limit : m ≤ limit = elim reach [
      | inl whole ↦ omega (arith, whole, quicker)
      | inr all ↦ omega (arith, all, takes.in_time)
    ] in
    let taken = fits_what_is_taken room volume m takes in
    let shorter : m ≤ time = longest.longest m in_limit taken.1 in
    let grows : volume_in room.rate.1 m ≤ volume_in room.rate.1 time = volume_grows room.rate.1 m time shorter in
    omega (arith, grows, taken.0)

-- the greatest volume of the longest time, in its quickest time, is the greatest that the room takes
pub part_is_greatest : (room : Room) (quickest limit time volume minutes : ℕ) → IsRoom room → room.least ≤ room.most
    → 1440 * room.most ≤ room.rate.1 * quickest
    → ((m : ℕ) → 1440 * room.most ≤ room.rate.1 * m → quickest ≤ m)
    → ((m : ℕ) → Takes room room.most m → ⊥)
    → Reaches quickest room.minutes limit → limit < quickest → limit ≤ room.minutes
    → IsLongestTime room.rate limit time
    → volume ≡ volume_in room.rate.1 time → room.least ≤ volume
    → 1440 * volume ≤ room.rate.1 * minutes
    → ((m : ℕ) → 1440 * volume ≤ room.rate.1 * m → minutes ≤ m)
    → IsGreatest room (record { volume = volume; minutes = minutes })
part_is_greatest room quickest limit time volume minutes is some enough least not_whole reach below in_time longest
    is_volume fills enough' least' =
    let not_all : room.rate.1 * time < 1440 * room.most = elim (cases_lt (room.rate.1 * time) (1440 * room.most)) [
      | inl less ↦ less
      | inr all ↦ (let late = least time all in omega (arith, late, below, longest.most))
    ] in
    let quicker : minutes ≤ time = least' time (omega (arith, is_volume)) in
    let slower : room.rate.0 * minutes ≤ room.rate.0 * time = later room.rate.0 minutes time quicker in
    record {
      taken = record {
        least = fills;
        most = omega (arith, not_all, is_volume);
        in_time = omega (arith, quicker, longest.most, in_time);
        moves = record {
          some = some_minutes room.rate.1 volume minutes (omega (arith, is.some, fills)) enough';
          not_too_slowly = omega (arith, slower, longest.fits, is_volume);
          not_too_fast = enough';
        };
      };
      greatest = λ other m takes.
          (let most = at_most_the_longest room quickest limit time some enough not_whole reach longest other m takes in
          omega (arith, most, is_volume));
      shortest = λ m takes. least' m takes.moves.not_too_fast;
    }
