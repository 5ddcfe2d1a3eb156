-- What an operation that fits does, in plain numbers.
use Rattle.std.proofs.Common.{◌≡◌, ◌↔◌, ℕ, ◌+◌, ◌-◌, ◌*◌, ◌<◌, ◌≤◌, ◌||◌, nat_le, min, IsTrue, List, sum, arith}
use Rattle.std.proofs.lemmas.Bool.Decides.{nat_tests}
use Rattle.plant_model.specs.declared.parts.Parts.{Parts}
use Rattle.limits.specs.declared.TheConstants.{MOST_VOLUME}
use Rattle.plant_model.specs.Parts.{op_of, place_of}
use Rattle.plant_model.specs.Sound.{SoundOp}
use Rattle.replay_core.specs.declared.timed.Timed.{Timed}
use Rattle.replay_core.specs.State.{held_of, state_after}
use Rattle.replay_core.specs.Rules.{is_unit, lasts, keeps_window, keeps_volume, meets_rate, leaves_minimum, keeps_maximum}
use Rattle.greedy_plan.specs.Runs.{Takes}
use Rattle.greedy_plan.specs.Greedy.{fits}

pub record FitsWell (parts : Parts) (before : List Timed) (t : Timed) : Type 0 where
  pub lasts : t.start < t.end
  pub opened : (op_of parts t.op).window.0 ≤ t.start
  pub closes : t.end ≤ (op_of parts t.op).window.1
  pub least : (op_of parts t.op).volume.0 ≤ t.volume
  pub most : t.volume ≤ (op_of parts t.op).volume.1
  pub not_too_slowly : (op_of parts t.op).rate.0 * (t.end - t.start) ≤ 1440 * t.volume
  pub not_too_fast : 1440 * t.volume ≤ (op_of parts t.op).rate.1 * (t.end - t.start)
  pub minimum : (place_of parts (op_of parts t.op).from).min + t.volume
      ≤ sum (held_of (state_after parts before) (op_of parts t.op).from)
  pub maximum : IsTrue (is_unit (place_of parts (op_of parts t.op).to).kind
      || nat_le (sum (held_of (state_after parts before) (op_of parts t.op).to) + t.volume)
      (place_of parts (op_of parts t.op).to).max)

pub fits_well : (parts : Parts) (before : List Timed) (t : Timed) → IsTrue (fits parts before t) → FitsWell parts before t
unfolding fits lasts keeps_window keeps_volume meets_rate leaves_minimum keeps_maximum
fits_well parts before t h = record {
  lasts = grind (arith, nat_tests);
  opened = grind (arith, nat_tests);
  closes = grind (arith, nat_tests);
  least = grind (arith, nat_tests);
  most = grind (arith, nat_tests);
  not_too_slowly = grind (arith, nat_tests);
  not_too_fast = grind (arith, nat_tests);
  minimum = grind (arith, nat_tests);
  maximum = grind (arith, nat_tests);
}

pub fits_where_well : (parts : Parts) (before : List Timed) (t : Timed) → FitsWell parts before t → IsTrue (fits parts before t)
unfolding fits lasts keeps_window keeps_volume meets_rate leaves_minimum keeps_maximum
fits_where_well parts before t well = grind (arith, nat_tests)

-- the room for operation v from that minute on, by what its source can spare and its destination has room for
pub room_takes : (parts : Parts) (before : List Timed) (v start spare open_room most minutes : ℕ)
    → SoundOp parts (op_of parts v) → (op_of parts v).window.0 ≤ start
    → ((volume : ℕ) → 1 ≤ volume
    → ((place_of parts (op_of parts v).from).min + volume ≤ sum (held_of (state_after parts before) (op_of parts v).from))
    ↔ (volume ≤ spare))
    → ((volume : ℕ) → 1 ≤ volume → volume ≤ MOST_VOLUME
    → IsTrue (is_unit (place_of parts (op_of parts v).to).kind
    || nat_le (sum (held_of (state_after parts before) (op_of parts v).to) + volume) (place_of parts (op_of parts v).to).max)
    ↔ (volume ≤ open_room))
    → most ≡ min (min spare open_room) (op_of parts v).volume.1 → minutes ≡ (op_of parts v).window.1 - start
    → (volume duration : ℕ)
    → IsTrue (fits parts before (record { op = v; start = start; end = start + duration; volume = volume }))
    ↔ Takes (record { rate = (op_of parts v).rate; least = (op_of parts v).volume.0; most = most; minutes = minutes })
    volume duration
room_takes parts before v start spare open_room most minutes sound opened spared opens is_most is_minutes volume duration =
    let is_duration : (start + duration) - start ≡ duration = omega arith in (
      (λ h.
          let well = fits_well parts before (record { op = v; start = start; end = start + duration; volume = volume }) h in
          let some : 1 ≤ volume = omega (arith, well.least, sound.volume.from_low) in
          let in_range : volume ≤ MOST_VOLUME = omega (arith, well.most, sound.volume.to_high) in
          let from_source = (spared volume some).0 well.minimum in
          let into_target = (opens volume some in_range).0 well.maximum in
          record {
            least = well.least;
            most = omega (arith, from_source, into_target, well.most, is_most);
            in_time = omega (arith, well.closes, is_minutes);
            moves = record {
              some = omega (arith, well.lasts);
              not_too_slowly = rw is_duration at well.not_too_slowly;
              not_too_fast = rw is_duration at well.not_too_fast;
            };
          }),
      (λ takes.
          let some : 1 ≤ volume = omega (arith, takes.least, sound.volume.from_low) in
          let in_range : volume ≤ MOST_VOLUME = omega (arith, takes.most, is_most, sound.volume.to_high) in
          fits_where_well parts before (record { op = v; start = start; end = start + duration; volume = volume }) (record {
            lasts = omega (arith, takes.moves.some);
            opened = opened;
            closes = omega (arith, takes.in_time, takes.moves.some, is_minutes);
            least = takes.least;
            most = omega (arith, takes.most, is_most);
            not_too_slowly = rw is_duration takes.moves.not_too_slowly;
            not_too_fast = rw is_duration takes.moves.not_too_fast;
            minimum = (spared volume some).1 (omega (arith, takes.most, is_most));
            maximum = (opens volume some in_range).1 (omega (arith, takes.most, is_most));
          })),
    )
