-- What holds of an operation that breaks no rule.
use Rattle.std.proofs.Common.{◌≡◌, ◌⊎◌, ℕ, ◌+◌, ◌<◌, ◌≤◌, true, List, [], ◌++◌, sum, arith}
use Rattle.std.proofs.lemmas.Bool.Decides.{nat_tests}
use Rattle.item_lists.specs.Faults.{unless}
use Rattle.item_lists.proofs.FaultLaws.{nil_of_append, holds_of_nil}
use Rattle.limits.specs.declared.TheConstants.{MOST_HORIZON, MOST_VOLUME}
use Rattle.plant_model.specs.declared.parts.Parts.{Parts}
use Rattle.plant_model.specs.Parts.{horizon_of, op_count_of, op_of, place_of}
use Rattle.plant_model.specs.Sound.{SoundOp, SoundPlant}
use Rattle.replay_core.specs.declared.timed.Timed.{Timed}
use Rattle.replay_core.specs.declared.order.Order.{Order}
use Rattle.replay_core.specs.State.{held_of, state_after}
use Rattle.replay_core.specs.Rules.{is_inside, is_unit, is_known, lasts, keeps_window, keeps_volume, meets_rate, waits_for_others, keeps_vessel_order, leaves_minimum, keeps_maximum, meets_limits}
use Rattle.replay_core.specs.Legal.{broken, own_faults, order_faults, place_faults, op_faults, IsInRange}

-- ---- the operation alone

pub record KeepsOwnRules (parts : Parts) (t : Timed) : Type 0 where
  pub known : is_known parts t ≡ true
  pub lasts : lasts t ≡ true
  pub window : keeps_window parts t ≡ true
  pub volume : keeps_volume parts t ≡ true
  pub rate : meets_rate parts t ≡ true

pub own_rules_kept : (parts : Parts) (t : Timed) (at : ℕ) → own_faults parts t at ≡ [] → KeepsOwnRules parts t
unfolding own_faults
own_rules_kept parts t at none =
    let f1 = unless (is_known parts t) (broken 1 at) in
    let f2 = unless (lasts t) (broken 2 at) in
    let f3 = unless (keeps_window parts t) (broken 3 at) in
    let f4 = unless (keeps_volume parts t) (broken 4 at) in
    let f5 = unless (meets_rate parts t) (broken 5 at) in
    let to4 = nil_of_append (f1 ++ f2 ++ f3 ++ f4) f5 none in
    let to3 = nil_of_append (f1 ++ f2 ++ f3) f4 to4.0 in
    let to2 = nil_of_append (f1 ++ f2) f3 to3.0 in
    let to1 = nil_of_append f1 f2 to2.0 in
    record {
      known = holds_of_nil (is_known parts t) (broken 1 at) to1.0;
      lasts = holds_of_nil (lasts t) (broken 2 at) to1.1;
      window = holds_of_nil (keeps_window parts t) (broken 3 at) to2.1;
      volume = holds_of_nil (keeps_volume parts t) (broken 4 at) to3.1;
      rate = holds_of_nil (meets_rate parts t) (broken 5 at) to4.1;
    }

-- ---- the operation and those before it

pub record KeepsPlaceRules (parts : Parts) (before : List Timed) (t : Timed) : Type 0 where
  pub waits : waits_for_others parts before t ≡ true
  pub vessels : keeps_vessel_order parts before t ≡ true
  pub minimum : leaves_minimum parts (state_after parts before) t ≡ true
  pub maximum : keeps_maximum parts (state_after parts before) t ≡ true
  pub limits : meets_limits parts (state_after parts before) t ≡ true

pub place_rules_kept : (parts : Parts) (before : List Timed) (t : Timed) (at : ℕ) → place_faults parts before t at ≡ [] → KeepsPlaceRules parts before t
unfolding place_faults
place_rules_kept parts before t at none =
    let state = state_after parts before in
    let f1 = unless (waits_for_others parts before t) (broken 7 at) in
    let f2 = unless (keeps_vessel_order parts before t) (broken 8 at) in
    let f3 = unless (leaves_minimum parts state t) (broken 9 at) in
    let f4 = unless (keeps_maximum parts state t) (broken 10 at) in
    let f5 = unless (meets_limits parts state t) (broken 11 at) in
    let to4 = nil_of_append (f1 ++ f2 ++ f3 ++ f4) f5 none in
    let to3 = nil_of_append (f1 ++ f2 ++ f3) f4 to4.0 in
    let to2 = nil_of_append (f1 ++ f2) f3 to3.0 in
    let to1 = nil_of_append f1 f2 to2.0 in
    record {
      waits = holds_of_nil (waits_for_others parts before t) (broken 7 at) to1.0;
      vessels = holds_of_nil (keeps_vessel_order parts before t) (broken 8 at) to1.1;
      minimum = holds_of_nil (leaves_minimum parts state t) (broken 9 at) to2.1;
      maximum = holds_of_nil (keeps_maximum parts state t) (broken 10 at) to3.1;
      limits = holds_of_nil (meets_limits parts state t) (broken 11 at) to4.1;
    }

pub record KeepsRules (parts : Parts) (order : Order) (before : List Timed) (t : Timed) (at : ℕ) : Type 0 where
  pub own : own_faults parts t at ≡ []
  pub in_order : order_faults parts order before t at ≡ []
  pub places : place_faults parts before t at ≡ []

pub rules_kept : (parts : Parts) (order : Order) (before : List Timed) (t : Timed) (at : ℕ) → op_faults parts order before t at ≡ [] →
    KeepsRules parts order before t at
unfolding op_faults
rules_kept parts order before t at none =
    let front = nil_of_append (own_faults parts t at ++ order_faults parts order before t at) (place_faults parts before t at) none in
    let parted = nil_of_append (own_faults parts t at) (order_faults parts order before t at) front.0 in
    record { own = parted.0; in_order = parted.1; places = front.1 }

-- ---- in numbers

pub known-below : (parts : Parts) (t : Timed) → is_known parts t ≡ true → t.op < op_count_of parts
unfolding is_known
known-below parts t known = grind (arith, nat_tests)

pub lasts-below : (t : Timed) → lasts t ≡ true → t.start < t.end
unfolding lasts
lasts-below t lasting = grind (arith, nat_tests)

inside-bounds : (low high n : ℕ) → is_inside (low, high) n ≡ true → (low ≤ n) × (n ≤ high)
inside-bounds low high n inside = (grind (arith, nat_tests), grind (arith, nat_tests))

pub volume-inside : (parts : Parts) (t : Timed) → keeps_volume parts t ≡ true → ((op_of parts t.op).volume.0 ≤ t.volume) ×
    (t.volume ≤ (op_of parts t.op).volume.1)
unfolding keeps_volume
volume-inside parts t kept = inside-bounds (op_of parts t.op).volume.0 (op_of parts t.op).volume.1 t.volume kept

pub window-kept : (parts : Parts) (t : Timed) → keeps_window parts t ≡ true → ((op_of parts t.op).window.0 ≤ t.start) × (t.end ≤ (op_of parts t.op).window.1)
unfolding keeps_window
window-kept parts t kept = (grind (arith, nat_tests), grind (arith, nat_tests))

pub minimum-left : (parts : Parts) (state : List (List ℕ)) (t : Timed) → leaves_minimum parts state t ≡ true →
    (place_of parts (op_of parts t.op).from).min + t.volume ≤ sum (held_of state (op_of parts t.op).from)
unfolding leaves_minimum
minimum-left parts state t kept = grind (arith, nat_tests)

pub maximum-kept : (parts : Parts) (state : List (List ℕ)) (t : Timed) → keeps_maximum parts state t ≡ true →
    (is_unit (place_of parts (op_of parts t.op).to).kind ≡ true) ⊎
    (sum (held_of state (op_of parts t.op).to) + t.volume ≤ (place_of parts (op_of parts t.op).to).max)
unfolding keeps_maximum
maximum-kept parts state t kept = grind (arith, nat_tests)

-- ---- in a sound plant

pub record RunsSoundly (parts : Parts) (state : List (List ℕ)) (t : Timed) : Type 0 where
  pub known : t.op < op_count_of parts
  pub sound : SoundOp parts (op_of parts t.op)
  pub lasts : t.start < t.end
  pub in_horizon : t.end ≤ MOST_HORIZON
  pub some : 1 ≤ t.volume
  pub most : t.volume ≤ MOST_VOLUME
  pub there : t.volume ≤ sum (held_of state (op_of parts t.op).from)
  pub room : (is_unit (place_of parts (op_of parts t.op).to).kind ≡ true) ⊎
      (sum (held_of state (op_of parts t.op).to) + t.volume ≤ (place_of parts (op_of parts t.op).to).max)

-- by its own rules alone
pub in_range : (parts : Parts) (t : Timed) (at : ℕ) → own_faults parts t at ≡ [] → IsInRange parts t
in_range parts t at none =
    let own = own_rules_kept parts t at none in
    let window = window-kept parts t own.window in
    let volume = volume-inside parts t own.volume in
    record {
      known = known-below parts t own.known;
      lasts = lasts-below t own.lasts;
      from_window = window.0;
      to_window = window.1;
      least = volume.0;
      most = volume.1;
    }

-- by its own rules and by those on the state, whatever the order
pub sound_by_rules : (parts : Parts) (before : List Timed) (t : Timed) (at : ℕ) → SoundPlant parts → own_faults parts t at ≡ [] →
    place_faults parts before t at ≡ [] → RunsSoundly parts (state_after parts before) t
sound_by_rules parts before t at sound own place =
    let range = in_range parts t at own in
    let places = place_rules_kept parts before t at place in
    let op : SoundOp parts (op_of parts t.op) = sound.each_op t.op range.known in
    let horizon : horizon_of parts ≤ MOST_HORIZON = sound.horizon.1 in
    let last : (op_of parts t.op).window.1 ≤ horizon_of parts = op.within_horizon in
    let least : 1 ≤ (op_of parts t.op).volume.0 = op.volume.from_low in
    let greatest : (op_of parts t.op).volume.1 ≤ MOST_VOLUME = op.volume.to_high in
    let left = minimum-left parts (state_after parts before) t places.minimum in
    record {
      known = range.known;
      sound = op;
      lasts = range.lasts;
      in_horizon = (let end = range.to_window in omega arith);
      some = (let from = range.least in omega arith);
      most = (let to = range.most in omega arith);
      there = omega arith;
      room = maximum-kept parts (state_after parts before) t places.maximum;
    }

pub runs_soundly : (parts : Parts) (order : Order) (before : List Timed) (t : Timed) (at : ℕ) → SoundPlant parts → op_faults parts order before t at ≡ [] →
    RunsSoundly parts (state_after parts before) t
runs_soundly parts order before t at sound none =
    let kept = rules_kept parts order before t at none in
    sound_by_rules parts before t at sound kept.own kept.places

pub is_in_range : (parts : Parts) (order : Order) (before : List Timed) (t : Timed) (at : ℕ) → op_faults parts order before t at ≡ [] → IsInRange parts t
is_in_range parts order before t at none = in_range parts t at (rules_kept parts order before t at none).own
