-- What each operation of a run keeps by itself.
use Rattle.std.proofs.Common.{◌≡◌, ℕ, ◌-◌, ◌*◌, ◌<◌, Bool, true, false, List, take, get_or, sym, ap, ◌∙◌, zero-add, arith}
use Rattle.std.specs.Prelude.{not, ◌||◌, nat_le}
use Rattle.std.specs.List.{list_all, range_with_len}
use Rattle.std.proofs.lemmas.List.FromFn.{length-range_with_len, get_or-range_with_len}
use Rattle.std.proofs.lemmas.Bool.{and_parts, leb-true}
use Rattle.item_lists.proofs.ListLaws.{each_passes}
use Rattle.plant_model.specs.declared.parts.Parts.{Parts}
use Rattle.plant_model.specs.declared.details.OpKind.TheVariants.{Charge}
use Rattle.plant_model.specs.Parts.{property_count_of, op_of, limit_of}
use Rattle.plant_model.specs.Relations.{is_charge}
use Rattle.plant_model.specs.Sound.{SoundPlant}
use Rattle.replay_core.specs.declared.timed.Timed.{Timed}
use Rattle.replay_core.specs.State.{drawn_of, state_after}
use Rattle.replay_core.specs.Rules.{is_inside, meets_rate, content_of, meets_limit, meets_limits}
use Rattle.replay_core.specs.Steps.{step_at}
use Rattle.replay_core.proofs.StateLaws.{drawn-volume}
use Rattle.word_flows.specs.Steps.{IsInside, MeetsRate, RunsMeetRates, RunsDrawVolumes, MeetsLimit, RunsMeetLimits}
use Rattle.word_flows.proofs.RunLaws.{own_kept, places_kept, soundly}

-- ---- tests

-- what is asked only where a test holds
pub asked : (a b : Bool) → (not a || b) ≡ true → a ≡ true → b ≡ true
asked true b holds is = holds
asked false b holds is = cc

pub inside : (range : ℕ × ℕ) (n : ℕ) → is_inside range n ≡ true → IsInside range n
inside range n holds =
    let ends = and_parts (nat_le range.0 n) (nat_le n range.1) holds in
    record { from_low = leb-true range.0 n ends.0; to_high = leb-true n range.1 ends.1 }

-- ---- the operation alone

rate-met : (parts : Parts) (t : Timed) → meets_rate parts t ≡ true → MeetsRate parts t
unfolding meets_rate
rate-met parts t met =
    let rate = (op_of parts t.op).rate in
    let minutes = t.end - t.start in
    inside (rate.0 * minutes, rate.1 * minutes) (1440 * t.volume) met

pub runs_meet_rates : (parts : Parts) → RunsMeetRates parts
runs_meet_rates parts word k run within = rate-met parts (step_at word k) (own_kept parts word k run within).rate

-- ---- what it draws

pub runs_draw_volumes : (parts : Parts) → SoundPlant parts → RunsDrawVolumes parts
runs_draw_volumes parts sound word k run within =
    drawn-volume parts (state_after parts (take k word)) (step_at word k) (soundly parts word k sound run within)

limit-met : (parts : Parts) (t : Timed) (drawn : List ℕ) (property : ℕ) → meets_limit parts t.op t.volume drawn property ≡ true →
    MeetsLimit parts t drawn property
unfolding meets_limit
limit-met parts t drawn property met =
    let limit = limit_of parts t.op property in
    inside (limit.0 * t.volume, limit.1 * t.volume) (content_of parts property drawn) met

limits-met : (parts : Parts) (state : List (List ℕ)) (t : Timed) (property : ℕ) → meets_limits parts state t ≡ true → (op_of parts t.op).kind ≡ Charge →
    property < property_count_of parts → MeetsLimit parts t (drawn_of parts state t) property
unfolding meets_limits
limits-met parts state t property met is within =
    let test = meets_limit parts t.op t.volume (drawn_of parts state t) in
    let all = asked (is_charge (op_of parts t.op).kind) (list_all test (range_with_len 0 (property_count_of parts))) met (ap is_charge is) in
    let count = length-range_with_len 0 (property_count_of parts) in
    let here = each_passes test (range_with_len 0 (property_count_of parts)) property 0 all (omega arith) in
    let same : get_or (range_with_len 0 (property_count_of parts)) property 0 ≡ property =
    get_or-range_with_len 0 (property_count_of parts) property 0 within ∙ zero-add property in
    limit-met parts t (drawn_of parts state t) property (ap test (sym same) ∙ here)

pub runs_meet_limits : (parts : Parts) → RunsMeetLimits parts
runs_meet_limits parts word k property run within is there =
    limits-met parts (state_after parts (take k word)) (step_at word k) property (places_kept parts word k run within).limits is there
