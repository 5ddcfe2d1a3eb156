-- An operation that is chosen breaks no rule but that on the order of vessels and that on limits.
use Rattle.std.proofs.Common.{◌≡◌, ◌↔◌, ℕ, ◌+◌, ◌<◌, ◌≤◌, Bool, true, false, not, ◌&&◌, ◌||◌, if◌then◌else◌, max, nat_le, fold, Option, Some, None, Result, Ok, Err, is_ok, IsTrue, List, [], ◌∷◌, ◌++◌, length, arith, refl, sym, ◌∙◌}
use Rattle.std.specs.Option.{option_map}
use Rattle.std.specs.List.{list_all}
use Rattle.std.specs.Result.{result_err}
use Rattle.std.proofs.lemmas.Bool.{false≢true, false_from_ne_true, lt-ltb, le-leb}
use Rattle.std.proofs.lemmas.Option.{option_and_then_some, none-some, same_Some}
use Rattle.item_lists.specs.Faults.{first_of, unless}
use Rattle.number_laws.proofs.PassingLaws.{least_passes}
use Rattle.plant_model.specs.declared.parts.Parts.{Parts}
use Rattle.plant_model.specs.Parts.{horizon_of, op_count_of, op_of}
use Rattle.plant_model.specs.Relations.{refused_at_once_of}
use Rattle.replay_core.specs.declared.timed.Timed.{Timed}
use Rattle.replay_core.specs.declared.order.Order.TheVariants.{ByStart}
use Rattle.replay_core.specs.declared.broken.Broken.{Broken}
use Rattle.replay_core.specs.State.{state_after}
use Rattle.replay_core.specs.Rules.{is_known, lasts, keeps_window, keeps_volume, meets_rate, starts_in_order, last_start, waits_for_others, keeps_vessel_order, leaves_minimum, keeps_maximum, meets_limits}
use Rattle.replay_core.specs.Legal.{broken, own_faults, order_faults, place_faults, op_faults}
use Rattle.greedy_plan.specs.Greedy.{waits_until, earliest_start, earliest, fits, may_follow, followed_by, least_minutes, greatest_volume, choice_of}

-- the tests of an operation that fits, one by one
record FitsTests (parts : Parts) (before : List Timed) (t : Timed) : Type 0 where
  lasts : lasts t ≡ true
  window : keeps_window parts t ≡ true
  volume : keeps_volume parts t ≡ true
  rate : meets_rate parts t ≡ true
  minimum : leaves_minimum parts (state_after parts before) t ≡ true
  maximum : keeps_maximum parts (state_after parts before) t ≡ true

fits_tests : (parts : Parts) (before : List Timed) (t : Timed) → IsTrue (fits parts before t) → FitsTests parts before t
unfolding fits
fits_tests parts before t h = record {
  lasts = grind arith;
  window = grind arith;
  volume = grind arith;
  rate = grind arith;
  minimum = grind arith;
  maximum = grind arith;
}

start_before_end : (refused : Bool) (start end : ℕ) → start ≤ (if refused then max start end else start)
start_before_end true start end = omega arith
start_before_end false start end = omega arith

-- the minute to which others take the earliest start
abbrev minute_behind : (parts : Parts) (v minute : ℕ) (before : List Timed) → ℕ
minute_behind parts v minute before = fold (λ m (s : Timed). max m (waits_until parts v s)) minute before

not_earlier : (parts : Parts) (v minute : ℕ) (before : List Timed) → minute ≤ minute_behind parts v minute before
not_earlier parts v minute [] = omega arith
not_earlier parts v minute (s ∷ before) =
    (let later = not_earlier parts v (max minute (waits_until parts v s)) before in omega (arith, later))

-- another that may not run beside it has ended
has_ended : (refused : Bool) (start end minute : ℕ) → (if refused then max start end else start) ≤ minute
    → (not refused || nat_le end minute) ≡ true
has_ended true start end minute h = le-leb end minute (omega (arith, h))
has_ended false start end minute h = refl

all_have_ended : (parts : Parts) (v minute limit : ℕ) (before : List Timed) → minute_behind parts v minute before ≤ limit
    → list_all (λ (s : Timed). not (refused_at_once_of parts s.op v) || nat_le s.end limit) before ≡ true
all_have_ended parts v minute limit [] h = refl
all_have_ended parts v minute limit (s ∷ before) h =
    let later = not_earlier parts v (max minute (waits_until parts v s)) before in
    let first = has_ended (refused_at_once_of parts s.op v) s.start s.end limit (omega (arith, later, h)) in
    rw (first, all_have_ended parts v (max minute (waits_until parts v s)) limit before h)

none_starts_later : (parts : Parts) (v minute last limit : ℕ) (before : List Timed)
    → minute_behind parts v minute before ≤ limit → last ≤ limit → fold (λ _ (s : Timed). s.start) last before ≤ limit
none_starts_later parts v minute last limit [] h at = at
none_starts_later parts v minute last limit (s ∷ before) h at =
    let later = not_earlier parts v (max minute (waits_until parts v s)) before in
    let start : s.start ≤ waits_until parts v s = start_before_end (refused_at_once_of parts s.op v) s.start s.end in
    none_starts_later parts v (max minute (waits_until parts v s)) s.start limit before h (omega (arith, later, h, start))

-- the earliest start is behind the starts of the others, and behind the ends of those that may not run beside it
in_order : (parts : Parts) (before : List Timed) (v volume minutes : ℕ)
    → starts_in_order before (earliest parts before v volume minutes) ≡ true
unfolding starts_in_order earliest_start last_start
in_order parts before v volume minutes =
    let start = earliest_start parts before v in
    le-leb (last_start before) start
    (none_starts_later parts v (op_of parts v).window.0 0 start before (omega arith) (omega arith))

waits : (parts : Parts) (before : List Timed) (v volume minutes : ℕ)
    → waits_for_others parts before (earliest parts before v volume minutes) ≡ true
unfolding waits_for_others earliest_start
waits parts before v volume minutes =
    all_have_ended parts v (op_of parts v).window.0 (earliest_start parts before v) before (omega arith)

two_left : (a b : Bool) (at : ℕ)
    → (first_of (unless true (broken 7 at) ++ unless a (broken 8 at) ++ unless true (broken 9 at) ++ unless true (broken 10 at)
    ++ unless b (broken 11 at)) ≡ None)
    ↔ ((a && b) ≡ true)
two_left true true at = ((λ h. refl), (λ h. refl))
two_left true false at = ((λ h. cc), (λ h. cc))
two_left false b at = ((λ h. cc), (λ h. cc))

-- where it fits from its earliest start on, it breaks a rule just where it may not follow
earliest_steps : (parts : Parts) (before : List Timed) (v volume minutes at : ℕ) → v < op_count_of parts
    → IsTrue (fits parts before (earliest parts before v volume minutes))
    → (first_of (op_faults parts ByStart before (earliest parts before v volume minutes) at) ≡ None)
    ↔ (may_follow parts before (earliest parts before v volume minutes) ≡ true)
unfolding op_faults own_faults order_faults place_faults is_known
earliest_steps parts before v volume minutes at known fit =
    let t = earliest parts before v volume minutes in
    let tests = fits_tests parts before t fit in
    rw (
      lt-ltb v (op_count_of parts) known,
      tests.lasts,
      tests.window,
      tests.volume,
      tests.rate,
      in_order parts before v volume minutes,
      waits parts before v volume minutes,
      tests.minimum,
      tests.maximum,
    )
    (two_left (keeps_vessel_order parts before t) (meets_limits parts (state_after parts before) t) at)

option_map_some : {X Y P : Type 0} (f : X → Y) (o : Option X) (y : Y) → option_map f o ≡ Some y
    → ((x : X) → o ≡ Some x → f x ≡ y → P) → P
option_map_some f None y is so = absurd (none-some y is)
option_map_some f (Some x) y is so = so x refl (same_Some (f x) y is)

minutes_fit : (parts : Parts) (before : List Timed) (v volume minutes : ℕ)
    → least_minutes parts before v volume ≡ Some minutes
    → IsTrue (fits parts before (earliest parts before v volume minutes))
unfolding least_minutes
minutes_fit parts before v volume minutes is =
    least_passes (horizon_of parts) minutes (λ m. fits parts before (earliest parts before v volume m)) is

pub choice_steps : (parts : Parts) (before : List Timed) (v at : ℕ) (t : Timed) → v < op_count_of parts
    → choice_of parts before v ≡ Some t
    → (first_of (op_faults parts ByStart before t at) ≡ None) ↔ (may_follow parts before t ≡ true)
unfolding choice_of
choice_steps parts before v at t known is =
    option_and_then_some (λ volume. option_map (earliest parts before v volume) (least_minutes parts before v volume))
    (greatest_volume parts before v) t is
    (λ volume greatest chosen.
    option_map_some (earliest parts before v volume) (least_minutes parts before v volume) t chosen
    (λ minutes least so.
    rw (← so) (earliest_steps parts before v volume minutes at known (minutes_fit parts before v volume minutes least))))

no_error : {X : Type 0} (r : Result X Broken) → is_ok r ≡ true → result_err r ≡ None
no_error (Ok x) ok = refl
no_error (Err e) ok = absurd (false≢true ok)

an_error : {X : Type 0} (r : Result X Broken) → is_ok r ≡ false → result_err r ≡ None → ⊥
an_error (Ok x) failed is = false≢true (sym failed)
an_error (Err e) failed is = none-some e (sym is)

-- where a replay takes the choice, it is added
pub added : {X : Type 0} (parts : Parts) (before : List Timed) (v : ℕ) (t : Timed) (r : Result X Broken)
    → v < op_count_of parts → choice_of parts before v ≡ Some t
    → result_err r ≡ first_of (op_faults parts ByStart before t (length before + 1)) → is_ok r ≡ true
    → followed_by parts before (choice_of parts before v) ≡ before ++ t ∷ []
added parts before v t r known is broken ok =
    rw (is, (choice_steps parts before v (length before + 1) t known is).0 (sym broken ∙ no_error r ok))

-- where it refuses the choice, it is left out
pub left_out : {X : Type 0} (parts : Parts) (before : List Timed) (v : ℕ) (t : Timed) (r : Result X Broken)
    → v < op_count_of parts → choice_of parts before v ≡ Some t
    → result_err r ≡ first_of (op_faults parts ByStart before t (length before + 1)) → is_ok r ≡ false
    → followed_by parts before (choice_of parts before v) ≡ before
left_out parts before v t r known is broken failed =
    let law = choice_steps parts before v (length before + 1) t known is in
    rw (is, false_from_ne_true (may_follow parts before t) (λ may. an_error r failed (broken ∙ law.1 may)))
