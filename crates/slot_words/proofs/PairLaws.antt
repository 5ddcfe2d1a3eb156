-- Two operations of which neither has to come first: where both may run one after the other, they may also run the other
-- way round.
use Rattle.std.proofs.Common.{◌≡◌, ◌≢◌, ◌⊎◌, ℕ, ◌+◌, ◌≤◌, Bool, true, false, not, ◌&&◌, ◌||◌, eqb, List, [], ◌∷◌, ◌++◌, length, sum, refl, sym, ap, subst, inl, inr, ◌∙◌, arith}
use Rattle.std.specs.Prelude.{nat_le}
use Rattle.std.specs.List.{list_all, range_with_len}
use Rattle.std.proofs.lemmas.List.Folds.{list_all-append}
use Rattle.std.proofs.lemmas.Bool.{cases_eq, and_parts, and_from, or_parts, le-leb}
use Rattle.crude_amounts.proofs.MixLaws.{sum-mix_of}
use Rattle.plant_model.specs.declared.parts.Parts.{Parts}
use Rattle.plant_model.specs.Parts.{property_count_of, op_of, place_of}
use Rattle.plant_model.specs.Relations.{is_charge, share_berth, one_feeds_other, both_charge_from_one_tank, both_charge_one_unit, refused_at_once_of, ordered_of, independent_of}
use Rattle.plant_model.specs.Sound.{SoundPlant}
use Rattle.plant_model.proofs.RelationLaws.{independent_of-symmetric, apart_from_independent}
use Rattle.replay_core.specs.declared.timed.Timed.{Timed}
use Rattle.replay_core.specs.declared.order.Order.TheVariants.{BySlot}
use Rattle.replay_core.specs.State.{held_of, drawn_of, after_step, state_after}
use Rattle.replay_core.specs.Rules.{is_unit, starts_after_ordered, waits_for_others, unloads_later_vessel, keeps_vessel_order, leaves_minimum, keeps_maximum, meets_limit, meets_limits}
use Rattle.replay_core.specs.inside.Levels.{HoldsWithin}
use Rattle.replay_core.specs.Legal.{own_faults, order_faults, place_faults, op_faults, broken}
use Rattle.item_lists.proofs.FaultLaws.{holds_of_nil}
use Rattle.replay_core.proofs.RuleLaws.{KeepsOwnRules, KeepsPlaceRules, RunsSoundly, own_rules_kept, place_rules_kept, rules_kept, runs_soundly, maximum-kept}
use Rattle.replay_core.proofs.StateLaws.{places_apart, drawn-crudes, drawn-volume, state_after_push, after-other}
use Rattle.slot_words.proofs.MoveLaws.{HasPlaces, KeepApart, keep_apart, other_way, after-target, source-kept, draw-kept}

-- ---- an operation that breaks no rule where those others have run before it

pub record MayRun (parts : Parts) (before : List Timed) (t : Timed) : Type 0 where
  pub own : KeepsOwnRules parts t
  pub in_order : starts_after_ordered parts before t ≡ true
  pub places : KeepsPlaceRules parts before t

pub may_run : (parts : Parts) (before : List Timed) (t : Timed) (at : ℕ) → op_faults parts BySlot before t at ≡ [] → MayRun parts before t
unfolding order_faults
may_run parts before t at none =
    let kept = rules_kept parts BySlot before t at none in
    record {
      own = own_rules_kept parts t at kept.own;
      in_order = holds_of_nil (starts_after_ordered parts before t) (broken 6 at) kept.in_order;
      places = place_rules_kept parts before t at kept.places;
    }

no_own_faults : (parts : Parts) (t : Timed) (at : ℕ) → KeepsOwnRules parts t → own_faults parts t at ≡ []
unfolding own_faults
no_own_faults parts t at kept = rw (kept.known, kept.lasts, kept.window, kept.volume, kept.rate) refl

no_place_faults : (parts : Parts) (before : List Timed) (t : Timed) (at : ℕ) → KeepsPlaceRules parts before t → place_faults parts before t at ≡ []
unfolding place_faults
no_place_faults parts before t at kept = rw (kept.waits, kept.vessels, kept.minimum, kept.maximum, kept.limits) refl

pub no_faults : (parts : Parts) (before : List Timed) (t : Timed) (at : ℕ) → MayRun parts before t → op_faults parts BySlot before t at ≡ []
unfolding op_faults order_faults
no_faults parts before t at may =
    rw (no_own_faults parts t at may.own, may.in_order, no_place_faults parts before t at may.places) refl

-- ---- what independent operations are not

record AreUnrelated (parts : Parts) (v w : ℕ) : Type 0 where
  ordered : ordered_of parts v w ≡ false
  refused : refused_at_once_of parts v w ≡ false
  later : unloads_later_vessel parts v w ≡ false

not_so : (a : Bool) → not a ≡ true → a ≡ false
not_so true h = cc
not_so false h = refl

not_later : (parts : Parts) (v w : ℕ) → refused_at_once_of parts v w ≡ false → unloads_later_vessel parts v w ≡ false
unfolding refused_at_once_of unloads_later_vessel
not_later parts v w refused =
    let a = op_of parts v in
    let b = op_of parts w in
    let unit = or_parts (eqb v w || share_berth parts a b || one_feeds_other a b || both_charge_from_one_tank a b) (both_charge_one_unit a b) refused in
    let tank = or_parts (eqb v w || share_berth parts a b || one_feeds_other a b) (both_charge_from_one_tank a b) unit.0 in
    let feeds = or_parts (eqb v w || share_berth parts a b) (one_feeds_other a b) tank.0 in
    let unloads = or_parts (eqb v w) (share_berth parts a b) feeds.0 in
    rw unloads.1 refl

unrelated : (parts : Parts) (v w : ℕ) → independent_of parts v w ≡ true → AreUnrelated parts v w
unfolding independent_of ordered_of
unrelated parts v w independent =
    let ordered = not_so (ordered_of parts v w) independent in
    let parted = or_parts (refused_at_once_of parts v w) (eqb (op_of parts v).from (op_of parts w).from) ordered in
    record { ordered = ordered; refused = parted.0; later = not_later parts v w parted.0 }

-- ---- tests of those that have run before

first_ones : (test : Timed → Bool) (before : List Timed) (s : Timed) → list_all test (before ++ s ∷ []) ≡ true → list_all test before ≡ true
first_ones test before s all = (and_parts (list_all test before) (list_all test (s ∷ [])) (sym (list_all-append test before (s ∷ [])) ∙ all)).0

one_more : (test : Timed → Bool) (before : List Timed) (s : Timed) → list_all test before ≡ true → test s ≡ true → list_all test (before ++ s ∷ []) ≡ true
one_more test before s all here =
    list_all-append test before (s ∷ []) ∙ and_from (list_all test before) (test s && true) all (and_from (test s) true here refl)

either_holds : (a b : Bool) → a ≡ false → (not a || b) ≡ true
either_holds true b is = cc
either_holds false b is = refl

order-first : (parts : Parts) (before : List Timed) (s t : Timed) → starts_after_ordered parts (before ++ s ∷ []) t ≡ true →
    starts_after_ordered parts before t ≡ true
unfolding starts_after_ordered
order-first parts before s t after = first_ones (λ (r : Timed). not (ordered_of parts r.op t.op) || nat_le r.start t.start) before s after

order-second : (parts : Parts) (before : List Timed) (s t : Timed) → AreUnrelated parts t.op s.op → starts_after_ordered parts before s ≡ true →
    starts_after_ordered parts (before ++ t ∷ []) s ≡ true
unfolding starts_after_ordered
order-second parts before s t apart first =
    one_more (λ (r : Timed). not (ordered_of parts r.op s.op) || nat_le r.start s.start) before t first
    (either_holds (ordered_of parts t.op s.op) (nat_le t.start s.start) apart.ordered)

waits-first : (parts : Parts) (before : List Timed) (s t : Timed) → waits_for_others parts (before ++ s ∷ []) t ≡ true → waits_for_others parts before t ≡ true
unfolding waits_for_others
waits-first parts before s t after = first_ones (λ (r : Timed). not (refused_at_once_of parts r.op t.op) || nat_le r.end t.start) before s after

waits-second : (parts : Parts) (before : List Timed) (s t : Timed) → AreUnrelated parts t.op s.op → waits_for_others parts before s ≡ true →
    waits_for_others parts (before ++ t ∷ []) s ≡ true
unfolding waits_for_others
waits-second parts before s t apart first =
    one_more (λ (r : Timed). not (refused_at_once_of parts r.op s.op) || nat_le r.end s.start) before t first
    (either_holds (refused_at_once_of parts t.op s.op) (nat_le t.end s.start) apart.refused)

vessels-first : (parts : Parts) (before : List Timed) (s t : Timed) → keeps_vessel_order parts (before ++ s ∷ []) t ≡ true →
    keeps_vessel_order parts before t ≡ true
unfolding keeps_vessel_order
vessels-first parts before s t after = first_ones (λ (r : Timed). not (unloads_later_vessel parts r.op t.op)) before s after

vessels-second : (parts : Parts) (before : List Timed) (s t : Timed) → AreUnrelated parts t.op s.op → keeps_vessel_order parts before s ≡ true →
    keeps_vessel_order parts (before ++ t ∷ []) s ≡ true
unfolding keeps_vessel_order
vessels-second parts before s t apart first =
    one_more (λ (r : Timed). not (unloads_later_vessel parts r.op s.op)) before t first (ap not apart.later)

-- ---- tests of what places hold

minimum-same : (parts : Parts) (state : List (List ℕ)) (s t : Timed) → KeepApart parts s t →
    leaves_minimum parts (after_step parts state s) t ≡ leaves_minimum parts state t
unfolding leaves_minimum
minimum-same parts state s t apart =
    ap (λ held. nat_le ((place_of parts (op_of parts t.op).from).min + t.volume) (sum held)) (source-kept parts state s t apart)

limits-same : (parts : Parts) (state : List (List ℕ)) (s t : Timed) → KeepApart parts s t →
    meets_limits parts (after_step parts state s) t ≡ meets_limits parts state t
unfolding meets_limits
limits-same parts state s t apart =
    ap (λ drawn. not (is_charge (op_of parts t.op).kind) || list_all (meets_limit parts t.op t.volume drawn) (range_with_len 0 (property_count_of parts)))
    (draw-kept parts state s t apart)

-- there is room for the volume
room : (parts : Parts) (state : List (List ℕ)) (t : Timed) → ((is_unit (place_of parts (op_of parts t.op).to).kind ≡ true) ⊎
    (sum (held_of state (op_of parts t.op).to) + t.volume ≤ (place_of parts (op_of parts t.op).to).max)) → keeps_maximum parts state t ≡ true
unfolding keeps_maximum
room parts state t (inl unit) = rw unit refl
room parts state t (inr fits) = rw (le-leb (sum (held_of state (op_of parts t.op).to) + t.volume) (place_of parts (op_of parts t.op).to).max fits)
    (or_true (is_unit (place_of parts (op_of parts t.op).to).kind))
  where
    or_true : (a : Bool) → (a || true) ≡ true
    or_true true = refl
    or_true false = refl

pub has_places : (parts : Parts) (n : ℕ) (state : List (List ℕ)) (t : Timed) → HoldsWithin parts n state → RunsSoundly parts state t → HasPlaces parts state t
has_places parts n state t holds runs =
    let count = holds.count in
    let from_place = runs.sound.from_place in
    let to_place = runs.sound.to_place in
    record { source = omega arith; target = omega arith; apart = places_apart parts (op_of parts t.op) runs.sound }

-- the target of the second, once the first has run: it holds what it held, or has got the volume of the first
data TargetAfter (parts : Parts) (state : List (List ℕ)) (s t : Timed) : Type 0 where
  as_it_was : (op_of parts t.op).to ≢ (op_of parts s.op).to →
      sum (held_of (after_step parts state s) (op_of parts t.op).to) ≡ sum (held_of state (op_of parts t.op).to) → TargetAfter parts state s t
  filled : (op_of parts t.op).to ≡ (op_of parts s.op).to →
      sum (held_of (after_step parts state s) (op_of parts t.op).to) ≡ sum (held_of state (op_of parts t.op).to) + s.volume → TargetAfter parts state s t

filled-total : (parts : Parts) (n : ℕ) (state : List (List ℕ)) (s : Timed) → HoldsWithin parts n state → RunsSoundly parts state s →
    sum (held_of (after_step parts state s) (op_of parts s.op).to) ≡ sum (held_of state (op_of parts s.op).to) + s.volume
filled-total parts n state s holds runs =
    let a = op_of parts s.op in
    let drawn = drawn_of parts state s in
    let crudes : length drawn ≡ length (held_of state a.to) = drawn-crudes parts state s ∙ holds.crudes a.from runs.sound.from_place
    ∙ sym (holds.crudes a.to runs.sound.to_place) in
    let mixed = sum-mix_of (held_of state a.to) drawn crudes in
    let same = ap sum (after-target parts state s (has_places parts n state s holds runs)) in
    let volume = drawn-volume parts state s runs in
    omega arith

target-after : (parts : Parts) (n : ℕ) (state : List (List ℕ)) (s t : Timed) → HoldsWithin parts n state → RunsSoundly parts state s → KeepApart parts s t →
    TargetAfter parts state s t
target-after parts n state s t holds runs apart =
    elim (cases_eq (op_of parts t.op).to (op_of parts s.op).to) [
      | inl is ↦ filled is (
          subst (λ (p : ℕ). sum (held_of (after_step parts state s) p) ≡ sum (held_of state p) + s.volume) (sym is) (filled-total parts n state s holds runs))
      | inr other ↦ as_it_was other (ap sum (after-other parts state s (op_of parts t.op).to apart.second_feeds_not other))
    ]

-- the one that may run second may run first
maximum-first : (parts : Parts) (n : ℕ) (state : List (List ℕ)) (s t : Timed) → HoldsWithin parts n state → RunsSoundly parts state s → KeepApart parts s t →
    keeps_maximum parts (after_step parts state s) t ≡ true → keeps_maximum parts state t ≡ true
maximum-first parts n state s t holds runs apart kept =
    elim (maximum-kept parts (after_step parts state s) t kept) [
      | inl unit ↦ room parts state t (inl unit)
      | inr fits ↦ elim (target-after parts n state s t holds runs apart) [
        | as_it_was other same ↦ room parts state t (inr (omega arith))
        | filled is more ↦ room parts state t (inr (omega arith))
      ]
    ]

-- and the one that ran first may run second
maximum-second : (parts : Parts) (n : ℕ) (state : List (List ℕ)) (s t : Timed) → HoldsWithin parts n state → RunsSoundly parts state s →
    RunsSoundly parts state t →
    KeepApart parts s t → keeps_maximum parts state s ≡ true → keeps_maximum parts (after_step parts state s) t ≡ true →
    keeps_maximum parts (after_step parts state t) s ≡ true
maximum-second parts n state s t holds runs_s runs_t apart kept_s kept_t =
    elim (target-after parts n state t s holds runs_t (other_way parts s t apart)) [
      | as_it_was other same ↦ elim (maximum-kept parts state s kept_s) [
        | inl unit ↦ room parts (after_step parts state t) s (inl unit)
        | inr fits ↦ room parts (after_step parts state t) s (inr (omega arith))
      ]
      | filled is more ↦ elim (maximum-kept parts (after_step parts state s) t kept_t) [
        | inl unit ↦ room parts (after_step parts state t) s (inl (ap (λ p. is_unit (place_of parts p).kind) is ∙ unit))
        | inr fits ↦
            let first = filled-total parts n state s holds runs_s in
            let same = ap (λ p. sum (held_of (after_step parts state s) p)) is in
            let held = ap (λ p. sum (held_of state p)) is in
            let limit = ap (λ p. (place_of parts p).max) is in
            room parts (after_step parts state t) s (inr (omega arith))
      ]
    ]

-- ---- both ways round

first-places : (parts : Parts) (n : ℕ) (before : List Timed) (s t : Timed) → HoldsWithin parts n (state_after parts before) →
    RunsSoundly parts (state_after parts before) s → KeepApart parts s t → KeepsPlaceRules parts (before ++ s ∷ []) t → KeepsPlaceRules parts before t
first-places parts n before s t holds runs apart kept =
    let state = state_after parts before in
    let next = state_after_push parts before s in
    record {
      waits = waits-first parts before s t kept.waits;
      vessels = vessels-first parts before s t kept.vessels;
      minimum = sym (ap (λ after. leaves_minimum parts after t) next ∙ minimum-same parts state s t apart) ∙ kept.minimum;
      maximum = maximum-first parts n state s t holds runs apart (sym (ap (λ after. keeps_maximum parts after t) next) ∙ kept.maximum);
      limits = sym (ap (λ after. meets_limits parts after t) next ∙ limits-same parts state s t apart) ∙ kept.limits;
    }

second-places : (parts : Parts) (n : ℕ) (before : List Timed) (s t : Timed) → HoldsWithin parts n (state_after parts before) →
    RunsSoundly parts (state_after parts before) s → RunsSoundly parts (state_after parts before) t → KeepApart parts s t → AreUnrelated parts t.op s.op →
    KeepsPlaceRules parts before s → KeepsPlaceRules parts (before ++ s ∷ []) t → KeepsPlaceRules parts (before ++ t ∷ []) s
second-places parts n before s t holds runs_s runs_t apart unrelated kept_s kept_t =
    let state = state_after parts before in
    let after_s = state_after_push parts before s in
    let after_t = state_after_push parts before t in
    let back = other_way parts s t apart in
    record {
      waits = waits-second parts before s t unrelated kept_s.waits;
      vessels = vessels-second parts before s t unrelated kept_s.vessels;
      minimum = ap (λ after. leaves_minimum parts after s) after_t ∙ minimum-same parts state t s back ∙ kept_s.minimum;
      maximum = ap (λ after. keeps_maximum parts after s) after_t
          ∙ maximum-second parts n state s t holds runs_s runs_t apart kept_s.maximum (sym (ap (λ after. keeps_maximum parts after t) after_s)
          ∙ kept_t.maximum);
      limits = ap (λ after. meets_limits parts after s) after_t ∙ limits-same parts state t s back ∙ kept_s.limits;
    }

pub soundly : (parts : Parts) (before : List Timed) (t : Timed) → SoundPlant parts → MayRun parts before t → RunsSoundly parts (state_after parts before) t
soundly parts before t sound may = runs_soundly parts BySlot before t (length before + 1) sound (no_faults parts before t (length before + 1) may)

-- two that may run one after the other may run the other way round
pub record MayRunBoth (parts : Parts) (before : List Timed) (s t : Timed) : Type 0 where
  pub first : MayRun parts before s
  pub second : MayRun parts (before ++ s ∷ []) t

pub other_way_round : (parts : Parts) (before : List Timed) (s t : Timed) → SoundPlant parts → HoldsWithin parts (length before) (state_after parts before) →
    independent_of parts s.op t.op ≡ true → MayRunBoth parts before s t → MayRunBoth parts before t s
other_way_round parts before s t sound holds independent both =
    let back = sym (independent_of-symmetric parts s.op t.op) ∙ independent in
    let apart = keep_apart parts s t (apart_from_independent parts s.op t.op independent) in
    let unrelated = unrelated parts t.op s.op back in
    let runs_s = soundly parts before s sound both.first in
    let first : MayRun parts before t = record {
      own = both.second.own;
      in_order = order-first parts before s t both.second.in_order;
      places = first-places parts (length before) before s t holds runs_s apart both.second.places;
    } in
    let runs_t = soundly parts before t sound first in
    record {
      first = first;
      second = record {
        own = both.first.own;
        in_order = order-second parts before s t unrelated both.first.in_order;
        places = second-places parts (length before) before s t holds runs_s runs_t apart unrelated both.first.places both.second.places;
      };
    }
