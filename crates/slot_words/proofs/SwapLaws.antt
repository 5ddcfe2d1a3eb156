-- A swap of independent neighbours keeps what a word means.
use Rattle.std.proofs.Common.{◌≡◌, ℕ, zero, suc, ◌+◌, ◌-◌, ◌*◌, max, ℤ, pos, Bool, true, false, if◌then◌else◌, List, [], ◌∷◌, ◌++◌, length, fold, refl, sym, ap, ◌∙◌, append_assoc, arith}
use Rattle.std.specs.Prelude.{◌-ℤ◌, cond}
use Rattle.std.specs.List.Sorted.{IsPermutation}
use Rattle.std.proofs.lemmas.Int.{ints}
use Rattle.std.proofs.lemmas.List.Sums.{fold-append}
use Rattle.std.proofs.lemmas.List.Sorted.{IsPermutation-append_right, IsPermutation-swap, sum_by-IsPermutation}
use Rattle.number_laws.specs.Sums.{sum_below}
use Rattle.item_lists.specs.Faults.{each_from, unless, first_of}
use Rattle.item_lists.proofs.FaultLaws.{nil_of_append}
use Rattle.plant_model.specs.declared.parts.Parts.{Parts}
use Rattle.plant_model.specs.declared.details.PlaceInfo.{PlaceInfo}
use Rattle.plant_model.specs.Parts.{place_count_of, place_of, places_of}
use Rattle.plant_model.specs.Relations.{independent_of}
use Rattle.plant_model.specs.Sound.{SoundPlant}
use Rattle.plant_model.proofs.RelationLaws.{independent_of-symmetric, apart_from_independent}
use Rattle.replay_core.specs.declared.timed.Timed.{Timed}
use Rattle.replay_core.specs.declared.order.Order.TheVariants.{BySlot}
use Rattle.replay_core.specs.State.{drawn_of, after_step, state_after}
use Rattle.replay_core.specs.Counts.{charges_unit, charges_from, unloads_from, charges_of, minutes_of, charged_of, latest_of, last_end_of}
use Rattle.replay_core.specs.Rules.{is_emptied, meets_demand, meets_charges}
use Rattle.replay_core.specs.Legal.{broken, op_faults, step_faults_from, step_faults, faults_at_places, vessel_faults, demand_faults, unit_faults, end_faults, IsLegalIn, CanRun}
use Rattle.replay_core.specs.Margin.{earned_at, earned_from, earned_of, wait_of, demurrage_of, margin_of}
use Rattle.replay_core.proofs.StepLaws.{step_faults_from-append, CanRun-legal, first_broken-accepted}
use Rattle.replay_core.proofs.MarginLaws.{earned_from-append}
use Rattle.replay_core.proofs.StateLaws.{holds_within-accepted, state_after_push}
use Rattle.slot_words.specs.Swaps.{MeansTheSame}
use Rattle.slot_words.proofs.MoveLaws.{keep_apart, moved_either_way, draw-kept}
use Rattle.slot_words.proofs.PairLaws.{MayRunBoth, may_run, no_faults, soundly, has_places, other_way_round}
use Rattle.slot_words.proofs.AlikeLaws.{AreAlike, swapped_alike, steps-alike, earned-alike, state-alike}

-- ---- the same operations

pub swapped-entries : (front back : List Timed) (s t : Timed) → IsPermutation (front ++ s ∷ t ∷ back) (front ++ t ∷ s ∷ back)
swapped-entries front back s t =
    IsPermutation-append_right front (s ∷ t ∷ back) (t ∷ s ∷ back)
    (IsPermutation-swap (s ∷ t ∷ back) (t ∷ s ∷ back) 0 1 (omega arith) (omega arith) refl)

-- ---- what counts of the operations, in whatever order

latest_two : (chosen : Timed → Bool) (minute : Timed → ℕ) (s t : Timed) (last : ℕ) (a b : Bool) → a ≡ chosen s → b ≡ chosen t →
    (if b then max (if a then max last (minute s) else last) (minute t) else (if a then max last (minute s) else last))
    ≡ (if a then max (if b then max last (minute t) else last) (minute s) else (if b then max last (minute t) else last))
latest_two chosen minute s t last true true is_a is_b = omega arith
latest_two chosen minute s t last true false is_a is_b = refl
latest_two chosen minute s t last false true is_a is_b = refl
latest_two chosen minute s t last false false is_a is_b = refl

latest-swapped : (chosen : Timed → Bool) (minute : Timed → ℕ) (front back : List Timed) (s t : Timed) →
    latest_of chosen minute (front ++ s ∷ t ∷ back) ≡ latest_of chosen minute (front ++ t ∷ s ∷ back)
latest-swapped chosen minute front back s t =
    let step = λ (last : ℕ) (r : Timed). if chosen r then max last (minute r) else last in
    let last = fold step 0 front in
    fold-append step 0 front (s ∷ t ∷ back)
    ∙ ap (λ (n : ℕ). fold step n back) (latest_two chosen minute s t last (chosen s) (chosen t) refl refl)
    ∙ sym (fold-append step 0 front (t ∷ s ∷ back))

-- the same is counted
pub record CountsTheSame (parts : Parts) (word other : List Timed) : Type 0 where
  pub charges : (p : ℕ) → charges_of parts other p ≡ charges_of parts word p
  pub minutes : (p : ℕ) → minutes_of parts other p ≡ minutes_of parts word p
  pub charged : (p : ℕ) → charged_of parts other p ≡ charged_of parts word p
  pub last_end : (p : ℕ) → last_end_of parts other p ≡ last_end_of parts word p

swapped-counts : (parts : Parts) (front back : List Timed) (s t : Timed) → CountsTheSame parts (front ++ s ∷ t ∷ back) (front ++ t ∷ s ∷ back)
unfolding charges_of minutes_of charged_of last_end_of
swapped-counts parts front back s t =
    let entries = swapped-entries front back s t in
    let word = front ++ s ∷ t ∷ back in
    let other = front ++ t ∷ s ∷ back in
    record {
      charges = λ p. sum_by-IsPermutation (λ (r : Timed). cond (charges_unit parts p r) 1 0) word other entries;
      minutes = λ p. sum_by-IsPermutation (λ (r : Timed). if charges_unit parts p r then r.end - r.start else 0) word other entries;
      charged = λ p. sum_by-IsPermutation (λ (r : Timed). if charges_from parts p r then r.volume else 0) word other entries;
      last_end = λ p. sym (latest-swapped (unloads_from parts p) (λ (r : Timed). r.end) front back s t);
    }

-- ---- what stands at the end

each-same : {X Y : Type 0} (faults others : ℕ → X → List Y) (index : ℕ) (xs : List X) → ((n : ℕ) (x : X) → faults n x ≡ others n x) →
    each_from faults index xs ≡ each_from others index xs
each-same faults others index [] same = refl
each-same faults others index (x ∷ xs) same =
    ap (λ first. first ++ each_from faults (index + 1) xs) (same index x) ∙ ap (λ rest. others index x ++ rest) (each-same faults others (index + 1) xs same)

at_places : (parts : Parts) (rule : ℕ) (holds others : ℕ → PlaceInfo → Bool) → ((p : ℕ) (place : PlaceInfo) → holds p place ≡ others p place) →
    faults_at_places parts rule holds ≡ faults_at_places parts rule others
at_places parts rule holds others same =
    each-same (λ p (place : PlaceInfo). unless (holds p place) (broken rule p)) (λ p (place : PlaceInfo). unless (others p place) (broken rule p)) 0
    (places_of parts) (λ p place. ap (λ (b : Bool). unless b (broken rule p)) (same p place))

demand-same : (parts : Parts) (word other : List Timed) (p : ℕ) (place : PlaceInfo) → CountsTheSame parts word other →
    meets_demand parts other p place ≡ meets_demand parts word p place
unfolding meets_demand
demand-same parts word other p place counts = rw (counts.charged p) refl

charges-same : (parts : Parts) (word other : List Timed) (p : ℕ) (place : PlaceInfo) → CountsTheSame parts word other →
    meets_charges parts other p place ≡ meets_charges parts word p place
unfolding meets_charges
charges-same parts word other p place counts = rw (counts.minutes p, counts.charges p) refl

pub ends-same : (parts : Parts) (word other : List Timed) → state_after parts other ≡ state_after parts word → CountsTheSame parts word other →
    end_faults parts other ≡ end_faults parts word
unfolding end_faults vessel_faults demand_faults unit_faults
ends-same parts word other state counts =
    let emptied = ap (λ after. faults_at_places parts 12 (is_emptied after)) state in
    let demands = at_places parts 13 (meets_demand parts other) (meets_demand parts word) (λ p place. demand-same parts word other p place counts) in
    let charges = at_places parts 14 (meets_charges parts other) (meets_charges parts word) (λ p place. charges-same parts word other p place counts) in
    rw (emptied, demands, charges) refl

-- ---- the margin

below-same : (count : ℕ) (f g : ℕ → ℕ) → ((p : ℕ) → f p ≡ g p) → sum_below count f ≡ sum_below count g
below-same zero f g same = refl
below-same (suc n) f g same = ap (λ (k : ℕ). k + f n) (below-same n f g same) ∙ ap (λ (k : ℕ). sum_below n g + k) (same n)

demurrage-same : (parts : Parts) (word other : List Timed) → CountsTheSame parts word other → demurrage_of parts other ≡ demurrage_of parts word
unfolding demurrage_of
demurrage-same parts word other counts =
    below-same (place_count_of parts) (λ p. (place_of parts p).demurrage * wait_of parts other p) (λ p. (place_of parts p).demurrage * wait_of parts word p)
    (λ p. ap (λ (last : ℕ). (place_of parts p).demurrage * (last - (place_of parts p).arrival)) (counts.last_end p))

margin-same : (parts : Parts) (word other : List Timed) → earned_of parts other ≡ earned_of parts word → CountsTheSame parts word other →
    margin_of parts other ≡ margin_of parts word
unfolding margin_of
margin-same parts word other earned counts =
    ap (λ (n : ℤ). n -ℤ pos (demurrage_of parts other)) earned ∙ ap (λ (n : ℕ). earned_of parts word -ℤ pos n) (demurrage-same parts word other counts)

-- ---- the swap

two_behind : (front back : List Timed) (s t : Timed) → front ++ s ∷ t ∷ back ≡ front ++ s ∷ t ∷ [] ++ back
two_behind front back s t = sym (append_assoc front (s ∷ t ∷ []) back)

one_by_one : (front : List Timed) (s t : Timed) → front ++ s ∷ t ∷ [] ≡ front ++ s ∷ [] ++ t ∷ []
one_by_one front s t = sym (append_assoc front (s ∷ []) (t ∷ []))

-- where the two and all before them break no rule
record Stands (parts : Parts) (front back : List Timed) (s t : Timed) : Type 0 where
  before : CanRun parts BySlot front
  both : MayRunBoth parts front s t
  later : step_faults_from parts BySlot (front ++ s ∷ t ∷ []) back ≡ []

stands : (parts : Parts) (front back : List Timed) (s t : Timed) → CanRun parts BySlot (front ++ s ∷ t ∷ back) → Stands parts front back s t
unfolding step_faults
stands parts front back s t can_run =
    let all = nil_of_append (step_faults_from parts BySlot [] front) (step_faults_from parts BySlot front (s ∷ t ∷ back))
    (sym (step_faults_from-append parts BySlot [] front (s ∷ t ∷ back)) ∙ can_run) in
    let first = nil_of_append (op_faults parts BySlot front s (length front + 1)) (step_faults_from parts BySlot (front ++ s ∷ []) (t ∷ back)) all.1 in
    let second = nil_of_append (op_faults parts BySlot (front ++ s ∷ []) t (length (front ++ s ∷ []) + 1))
    (step_faults_from parts BySlot (front ++ s ∷ [] ++ t ∷ []) back) first.1 in
    record {
      before = all.0;
      both = record {
        first = may_run parts front s (length front + 1) first.0;
        second = may_run parts (front ++ s ∷ []) t (length (front ++ s ∷ []) + 1) second.0;
      };
      later = ap (λ (before : List Timed). step_faults_from parts BySlot before back) (one_by_one front s t) ∙ second.1;
    }

can_run : (parts : Parts) (front back : List Timed) (s t : Timed) → Stands parts front back s t → CanRun parts BySlot (front ++ s ∷ t ∷ back)
unfolding step_faults
can_run parts front back s t here =
    let first = no_faults parts front s (length front + 1) here.both.first in
    let second = no_faults parts (front ++ s ∷ []) t (length (front ++ s ∷ []) + 1) here.both.second in
    let later = sym (ap (λ (before : List Timed). step_faults_from parts BySlot before back) (one_by_one front s t)) ∙ here.later in
    let before : step_faults_from parts BySlot [] front ≡ [] = here.before in
    step_faults_from-append parts BySlot [] front (s ∷ t ∷ back) ∙ rw (before, first, second, later) refl

-- what they find and leave, whichever of them comes first
moved-swapped : (parts : Parts) (front back : List Timed) (s t : Timed) → SoundPlant parts → independent_of parts s.op t.op ≡ true →
    Stands parts front back s t →
    Stands parts front back t s
    × (after_step parts (after_step parts (state_after parts front) s) t ≡ after_step parts (after_step parts (state_after parts front) t) s)
moved-swapped parts front back s t sound independent here =
    let holds = holds_within-accepted parts BySlot front sound here.before in
    let round = other_way_round parts front s t sound holds independent here.both in
    let state = state_after parts front in
    let places_s = has_places parts (length front) state s holds (soundly parts front s sound here.both.first) in
    let places_t = has_places parts (length front) state t holds (soundly parts front t sound round.first) in
    let moved = moved_either_way parts state s t places_s places_t (keep_apart parts s t (apart_from_independent parts s.op t.op independent)) in
    let later = steps-alike parts (front ++ s ∷ t ∷ []) (front ++ t ∷ s ∷ []) back (swapped_alike parts front s t moved) in
    (record { before = here.before; both = round; later = sym later ∙ here.later }, moved)

earning-kept : (parts : Parts) (front : List Timed) (s t : Timed) → independent_of parts s.op t.op ≡ true →
    earned_at parts (front ++ s ∷ []) t ≡ earned_at parts front t
unfolding earned_at
earning-kept parts front s t independent =
    let apart = keep_apart parts s t (apart_from_independent parts s.op t.op independent) in
    let drawn = ap (λ (state : List (List ℕ)). drawn_of parts state t) (state_after_push parts front s) ∙ draw-kept parts (state_after parts front) s t apart in
    rw drawn refl

earned-swapped : (parts : Parts) (front back : List Timed) (s t : Timed) → independent_of parts s.op t.op ≡ true →
    AreAlike parts (front ++ s ∷ t ∷ []) (front ++ t ∷ s ∷ []) → earned_of parts (front ++ t ∷ s ∷ back) ≡ earned_of parts (front ++ s ∷ t ∷ back)
unfolding earned_of
earned-swapped parts front back s t independent alike =
    let back_independent = sym (independent_of-symmetric parts s.op t.op) ∙ independent in
    let word = earned_from-append parts [] front (s ∷ t ∷ back) in
    let other = earned_from-append parts [] front (t ∷ s ∷ back) in
    let second = earning-kept parts front s t independent in
    let first = earning-kept parts front t s back_independent in
    let later = earned-alike parts (front ++ s ∷ t ∷ []) (front ++ t ∷ s ∷ []) back alike in
    let here = ap (λ (before : List Timed). earned_from parts before back) (one_by_one front s t) in
    let there = ap (λ (before : List Timed). earned_from parts before back) (one_by_one front t s) in
    omega (arith, ints)

pub swap_keeps : (parts : Parts) (front back : List Timed) (s t : Timed) → SoundPlant parts → independent_of parts s.op t.op ≡ true →
    MeansTheSame parts (front ++ s ∷ t ∷ back) (front ++ t ∷ s ∷ back)
swap_keeps parts front back s t sound independent =
    let word = front ++ s ∷ t ∷ back in
    let other = front ++ t ∷ s ∷ back in
    let counts = swapped-counts parts front back s t in
    let both = λ (run : CanRun parts BySlot word). moved-swapped parts front back s t sound independent (stands parts front back s t run) in
    let runs = λ (run : CanRun parts BySlot word). can_run parts front back t s (both run).0 in
    let held = λ (run : CanRun parts BySlot word). held-swapped parts front back s t (swapped_alike parts front s t (both run).1) in
    record {
      legal = λ legal. (let run = CanRun-legal parts BySlot word legal in legal-swapped parts word other legal (runs run) (held run) counts);
      can_run = runs;
      held = held;
      margin = λ run. margin-same parts word other (earned-swapped parts front back s t independent (swapped_alike parts front s t (both run).1)) counts;
    }
  where
    held-swapped : (parts : Parts) (front back : List Timed) (s t : Timed) → AreAlike parts (front ++ s ∷ t ∷ []) (front ++ t ∷ s ∷ []) →
        state_after parts (front ++ t ∷ s ∷ back) ≡ state_after parts (front ++ s ∷ t ∷ back)
    held-swapped parts front back s t alike =
        ap (state_after parts) (two_behind front back t s) ∙ sym (state-alike parts (front ++ s ∷ t ∷ []) (front ++ t ∷ s ∷ []) back alike)
        ∙ sym (ap (state_after parts) (two_behind front back s t))

    legal-swapped : (parts : Parts) (word other : List Timed) → IsLegalIn parts BySlot word → CanRun parts BySlot other →
        state_after parts other ≡ state_after parts word →
        CountsTheSame parts word other → IsLegalIn parts BySlot other
    legal-swapped parts word other legal runs held counts =
        first_broken-accepted parts BySlot other runs ∙ ap first_of (ends-same parts word other held counts)
        ∙ sym (first_broken-accepted parts BySlot word (CanRun-legal parts BySlot word legal)) ∙ legal
