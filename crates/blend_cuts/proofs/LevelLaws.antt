-- What the places of a set exceed the threshold by, place by place and none making up for another: after one operation,
-- and after the first ones of a word.
use Rattle.std.proofs.Common.{◌≡◌, ◌≢◌, ℕ, zero, suc, ◌+◌, ◌*◌, ◌<◌, ◌≤◌, Bool, true, false, List, [], length, take, inl, inr, refl, sym, ap, ◌∙◌, arith}
use Rattle.std.specs.Prelude.{◌==◌, ◌&&◌, not, nat_lt}
use Rattle.std.proofs.lemmas.Bool.{cases_Bool, cases_eq, eq-eqb, ne_eqb, lt-ltb}
use Rattle.crude_amounts.specs.Amounts.{mix_of, rest_of}
use Rattle.number_laws.specs.Sums.{sum_below, when}
use Rattle.number_laws.proofs.SumLaws.{sum_below-monotone, sum_below-sum, sum_below-at, sum_below-term, sum_below-same}
use Rattle.plant_model.specs.declared.parts.Parts.{Parts}
use Rattle.plant_model.specs.Parts.{place_count_of, place_of, op_of}
use Rattle.plant_model.specs.Sound.{SoundPlant}
use Rattle.replay_core.specs.declared.timed.Timed.{Timed}
use Rattle.replay_core.specs.State.{initial_state, held_of, drawn_of, after_step, state_after}
use Rattle.replay_core.specs.Steps.{step_at, draw_in}
use Rattle.replay_core.specs.inside.Levels.{HoldsWithin}
use Rattle.replay_core.proofs.RuleLaws.{RunsSoundly}
use Rattle.replay_core.proofs.StateLaws.{places_apart, moved-source, moved-target, moved-other, drawn-crudes, holds_crude}
use Rattle.word_flows.specs.Runs.{IsRun}
use Rattle.word_flows.proofs.FlowLaws.{begins_as_given}
use Rattle.word_flows.proofs.RunLaws.{soundly, state-next, holds_within-run}
use Rattle.slot_box.specs.declared.cut.CutParams.{CutParams}
use Rattle.blend_cuts.specs.Cuts.{is_inside}
use Rattle.blend_cuts.specs.Excess.{positive_excess_of, place_excess_of, first_excess_of, drift_of}
use Rattle.blend_cuts.specs.CutRows.{brings}
use Rattle.blend_cuts.proofs.ExcessLaws.{draw-drifts, received-rises}
use Rattle.blend_cuts.proofs.ValidLaws.{IsCut}

-- what place p exceeds the threshold by, where it is in the set
abbrev pub level_at : Parts → CutParams → List (List ℕ) → ℕ → ℕ
level_at parts cut state p = when (is_inside cut p) (positive_excess_of parts cut (held_of state p))

abbrev pub level_of : Parts → CutParams → List (List ℕ) → ℕ
level_of parts cut state = sum_below (place_count_of parts) (level_at parts cut state)

when-most : (b : Bool) (n : ℕ) → when b n ≤ n
when-most true n = omega arith
when-most false n = omega arith

-- ---- sums that differ at two places alone

-- one place gives y and may get d, another may get y
moves : (n from to y d : ℕ) (f g : ℕ → ℕ) → from < n →
    ((p : ℕ) → g p + when (p == from) y ≤ f p + (when (p == from) d + when (p == to) y)) → sum_below n g ≤ sum_below n f + d
moves n from to y d f g there each =
    let given = λ (p : ℕ). when (p == from) y in
    let drifted = λ (p : ℕ). when (p == from) d in
    let got = λ (p : ℕ). when (p == to) y in
    let all = sum_below-monotone n (λ p. g p + given p) (λ p. f p + (drifted p + got p)) each in
    let left = sum_below-sum n (λ p. g p + given p) g given (λ k under. refl) in
    let right = sum_below-sum n (λ p. f p + (drifted p + got p)) f (λ p. drifted p + got p) (λ k under. refl) in
    let both = sum_below-sum n (λ p. drifted p + got p) drifted got (λ k under. refl) in
    let inside = lt-ltb from n there in
    let gave = sum_below-at n from (λ p. y) ∙ ap (λ (b : Bool). when b y) inside in
    let drift = sum_below-at n from (λ p. d) ∙ ap (λ (b : Bool). when b d) inside in
    let gets = sum_below-at n to (λ p. y) in
    let most = when-most (nat_lt to n) y in
    omega (arith, all, left, right, both, gave, drift, gets, most)

-- ---- one operation

-- what the operation draws, where it draws from the set, and what it leaves
source-drifts : (parts : Parts) (cut : CutParams) (n : ℕ) (state : List (List ℕ)) (t : Timed) → IsCut parts cut → HoldsWithin parts n state → RunsSoundly parts state t →
    positive_excess_of parts cut (rest_of (held_of state (op_of parts t.op).from) (drawn_of parts state t)) + positive_excess_of parts cut (drawn_of parts state t)
    ≤ positive_excess_of parts cut (held_of state (op_of parts t.op).from) + drift_of parts cut
unfolding drawn_of
source-drifts parts cut n state t is holds runs =
    draw-drifts parts cut (held_of state (op_of parts t.op).from) t.volume is.q (holds.crudes (op_of parts t.op).from runs.sound.from_place) runs.some runs.there

level-source : (parts : Parts) (cut : CutParams) (n : ℕ) (state : List (List ℕ)) (t : Timed) → HoldsWithin parts n state → RunsSoundly parts state t →
    held_of (after_step parts state t) (op_of parts t.op).from ≡ rest_of (held_of state (op_of parts t.op).from) (drawn_of parts state t)
unfolding after_step
level-source parts cut n state t holds runs =
    let op = op_of parts t.op in
    let count = holds.count in
    let place = runs.sound.from_place in
    moved-source state op.from op.to (drawn_of parts state t) (omega (arith, count, place)) (places_apart parts op runs.sound)

level-target : (parts : Parts) (cut : CutParams) (n : ℕ) (state : List (List ℕ)) (t : Timed) → HoldsWithin parts n state → RunsSoundly parts state t →
    held_of (after_step parts state t) (op_of parts t.op).to ≡ mix_of (held_of state (op_of parts t.op).to) (drawn_of parts state t)
unfolding after_step
level-target parts cut n state t holds runs =
    let op = op_of parts t.op in
    let count = holds.count in
    let place = runs.sound.to_place in
    moved-target state op.from op.to (drawn_of parts state t) (omega (arith, count, place)) (places_apart parts op runs.sound)

level-other : (parts : Parts) (state : List (List ℕ)) (t : Timed) (p : ℕ) → p ≢ (op_of parts t.op).from → p ≢ (op_of parts t.op).to →
    held_of (after_step parts state t) p ≡ held_of state p
unfolding after_step
level-other parts state t p not_source not_target =
    let op = op_of parts t.op in moved-other state op.from op.to p (drawn_of parts state t) not_source not_target

target-rises : (parts : Parts) (cut : CutParams) (n : ℕ) (state : List (List ℕ)) (t : Timed) → HoldsWithin parts n state → RunsSoundly parts state t →
    level_at parts cut (after_step parts state t) (op_of parts t.op).to ≤ level_at parts cut state (op_of parts t.op).to
    + positive_excess_of parts cut (drawn_of parts state t)
target-rises parts cut n state t holds runs =
    let op = op_of parts t.op in
    let drawn = drawn_of parts state t in
    let crudes : length drawn ≡ length (held_of state op.to) =
    drawn-crudes parts state t ∙ holds.crudes op.from runs.sound.from_place ∙ sym (holds.crudes op.to runs.sound.to_place) in
    let rises = received-rises parts cut (held_of state op.to) drawn crudes in
    let same = ap (positive_excess_of parts cut) (level-target parts cut n state t holds runs) in
    elim (cases_Bool (is_inside cut op.to)) [
      | inl inside ↦ rw inside (omega (arith, rises, same))
      | inr outside ↦ rw outside (omega arith)
    ]

-- from a place of the set: at each place
each-place : (parts : Parts) (cut : CutParams) (n : ℕ) (state : List (List ℕ)) (t : Timed) (p : ℕ) → IsCut parts cut → HoldsWithin parts n state →
    RunsSoundly parts state t → is_inside cut (op_of parts t.op).from ≡ true →
    level_at parts cut (after_step parts state t) p + when (p == (op_of parts t.op).from) (positive_excess_of parts cut (drawn_of parts state t))
    ≤ level_at parts cut state p
    + (when (p == (op_of parts t.op).from) (drift_of parts cut) + when (p == (op_of parts t.op).to) (positive_excess_of parts cut (drawn_of parts state t)))
each-place parts cut n state t p is holds runs from_set =
    let op = op_of parts t.op in
    elim (cases_eq p op.from) [
      | inl source ↦
          let other : op.from ≢ op.to = places_apart parts op runs.sound in
          let drifts = source-drifts parts cut n state t is holds runs in
          let same = ap (positive_excess_of parts cut) (level-source parts cut n state t holds runs) in
          rw (source, eq-eqb op.from op.from refl, ne_eqb op.from op.to other, from_set) (omega (arith, drifts, same))
      | inr not_source ↦ elim (cases_eq p op.to) [
        | inl target ↦
            let other : op.to ≢ op.from = λ same. not_source (target ∙ same) in
            let rises = target-rises parts cut n state t holds runs in
            rw (target, ne_eqb op.to op.from other, eq-eqb op.to op.to refl) (omega (arith, rises))
        | inr not_target ↦
            let same = ap (λ (held : List ℕ). when (is_inside cut p) (positive_excess_of parts cut held)) (level-other parts state t p not_source not_target) in
            rw (ne_eqb p op.from not_source, ne_eqb p op.to not_target) (omega (arith, same))
      ]
    ]

pub level-from_set : (parts : Parts) (cut : CutParams) (n : ℕ) (state : List (List ℕ)) (t : Timed) → IsCut parts cut → HoldsWithin parts n state →
    RunsSoundly parts state t → is_inside cut (op_of parts t.op).from ≡ true →
    level_of parts cut (after_step parts state t) ≤ level_of parts cut state + drift_of parts cut
level-from_set parts cut n state t is holds runs from_set =
    let op = op_of parts t.op in
    moves (place_count_of parts) op.from op.to (positive_excess_of parts cut (drawn_of parts state t)) (drift_of parts cut)
    (level_at parts cut state) (level_at parts cut (after_step parts state t)) runs.sound.from_place
    (λ p. each-place parts cut n state t p is holds runs from_set)

-- outside the set nothing changes in it
pub level-outside : (parts : Parts) (cut : CutParams) (state : List (List ℕ)) (t : Timed) → is_inside cut (op_of parts t.op).from ≡ false →
    is_inside cut (op_of parts t.op).to ≡ false → level_of parts cut (after_step parts state t) ≤ level_of parts cut state
level-outside parts cut state t not_from not_to =
    let op = op_of parts t.op in
    sum_below-monotone (place_count_of parts) (level_at parts cut (after_step parts state t)) (level_at parts cut state)
    (λ p. elim (cases_eq p op.from) [
      | inl source ↦ rw (source, not_from) (omega arith)
      | inr not_source ↦ elim (cases_eq p op.to) [
        | inl target ↦ rw (target, not_to) (omega arith)
        | inr not_target ↦
            let same = ap (λ (held : List ℕ). when (is_inside cut p) (positive_excess_of parts cut held)) (level-other parts state t p not_source not_target) in
            omega (arith, same)
      ]
    ])

-- what is drawn from the set exceeds the threshold by no more than the set did, and one drift
pub draw-allowed : (parts : Parts) (cut : CutParams) (n : ℕ) (state : List (List ℕ)) (t : Timed) → IsCut parts cut → HoldsWithin parts n state →
    RunsSoundly parts state t → is_inside cut (op_of parts t.op).from ≡ true →
    positive_excess_of parts cut (drawn_of parts state t) ≤ level_of parts cut state + drift_of parts cut
draw-allowed parts cut n state t is holds runs from_set =
    let op = op_of parts t.op in
    let drifts = source-drifts parts cut n state t is holds runs in
    let term = sum_below-term (place_count_of parts) (level_at parts cut state) op.from runs.sound.from_place in
    let at = ap (λ (b : Bool). when b (positive_excess_of parts cut (held_of state op.from))) from_set in
    omega (arith, drifts, term, at)

-- ---- over a word

-- none of the first k operations of the word brings crude into the set
abbrev pub NoneBrings : Parts → CutParams → List Timed → ℕ → Type 0
NoneBrings parts cut word k = (j : ℕ) → j < k → j < length word → brings parts cut (step_at word j).op ≡ false

stays-outside : (a b : Bool) → (not a && b) ≡ false → a ≡ false → b ≡ false
stays-outside true b none outside = (let never : true ≡ false = outside in cc)
stays-outside false b none outside = none

level-next : (parts : Parts) (cut : CutParams) (n : ℕ) (state : List (List ℕ)) (t : Timed) → IsCut parts cut → HoldsWithin parts n state →
    RunsSoundly parts state t → brings parts cut t.op ≡ false →
    level_of parts cut (after_step parts state t) ≤ level_of parts cut state + drift_of parts cut
level-next parts cut n state t is holds runs none =
    let op = op_of parts t.op in
    elim (cases_Bool (is_inside cut op.from)) [
      | inl from_set ↦ level-from_set parts cut n state t is holds runs from_set
      | inr outside ↦
          let same = level-outside parts cut state t outside (stays-outside (is_inside cut op.from) (is_inside cut op.to) none outside) in
          omega (arith, same)
    ]

level-first : (parts : Parts) (cut : CutParams) → SoundPlant parts → IsCut parts cut → level_of parts cut (state_after parts []) ≡ first_excess_of parts cut
unfolding state_after first_excess_of
level-first parts cut sound is =
    sum_below-same (place_count_of parts) (level_at parts cut (initial_state parts)) (place_excess_of parts cut)
    (λ p there. elim (cases_Bool (is_inside cut p)) [
      | inl inside ↦
          let holds = holds_crude (place_of parts p).kind (is.stock p there inside) in
          ap (λ (held : List ℕ). when (is_inside cut p) (positive_excess_of parts cut held)) (begins_as_given parts sound p there holds)
      | inr outside ↦ rw outside refl
    ])

pub level-within : (parts : Parts) (cut : CutParams) (word : List Timed) (k : ℕ) → SoundPlant parts → IsCut parts cut → IsRun parts word → k ≤ length word →
    NoneBrings parts cut word k → level_of parts cut (state_after parts (take k word)) ≤ first_excess_of parts cut + k * drift_of parts cut
level-within parts cut word zero sound is run within none = let first = level-first parts cut sound is in omega (arith, first)
level-within parts cut word (suc k) sound is run within none =
    let earlier = level-within parts cut word k sound is run (omega arith) (λ j before there. none j (omega arith) there) in
    let state = state_after parts (take k word) in
    let holds = holds_within-run parts word sound run k (omega arith) in
    let step = level-next parts cut k state (step_at word k) is holds (soundly parts word k sound run (omega arith)) (none k (omega arith) (omega arith)) in
    let next = ap (level_of parts cut) (state-next parts word k (omega arith)) in
    omega (arith, earlier, step, next)

-- what operation k draws from the set, where none before it brings crude into it
pub drawn-within : (parts : Parts) (cut : CutParams) (word : List Timed) (k : ℕ) → SoundPlant parts → IsCut parts cut → IsRun parts word → k < length word →
    NoneBrings parts cut word k → is_inside cut (op_of parts (step_at word k).op).from ≡ true →
    positive_excess_of parts cut (draw_in parts word k) ≤ first_excess_of parts cut + suc k * drift_of parts cut
drawn-within parts cut word k sound is run there none from_set =
    let level = level-within parts cut word k sound is run (omega arith) none in
    let state = state_after parts (take k word) in
    let holds = holds_within-run parts word sound run k (omega arith) in
    let allowed = draw-allowed parts cut k state (step_at word k) is holds (soundly parts word k sound run there) from_set in
    omega (arith, level, allowed)
