-- One operation more, in what a replay keeps.
use Rattle.std.proofs.Common.{◌≡◌, ℕ, ◌+◌, ◌*◌, ◌<◌, ◌≤◌, ℤ, pos, neg_ℤ, ◌+ℤ◌, ◌≤ℤ◌, if◌then◌else◌, List, [], ◌∷◌, ◌++◌, length, sum, sym, ap, subst, ◌∙◌, arith}
use Rattle.std.proofs.lemmas.Int.{ints}
use Rattle.std.proofs.lemmas.List.{length_push}
use Rattle.crude_amounts.specs.Draw.{draw_of}
use Rattle.crude_amounts.specs.Amounts.{weighted_of}
use Rattle.limits.specs.declared.TheConstants.{MOST_MARGIN, MOST_STEPS, MOST_VOLUME}
use Rattle.plant_model.specs.declared.parts.Parts.{Parts}
use Rattle.plant_model.specs.declared.details.Op.{Op}
use Rattle.plant_model.specs.Parts.{op_of}
use Rattle.plant_model.specs.Relations.{is_charge}
use Rattle.plant_model.specs.Sound.{SoundPlant}
use Rattle.replay_core.specs.declared.timed.Timed.{Timed}
use Rattle.replay_core.specs.declared.order.Order.{Order}
use Rattle.replay_core.specs.declared.tally.Tally.{Tally}
use Rattle.replay_core.specs.Replayed.{Replayed}
use Rattle.replay_core.specs.State.{held_of, drawn_of, moved, after_step, state_after, draw_at}
use Rattle.replay_core.specs.inside.Levels.{HoldsWithin, CanMove}
use Rattle.replay_core.specs.inside.Tally.{AreTallies, CanCount}
use Rattle.replay_core.specs.Legal.{op_faults, CanRun}
use Rattle.replay_core.specs.Margin.{AreSmall, crude_margins_of, earned_at, earned_of}
use Rattle.replay_core.proofs.StepLaws.{CanRun_push}
use Rattle.replay_core.proofs.RuleLaws.{RunsSoundly, runs_soundly}
use Rattle.replay_core.proofs.StateLaws.{holds_within-accepted, source_is_no_unit, places_apart, drawn-crudes, drawn-volume, state_after_push}
use Rattle.replay_core.proofs.TallyLaws.{tallies_have_room}
use Rattle.replay_core.proofs.MarginLaws.{earns_within-accepted, earned_of_push, crude_margins_are_small, length-crude_margins_of}

-- an operation that breaks no rule where others have run that broke none
pub record MayRun (parts : Parts) (order : Order) (steps : List Timed) (t : Timed) : Type 0 where
  pub sound : SoundPlant parts
  pub accepted : CanRun parts order steps
  pub few : length steps < MOST_STEPS
  pub none : op_faults parts order steps t (length steps + 1) ≡ []

abbrev pub seen : Parts → Order → List Timed → Replayed
seen parts order steps = record { parts = parts; order = order; steps = steps }

pub may_run : (parts : Parts) (order : Order) (steps : List Timed) (now : Replayed) (t : Timed) → seen parts order steps ≡ now → SoundPlant parts →
    CanRun parts order steps → length now.steps < MOST_STEPS → op_faults now.parts now.order now.steps t (length now.steps + 1) ≡ [] →
    MayRun parts order steps t
may_run parts order steps now t is sound accepted few none = record {
  sound = sound;
  accepted = accepted;
  few = subst (λ (r : Replayed). length r.steps < MOST_STEPS) (sym is) few;
  none = subst (λ (r : Replayed). op_faults r.parts r.order r.steps t (length r.steps + 1) ≡ []) (sym is) none;
}

pub run_of : (parts : Parts) (order : Order) (steps : List Timed) (t : Timed) → MayRun parts order steps t → RunsSoundly parts (state_after parts steps) t
run_of parts order steps t may = runs_soundly parts order steps t (length steps + 1) may.sound may.none

pub level_of : (parts : Parts) (order : Order) (steps : List Timed) (t : Timed) → MayRun parts order steps t →
    HoldsWithin parts (length steps) (state_after parts steps)
level_of parts order steps t may = holds_within-accepted parts order steps may.sound may.accepted

can_move_after : (parts : Parts) (order : Order) (steps : List Timed) (t : Timed) → MayRun parts order steps t →
    CanMove (state_after parts steps) (op_of parts t.op).from (op_of parts t.op).to t.volume
can_move_after parts order steps t may =
    let op = op_of parts t.op in
    let state = state_after parts steps in
    let runs = run_of parts order steps t may in
    let holds = level_of parts order steps t may in
    let sound = runs.sound in
    let count = holds.count in
    let from = sound.from_place in
    let to = sound.to_place in
    let source = holds.tanks op.from from (source_is_no_unit parts op sound) in
    let target = holds.all op.to to in
    let most = runs.most in
    let few = may.few in
    record {
      source = omega arith;
      target = omega arith;
      apart = places_apart parts op sound;
      some = runs.some;
      there = runs.there;
      source_total = omega arith;
      same_crudes = holds.crudes op.to to ∙ sym (holds.crudes op.from from);
      target_total = omega arith;
    }

pub can_move : (parts : Parts) (order : Order) (steps : List Timed) (t : Timed) (state : List (List ℕ)) (op : Op) (volume : ℕ) → MayRun parts order steps t →
    state ≡ state_after parts steps → op ≡ op_of parts t.op → volume ≡ t.volume → CanMove state op.from op.to volume
can_move parts order steps t state op volume may same_state same_op same_volume =
    subst (λ (xs : List (List ℕ)). CanMove xs op.from op.to volume) (sym same_state)
    (subst (λ (o : Op). CanMove (state_after parts steps) o.from o.to volume) (sym same_op)
    (subst (λ (n : ℕ). CanMove (state_after parts steps) (op_of parts t.op).from (op_of parts t.op).to n) (sym same_volume)
    (can_move_after parts order steps t may)))

-- what is drawn, and the state after it
pub draw_is : (parts : Parts) (steps : List Timed) (t : Timed) (state : List (List ℕ)) (op : Op) (volume : ℕ) (drawn : List ℕ) → state ≡ state_after parts steps
    → op ≡ op_of parts t.op → volume ≡ t.volume →
    drawn ≡ draw_of (held_of state op.from) volume → drawn ≡ draw_at parts steps t
unfolding drawn_of
draw_is parts steps t state op volume drawn same_state same_op same_volume is =
    is
    ∙ ap (λ (xs : List (List ℕ)). draw_of (held_of xs op.from) volume) same_state
    ∙ ap (λ (o : Op). draw_of (held_of (state_after parts steps) o.from) volume) same_op
    ∙ ap (λ (n : ℕ). draw_of (held_of (state_after parts steps) (op_of parts t.op).from) n) same_volume

pub moved_is : (parts : Parts) (steps : List Timed) (t : Timed) (state new : List (List ℕ)) (op : Op) (drawn : List ℕ) → state ≡ state_after parts steps →
    op ≡ op_of parts t.op → drawn ≡ draw_at parts steps t →
    new ≡ moved state op.from op.to drawn → new ≡ state_after parts (steps ++ t ∷ [])
unfolding after_step
moved_is parts steps t state new op drawn same_state same_op same_draw is =
    is
    ∙ ap (λ (xs : List (List ℕ)). moved xs op.from op.to drawn) same_state
    ∙ ap (λ (o : Op). moved (state_after parts steps) o.from o.to drawn) same_op
    ∙ ap (moved (state_after parts steps) (op_of parts t.op).from (op_of parts t.op).to) same_draw
    ∙ sym (state_after_push parts steps t)

-- counting
pub can_count : (parts : Parts) (order : Order) (steps : List Timed) (t : Timed) (tallies : List Tally) (op : Op) → MayRun parts order steps t →
    AreTallies parts steps tallies → op ≡ op_of parts t.op → CanCount tallies op t
can_count parts order steps t tallies op may are same_op =
    let runs = run_of parts order steps t may in
    let few = may.few in
    let count = are.count in
    let from = runs.sound.from_place in
    let to = runs.sound.to_place in
    let at : CanCount tallies (op_of parts t.op) t = record {
      source = omega arith;
      target = omega arith;
      lasts = runs.lasts;
      room = tallies_have_room parts order steps tallies may.sound may.accepted (omega arith) are;
    } in
    subst (λ (o : Op). CanCount tallies o t) (sym same_op) at

-- earning
pub record CanEarn (drawn : List ℕ) (margins : List ℤ) : Type 0 where
  pub crudes : length margins ≡ length drawn
  pub few : sum drawn ≤ MOST_VOLUME
  pub small : AreSmall MOST_MARGIN margins

pub can_earn : (parts : Parts) (order : Order) (steps : List Timed) (t : Timed) (drawn : List ℕ) (margins : List ℤ) → MayRun parts order steps t →
    drawn ≡ draw_at parts steps t → margins ≡ crude_margins_of parts → CanEarn drawn margins
can_earn parts order steps t drawn margins may same_draw same_margins =
    let runs = run_of parts order steps t may in
    let holds = level_of parts order steps t may in
    let crudes = drawn-crudes parts (state_after parts steps) t ∙ holds.crudes (op_of parts t.op).from runs.sound.from_place in
    let volume = drawn-volume parts (state_after parts steps) t runs in
    let total = ap sum same_draw in
    let most = runs.most in
    record {
      crudes = ap length same_margins ∙ length-crude_margins_of parts ∙ sym crudes ∙ ap length (sym same_draw);
      few = omega arith;
      small = subst (AreSmall MOST_MARGIN) (sym same_margins) (crude_margins_are_small parts may.sound);
    }

pub earned_is : (parts : Parts) (steps : List Timed) (t : Timed) (op : Op) (drawn : List ℕ) (margins : List ℤ) (earned : ℤ) → op ≡ op_of parts t.op →
    drawn ≡ draw_at parts steps t → margins ≡ crude_margins_of parts →
    earned ≡ (if is_charge op.kind then weighted_of drawn margins else pos 0) → earned ≡ earned_at parts steps t
unfolding earned_at
earned_is parts steps t op drawn margins earned same_op same_draw same_margins is =
    is
    ∙ ap (λ (o : Op). if is_charge o.kind then weighted_of drawn margins else pos 0) same_op
    ∙ ap (λ (xs : List ℕ). if is_charge (op_of parts t.op).kind then weighted_of xs margins else pos 0) same_draw
    ∙ ap (λ (ws : List ℤ). if is_charge (op_of parts t.op).kind then weighted_of (draw_at parts steps t) ws else pos 0) same_margins

-- what was earned before and after is at most what as many operations as a plan may have could earn
pub record MarginsFit (before earned after : ℤ) : Type 0 where
  pub sum : after ≡ before +ℤ earned
  pub before_low : neg_ℤ (pos (MOST_MARGIN * MOST_VOLUME * MOST_STEPS)) ≤ℤ before
  pub before_high : before ≤ℤ pos (MOST_MARGIN * MOST_VOLUME * MOST_STEPS)
  pub after_low : neg_ℤ (pos (MOST_MARGIN * MOST_VOLUME * MOST_STEPS)) ≤ℤ after
  pub after_high : after ≤ℤ pos (MOST_MARGIN * MOST_VOLUME * MOST_STEPS)

pub margins_fit : (parts : Parts) (order : Order) (steps : List Timed) (t : Timed) → MayRun parts order steps t →
    MarginsFit (earned_of parts steps) (earned_at parts steps t) (earned_of parts (steps ++ t ∷ []))
margins_fit parts order steps t may =
    let before = earns_within-accepted parts order steps may.sound may.accepted in
    let after = earns_within-accepted parts order (steps ++ t ∷ []) may.sound (CanRun_push parts order steps t may.accepted may.none) in
    let one = length_push steps t in
    let few = may.few in
    let low = before.low in
    let high = before.high in
    let low_after = after.low in
    let high_after = after.high in
    record {
      sum = earned_of_push parts steps t;
      before_low = omega (arith, ints);
      before_high = omega (arith, ints);
      after_low = omega (arith, ints);
      after_high = omega (arith, ints);
    }
