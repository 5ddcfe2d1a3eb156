-- What goes out of a place and into it: one operation, and then a whole run.
use Rattle.std.proofs.Common.{◌≡◌, ℕ, zero, suc, ◌+◌, ◌<◌, ◌≤◌, inl, inr, if◌then◌else◌, List, length, take, get_or, sum, sym, ap, refl, ◌∙◌, arith}
use Rattle.std.specs.Prelude.{◌==◌}
use Rattle.std.proofs.lemmas.List.{take_all}
use Rattle.std.proofs.lemmas.Bool.{cases_eq, cases_lt, eq-eqb, ne_eqb, lt-ltb, le-ltb}
use Rattle.crude_amounts.proofs.MixLaws.{sum-mix_of, sum-rest_of, crude-taken, crude-added}
use Rattle.crude_amounts.proofs.DrawLaws.{draw_of-within}
use Rattle.plant_model.specs.declared.parts.Parts.{Parts}
use Rattle.plant_model.specs.Parts.{op_of}
use Rattle.plant_model.specs.Sound.{SoundPlant}
use Rattle.replay_core.specs.declared.timed.Timed.{Timed}
use Rattle.replay_core.specs.State.{initial_state, held_of, drawn_of, after_step, state_after}
use Rattle.replay_core.specs.inside.Levels.{HoldsWithin}
use Rattle.replay_core.specs.Steps.{step_at}
use Rattle.replay_core.proofs.RuleLaws.{RunsSoundly}
use Rattle.replay_core.proofs.StateLaws.{places_apart, moved-source, moved-target, moved-other, drawn-crudes, held-first}
use Rattle.word_flows.specs.Runs.{IsRun}
use Rattle.word_flows.specs.Flows.{held_after, out_of, into, amount_of, IsAdditive, RunsBalance, BeginsAsGiven}
use Rattle.word_flows.proofs.RunLaws.{soundly, state-next, holds_within-run}

-- ---- additive numbers

pub total_is_additive : IsAdditive sum
total_is_additive = record { taken = sum-rest_of; added = sum-mix_of }

pub crude_is_additive : (c : ℕ) → IsAdditive (amount_of c)
crude_is_additive c = record { taken = crude-taken c; added = crude-added c }

-- ---- one operation

drawn-there : (parts : Parts) (state : List (List ℕ)) (t : Timed) → RunsSoundly parts state t → (c : ℕ) →
    get_or (drawn_of parts state t) c 0 ≤ get_or (held_of state (op_of parts t.op).from) c 0
unfolding drawn_of
drawn-there parts state t runs c =
    let there = runs.there in
    let some = runs.some in
    draw_of-within (held_of state (op_of parts t.op).from) t.volume c (omega arith) there

-- at each place: the number after it, with what went out, is the number before it, with what came in
pub flow-step : (number : List ℕ → ℕ) → IsAdditive number → (parts : Parts) (n : ℕ) (state : List (List ℕ)) (t : Timed) (p : ℕ) →
    HoldsWithin parts n state → RunsSoundly parts state t →
    number (held_of (after_step parts state t) p) + (if (op_of parts t.op).from == p then number (drawn_of parts state t) else 0)
    ≡ number (held_of state p) + (if (op_of parts t.op).to == p then number (drawn_of parts state t) else 0)
unfolding after_step
flow-step number additive parts n state t p holds runs =
    let op = op_of parts t.op in
    let drawn = drawn_of parts state t in
    let sound = runs.sound in
    let apart = places_apart parts op sound in
    elim (cases_eq op.from p) [
      | inl source ↦
          let within : op.from < length state = (let count = holds.count in let place = sound.from_place in omega arith) in
          let is = ap number (moved-source state op.from op.to drawn within apart) in
          let taken = additive.taken (held_of state op.from) drawn (drawn-crudes parts state t) (drawn-there parts state t runs) in
          let other : op.to ≡ p → ⊥ = λ same. apart (source ∙ sym same) in
          rw (eq-eqb op.from p source, ne_eqb op.to p other, ← source) (omega arith)
      | inr not_source ↦ elim (cases_eq op.to p) [
        | inl target ↦
            let within : op.to < length state = (let count = holds.count in let place = sound.to_place in omega arith) in
            let is = ap number (moved-target state op.from op.to drawn within apart) in
            let crudes : length drawn ≡ length (held_of state op.to) =
            drawn-crudes parts state t ∙ holds.crudes op.from sound.from_place ∙ sym (holds.crudes op.to sound.to_place) in
            let added = additive.added (held_of state op.to) drawn crudes in
            rw (ne_eqb op.from p not_source, eq-eqb op.to p target, ← target) (omega arith)
        | inr not_target ↦
            let is = ap number (moved-other state op.from op.to p drawn (λ same. not_source (sym same)) (λ same. not_target (sym same))) in
            rw (ne_eqb op.from p not_source, ne_eqb op.to p not_target) (omega arith)
      ]
    ]

-- of operation k of a run
pub flow-at : (number : List ℕ → ℕ) → IsAdditive number → (parts : Parts) (word : List Timed) (p k : ℕ) → SoundPlant parts → IsRun parts word →
    k < length word → number (held_after parts word p (suc k))
    + (if (op_of parts (step_at word k).op).from == p then number (drawn_of parts (state_after parts (take k word)) (step_at word k)) else 0)
    ≡ number (held_after parts word p k)
    + (if (op_of parts (step_at word k).op).to == p then number (drawn_of parts (state_after parts (take k word)) (step_at word k)) else 0)
flow-at number additive parts word p k sound run there =
    let state = state_after parts (take k word) in
    let t = step_at word k in
    let step = flow-step number additive parts k state t p (holds_within-run parts word sound run k (omega arith)) (soundly parts word k sound run there) in
    let next = ap (λ (s : List (List ℕ)). number (held_of s p)) (state-next parts word k there) in
    omega arith

-- past the end nothing more happens
pub held-past : (number : List ℕ → ℕ) (parts : Parts) (word : List Timed) (p k : ℕ) → length word ≤ k →
    number (held_after parts word p (suc k)) ≡ number (held_after parts word p k)
held-past number parts word p k past =
    ap (λ (w : List Timed). number (held_of (state_after parts w) p)) (take_all (suc k) word (omega arith) ∙ sym (take_all k word past))

-- ---- the whole run

balances : (number : List ℕ → ℕ) → IsAdditive number → (parts : Parts) (word : List Timed) (p k : ℕ) → SoundPlant parts → IsRun parts word →
    number (held_after parts word p k) + out_of number parts word p k ≡ number (held_of (initial_state parts) p) + into number parts word p k
unfolding state_after
balances number additive parts word p zero sound run = start
  where
    start : number (held_after parts word p 0) + 0 ≡ number (held_of (initial_state parts) p) + 0
    start = refl
balances number additive parts word p (suc k) sound run =
    let earlier = balances number additive parts word p k sound run in
    elim (cases_lt k (length word)) [
      | inl there ↦
          let step = flow-at number additive parts word p k sound run there in
          rw (lt-ltb k (length word) there) (omega arith)
      | inr past ↦
          let same = held-past number parts word p k past in
          rw (le-ltb k (length word) past) (omega arith)
    ]

pub runs_balance : (parts : Parts) → SoundPlant parts → RunsBalance parts
runs_balance parts sound number word additive run p k within = balances number additive parts word p k sound run

pub begins_as_given : (parts : Parts) → SoundPlant parts → BeginsAsGiven parts
begins_as_given parts sound p within holds = held-first parts p sound within holds
