-- Words whose operations run one after the other, and what places hold meanwhile.
use Rattle.std.proofs.Common.{◌≡◌, ℕ, zero, suc, ◌+◌, ◌<◌, ◌≤◌, true, List, [], ◌∷◌, ◌++◌, length, take, drop, refl, sym, ap, subst, ◌∙◌, arith}
use Rattle.std.proofs.lemmas.List.{take-append-drop, drop_more, take_more, take_all}
use Rattle.item_lists.proofs.FaultLaws.{holds_of_nil}
use Rattle.plant_model.specs.declared.parts.Parts.{Parts}
use Rattle.plant_model.specs.Sound.{SoundPlant}
use Rattle.replay_core.specs.declared.timed.Timed.{Timed}
use Rattle.replay_core.specs.declared.order.Order.{Order}
use Rattle.replay_core.specs.State.{state_after, after_step}
use Rattle.replay_core.specs.Rules.{keeps_order}
use Rattle.replay_core.specs.Legal.{broken, order_faults, op_faults, CanRun}
use Rattle.replay_core.specs.inside.Levels.{HoldsWithin}
use Rattle.replay_core.specs.Steps.{no_step, step_at}
use Rattle.replay_core.proofs.RuleLaws.{KeepsOwnRules, KeepsPlaceRules, KeepsRules, own_rules_kept, place_rules_kept, rules_kept, RunsSoundly, in_range, sound_by_rules}
use Rattle.replay_core.proofs.StateLaws.{holds_within-first, holds_within-after, state_after_push}
use Rattle.replay_core.proofs.StepLaws.{op_faults-accepted, CanRun_push, CanRun-nil}
use Rattle.word_flows.specs.Runs.{Runs, IsRun, KeepsOrder, CanRunAsRuns}
use Rattle.word_flows.specs.Steps.{RunsAreInRange}

-- ---- where no rule is broken

-- operation k keeps its rules where all can run
kept-at : (parts : Parts) (order : Order) (word : List Timed) (k : ℕ) → CanRun parts order word → k < length word →
    KeepsRules parts order (take k word) (step_at word k) (length (take k word) + 1)
kept-at parts order word k can_run within =
    let before = take k word in
    let t = step_at word k in
    let split : word ≡ before ++ t ∷ drop (k + 1) word =
    sym (take-append-drop k word) ∙ ap (λ (rest : List Timed). before ++ rest) (drop_more word k no_step within) in
    let none = op_faults-accepted parts order before t (drop (k + 1) word) (subst (λ (w : List Timed). CanRun parts order w) split can_run) in
    rules_kept parts order before t (length before + 1) none

pub can_run_is_run : (parts : Parts) (order : Order) (word : List Timed) → CanRun parts order word → IsRun parts word
can_run_is_run parts order word can_run k within =
    let kept = kept-at parts order word k can_run within in
    record { own = kept.own; places = kept.places }

can_run_in_order : (parts : Parts) (order : Order) (word : List Timed) → CanRun parts order word → KeepsOrder parts order word
unfolding order_faults
can_run_in_order parts order word can_run k within =
    let before = take k word in
    let kept = kept-at parts order word k can_run within in
    holds_of_nil (keeps_order parts order before (step_at word k)) (broken 6 (length before + 1)) kept.in_order

-- and the other way round
no_faults : (parts : Parts) (order : Order) (before : List Timed) (t : Timed) → Runs parts before t → keeps_order parts order before t ≡ true →
    op_faults parts order before t (length before + 1) ≡ []
unfolding op_faults order_faults
no_faults parts order before t runs in_order = rw (runs.own, in_order, runs.places) refl

first-can_run : (parts : Parts) (order : Order) (word : List Timed) → IsRun parts word → KeepsOrder parts order word → (k : ℕ) → k ≤ length word →
    CanRun parts order (take k word)
first-can_run parts order word run in_order zero within = CanRun-nil parts order
first-can_run parts order word run in_order (suc k) within =
    let t = step_at word k in
    let one : suc k ≡ k + 1 = omega arith in
    let front = first-can_run parts order word run in_order k (omega arith) in
    let none = no_faults parts order (take k word) t (run k (omega arith)) (in_order k (omega arith)) in
    subst (λ (steps : List Timed). CanRun parts order steps) (sym (ap (λ (n : ℕ). take n word) one ∙ take_more word k no_step (omega arith)))
    (CanRun_push parts order (take k word) t front none)

run_can_run : (parts : Parts) (order : Order) (word : List Timed) → IsRun parts word → KeepsOrder parts order word → CanRun parts order word
run_can_run parts order word run in_order =
    subst (λ (steps : List Timed). CanRun parts order steps) (take_all (length word) word (omega arith))
    (first-can_run parts order word run in_order (length word) (omega arith))

pub can_run_as_runs : (parts : Parts) → CanRunAsRuns parts
can_run_as_runs parts order word = (
  λ can_run. (can_run_is_run parts order word can_run, can_run_in_order parts order word can_run),
  λ run. run_can_run parts order word run.0 run.1,
)

-- ---- the rules of an operation of a run

pub own_kept : (parts : Parts) (word : List Timed) (k : ℕ) → IsRun parts word → k < length word → KeepsOwnRules parts (step_at word k)
own_kept parts word k run within = own_rules_kept parts (step_at word k) (length (take k word) + 1) (run k within).own

pub places_kept : (parts : Parts) (word : List Timed) (k : ℕ) → IsRun parts word → k < length word → KeepsPlaceRules parts (take k word) (step_at word k)
places_kept parts word k run within = place_rules_kept parts (take k word) (step_at word k) (length (take k word) + 1) (run k within).places

pub runs_are_in_range : (parts : Parts) → RunsAreInRange parts
runs_are_in_range parts word k run within = in_range parts (step_at word k) (length (take k word) + 1) (run k within).own

-- ---- the state along a run

pub soundly : (parts : Parts) (word : List Timed) (k : ℕ) → SoundPlant parts → IsRun parts word → k < length word →
    RunsSoundly parts (state_after parts (take k word)) (step_at word k)
soundly parts word k sound run within =
    let runs = run k within in
    sound_by_rules parts (take k word) (step_at word k) (length (take k word) + 1) sound runs.own runs.places

-- once operation k has run too
pub state-next : (parts : Parts) (word : List Timed) (k : ℕ) → k < length word →
    state_after parts (take (suc k) word) ≡ after_step parts (state_after parts (take k word)) (step_at word k)
state-next parts word k within =
    let one : suc k ≡ k + 1 = omega arith in
    ap (λ (n : ℕ). state_after parts (take n word)) one ∙ ap (state_after parts) (take_more word k no_step within)
    ∙ state_after_push parts (take k word) (step_at word k)

nothing_run : (parts : Parts) → SoundPlant parts → HoldsWithin parts 0 (state_after parts [])
unfolding state_after
nothing_run parts sound = holds_within-first parts sound

pub holds_within-run : (parts : Parts) (word : List Timed) → SoundPlant parts → IsRun parts word → (k : ℕ) → k ≤ length word →
    HoldsWithin parts k (state_after parts (take k word))
holds_within-run parts word sound run zero within = nothing_run parts sound
holds_within-run parts word sound run (suc k) within =
    let before = holds_within-run parts word sound run k (omega arith) in
    let after = holds_within-after parts k (state_after parts (take k word)) (step_at word k) sound before (soundly parts word k sound run (omega arith)) in
    let one : k + 1 ≡ suc k = omega arith in
    subst (λ (state : List (List ℕ)). HoldsWithin parts (suc k) state) (sym (state-next parts word k (omega arith)))
    (subst (λ (n : ℕ). HoldsWithin parts n (after_step parts (state_after parts (take k word)) (step_at word k))) one after)
