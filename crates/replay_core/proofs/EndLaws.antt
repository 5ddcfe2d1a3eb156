-- Rules that are asked place by place, and operations that are asked one after the other, in loops.
use Rattle.std.proofs.Common.{◌≡◌, ℕ, ◌+◌, ◌<◌, ◌≤◌, Some, None, List, [], ◌∷◌, ◌++◌, length, get_or, drop, take, refl, sym, ap, ◌∙◌, append_assoc, arith, Bool}
use Rattle.std.proofs.lemmas.List.{get_or_default, drop_more, drop_all, take_more}
use Rattle.item_lists.specs.Faults.{first_of, unless, each_from}
use Rattle.item_lists.proofs.FaultLaws.{first_of-front, first_of-back, each_from-next, each_from-stop, each_from-end}
use Rattle.plant_model.specs.declared.parts.Parts.{Parts}
use Rattle.plant_model.specs.declared.details.PlaceInfo.{PlaceInfo}
use Rattle.plant_model.specs.Parts.{no_place, places_of, place_of, place_count_of}
use Rattle.plant_model.proofs.PlaceLists.{length-places_of}
use Rattle.replay_core.specs.declared.timed.Timed.{Timed}
use Rattle.replay_core.specs.declared.order.Order.{Order}
use Rattle.replay_core.specs.declared.broken.Broken.{Broken}
use Rattle.replay_core.specs.Legal.{broken, op_faults, step_faults_from, faults_at_places}
use Rattle.replay_core.specs.declared.end_rules.EndRule.{EndRule}
use Rattle.replay_core.specs.inside.EndRules.{number_of, holds_at}

-- ---- places

-- what stands from place p on
pub rest_faults : (ℕ → PlaceInfo → List Broken) → Parts → ℕ → List Broken
rest_faults faults parts p = each_from faults p (drop p (places_of parts))

place-read : (parts : Parts) (p : ℕ) → p < place_count_of parts → place_of parts p ≡ get_or (places_of parts) p (place_of parts p)
unfolding place_of
place-read parts p within = (let count = length-places_of parts in get_or_default (places_of parts) p no_place (place_of parts p) (omega arith))

pub rest_faults-next : (faults : ℕ → PlaceInfo → List Broken) (parts : Parts) (p : ℕ) → p < place_count_of parts → first_of (faults p (place_of parts p)) ≡ None
    → first_of (rest_faults faults parts p) ≡ first_of (rest_faults faults parts (p + 1))
unfolding rest_faults
rest_faults-next faults parts p within none =
    (let count = length-places_of parts in each_from-next faults p p (places_of parts) (place_of parts p) (omega arith) (place-read parts p within) none)

pub rest_faults-stop : (faults : ℕ → PlaceInfo → List Broken) (parts : Parts) (p : ℕ) (fault : Broken) → p < place_count_of parts →
    first_of (faults p (place_of parts p)) ≡ Some fault → first_of (rest_faults faults parts p) ≡ Some fault
unfolding rest_faults
rest_faults-stop faults parts p fault within found =
    (let count = length-places_of parts in each_from-stop faults p p (places_of parts) (place_of parts p) fault (omega arith) (place-read parts p within) found)

pub rest_faults-end : (faults : ℕ → PlaceInfo → List Broken) (parts : Parts) (p : ℕ) → place_count_of parts ≤ p → first_of (rest_faults faults parts p) ≡ None
unfolding rest_faults
rest_faults-end faults parts p past = (let count = length-places_of parts in each_from-end faults p p (places_of parts) (omega arith))

-- what one rule finds
pub faults_of : Parts → List Timed → EndRule → ℕ → PlaceInfo → List Broken
faults_of parts steps rule p place = unless (holds_at parts steps rule p place) (broken (number_of rule) p)

pub faults_of-all : (parts : Parts) (steps : List Timed) (rule : EndRule) →
    first_of (rest_faults (faults_of parts steps rule) parts 0) ≡ first_of (faults_at_places parts (number_of rule) (holds_at parts steps rule))
unfolding rest_faults faults_of
faults_of-all parts steps rule = refl

pub faults_of-is : (parts : Parts) (steps : List Timed) (rule : EndRule) (p : ℕ) → faults_of parts steps rule p (place_of parts p)
    ≡ unless (holds_at parts steps rule p (place_of parts p)) (broken (number_of rule) p)
unfolding faults_of
faults_of-is parts steps rule p = refl

-- likewise by what was asked of the place, and by the numbers that were told
pub faults_of-seen : (parts : Parts) (steps : List Timed) (rule : EndRule) (p : ℕ) (holds : Bool) (number place : ℕ) →
    holds ≡ holds_at parts steps rule p (place_of parts p) → number ≡ number_of rule → place ≡ p →
    faults_of parts steps rule p (place_of parts p) ≡ unless holds (broken number place)
faults_of-seen parts steps rule p holds number place asked numbered told =
    faults_of-is parts steps rule p ∙ ap (λ (b : Bool). unless b (broken (number_of rule) p)) (sym asked)
    ∙ ap (λ (n : ℕ). unless holds (broken n p)) (sym numbered) ∙ ap (λ (n : ℕ). unless holds (broken number n)) (sym told)

-- ---- operations

-- the operation at i breaks no rule, or one, or i is past the end
pub step_faults-next : (parts : Parts) (order : Order) (before plan : List Timed) (i : ℕ) (t : Timed) → i < length plan → t ≡ get_or plan i t →
    first_of (op_faults parts order before t (length before + 1)) ≡ None →
    first_of (step_faults_from parts order before (drop i plan)) ≡ first_of (step_faults_from parts order (before ++ t ∷ []) (drop (i + 1) plan))
step_faults-next parts order before plan i t within is none =
    ap (λ (rest : List Timed). first_of (step_faults_from parts order before rest)) (drop_more plan i t within
    ∙ ap (λ (s : Timed). s ∷ drop (i + 1) plan) (sym is))
    ∙ first_of-back (op_faults parts order before t (length before + 1)) (step_faults_from parts order (before ++ t ∷ []) (drop (i + 1) plan)) none

pub step_faults-stop : (parts : Parts) (order : Order) (before plan : List Timed) (i : ℕ) (t : Timed) (fault : Broken) → i < length plan → t ≡ get_or plan i t →
    first_of (op_faults parts order before t (length before + 1)) ≡ Some fault →
    first_of (step_faults_from parts order before (drop i plan)) ≡ Some fault
step_faults-stop parts order before plan i t fault within is found =
    ap (λ (rest : List Timed). first_of (step_faults_from parts order before rest)) (drop_more plan i t within
    ∙ ap (λ (s : Timed). s ∷ drop (i + 1) plan) (sym is))
    ∙ first_of-front (op_faults parts order before t (length before + 1)) (step_faults_from parts order (before ++ t ∷ []) (drop (i + 1) plan)) fault found

pub step_faults-end : (parts : Parts) (order : Order) (before plan : List Timed) (i : ℕ) → length plan ≤ i →
    first_of (step_faults_from parts order before (drop i plan)) ≡ None
step_faults-end parts order before plan i past = ap (λ (rest : List Timed). first_of (step_faults_from parts order before rest)) (drop_all i plan past)

-- one more has run
pub taken_more : (before plan : List Timed) (i : ℕ) (t : Timed) → i < length plan → t ≡ get_or plan i t → (before ++ take i plan) ++ t ∷ [] ≡ before
    ++ take (i + 1) plan
taken_more before plan i t within is =
    append_assoc before (take i plan) (t ∷ [])
    ∙ ap (λ (rest : List Timed). before ++ rest) (ap (λ (s : Timed). take i plan ++ s ∷ []) is ∙ sym (take_more plan i t within))
