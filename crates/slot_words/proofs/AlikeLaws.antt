-- What comes after two words that differ in the order of independent neighbours alone finds the same after either.
use Rattle.std.proofs.Common.{◌≡◌, ℕ, ◌+◌, ℤ, Bool, true, false, not, ◌&&◌, ◌||◌, List, [], ◌∷◌, ◌++◌, length, fold, refl, sym, ap, ◌∙◌, append_assoc}
use Rattle.std.specs.Prelude.{nat_le, ◌+ℤ◌}
use Rattle.std.specs.List.{list_all}
use Rattle.std.proofs.lemmas.List.{length-append}
use Rattle.std.proofs.lemmas.List.Folds.{list_all-append}
use Rattle.std.proofs.lemmas.List.Sums.{fold-append}
use Rattle.plant_model.specs.declared.parts.Parts.{Parts}
use Rattle.plant_model.specs.Relations.{refused_at_once_of, ordered_of}
use Rattle.replay_core.specs.declared.timed.Timed.{Timed}
use Rattle.replay_core.specs.declared.order.Order.TheVariants.{BySlot}
use Rattle.replay_core.specs.State.{initial_state, after_step, state_after}
use Rattle.replay_core.specs.Rules.{starts_after_ordered, waits_for_others, unloads_later_vessel, keeps_vessel_order}
use Rattle.replay_core.specs.Legal.{order_faults, place_faults, op_faults, step_faults_from}
use Rattle.replay_core.specs.Margin.{earned_at, earned_from}
use Rattle.replay_core.proofs.StateLaws.{state_after_push}

-- the same pass each test, as many, and the places hold the same
pub record AreAlike (parts : Parts) (before other : List Timed) : Type 0 where
  pub tests : (test : Timed → Bool) → list_all test before ≡ list_all test other
  pub count : length before ≡ length other
  pub state : state_after parts before ≡ state_after parts other

-- ---- one more operation behind both

pub alike_push : (parts : Parts) (before other : List Timed) (r : Timed) → AreAlike parts before other → AreAlike parts (before ++ r ∷ []) (other ++ r ∷ [])
alike_push parts before other r alike = record {
  tests = λ test. list_all-append test before (r ∷ []) ∙ ap (λ (b : Bool). b && (test r && true)) (alike.tests test)
      ∙ sym (list_all-append test other (r ∷ []));
  count = length-append before (r ∷ []) ∙ ap (λ (n : ℕ). n + 1) alike.count ∙ sym (length-append other (r ∷ []));
  state = state_after_push parts before r ∙ ap (λ state. after_step parts state r) alike.state ∙ sym (state_after_push parts other r);
}

order-alike : (parts : Parts) (before other : List Timed) (r : Timed) → AreAlike parts before other →
    starts_after_ordered parts before r ≡ starts_after_ordered parts other r
unfolding starts_after_ordered
order-alike parts before other r alike = alike.tests (λ (s : Timed). not (ordered_of parts s.op r.op) || nat_le s.start r.start)

waits-alike : (parts : Parts) (before other : List Timed) (r : Timed) → AreAlike parts before other →
    waits_for_others parts before r ≡ waits_for_others parts other r
unfolding waits_for_others
waits-alike parts before other r alike = alike.tests (λ (s : Timed). not (refused_at_once_of parts s.op r.op) || nat_le s.end r.start)

vessels-alike : (parts : Parts) (before other : List Timed) (r : Timed) → AreAlike parts before other →
    keeps_vessel_order parts before r ≡ keeps_vessel_order parts other r
unfolding keeps_vessel_order
vessels-alike parts before other r alike = alike.tests (λ (s : Timed). not (unloads_later_vessel parts s.op r.op))

-- it breaks the same rules
faults-alike : (parts : Parts) (before other : List Timed) (r : Timed) (at : ℕ) → AreAlike parts before other →
    op_faults parts BySlot before r at ≡ op_faults parts BySlot other r at
unfolding op_faults order_faults place_faults
faults-alike parts before other r at alike =
    rw (order-alike parts before other r alike, waits-alike parts before other r alike, vessels-alike parts before other r alike, alike.state) refl

-- ---- all that comes behind both

pub steps-alike : (parts : Parts) (before other later : List Timed) → AreAlike parts before other →
    step_faults_from parts BySlot before later ≡ step_faults_from parts BySlot other later
steps-alike parts before other [] alike = refl
steps-alike parts before other (r ∷ later) alike =
    let here = faults-alike parts before other r (length before + 1) alike in
    let at = ap (λ (n : ℕ). op_faults parts BySlot other r (n + 1)) alike.count in
    let rest = steps-alike parts (before ++ r ∷ []) (other ++ r ∷ []) later (alike_push parts before other r alike) in
    ap (λ faults. faults ++ step_faults_from parts BySlot (before ++ r ∷ []) later) (here ∙ at)
    ∙ ap (λ faults. op_faults parts BySlot other r (length other + 1) ++ faults) rest

earning-alike : (parts : Parts) (before other : List Timed) (r : Timed) → AreAlike parts before other → earned_at parts before r ≡ earned_at parts other r
unfolding earned_at
earning-alike parts before other r alike = rw alike.state refl

pub earned-alike : (parts : Parts) (before other later : List Timed) → AreAlike parts before other →
    earned_from parts before later ≡ earned_from parts other later
earned-alike parts before other [] alike = refl
earned-alike parts before other (r ∷ later) alike =
    ap (λ (n : ℤ). n +ℤ earned_from parts (before ++ r ∷ []) later) (earning-alike parts before other r alike)
    ∙ ap (λ (n : ℤ). earned_at parts other r +ℤ n) (earned-alike parts (before ++ r ∷ []) (other ++ r ∷ []) later (alike_push parts before other r alike))

state_after-append : (parts : Parts) (front back : List Timed) → state_after parts (front ++ back) ≡ fold (after_step parts) (state_after parts front) back
unfolding state_after
state_after-append parts front back = fold-append (after_step parts) (initial_state parts) front back

pub state-alike : (parts : Parts) (before other later : List Timed) → AreAlike parts before other →
    state_after parts (before ++ later) ≡ state_after parts (other ++ later)
state-alike parts before other later alike =
    state_after-append parts before later ∙ ap (λ state. fold (after_step parts) state later) alike.state ∙ sym (state_after-append parts other later)

-- ---- two neighbours that have changed places

both_tests : (a b : Bool) → (a && (b && true)) ≡ (b && (a && true))
both_tests true true = refl
both_tests true false = refl
both_tests false true = refl
both_tests false false = refl

two_pushed : (before : List Timed) (s t : Timed) → before ++ s ∷ t ∷ [] ≡ before ++ s ∷ [] ++ t ∷ []
two_pushed before s t = sym (append_assoc before (s ∷ []) (t ∷ []))

pub state_after_two : (parts : Parts) (before : List Timed) (s t : Timed) →
    state_after parts (before ++ s ∷ t ∷ []) ≡ after_step parts (after_step parts (state_after parts before) s) t
state_after_two parts before s t =
    ap (state_after parts) (two_pushed before s t) ∙ state_after_push parts (before ++ s ∷ []) t
    ∙ ap (λ state. after_step parts state t) (state_after_push parts before s)

pub swapped_alike : (parts : Parts) (before : List Timed) (s t : Timed) →
    after_step parts (after_step parts (state_after parts before) s) t ≡ after_step parts (after_step parts (state_after parts before) t) s →
    AreAlike parts (before ++ s ∷ t ∷ []) (before ++ t ∷ s ∷ [])
swapped_alike parts before s t moved = record {
  tests = λ test.
      list_all-append test before (s ∷ t ∷ []) ∙ ap (λ (b : Bool). list_all test before && b) (both_tests (test s) (test t))
      ∙ sym (list_all-append test before (t ∷ s ∷ []));
  count = length-append before (s ∷ t ∷ []) ∙ sym (length-append before (t ∷ s ∷ []));
  state = state_after_two parts before s t ∙ moved ∙ sym (state_after_two parts before t s);
}
