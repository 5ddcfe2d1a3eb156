-- A word that breaks no rule by slots is a plan once it is sorted by starts.
use Rattle.std.proofs.Common.{◌≡◌, ℕ, suc, ◌+◌, ◌<◌, ◌≤◌, Bool, true, false, not, ◌&&◌, ◌||◌, leb, cond, List, [], ◌∷◌, ◌++◌, length, All, refl, sym, ap, subst, inl, inr, ◌∙◌, arith}
use Rattle.std.specs.Prelude.{nat_le, if◌then◌else◌}
use Rattle.std.specs.List.{list_all, filter}
use Rattle.std.specs.List.Sorted.{IsNonDecreasingBy}
use Rattle.std.proofs.lemmas.Bool.{cases_Bool, cases_lt, and_parts, leb-true, eq-eqb, ne_eqb}
use Rattle.std.proofs.lemmas.Bool.Decides.{nat_tests}
use Rattle.std.proofs.lemmas.List.Folds.{list_all-append}
use Rattle.std.proofs.lemmas.List.Elements.{All-head, All-tail, All-nil, All-cons}
use Rattle.std.proofs.lemmas.List.Sorted.{All-permutation}
use Rattle.item_lists.proofs.FaultLaws.{nil_of_append}
use Rattle.plant_model.specs.declared.parts.Parts.{Parts}
use Rattle.plant_model.specs.Relations.{ordered_of, independent_of}
use Rattle.plant_model.specs.Sound.{SoundPlant}
use Rattle.replay_core.specs.declared.timed.Timed.{Timed}
use Rattle.replay_core.specs.declared.order.Order.TheVariants.{ByStart, BySlot}
use Rattle.replay_core.specs.Rules.{last_start, starts_after_ordered}
use Rattle.replay_core.specs.Legal.{op_faults, step_faults_from, step_faults, IsLegalIn, IsLegal, CanRun}
use Rattle.replay_core.specs.Margin.{margin_of}
use Rattle.replay_core.proofs.StepLaws.{CanRun-legal, first_broken-accepted}
use Rattle.replay_core.proofs.RuleLaws.{rules_kept}
use Rattle.replay_core.proofs.OrderLaws.{last_start_push}
use Rattle.slot_words.specs.Swaps.{AreEquivalent}
use Rattle.slot_words.specs.Swaps.AreEquivalent.{itself}
use Rattle.slot_words.specs.ByStart.{starts_at, IsByStart}
use Rattle.slot_words.proofs.PairLaws.{may_run}
use Rattle.slot_words.proofs.ChainLaws.{one_swap, joined, behind, equivalent_mean_the_same, same_entries}
use Rattle.slot_words.proofs.StartLaws.{start-faults, start-order}

-- ---- of two that are ordered the first starts no later

MayPass : Parts → Timed → Timed → Type 0
MayPass parts s t = ordered_of parts s.op t.op ≡ true → s.start ≤ t.start

-- each operation and all behind it
data KeepsSlots (parts : Parts) : List Timed → Type 0 where
  none : KeepsSlots parts []
  more : (s : Timed) (later : List Timed) → All (MayPass parts s) later → KeepsSlots parts later → KeepsSlots parts (s ∷ later)

-- what has run before, by the tests that all of it passes
HasRun : Timed → List Timed → Type 0
HasRun s before = (test : Timed → Bool) → list_all test before ≡ true → test s ≡ true

has-run_push : (s r : Timed) (before : List Timed) → HasRun s before → HasRun s (before ++ r ∷ [])
unfolding HasRun
has-run_push s r before has test all = has test (and_parts (list_all test before) (test r && true) (sym (list_all-append test before (r ∷ [])) ∙ all)).0

has-run_last : (s : Timed) (before : List Timed) → HasRun s (before ++ s ∷ [])
unfolding HasRun
has-run_last s before test all =
    (and_parts (test s) true (and_parts (list_all test before) (test s && true) (sym (list_all-append test before (s ∷ [])) ∙ all)).1).0

passes-test : (ordered earlier : Bool) → (not ordered || earlier) ≡ true → ordered ≡ true → earlier ≡ true
passes-test true earlier test is = test
passes-test false earlier test is = cc

one-passes : (parts : Parts) (before : List Timed) (s t : Timed) → HasRun s before → starts_after_ordered parts before t ≡ true → MayPass parts s t
unfolding HasRun MayPass starts_after_ordered
one-passes parts before s t has after ordered =
    leb-true s.start t.start
    (passes-test (ordered_of parts s.op t.op) (leb s.start t.start) (has (λ (r : Timed). not (ordered_of parts r.op t.op) || nat_le r.start t.start) after)
    ordered)

all-pass : (parts : Parts) (before later : List Timed) (s : Timed) → HasRun s before → step_faults_from parts BySlot before later ≡ [] →
    All (MayPass parts s) later
all-pass parts before [] s has faultless = All-nil (MayPass parts s)
all-pass parts before (t ∷ later) s has faultless =
    let parted = nil_of_append (op_faults parts BySlot before t (length before + 1)) (step_faults_from parts BySlot (before ++ t ∷ []) later) faultless in
    let here = one-passes parts before s t has (may_run parts before t (length before + 1) parted.0).in_order in
    All-cons (MayPass parts s) t later here (all-pass parts (before ++ t ∷ []) later s (has-run_push s t before has) parted.1)

keeps-from : (parts : Parts) (before word : List Timed) → step_faults_from parts BySlot before word ≡ [] → KeepsSlots parts word
keeps-from parts before [] faultless = none
keeps-from parts before (s ∷ later) faultless =
    let parted = nil_of_append (op_faults parts BySlot before s (length before + 1)) (step_faults_from parts BySlot (before ++ s ∷ []) later) faultless in
    more s later (all-pass parts (before ++ s ∷ []) later s (has-run_last s before) parted.1) (keeps-from parts (before ++ s ∷ []) later parted.1)

keeps_slots : (parts : Parts) (word : List Timed) → CanRun parts BySlot word → KeepsSlots parts word
unfolding step_faults
keeps_slots parts word runs = keeps-from parts [] word runs

-- ---- sorting by swaps

-- before those that start no earlier
abbrev placed : Timed → List Timed → List Timed
placed t [] = t ∷ []
placed t (s ∷ later) = if nat_le t.start s.start then t ∷ s ∷ later else s ∷ placed t later

abbrev sorted_of : List Timed → List Timed
sorted_of [] = []
sorted_of (t ∷ later) = placed t (sorted_of later)

not_ordered : (parts : Parts) (s t : Timed) → MayPass parts s t → t.start < s.start → independent_of parts s.op t.op ≡ true
unfolding MayPass independent_of
not_ordered parts s t may earlier =
    elim (cases_Bool (ordered_of parts s.op t.op)) [
      | inl ordered ↦ (let early = may ordered in absurd (omega arith))
      | inr not ↦ rw not refl
    ]

placed-chain : (parts : Parts) (t : Timed) (later : List Timed) → All (MayPass parts t) later → AreEquivalent parts (t ∷ later) (placed t later)
placed-chain parts t [] may = itself (t ∷ [])
placed-chain parts t (s ∷ later) may =
    elim (cases_Bool (leb t.start s.start)) [
      | inl first ↦ rw first (itself (t ∷ s ∷ later))
      | inr second ↦
          let first_passes = All-head (MayPass parts t) s later may in
          let swap = one_swap parts [] later t s (not_ordered parts t s first_passes (grind (arith, nat_tests))) in
          let rest = behind parts (s ∷ []) (t ∷ later) (placed t later) (placed-chain parts t later (All-tail (MayPass parts t) s later may)) in
          rw second (joined parts (t ∷ s ∷ later) (s ∷ t ∷ later) (s ∷ placed t later) swap rest)
    ]

sorted-chain : (parts : Parts) (word : List Timed) → KeepsSlots parts word → AreEquivalent parts word (sorted_of word)
sorted-chain parts word none = itself []
sorted-chain parts word (more t later may keeps) =
    let rest = sorted-chain parts later keeps in
    let passes = All-permutation (MayPass parts t) later (sorted_of later) (same_entries parts later (sorted_of later) rest) may in
    joined parts (t ∷ later) (t ∷ sorted_of later) (placed t (sorted_of later)) (behind parts (t ∷ []) later (sorted_of later) rest)
    (placed-chain parts t (sorted_of later) passes)

-- ---- it is sorted

-- none starts before the minute, nor before the one ahead of it
pub data RisesFrom : ℕ → List Timed → Type 0 where
  end : (minute : ℕ) → RisesFrom minute []
  rises : (minute : ℕ) (t : Timed) (later : List Timed) → minute ≤ t.start → RisesFrom t.start later → RisesFrom minute (t ∷ later)

placed-rises : (minute : ℕ) (t : Timed) (later : List Timed) → minute ≤ t.start → RisesFrom minute later → RisesFrom minute (placed t later)
placed-rises minute t later early (end first) = rises first t [] early (end t.start)
placed-rises minute t later early (rises first s rest begins upward) =
    elim (cases_Bool (leb t.start s.start)) [
      | inl before ↦ rw before (rises first t (s ∷ rest) early (rises t.start s rest (leb-true t.start s.start before) upward))
      | inr second ↦ rw second (rises first s (placed t rest) begins (placed-rises s.start t rest (grind (arith, nat_tests)) upward))
    ]

sorted-rises : (word : List Timed) → RisesFrom 0 (sorted_of word)
sorted-rises [] = end 0
sorted-rises (t ∷ later) = placed-rises 0 t (sorted_of later) (omega arith) (sorted-rises later)

filter-passed : (p : Timed → Bool) (s t : Timed) (before later : List Timed) → filter p before ≡ filter p (t ∷ later) → (p t ≡ true → p s ≡ false) →
    filter p (s ∷ before) ≡ filter p (t ∷ s ∷ later)
filter-passed p s t before later same apart =
    elim (cases_Bool (p t)) [
      | inl passes ↦ (let other = apart passes in let kept = rw passes at same in rw (other, passes) kept)
      | inr fails ↦ (let kept = rw fails at same in rw fails (ap (λ (xs : List Timed). cond (p s) (s ∷ xs) xs) kept))
    ]

starts_apart : (minute : ℕ) (s t : Timed) → leb t.start s.start ≡ false → starts_at minute t ≡ true → starts_at minute s ≡ false
starts_apart minute s t later is = grind (arith, nat_tests)

placed-stable : (minute : ℕ) (t : Timed) (later : List Timed) → filter (starts_at minute) (placed t later) ≡ filter (starts_at minute) (t ∷ later)
placed-stable minute t [] = refl
placed-stable minute t (s ∷ later) =
    elim (cases_Bool (leb t.start s.start)) [
      | inl first ↦ rw first refl
      | inr second ↦ rw second (filter-passed (starts_at minute) s t (placed t later) later (placed-stable minute t later) (starts_apart minute s t second))
    ]

sorted-stable : (minute : ℕ) (word : List Timed) → filter (starts_at minute) (sorted_of word) ≡ filter (starts_at minute) word
sorted-stable minute [] = refl
sorted-stable minute (t ∷ later) =
    placed-stable minute t (sorted_of later)
    ∙ ap (λ (xs : List Timed). cond (starts_at minute t) (t ∷ xs) xs) (sorted-stable minute later)

-- ---- and there is one way to sort it

rises_from : (minute : ℕ) (word : List Timed) → ((t : Timed) (later : List Timed) → word ≡ t ∷ later → minute ≤ t.start) →
    IsNonDecreasingBy (λ (t : Timed). t.start) word →
    RisesFrom minute word
rises_from minute [] early rising = end minute
rises_from minute (t ∷ later) early rising =
    rises minute t later (early t later refl)
    (rises_from t.start later (λ s rest is. first-two later t s rest is rising) (λ i j d order within. rising (suc i) (suc j) d (omega arith) (omega arith)))
  where
    first-two : (later : List Timed) (t s : Timed) (rest : List Timed) → later ≡ s ∷ rest → IsNonDecreasingBy (λ (r : Timed). r.start) (t ∷ later) →
        t.start ≤ s.start
    first-two later t s rest is rising =
        let here = rw is at rising in
        here 0 1 t (omega arith) (omega arith)

starts_late : (minute : ℕ) (word : List Timed) → RisesFrom minute word → (least : ℕ) → least < minute → filter (starts_at least) word ≡ []
starts_late minute word (end first) least early = refl
starts_late minute word (rises first t later begins upward) least early =
    let no : starts_at least t ≡ false = ne_eqb t.start least (λ same. absurd (omega arith)) in
    rw no (starts_late t.start later upward least (omega arith))

starts_here : (t : Timed) → starts_at t.start t ≡ true
starts_here t = eq-eqb t.start t.start refl

filter-first : (t : Timed) (later : List Timed) → filter (starts_at t.start) (t ∷ later) ≡ t ∷ filter (starts_at t.start) later
filter-first t later = rw (starts_here t) refl

-- the first of one word starts no later than the first of the other
no_later : (s t : Timed) (rest later : List Timed) → RisesFrom s.start rest →
    filter (starts_at t.start) (s ∷ rest) ≡ filter (starts_at t.start) (t ∷ later) → s.start ≤ t.start
no_later s t rest later upward same =
    elim (cases_lt t.start s.start) [
      | inr order ↦ order
      | inl early ↦
          let none = starts_late s.start (s ∷ rest) (rises s.start s rest (omega arith) upward) t.start early in
          let some : t ∷ filter (starts_at t.start) later ≡ [] = sym (filter-first t later) ∙ sym same ∙ none in
          cc
    ]

strip : (p : Timed → Bool) (t : Timed) (rest later : List Timed) → filter p (t ∷ rest) ≡ filter p (t ∷ later) → filter p rest ≡ filter p later
strip p t rest later same =
    elim (cases_Bool (p t)) [
      | inl passes ↦ (let both = rw passes at same in ap tail both)
      | inr fails ↦ rw fails at same
    ]
  where
    tail : List Timed → List Timed
    tail [] = []
    tail (x ∷ xs) = xs

one_way : (word other : List Timed) (first second : ℕ) → RisesFrom first word → RisesFrom second other →
    ((minute : ℕ) → filter (starts_at minute) word ≡ filter (starts_at minute) other) → word ≡ other
one_way [] [] first second up_word up_other same = refl
one_way [] (t ∷ later) first second up_word up_other same = (let none = same t.start ∙ filter-first t later in cc)
one_way (s ∷ rest) [] first second up_word up_other same = (let none = sym (filter-first s rest) ∙ same s.start in cc)
one_way (s ∷ rest) (t ∷ later) first second (rises a x xs begins_word up_word) (rises b y ys begins_other up_other) same =
    let earlier = no_later s t rest later up_word (same t.start) in
    let later_too = no_later t s later rest up_other (sym (same s.start)) in
    let start : s.start ≡ t.start = omega arith in
    let heads : s ∷ filter (starts_at s.start) rest ≡ t ∷ filter (starts_at s.start) later =
    sym (filter-first s rest) ∙ same s.start
    ∙ subst (λ (minute : ℕ). filter (starts_at minute) (t ∷ later) ≡ t ∷ filter (starts_at minute) later) (sym start) (filter-first t later) in
    let first_same : s ≡ t = heads_same heads in
    let rest_same = one_way rest later s.start t.start up_word up_other
    (λ minute. strip (starts_at minute) t rest later (subst (λ (r : Timed). filter (starts_at minute) (r ∷ rest)
    ≡ filter (starts_at minute) (t ∷ later)) first_same (same minute))) in
    ap (λ (r : Timed). r ∷ rest) first_same ∙ ap (λ (xs : List Timed). t ∷ xs) rest_same
  where
    head : Timed → List Timed → Timed
    head d [] = d
    head d (x ∷ xs) = x

    heads_same : {s t : Timed} {xs ys : List Timed} → s ∷ xs ≡ t ∷ ys → s ≡ t
    heads_same {s} {t} same = ap (head s) same

pub is_sorted : (word sorted : List Timed) → IsByStart word sorted → sorted ≡ sorted_of word
is_sorted word sorted is =
    one_way sorted (sorted_of word) 0 0
    (rises_from 0 sorted (λ t later first. omega arith) is.rising)
    (sorted-rises word)
    (λ minute. is.stable minute ∙ sym (sorted-stable minute word))

-- ---- so it is a plan

start-from : (parts : Parts) (before later : List Timed) (minute : ℕ) → last_start before ≤ minute → RisesFrom minute later →
    step_faults_from parts BySlot before later ≡ [] → step_faults_from parts ByStart before later ≡ []
start-from parts before later minute order (end first) faultless = refl
start-from parts before later minute order (rises first t rest begins upward) faultless =
    let at = length before + 1 in
    let parted = nil_of_append (op_faults parts BySlot before t at) (step_faults_from parts BySlot (before ++ t ∷ []) rest) faultless in
    let here = start-faults parts before t at parted.0 (omega arith) in
    let last = last_start_push before t in
    rw here (start-from parts (before ++ t ∷ []) rest t.start (omega arith) upward parted.1)

runs_by_start : (parts : Parts) (word : List Timed) → RisesFrom 0 word → CanRun parts BySlot word → CanRun parts ByStart word
unfolding step_faults last_start
runs_by_start parts word upward runs = start-from parts [] word 0 (omega arith) upward runs

pub sorted_word_is_plan : (parts : Parts) (word sorted : List Timed) → SoundPlant parts → IsByStart word sorted → IsLegalIn parts BySlot word →
    IsLegal parts sorted × (margin_of parts sorted ≡ margin_of parts word)
sorted_word_is_plan parts word sorted sound is legal =
    let runs = CanRun-legal parts BySlot word legal in
    let means = equivalent_mean_the_same parts word (sorted_of word) sound (sorted-chain parts word (keeps_slots parts word runs)) in
    let by_start = runs_by_start parts (sorted_of word) (sorted-rises word) (means.can_run runs) in
    let plan : IsLegal parts (sorted_of word) =
    first_broken-accepted parts ByStart (sorted_of word) by_start
    ∙ sym (first_broken-accepted parts BySlot (sorted_of word) (means.can_run runs)) ∙ means.legal legal in
    subst (λ (plan : List Timed). IsLegal parts plan × (margin_of parts plan ≡ margin_of parts word)) (sym (is_sorted word sorted is)) (plan, means.margin runs)

-- ---- the starts of a plan rise

plan-from : (parts : Parts) (before later : List Timed) → step_faults_from parts ByStart before later ≡ [] → RisesFrom (last_start before) later
plan-from parts before [] faultless = end (last_start before)
plan-from parts before (t ∷ later) faultless =
    let parted = nil_of_append (op_faults parts ByStart before t (length before + 1)) (step_faults_from parts ByStart (before ++ t ∷ []) later) faultless in
    let order = start-order parts before t (length before + 1) (rules_kept parts ByStart before t (length before + 1) parted.0).in_order in
    let rest = plan-from parts (before ++ t ∷ []) later parted.1 in
    rises (last_start before) t later order (subst (λ (minute : ℕ). RisesFrom minute later) (last_start_push before t) rest)

pub rising_plan : (parts : Parts) (plan : List Timed) → CanRun parts ByStart plan → RisesFrom (last_start []) plan
unfolding step_faults
rising_plan parts plan runs = plan-from parts [] plan runs
