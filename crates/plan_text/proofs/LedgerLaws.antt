-- What a ledger tells of its plan.
use Rattle.std.proofs.Common.{ℤ, ◌≡◌, ℕ, ◌+◌, ◌*◌, ◌<◌, List, [], ◌∷◌, ◌++◌, length, get_or, take, drop, Some, None, refl, sym, ap, subst, ◌∙◌, append_assoc, arith, length-append, get_or-set_other}
use Rattle.std.specs.Prelude.{All, codes, decimal}
use Rattle.std.specs.Fmt.{signed_decimal}
use Rattle.std.proofs.lemmas.List.{append-nil, drop_more, get_or_default, take-append-drop, get_or-append-add, get_or_append_left}
use Rattle.std.proofs.lemmas.List.Elements.{All-head, All-tail}
use Rattle.std.proofs.lemmas.List.Concat.{flat_map-append}
use Rattle.item_lists.specs.Faults.{first_of, each_from}
use Rattle.line_text.specs.Words.{line_of, text_of}
use Rattle.item_lists.proofs.FaultLaws.{first_of-front, nil_of_none}
use Rattle.plant_model.specs.declared.parts.Parts.{Parts}
use Rattle.plant_model.specs.declared.details.PlaceInfo.{PlaceInfo}
use Rattle.plant_model.specs.Parts.{op_count_of, place_name_of, op_of, places_of, place_of, place_count_of, no_place}
use Rattle.plant_model.proofs.PlaceLists.{length-places_of}
use Rattle.replay_core.specs.declared.timed.Timed.{Timed}
use Rattle.replay_core.specs.declared.order.Order.{Order}
use Rattle.replay_core.specs.declared.broken.Broken.{Broken}
use Rattle.replay_core.specs.State.{held_of, drawn_of, moved, after_step, state_after}
use Rattle.replay_core.specs.Legal.{IsLegalIn, op_faults, step_faults_from, step_faults, end_faults, plan_faults, first_broken_in, CanRun}
use Rattle.replay_core.specs.Margin.{margin_of}
use Rattle.replay_core.specs.Replayed.{Replayed}
use Rattle.replay_core.specs.declared.order.Order.TheVariants.{ByStart}
use Rattle.replay_core.specs.declared.outcome.ReplayFault.{ReplayFault}
use Rattle.replay_core.specs.declared.outcome.ReplayFault.TheVariants.{Rule, Memory}
use Rattle.replay_core.proofs.RuleLaws.{is_in_range}
use Rattle.replay_core.proofs.StateLaws.{state_after_push}
use Rattle.replay_core.proofs.StepLaws.{step_faults_from-append}
use Rattle.plan_text.specs.Ledger.{head_lines, step_lines, step_lines_from, unit_lines, ledger_lines, ledger_line, place_words, TellsMargin, TellsStep, IsElsewhere, TellsEnd, holding_words, HasNoLedger, IsLedger}
use Rattle.plan_text.specs.inside.Running.{ran, BreaksStep}

-- ---- the lines of operations

pub step_lines_from-append : (parts : Parts) (before front back : List Timed) →
    step_lines_from parts before (front ++ back) ≡ step_lines_from parts before front ++ step_lines_from parts (before ++ front) back
step_lines_from-append parts before [] back = ap (λ (xs : List Timed). step_lines_from parts xs back) (sym (append-nil before))
step_lines_from-append parts before (t ∷ front) back =
    let lines = step_lines parts before t in
    ap (λ rest. lines ++ rest) (step_lines_from-append parts (before ++ t ∷ []) front back)
    ∙ ap (λ (xs : List Timed). lines ++ (step_lines_from parts (before ++ t ∷ []) front ++ step_lines_from parts xs back)) (append_assoc before (t ∷ []) front)
    ∙ sym (append_assoc lines (step_lines_from parts (before ++ t ∷ []) front) (step_lines_from parts (before ++ t ∷ front) back))

length-step_lines : (parts : Parts) (before : List Timed) (t : Timed) → length (step_lines parts before t) ≡ 4
unfolding step_lines
length-step_lines parts before t = refl

length-step_lines_from : (parts : Parts) (before plan : List Timed) → length (step_lines_from parts before plan) ≡ 4 * length plan
length-step_lines_from parts before [] = refl
length-step_lines_from parts before (t ∷ later) =
    let joined = length-append (step_lines parts before t) (step_lines_from parts (before ++ t ∷ []) later) in
    let one = length-step_lines parts before t in
    let more = length-step_lines_from parts (before ++ t ∷ []) later in
    omega arith

length-head_lines : (parts : Parts) (plan : List Timed) → length (head_lines (margin_of parts plan) (length plan)) ≡ 3
unfolding head_lines
length-head_lines parts plan = refl

pub tells_margin : (parts : Parts) (plan : List Timed) → TellsMargin parts plan
unfolding ledger_lines head_lines
tells_margin parts plan = refl

pub tells_step : (parts : Parts) (before : List Timed) (t : Timed) (later : List Timed) → TellsStep parts before t later
unfolding ledger_lines
tells_step parts before t later =
    let plan : List Timed = before ++ t ∷ later in
    let head : List (List (List ℕ)) = head_lines (margin_of parts plan) (length plan) in
    let done : List (List (List ℕ)) = step_lines_from parts [] before in
    let lines : List (List (List ℕ)) = step_lines parts before t in
    let more : List (List (List ℕ)) = step_lines_from parts (before ++ t ∷ []) later in
    let units : List (List (List ℕ)) = unit_lines parts plan in
    let two = length-head_lines parts plan in
    let four = length-step_lines_from parts [] before in
    let both = length-append head done in
    record {
      front = head ++ done;
      back = more ++ units;
      whole = ap (λ (steps : List (List (List ℕ))). head ++ steps ++ units) (step_lines_from-append parts [] before (t ∷ later)) ∙ simp append_assoc;
      place = omega arith;
    }

-- ---- what places hold

-- an operation elsewhere leaves a place as it is
moved-elsewhere : (state : List (List ℕ)) (from to : ℕ) (amounts : List ℕ) (p : ℕ) → (from ≡ p → ⊥) → (to ≡ p → ⊥) →
    held_of (moved state from to amounts) p ≡ held_of state p
moved-elsewhere state from to amounts p source destination =
    get_or-set_other _ to p _ [] (λ e. destination (sym e)) ∙ get_or-set_other state from p _ [] (λ e. source (sym e))

step-elsewhere : (parts : Parts) (steps : List Timed) (t : Timed) (p : ℕ) → IsElsewhere parts p t → held_of (state_after parts steps) p
    ≡ held_of (state_after parts (steps ++ t ∷ [])) p
unfolding after_step
step-elsewhere parts steps t p elsewhere =
    sym (ap (λ (state : List (List ℕ)). held_of state p) (state_after_push parts steps t)
    ∙ moved-elsewhere (state_after parts steps) (op_of parts t.op).from (op_of parts t.op).to (drawn_of parts (state_after parts steps) t) p elsewhere.source
    elsewhere.destination)

held-elsewhere : (parts : Parts) (steps later : List Timed) (p : ℕ) → All (IsElsewhere parts p) later → held_of (state_after parts steps) p
    ≡ held_of (state_after parts (steps ++ later)) p
held-elsewhere parts steps [] p each = ap (λ (xs : List Timed). held_of (state_after parts xs) p) (sym (append-nil steps))
held-elsewhere parts steps (t ∷ later) p each =
    step-elsewhere parts steps t p (All-head (IsElsewhere parts p) t later each)
    ∙ held-elsewhere parts (steps ++ t ∷ []) later p (All-tail (IsElsewhere parts p) t later each)
    ∙ ap (λ (xs : List Timed). held_of (state_after parts xs) p) (append_assoc steps (t ∷ []) later)

place_kept : (parts : Parts) (before : List Timed) (t : Timed) (later : List Timed) (p : ℕ) → All (IsElsewhere parts p) later →
    place_words parts (state_after parts (before ++ t ∷ [])) p ≡ place_words parts (state_after parts (before ++ t ∷ later)) p
place_kept parts before t later p each =
    ap (λ (held : List ℕ). place_name_of parts p ∷ holding_words held)
    (held-elsewhere parts (before ++ t ∷ []) later p each ∙ ap (λ (xs : List Timed). held_of (state_after parts xs) p) (append_assoc before (t ∷ []) later))

-- line k of the four that an operation has
line_of_step : (parts : Parts) (before : List Timed) (t : Timed) (later : List Timed) (k : ℕ) → k < 4 →
    ledger_line parts (before ++ t ∷ later) (3 + 4 * length before + k) ≡ get_or (step_lines parts before t) k []
line_of_step parts before t later k within =
    let tells = tells_step parts before t later in
    let lines = step_lines parts before t in
    let place = tells.place in
    let at : 3 + 4 * length before + k ≡ length tells.front + k = omega arith in
    let few = length-step_lines parts before t in
    ap (λ (whole : List (List (List ℕ))). get_or whole (3 + 4 * length before + k) []) tells.whole
    ∙ ap (λ (n : ℕ). get_or (tells.front ++ lines ++ tells.back) n []) at
    ∙ ap (λ (whole : List (List (List ℕ))). get_or whole (length tells.front + k) []) (append_assoc tells.front lines tells.back)
    ∙ get_or-append-add tells.front (lines ++ tells.back) k []
    ∙ get_or_append_left lines tells.back [] k (omega arith)

from_line : (parts : Parts) (before : List Timed) (t : Timed) → get_or (step_lines parts before t) 2 []
    ≡ codes "from" ∷ place_words parts (state_after parts (before ++ t ∷ [])) (op_of parts t.op).from
unfolding step_lines
from_line parts before t = refl

to_line : (parts : Parts) (before : List Timed) (t : Timed) → get_or (step_lines parts before t) 3 []
    ≡ codes "to" ∷ place_words parts (state_after parts (before ++ t ∷ [])) (op_of parts t.op).to
unfolding step_lines
to_line parts before t = refl

pub tells_end : (parts : Parts) (before : List Timed) (t : Timed) (later : List Timed) → TellsEnd parts before t later
tells_end parts before t later = record {
  source = λ each. line_of_step parts before t later 2 (omega arith) ∙ from_line parts before t
      ∙ ap (λ (words : List (List ℕ)). codes "from" ∷ words) (place_kept parts before t later (op_of parts t.op).from each);
  destination = λ each. line_of_step parts before t later 3 (omega arith) ∙ to_line parts before t
      ∙ ap (λ (words : List (List ℕ)). codes "to" ∷ words) (place_kept parts before t later (op_of parts t.op).to each);
}

-- ---- units, place by place

pub each_from-at : {X Y : Type 0} (each : ℕ → X → List Y) (index i : ℕ) (xs : List X) (x : X) → i < length xs → x ≡ get_or xs i x →
    each_from each index (drop i xs) ≡ each index x ++ each_from each (index + 1) (drop (i + 1) xs)
each_from-at each index i xs x within is =
    ap (λ rest. each_from each index rest) (drop_more xs i x within)
    ∙ ap (λ y. each index y ++ each_from each (index + 1) (drop (i + 1) xs)) (sym is)

pub each_place-at : {Y : Type 0} (each : ℕ → PlaceInfo → List Y) (parts : Parts) (p : ℕ) → p < place_count_of parts →
    each_from each p (drop p (places_of parts)) ≡ each p (place_of parts p) ++ each_from each (p + 1) (drop (p + 1) (places_of parts))
unfolding place_of
each_place-at each parts p within =
    let count = length-places_of parts in
    each_from-at each p p (places_of parts) (place_of parts p) (omega arith) (get_or_default (places_of parts) p no_place (place_of parts p) (omega arith))

-- ---- a plan is refused for the first rule that one of its operations breaks where those before it broke none

pub first_broken-at : (parts : Parts) (order : Order) (before : List Timed) (t : Timed) (later : List Timed) (fault : Broken) → CanRun parts order before →
    first_of (op_faults parts order before t (length before + 1)) ≡ Some fault → first_broken_in parts order (before ++ t ∷ later) ≡ Some fault
unfolding first_broken_in plan_faults step_faults
first_broken-at parts order before t later fault accepted found =
    let plan : List Timed = before ++ t ∷ later in
    let rest : List Broken = step_faults_from parts order before (t ∷ later) in
    let here : first_of rest ≡ Some fault =
    first_of-front (op_faults parts order before t (length before + 1)) (step_faults_from parts order (before ++ t ∷ []) later) fault found in
    let steps : step_faults_from parts order [] plan ≡ rest =
    step_faults_from-append parts order [] before (t ∷ later) ∙ ap (λ (front : List Broken). front ++ rest) accepted in
    first_of-front (step_faults_from parts order [] plan) (end_faults parts plan) fault (ap first_of steps ∙ here)

-- the plan of which the first operations have run and the next one cannot
pub refused_at : (parts : Parts) (plan : List Timed) (i : ℕ) (t : Timed) (fault : ReplayFault) → i < length plan → t ≡ get_or plan i t →
    CanRun parts ByStart (take i plan) → BreaksStep parts (take i plan) t fault → HasNoLedger parts plan fault
refused_at parts plan i t Memory within is accepted breaks = tt
refused_at parts plan i t (Rule broken) within is accepted breaks =
    let rest : drop i plan ≡ t ∷ drop (i + 1) plan = drop_more plan i t within ∙ ap (λ (s : Timed). s ∷ drop (i + 1) plan) (sym is) in
    let whole : take i plan ++ t ∷ drop (i + 1) plan ≡ plan = ap (λ (xs : List Timed). take i plan ++ xs) (sym rest) ∙ take-append-drop i plan in
    subst (λ (xs : List Timed). first_broken_in parts ByStart xs ≡ Some broken) whole
    (first_broken-at parts ByStart (take i plan) t (drop (i + 1) plan) broken accepted breaks)

-- an operation that broke no rule is one of the plant's
pub known_op : (parts : Parts) (steps : List Timed) (now : Replayed) (t : Timed) → now ≡ ran parts steps →
    None ≡ first_of (op_faults now.parts now.order now.steps t (length now.steps + 1)) → t.op < op_count_of parts
known_op parts steps now t same none =
    subst (λ (p : Parts). t.op < op_count_of p) (ap (λ (r : Replayed). r.parts) same)
    (is_in_range now.parts now.order now.steps t (length now.steps + 1)
    (nil_of_none (op_faults now.parts now.order now.steps t (length now.steps + 1)) (sym none))).known

-- ---- lines that are written one after the other

pub more_written : (old new whole : List ℕ) (here rest all : List (List (List ℕ))) → new ≡ old ++ text_of here → all ≡ here ++ rest →
    old ++ text_of all ≡ whole → new ++ text_of rest ≡ whole
more_written old new whole here rest all more parted so_far =
    ap (λ (t : List ℕ). t ++ text_of rest) more
    ∙ append_assoc old (text_of here) (text_of rest)
    ∙ ap (λ (t : List ℕ). old ++ t) (sym (flat_map-append (λ words. line_of words ++ 10 ∷ []) here rest) ∙ ap text_of (sym parted))
    ∙ so_far

-- the three lines of the head
pub head_written : (old first second third : List ℕ) (margin : ℤ) (count : ℕ) → first ≡ old ++ codes "legal\n" →
    second ≡ first ++ (line_of (codes "margin" ∷ signed_decimal margin ∷ []) ++ 10 ∷ []) →
    third ≡ second ++ (line_of (codes "operations" ∷ decimal count ∷ []) ++ 10 ∷ []) → third ≡ old ++ text_of (head_lines margin count)
unfolding head_lines
head_written old first second third margin count one two three =
    let margin_line : List ℕ = line_of (codes "margin" ∷ signed_decimal margin ∷ []) ++ 10 ∷ [] in
    let count_line : List ℕ = line_of (codes "operations" ∷ decimal count ∷ []) ++ 10 ∷ [] in
    three ∙ ap (λ (t : List ℕ). t ++ count_line) (two ∙ ap (λ (t : List ℕ). t ++ margin_line) one)
    ∙ append_assoc (old ++ codes "legal\n") margin_line count_line
    ∙ append_assoc old (codes "legal\n") (margin_line ++ count_line)
    ∙ ap (λ (t : List ℕ). old ++ (codes "legal\n" ++ (margin_line ++ t))) (sym (append-nil count_line))

-- the whole ledger, from what was written of it
pub record IsWritten (parts : Parts) (plan : List Timed) (now : Replayed) (margin : ℤ) (steps head more text : List ℕ) : Type 0 where
  pub ran : now ≡ ran parts plan
  pub legal : IsLegalIn now.parts now.order now.steps
  pub earned : margin ≡ margin_of now.parts now.steps
  pub steps_text : steps ≡ text_of (step_lines_from parts [] plan)
  pub head_text : head ≡ text_of (head_lines margin (length plan))
  pub more_text : more ≡ head ++ steps
  pub text_text : text ≡ more ++ text_of (unit_lines parts now.steps)

pub ledger_written : (parts : Parts) (plan : List Timed) (now : Replayed) (margin : ℤ) (steps head more text : List ℕ) →
    IsWritten parts plan now margin steps head more text → IsLedger parts plan text
unfolding ledger_lines
ledger_written parts plan now margin steps head more text is =
    let whole : text ≡ (text_of (head_lines (margin_of parts plan) (length plan)) ++ text_of (step_lines_from parts [] plan)) ++ text_of (unit_lines parts plan)
    = is.text_text
    ∙ ap (λ (t : List ℕ). t ++ text_of (unit_lines parts now.steps)) (is.more_text ∙ ap (λ (t : List ℕ). t ++ steps) is.head_text)
    ∙ ap (λ (t : List ℕ). (text_of (head_lines margin (length plan)) ++ t) ++ text_of (unit_lines parts now.steps)) is.steps_text
    ∙ ap (λ (m : ℤ). (text_of (head_lines m (length plan)) ++ text_of (step_lines_from parts [] plan)) ++ text_of (unit_lines parts now.steps)) is.earned
    ∙ ap (λ (r : Replayed). (text_of (head_lines (margin_of r.parts r.steps) (length plan)) ++ text_of (step_lines_from parts [] plan))
    ++ text_of (unit_lines parts r.steps)) is.ran in
    record {
      legal = subst (λ (r : Replayed). IsLegalIn r.parts r.order r.steps) is.ran is.legal;
      written = whole ∙ sym (simp flat_map-append);
    }
