-- Each plan of a case has a form that is sought: what has begun stays, and the rest takes its normal order behind it.
use Rattle.std.proofs.Common.{◌≡◌, inl, inr, ℕ, ◌+◌, ◌-◌, ◌^◌, ◌<◌, ◌≤◌, true, leb, List, [], ◌∷◌, ◌++◌, All, map, length, take, drop, get_or, Option, Some, None, refl, sym, ap, subst, ◌∙◌, arith}
use Rattle.std.specs.Prelude.{◌&&◌, nat_lt, nat_le}
use Rattle.std.specs.List.{list_all, filter}
use Rattle.std.specs.List.Sorted.{IsPermutation}
use Rattle.std.specs.Option.{is_none}
use Rattle.std.proofs.lemmas.Bool.{cases_lt, lt-ltb, le-ltb, le-leb, and_from}
use Rattle.std.proofs.lemmas.List.{append-nil, length-append, take_at, drop_at}
use Rattle.std.proofs.lemmas.List.Elements.{All-head, All-tail, All-nil, All-cons}
use Rattle.std.proofs.lemmas.List.Sorted.{All-permutation, length_permutation}
use Rattle.std.proofs.lemmas.Nat.Bits.{bit_at-pow_same}
use Rattle.item_lists.proofs.ListLaws.{All-front, All-behind}
use Rattle.limits.specs.declared.TheConstants.{MOST_OPERATIONS}
use Rattle.number_laws.proofs.BitLaws.{set_from_one}
use Rattle.plant_model.specs.declared.parts.Parts.{Parts}
use Rattle.plant_model.specs.Parts.{op_count_of, greatest_volume_of, horizon_of}
use Rattle.plant_model.specs.Sound.{SoundPlant}
use Rattle.replay_core.specs.declared.timed.Timed.{Timed}
use Rattle.replay_core.specs.declared.order.Order.TheVariants.{ByStart, BySlot}
use Rattle.replay_core.specs.Rules.{last_start}
use Rattle.replay_core.specs.Legal.{first_broken_in, IsLegal, IsLegalIn, IsInRange, StepsAreInRange}
use Rattle.replay_core.specs.Margin.{margin_of}
use Rattle.replay_core.proofs.StepLaws.{CanRun-legal}
use Rattle.slot_box.specs.declared.slot.Slot.{Slot}
use Rattle.slot_box.specs.Boxes.{IsPoint, whole_slot}
use Rattle.slot_box.specs.Entries.{Entry, idle, LiesIn}
use Rattle.slot_box.specs.Laws.{RootSlotsMayIdle, RootSlotsMayRun}
use Rattle.slot_words.specs.Laws.{PlansAreSlotLegal, SwapsKeepTheMeaning, SwapsKeepTheEntries}
use Rattle.slot_words.proofs.SortLaws.{rising_plan, RisesFrom}
use Rattle.slot_words.proofs.SortLaws.RisesFrom.{end, rises}
use Rattle.normal_order.specs.NormalWords.{AreKnown, IsNormalWord, IsNormalForm}
use Rattle.normal_order.specs.Laws.{WordsHaveNormalForms}
use Rattle.slot_forms.specs.Cases.{Begun, Case, fixed_slot, plain, whole_slots}
use Rattle.slot_forms.specs.Forms.{word_of, is_form, entry_of, starts_late, is_lawful_form, PlansHaveForms}
use Rattle.slot_forms.proofs.FormLaws.{form_of, word_of-steps, word_of-form_of, is_form-steps, is_form-form_of, form_point, runs_in_root}

-- ---- what has begun comes first

-- a plan, parted at the minute
record PartedAt (minute : ℕ) (plan fixed rest : List Timed) : Type 0 where
  is : plan ≡ fixed ++ rest
  late : All (λ (t : Timed). minute ≤ t.start) rest

late_from : (minute first : ℕ) (plan : List Timed) → RisesFrom first plan → minute ≤ first →
    (filter (λ (t : Timed). nat_lt t.start minute) plan ≡ []) × All (λ (t : Timed). minute ≤ t.start) plan
late_from minute first plan (end m) late = (refl, All-nil (λ (t : Timed). minute ≤ t.start))
late_from minute first plan (rises m t later begins upward) late =
    let rest = late_from minute t.start later upward (omega arith) in
    (rw (le-ltb t.start minute (omega arith)) rest.0, All-cons (λ (s : Timed). minute ≤ s.start) t later (omega arith) rest.1)

parted_at : (minute first : ℕ) (plan fixed : List Timed) → RisesFrom first plan → filter (λ (t : Timed). nat_lt t.start minute) plan ≡ fixed →
    (rest : List Timed) × PartedAt minute plan fixed rest
parted_at minute first plan fixed (end m) begun =
    ([], record { is = begun ∙ sym (append-nil fixed); late = All-nil (λ (t : Timed). minute ≤ t.start) })
parted_at minute first plan fixed (rises m t later begins upward) begun =
    elim (cases_lt t.start minute) [
      | inl early ↦
          let here = rw (lt-ltb t.start minute early) at begun in
          let parted = parted_at minute t.start later (filter (λ (s : Timed). nat_lt s.start minute) later) upward refl in
          (parted.0, record { is = ap (λ (xs : List Timed). t ∷ xs) parted.1.is ∙ ap (λ (front : List Timed). front ++ parted.0) here; late = parted.1.late })
      | inr late ↦
          let all = late_from minute t.start (t ∷ later) (rises t.start t later (omega arith) upward) late in
          (t ∷ later, record { is = ap (λ (front : List Timed). front ++ (t ∷ later)) (sym all.0 ∙ begun); late = all.1 })
    ]

-- ---- points

fixed_lies : (t : Timed) → t.op < MOST_OPERATIONS → LiesIn (fixed_slot t) (entry_of t)
fixed_lies t known = record {
  known = omega arith;
  there = set_from_one (2 ^ t.op) t.op (bit_at-pow_same t.op);
  volume = (omega arith, omega arith);
  start = (omega arith, omega arith);
  end = (omega arith, omega arith);
}

-- what has begun stands in slots of its own, before the point of the rest
behind_fixed : (fixed : List Timed) (slots : List Slot) (point : List Entry) → All (λ (t : Timed). t.op < MOST_OPERATIONS) fixed → IsPoint slots point →
    IsPoint (map fixed_slot fixed ++ slots) (map entry_of fixed ++ point)
behind_fixed [] slots point each there = there
behind_fixed (t ∷ fixed) slots point each there = (
  fixed_lies t (All-head (λ (s : Timed). s.op < MOST_OPERATIONS) t fixed each),
  behind_fixed fixed slots point (All-tail (λ (s : Timed). s.op < MOST_OPERATIONS) t fixed each) there,
)

-- ---- the normal form of what is held and of the rest

all_late : (minute : ℕ) (word : List Timed) → All (λ (t : Timed). minute ≤ t.start) word → list_all (λ (t : Timed). nat_le minute t.start) word ≡ true
all_late minute [] late = refl
all_late minute (t ∷ word) late =
    let here = le-leb minute t.start (All-head (λ (s : Timed). minute ≤ s.start) t word late) in
    and_from (leb minute t.start) (list_all (λ (s : Timed). nat_le minute s.start) word) here
    (all_late minute word (All-tail (λ (s : Timed). minute ≤ s.start) t word late))

-- what is known of the plan of a case, parted into what is held and the rest, and of the normal form of the rest
record HasNormalRest (parts : Parts) (plan held rest form : List Timed) : Type 0 where
  is : plan ≡ held ++ rest
  normal_form : IsNormalForm parts rest form
  legal : IsLegalIn parts BySlot (held ++ form)
  margin : margin_of parts (held ++ form) ≡ margin_of parts plan
  ranges_held : All (IsInRange parts) held
  ranges_form : All (IsInRange parts) form
  count : length (held ++ form) ≡ length plan
  entries : IsPermutation rest form

known_of : (parts : Parts) (word : List Timed) → All (IsInRange parts) word → AreKnown parts word
known_of parts word ranges k d within = (ranges k d within).known

normal_rest : (parts : Parts) (plan held rest : List Timed) → StepsAreInRange parts → PlansAreSlotLegal parts → SwapsKeepTheMeaning parts →
    SwapsKeepTheEntries parts →
    WordsHaveNormalForms parts → IsLegal parts plan → plan ≡ held ++ rest → (form : List Timed) × HasNormalRest parts plan held rest form
normal_rest parts plan held rest ranges by_slot meaning entries forms legal is =
    let each = subst (All (IsInRange parts)) is (ranges ByStart plan legal) in
    let each_rest = All-behind (IsInRange parts) held rest each in
    let found = forms rest (known_of parts rest each_rest) in
    let form = found.0 in
    let same = meaning held rest form found.1.equivalent in
    let slot_legal = subst (IsLegalIn parts BySlot) is (by_slot plan legal) in
    let moved = entries rest form found.1.equivalent in
    let long = length_permutation rest form moved in (
      form,
      record {
        is = is;
        normal_form = found.1;
        legal = same.legal slot_legal;
        margin = same.margin (CanRun-legal parts BySlot (held ++ rest) slot_legal) ∙ ap (margin_of parts) (sym is);
        ranges_held = All-front (IsInRange parts) held rest each;
        ranges_form = All-permutation (IsInRange parts) rest form moved each_rest;
        count = length-append held form ∙ ap (λ (n : ℕ). length held + n) long ∙ sym (length-append held rest) ∙ sym (ap length is);
        entries = moved;
      },
    )

-- ---- the point

-- what is held in slots of its own, the rest in as many whole slots
abbrev held_form : ℕ → List Timed → List Timed → List Entry
held_form n held form = map entry_of held ++ form_of n form

held_form-word : (n : ℕ) (held form : List Timed) → word_of (held_form n held form) ≡ held ++ form
held_form-word n held form = word_of-steps held (form_of n form) ∙ ap (λ (later : List Timed). held ++ later) (word_of-form_of n form)

held_form-is : (n : ℕ) (held form : List Timed) → is_form (held_form n held form) ≡ true
held_form-is n held form = is_form-steps held (form_of n form) ∙ is_form-form_of n form

held_form-point : (parts : Parts) (n : ℕ) (held form : List Timed) → RootSlotsMayIdle → RootSlotsMayRun → SoundPlant parts → All (IsInRange parts) held →
    All (IsInRange parts) form → length form ≤ n → IsPoint (map fixed_slot held ++ whole_slots parts n) (held_form n held form)
held_form-point parts n held form may_idle may_run sound ranges_held ranges_form short =
    let whole = whole_slot (op_count_of parts) (greatest_volume_of parts) (horizon_of parts) in
    let rests : LiesIn whole idle = may_idle (op_count_of parts) (greatest_volume_of parts) (horizon_of parts) sound.ops in
    let few = sound.ops in
    behind_fixed held (whole_slots parts n) (form_of n form) (λ k d within. (let known = (ranges_held k d within).known in omega arith))
    (form_point whole n (n - length form) form rests (λ k d within. runs_in_root parts may_run sound (get_or form k d) (ranges_form k d within)) (omega arith))

-- ---- each plan of a case

-- a form whose word breaks no rule and starts late enough is lawful
lawful_from : (case : Case) (point : List Entry) → starts_late case.begun (word_of point) ≡ true → is_form point ≡ true →
    IsLegalIn case.parts BySlot (word_of point) → is_lawful_form case point ≡ true
lawful_from case point late form legal =
    let word = word_of point in
    and_from (starts_late case.begun word && is_form point) (is_none (first_broken_in case.parts BySlot word))
    (and_from (starts_late case.begun word) (is_form point) late form) (ap is_none legal)

plain_form : (parts : Parts) (slots : ℕ) → RootSlotsMayIdle → RootSlotsMayRun → StepsAreInRange parts → SoundPlant parts → PlansAreSlotLegal parts →
    SwapsKeepTheMeaning parts → SwapsKeepTheEntries parts → WordsHaveNormalForms parts →
    PlansHaveForms (record { parts = parts; slots = slots; begun = None })
plain_form parts slots may_idle may_run ranges sound by_slot meaning entries forms plan is =
    let found = normal_rest parts plan [] plan ranges by_slot meaning entries forms is.legal refl in
    let form = found.0 in
    let has = found.1 in
    let word = held_form-word slots [] form in
    let count = has.count in
    let short : length plan ≤ slots = is.short in (
      held_form slots [] form,
      record {
        there = held_form-point parts slots [] form may_idle may_run sound has.ranges_held has.ranges_form (omega arith);
        lawful = lawful_from (plain parts slots) (held_form slots [] form) refl (held_form-is slots [] form)
            (subst (IsLegalIn parts BySlot) (sym word) has.legal);
        begins = tt;
        sought = subst (IsNormalWord parts) (sym word) has.normal_form.normal;
        margin = ap (margin_of parts) word ∙ has.margin;
      },
    )

begun_form : (parts : Parts) (slots : ℕ) (begun : Begun) → RootSlotsMayIdle → RootSlotsMayRun → StepsAreInRange parts → SoundPlant parts →
    PlansAreSlotLegal parts →
    SwapsKeepTheMeaning parts → SwapsKeepTheEntries parts → WordsHaveNormalForms parts →
    PlansHaveForms (record { parts = parts; slots = slots; begun = Some begun })
begun_form parts slots begun may_idle may_run ranges sound by_slot meaning entries forms plan is =
    let fixed = begun.fixed in
    let rises_all = rising_plan parts plan (CanRun-legal parts ByStart plan is.legal) in
    let parted = parted_at begun.from (last_start []) plan fixed rises_all is.goes_on in
    let rest = parted.0 in
    let found = normal_rest parts plan fixed rest ranges by_slot meaning entries forms is.legal parted.1.is in
    let form = found.0 in
    let has = found.1 in
    let n = slots - length fixed in
    let word = held_form-word n fixed form in
    let count = has.count in
    let long = length-append fixed form in
    let short : length plan ≤ slots = is.short in
    let behind = ap (drop (length fixed)) word ∙ drop_at fixed form (length fixed) refl in
    let late_form = All-permutation (λ (t : Timed). begun.from ≤ t.start) rest form has.entries parted.1.late in (
      held_form n fixed form,
      record {
        there = held_form-point parts n fixed form may_idle may_run sound has.ranges_held has.ranges_form (omega arith);
        lawful = lawful_from (record { parts = parts; slots = slots; begun = Some begun }) (held_form n fixed form)
            (ap (list_all (λ (t : Timed). nat_le begun.from t.start)) behind ∙ all_late begun.from form late_form) (held_form-is n fixed form)
            (subst (IsLegalIn parts BySlot) (sym word) has.legal);
        begins = ap (take (length fixed)) word ∙ take_at fixed form (length fixed) refl;
        sought = subst (IsNormalWord parts) (sym behind) has.normal_form.normal;
        margin = ap (margin_of parts) word ∙ has.margin;
      },
    )

pub plans_have_forms : (parts : Parts) (slots : ℕ) (begun : Option Begun) → RootSlotsMayIdle → RootSlotsMayRun → StepsAreInRange parts →
    SoundPlant parts →
    PlansAreSlotLegal parts → SwapsKeepTheMeaning parts → SwapsKeepTheEntries parts → WordsHaveNormalForms parts →
    PlansHaveForms (record { parts = parts; slots = slots; begun = begun })
plans_have_forms parts slots None may_idle may_run ranges sound by_slot meaning entries forms =
    plain_form parts slots may_idle may_run ranges sound by_slot meaning entries forms
plans_have_forms parts slots (Some begun) may_idle may_run ranges sound by_slot meaning entries forms =
    begun_form parts slots begun may_idle may_run ranges sound by_slot meaning entries forms
