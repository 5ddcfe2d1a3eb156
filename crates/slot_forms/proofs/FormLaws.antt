-- The slot forms of legal plans.
use Rattle.std.proofs.Common.{◌≡◌, ℕ, zero, suc, ◌+◌, ◌-◌, ◌<◌, ◌≤◌, true, List, [], ◌∷◌, ◌++◌, map, length, replicate, max, refl, ap, ◌∙◌, subst, arith}
use Rattle.std.specs.List.{All, fold, slice_index_or}
use Rattle.std.proofs.lemmas.List.{append-nil}
use Rattle.std.proofs.lemmas.List.Elements.{All-head, All-tail}
use Rattle.std.proofs.lemmas.List.Sorted.{length_permutation}
use Rattle.limits.specs.declared.TheConstants.{MOST_VOLUME}
use Rattle.plant_model.specs.declared.parts.Parts.{Parts}
use Rattle.plant_model.specs.declared.details.Op.{Op}
use Rattle.plant_model.specs.Parts.{op_count_of, op_of, ops_of, no_op, horizon_of, greatest_volume_of}
use Rattle.plant_model.specs.Sound.{SoundPlant, SoundOp}
use Rattle.plant_model.proofs.OpsAreSound.{length-ops_of}
use Rattle.plant_model.proofs.GreatestVolume.{greatest_volume-le}
use Rattle.replay_core.specs.declared.timed.Timed.{Timed}
use Rattle.replay_core.specs.Legal.{IsInRange}
use Rattle.slot_box.specs.declared.slot.Slot.{Slot}
use Rattle.slot_box.specs.Boxes.{IsPoint, whole_slot}
use Rattle.slot_box.specs.Entries.{Entry, idle, LiesIn}
use Rattle.slot_box.specs.Laws.{RootsAreBoxes, RootSlotsMayRun}
use Rattle.replay_core.specs.Margin.{margin_of}
use Rattle.replay_core.specs.Claim.{IsPlanOf, IsBound, IsInfeasible}
use Rattle.slot_words.specs.ByStart.{IsByStart}
use Rattle.slot_forms.specs.Cases.{IsCasePlan, IsCaseBound, IsCaseInfeasible, PlainCasesSayTheSame, PlainRootsAreBoxes, plain}
use Rattle.slot_forms.specs.Forms.{word_of, is_all_idle, is_form, entry_of}

-- ---- words and forms

-- the form of a plan in n slots: its operations in the first, and idle in the rest
abbrev pub form_of : ℕ → List Timed → List Entry
form_of n plan = map entry_of plan ++ replicate (n - length plan) idle

pub word_of-steps : (plan : List Timed) (rest : List Entry) → word_of (map entry_of plan ++ rest) ≡ plan ++ word_of rest
word_of-steps [] rest = refl
word_of-steps (t ∷ plan) rest = ap (λ (later : List Timed). t ∷ later) (word_of-steps plan rest)

pub word_of-idle : (k : ℕ) → word_of (replicate k idle) ≡ []
word_of-idle zero = refl
word_of-idle (suc k) = word_of-idle k

pub word_of-form_of : (n : ℕ) (plan : List Timed) → word_of (form_of n plan) ≡ plan
word_of-form_of n plan =
    word_of-steps plan (replicate (n - length plan) idle)
    ∙ ap (λ (later : List Timed). plan ++ later) (word_of-idle (n - length plan))
    ∙ append-nil plan

pub is_form-steps : (plan : List Timed) (rest : List Entry) → is_form (map entry_of plan ++ rest) ≡ is_form rest
is_form-steps [] rest = refl
is_form-steps (t ∷ plan) rest = is_form-steps plan rest

is_all_idle-idle : (k : ℕ) → is_all_idle (replicate k idle) ≡ true
is_all_idle-idle zero = refl
is_all_idle-idle (suc k) = is_all_idle-idle k

pub is_form-idle : (k : ℕ) → is_form (replicate k idle) ≡ true
is_form-idle zero = refl
is_form-idle (suc k) = is_all_idle-idle k

pub is_form-form_of : (n : ℕ) (plan : List Timed) → is_form (form_of n plan) ≡ true
is_form-form_of n plan = is_form-steps plan (replicate (n - length plan) idle) ∙ is_form-idle (n - length plan)

-- sorting by starts keeps the number of operations
pub sorted_count : (word sorted : List Timed) → IsByStart word sorted → length sorted ≡ length word
sorted_count word sorted is = length_permutation word sorted is.entries

-- ---- the form of a plan in a box of like slots

idle_point : (s : Slot) (k : ℕ) → LiesIn s idle → IsPoint (replicate k s) (replicate k idle)
idle_point s zero rests = tt
idle_point s (suc k) rests = (rests, idle_point s k rests)

pub form_point : (s : Slot) (n k : ℕ) (plan : List Timed) → LiesIn s idle → All (λ (t : Timed). LiesIn s (entry_of t)) plan → n ≡ length plan + k →
    IsPoint (replicate n s) (map entry_of plan ++ replicate k idle)
form_point s n k [] rests each count =
    let same : k ≡ n = omega arith in subst (λ (m : ℕ). IsPoint (replicate m s) (replicate k idle)) same (idle_point s k rests)
form_point s zero k (t ∷ plan) rests each count = absurd (omega arith)
form_point s (suc n) k (t ∷ plan) rests each count = (
  All-head (λ (u : Timed). LiesIn s (entry_of u)) t plan each,
  form_point s n k plan rests (All-tail (λ (u : Timed). LiesIn s (entry_of u)) t plan each)
      (omega arith),
)

-- ---- the greatest volume

greatest-start : (most : ℕ) (ops : List Op) → most ≤ fold (λ most (op : Op). max most op.volume.1) most ops
greatest-start most [] = omega arith
greatest-start most (op ∷ ops) = let later = greatest-start (max most op.volume.1) ops in omega arith

greatest-each : (most : ℕ) (ops : List Op) (v : ℕ) → v < length ops → (slice_index_or ops v no_op).volume.1
    ≤ fold (λ most (op : Op). max most op.volume.1) most ops
greatest-each most [] v within = absurd (omega arith)
greatest-each most (op ∷ ops) zero within = let later = greatest-start (max most op.volume.1) ops in omega arith
greatest-each most (op ∷ ops) (suc v) within = greatest-each (max most op.volume.1) ops v (omega arith)

volume-le-greatest : (parts : Parts) (v : ℕ) → v < op_count_of parts → (op_of parts v).volume.1 ≤ greatest_volume_of parts
unfolding op_of greatest_volume_of
volume-le-greatest parts v known = greatest-each 0 (ops_of parts) v (let count = length-ops_of parts in omega arith)

greatest-within : (parts : Parts) → SoundPlant parts → greatest_volume_of parts ≤ MOST_VOLUME
unfolding greatest_volume_of
greatest-within parts sound = greatest_volume-le parts (length-ops_of parts) sound.each_op

-- ---- the root box

pub root_boxes_are_boxes : (parts : Parts) → RootsAreBoxes → SoundPlant parts → PlainRootsAreBoxes parts
root_boxes_are_boxes parts roots sound n some most =
    roots n (op_count_of parts) (greatest_volume_of parts) (horizon_of parts) some most sound.ops (greatest-within parts sound) sound.horizon.1

-- each slot of the root box may run an operation that keeps its ranges
pub runs_in_root : (parts : Parts) → RootSlotsMayRun → SoundPlant parts → (t : Timed) → IsInRange parts t →
    LiesIn (whole_slot (op_count_of parts) (greatest_volume_of parts) (horizon_of parts)) (entry_of t)
runs_in_root parts may_run sound t range =
    let known = range.known in
    let op : SoundOp parts (op_of parts t.op) = sound.each_op t.op known in
    let last : (op_of parts t.op).window.1 ≤ horizon_of parts = op.within_horizon in
    let end : t.end ≤ (op_of parts t.op).window.1 = range.to_window in
    let lasts : t.start < t.end = range.lasts in
    let volume : t.volume ≤ (op_of parts t.op).volume.1 = range.most in
    let greatest = volume-le-greatest parts t.op known in
    may_run (op_count_of parts) (greatest_volume_of parts) (horizon_of parts) t.op t.start t.end t.volume sound.ops known (omega arith) (omega arith)
    (omega arith)

-- ---- the plain case

pub plain_cases_say_the_same : (parts : Parts) → PlainCasesSayTheSame parts
plain_cases_say_the_same parts n = record {
  plan = λ plan. (
    (λ (is : IsCasePlan (plain parts n) plan). record { legal = is.legal; short = is.short; earns = refl }),
    (λ (is : IsPlanOf parts n (margin_of parts plan) plan). record { legal = is.legal; short = is.short; goes_on = tt }),
  );
  bound = λ bound. (
    (λ (is : IsCaseBound (plain parts n) bound) plan legal short. is plan (record { legal = legal; short = short; goes_on = tt })),
    (λ (is : IsBound parts n bound) plan (case : IsCasePlan (plain parts n) plan). is plan case.legal case.short),
  );
  infeasible = (
    (λ (is : IsCaseInfeasible (plain parts n)) plan legal short. is plan (record { legal = legal; short = short; goes_on = tt })),
    (λ (is : IsInfeasible parts n) plan (case : IsCasePlan (plain parts n) plan). is plan case.legal case.short),
  );
}
