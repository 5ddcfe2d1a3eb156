-- The trial search of a plant that is made.
use Rattle.std.proofs.Common.{◌≡◌, ℕ, ◌+◌, ◌-◌, ◌*◌, ◌^◌, ◌<◌, ◌≤◌, Bool, true, false, List, Result, Ok, Err, sym, ap, ap₂, ◌∙◌, subst, arith}
use Rattle.std.specs.Prelude.{count_ones, min, nat_le, if◌then◌else◌, IfOk}
use Rattle.std.specs.declared.alloc.AllocError.{AllocError}
use Rattle.std.proofs.lemmas.Nat.{ones-le, mul-le}
use Rattle.plant_model.specs.declared.parts.Parts.{Parts}
use Rattle.plant_model.specs.Parts.{op_count_of, greatest_volume_of, horizon_of}
use Rattle.plant_maker.specs.Made.{made_parts}
use Rattle.slot_box.specs.declared.slot.Slot.{Slot}
use Rattle.slot_box.specs.Slots.{IsSlot, size_of, operations_of, live_of, ways_of, idle_bit}
use Rattle.slot_box.specs.Boxes.{IsBox, points_of, whole_slot}
use Rattle.slot_forms.specs.Cases.{plain, root_box}
use Rattle.dossier_text.specs.declared.dossier.Dossier.{Dossier}
use Rattle.dossier_text.specs.Text.{dossier_bytes}
use Rattle.dossier_check.specs.declared.verdict.Claim.{Claim}
use Rattle.dossier_check.specs.declared.verdict.Verdict.{Verdict}
use Rattle.dossier_check.specs.declared.verdict.Verdict.TheVariants.{Yes, No}
use Rattle.dossier_check.specs.Claims.{claim_of}
use Rattle.dossier_check.specs.Verdicts.{IsAcceptedText, IsVerdict, IsYesOfAccepted}
use Rattle.command_line.specs.declared.command.Command.TheVariants.{Make}
use Rattle.crude_run.specs.declared.answer.Answer.{Answer}
use Rattle.crude_run.specs.declared.opening.Stop.{Stop}
use Rattle.crude_run.specs.declared.opening.Stop.TheVariants as stop
use Rattle.crude_run.specs.Numbers.{trial_slots, trial_budget}
use Rattle.crude_run.specs.Files.{Files}
use Rattle.crude_run.specs.Texts.{shown, trial_points, tried}
use Rattle.crude_run.specs.Solving.{Solves}
use Rattle.crude_run.specs.Replaying.{Shows}
use Rattle.crude_run.specs.Making.{IsTrial, IsTrialClaim, TriesPlant, Makes}
use Rattle.crude_run.specs.Answered.{Answered, Outlet, Serves}
use Rattle.crude_run.specs.Stopping.{IfDue, IsDue}
use Rattle.crude_run.proofs.CallLaws.{answered_so}
use Rattle.crude_run.proofs.Ending.{makes_below}

one_more : (b : Bool) (n : ℕ) → n + (if b then 1 else 0) ≤ n + 1
one_more true n = omega arith
one_more false n = omega arith

-- a slot can be filled in fewer ways than a number of 64 bits can count
ways_fit : (s : Slot) → IsSlot s → ways_of s < 2 ^ 64
ways_fit s slot =
    let few : count_ones (operations_of s) ≤ 48 = ones-le 48 (operations_of s) slot.known in
    let volumes : size_of s.volume ≤ 10000001 = let most = slot.volume in omega arith in
    let starts : size_of s.start ≤ 100001 = let most = slot.start in omega arith in
    let ends : size_of s.end ≤ 100001 = let most = slot.end in omega arith in
    let two : count_ones (operations_of s) * size_of s.volume ≤ 48 * 10000001 = mul-le _ _ _ _ few volumes in
    let three : count_ones (operations_of s) * size_of s.volume * size_of s.start ≤ 48 * 10000001 * 100001 = mul-le _ _ _ _ two starts in
    let four : count_ones (operations_of s) * size_of s.volume * size_of s.start * size_of s.end ≤ 48 * 10000001 * 100001 * 100001 =
    mul-le _ _ _ _ three ends in
    let more = one_more (nat_le (2 ^ idle_bit) (live_of s)) (count_ones (operations_of s) * size_of s.volume * size_of s.start * size_of s.end) in
    omega (arith, four, more)

square_fits : (ways : ℕ) → ways < 2 ^ 64 → ways * (ways * 1) < 2 ^ 128
square_fits ways few =
    let square : ways * (ways * 1) ≤ (2 ^ 64 - 1) * (2 ^ 64 - 1) = mul-le ways (ways * 1) (2 ^ 64 - 1) (2 ^ 64 - 1) (omega arith) (omega arith) in
    omega (arith, square)

-- so two can, and the points of the root box are counted exactly
trial_points_fit : (parts : Parts) → IsBox (root_box (plain parts trial_slots)) → trial_points parts < 2 ^ 128
trial_points_fit parts is = square_fits (ways_of whole) (ways_fit whole (is.each 0 whole (omega arith)))
  where
    whole : Slot
    whole = whole_slot (op_count_of parts) (greatest_volume_of parts) (horizon_of parts)

pub trial_points-counted : (parts : Parts) (root : List Slot) (points : ℕ) → root ≡ root_box (plain parts trial_slots) → IsBox root →
    points ≡ min (points_of root) (2 ^ 128 - 1) → points ≡ trial_points parts
trial_points-counted parts root points is shape counted =
    let few = trial_points_fit parts (subst IsBox is shape) in
    let whole : min (trial_points parts) (2 ^ 128 - 1) ≡ trial_points parts = omega (arith, few) in
    counted ∙ ap (λ (slots : List Slot). min (points_of slots) (2 ^ 128 - 1)) is ∙ whole

-- ---- what is claimed

module _ (parts : Parts) (found : Answer) (text : List ℕ) (same : text ≡ found.text) (solves : Solves parts trial_slots trial_budget 1 found) where
  abbrev dossier : Dossier
  dossier = solves.dossier

  written : text ≡ dossier_bytes dossier
  written = same ∙ solves.text

  yes : (verdict : Verdict) → IsYesOfAccepted parts text verdict → verdict ≡ Yes (claim_of parts dossier)
  yes verdict accepted = accepted dossier solves.solution.readable written solves.solution.accepted

  -- the verdict on the text of what was found is yes, with what its dossier claims
  pub trial_yes : (claim : Claim) → IsVerdict parts text (Yes claim) → IsYesOfAccepted parts text (Yes claim) →
      IsTrialClaim parts claim
  trial_yes claim verdict accepted =
      let is : Yes claim ≡ Yes (claim_of parts dossier) = yes (Yes claim) accepted in
      let claimed : claim ≡ claim_of parts dossier = cc in
      let of_text : IsAcceptedText parts (dossier_bytes dossier) claim = subst (λ t. IsAcceptedText parts t claim) written verdict in
      (dossier, record { solution = solves.solution; accepted = subst (IsAcceptedText parts (dossier_bytes dossier)) claimed of_text }, claimed)

  -- and never no
  pub trial_no : (number line : ℕ) → IsYesOfAccepted parts text (No number line) → ⊥
  trial_no number line accepted = (let is : No number line ≡ Yes (claim_of parts dossier) = yes (No number line) accepted in cc)

-- so the plant is tried
pub tries_plant : (number : ℕ) (parts : Parts) (claim : Claim) (made : Result Answer AllocError) → parts ≡ made_parts number →
    IsTrialClaim parts claim → IfOk made (λ answer. answer ≡ tried number parts claim.answer claim.margin claim.bound) → IfOk made (TriesPlant number)
tries_plant number parts claim (Ok answer) of_number (dossier, trial, claimed) says = record {
  dossier = dossier;
  trial = subst (λ p. IsTrial p dossier) of_number trial;
  says = says ∙ ap₂ (λ p (c : Claim). tried number p c.answer c.margin c.bound) of_number claimed;
}
tries_plant number parts claim (Err refused) of_number trial says = tt

-- ---- the answer

-- a plant that is tried, and one that is shown, is made
pub makes_tried : (number : ℕ) (solve : Bool) (made : Result Answer AllocError) → solve ≡ true → IfOk made (TriesPlant number) → IfOk made (Makes number solve)
makes_tried number solve (Ok answer) is owed = subst (λ s. Makes number s answer) (sym is) owed
makes_tried number solve (Err refused) is owed = tt

pub makes_shown : (number : ℕ) (solve : Bool) (parts : Parts) (made : Result Answer AllocError) → solve ≡ false → parts ≡ made_parts number →
    IfOk made (Shows parts) → IfOk made (Makes number solve)
makes_shown number solve parts (Ok answer) is of_number owed = subst (λ s. Makes number s answer) (sym is) (owed ∙ ap shown of_number)
makes_shown number solve parts (Err refused) is of_number owed = tt

-- what is due in the end is owed
due_owed : (P : Answer → Type 0) (outcome : Result Answer Stop) (answer : Answer) → IfDue outcome P → IsDue outcome answer → P answer
due_owed P (Ok due) answer owed same = subst P (sym same) owed
due_owed P (Err (stop.Due due)) answer owed same = subst P (sym same) owed
due_owed P (Err stop.Memory) answer owed none = absurd none

-- so a run that owed what is due has answered the number, whatever files there are
pub made_answered : (number : ℕ) (solve : Bool) (outcome : Result Answer Stop) (outlet : Outlet) (status : ℕ) → IfDue outcome (Makes number solve) →
    Answered (IsDue outcome) outlet status → (files : Files) → Answered (Serves (Make number solve) files) outlet status
made_answered number solve outcome outlet status due answered files =
    answered_so (IsDue outcome) (Serves (Make number solve) files) outlet status
    (λ answer is. due_owed (Makes number solve) outcome answer due is) answered

-- with a status below those of runs that end short
pub made_below : (number : ℕ) (solve : Bool) (outcome : Result Answer Stop) → IfDue outcome (Makes number solve) → IfDue outcome (λ due. due.status < 71)
made_below number solve (Ok due) owed = makes_below number solve due owed
made_below number solve (Err (stop.Due due)) owed = makes_below number solve due owed
made_below number solve (Err stop.Memory) owed = tt
