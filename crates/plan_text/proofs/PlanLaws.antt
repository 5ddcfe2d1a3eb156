-- Plans and their lines: what the names of operations say.
use Rattle.std.proofs.Common.{◌≡◌, ℕ, ◌+◌, ◌^◌, ◌<◌, ◌≤◌, List, [], ◌∷◌, ◌++◌, length, Result, Ok, Err, Vec, Global, get_or, take, drop, append_assoc, refl, sym, ap, ap₂, subst, ◌∙◌, arith, inl, inr}
use Rattle.std.specs.Prelude.{nat_lt, All, MatchResult, IfOk, OnOk}
use Rattle.std.proofs.lemmas.Bool.{cases_Bool}
use Rattle.std.proofs.lemmas.Bool.Decides.{nat_tests}
use Rattle.std.proofs.lemmas.List.Elements.{All-head, All-tail, All-push}
use Rattle.std.proofs.lemmas.List.{drop_more, take_more, length-map}
use Rattle.limits.specs.declared.TheConstants.{MOST_STEPS}
use Rattle.plant_model.specs.declared.parts.Parts.{Parts}
use Rattle.plant_model.specs.Parts.{position_of, op_names_of, op_count_of, op_name_of, op_by_name_of}
use Rattle.plant_model.specs.Sound.{SoundPlant}
use Rattle.plant_model.proofs.OpNames.{known_op, unknown_op}
use Rattle.replay_core.specs.declared.timed.Timed.{Timed}
use Rattle.plan_text.specs.declared.op_line.OpLine.{OpLine}
use Rattle.plan_text.specs.OpLine.{op_line_bytes, IsOpLine}
use Rattle.plan_text.specs.Plans.{timed_of, plan_of, line_for, lines_from, IsSayable, IsPrintable}
use Rattle.std.specs.declared.alloc.AllocError.{AllocError}
use Rattle.plan_text.specs.declared.fault.PlanTextFault.{PlanTextFault}
use Rattle.plan_text.specs.declared.fault.PlanTextFault.TheVariants.{Line, Memory}
use Rattle.plan_text.specs.PlanText.{AreOpLines, IsPlanText, plan_bytes, SaysPlan, ReadsPlan, lines_bytes}
use Rattle.plan_text.proofs.TextLaws.{read_one_way}

-- an operation that a name leads to has the name
named : (parts : Parts) (name : List ℕ) → SoundPlant parts → op_by_name_of parts name < op_count_of parts → op_name_of parts (op_by_name_of parts name) ≡ name
unfolding op_by_name_of
named parts name sound known =
    let found = position_of name (op_names_of parts) in
    let few = sound.ops in
    elim (cases_Bool (nat_lt found (op_count_of parts))) [
      | inl within ↦ rw within (known_op parts name found refl (grind (arith, nat_tests)))
      | inr past ↦ (let other : 255 < op_count_of parts = rw past at known in absurd (omega arith))
    ]

-- the name of an operation leads to it
pub found : (parts : Parts) (v : ℕ) → SoundPlant parts → v < op_count_of parts → op_by_name_of parts (op_name_of parts v) ≡ v
unfolding op_by_name_of
found parts v sound known =
    let name : List ℕ = op_name_of parts v in
    let first = position_of name (op_names_of parts) in
    elim (cases_Bool (nat_lt first (op_count_of parts))) [
      | inl within ↦
          (let below : first < op_count_of parts = grind (arith, nat_tests) in
          rw within (sound.op_names.distinct first v below known (known_op parts name first refl below)))
      | inr past ↦
          (let beyond : op_count_of parts ≤ first = grind (arith, nat_tests) in absurd (unknown_op parts name first refl beyond v known refl))
    ]

-- a line whose name is known is the line of its operation
line-again : (parts : Parts) (line : OpLine) (number : ℕ) → SoundPlant parts → line.number ≡ number → (timed_of parts line).op < op_count_of parts →
    line_for parts number (timed_of parts line) ≡ line
line-again parts line number sound numbered known =
    let with : ℕ → List ℕ → OpLine = λ n name. record { number = n; name = name; start = line.start; end = line.end; volume = line.volume } in
    ap₂ with (sym numbered) (named parts line.name sound known)

-- likewise the lines of a plan
pub lines-again : (parts : Parts) (number : ℕ) (lines : List OpLine) → SoundPlant parts → AreOpLines number lines →
    All (λ (t : Timed). t.op < op_count_of parts) (plan_of parts lines) → lines_from parts number (plan_of parts lines) ≡ lines
lines-again parts number [] sound are known = refl
lines-again parts number (line ∷ lines) sound are known =
    let P : Timed → Type 0 = λ t. t.op < op_count_of parts in
    ap₂ (λ (x : OpLine) (xs : List OpLine). x ∷ xs)
    (line-again parts line number sound are.0 (All-head P (timed_of parts line) (plan_of parts lines) known))
    (lines-again parts (number + 1) lines sound are.2 (All-tail P (timed_of parts line) (plan_of parts lines) known))

-- an operation is that of its line
timed-again : (parts : Parts) (number : ℕ) (t : Timed) → SoundPlant parts → t.op < op_count_of parts → timed_of parts (line_for parts number t) ≡ t
timed-again parts number t sound known =
    let with : ℕ → Timed = λ v. record { op = v; start = t.start; end = t.end; volume = t.volume } in
    ap with (found parts t.op sound known)

pub plan-again : (parts : Parts) (number : ℕ) (plan : List Timed) → SoundPlant parts → All (λ (t : Timed). t.op < op_count_of parts) plan →
    plan_of parts (lines_from parts number plan) ≡ plan
plan-again parts number [] sound known = refl
plan-again parts number (t ∷ later) sound known =
    let P : Timed → Type 0 = λ s. s.op < op_count_of parts in
    ap₂ (λ (x : Timed) (xs : List Timed). x ∷ xs) (timed-again parts number t sound (All-head P t later known))
    (plan-again parts (number + 1) later sound (All-tail P t later known))

length-lines_from : (parts : Parts) (number : ℕ) (plan : List Timed) → length (lines_from parts number plan) ≡ length plan
length-lines_from parts number [] = refl
length-lines_from parts number (t ∷ later) = (let more = length-lines_from parts (number + 1) later in omega arith)

pub lines-are_op_lines : (parts : Parts) (number : ℕ) (plan : List Timed) → SoundPlant parts → All (IsSayable parts) plan → number + length plan ≤ 2 ^ 32 →
    AreOpLines number (lines_from parts number plan)
lines-are_op_lines parts number [] sound each few = tt
lines-are_op_lines parts number (t ∷ later) sound each few =
    let says = All-head (IsSayable parts) t later each in
    let form : IsOpLine (line_for parts number t) = record {
      number = omega arith;
      name = sound.op_names.form t.op says.known;
      start = says.start;
      end = says.end;
      volume = says.volume;
    } in
    (refl, form, lines-are_op_lines parts (number + 1) later sound (All-tail (IsSayable parts) t later each) (omega arith))

known_all : (parts : Parts) (plan : List Timed) → All (IsSayable parts) plan → All (λ (t : Timed). t.op < op_count_of parts) plan
known_all parts plan each = λ k d within. (each k d within).known

-- the text of a printable plan is a plan text, and says the plan
pub printed : (parts : Parts) (plan : List Timed) → SoundPlant parts → IsPrintable parts plan → SaysPlan parts (plan_bytes parts plan) plan
printed parts plan sound is =
    let count = length-lines_from parts 1 plan in
    let few = is.few in
    record {
      lines = lines_from parts 1 plan;
      text = record {
        few = omega arith;
        numbered = lines-are_op_lines parts 1 plan sound is.each (omega arith);
        text = refl;
      };
      says = sym (plan-again parts 1 plan sound (known_all parts plan is.each));
    }

-- a text that says a plan whose operations are all known is the plan's
pub said : (parts : Parts) (bytes : List ℕ) (plan : List Timed) → SoundPlant parts → SaysPlan parts bytes plan →
    All (λ (t : Timed). t.op < op_count_of parts) plan → bytes ≡ plan_bytes parts plan
said parts bytes plan sound says known =
    let P : List Timed → Type 0 = λ p. All (λ (t : Timed). t.op < op_count_of parts) p in
    says.text.text
    ∙ ap lines_bytes (sym (lines-again parts 1 says.lines sound says.text.numbered (subst P says.says known)))
    ∙ ap (λ (p : List Timed). lines_bytes (lines_from parts 1 p)) (sym says.says)

-- the text of a plan is read as the plan
pub printed-again : (parts : Parts) (bytes : List ℕ) (read : Result (List Timed) PlanTextFault) (plan : List Timed) → SoundPlant parts →
    ReadsPlan parts bytes read → IsPrintable parts plan → bytes ≡ plan_bytes parts plan →
    MatchResult read (λ given. given ≡ plan) (λ fault. fault ≡ Memory)
printed-again parts bytes (Ok given) plan sound reads is text =
    let says = printed parts plan sound is in
    let one : reads.lines ≡ says.lines =
    (read_one_way bytes).one_text reads.lines says.lines reads.text (subst (λ (b : List ℕ). IsPlanText b says.lines) (sym text) says.text) in
    reads.says ∙ ap (plan_of parts) one ∙ sym says.says
printed-again parts bytes (Err (Line number)) plan sound reads is text =
    let says = printed parts plan sound is in
    absurd ((read_one_way bytes).not_both says.lines number (subst (λ (b : List ℕ). IsPlanText b says.lines) (sym text) says.text) reads)
printed-again parts bytes (Err Memory) plan sound reads is text = refl

-- ---- what a reader and a printer answer

pub said-read : (parts : Parts) (bytes : List ℕ) (read : Result (List Timed) PlanTextFault) → SoundPlant parts → ReadsPlan parts bytes read →
    IfOk read (λ plan. All (λ (t : Timed). t.op < op_count_of parts) plan → bytes ≡ plan_bytes parts plan)
said-read parts bytes (Ok plan) sound reads = λ known. said parts bytes plan sound reads known
said-read parts bytes (Err fault) sound reads = tt

pub printed-says : (parts : Parts) (plan : List Timed) (made : Result (Vec ℕ Global) AllocError) → SoundPlant parts → length plan ≤ MOST_STEPS →
    IfOk made (λ text. text.items ≡ plan_bytes parts plan) → OnOk made (All (IsSayable parts) plan) → IfOk made (λ text. SaysPlan parts text.items plan)
printed-says parts plan (Ok text) sound few is each =
    subst (λ (b : List ℕ). SaysPlan parts b plan) (sym is) (printed parts plan sound (record { few = few; each = each }))
printed-says parts plan (Err refused) sound few is each = tt

-- ---- line by line

pub line_more : (parts : Parts) (plan : List Timed) (i : ℕ) (d : Timed) (old new whole : List ℕ) → i < length plan →
    new ≡ old ++ (op_line_bytes (line_for parts (i + 1) (get_or plan i d)) ++ 10 ∷ []) →
    old ++ lines_bytes (lines_from parts (i + 1) (drop i plan)) ≡ whole → new ++ lines_bytes (lines_from parts (i + 1 + 1) (drop (i + 1) plan)) ≡ whole
line_more parts plan i d old new whole within more so_far =
    let t : Timed = get_or plan i d in
    let rest : List ℕ = lines_bytes (lines_from parts (i + 1 + 1) (drop (i + 1) plan)) in
    ap (λ (b : List ℕ). b ++ rest) more
    ∙ append_assoc old (op_line_bytes (line_for parts (i + 1) t) ++ 10 ∷ []) rest
    ∙ ap (λ (ts : List Timed). old ++ lines_bytes (lines_from parts (i + 1) ts)) (sym (drop_more plan i d within))
    ∙ so_far

pub sayable_more : (parts : Parts) (plan : List Timed) (i : ℕ) (d : Timed) → i < length plan → All (IsSayable parts) (take i plan) →
    IsSayable parts (get_or plan i d) → All (IsSayable parts) (take (i + 1) plan)
sayable_more parts plan i d within so_far here =
    subst (λ (ts : List Timed). All (IsSayable parts) ts) (sym (take_more plan i d within))
    (All-push (IsSayable parts) (take i plan) (get_or plan i d) so_far here)

pub few-read : (parts : Parts) (bytes : List ℕ) (read : Result (List Timed) PlanTextFault) → ReadsPlan parts bytes read →
    IfOk read (λ plan. length plan ≤ MOST_STEPS)
few-read parts bytes (Ok plan) reads =
    let count = length-map reads.lines (timed_of parts) in
    let few = reads.text.few in
    let same = ap length reads.says in
    omega arith
few-read parts bytes (Err fault) reads = tt
