-- Reading a plan line by line.
use Rattle.std.proofs.Common.{◌≡◌, ℕ, ◌+◌, ◌≤◌, List, [], ◌∷◌, ◌++◌, length, refl, Option, Some, None, sym, ap, subst, ◌∙◌, arith, length-append, inl, inr, ◌⊎◌, ◌<◌, ◌≢◌}
use Rattle.std.proofs.lemmas.List.{append-nil, map-append}
use Rattle.limits.specs.declared.TheConstants.{MOST_STEPS}
use Rattle.std.specs.Prelude.{IfSome, IfNone}
use Rattle.std.proofs.lemmas.Option.{none-some, same_Some}
use Rattle.line_text.specs.Lines.{LinesLeft, line_at}
use Rattle.line_text.specs.Words.{parts_at, words_of}
use Rattle.line_text.proofs.LinesLaws.{line_at-some, line_at-none}
use Rattle.line_text.proofs.PartLaws.{parts_at-some}
use Rattle.plant_model.specs.declared.parts.Parts.{Parts}
use Rattle.replay_core.specs.declared.timed.Timed.{Timed}
use Rattle.plan_text.specs.declared.op_line.OpLine.{OpLine}
use Rattle.plan_text.specs.Plans.{timed_of, plan_of}
use Rattle.plan_text.specs.PlanText.{AreOpLines, lines_bytes, SaysPlan, IsFirstBad, BeginsWithLine}
use Rattle.plan_text.specs.OpLine.{op_line_bytes, IsOpLine, op_line_at}
use Rattle.plan_text.specs.inside.Steps.{SaysStep, IsStepRead, IsStepBad}
use Rattle.plan_text.proofs.TextLaws.{first_line, same_text, lines_bytes-push, AreOpLines-push}
use Rattle.plan_text.proofs.OpLineLaws.{op_line-found, op_line-none}

-- so far lines of a plan were read, and they say this plan
pub record AreRead (parts : Parts) (bytes : List ℕ) (left : LinesLeft) (plan : List Timed) : Type 0 where
  pub lines : List OpLine
  pub text : bytes ≡ lines_bytes lines ++ left.rest
  pub numbered : AreOpLines 1 lines
  pub next : left.number ≡ length lines + 1
  pub few : length lines ≤ MOST_STEPS
  pub says : plan ≡ plan_of parts lines

pub none_read : (parts : Parts) (bytes : List ℕ) (left : LinesLeft) → left ≡ record { rest = bytes; number = 1 } → AreRead parts bytes left []
none_read parts bytes left is = record {
  lines = [];
  text = sym (ap (λ (l : LinesLeft). l.rest) is);
  numbered = tt;
  next = ap (λ (l : LinesLeft). l.number) is;
  few = omega arith;
  says = refl;
}

-- one line more
pub one_more : (parts : Parts) (bytes : List ℕ) (before after : LinesLeft) (plan : List Timed) (t : Timed) → AreRead parts bytes before plan →
    IsStepRead parts before after t → AreRead parts bytes after (plan ++ t ∷ [])
one_more parts bytes before after plan t are step =
    let count = length-append are.lines (step.line ∷ []) in
    let next = are.next in
    let number = step.numbered in
    let passed = step.next in
    let few = step.few in
    record {
      lines = are.lines ++ step.line ∷ [];
      text = are.text ∙ ap (λ (rest : List ℕ). lines_bytes are.lines ++ rest) step.text ∙ lines_bytes-push are.lines step.line after.rest;
      numbered = AreOpLines-push 1 are.lines step.line are.numbered (omega arith) step.form;
      next = omega arith;
      few = omega arith;
      says = ap (λ (p : List Timed). p ++ t ∷ []) are.says ∙ ap (λ (s : Timed). plan_of parts are.lines ++ s ∷ []) step.says
          ∙ sym (map-append (timed_of parts) are.lines (step.line ∷ []));
    }

-- nothing is left
pub all_read : (parts : Parts) (bytes : List ℕ) (left : LinesLeft) (plan : List Timed) → AreRead parts bytes left plan → left.rest ≡ [] →
    SaysPlan parts bytes plan
all_read parts bytes left plan are end = record {
  lines = are.lines;
  text = record {
    few = are.few;
    numbered = are.numbered;
    text = are.text ∙ ap (λ (rest : List ℕ). lines_bytes are.lines ++ rest) end ∙ append-nil (lines_bytes are.lines);
  };
  says = are.says;
}

bad_next : (number count : ℕ) (rest : List ℕ) → number ≡ count + 1 → count ≤ MOST_STEPS → (MOST_STEPS < number) ⊎ (BeginsWithLine number rest → ⊥) →
    (count ≡ MOST_STEPS) ⊎ (BeginsWithLine number rest → ⊥)
bad_next number count rest next few (inl past) = inl (omega arith)
bad_next number count rest next few (inr other) = inr other

-- the next line is none of a plan
pub first_bad : (parts : Parts) (bytes : List ℕ) (left : LinesLeft) (plan : List Timed) → AreRead parts bytes left plan → (left.rest ≡ [] → ⊥) →
    IsStepBad left → IsFirstBad bytes left.number
first_bad parts bytes left plan are some bad = record {
  lines = are.lines;
  rest = left.rest;
  text = are.text;
  numbered = are.numbered;
  few = are.few;
  next = are.next;
  some = some;
  bad = bad_next left.number (length are.lines) left.rest are.next are.few bad;
}

-- ---- one line

-- a text that reads as a line is its text
pub line_says : (text : List ℕ) (line : OpLine) → Some line ≡ op_line_at (words_of text) → IsOpLine line × (text ≡ op_line_bytes line)
line_says text line given = op_line-found text (Some line) given

-- a text that reads as no line, or as one of another number, is no line of this number
pub says_none : (text : List ℕ) (number : ℕ) → None ≡ op_line_at (words_of text) → (line : OpLine) → IsOpLine line → line.number ≡ number →
    text ≢ op_line_bytes line
says_none text number given line form numbered = op_line-none text None given line form

pub says_other : (text : List ℕ) (read : OpLine) (number : ℕ) → Some read ≡ op_line_at (words_of text) → (read.number ≡ number → ⊥) → (line : OpLine) →
    IsOpLine line → line.number ≡ number → text ≢ op_line_bytes line
says_other text read number given other line form numbered is =
    let says = line_says text read given in
    let same : read ≡ line = same_text read line says.0 form (sym says.1 ∙ is) in
    other (ap (λ (l : OpLine). l.number) same ∙ numbered)

-- the next line, where it says an operation
pub step_read : (parts : Parts) (before after : LinesLeft) (text : List ℕ) (t : Timed) → line_at before ≡ Some (text, after) → before.number ≤ MOST_STEPS →
    SaysStep parts before.number text t → IsStepRead parts before after t
step_read parts before after text t found few says =
    let read = line_at-some before text after found in
    record {
      line = says.line;
      form = says.form;
      numbered = says.numbered;
      text = parts_at-some 10 before.rest (text, after.rest) read.0 ∙ ap (λ (front : List ℕ). front ++ 10 ∷ after.rest) says.written;
      says = says.says;
      few = few;
      next = read.1;
    }

-- there is no line feed
pub no_line : (before : LinesLeft) → line_at before ≡ None → IsStepBad before
no_line before found = inr (λ begins.
    none-some (op_line_bytes begins.line, begins.after)
    (sym (line_at-none before found) ∙ ap (parts_at 10) begins.text ∙ first_line begins.line begins.after begins.form))

-- or the next line says none
pub no_step : (before after : LinesLeft) (text : List ℕ) → line_at before ≡ Some (text, after) →
    ((line : OpLine) → IsOpLine line → line.number ≡ before.number → text ≢ op_line_bytes line) → IsStepBad before
no_step before after text found other = inr (λ begins.
    let parts : (text, after.rest) ≡ (op_line_bytes begins.line, begins.after) =
    same_Some (text, after.rest) (op_line_bytes begins.line, begins.after)
    (sym (line_at-some before text after found).0 ∙ ap (parts_at 10) begins.text ∙ first_line begins.line begins.after begins.form) in
    other begins.line begins.form begins.numbered (ap (λ (p : List ℕ × List ℕ). p.0) parts))

-- ---- what a reader of one line answers

pub where_none : {X : Type 0} {P : Type 0} (read : Option X) → P → IfNone read P
where_none None fact = fact
where_none (Some x) fact = tt

pub step-found : (parts : Parts) (before after : LinesLeft) (number : ℕ) (text : List ℕ) (read : Option Timed) → number ≡ before.number →
    line_at before ≡ Some (text, after) → number ≤ MOST_STEPS → IfSome read (SaysStep parts number text) → IfSome read (IsStepRead parts before after)
step-found parts before after number text None same found few says = tt
step-found parts before after number text (Some t) same found few says =
    step_read parts before after text t found (omega arith) (subst (λ (n : ℕ). SaysStep parts n text t) same says)

pub step-none : (before after : LinesLeft) (number : ℕ) (text : List ℕ) (read : Option Timed) → number ≡ before.number → line_at before ≡ Some (text, after) →
    IfNone read ((line : OpLine) → IsOpLine line → line.number ≡ number → text ≢ op_line_bytes line) → IfNone read (IsStepBad before)
step-none before after number text None same found other =
    no_step before after text found (λ line form numbered. other line form (numbered ∙ sym same))
step-none before after number text (Some t) same found other = tt
