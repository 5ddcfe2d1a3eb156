-- The bytes of a plan have one answer.
use Rattle.std.proofs.Common.{◌≡◌, ◌⊎◌, ℕ, List, inl, inr, sym, ap, subst, ◌∙◌}
use Rattle.plant_model.specs.declared.parts.Parts.{Parts}
use Rattle.replay_core.specs.declared.timed.Timed.{Timed}
use Rattle.replay_core.specs.declared.broken.Broken.{Broken}
use Rattle.plan_text.specs.Plans.{plan_of}
use Rattle.plan_text.specs.PlanText.{ReadOneWay}
use Rattle.crude_run.specs.declared.answer.Answer.{Answer}
use Rattle.crude_run.specs.Texts.{plan_refused, illegal}
use Rattle.crude_run.specs.Replaying.{IsLegalReplay, IsIllegalReplay, IsReplay, HasOneAnswer}

-- a plan has one answer
of_plan : (parts : Parts) (plan : List Timed) (answer other : Answer) → IsLegalReplay parts plan answer ⊎ IsIllegalReplay parts plan answer →
    IsLegalReplay parts plan other ⊎ IsIllegalReplay parts plan other → answer ≡ other
of_plan parts plan answer other (inl one) (inl two) = one.says ∙ sym two.says
of_plan parts plan answer other (inl one) (inr two) = (let none = one.breaks_none in let some = two.first in cc)
of_plan parts plan answer other (inr one) (inl two) = (let none = two.breaks_none in let some = one.first in cc)
of_plan parts plan answer other (inr one) (inr two) =
    let first = one.first in
    let second = two.first in
    let same : one.broken ≡ two.broken = cc in
    one.says ∙ ap (λ (broken : Broken). illegal broken) same ∙ sym two.says

-- and bytes say one plan
of_bytes : (parts : Parts) (bytes : List ℕ) (answer other : Answer) → ReadOneWay bytes → IsReplay parts bytes answer → IsReplay parts bytes other →
    answer ≡ other
of_bytes parts bytes answer other one first second =
    let lines = one.one_text first.read.lines second.read.lines first.read.text second.read.text in
    let plan : first.plan ≡ second.plan = first.read.says ∙ ap (plan_of parts) lines ∙ sym second.read.says in
    of_plan parts second.plan answer other
    (subst (λ (p : List Timed). IsLegalReplay parts p answer ⊎ IsIllegalReplay parts p answer) plan first.replayed) second.replayed

pub one_answer : (parts : Parts) (bytes : List ℕ) → ReadOneWay bytes → HasOneAnswer parts bytes
one_answer parts bytes one answer other (inl first) (inl second) = of_bytes parts bytes answer other one first second
one_answer parts bytes one answer other (inl first) (inr second) = absurd (one.not_both first.read.lines second.line first.read.text second.first)
one_answer parts bytes one answer other (inr first) (inl second) = absurd (one.not_both second.read.lines first.line second.read.text first.first)
one_answer parts bytes one answer other (inr first) (inr second) =
    first.says ∙ ap (λ (line : ℕ). plan_refused line) (one.one_bad first.line second.line first.first second.first) ∙ sym second.says
