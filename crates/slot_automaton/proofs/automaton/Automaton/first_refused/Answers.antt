use Rattle.std.proofs.Common.{◌≡◌, ◌+◌, ℕ, take, get_or, true, false, refl, arith, inl, inr, ◌∙◌, ap, sym}
use Rattle.std.proofs.lemmas.Bool.{cases_lt}
use Rattle.slot_automaton.specs.Normal.{IsNormal}
use Rattle.slot_automaton.specs.Blocked.{next_blocked}
use Rattle.slot_automaton.proofs.WordLemmas.{prefix_is_normal, blocked_more, normal_more, refused_more}
use Rattle.slot_automaton.proofs.automaton.Automaton.first_refused.Goals as goal

-- the letter at hand is blocked, so that the word up to it is not normal
refused_here : (c : goal.In_default) → ¬ IsNormal c.args.self.now (take (c.loop-read.read + 1) c.args.word.now)
refused_here c =
    refused_more c.args.self.now c.args.word.now c.loop-read.read c.loop-read-test.true
    (rw c.loop-read.invariant.blocked at (c.in_default.ensures.refused.0 refl))

pub returns-in_default-clause-none : goal.returns-in_default-clause-none
returns-in_default-clause-none c = (
  λ never. absurd (let no : ⊥ = cc in no),
  λ normal. absurd (refused_here c (prefix_is_normal c.args.self.now c.args.word.now (c.loop-read.read + 1) normal)),
)

pub returns-in_default-clause-first : goal.returns-in_default-clause-first
returns-in_default-clause-first c =
    record {
      some = omega arith;
      within = omega arith;
      refused = refused_here c;
      shorter = λ k less. c.loop-read.invariant.normal k (omega arith);
    }

pub loop-read-preserved : goal.loop-read-preserved
loop-read-preserved c =
    let masks = c.args.self.now in
    let word = c.args.word.now in
    let read = c.loop-read.read in
    let more : IsNormal masks (take (read + 1) word) =
    normal_more masks word read c.loop-read-test.true (c.loop-read.invariant.normal read (omega arith))
    (λ set. let none : true ≡ false = c.in-Some.ensures.refused.1 (rw c.loop-read.invariant.blocked set) in let no : ⊥ = cc in no) in
    record {
      blocked =
          c.in-Some.ensures.next
          ∙ ap (λ (state : ℕ). next_blocked masks state (get_or word read 0)) c.loop-read.invariant.blocked
          ∙ sym (blocked_more masks word read c.loop-read-test.true);
      normal = λ k within.
          elim (cases_lt read k) [
            | inl past ↦ let here : k ≡ read + 1 = omega arith in rw here more
            | inr before ↦ c.loop-read.invariant.normal k before
          ];
    }
