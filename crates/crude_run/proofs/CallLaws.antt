-- A run that owed one answer has ended as one that owed another.
use Rattle.std.proofs.Common.{ℕ, List, ◌≡◌, inl, inr}
use Rattle.command_line.specs.declared.command.Command.{Command}
use Rattle.command_line.specs.PlainLine.{AreRefused, IsPlainLine}
use Rattle.crude_run.specs.declared.answer.Answer.{Answer}
use Rattle.crude_run.specs.Files.{Files}
use Rattle.crude_run.specs.Texts.{words_refused}
use Rattle.crude_run.specs.Answered.{Answered, CallsFor, Outlet, Serves}

-- an answer of the one kind is of the other
pub answered_so : (Due Owed : Answer → Type 0) (outlet : Outlet) (status : ℕ) → ((answer : Answer) → Due answer → Owed answer) →
    Answered Due outlet status → Answered Owed outlet status
answered_so Due Owed outlet status so is = record {
  memory = is.memory;
  broken_off = λ failed. let cut = is.broken_off failed in (cut.0, (cut.1.0, so cut.1.0 cut.1.1, cut.1.2));
  whole = λ room written. let all = is.whole room written in (all.0, all.1, so all.0 all.2, all.3);
}

-- the answer to the command of a plain line is what the words call for
pub command_called : (words : List (List ℕ)) (command : Command) (files : Files) (outlet : Outlet) (status : ℕ) → IsPlainLine words command →
    Answered (Serves command files) outlet status → Answered (CallsFor words files) outlet status
command_called words command files outlet status line = answered_so (Serves command files) (CallsFor words files) outlet status (λ answer serves. inr (command, line, serves))

-- and a refusal is, of words that are no plain line
pub refusal_called : (words : List (List ℕ)) (files : Files) (outlet : Outlet) (status : ℕ) → AreRefused words →
    Answered (λ answer. answer ≡ words_refused) outlet status → Answered (CallsFor words files) outlet status
refusal_called words files outlet status refused = answered_so (λ answer. answer ≡ words_refused) (CallsFor words files) outlet status (λ answer is. inl (refused, is))
