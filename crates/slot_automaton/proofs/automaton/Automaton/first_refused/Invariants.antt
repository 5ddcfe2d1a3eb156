use Rattle.std.proofs.Common.{◌≡◌, ℕ, ◌≤◌, take}
use Rattle.slot_automaton.specs.Normal.{IsNormal}
use Rattle.slot_automaton.specs.Blocked.{blocked_after}
use Rattle.slot_automaton.proofs.automaton.Automaton.first_refused.Given as goal

-- what was read is normal, with each of its prefixes, and the state is what it blocks
abbrev pub invariant-loop-read : goal.invariant-loop-read
invariant-loop-read l =
    record {
      blocked : l.state ≡ blocked_after l.self (take l.read l.word);
      normal : (k : ℕ) → k ≤ l.read → IsNormal l.self (take k l.word);
    }
