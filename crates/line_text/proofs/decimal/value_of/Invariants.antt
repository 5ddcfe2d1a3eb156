use Rattle.std.proofs.Common.{◌≡◌, drop}
use Rattle.line_text.specs.inside.Digits.{value_after}
use Rattle.line_text.proofs.decimal.value_of.Given as goal

-- the digits left, after the value so far, give what all of them give
abbrev pub invariant-loop-byte : goal.invariant-loop-byte
invariant-loop-byte l = value_after l.limit l.value (drop l.byte-index l.bytes) ≡ value_after l.limit 0 l.fn.bytes
