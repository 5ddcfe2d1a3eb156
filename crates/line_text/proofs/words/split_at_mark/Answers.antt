use Rattle.std.proofs.Common.{sym, arith, add-one}
use Rattle.std.proofs.lemmas.List.{take_rest}
use Rattle.line_text.proofs.PartLaws.{parts_at-at_mark, parts_at-no_mark}
use Rattle.line_text.proofs.words.split_at_mark.Goals as goal

pub returns-then-byte-mark : goal.returns-then-byte-mark
returns-then-byte-mark c =
    let parts = parts_at-at_mark c.args.mark c.args.bytes.now c.loop-at.at (omega arith) c.loop-at.invariant (omega arith) in
    rw (take_rest, add-one) (sym parts)

pub returns : goal.returns
returns c = sym (parts_at-no_mark c.args.mark c.args.bytes.now (λ k below. c.loop-at.invariant k (omega arith)))
