use Rattle.std.proofs.Common.{ℤ, [], ◌∷◌, ◌++◌, ap, ◌∙◌}
use Rattle.std.specs.Prelude.{codes}
use Rattle.std.specs.Int.{w64}
use Rattle.std.specs.Fmt.{signed_decimal}
use Rattle.std.proofs.lemmas.Int.{to_z-of_z}
use Rattle.std.proofs.lemmas.Result.{on_ok_weaker}
use Rattle.line_text.specs.Words.{line_of}
use Rattle.plan_text.proofs.LedgerLaws.{head_written}
use Rattle.plan_text.proofs.ledger_text.write_head.Goals as goal

pub returns : goal.returns
returns c =
    let given = to_z-of_z w64 c.args.margin c.ranges.margin in
    let second = c.in_ok-write_margin.ensures
    ∙ ap (λ (z : ℤ). c.push_text.new.out.items ++ (line_of (codes "margin" ∷ signed_decimal z ∷ []) ++ 10 ∷ [])) given in
    on_ok_weaker c.push_count.result
    (λ third. head_written c.args.out.now.items c.push_text.new.out.items c.write_margin.new.out.items c.push_count.new.out.items c.args.margin c.args.count
    c.in_ok-push_text.ensures.ok second third)
    c.push_count.ensures.ok
