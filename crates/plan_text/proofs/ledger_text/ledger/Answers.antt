use Rattle.std.proofs.Common.{rules}
use Rattle.plan_text.proofs.LedgerLaws.{ledger_written}
use Rattle.plan_text.proofs.ledger_text.ledger.Goals as goal

pub returns-clause-legal : goal.returns-clause-legal
returns-clause-legal c =
    ledger_written c.args.plant.now c.args.plan.now c.write_steps.new.replay c.in_ok-margin.margin c.write_steps.new.out.items c.write_head.new.out.items
    c.push_text.new.out.items c.write_units.new.out.items
    (record {
      ran = c.in_ok-write_steps.ensures.ran;
      legal = c.in_ok-margin.ensures.legal;
      earned = c.in_ok-margin.ensures.margin;
      steps_text = search rules;
      head_text = search rules;
      more_text = search rules;
      text_text = search rules;
    })
