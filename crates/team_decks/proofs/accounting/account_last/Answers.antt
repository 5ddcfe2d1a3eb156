use Rattle.std.proofs.Common.{◌∙◌, length, refl, sym, subst}
use Rattle.task_deck.specs.Accounts.{all_stolen}
use Rattle.task_deck.specs.Decks.{ArePassesFrom, DeckId, owner_view, stolen_by}
use Rattle.team_decks.proofs.AccountLaws.{returned-rows}
use Rattle.team_decks.proofs.RowLaws.{others-below}
use Rattle.team_decks.proofs.accounting.account_last.Goals as goal

pub passes_of-requires : goal.passes_of-requires
passes_of-requires c = record { dealt = (c.requires.dealt.0, c.requires.dealt.1) }

pub account-requires : goal.account-requires
account-requires c =
    let back = c.in_ok-passes.ensures c.requires.dealt.0 c.requires.dealt.1 in
    record {
      one = c.requires.one;
      passes = subst (λ (d : DeckId). ArePassesFrom d 0 c.in_ok-passes.passes) (sym (c.requires.dealt.2 c.args.door)) (back.back c.args.door);
      all = back.many ∙ others-below c.args.number (length c.args.rows.now) c.requires.number ∙ sym c.requires.passes;
    }

pub returns : goal.returns
returns c doors dealt =
    let back = c.in_ok-passes.ensures doors dealt in
    record {
      each_row = back.each_row;
      dealt = returned-rows doors c.args.number (length c.args.rows.now) c.args.rows.now c.passes_of.new.rows c.in_ok-passes.passes refl back;
      more = c.in_ok-account.account.left;
      gone = all_stolen c.in_ok-passes.passes;
      account = c.account_laws.ensures (owner_view c.args.owner).pushed (owner_view c.args.owner).popped (stolen_by c.in_ok-passes.passes)
          c.in_ok-account.account.left c.in_ok-account.ensures;
      left = c.in_ok-add_all.ensures;
      stolen = back.stolen;
    }
