use Rattle.task_deck.proofs.AccountLaws.{accounts-add_up}
use Rattle.task_deck.proofs.accounts.account_laws.Goals as goal

pub returns : goal.returns
returns c = accounts-add_up
