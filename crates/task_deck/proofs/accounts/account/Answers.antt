use Rattle.std.proofs.Common.{ap, ◌∙◌}
use Rattle.crossbeam_deque.specs.Handles.{worker_view}
use Rattle.task_deck.specs.declared.hand.Hand.{Hand}
use Rattle.task_deck.specs.inside.Hands.{with_taken}
use Rattle.task_deck.proofs.ReturnLaws.{pass-of, account-of}
use Rattle.task_deck.proofs.accounts.account.Goals as goal

pub take_back_all-requires-clause-of : goal.take_back_all-requires-clause-of
take_back_all-requires-clause-of c = pass-of _ 0 c.args.passes c.requires.passes

pub returns : goal.returns
returns c =
    account-of _ (worker_view c.args.owner.deque) _ c.args.passes c.drain.new.left
    (c.in_ok-drain.ensures.left ∙ ap (λ (h : Hand). with_taken h c.drain.new.left) c.take_back_all.ensures.known)
    c.in_ok-drain.ensures.all c.requires.passes c.requires.all
