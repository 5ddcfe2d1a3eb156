use Rattle.std.proofs.Common.{◌≡◌, [], ◌∷◌, ◌++◌, rules}
use Rattle.team_decks.proofs.AccountLaws.{one-moved}
use Rattle.team_decks.proofs.accounting.add_all.Goals as goal

pub loop-task-preserved : goal.loop-task-preserved
loop-task-preserved c =
    let pushed : c.push.new.self ≡ c.loop-task.left ++ c.in-Some.task ∷ [] = search rules in
    record {
      same = rw pushed
          (one-moved (c.args.left.now ++ c.args.more) c.loop-task.left c.pop.new.self c.in-Some.task (rw c.in-Some.ensures at c.loop-task.invariant.same));
    }
