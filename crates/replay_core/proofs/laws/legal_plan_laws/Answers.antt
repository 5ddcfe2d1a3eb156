use Rattle.replay_core.proofs.PlanLaws.{prefixes_can_run, steps_are_in_range, draws_are_volumes}
use Rattle.replay_core.proofs.MarginLaws.{margin_is_bounded}
use Rattle.replay_core.proofs.laws.legal_plan_laws.Goals as goal

pub returns : goal.returns
returns c = record { prefixes = prefixes_can_run; ranges = steps_are_in_range; draws = draws_are_volumes; margin = margin_is_bounded }
