-- Laws of legal plans.
use Rattle.std.proofs.Common.{◌+◌, ◌∷◌, ◌++◌, length}
use Rattle.std.specs.List.{All}
use Rattle.std.proofs.lemmas.List.Elements.{All-nil, All-push}
use Rattle.plant_model.specs.declared.parts.Parts.{Parts}
use Rattle.plant_model.specs.Sound.{SoundPlant}
use Rattle.replay_core.specs.State.{state_after}
use Rattle.replay_core.specs.Legal.{PrefixesCanRun, DrawsAreVolumes, IsInRange, StepsAreInRange}
use Rattle.replay_core.proofs.StepLaws.{CanRun-front, CanRun-legal, op_faults-accepted, along_accepted}
use Rattle.replay_core.proofs.RuleLaws.{runs_soundly, is_in_range}
use Rattle.replay_core.proofs.StateLaws.{drawn-volume}

pub prefixes_can_run : (parts : Parts) → PrefixesCanRun parts
prefixes_can_run parts order front back legal = CanRun-front parts order front back (CanRun-legal parts order (front ++ back) legal)

pub draws_are_volumes : (parts : Parts) → SoundPlant parts → DrawsAreVolumes parts
draws_are_volumes parts sound order before t later legal =
    let none = op_faults-accepted parts order before t later (CanRun-legal parts order (before ++ t ∷ later) legal) in
    drawn-volume parts (state_after parts before) t (runs_soundly parts order before t (length before + 1) sound none)

pub steps_are_in_range : (parts : Parts) → StepsAreInRange parts
steps_are_in_range parts order plan legal =
    along_accepted parts order (All (IsInRange parts))
    (All-nil (IsInRange parts))
    (λ before t so_far within none. All-push (IsInRange parts) before t within (is_in_range parts order before t (length before + 1) none))
    plan (CanRun-legal parts order plan legal)
