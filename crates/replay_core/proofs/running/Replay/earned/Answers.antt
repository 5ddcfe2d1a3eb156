use Rattle.std.proofs.Common.{◌≡◌, refl, sym, subst, ◌∙◌, w64, rules}
use Rattle.std.proofs.lemmas.Int.{to_z-of_z}
use Rattle.replay_core.specs.Replayed.{Replayed}
use Rattle.replay_core.specs.Margin.{earned_of}
use Rattle.replay_core.specs.inside.Earnings.{EarnsWithin}
use Rattle.limits.specs.declared.TheConstants.{MOST_STEPS}
use Rattle.replay_core.proofs.MarginLaws.{earns_within-most}
use Rattle.replay_core.proofs.running.Replay.earned.Goals as goal
use mir.Val.{SFits}

pub returns : goal.returns
returns c =
    let fits : SFits w64 c.self.inside.earned = search rules in
    let inside = c.self.inside in
    let is = to_z-of_z w64 inside.earned fits ∙ c.self.invariant.earned in
    record {
      value = is ∙ subst (λ (r : Replayed). earned_of inside.plant.now inside.steps.items ≡ earned_of r.parts r.steps) c.self.view_is refl;
      fits = subst (EarnsWithin MOST_STEPS) (sym is) (earns_within-most inside.plant.now inside.order inside.steps.items c.sound.ensures.plant
          c.self.invariant.can_run c.self.invariant.few);
    }
