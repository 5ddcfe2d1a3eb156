-- Sums over the operations of a word, by their numbers.
use Rattle.std.proofs.Common.{◌≡◌, ℕ, ◌-◌, ◌<◌, inl, inr, Bool, true, false, ◌&&◌, if◌then◌else◌, List, length, sum, refl, sym, ap, ◌∙◌}
use Rattle.std.proofs.lemmas.Bool.{cases_eq, eq-eqb, ne_eqb, lt-ltb}
use Rattle.number_laws.proofs.SumLaws.{sum_by-below, sum_below-same}
use Rattle.plant_model.specs.declared.parts.Parts.{Parts}
use Rattle.plant_model.specs.declared.details.PlaceKind.TheVariants.{Charging}
use Rattle.plant_model.specs.Parts.{op_of, place_of}
use Rattle.plant_model.specs.Relations.{is_charge}
use Rattle.plant_model.specs.Sound.{SoundPlant}
use Rattle.plant_model.proofs.RelationLaws.{charge-from}
use Rattle.replay_core.specs.declared.timed.Timed.{Timed}
use Rattle.replay_core.specs.Counts.{charges_unit, charges_from, charges_of, minutes_of, charged_of}
use Rattle.replay_core.specs.Steps.{no_step, step_at, draw_in}
use Rattle.word_flows.specs.Runs.{IsRun}
use Rattle.word_flows.specs.Flows.{draws_from}
use Rattle.word_flows.specs.Sums.{CountsAreSumsOfSteps, ChargesAreDrawn}
use Rattle.word_flows.proofs.RunLaws.{soundly}
use Rattle.word_flows.proofs.StepLaws.{runs_draw_volumes}

pub counts_are_sums : (parts : Parts) → CountsAreSumsOfSteps parts
unfolding charges_of minutes_of charged_of
counts_are_sums parts word p = record {
  charges = sum_by-below (λ (t : Timed). if charges_unit parts p t then 1 else 0) word no_step;
  minutes = sum_by-below (λ (t : Timed). if charges_unit parts p t then t.end - t.start else 0) word no_step;
  charged = sum_by-below (λ (t : Timed). if charges_from parts p t then t.volume else 0) word no_step;
}

-- ---- what is drawn from a charging tank

and-false : (a : Bool) → (a && false) ≡ false
and-false true = refl
and-false false = refl

charged-is_drawn : (parts : Parts) (word : List Timed) (p k : ℕ) → SoundPlant parts → IsRun parts word → (place_of parts p).kind ≡ Charging →
    k < length word → (if charges_from parts p (step_at word k) then (step_at word k).volume else 0)
    ≡ (if draws_from parts word p k then sum (draw_in parts word k) else 0)
charged-is_drawn parts word p k sound run is there =
    let op = op_of parts (step_at word k).op in
    let volume = runs_draw_volumes parts sound word k run there in
    elim (cases_eq op.from p) [
      | inl source ↦
          let route = (soundly parts word k sound run there).sound.route in
          let charge = charge-from op.kind (place_of parts op.from).kind (place_of parts op.to).kind route
          (ap (λ (q : ℕ). (place_of parts q).kind) source ∙ is) in
          rw (lt-ltb k (length word) there, eq-eqb op.from p source, charge) (sym volume)
      | inr other ↦ rw (lt-ltb k (length word) there, ne_eqb op.from p other, and-false (is_charge op.kind)) refl
    ]

pub charges_are_drawn : (parts : Parts) → SoundPlant parts → ChargesAreDrawn parts
charges_are_drawn parts sound word p run is =
    (counts_are_sums parts word p).charged
    ∙ sum_below-same (length word)
    (λ k. if charges_from parts p (step_at word k) then (step_at word k).volume else 0)
    (λ k. if draws_from parts word p k then sum (draw_in parts word k) else 0)
    (λ k there. charged-is_drawn parts word p k sound run is there)
