use Rattle.word_flows.proofs.RunLaws.{can_run_as_runs, runs_are_in_range}
use Rattle.word_flows.proofs.StepLaws.{runs_meet_rates, runs_draw_volumes, runs_meet_limits}
use Rattle.word_flows.proofs.FlowLaws.{total_is_additive, crude_is_additive, runs_balance, begins_as_given}
use Rattle.word_flows.proofs.LevelLaws.{minimums_are_kept, maximums_are_kept}
use Rattle.word_flows.proofs.PairLaws.{runs_wait, vessels_take_turns}
use Rattle.word_flows.proofs.EndLaws.{legal_words_end_well}
use Rattle.word_flows.proofs.SumLaws.{counts_are_sums, charges_are_drawn}
use Rattle.word_flows.proofs.LastEndLaws.{last_ends_are_reached}
use Rattle.word_flows.proofs.laws.flow_laws.Goals as goal

pub returns : goal.returns
returns c =
    let parts = c.args.plant.now in
    let sound = c.sound.ensures.plant in
    record {
      runs = can_run_as_runs parts;
      ends = legal_words_end_well parts;
      totals = total_is_additive;
      crudes = crude_is_additive;
      balances = runs_balance parts sound;
      given = begins_as_given parts sound;
      minimums = minimums_are_kept parts sound;
      maximums = maximums_are_kept parts sound;
      ranges = runs_are_in_range parts;
      rates = runs_meet_rates parts;
      volumes = runs_draw_volumes parts sound;
      limits = runs_meet_limits parts;
      waits = runs_wait parts;
      turns = vessels_take_turns parts;
      counts = counts_are_sums parts;
      charged = charges_are_drawn parts sound;
      last_ends = last_ends_are_reached parts;
    }
