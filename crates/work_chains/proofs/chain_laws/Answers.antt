use Rattle.slot_box.specs.Splits.{left_of, right_of}
use Rattle.work_chains.specs.BoxChains.{DividesBox}
use Rattle.work_chains.proofs.ChainLaws.{chains-take, chains-close, chains-divide}
use Rattle.work_chains.proofs.chain_laws.Goals as goal

pub returns : goal.returns
returns c = record {
  takes = chains-take DividesBox left_of right_of;
  closes = chains-close DividesBox left_of right_of;
  divides = chains-divide DividesBox left_of right_of;
}
