use Rattle.search_node.proofs.EvenLaws.{lowest}
use Rattle.search_node.proofs.halves.first_entry.Goals as goal

pub loop-v-init : goal.loop-v-init
loop-v-init c =
    let found = lowest c.args.set c.requires c.ranges.set.fits in
    record { small = found.0; member = found.1 }
