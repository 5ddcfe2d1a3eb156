use Rattle.search_core.proofs.RunLaws.{split-known}
use Rattle.search_core.proofs.SizeLaws.{small-counter, small-ticket}
use Rattle.search_core.proofs.machine.Machine.apply.Goals as goal

pub draw-requires-clause-small : goal.draw-requires-clause-small
draw-requires-clause-small c = small-counter c.args.self.now c.requires.good

pub split-requires-clause-small : goal.split-requires-clause-small
split-requires-clause-small c =
    small-ticket c.args.self.now c.requires.good c.in-Split.w (split-known c.args.self.now _ _ _ c.in-Split.is c.requires.can)
