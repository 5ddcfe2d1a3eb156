use Rattle.std.proofs.Common.{◌∙◌, Some, None}
use Rattle.std.specs.BinaryHeap.{heap_items}
use Rattle.std.proofs.lemmas.Option.{slice_get-get_or}
use Rattle.search_gather.proofs.ChoosingLaws.{adds-some, adds-none}
use Rattle.search_gather.proofs.choosing.add_ready.Goals as goal

pub returns-in_ok-push-in-Some-clause-adds : goal.returns-in_ok-push-in-Some-clause-adds
returns-in_ok-push-in-Some-clause-adds c =
    adds-some c.args.held.now c.args.id c.in-Some.ticket (heap_items c.args.ready.now) (heap_items c.push.new.self)
    (slice_get-get_or c.args.held.now c.args.id None c.requires ∙ (λ i. Some (c.in-Some.is i)))
    c.in_ok-push-in-Some.ensures.permutation

pub returns-in-None-clause-adds : goal.returns-in-None-clause-adds
returns-in-None-clause-adds c =
    adds-none c.args.held.now c.args.id (heap_items c.args.ready.now)
    (slice_get-get_or c.args.held.now c.args.id None c.requires ∙ (λ i. Some (c.in-None.is i)))
