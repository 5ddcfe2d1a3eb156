use Rattle.std.proofs.Common.{◌↔◌, length, subst}
use Rattle.std.specs.Prelude.{IsTrue}
use Rattle.overlap_graph.specs.Independence.{independence_of}
use Rattle.slot_automaton.specs.Normal.{IsFirstRefused}
use Rattle.leaf_value.proofs.BlockedLaws.{blocked_by_first}
use Rattle.leaf_value.proofs.blocked.is_blocked.Goals as goal

pub returns : goal.returns
returns c =
    let found = rw c.in-Some.is at c.in_ok-word.ensures in
    let tells = subst (λ masks. IsTrue c.is_first_refused.result ↔ IsFirstRefused masks c.deref.result.now c.args.at) c.requires c.is_first_refused.ensures in
    blocked_by_first c.args.plant.now (length c.args.bx.now) c.args.bx.now c.args.at c.is_first_refused.result c.in-Some.word.items found.1 found.0
    (subst (λ word. IsTrue c.is_first_refused.result ↔ IsFirstRefused (independence_of c.args.plant.now) word c.args.at) c.deref.ensures.value tells)
