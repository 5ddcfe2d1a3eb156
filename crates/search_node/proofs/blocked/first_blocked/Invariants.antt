use Rattle.search_node.proofs.PrefixLaws.{IsRead}
use Rattle.search_node.proofs.blocked.first_blocked.Given as goal

-- the operations of the slots so far were read
abbrev pub invariant-loop-i : goal.invariant-loop-i
invariant-loop-i l = IsRead l.plant l.bx l.i l.state
