use Rattle.plant_maker.proofs.MadeParts.{seen_as_made, no_fault_told}
use Rattle.plant_maker.proofs.making.make.Goals as goal

pub unreachable-requires : goal.unreachable-requires
unreachable-requires c =
    no_fault_told c.new.result _ _ _ c.in_ok-parts.ensures c.in-Err-Fault.field-0-is c.in-Err-Fault.ensures.refusal

pub returns-in-Ok : goal.returns-in-Ok
returns-in-Ok c = seen_as_made c.args.number c.new.result _ _ c.new.ensures c.in_ok-parts.ensures c.in-Ok.ensures.plant
