use Rattle.plant_text.proofs.TextLaws.{read_back}
use Rattle.plant_text.proofs.print.print_plant.Goals as goal

pub returns-clause-reads_back : goal.returns-clause-reads_back
returns-clause-reads_back c =
    rw (c.in_ok-write_plant.ensures, c.new-out.ensures.items, c.as_parts.ensures) (read_back c.args.plant.now c.sound.ensures.no_fault c.sound.ensures.seen)
