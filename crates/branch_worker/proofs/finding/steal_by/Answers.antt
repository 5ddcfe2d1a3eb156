use Rattle.std.proofs.Common.{◌≡◌, ◌⊎◌, ◌<◌, ◌≤◌, ◌+◌, inl, inr, sym, subst, arith}
use Rattle.std.specs.Prelude.{slice_index_or}
use Rattle.task_deck.specs.declared.ends.Door.{Door}
use Rattle.task_deck.specs.Decks.{IsPassOfDeck, deck_behind}
use Rattle.branch_worker.proofs.FindLaws.{leads-to}
use Rattle.branch_worker.proofs.finding.steal_by.Goals.{then-place-number, else-place-number}
use Rattle.branch_worker.proofs.finding.steal_by.Goals as goal

pub steal-requires : goal.steal-requires
steal-requires g c =
    let began = c.requires.0 in
    let working = c.requires.1.0 in
    let less = c.requires.1.1 in
    let door = c.index-doors-door.result in
    let is : door ≡ slice_index_or c.args.site.now.doors.now c.if-place-number.door door = rw c.as_slice-doors.ensures at c.index-doors-door.is in
    let which : ((c.args.place < c.args.number) × (c.if-place-number.door ≡ c.args.place))
    ⊎ ((c.args.number ≤ c.args.place) × (c.if-place-number.door ≡ c.args.place + 1)) = elim c.if-place-number.branch [
      | then-place-number w ↦ (let less = w.if-place-number in let same = w.door-is in inl (omega (arith, less), omega (arith, same)))
      | else-place-number w ↦ (let most = w.if-place-number in let same = w.door-is in inr (omega (arith, most), omega (arith, same)))
    ] in (
      working,
      (
        began.deck,
        (
          less,
          λ pass. subst (λ (d : Door). IsPassOfDeck (deck_behind d) (slice_index_or c.args.worker.now.passes c.args.place pass)) (sym is)
              (leads-to c.args.number c.args.place c.if-place-number.door c.args.site.now.doors.now g.start.passes c.args.worker.now.passes door pass began.passes
              working.tasks.passes less which),
        ),
      ),
    )
