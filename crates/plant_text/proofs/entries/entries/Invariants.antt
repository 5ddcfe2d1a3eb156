use Rattle.std.proofs.Common.{◌≡◌, drop}
use Rattle.serde_json.specs.View.{items_view}
use Rattle.plant_text.specs.Walk.{entries_from}
use Rattle.plant_text.proofs.Loop.{with_front}
use Rattle.plant_text.proofs.entries.entries.Given as goal

abbrev pub invariant-loop-value : goal.invariant-loop-value
invariant-loop-value g l =
    let reading = g.R.EntryReader.reading l.reader in
    with_front l.parts.items (entries_from reading l.index (items_view (drop l.value-index l.values))) ≡ entries_from reading 1 (items_view l.values)
