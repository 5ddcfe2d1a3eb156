use Rattle.slot_box.proofs.LiveLaws.{IsLive-from_live_of, live_of-from_IsLive}
use Rattle.slot_box.proofs.boxes.SlotBox.live.Goals as goal

pub returns-clause-each : goal.returns-clause-each
returns-clause-each c = λ bit.
    let s = c.slot.result in
    rw c.live.ensures (rw (← c.slot.ensures.value) (IsLive-from_live_of s bit, live_of-from_IsLive s bit c.slot.ensures.shape))
