-- Two operations of a run.
use Rattle.std.proofs.Common.{◌≡◌, ℕ, ◌<◌, ◌≤◌, inl, inr, true, false, List, length, take, subst, arith}
use Rattle.std.specs.Prelude.{not, ◌||◌, nat_le}
use Rattle.std.proofs.lemmas.List.{get_or-take, length-take-le}
use Rattle.std.proofs.lemmas.Bool.{cases_lt, leb-true, lt-ltb}
use Rattle.item_lists.proofs.ListLaws.{each_passes}
use Rattle.plant_model.specs.declared.parts.Parts.{Parts}
use Rattle.plant_model.specs.Parts.{op_of}
use Rattle.plant_model.specs.Relations.{share_berth, refused_at_once_of}
use Rattle.replay_core.specs.declared.timed.Timed.{Timed}
use Rattle.replay_core.specs.Rules.{waits_for_others, unloads_later_vessel, keeps_vessel_order}
use Rattle.replay_core.specs.Steps.{no_step, step_at}
use Rattle.word_flows.specs.Pairs.{RunsWait, VesselsTakeTurns}
use Rattle.word_flows.proofs.RunLaws.{places_kept}

-- an operation that runs before another stands at the same place among those that have run before it
step-before : (word : List Timed) (i k : ℕ) → i < k → step_at (take k word) i ≡ step_at word i
step-before word i k before = get_or-take k word i no_step before

-- ---- waiting

waited : (parts : Parts) (before : List Timed) (t : Timed) (i : ℕ) → waits_for_others parts before t ≡ true → i < length before →
    refused_at_once_of parts (step_at before i).op t.op ≡ true → (step_at before i).end ≤ t.start
unfolding waits_for_others
waited parts before t i waits there refused =
    let passes = each_passes (λ (s : Timed). not (refused_at_once_of parts s.op t.op) || nat_le s.end t.start) before i no_step waits there in
    leb-true (step_at before i).end t.start (rw refused at passes)

pub runs_wait : (parts : Parts) → RunsWait parts
runs_wait parts word i k run before there refused =
    let count = length-take-le k word (omega arith) in
    let t = step_at word k in
    subst (λ (s : Timed). refused_at_once_of parts s.op t.op ≡ true → s.end ≤ t.start) (step-before word i k before)
    (waited parts (take k word) t i (places_kept parts word k run there).waits (omega arith)) refused

-- ---- turns

in_turn : (parts : Parts) (v w : ℕ) → not (unloads_later_vessel parts v w) ≡ true → share_berth parts (op_of parts v) (op_of parts w) ≡ true →
    (op_of parts v).from ≤ (op_of parts w).from
unfolding unloads_later_vessel
in_turn parts v w kept one_berth =
    elim (cases_lt (op_of parts w).from (op_of parts v).from) [
      | inl later ↦
          let passes = rw (one_berth, lt-ltb (op_of parts w).from (op_of parts v).from later) at kept in
          let both : false ≡ true = passes in
          cc
      | inr in_order ↦ in_order
    ]

turns : (parts : Parts) (before : List Timed) (t : Timed) (i : ℕ) → keeps_vessel_order parts before t ≡ true → i < length before →
    share_berth parts (op_of parts (step_at before i).op) (op_of parts t.op) ≡ true → (op_of parts (step_at before i).op).from ≤ (op_of parts t.op).from
unfolding keeps_vessel_order
turns parts before t i keeps there one_berth =
    let passes = each_passes (λ (s : Timed). not (unloads_later_vessel parts s.op t.op)) before i no_step keeps there in
    in_turn parts (step_at before i).op t.op passes one_berth

pub vessels_take_turns : (parts : Parts) → VesselsTakeTurns parts
vessels_take_turns parts word i k run before there one_berth =
    let count = length-take-le k word (omega arith) in
    let t = step_at word k in
    subst (λ (s : Timed). share_berth parts (op_of parts s.op) (op_of parts t.op) ≡ true → (op_of parts s.op).from ≤ (op_of parts t.op).from)
    (step-before word i k before) (turns parts (take k word) t i (places_kept parts word k run there).vessels (omega arith)) one_berth
