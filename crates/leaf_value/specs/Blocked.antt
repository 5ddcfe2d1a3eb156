-- Boxes in which no form is sought, since the operations to which their first slots are fixed begin none.
use Rattle.std.specs.Prelude.{ℕ, ◌-◌, ◌<◌, ◌≤◌, ◌↔◌, Bool, true, ◌&&◌, ◌==◌, not, nat_lt, nat_le, IsTrue, All, List, [], ◌∷◌, take, drop, length}
use Rattle.std.specs.Int.{bit_at}
use Rattle.std.specs.List.{list_all}
use Rattle.overlap_graph.specs.Independence.{independence_of}
use Rattle.plant_model.specs.declared.parts.Parts.{Parts}
use Rattle.plant_model.specs.Parts.{op_count_of}
use Rattle.slot_automaton.specs.Blocked.{next_blocked}
use Rattle.slot_automaton.specs.Normal.{IsFirstRefused}
use Rattle.slot_box.specs.declared.slot.Slot.{Slot}
use Rattle.slot_box.specs.Boxes.{fixed_prefix}
use Rattle.slot_forms.specs.Cases.{Case, begun_count}

-- the operations to which the slots up to this one are fixed, behind those that have begun
abbrev pub fixed_behind : Case → List Slot → ℕ → List ℕ
fixed_behind case box at = drop (begun_count case.begun) (take at (fixed_prefix box))

-- the slots up to this one are fixed to operations of the plant
pub record AreFixed (parts : Parts) (box : List Slot) (at : ℕ) : Type 0 where
  pub fixed : at ≤ length (fixed_prefix box)
  pub known : All (λ op. op < op_count_of parts) (take at (fixed_prefix box))

-- they are, and with the last of them these operations are not normal, though they are without it
pub record IsBlocked (case : Case) (box : List Slot) (at : ℕ) : Type 0 where
  pub fixed : AreFixed case.parts box at
  pub first : IsFirstRefused (independence_of case.parts) (fixed_behind case box at) (at - begun_count case.begun)

-- ---- the test of it

-- the automaton, with these operations blocked, reads the word to its end
abbrev pub reads : List ℕ → ℕ → List ℕ → Bool
reads masks blocked [] = true
reads masks blocked (op ∷ word) = bit_at blocked op == 0 && reads masks (next_blocked masks blocked op) word

-- it reads the operations behind those that have begun, but for the last one
abbrev pub is_blocked : Case → List Slot → ℕ → Bool
is_blocked case box at =
    nat_lt (begun_count case.begun) at && nat_le at (length (fixed_prefix box))
    && list_all (λ op. nat_lt op (op_count_of case.parts)) (take at (fixed_prefix box))
    && reads (independence_of case.parts) 0 (fixed_behind case box (at - 1))
    && not (reads (independence_of case.parts) 0 (fixed_behind case box at))

-- that is the same: a law
abbrev pub BlockedIsTested : Case → Type 0
BlockedIsTested case = (box : List Slot) (at : ℕ) → IsTrue (is_blocked case box at) ↔ IsBlocked case box at
