-- What the checker keeps of the nodes that it has met.
use Rattle.std.specs.Prelude.{◌≡◌, ℕ, ◌+◌, ◌*◌, ◌<◌, ◌≤◌, false, ℤ, List, ◌∷◌, length, slice_index_or, Option, Some, None, IfSome, Result, Ok, Err, ⊤}
use Rattle.item_lists.specs.Faults.{first_of}
use Rattle.limits.specs.declared.TheConstants.{MOST_CUTS, MOST_SLOTS}
use Rattle.plant_model.specs.declared.parts.Parts.{Parts}
use Rattle.slot_box.specs.declared.node.Node.{Node}
use Rattle.slot_box.specs.declared.slot.Slot.{Slot}
use Rattle.slot_box.specs.declared.split.Split.{Split}
use Rattle.leaf_value.specs.Settings.{Setting}
use Rattle.dossier_text.specs.declared.dossier.Dossier.{Dossier}
use Rattle.dossier_check.specs.declared.met.Met.{Met}
use Rattle.dossier_check.specs.declared.verdict.Reason.{Reason}
use Rattle.dossier_check.specs.declared.verdict.Refusal.{Refusal}
use Rattle.dossier_check.specs.declared.verdict.Refusal.TheVariants.{First, Memory}
use Rattle.dossier_check.specs.Frames.{setting_of}
use Rattle.dossier_check.specs.Earlier.{Holder, is_held, box_of, with_node}
use Rattle.dossier_check.specs.NodeReasons.{inner_reasons, node_reasons, node_value}

-- the last line in which node 0 may stand: below the other lines, those of a plan and those of the cuts
abbrev pub LAST_FIRST_LINE : ℕ
LAST_FIRST_LINE = 10 + MOST_SLOTS + MOST_CUTS

-- which of the first t tickets are held, and the box of each node from an id on that has one already
pub record Keeps (root : List Slot) (t : ℕ) (earlier : List Holder) (id : ℕ) (met : Met) : Type 0 where
  pub tickets : length met.held.items ≡ t
  pub nodes : length met.waiting.items ≡ 2 * t + 1
  pub held : (ticket : ℕ) → ticket < t → slice_index_or met.held.items ticket false ≡ is_held ticket earlier
  pub waiting : (k : ℕ) → id ≤ k → k < 2 * t + 1
      → slice_index_or met.waiting.items k None ≡ box_of root earlier k

-- each box that waits has so many slots
abbrev pub IsSized : ℕ → Met → Type 0
IsSized n met = (k : ℕ) → IfSome (slice_index_or met.waiting.items k None) (λ box. length box ≡ n)

-- an inner node was met, and is kept
abbrev pub KeepsWith : List Slot → ℕ → List Holder → ℕ → List Slot → ℕ → Split → Met → Type 0
KeepsWith root t earlier id box ticket split kept =
    Keeps root t (record { ticket = ticket; box = box; split = split } ∷ earlier) id kept

-- what comes of meeting an inner node over its box: it is kept, or the first that stands against it, or memory ran out
abbrev pub MeetsInner : {X : Type 0} → List Slot → ℕ → List Holder → ℕ → ℕ → List Slot → ℕ → Split → Met
    → Result X Refusal → Type 0
MeetsInner root t earlier id line box ticket split kept (Ok _) =
    (first_of (inner_reasons t earlier line box ticket split) ≡ None)
    × KeepsWith root t earlier id box ticket split kept
MeetsInner root t earlier id line box ticket split kept (Err (First found)) =
    first_of (inner_reasons t earlier line box ticket split) ≡ Some found
MeetsInner root t earlier id line box ticket split kept (Err Memory) = ⊤

-- what a pass over the nodes is about: the setting, the number of inner nodes, the line of node 0, and the root box
pub record Pass : Type 0 where
  pub setting : Setting
  pub nodes : ℕ
  pub first : ℕ
  pub root : List Slot

-- that over the nodes of a dossier
abbrev pub pass_of : Parts → Dossier → ℕ → List Slot → Pass
pass_of parts dossier first root =
    record { setting = setting_of parts dossier; nodes = dossier.nodes; first = first; root = root }

-- what stands against a node, where those inner nodes were met before
abbrev pub reasons_at : Pass → List Holder → ℕ → Node → List Reason
reasons_at pass earlier id node =
    node_reasons pass.setting pass.nodes earlier (pass.first + id) (box_of pass.root earlier id) node

-- a node was met against which nothing stands: its value, and what is kept now
pub record IsMet (pass : Pass) (earlier : List Holder) (id : ℕ) (node : Node) (kept : Met) (value : Option ℤ)
    : Type 0 where
  pub clean : first_of (reasons_at pass earlier id node) ≡ None
  pub gives : value ≡ node_value pass.setting (box_of pass.root earlier id) node
  pub keeps : Keeps pass.root pass.nodes (with_node earlier (box_of pass.root earlier id) node) (id + 1) kept

-- what comes of meeting a node: its value, or the first that stands against it, or memory ran out
abbrev pub Meets : Pass → List Holder → ℕ → Node → Met → Result (Option ℤ) Refusal → Type 0
Meets pass earlier id node kept (Ok value) = IsMet pass earlier id node kept value
Meets pass earlier id node kept (Err (First found)) =
    first_of (reasons_at pass earlier id node) ≡ Some found
Meets pass earlier id node kept (Err Memory) = ⊤
