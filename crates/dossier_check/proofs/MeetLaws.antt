-- One node is met.
use Rattle.std.proofs.Common.{◌≡◌, ℕ, inl, inr, ◌+◌, ◌<◌, Bool, false, ℤ, Option, Some, None, Err, List, [], length, get_or, sym, ap, ◌∙◌, subst}
use Rattle.std.specs.Prelude.{nat_lt, not, ◌&&◌}
use Rattle.std.proofs.lemmas.Bool.{cases_lt, le-ltb, and_left}
use Rattle.item_lists.specs.Faults.{first_of, unless}
use Rattle.item_lists.proofs.FaultLaws.{first_of-front, first_of-back}
use Rattle.slot_box.specs.declared.node.Node.{Node}
use Rattle.slot_box.specs.declared.node.Node.TheVariants.{Inner}
use Rattle.slot_box.specs.declared.slot.Slot.{Slot}
use Rattle.slot_box.specs.declared.split.Split.{Split}
use Rattle.slot_box.specs.Splits.{is_lawful}
use Rattle.dossier_check.specs.declared.met.Met.{Met}
use Rattle.dossier_check.specs.declared.verdict.Reason.{Reason}
use Rattle.dossier_check.specs.declared.verdict.Refusal.{Refusal}
use Rattle.dossier_check.specs.declared.verdict.Refusal.TheVariants.{First, Memory}
use Rattle.dossier_check.specs.Earlier.{Holder, is_held, box_of, with_node}
use Rattle.dossier_check.specs.NodeReasons.{reason, inner_reasons, node_reasons, nodes_reasons, node_value}
use Rattle.dossier_check.specs.inside.Tests.{Tests}
use Rattle.dossier_check.specs.inside.Walks.{Keeps, KeepsWith, MeetsInner, Pass, reasons_at, IsMet, Meets}
use Rattle.dossier_check.proofs.WalkLaws.{IsWalked, walked_stop}

-- ---- inner nodes

-- a ticket is free by what is kept exactly where it is
free_same : (root : List Slot) (t : ℕ) (earlier : List Holder) (id : ℕ) (met : Met) (ticket : ℕ) → Keeps root t earlier id met →
    (nat_lt ticket (length met.held.items) && not (get_or met.held.items ticket false)) ≡ (nat_lt ticket t && not (is_held ticket earlier))
free_same root t earlier id met ticket keeps =
    ap (λ n. nat_lt ticket n && not (get_or met.held.items ticket false)) keeps.tickets ∙ elim (cases_lt ticket t) [
      | inl less ↦ ap (λ b. nat_lt ticket t && not b) (keeps.held ticket less)
      | inr more ↦ and_left _ _ (le-ltb ticket t more) ∙ sym (and_left _ _ (le-ltb ticket t more))
    ]

module _ (root : List Slot) (t : ℕ) (earlier : List Holder) (id : ℕ) (met : Met) (ticket line : ℕ) (box : List Slot) (split : Split) (free : Bool)
    (keeps : Keeps root t earlier id met) (is : free ≡ (nat_lt ticket (length met.held.items) && not (get_or met.held.items ticket false))) where
  same : unless free (reason 4 line) ≡ unless (nat_lt ticket t && not (is_held ticket earlier)) (reason 4 line)
  same = ap (λ b. unless b (reason 4 line)) (is ∙ free_same root t earlier id met ticket keeps)

  -- the ticket is not free
  pub ticket_refused : (found : Reason) → first_of (unless free (reason 4 line)) ≡ Some found →
      first_of (inner_reasons t earlier line box ticket split) ≡ Some found
  unfolding inner_reasons
  ticket_refused found first = first_of-front _ (unless (is_lawful box split) (reason 6 line)) found (ap first_of (sym same) ∙ first)

  -- it is, and so what is left is the split
  after_ticket : first_of (unless free (reason 4 line)) ≡ None →
      first_of (inner_reasons t earlier line box ticket split) ≡ first_of (unless (is_lawful box split) (reason 6 line))
  unfolding inner_reasons
  after_ticket none = first_of-back _ (unless (is_lawful box split) (reason 6 line)) (ap first_of (sym same) ∙ none)

  pub split_refused : (kept : Met) (refusal : Refusal) → first_of (unless free (reason 4 line)) ≡ None →
      Tests {X = List Slot × List Slot} (unless (is_lawful box split) (reason 6 line)) (Err refusal) →
      MeetsInner {X = Unit {0}} root t earlier id line box ticket split kept (Err refusal)
  split_refused kept (First found) none first = after_ticket none ∙ first
  split_refused kept Memory none first = tt

  pub split_passed : first_of (unless free (reason 4 line)) ≡ None → first_of (unless (is_lawful box split) (reason 6 line)) ≡ None →
      first_of (inner_reasons t earlier line box ticket split) ≡ None
  split_passed none clean = after_ticket none ∙ clean

-- ---- nodes

module _ (pass : Pass) (earlier : List Holder) (id : ℕ) (kept : Met) (box : List Slot) (ticket : ℕ) (split : Split) (node : Node)
    (has : box_of pass.root earlier id ≡ Some box)
    (inner : node ≡ Inner ticket split) where
  reasons_here : reasons_at pass earlier id node ≡ inner_reasons pass.nodes earlier (pass.first + id) box ticket split
  reasons_here =
      ap (λ b. node_reasons pass.setting pass.nodes earlier (pass.first + id) b node) has
      ∙ ap (node_reasons pass.setting pass.nodes earlier (pass.first + id) (Some box)) inner

  pub inner_refused : (refusal : Refusal) →
      MeetsInner {X = Unit {0}} pass.root pass.nodes earlier (id + 1) (pass.first + id) box ticket split kept (Err refusal) →
      Meets pass earlier id node kept (Err refusal)
  inner_refused (First found) first = ap first_of reasons_here ∙ first
  inner_refused Memory first = tt

  pub inner_met : first_of (inner_reasons pass.nodes earlier (pass.first + id) box ticket split) ≡ None →
      KeepsWith pass.root pass.nodes earlier (id + 1) box ticket split kept →
      IsMet pass earlier id node kept None
  inner_met none keeps = record {
    clean = ap first_of reasons_here ∙ none;
    gives = sym (ap (λ b. node_value pass.setting b node) has ∙ ap (node_value pass.setting (Some box)) inner);
    keeps = subst (λ holders. Keeps pass.root pass.nodes holders (id + 1) kept)
        (sym (ap (λ b. with_node earlier b node) has ∙ ap (with_node earlier (Some box)) inner)) keeps;
  }

-- ---- the whole tree

pub walk_refused : (pass : Pass) (tree : List Node) (id : ℕ) (met kept : Met) (best : Option ℤ) (node : Node) (refusal : Refusal) → id < length tree →
    node ≡ get_or tree id node →
    (w : IsWalked pass tree id met best) → Meets pass w.earlier id node kept (Err refusal) →
    Tests {X = Option ℤ} (nodes_reasons pass.setting pass.nodes pass.first pass.root [] 0 tree) (Err refusal)
walk_refused pass tree id met kept best node (First found) within is w first = walked_stop pass tree id met best node found within is w first
walk_refused pass tree id met kept best node Memory within is w first = tt
